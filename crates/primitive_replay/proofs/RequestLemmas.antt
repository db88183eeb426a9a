-- The text of a Notify is that of its members, one after another.
use Rattle.std.proofs.Common.{◌≡◌, ℕ, ◌+◌, List, [], ◌∷◌, ◌++◌, codes, false, Option, Some, None, option_map, refl, sym, ap, ◌∙◌, arith, append_assoc, append-nil}
use Rattle.std.specs.Prelude.{◌==◌}
use Rattle.std.proofs.lemmas.Bool.Decides.{nat_tests}
use Rattle.std.proofs.lemmas.Grind.{flat_map-append}
use Rattle.m2m_names.specs.declared.operations.Op.TheVariants.{Notify}
use Rattle.m2m_value.specs.Data.{Data, text, pairs_of}
use Rattle.m2m_value.specs.Spelling.{comma_at, pairs_from, quoted, text_of}
use Rattle.filter_criteria.specs.Values.{NamedValue, object_of, present}
use Rattle.primitive_json.specs.Writing.{expiry_data, written_request}
use Rattle.primitive_json.specs.declared.request.RequestParts.{RequestParts}
use Rattle.primitive_replay.specs.Requests.{back_rows, front_rows, head_of, target_text, with_comma, with_commas}

comma_later : (place : ℕ) → comma_at (place + 1) ≡ 44 ∷ []
comma_later place = rw (more place) refl
  where
    more : (k : ℕ) → (k + 1 == 0) ≡ false
    more k = grind (arith, nat_tests)

joined : (q t ms l : List ℕ) → q ++ 58 ∷ (t ++ 44 ∷ (ms ++ l)) ≡ (((q ++ 58 ∷ []) ++ (t ++ 44 ∷ [])) ++ ms) ++ l
joined q t ms l = simp append_assoc

-- the last member has no comma behind it
before_last : (rows : List NamedValue) (name : List ℕ) (d : Data) (place : ℕ) → pairs_from (pairs_of (present (rows ++ (name, Some d) ∷ []))) place ≡ comma_at place ++ (with_commas rows ++ (head_of name ++ text_of d))
before_last [] name d place = simp (append_assoc, append-nil)
before_last ((key, None) ∷ rows) name d place = before_last rows name d place
before_last ((key, Some v) ∷ rows) name d place =
    rw (before_last rows name d (place + 1)) (rw (comma_later place)
    (ap (λ (xs : List ℕ). comma_at place ++ xs) (joined (quoted key) (text_of v) (with_commas rows) (head_of name ++ text_of d))))

-- so is the object that a Notify is written as
abbrev rows_of : RequestParts → List NamedValue
rows_of r = front_rows r.drt r.fr r.op r.pc ++ back_rows r.rcn (option_map expiry_data r.rqet) r.rqi r.rt

notify_text : (r : RequestParts) → r.op ≡ Notify → text_of (written_request r) ≡ 123 ∷ ((with_commas (rows_of r) ++ target_text r.to) ++ 125 ∷ [])
notify_text r is =
    let same : written_request r ≡ object_of (rows_of r ++ (codes "to", Some (text r.to)) ∷ []) = rw is refl in
    ap text_of same ∙ ap (λ (xs : List ℕ). 123 ∷ (xs ++ 125 ∷ [])) (before_last (rows_of r) (codes "to") (text r.to) 0)

braced : (old f k t : List ℕ) → ((((old ++ 123 ∷ []) ++ f) ++ k) ++ t) ++ 125 ∷ [] ≡ old ++ 123 ∷ (((f ++ k) ++ t) ++ 125 ∷ [])
braced old f k t = simp append_assoc

-- and so is what is written of it
pub notify_written : (r : RequestParts) (rqet : Option Data) (old a b c d new : List ℕ) → r.op ≡ Notify → rqet ≡ option_map expiry_data r.rqet → a ≡ old ++ 123 ∷ [] → b ≡ a ++ with_commas (front_rows r.drt r.fr r.op r.pc) → c ≡ b ++ with_commas (back_rows r.rcn rqet r.rqi r.rt) → d ≡ c ++ target_text r.to → new ≡ d ++ 125 ∷ [] → new ≡ old ++ text_of (written_request r)
notify_written r rqet old a b c d new is time first front back target last =
    let f : List ℕ = with_commas (front_rows r.drt r.fr r.op r.pc) in
    let k : List ℕ = with_commas (back_rows r.rcn (option_map expiry_data r.rqet) r.rqi r.rt) in
    let behind : c ≡ b ++ k = back ∙ ap (λ (o : Option Data). b ++ with_commas (back_rows r.rcn o r.rqi r.rt)) time in
    last
    ∙ ap (λ (xs : List ℕ). xs ++ 125 ∷ []) (target
    ∙ ap (λ (xs : List ℕ). xs ++ target_text r.to) (behind
    ∙ ap (λ (xs : List ℕ). xs ++ k) (front ∙ ap (λ (xs : List ℕ). xs ++ f) first)))
    ∙ braced old f k (target_text r.to)
    ∙ ap (λ (xs : List ℕ). old ++ 123 ∷ ((xs ++ target_text r.to) ++ 125 ∷ [])) (sym (flat_map-append with_comma (front_rows r.drt r.fr r.op r.pc) (back_rows r.rcn (option_map expiry_data r.rqet) r.rqi r.rt)))
    ∙ ap (λ (xs : List ℕ). old ++ xs) (sym (notify_text r is))
