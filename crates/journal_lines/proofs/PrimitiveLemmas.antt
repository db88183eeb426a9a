-- What is written of a request that can be kept: its text, one member after another, that it is
-- sound, and how deep it is.
use Rattle.std.proofs.Common.{◌≡◌, ℕ, ℤ, suc, ◌+◌, max, nat_le, List, [], ◌∷◌, ◌++◌, codes, Bool, true, false, ◌&&◌, Option, Some, None, is_none, option_map, IfSome, IsUtf8, inl, inr, refl, sym, ap, subst, ◌∙◌, arith, append_assoc, append-nil}
use Rattle.std.specs.Prelude.{◌==◌}
use Rattle.std.specs.Option.{option_map_or}
use Rattle.std.proofs.lemmas.Bool.{and_parts, cases_Bool}
use Rattle.std.proofs.lemmas.Bool.Decides.{nat_tests}
use Rattle.std.proofs.lemmas.Grind.{flat_map-append}
use Rattle.m2m_names.specs.Name.{is_filled, is_originator}
use Rattle.m2m_value.specs.Data.{Data, number, text, depth, pairs_of, pairs_depth}
use Rattle.m2m_value.specs.Reading.{reading_depth}
use Rattle.m2m_value.specs.Sound.{IsSound, HaveSound}
use Rattle.m2m_value.specs.Spelling.{comma_at, pairs_from, quoted, text_of}
use Rattle.m2m_value.proofs.Levels.{sound_object}
use Rattle.filter_criteria.specs.Values.{NamedValue, count_data, object_of, present}
use Rattle.filter_criteria.specs.Writing.{written_filter}
use Rattle.filter_criteria.specs.declared.filter.FilterParts.{FilterParts}
use Rattle.filter_criteria.proofs.Present.{present_sorted, present_texts}
use Rattle.primitive_json.specs.Form.{has_form, has_no_more, is_only_read}
use Rattle.primitive_json.specs.Kinds.{target_limit}
use Rattle.primitive_json.specs.Members.{creates, has_content, has_result, retrieves}
use Rattle.primitive_json.specs.Writing.{content_value, expiry_data, filter_value, only_where, type_value, written_request}
use Rattle.primitive_json.specs.declared.request.RequestParts.{RequestParts}
use Rattle.primitive_json.specs.declared.request.When.{When}
use Rattle.journal_lines.specs.Keeping.{can_be_kept, is_of_kinds, is_shallow, is_short_when}
use Rattle.journal_lines.specs.Primitive.{AreSoundRows, back_rows, front_rows, head_of, operation_data, target_text, type_data, type_text, with_comma, with_commas}
use Rattle.journal_lines.proofs.DepthLemmas.{depth_down}

-- ---- the members that are there

abbrev rows_of : RequestParts → List NamedValue
rows_of r = (front_rows r ++ back_rows r) ++ (codes "to", Some (text r.to)) ∷ (codes "ty", type_data r) ∷ []

-- all members, with these at `fc`, `pc` and `ty`
abbrev full_rows : Option Data → Option Data → Option Data → RequestParts → List NamedValue
full_rows fc pc ty r =
    (codes "drt", option_map number r.drt) ∷ (codes "fc", fc) ∷
    (codes "fr", option_map text r.fr) ∷ (codes "op", Some (operation_data r.op)) ∷
    (codes "pc", pc) ∷ (codes "rcn", option_map number r.rcn) ∷
    (codes "rqet", option_map expiry_data r.rqet) ∷ (codes "rqi", Some (text r.rqi)) ∷
    (codes "rt", option_map number r.rt) ∷ (codes "to", Some (text r.to)) ∷ (codes "ty", ty) ∷ []

fc_none : (o : Option FilterParts) → is_none o ≡ true → o ≡ None
fc_none None none = refl
fc_none (Some f) none = absurd cc

only_none : (b : Bool) (o : Option Data) → o ≡ None → only_where b o ≡ None
only_none true o none = none
only_none false o none = refl

only_read : (b : Bool) (o : Option Data) → is_only_read b o ≡ true → only_where b o ≡ o
only_read true o read = refl
only_read false None read = refl
only_read false (Some d) read = absurd cc

only_type : (b : Bool) (o : Option ℕ) → is_only_read b o ≡ true → only_where b (option_map count_data o) ≡ option_map count_data o
only_type true o read = refl
only_type false None read = refl
only_type false (Some n) read = absurd cc

-- it has no filter, and no member that its operation doesn't read
no_filter : (r : RequestParts) → is_of_kinds r ≡ true → filter_value r ≡ None
no_filter r kept =
    let parts = and_parts (has_form r && has_no_more r && is_filled target_limit r.to && option_map_or is_originator r.fr true && option_map_or is_short_when r.rqet true) (is_none r.fc) kept in
    only_none (retrieves r.op) (option_map written_filter r.fc) (ap (λ (o : Option FilterParts). option_map written_filter o) (fc_none r.fc parts.1))

no_more : (r : RequestParts) → is_of_kinds r ≡ true → has_no_more r ≡ true
no_more r kept =
    let o1 = option_map_or is_originator r.fr true in
    let o2 = option_map_or is_short_when r.rqet true in
    let f = and_parts (has_form r && has_no_more r && is_filled target_limit r.to && o1 && o2) (is_none r.fc) kept in
    let e = and_parts (has_form r && has_no_more r && is_filled target_limit r.to && o1) o2 f.0 in
    let d = and_parts (has_form r && has_no_more r && is_filled target_limit r.to) o1 e.0 in
    let c = and_parts (has_form r && has_no_more r) (is_filled target_limit r.to) d.0 in
    (and_parts (has_form r) (has_no_more r) c.0).1

kept_rows : (r : RequestParts) → is_of_kinds r ≡ true → written_request r ≡ object_of (rows_of r)
kept_rows r kept =
    let m = and_parts (is_only_read (creates r.op) r.ty && is_only_read (has_content r.op) r.pc) (is_only_read (has_result r.op) r.rcn) (no_more r kept) in
    let n = and_parts (is_only_read (creates r.op) r.ty) (is_only_read (has_content r.op) r.pc) m.0 in
    ap (λ (o : Option Data). object_of (full_rows o (content_value r) (type_value r) r)) (no_filter r kept)
    ∙ ap (λ (o : Option Data). object_of (full_rows None o (type_value r) r)) (only_read (has_content r.op) r.pc n.1)
    ∙ ap (λ (o : Option Data). object_of (full_rows None r.pc o r)) (only_type (creates r.op) r.ty n.0)

-- ---- their text

comma_later : (place : ℕ) → comma_at (place + 1) ≡ 44 ∷ []
comma_later place = rw (more place) refl
  where
    more : (k : ℕ) → (k + 1 == 0) ≡ false
    more k = grind (arith, nat_tests)

joined : (q t ms l : List ℕ) → q ++ 58 ∷ (t ++ 44 ∷ (ms ++ l)) ≡ (((q ++ 58 ∷ []) ++ (t ++ 44 ∷ [])) ++ ms) ++ l
joined q t ms l = simp append_assoc

-- the last one, where it is there, has a comma before it
type_from : (v : Option Data) (place : ℕ) → pairs_from (pairs_of (present ((codes "ty", v) ∷ []))) (place + 1) ≡ type_text v
type_from None place = refl
type_from (Some d) place =
    ap (λ (c : List ℕ). c ++ (quoted (codes "ty") ++ 58 ∷ (text_of d ++ []))) (comma_later place)
    ∙ ap (λ (l : List ℕ). 44 ∷ (quoted (codes "ty") ++ 58 ∷ l)) (append-nil (text_of d))
    ∙ ap (λ (l : List ℕ). 44 ∷ l) (sym (append_assoc (quoted (codes "ty")) (58 ∷ []) (text_of d)))

-- the one before it has no comma behind it
before_type : (rows : List NamedValue) (name : List ℕ) (d : Data) (v : Option Data) (place : ℕ)
    → pairs_from (pairs_of (present (rows ++ (name, Some d) ∷ (codes "ty", v) ∷ []))) place
    ≡ comma_at place ++ (with_commas rows ++ (head_of name ++ (text_of d ++ type_text v)))
before_type [] name d v place =
    ap (λ (l : List ℕ). comma_at place ++ (quoted name ++ 58 ∷ (text_of d ++ l))) (type_from v place)
    ∙ ap (λ (l : List ℕ). comma_at place ++ l) (sym (append_assoc (quoted name) (58 ∷ []) (text_of d ++ type_text v)))
before_type ((key, None) ∷ rows) name d v place = before_type rows name d v place
before_type ((key, Some w) ∷ rows) name d v place =
    rw (before_type rows name d v (place + 1)) (rw (comma_later place)
    (ap (λ (xs : List ℕ). comma_at place ++ xs) (joined (quoted key) (text_of w) (with_commas rows) (head_of name ++ (text_of d ++ type_text v)))))

kept_text : (r : RequestParts) → is_of_kinds r ≡ true
    → text_of (written_request r) ≡ 123 ∷ ((with_commas (front_rows r ++ back_rows r) ++ (target_text r.to ++ type_text (type_data r))) ++ 125 ∷ [])
kept_text r kept =
    ap text_of (kept_rows r kept)
    ∙ ap (λ (xs : List ℕ). 123 ∷ (xs ++ 125 ∷ [])) (before_type (front_rows r ++ back_rows r) (codes "to") (text r.to) (type_data r) 0)
    ∙ ap (λ (xs : List ℕ). 123 ∷ ((with_commas (front_rows r ++ back_rows r) ++ xs) ++ 125 ∷ [])) (sym (append_assoc (head_of (codes "to")) (text_of (text r.to)) (type_text (type_data r))))

braced : (old f k t y : List ℕ) → (((((old ++ 123 ∷ []) ++ f) ++ k) ++ t) ++ y) ++ 125 ∷ [] ≡ old ++ 123 ∷ (((f ++ k) ++ (t ++ y)) ++ 125 ∷ [])
braced old f k t y = simp append_assoc

-- and so is what is written of it
pub primitive_written : (r : RequestParts) (old a b c d e new : List ℕ) → is_of_kinds r ≡ true
    → a ≡ old ++ 123 ∷ [] → b ≡ a ++ with_commas (front_rows r) → c ≡ b ++ with_commas (back_rows r)
    → d ≡ c ++ target_text r.to → e ≡ d ++ type_text (type_data r) → new ≡ e ++ 125 ∷ []
    → new ≡ old ++ text_of (written_request r)
primitive_written r old a b c d e new kept first front back target kind last =
    let f : List ℕ = with_commas (front_rows r) in
    let k : List ℕ = with_commas (back_rows r) in
    let t : List ℕ = target_text r.to in
    let y : List ℕ = type_text (type_data r) in
    last
    ∙ ap (λ (xs : List ℕ). xs ++ 125 ∷ []) (kind
    ∙ ap (λ (xs : List ℕ). xs ++ y) (target
    ∙ ap (λ (xs : List ℕ). xs ++ t) (back
    ∙ ap (λ (xs : List ℕ). xs ++ k) (front ∙ ap (λ (xs : List ℕ). xs ++ f) first))))
    ∙ braced old f k t y
    ∙ ap (λ (xs : List ℕ). old ++ 123 ∷ ((xs ++ (t ++ y)) ++ 125 ∷ [])) (sym (flat_map-append with_comma (front_rows r) (back_rows r)))
    ∙ ap (λ (xs : List ℕ). old ++ xs) (sym (kept_text r kept))

-- ---- it is sound

pub text_sound : (o : Option (List ℕ)) → IfSome o IsUtf8 → IfSome (option_map text o) IsSound
text_sound None utf8 = tt
text_sound (Some s) utf8 = utf8

sound_append : (xs ys : List NamedValue) → AreSoundRows xs → AreSoundRows ys → AreSoundRows (xs ++ ys)
sound_append [] ys first second = second
sound_append (row ∷ xs) ys first second = (first.0, sound_append xs ys first.1 second)

have_sound : (rows : List NamedValue) → AreSoundRows rows → HaveSound (pairs_of (present rows))
have_sound [] sound = tt
have_sound ((key, None) ∷ rows) sound = have_sound rows sound.1
have_sound ((key, Some d) ∷ rows) sound = (sound.0, have_sound rows sound.1)

pub primitive_sound : (r : RequestParts) → is_of_kinds r ≡ true → IsUtf8 r.to
    → AreSoundRows (front_rows r) → AreSoundRows (back_rows r) → IfSome (type_data r) IsSound → IsSound (written_request r)
primitive_sound r kept to front back kind =
    let last : AreSoundRows ((codes "to", Some (text r.to)) ∷ (codes "ty", type_data r) ∷ []) = (to, (kind, tt)) in
    let all : AreSoundRows (rows_of r) = sound_append (front_rows r ++ back_rows r) ((codes "to", Some (text r.to)) ∷ (codes "ty", type_data r) ∷ []) (sound_append (front_rows r) (back_rows r) front back) last in
    subst IsSound (sym (kept_rows r kept))
    (sound_object (present (rows_of r)) (present_sorted (rows_of r) refl) (present_texts (rows_of r) refl) (have_sound (rows_of r) all))

-- ---- how deep it is

abbrev option_depth : Option Data → ℕ
option_depth None = 0
option_depth (Some d) = depth d

max_flat : (n x : ℕ) → n ≡ 0 → max n x ≡ x
max_flat n x flat = grind (arith, nat_tests)

max_last : (n : ℕ) → max n 0 ≡ n
max_last n = grind (arith, nat_tests)

-- a value that is no list and no object doesn't count
skip : (k : List ℕ) (v : Option Data) (rows : List NamedValue) → option_depth v ≡ 0
    → pairs_depth (pairs_of (present ((k, v) ∷ rows))) ≡ pairs_depth (pairs_of (present rows))
skip k None rows flat = refl
skip k (Some d) rows flat = max_flat (depth d) (pairs_depth (pairs_of (present rows))) flat

keep : (k : List ℕ) (v : Option Data) (rows : List NamedValue)
    → pairs_depth (pairs_of (present ((k, v) ∷ rows))) ≡ max (option_depth v) (pairs_depth (pairs_of (present rows)))
keep k None rows = sym (max_flat 0 (pairs_depth (pairs_of (present rows))) refl)
keep k (Some d) rows = refl

flat_number : (o : Option ℤ) → option_depth (option_map number o) ≡ 0
flat_number None = refl
flat_number (Some z) = refl

flat_text : (o : Option (List ℕ)) → option_depth (option_map text o) ≡ 0
flat_text None = refl
flat_text (Some s) = refl

flat_when : (o : Option When) → option_depth (option_map expiry_data o) ≡ 0
flat_when None = refl
flat_when (Some when) = refl

flat_count : (o : Option ℕ) → option_depth (option_map count_data o) ≡ 0
flat_count None = refl
flat_count (Some n) = refl

module _ (r : RequestParts) where
  abbrev from_type : List NamedValue
  from_type = (codes "ty", type_data r) ∷ []

  abbrev from_target : List NamedValue
  from_target = (codes "to", Some (text r.to)) ∷ from_type

  abbrev from_response : List NamedValue
  from_response = (codes "rt", option_map number r.rt) ∷ from_target

  abbrev from_id : List NamedValue
  from_id = (codes "rqi", Some (text r.rqi)) ∷ from_response

  abbrev from_expiry : List NamedValue
  from_expiry = (codes "rqet", option_map expiry_data r.rqet) ∷ from_id

  abbrev from_result : List NamedValue
  from_result = (codes "rcn", option_map number r.rcn) ∷ from_expiry

  abbrev from_content : List NamedValue
  from_content = (codes "pc", r.pc) ∷ from_result

  abbrev from_operation : List NamedValue
  from_operation = (codes "op", Some (operation_data r.op)) ∷ from_content

  abbrev from_originator : List NamedValue
  from_originator = (codes "fr", option_map text r.fr) ∷ from_operation

  flat_behind : pairs_depth (pairs_of (present from_result)) ≡ 0
  flat_behind =
      skip (codes "rcn") (option_map number r.rcn) from_expiry (flat_number r.rcn)
      ∙ skip (codes "rqet") (option_map expiry_data r.rqet) from_id (flat_when r.rqet)
      ∙ skip (codes "rqi") (Some (text r.rqi)) from_response refl
      ∙ skip (codes "rt") (option_map number r.rt) from_target (flat_number r.rt)
      ∙ skip (codes "to") (Some (text r.to)) from_type refl
      ∙ skip (codes "ty") (type_data r) [] (flat_count r.ty)

  rows_depth : pairs_depth (pairs_of (present (rows_of r))) ≡ option_depth r.pc
  rows_depth =
      skip (codes "drt") (option_map number r.drt) from_originator (flat_number r.drt)
      ∙ skip (codes "fr") (option_map text r.fr) from_operation (flat_text r.fr)
      ∙ skip (codes "op") (Some (operation_data r.op)) from_content refl
      ∙ keep (codes "pc") r.pc from_result
      ∙ ap (λ (n : ℕ). max (option_depth r.pc) n) flat_behind
      ∙ max_last (option_depth r.pc)

abbrev is_shallow_content : Option Data → Bool
is_shallow_content pc = option_map_or (λ d. nat_le (depth d) 126) pc true

within : (pc : Option Data) → nat_le (suc (option_depth pc)) 127 ≡ is_shallow_content pc
within None = refl
within (Some d) = depth_down (depth d) 127 (omega arith)

shallow_by : (r : RequestParts) → is_of_kinds r ≡ true → is_shallow r ≡ is_shallow_content r.pc
shallow_by r kept =
    ap (λ (d : Data). nat_le (depth d) reading_depth) (kept_rows r kept)
    ∙ ap (λ (n : ℕ). nat_le (suc n) reading_depth) (rows_depth r)
    ∙ within r.pc

-- it is no deeper than a text is read where its content is one level less deep
pub kept_by : (r : RequestParts) → (is_of_kinds r && option_map_or (λ d. nat_le (depth d) 126) r.pc true) ≡ can_be_kept r
kept_by r = elim (cases_Bool (is_of_kinds r)) [
  | inl is ↦ ap (λ (b : Bool). is_of_kinds r && b) (sym (shallow_by r is))
  | inr none ↦ ap (λ (b : Bool). b && is_shallow_content r.pc) none ∙ sym (ap (λ (b : Bool). b && is_shallow r) none)
]

pub kept_then : (r : RequestParts) → is_of_kinds r ≡ true → option_map_or (λ d. nat_le (depth d) 126) r.pc true ≡ can_be_kept r
kept_then r is = sym (shallow_by r is) ∙ sym (ap (λ (b : Bool). b && is_shallow r) is)
