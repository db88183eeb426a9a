-- Texts between slashes.
use Rattle.std.specs.Prelude.{drop, nat_lt}
use Rattle.std.proofs.Common.{◌≡◌, ℕ, zero, suc, ◌+◌, ◌<◌, ◌≤◌, true, false, List, [], ◌∷◌, ◌++◌, length, Option, Some, None, inl, inr, refl, sym, ap, ◌∙◌, arith, map, Bor}
use Rattle.std.specs.List.{All, position_or_len, slice_split, onto_first}
use Rattle.std.proofs.lemmas.Bool.{and_parts, cases_Bool, ltb-true, ltb-false, ne_eqb, both_ways}
use Rattle.std.proofs.lemmas.List.{append-nil, append_assoc}
use Rattle.std.proofs.lemmas.List.Elements.{All-weaker}
use Rattle.std.proofs.lemmas.List.Splits.{join_with_byte-slice_split, slice_split-cons_no, slice_split_at, slice_split_first, slice_split_none}
use Rattle.std.proofs.lemmas.List.Sums.{AllPass-from_list_all}
use Rattle.m2m_names.specs.Name.{is_name, is_unreserved}
use Rattle.addressing.specs.Addresses.{are_names, cut_at, is_slash, joined, between_slashes, slash_at}
use Rattle.m2m_names.proofs.NameLemmas.{name_parts}

-- ---- taken apart

-- the parts of a text, by what stands before its first slash and behind it
abbrev pub parts_by : Option (List ℕ × List ℕ) → List ℕ → List (List ℕ)
parts_by None text = text ∷ []
parts_by (Some cut) text = cut.0 ∷ between_slashes cut.1

unsplit : (text : List ℕ) → length text ≤ position_or_len is_slash text → slice_split is_slash text ≡ text ∷ []
unsplit [] most = refl
unsplit (x ∷ text) most = elim (cases_Bool (is_slash x)) [
  | inl t ↦ (let none : length (x ∷ text) ≤ 0 = rw t at most in absurd (omega (arith, none)))
  | inr f ↦
      let later : length (x ∷ text) ≤ 1 + position_or_len is_slash text = rw f at most in
      slice_split-cons_no is_slash x text f ∙ ap (onto_first x) (unsplit text (omega (arith, later)))
]

pub parts_by_cut : (text : List ℕ) → between_slashes text ≡ parts_by (cut_at text) text
parts_by_cut text = elim (cases_Bool (nat_lt (position_or_len is_slash text) (length text))) [
  | inl t ↦ rw t (slice_split_first is_slash text 0 (ltb-true (position_or_len is_slash text) (length text) t))
  | inr f ↦ rw f (unsplit text (ltb-false (position_or_len is_slash text) (length text) f))
]

-- parts with their slashes are the text again
pub joined-between_slashes : (text : List ℕ) → joined (between_slashes text) ≡ text
joined-between_slashes text = join_with_byte-slice_split 47 text

-- ---- put together

-- parts, the first of which has this place
abbrev pub parts_from : List (List ℕ) → ℕ → List ℕ
parts_from [] place = []
parts_from (part ∷ parts) place = (slash_at place ++ part) ++ parts_from parts (place + 1)

parts_from-later : (part : List ℕ) (parts : List (List ℕ)) (place : ℕ) → 0 < place → parts_from (part ∷ parts) place ≡ 47 ∷ joined (part ∷ parts)
parts_from-later part [] place later =
    rw (ne_eqb place 0 (λ e. omega (arith, later, e))) (ap (λ t. 47 ∷ t) (append-nil part))
parts_from-later part (next ∷ parts) place later =
    rw (ne_eqb place 0 (λ e. omega (arith, later, e)))
    (ap (λ t. (47 ∷ part) ++ t) (parts_from-later next parts (place + 1) (omega arith)))

pub joined_by_places : (parts : List (List ℕ)) → parts_from parts 0 ≡ joined parts
joined_by_places [] = refl
joined_by_places (part ∷ []) = append-nil part
joined_by_places (part ∷ next ∷ parts) = ap (λ t. part ++ t) (parts_from-later next parts (0 + 1) (omega arith))

dropped_all : {A : Type 0} (xs : List A) (n : ℕ) → length xs ≤ n → drop n xs ≡ []
dropped_all [] zero le = refl
dropped_all [] (suc n) le = refl
dropped_all (x ∷ xs) zero le = absurd (omega (arith, le))
dropped_all (x ∷ xs) (suc n) le = dropped_all xs n (omega (arith, le))

-- what is left of parts, seen by their bytes
pub mapped_rest : (parts : List (Bor (List ℕ))) (place : ℕ) → map (λ p. p.now) (drop place parts) ≡ drop place (map (λ p. p.now) parts)
mapped_rest [] zero = refl
mapped_rest [] (suc place) = refl
mapped_rest (p ∷ parts) zero = refl
mapped_rest (p ∷ parts) (suc place) = mapped_rest parts place

-- where no part is left, all are written
pub written : (text : List ℕ) (place : ℕ) (parts : List (Bor (List ℕ))) → length parts ≤ place → text ++ parts_from (map (λ t. t.now) (drop place parts)) place ≡ parts_from (map (λ t. t.now) parts) 0 → text ≡ joined (map (λ t. t.now) parts)
written text place parts past all =
    sym (append-nil text) ∙ ap (λ ps. text ++ parts_from (map (λ (t : Bor (List ℕ)). t.now) ps) place) (sym (dropped_all parts place past)) ∙ all ∙ joined_by_places (map (λ (t : Bor (List ℕ)). t.now) parts)

-- ---- names have no slash

pub no_slash : (b : ℕ) → is_unreserved b ≡ true → is_slash b ≡ false
no_slash b is = ne_eqb b 47 (λ e. both_ways (is_unreserved 47) refl (ap is_unreserved (sym e) ∙ is))

pub name_has_no_slash : (name : List ℕ) → is_name name ≡ true → All (λ b. is_slash b ≡ false) name
name_has_no_slash name is =
    All-weaker (λ b. is_unreserved b ≡ true) (λ b. is_slash b ≡ false) no_slash name
    (AllPass-from_list_all is_unreserved name (name_parts name is).unreserved)

-- a name and more of them
pub record AreNames (name : List ℕ) (more : List (List ℕ)) : Type 0 where
  pub first : is_name name ≡ true
  pub rest : are_names more ≡ true

pub names_parts : (name : List ℕ) (more : List (List ℕ)) → are_names (name ∷ more) ≡ true → AreNames name more
names_parts name more are =
    let parts = and_parts (is_name name) (are_names more) are in
    record { first = parts.0; rest = parts.1 }

-- names with slashes between them are read as themselves
pub between_slashes-joined : (name : List ℕ) (names : List (List ℕ)) → are_names (name ∷ names) ≡ true → between_slashes (joined (name ∷ names)) ≡ name ∷ names
between_slashes-joined name [] is = slice_split_none is_slash name (name_has_no_slash name (names_parts name [] is).first)
between_slashes-joined name (next ∷ names) is =
    let parts = names_parts name (next ∷ names) is in
    slice_split_at is_slash name 47 (joined (next ∷ names)) (name_has_no_slash name parts.first) refl
    ∙ ap (λ rest. name ∷ rest) (between_slashes-joined next names parts.rest)

-- one name more stands behind a slash
joined_last : (x : List ℕ) (xs : List (List ℕ)) (y : List ℕ) → joined ((x ∷ xs) ++ y ∷ []) ≡ joined (x ∷ xs) ++ 47 ∷ y
joined_last x [] y = refl
joined_last x (z ∷ xs) y = ap (λ rest. x ++ 47 ∷ rest) (joined_last z xs y) ∙ sym (append_assoc x (47 ∷ joined (z ∷ xs)) (47 ∷ y))

pub joined_after : (front : List (List ℕ)) (x y : List ℕ) → joined ((front ++ x ∷ []) ++ y ∷ []) ≡ joined (front ++ x ∷ []) ++ 47 ∷ y
joined_after [] x y = joined_last x [] y
joined_after (z ∷ front) x y = joined_last z (front ++ x ∷ []) y
