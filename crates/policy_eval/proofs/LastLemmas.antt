-- The last bytes of full forms, and of the entries that name somebody.
use Rattle.std.specs.Prelude.{nat_eq, codes}
use Rattle.std.proofs.Common.{◌≡◌, ℕ, List, [], ◌∷◌, ◌++◌, ◌-◌, ◌==◌, ◌||◌, length, take, true, false, Some, None, inl, inr, refl, sym, ap, ◌∙◌, arith}
use Rattle.std.proofs.lemmas.Bool.{and_parts, both_ways, cases_Bool, eq-eqb, false_from_ne_true, or_from, or_parts}
use Rattle.std.proofs.lemmas.Bool.Decides.{Decides-eqb}
use Rattle.std.proofs.lemmas.Option.{same_Some}
use Rattle.std.proofs.lemmas.Slice.Eq.{bytes_eq-Decides, ends_is}
use Rattle.std.specs.List.{ends_with, slice_get, starts_with}
use Rattle.std.specs.Str.{bytes_eq}
use Rattle.resource_model.specs.Home.{HomeData}
use Rattle.policy_eval.specs.Forms.{last_byte, last_or, may_name}
use Rattle.policy_eval.specs.Originators.{does_name, everyone, fits_pattern, full_form, is_front, is_same, own_lead, stem_of}

-- the last byte of some that stand behind others
last_behind : (byte : ℕ) (w t : List ℕ) → last_or byte (w ++ t) ≡ last_or (last_or byte w) t
last_behind byte [] t = refl
last_behind byte (x ∷ w) t = last_behind x w t

-- a full form ends as its text does
last_of_form : (home : HomeData) (text : List ℕ) → last_byte (full_form home text) ≡ last_byte text
last_of_form home text = elim (cases_Bool (starts_with nat_eq text (codes "/"))) [
  | inl t ↦ rw t refl
  | inr f ↦
      rw f (last_behind 47 (codes "/") (own_lead home ++ text)
      ∙ last_behind 47 (own_lead home) text
      ∙ ap (λ b. last_or b text) (last_behind 47 home.csi (codes "/")))
]

-- texts that name one originator end in one byte
same_last : (home : HomeData) (o entry : List ℕ) → is_same home o entry ≡ true → last_byte entry ≡ last_byte o
same_last home o entry is =
    sym (last_of_form home entry)
    ∙ ap last_byte (sym ((bytes_eq-Decides (full_form home o) (full_form home entry)).0 is))
    ∙ last_of_form home o

-- a pattern ends in `*`
pattern_last : (home : HomeData) (o entry : List ℕ) → fits_pattern home o entry ≡ true → last_byte entry ≡ 42
pattern_last home o entry fits =
    let star = (and_parts (ends_with nat_eq entry (codes "*")) (is_front home o (stem_of entry)) fits).0 in
    let front = take (length entry - length (codes "*")) entry in
    ap last_byte ((ends_is Decides-eqb entry (codes "*") (ends_with nat_eq entry (codes "*")) refl).0 star)
    ∙ last_behind 47 front (codes "*")

-- an entry that ends as no entry for the originator does names it not
pub names_nobody : (home : HomeData) (o entry : List ℕ) → may_name (last_byte o) entry ≡ false → does_name home o entry ≡ false
names_nobody home o entry apart =
    let parts = or_parts (last_byte entry == last_byte o || last_byte entry == 108) (last_byte entry == 42) apart in
    let firsts = or_parts (last_byte entry == last_byte o) (last_byte entry == 108) parts.0 in
    let no_all : bytes_eq entry everyone ≡ false = false_from_ne_true _ (λ is. both_ways _ firsts.1 (eq-eqb (last_byte entry) 108 (ap last_byte ((bytes_eq-Decides entry everyone).0 is)))) in
    let no_star : bytes_eq entry (codes "*") ≡ false = false_from_ne_true _ (λ is. both_ways _ parts.1 (eq-eqb (last_byte entry) 42 (ap last_byte ((bytes_eq-Decides entry (codes "*")).0 is)))) in
    let no_same : is_same home o entry ≡ false = false_from_ne_true _ (λ is. both_ways _ firsts.0 (eq-eqb (last_byte entry) (last_byte o) (same_last home o entry is))) in
    let no_fit : fits_pattern home o entry ≡ false = false_from_ne_true _ (λ is. both_ways _ parts.1 (eq-eqb (last_byte entry) 42 (pattern_last home o entry is))) in
    or_from (bytes_eq entry everyone || bytes_eq entry (codes "*") || is_same home o entry) (fits_pattern home o entry)
    (or_from (bytes_eq entry everyone || bytes_eq entry (codes "*")) (is_same home o entry)
    (or_from (bytes_eq entry everyone) (bytes_eq entry (codes "*")) no_all no_star) no_same) no_fit

-- what stands at the last place is the last
last_at : (x : ℕ) (xs : List ℕ) → slice_get (x ∷ xs) (length xs) ≡ Some (last_or x xs)
last_at x [] = refl
last_at x (y ∷ ys) = last_at y ys

pub last_found : (text : List ℕ) (b : ℕ) → Some b ≡ slice_get text (length text - 1) → b ≡ last_byte text
last_found [] b is = let none : Some b ≡ None = is in cc
last_found (x ∷ xs) b is =
    let before : length (x ∷ xs) - 1 ≡ length xs = omega arith in
    same_Some b (last_or x xs) (is ∙ ap (slice_get (x ∷ xs)) before ∙ last_at x xs)
