-- Texts that slashes part, as addresses are.
use Rattle.std.specs.Prelude.{nat_eq, ◌⊎◌}
use Rattle.std.proofs.Common.{◌≡◌, ℕ, zero, suc, ◌+◌, List, [], ◌∷◌, ◌++◌, length, take, drop, Bool, true, false, not, ◌&&◌, bytes_eq, inl, inr, refl, sym, ap, ◌∙◌, subst, arith}
use Rattle.std.proofs.lemmas.Bool.{and_parts, cases_Bool}
use Rattle.std.proofs.lemmas.List.{append_assoc, append_cancel_left, take-append-drop}
use Rattle.std.proofs.lemmas.Slice.Eq.{bytes_eq-Decides}
use Rattle.std.specs.List.{list_all, position_or_len, starts_with}
use Rattle.addressing.specs.Addresses.{is_slash}

-- the text has no slash
abbrev pub has_no_slash : List ℕ → Bool
has_no_slash text = list_all (λ b. not (is_slash b)) text

-- what is true and false isn't
pub not_both : (b : Bool) → b ≡ true → b ≡ false → ⊥
not_both b t f = let bad : true ≡ false = sym t ∙ f in cc

no_slash_first : (b : ℕ) (text : List ℕ) → has_no_slash (b ∷ text) ≡ true → 47 ≡ b → ⊥
no_slash_first b text none is =
    let first : not (is_slash b) ≡ true = (and_parts (not (is_slash b)) (has_no_slash text) none).0 in
    let bad : false ≡ true = ap (λ n. not (is_slash n)) is ∙ first in
    cc

no_slash_rest : (b : ℕ) (text : List ℕ) → has_no_slash (b ∷ text) ≡ true → has_no_slash text ≡ true
no_slash_rest b text none = (and_parts (not (is_slash b)) (has_no_slash text) none).1

-- what stands before the first slash, and behind it, is one thing
pub one_front : (x y u v : List ℕ) → has_no_slash x ≡ true → has_no_slash y ≡ true → x ++ 47 ∷ u ≡ y ++ 47 ∷ v → (x ≡ y) × (u ≡ v)
one_front [] [] u v nx ny e = (refl, cc)
one_front [] (d ∷ y) u v nx ny e = absurd (no_slash_first d y ny cc)
one_front (c ∷ x) [] u v nx ny e = absurd (no_slash_first c x nx cc)
one_front (c ∷ x) (d ∷ y) u v nx ny e =
    let head : c ≡ d = cc in
    let tail : x ++ 47 ∷ u ≡ y ++ 47 ∷ v = cc in
    let rest = one_front x y u v (no_slash_rest c x nx) (no_slash_rest d y ny) tail in
    let first : x ≡ y = rest.0 in
    (cc, rest.1)

-- a text without a slash isn't one with a slash
pub no_front : (x y v : List ℕ) → has_no_slash x ≡ true → x ≡ y ++ 47 ∷ v → ⊥
no_front [] [] v nx e = cc
no_front [] (d ∷ y) v nx e = cc
no_front (c ∷ x) [] v nx e = no_slash_first c x nx cc
no_front (c ∷ x) (d ∷ y) v nx e = no_front x y v (no_slash_rest c x nx) cc

-- where the first slash stands
pub first_slash : (name rest : List ℕ) → has_no_slash name ≡ true → position_or_len is_slash (name ++ 47 ∷ rest) ≡ length name
first_slash [] rest none = refl
first_slash (b ∷ name) rest none = elim (cases_Bool (is_slash b)) [
  | inl t ↦ (let bad : not true ≡ true = ap not (sym t) ∙ (and_parts (not (is_slash b)) (has_no_slash name) none).0 in cc)
  | inr f ↦ rw f (let later = first_slash name rest (no_slash_rest b name none) in omega arith)
]

-- ---- what a text begins with

pub taken_front : (xs ys : List ℕ) → take (length xs) (xs ++ ys) ≡ xs
taken_front [] ys = refl
taken_front (x ∷ xs) ys = ap (λ (zs : List ℕ). x ∷ zs) (taken_front xs ys)

-- a text that begins with another is that one and then a rest
pub begins : (text front : List ℕ) → starts_with nat_eq text front ≡ true → (rest : List ℕ) × (text ≡ front ++ rest)
begins text front t =
    let same : front ≡ take (length front) text = (bytes_eq-Decides front (take (length front) text)).0 t in
    (drop (length front) text, sym (take-append-drop (length front) text) ∙ ap (λ (xs : List ℕ). xs ++ drop (length front) text) (sym same))

pub begins_with : (front rest : List ℕ) → starts_with nat_eq (front ++ rest) front ≡ true
begins_with front rest = (bytes_eq-Decides front (take (length front) (front ++ rest))).1 (sym (taken_front front rest))

-- a text is itself, and one that is the same is that
pub text_itself : (text : List ℕ) → bytes_eq text text ≡ true
text_itself text = (bytes_eq-Decides text text).1 refl

pub same_text : (x y : List ℕ) → bytes_eq x y ≡ true → x ≡ y
same_text x y = (bytes_eq-Decides x y).0

pub other_text : (x y : List ℕ) → (x ≡ y → ⊥) → bytes_eq x y ≡ false
other_text x y apart = elim (cases_Bool (bytes_eq x y)) [
  | inl t ↦ absurd (apart (same_text x y t))
  | inr f ↦ f
]

-- text by text, either way round
pub either_way : (x y : List ℕ) → bytes_eq x y ≡ bytes_eq y x
either_way x y = elim (cases_Bool (bytes_eq x y)) [
  | inl t ↦ t ∙ sym (ap (λ (z : List ℕ). bytes_eq y z) (same_text x y t) ∙ text_itself y)
  | inr f ↦ f ∙ sym (other_text y x (λ e. not_both (bytes_eq x y) (ap (λ (z : List ℕ). bytes_eq x z) e ∙ text_itself x) f))
]
