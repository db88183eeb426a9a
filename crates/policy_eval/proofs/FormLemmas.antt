-- Texts that share a front, and texts that don't.
use Rattle.std.specs.Prelude.{nat_eq}
use Rattle.std.proofs.Common.{◌≡◌, ◌≢◌, ℕ, List, [], ◌∷◌, ◌++◌, take, length, slice_index, ◌-◌, ◌==◌, Bool, ◌||◌, true, false, inl, inr, refl, sym, ap, ◌∙◌, append_assoc, Option, Some, None, MatchOption, Bor}
use Rattle.std.proofs.lemmas.Bool.{both_ways, false_from_ne_true, eq-eqb, ne_eqb, cases_eq}
use Rattle.std.proofs.lemmas.Bool.Decides.{Decides-eqb}
use Rattle.std.proofs.lemmas.Slice.Eq.{bytes_eq-Decides, starts_is, strip_prefix_is}
use Rattle.std.specs.List.{starts_with}
use Rattle.std.specs.Str.{bytes_eq}
use Rattle.std.specs.Cmp.Lexicographic.{pointwise}
use Rattle.std.proofs.lemmas.List.Prefix.{front_rest}
use Rattle.m2m_names.proofs.NameLemmas.{starts_rest}
use Rattle.policy_eval.specs.Forms.{end_alike}

-- a text begins with another exactly where it is that one and a rest
pub rest_starts : (t w rest : List ℕ) → t ≡ w ++ rest → starts_with nat_eq t w ≡ true
rest_starts t w rest e = (starts_is Decides-eqb t w (starts_with nat_eq t w) refl).1 rest e

pub not_starts : (t w : List ℕ) → ((rest : List ℕ) → t ≡ w ++ rest → ⊥) → starts_with nat_eq t w ≡ false
not_starts t w none = false_from_ne_true _ (λ is. none _ (starts_rest t w is))

-- a shared front changes nothing
pub same_behind : (w x y : List ℕ) → bytes_eq (w ++ x) (w ++ y) ≡ bytes_eq x y
same_behind [] x y = refl
same_behind (a ∷ w) x y = rw (eq-eqb a a refl) (same_behind w x y)

pub front_behind : (w x s : List ℕ) → starts_with nat_eq (w ++ x) (w ++ s) ≡ starts_with nat_eq x s
front_behind [] x s = refl
front_behind (a ∷ w) x s = rw (eq-eqb a a refl) (front_behind w x s)

-- what lacks the front is nothing that has it
pub same_apart : (w t y : List ℕ) → starts_with nat_eq t w ≡ false → bytes_eq t (w ++ y) ≡ false
same_apart w t y none =
    false_from_ne_true _ (λ is. both_ways _ none (rest_starts t w y ((bytes_eq-Decides t (w ++ y)).0 is)))

pub apart_same : (w t y : List ℕ) → starts_with nat_eq t w ≡ false → bytes_eq (w ++ y) t ≡ false
apart_same w t y none =
    false_from_ne_true _ (λ is. both_ways _ none (rest_starts t w y (sym ((bytes_eq-Decides (w ++ y) t).0 is))))

pub front_apart : (w t s : List ℕ) → starts_with nat_eq t w ≡ false → starts_with nat_eq t (w ++ s) ≡ false
front_apart w t s none =
    not_starts t (w ++ s) (λ rest e. both_ways _ none (rest_starts t w (s ++ rest) (e ∙ append_assoc w s rest)))

-- what stands at the front of a text, and doesn't begin with a word and one more byte, is a front of the word
pub front_within : (mark : ℕ) (word p x : List ℕ) → starts_with nat_eq p (word ++ mark ∷ []) ≡ false → starts_with nat_eq ((word ++ mark ∷ []) ++ x) p ≡ starts_with nat_eq word p
front_within mark [] [] x none = refl
front_within mark [] (y ∷ p) x none = elim (cases_eq y mark) [
  | inl e ↦ absurd (both_ways _ none (rw (eq-eqb mark y (sym e)) refl))
  | inr apart ↦ rw (ne_eqb y mark apart) refl
]
front_within mark (a ∷ word) [] x none = refl
front_within mark (a ∷ word) (y ∷ p) x none = elim (cases_eq y a) [
  | inl e ↦ rw (eq-eqb y a e) (front_within mark word p x (rw (eq-eqb a y (sym e)) at none))
  | inr apart ↦ rw (ne_eqb y a apart) refl
]

-- where a word stands at the front of a path, and no more
pub lacks_word : (word mark path : List ℕ) → pointwise nat_eq (take (length word) path) word ≡ false → starts_with nat_eq path (word ++ mark) ≡ false
lacks_word word mark path none =
    let r : Option (Bor (List ℕ)) = None in
    not_starts path (word ++ mark) (λ rest e. strip_prefix_is Decides-eqb path word r none (mark ++ rest) (e ∙ append_assoc word mark rest))

-- behind the word comes the mark, or it doesn't
pub word_mark : (word mark path mid : List ℕ) (r : Option (Bor (List ℕ))) → path ≡ word ++ mid → MatchOption r ((rest : List ℕ) → mid ≢ mark ++ rest) (λ x. mid ≡ mark ++ x.now) → MatchOption r (starts_with nat_eq path (word ++ mark) ≡ false) (λ own. path ≡ (word ++ mark) ++ own.now)
word_mark word mark path mid None at none =
    not_starts path (word ++ mark) (λ rest e.
    let other : word ++ mid ≡ word ++ (mark ++ rest) = sym at ∙ e ∙ append_assoc word mark rest in
    none rest (sym (front_rest (word ++ mid) word mid refl) ∙ front_rest (word ++ mid) word (mark ++ rest) other))
word_mark word mark path mid (Some x) at e =
    at ∙ ap (λ t. word ++ t) e ∙ sym (append_assoc word mark x.now)

or_true : (x : Bool) → (x || true) ≡ true
or_true true = refl
or_true false = refl

-- a text is as long as itself, and ends in its own last byte
alike_itself : (a : List ℕ) → end_alike a a ≡ true
alike_itself a =
    rw (eq-eqb (length a) (length a) refl, eq-eqb (slice_index a (length a - 1)) (slice_index a (length a - 1)) refl) (or_true (length a == 0))

-- texts that aren't as long as each other, or end in other bytes, are not equal
pub ends_apart : (a b : List ℕ) → end_alike a b ≡ false → bytes_eq a b ≡ false
ends_apart a b apart =
    false_from_ne_true _ (λ is. both_ways _ apart (ap (end_alike a) (sym ((bytes_eq-Decides a b).0 is)) ∙ alike_itself a))
