-- What each element of a list passes, and filters that agree on it.
use Rattle.std.proofs.Common.{◌≡◌, List, [], ◌∷◌, ◌++◌, Bool, true, reverse, inl, inr, refl, sym, ap, ◌∙◌}
use Rattle.std.proofs.lemmas.Bool.{cases_Bool, and_parts, and_from}
use Rattle.std.proofs.lemmas.List.{reverse-append}
use Rattle.std.proofs.lemmas.List.Folds.{list_all-append}
use Rattle.std.specs.List.{filter, list_all}

-- a test that asks less
pub all_weaker : {X : Type 0} (p q : X → Bool) → ((x : X) → p x ≡ true → q x ≡ true) → (xs : List X) → list_all p xs ≡ true → list_all q xs ≡ true
all_weaker p q weaker [] all = refl
all_weaker p q weaker (x ∷ xs) all =
    let parts = and_parts (p x) (list_all p xs) all in
    and_from _ _ (weaker x parts.0) (all_weaker p q weaker xs parts.1)

-- of those that a filter picks
pub all_filtered : {X : Type 0} (q p : X → Bool) (xs : List X) → list_all q xs ≡ true → list_all q (filter p xs) ≡ true
all_filtered q p [] all = refl
all_filtered q p (x ∷ xs) all =
    let parts = and_parts (q x) (list_all q xs) all in
    elim (cases_Bool (p x)) [
      | inl t ↦ rw t (and_from _ _ parts.0 (all_filtered q p xs parts.1))
      | inr f ↦ rw f (all_filtered q p xs parts.1)
    ]

-- of a list and what follows it
pub record AllOfBoth {X : Type 0} (p : X → Bool) (xs ys : List X) : Type 0 where
  pub front : list_all p xs ≡ true
  pub back : list_all p ys ≡ true

pub append_parts : {X : Type 0} (p : X → Bool) (xs ys : List X) → list_all p (xs ++ ys) ≡ true → AllOfBoth p xs ys
append_parts p xs ys all =
    let parts = and_parts (list_all p xs) (list_all p ys) (sym (list_all-append p xs ys) ∙ all) in
    record { front = parts.0; back = parts.1 }

-- in the other direction
pub all_reversed : {X : Type 0} (p : X → Bool) (xs : List X) → list_all p xs ≡ true → list_all p (reverse xs) ≡ true
all_reversed p [] all = refl
all_reversed p (x ∷ xs) all =
    let parts = and_parts (p x) (list_all p xs) all in
    ap (list_all p) (reverse-append (x ∷ []) xs) ∙ list_all-append p (reverse xs) (x ∷ []) ∙ and_from _ _ (all_reversed p xs parts.1) (and_from _ _ parts.0 refl)

-- a filter that all pass leaves the list
pub filter_whole : {X : Type 0} (p : X → Bool) (xs : List X) → list_all p xs ≡ true → filter p xs ≡ xs
filter_whole p [] all = refl
filter_whole p (x ∷ xs) all =
    let parts = and_parts (p x) (list_all p xs) all in
    rw parts.0 (ap (λ ys. x ∷ ys) (filter_whole p xs parts.1))

-- filters that agree
pub filter_same : {X : Type 0} (p q : X → Bool) → ((x : X) → p x ≡ q x) → (xs : List X) → filter p xs ≡ filter q xs
filter_same p q same [] = refl
filter_same p q same (x ∷ xs) = rw (same x, filter_same p q same xs) refl

-- filters that agree where a test holds of all pick the same
pub filter_agree : {X : Type 0} (a p q : X → Bool) → ((x : X) → a x ≡ true → p x ≡ q x) → (xs : List X) → list_all a xs ≡ true → filter p xs ≡ filter q xs
filter_agree a p q agree [] all = refl
filter_agree a p q agree (x ∷ xs) all =
    let parts = and_parts (a x) (list_all a xs) all in
    rw (agree x parts.0, filter_agree a p q agree xs parts.1) refl
