-- Looking up a row by its key.
use Rattle.std.proofs.Common.{◌≡◌, ◌≢◌, ◌∙◌, sym, ap, subst, refl, Bool, true, false, cond, List, [], ◌∷◌, Option, Some, None, IfNone, IfSome, inl, inr}
use Rattle.std.specs.List.{find, list_all}
use Rattle.std.specs.Option.{option_or}
use Rattle.std.proofs.lemmas.Bool.{cases_Bool, and_parts}
use Rattle.std.proofs.lemmas.Option.{same_Some}

-- what is there, or else nothing, is that
pub option_or-None : {X : Type 0} (o : Option X) → option_or o None ≡ o
option_or-None None = refl
option_or-None (Some x) = refl

-- a lookup that finds each value at its own key finds nothing only at a key that no value has
pub none_at : {X K : Type 0} (key : X → K) (look : K → Option X) → ((x : X) → look (key x) ≡ Some x) → (n : K) (r : Option X) → r ≡ look n → IfNone r ((x : X) → key x ≢ n)
none_at key look again n None is = λ x same. let both : None ≡ Some x = is ∙ sym (ap look same) ∙ again x in cc
none_at key look again n (Some y) is = tt

found_step : {X : Type 0} (p : X → Bool) (x : X) (here : Bool) (rest : Option X) → p x ≡ here → IfSome rest (λ y. p y ≡ true) → IfSome (cond here (Some x) rest) (λ y. p y ≡ true)
found_step p x true rest is later = is
found_step p x false rest is later = later

-- what is found passes the test
pub find_passes : {X : Type 0} (p : X → Bool) (xs : List X) → IfSome (find p xs) (λ x. p x ≡ true)
find_passes p [] = tt
find_passes p (x ∷ xs) = found_step p x (p x) (find p xs) refl (find_passes p xs)

pub found_is : {X : Type 0} (p : X → Bool) (xs : List X) (x : X) → find p xs ≡ Some x → p x ≡ true
found_is p xs x found =
    let Q : Option _ → Type 0 = λ o. IfSome o (λ y. p y ≡ true) in
    subst Q found (find_passes p xs)

-- and each test that all pass
pub found_passes : {X : Type 0} (p q : X → Bool) (xs : List X) (x : X) → find p xs ≡ Some x → list_all q xs ≡ true → q x ≡ true
found_passes p q [] x found all = cc
found_passes p q (y ∷ xs) x found all =
    let parts = and_parts (q y) (list_all q xs) all in
    elim (cases_Bool (p y)) [
      | inl t ↦ ap q (sym (same_Some y x (rw t at found))) ∙ parts.0
      | inr f ↦ found_passes p q xs x (rw f at found) parts.1
    ]

-- and so does what a call found, in other words
pub found_at : {X : Type 0} (p : X → Bool) (xs : List X) (P : X → Type 0) → ((x : X) → p x ≡ true → P x) → (r : Option X) → r ≡ find p xs → IfSome r P
found_at p xs P means None is = tt
found_at p xs P means (Some x) is =
    let Q : Option _ → Type 0 = λ o. IfSome o (λ y. p y ≡ true) in
    means x (subst Q (sym is) (find_passes p xs))

-- and then values with one key are one value
pub same_key : {X K : Type 0} (key : X → K) (look : K → Option X) → ((x : X) → look (key x) ≡ Some x) → (a b : X) → key a ≡ key b → a ≡ b
same_key key look again a b same = same_Some a b (sym (again a) ∙ ap look same ∙ again b)
