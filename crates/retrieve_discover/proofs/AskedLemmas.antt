-- Labels and types in sets: what a set has once one more was inserted, and which lists have one of
-- those that are asked for.
use Rattle.std.proofs.Common.{◌≡◌, ℕ, ◌+◌, ◌<◌, List, [], ◌∷◌, length, get_or, drop, drop-cons, add-one, Bool, true, false, cond, ◌||◌, ◌==◌, Option, Some, None, inl, inr, refl, sym, ap, ◌∙◌, subst}
use Rattle.std.proofs.lemmas.Bool.{cases_Bool}
use Rattle.std.proofs.lemmas.Map.Text.{is_eq-slice_cmp}
use Rattle.std.proofs.lemmas.Slice.Eq.{bytes_eq-Decides}
use Rattle.std.specs.BTreeSet as sorted
use Rattle.std.specs.BTreeSet.{BTreeSet, contains_by}
use Rattle.std.specs.Cmp.{eq_by_cmp_equiv, unsigned_tied}
use Rattle.std.specs.Cmp.Lexicographic.{slice_cmp, nat_list_cmp_total, nat_list_eq_equiv}
use Rattle.std.specs.List.{list_any}
use Rattle.std.specs.Map.{IsKeyTest, AreApart}
use Rattle.std.specs.Option.{option_map_or}
use Rattle.std.specs.Ordering.{nat_cmp, is_eq}
use Rattle.std.specs.Set.{KeepsOthers}
use Rattle.std.specs.Str.{bytes_eq}
use Rattle.std.specs.declared.vec.Vec.{Vec}
use Rattle.m2m_value.specs.Data.{Data}
use Rattle.m2m_value.specs.View.{as_text}
use Rattle.retrieve_discover.specs.Asked.{has_text, is_label_of, is_one_of, lists_one_of}
use Rattle.retrieve_discover.specs.Conditions.{is_that_label}

-- what is left of a list from a place on, and from the next place on
pub dropped : {X : Type 0} (xs : List X) (k : ℕ) (x : X) → k < length xs → x ≡ get_or xs k x → drop k xs ≡ x ∷ drop (k + 1) xs
dropped xs k x below is = rw add-one (drop-cons xs k x below) ∙ ap (λ y. y ∷ drop (k + 1) xs) (sym is)

-- ---- tests of two lists

or_behind : (a b c : Bool) → ((a || b) || c) ≡ (b || (a || c))
or_behind true true c = refl
or_behind true false c = refl
or_behind false b c = refl

or_between : (a b c d : Bool) → ((a || b) || (c || d)) ≡ ((a || c) || (b || d))
or_between true b c d = refl
or_between false true true d = refl
or_between false true false d = refl
or_between false false c d = refl

any_never : {X : Type 0} (xs : List X) → list_any (λ x. false) xs ≡ false
any_never [] = refl
any_never (x ∷ xs) = any_never xs

any_or : {X : Type 0} (p q : X → Bool) (xs : List X) → list_any (λ x. p x || q x) xs ≡ (list_any p xs || list_any q xs)
any_or p q [] = refl
any_or p q (x ∷ xs) = ap (λ b. (p x || q x) || b) (any_or p q xs) ∙ or_between (p x) (q x) (list_any p xs) (list_any q xs)

-- which of two lists is gone over first makes no difference
any_swapped : {X Y : Type 0} (p : X → Y → Bool) (xs : List X) (ys : List Y) → list_any (λ y. list_any (λ x. p x y) xs) ys ≡ list_any (λ x. list_any (p x) ys) xs
any_swapped p [] ys = any_never ys
any_swapped p (x ∷ xs) ys = any_or (p x) (λ y. list_any (λ x'. p x' y) xs) ys ∙ ap (λ b. list_any (p x) ys || b) (any_swapped p xs ys)

-- a list that has one of the labels is one that has a label which is asked for
pub lists_some : (labels : List (List ℕ)) (values : Option (List Data)) → lists_one_of labels values ≡ list_any (λ label. option_map_or (list_any (is_that_label label)) values false) labels
lists_some labels None = sym (any_never labels)
lists_some labels (Some ds) = any_swapped is_that_label labels ds

-- what is no text is no label
pub no_label : (labels : List (List ℕ)) (d : Data) → as_text d ≡ None → is_label_of labels d ≡ false
no_label labels d none = rw none (any_never labels)

-- ---- one more in a set

apart_in_order : (bs cs ks : List ℕ) → bytes_eq bs cs ≡ false → is_eq (slice_cmp nat_cmp bs ks) ≡ true → is_eq (slice_cmp nat_cmp cs ks) ≡ false
apart_in_order bs cs ks n y =
    is_eq-slice_cmp cs ks ∙ nat_list_eq_equiv.symm cs ks ∙ sym (nat_list_eq_equiv.congr bs ks cs (sym (is_eq-slice_cmp bs ks) ∙ y)) ∙ n

other_keys : {K : Type 0} (eq : K → K → Bool) (test : K → Bool) (old new : List K) → KeepsOthers eq test old new → (other : K → Bool) → IsKeyTest eq other → AreApart test other → list_any other new ≡ list_any other old
unfolding KeepsOthers
other_keys eq test old new h = h

module _ {Z : Type 0} where
  pub text_added : (key : Vec ℕ Z) (old new : BTreeSet (Vec ℕ Z)) → sorted.Updates (λ x y. slice_cmp nat_cmp x.items y.items) old new key true → (text : List ℕ) → has_text new text ≡ (bytes_eq text key.items || has_text old text)
  text_added key old new h text = elim (cases_Bool (bytes_eq text key.items)) [
    | inl t ↦ rw t (subst (λ ds. has_text new ds ≡ true) (sym ((bytes_eq-Decides text key.items).0 t)) h.1)
    | inr f ↦
        let apart : bytes_eq key.items text ≡ false = nat_list_eq_equiv.symm key.items text ∙ f in
        rw f (other_keys _ _ _ _ h.3 _ (λ x y. (eq_by_cmp_equiv nat_list_cmp_total).congr text x.items y.items) (λ k. apart_in_order key.items text k.items apart))
  ]

  -- one more of the labels is in the set, and is left of them no more
  pub one_label_more : (key : Vec ℕ Z) (old new : BTreeSet (Vec ℕ Z)) (label : List ℕ) (left all : List (List ℕ)) → key.items ≡ label → sorted.Updates (λ x y. slice_cmp nat_cmp x.items y.items) old new key true → ((text : List ℕ) → (has_text old text || is_one_of (label ∷ left) text) ≡ is_one_of all text) → (text : List ℕ) → (has_text new text || is_one_of left text) ≡ is_one_of all text
  one_label_more key old new label left all is h told text =
      ap (λ b. b || is_one_of left text) (text_added key old new h text ∙ ap (λ ds. bytes_eq text ds || has_text old text) is)
      ∙ or_behind (bytes_eq text label) (has_text old text) (is_one_of left text)
      ∙ told text

-- one more of the numbers is in the set, and is left of them no more
pub one_number_more : (key : ℕ) (old new : BTreeSet ℕ) (left all : List ℕ) → sorted.Updates nat_cmp old new key true → ((n : ℕ) → (contains_by (nat_cmp n) old || list_any (λ m. m == n) (key ∷ left)) ≡ list_any (λ m. m == n) all) → (n : ℕ) → (contains_by (nat_cmp n) new || list_any (λ m. m == n) left) ≡ list_any (λ m. m == n) all
one_number_more key old new left all h told n =
    let tied : is_eq (nat_cmp key n) ≡ (key == n) = unsigned_tied key n in
    let added : contains_by (nat_cmp n) new ≡ (key == n || contains_by (nat_cmp n) old) = elim (cases_Bool (key == n)) [
      | inl t ↦ rw t (h.0 n ∙ ap (λ b. cond b true (contains_by (nat_cmp n) old)) (tied ∙ t))
      | inr f ↦ rw f (h.0 n ∙ ap (λ b. cond b true (contains_by (nat_cmp n) old)) (tied ∙ f))
    ] in
    ap (λ b. b || list_any (λ m. m == n) left) added
    ∙ or_behind (key == n) (contains_by (nat_cmp n) old) (list_any (λ m. m == n) left)
    ∙ told n
