-- Whether two values are equal, at every level.
use Rattle.std.specs.Prelude.{◌≡◌, ℕ, ◌&&◌, Bool, true, false, bytes_eq, List, [], ◌∷◌, length, ◌≢◌}
use Rattle.std.specs.Prelude.{refl}
use Rattle.std.specs.Bool.{Decides, beq}
use Rattle.std.specs.Cmp.{booleans_Decides, signed_Decides}
use Rattle.std.specs.Ordering.{int_eq}
use Rattle.std.proofs.Common.{sym, ap, ◌∙◌, subst, true≢false}
use Rattle.std.proofs.lemmas.Bool.{and_parts, and_from, false_from_ne_true}
use Rattle.std.proofs.lemmas.Slice.Eq.{bytes_eq-Decides}
use Rattle.m2m_value.specs.Data.{Data, null, boolean, number, text, list, object, Elements}
use Rattle.m2m_value.specs.Data.{no_elements, element, elements_of, Entry, Pairs, no_pairs, pair}
use Rattle.m2m_value.specs.Data.{pairs_of}

abbrev mutual
  -- Two values are equal: of one kind, and with equal parts at every level.
  pub same : Data → Data → Bool
  same null null = true
  same (boolean a) (boolean b) = beq a b
  same (number a) (number b) = int_eq a b
  same (text a) (text b) = bytes_eq a b
  same (list a) (list b) = same_elements a b
  same (object a) (object b) = same_pairs a b
  same _ _ = false

  -- Two lists have equal elements in one order, and have as many.
  pub same_elements : Elements → Elements → Bool
  same_elements no_elements no_elements = true
  same_elements (element a xs) (element b ys) = same a b && same_elements xs ys
  same_elements _ _ = false

  -- Two objects have equal keys and values in one order, and have as many.
  pub same_pairs : Pairs → Pairs → Bool
  same_pairs no_pairs no_pairs = true
  same_pairs (pair j a xs) (pair k b ys) = bytes_eq j k && same a b && same_pairs xs ys
  same_pairs _ _ = false

-- lists of values, and of members
abbrev pub same_items : List Data → List Data → Bool
same_items xs ys = same_elements (elements_of xs) (elements_of ys)

abbrev pub same_members : List Entry → List Entry → Bool
same_members xs ys = same_pairs (pairs_of xs) (pairs_of ys)

-- ---- the test answers true exactly for equal values

mutual
  same-means : (a b : Data) → same a b ≡ true → a ≡ b
  same-means null null h = refl
  same-means (boolean a) (boolean b) h = ap boolean ((booleans_Decides a b).0 h)
  same-means (number a) (number b) h = ap number ((signed_Decides a b).0 h)
  same-means (text a) (text b) h = ap text ((bytes_eq-Decides a b).0 h)
  same-means (list a) (list b) h = ap list (elements-means a b h)
  same-means (object a) (object b) h = ap object (pairs-means a b h)
  same-means _ _ h = absurd (true≢false (sym h))

  elements-means : (a b : Elements) → same_elements a b ≡ true → a ≡ b
  elements-means no_elements no_elements h = refl
  elements-means (element a xs) (element b ys) h =
      let parts = and_parts (same a b) (same_elements xs ys) h in
      ap (λ x. element x xs) (same-means a b parts.0)
      ∙ ap (element b) (elements-means xs ys parts.1)
  elements-means _ _ h = absurd (true≢false (sym h))

  pairs-means : (a b : Pairs) → same_pairs a b ≡ true → a ≡ b
  pairs-means no_pairs no_pairs h = refl
  pairs-means (pair j a xs) (pair k b ys) h =
      let parts = and_parts (bytes_eq j k && same a b) (same_pairs xs ys) h in
      let first = and_parts (bytes_eq j k) (same a b) parts.0 in
      ap (λ key. pair key a xs) ((bytes_eq-Decides j k).0 first.0)
      ∙ ap (λ x. pair k x xs) (same-means a b first.1)
      ∙ ap (pair k b) (pairs-means xs ys parts.1)
  pairs-means _ _ h = absurd (true≢false (sym h))

mutual
  same-refl : (a : Data) → same a a ≡ true
  same-refl null = refl
  same-refl (boolean a) = (booleans_Decides a a).1 refl
  same-refl (number a) = (signed_Decides a a).1 refl
  same-refl (text a) = (bytes_eq-Decides a a).1 refl
  same-refl (list a) = elements-refl a
  same-refl (object a) = pairs-refl a

  elements-refl : (a : Elements) → same_elements a a ≡ true
  elements-refl no_elements = refl
  elements-refl (element a xs) = and_from _ _ (same-refl a) (elements-refl xs)

  pairs-refl : (a : Pairs) → same_pairs a a ≡ true
  pairs-refl no_pairs = refl
  pairs-refl (pair k a xs) =
      and_from _ _ (and_from _ _ ((bytes_eq-Decides k k).1 refl) (same-refl a)) (pairs-refl xs)

-- `same` is true exactly of equal values.
pub same-Decides : (a b : Data) → Decides (same a b) (a ≡ b)
same-Decides a b = (same-means a b, λ e. subst (λ x. same a x ≡ true) e (same-refl a))

items-means : (xs ys : List Data) → same_items xs ys ≡ true → xs ≡ ys
items-means [] [] h = refl
items-means (x ∷ xs) (y ∷ ys) h =
    let parts = and_parts (same x y) (same_items xs ys) h in
    ap (λ d. d ∷ xs) (same-means x y parts.0) ∙ ap (λ ds. y ∷ ds) (items-means xs ys parts.1)
items-means _ _ h = absurd (true≢false (sym h))

-- `same_items` is true exactly of equal lists of values.
pub same_items-Decides : (xs ys : List Data) → Decides (same_items xs ys) (xs ≡ ys)
same_items-Decides xs ys = (
  items-means xs ys,
  λ e. subst (λ ds. same_items xs ds ≡ true) e
      (elements-refl (elements_of xs)),
)

members-means : (xs ys : List Entry) → same_members xs ys ≡ true → xs ≡ ys
members-means [] [] h = refl
members-means (x ∷ xs) (y ∷ ys) h =
    let parts = and_parts (bytes_eq x.0 y.0 && same x.1 y.1) (same_members xs ys) h in
    let first = and_parts (bytes_eq x.0 y.0) (same x.1 y.1) parts.0 in
    ap (λ (k : List ℕ). (k, x.1) ∷ xs) ((bytes_eq-Decides x.0 y.0).0 first.0)
    ∙ ap (λ (d : Data). (y.0, d) ∷ xs) (same-means x.1 y.1 first.1)
    ∙ ap (λ es. y ∷ es) (members-means xs ys parts.1)
members-means _ _ h = absurd (true≢false (sym h))

-- `same_members` is true exactly of equal lists of members.
pub same_members-Decides : (xs ys : List Entry) → Decides (same_members xs ys) (xs ≡ ys)
same_members-Decides xs ys =
    (members-means xs ys, λ e. subst (λ es. same_members xs es ≡ true) e (pairs-refl (pairs_of xs)))

-- lists of different lengths are not equal
pub longer_items : (xs ys : List Data) → length xs ≢ length ys → same_items xs ys ≡ false
longer_items xs ys other = false_from_ne_true _ (λ h. other (ap length (items-means xs ys h)))

-- Lists of members of different lengths are not equal.
pub longer_members : (xs ys : List Entry) → length xs ≢ length ys → same_members xs ys ≡ false
longer_members xs ys other = false_from_ne_true _ (λ h. other (ap length (members-means xs ys h)))
