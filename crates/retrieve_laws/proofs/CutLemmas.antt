-- Forests: what the first of one are, and what holds of each resource of one.
use Rattle.retrieve_laws.proofs.Words.{◌==◌, ◌≡◌, ℕ, zero, suc, ◌-◌, ◌<◌, List, [], ◌∷◌, ◌++◌, length, take, Bool, true, false, ◌&&◌, refl, sym, ap, ◌∙◌, arith}
use Rattle.retrieve_laws.proofs.Terms.{ResourceData, is_under, Forest, bare, rooted, cut_forest, forest_of, preorder, forest_size}
use Rattle.retrieve_laws.proofs.Facts.{and_parts, cond_both, eqb-true, nat_tests}
use Rattle.retrieve_laws.proofs.FoundLemmas.{Each}

-- ---- the first of a forest

take-both : {A : Type 0} (m : ℕ) (xs ys : List A) → take m (xs ++ ys) ≡ take m xs ++ take (m - length xs) ys
take-both m [] ys = by_take m
  where
    by_take : (m : ℕ) → take m ys ≡ take m [] ++ take (m - 0) ys
    by_take zero = refl
    by_take (suc m) = let e : suc m ≡ suc m - 0 = omega arith in ap (λ k. take k ys) e
take-both zero (x ∷ xs) ys = let e : 0 ≡ 0 - length (x ∷ xs) = omega arith in ap (λ k. take k ys) e
take-both (suc m) (x ∷ xs) ys =
    let e : m - length xs ≡ suc m - length (x ∷ xs) = omega arith in
    ap (λ zs. x ∷ zs) (take-both m xs ys ∙ ap (λ k. take m xs ++ take k ys) e)

take_first : {A : Type 0} (m : ℕ) (x : A) (xs : List A) → 0 < m → take m (x ∷ xs) ≡ x ∷ take (m - 1) xs
take_first zero x xs some = absurd (omega (arith, some))
take_first (suc m) x xs some = let e : m ≡ suc m - 1 = omega arith in ap (λ k. x ∷ take k xs) e

abbrev nothing_of : (A : Type 0) → List A
nothing_of A = []

take_of_none : (m : ℕ) → take m (nothing_of ResourceData) ≡ nothing_of ResourceData
take_of_none zero = refl
take_of_none (suc m) = refl

above_zero : (m : ℕ) → (m == 0) ≡ false → 0 < m
above_zero m f = grind (arith, nat_tests)

-- they are the first of its list
pub preorder-cut : (f : Forest) (m : ℕ) → preorder (cut_forest f m) ≡ take m (preorder f)
preorder-cut bare m = sym (take_of_none m)
preorder-cut (rooted r kids more) m =
    cond_both (m == 0) bare (rooted r (cut_forest kids (m - 1)) (cut_forest more (m - 1 - forest_size kids))) (λ (f : Forest). preorder f ≡ take m (r ∷ (preorder kids ++ preorder more)))
    (λ t. ap (λ (k : ℕ). take k (r ∷ (preorder kids ++ preorder more))) (sym (eqb-true m 0 t)))
    (λ f. ap (λ (rs : List ResourceData). r ∷ (rs ++ preorder (cut_forest more (m - 1 - forest_size kids)))) (preorder-cut kids (m - 1))
    ∙ ap (λ (rs : List ResourceData). r ∷ (take (m - 1) (preorder kids) ++ rs)) (preorder-cut more (m - 1 - forest_size kids))
    ∙ ap (λ (rs : List ResourceData). r ∷ rs) (sym (take-both (m - 1) (preorder kids) (preorder more)))
    ∙ sym (take_first m r (preorder kids ++ preorder more) (above_zero m f)))

-- ---- what holds of each resource of a forest

abbrev pub AllIn : (ResourceData → Type 0) → Forest → Type 0
AllIn P bare = Unit {0}
AllIn P (rooted r kids more) = P r × (AllIn P kids × AllIn P more)

pub all-cut : (P : ResourceData → Type 0) (f : Forest) (m : ℕ) → AllIn P f → AllIn P (cut_forest f m)
all-cut P bare m all = tt
all-cut P (rooted r kids more) m all =
    cond_both (m == 0) bare (rooted r (cut_forest kids (m - 1)) (cut_forest more (m - 1 - forest_size kids))) (AllIn P) (λ t. tt)
    (λ f. (all.0, (all-cut P kids (m - 1) all.1.0, all-cut P more (m - 1 - forest_size kids) all.1.1)))

-- a child that may be gone to
pub record IsReached (may : ResourceData → Bool) (n : ℕ) (r : ResourceData) : Type 0 where
  pub under : is_under n r ≡ true
  pub goes : may r ≡ true

pub reached_parts : (may : ResourceData → Bool) (n : ℕ) (r : ResourceData) → (is_under n r && may r) ≡ true → IsReached may n r
reached_parts may n r is =
    let parts = and_parts (is_under n r) (may r) is in
    record { under = parts.0; goes = parts.1 }

pub all-forest_of : (P : ResourceData → Type 0) (goes : ResourceData → Bool) (rs : List ResourceData) (n : ℕ) → Each P rs → AllIn (λ r. P r × (goes r ≡ true)) (forest_of goes n rs)
all-forest_of P goes [] n each = tt
all-forest_of P goes (r ∷ rs) n each =
    cond_both (is_under n r && goes r) (rooted r (forest_of goes r.number rs) (forest_of goes n rs)) (forest_of goes n rs) (AllIn (λ r. P r × (goes r ≡ true)))
    (λ t. ((each.0, (reached_parts goes n r t).goes), (all-forest_of P goes rs r.number each.1, all-forest_of P goes rs n each.1)))
    (λ f. all-forest_of P goes rs n each.1)
