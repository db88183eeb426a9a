-- Forests, child by child.
use Rattle.std.specs.Prelude.{slice_get}
use Rattle.std.proofs.Common.{◌≡◌, ℕ, ◌+◌, ◌-◌, ◌<◌, List, [], ◌∷◌, length, drop, Bool, true, false, cond, Some, inl, inr, refl, sym, ap, ◌∙◌, arith}
use Rattle.std.proofs.lemmas.Bool.{cases_Bool, ne_eqb}
use Rattle.std.proofs.lemmas.List.{append-nil, length-append}
use Rattle.m2m_value.specs.Data.{Entry, object, pairs_of}
use Rattle.m2m_names.specs.Types.{ty_member}
use Rattle.resource_model.specs.Resource.{ResourceData}
use Rattle.tree_model.specs.Tree.{children_of, is_tree, is_under}
use Rattle.retrieve_discover.specs.Contents.{with_forest, with_last}
use Rattle.retrieve_discover.specs.Descendants.{Forest, bare, rooted, cut_forest, forest_of, preorder, reached_forest, forest_size}
use Rattle.retrieve_discover.proofs.OrderLemmas.{in_order, in_order-tree, first_of}
use Rattle.retrieve_discover.proofs.WalkLemmas.{drop_get}
use Rattle.tree_model.proofs.OrderLemmas.{above_parts, above_filter, are_above}

module _ (goes : ResourceData → Bool) where
  -- the children of a resource in order, each with what is reached below it
  abbrev pub chain : List ResourceData → List ResourceData → Forest
  chain nodes [] = bare
  chain nodes (c ∷ kids) = cond (goes c) (rooted c (forest_of goes c.number nodes) (chain nodes kids)) (chain nodes kids)

  forest_of_skips : (n : ℕ) (r : ResourceData) (later : List ResourceData) → r.parent < n → forest_of goes n (r ∷ later) ≡ forest_of goes n later
  forest_of_skips n r later less = rw (ne_eqb r.parent n (λ e. omega (arith, less, e))) refl

  skip_all : (r : ResourceData) (later kids : List ResourceData) → r.parent < r.number → are_above r.number kids ≡ true → chain (r ∷ later) kids ≡ chain later kids
  skip_all r later [] parent above = refl
  skip_all r later (c ∷ kids) parent above =
      let parts = above_parts r.number c kids above in
      let less : r.number < c.number = parts.first in
      let here : forest_of goes c.number (r ∷ later) ≡ forest_of goes c.number later = forest_of_skips c.number r later (omega (arith, less, parent)) in
      ap (λ f. cond (goes c) (rooted c f (chain (r ∷ later) kids)) (chain (r ∷ later) kids)) here
      ∙ ap (λ f. cond (goes c) (rooted c (forest_of goes c.number later) f) f) (skip_all r later kids parent parts.rest)

  forest_of_kids : (n : ℕ) (nodes : List ResourceData) → in_order nodes ≡ true → forest_of goes n nodes ≡ chain nodes (children_of n nodes)
  forest_of_kids n [] order = refl
  forest_of_kids n (r ∷ later) order =
      let first = first_of r later order in
      let rest : chain (r ∷ later) (children_of n later) ≡ forest_of goes n later =
      skip_all r later (children_of n later) first.parent (above_filter (is_under n) r.number later first.above)
      ∙ sym (forest_of_kids n later first.rest) in
      elim (cases_Bool (is_under n r)) [
        | inl t ↦
            let kids = chain (r ∷ later) (children_of n later) in
            let all = ap (λ f. cond (goes r) (rooted r f kids) kids) (forest_of_skips r.number r later first.parent) ∙ ap (λ f. cond (goes r) (rooted r (forest_of goes r.number later) f) f) rest in
            rw t (sym all)
        | inr f ↦ rw f (sym rest)
      ]

  pub forest_of_by_kids : (n : ℕ) (nodes : List ResourceData) → is_tree nodes ≡ true → forest_of goes n nodes ≡ chain nodes (children_of n nodes)
  forest_of_by_kids n nodes grew = forest_of_kids n nodes (in_order-tree nodes grew)

  gone_to : (nodes kids : List ResourceData) (k : ℕ) (r : ResourceData) → slice_get kids k ≡ Some r → goes r ≡ true → chain nodes (drop k kids) ≡ rooted r (forest_of goes r.number nodes) (chain nodes (drop (k + 1) kids))
  gone_to nodes kids k r is g = ap (chain nodes) (drop_get kids k r is) ∙ rw g refl

  passed : (nodes kids : List ResourceData) (k : ℕ) (r : ResourceData) → slice_get kids k ≡ Some r → goes r ≡ false → chain nodes (drop k kids) ≡ chain nodes (drop (k + 1) kids)
  passed nodes kids k r is h = ap (chain nodes) (drop_get kids k r is) ∙ rw h refl

  here_true : (nodes : List ResourceData) (r : ResourceData) → goes r ≡ true → reached_forest goes nodes r ≡ rooted r (forest_of goes r.number nodes) bare
  here_true nodes r g = rw g refl

  here_false : (nodes : List ResourceData) (r : ResourceData) → goes r ≡ false → reached_forest goes nodes r ≡ bare
  here_false nodes r h = rw h refl

  cut_more : (m : ℕ) (r : ResourceData) (below after : Forest) → 0 < m → cut_forest (rooted r below after) m ≡ rooted r (cut_forest below (m - 1)) (cut_forest after (m - 1 - forest_size below))
  cut_more m r below after some = rw (ne_eqb m 0 (λ e. omega (arith, some, e))) refl

  -- one child more, and what is left for the others
  pub turned : (members : ResourceData → List Entry) (nodes kids : List ResourceData) (k left less : ℕ) (r : ResourceData) (es more : List Entry) → slice_get kids k ≡ Some r → 0 < left → less ≡ left - forest_size (reached_forest goes nodes r) → more ≡ with_forest members (cut_forest (reached_forest goes nodes r) left) es → with_forest members (cut_forest (chain nodes (drop k kids)) left) es ≡ with_forest members (cut_forest (chain nodes (drop (k + 1) kids)) less) more
  turned members nodes kids k left less r es more is some rest grew = elim (cases_Bool (goes r)) [
    | inl g ↦
        let below = forest_of goes r.number nodes in
        let after = chain nodes (drop (k + 1) kids) in
        let size : forest_size (reached_forest goes nodes r) ≡ length (r ∷ preorder below) = ap forest_size (here_true nodes r g) ∙ ap (λ (rs : List ResourceData). length (r ∷ rs)) (append-nil (preorder below)) in
        let fewer : left - 1 - forest_size below ≡ less = omega (arith, rest, size) in
        let alone : with_forest members (cut_forest (reached_forest goes nodes r) left) es ≡ with_last (ty_member r.ty) (object (pairs_of (with_forest members (cut_forest below (left - 1)) (members r)))) es =
        ap (λ f. with_forest members (cut_forest f left) es) (here_true nodes r g) ∙ ap (λ f. with_forest members f es) (cut_more left r below bare some) in
        ap (λ f. with_forest members (cut_forest f left) es) (gone_to nodes kids k r is g)
        ∙ ap (λ f. with_forest members f es) (cut_more left r below after some)
        ∙ ap (λ m. with_forest members (cut_forest after m) (with_last (ty_member r.ty) (object (pairs_of (with_forest members (cut_forest below (left - 1)) (members r)))) es)) fewer
        ∙ ap (with_forest members (cut_forest after less)) (sym (grew ∙ alone))
    | inr h ↦
        let nothing : less ≡ left - forest_size bare = rest ∙ ap (λ f. left - forest_size f) (here_false nodes r h) in
        let same : less ≡ left = omega (arith, nothing) in
        let kept : more ≡ es = grew ∙ ap (λ f. with_forest members (cut_forest f left) es) (here_false nodes r h) in
        ap (λ f. with_forest members (cut_forest f left) es) (passed nodes kids k r is h)
        ∙ ap (λ m. with_forest members (cut_forest (chain nodes (drop (k + 1) kids)) m) es) (sym same)
        ∙ ap (with_forest members (cut_forest (chain nodes (drop (k + 1) kids)) less)) (sym kept)
  ]

  pub sizes : (nodes kids : List ResourceData) (k left less : ℕ) (r : ResourceData) → slice_get kids k ≡ Some r → less ≡ left - forest_size (reached_forest goes nodes r) → left - forest_size (chain nodes (drop k kids)) ≡ less - forest_size (chain nodes (drop (k + 1) kids))
  sizes nodes kids k left less r is rest = elim (cases_Bool (goes r)) [
    | inl g ↦
        let below = forest_of goes r.number nodes in
        let size : forest_size (reached_forest goes nodes r) ≡ length (r ∷ preorder below) = ap forest_size (here_true nodes r g) ∙ ap (λ (rs : List ResourceData). length (r ∷ rs)) (append-nil (preorder below)) in
        let both = ap forest_size (gone_to nodes kids k r is g) in
        let sum = length-append (preorder below) (preorder (chain nodes (drop (k + 1) kids))) in
        omega (arith, both, sum, size, rest)
    | inr h ↦
        let nothing : less ≡ left - forest_size bare = rest ∙ ap (λ f. left - forest_size f) (here_false nodes r h) in
        let same : less ≡ left = omega (arith, nothing) in
        ap (λ f. left - forest_size f) (passed nodes kids k r is h) ∙ ap (λ m. m - forest_size (chain nodes (drop (k + 1) kids))) (sym same)
  ]

  -- no child is left, or nothing more is shown
  pub none_left : (members : ResourceData → List Entry) (nodes kids : List ResourceData) (k left : ℕ) (es : List Entry) → drop k kids ≡ [] → with_forest members (cut_forest (chain nodes (drop k kids)) left) es ≡ es
  none_left members nodes kids k left es ends = ap (λ rs. with_forest members (cut_forest (chain nodes rs) left) es) ends

  pub cut_to_nothing : (members : ResourceData → List Entry) (f : Forest) (es : List Entry) → with_forest members (cut_forest f 0) es ≡ es
  cut_to_nothing members bare es = refl
  cut_to_nothing members (rooted r kids more) es = refl

  -- a child that isn't gone to adds nothing
  pub skipped : (members : ResourceData → List Entry) (nodes : List ResourceData) (left : ℕ) (r : ResourceData) (es : List Entry) → goes r ≡ false → (es ≡ with_forest members (cut_forest (reached_forest goes nodes r) left) es) × (left ≡ left - forest_size (reached_forest goes nodes r))
  skipped members nodes left r es none =
      let nothing = here_false nodes r none in
      let same : left ≡ left - forest_size bare = omega arith in
      (ap (λ f. with_forest members (cut_forest f left) es) (sym nothing), same ∙ ap (λ f. left - forest_size f) (sym nothing))

  -- where nothing more is shown, or no child is left, all that is shown has been
  pub stopped : (members : ResourceData → List Entry) (f : Forest) (left n : ℕ) (es all : List Entry) → left ≡ 0 → with_forest members (cut_forest f left) es ≡ all → left - forest_size f ≡ n → (es ≡ all) × (left ≡ n)
  stopped members f left n es all nothing shown size =
      (sym (cut_to_nothing members f es) ∙ ap (λ m. with_forest members (cut_forest f m) es) (sym nothing) ∙ shown, omega (arith, nothing, size))

  pub ended : (members : ResourceData → List Entry) (nodes kids : List ResourceData) (k left n : ℕ) (es all : List Entry) → drop k kids ≡ [] → with_forest members (cut_forest (chain nodes (drop k kids)) left) es ≡ all → left - forest_size (chain nodes (drop k kids)) ≡ n → (es ≡ all) × (left ≡ n)
  ended members nodes kids k left n es all none shown size =
      let same : left ≡ left - forest_size bare = omega arith in
      let less : left - forest_size bare ≡ n = sym (ap (λ rs. left - forest_size (chain nodes rs)) none) ∙ size in
      (sym (none_left members nodes kids k left es none) ∙ shown, same ∙ less)
