-- What is shown is what is reached by going down through what the originator may retrieve.
use Rattle.retrieve_laws.proofs.Words.{◌≡◌, ℕ, ◌<◌, List, [], ◌∷◌, ◌++◌, Bool, true, false, cond, ◌&&◌, Some, inl, inr, refl, sym, ap, ◌∙◌, arith, filter, list_all}
use Rattle.retrieve_laws.proofs.Terms.{ResourceData, at, is_tree, is_under, line_of, below, forest_of, line_up_to, line_below, preorder}
use Rattle.retrieve_laws.proofs.Facts.{cases_Bool, cond_both, eq-eqb, eqb-true, ne_eqb, and_right, append_assoc, filter-append, stands, at_number, in_order-tree}
use Rattle.std.proofs.lemmas.List.Folds.{list_all-append}
use Rattle.retrieve_laws.proofs.FoundLemmas.{Each, IsFound, each_found}
use Rattle.std.proofs.Math.Bool.{and-true}

-- what holds of each of two lists holds of each of both
each-append : (P : ResourceData → Type 0) (xs ys : List ResourceData) → Each P xs → Each P ys → Each P (xs ++ ys)
each-append P [] ys first second = second
each-append P (x ∷ xs) ys first second = (first.0, each-append P xs ys first.1 second)

each-below : (P : ResourceData → Type 0) (nodes : List ResourceData) (n : ℕ) → Each P nodes → Each P (below n nodes)
each-below P [] n each = tt
each-below P (r ∷ later) n each =
    cond_both (is_under n r) (r ∷ (below r.number later ++ below n later)) (below n later) (Each P)
    (λ t. (each.0, each-append P (below r.number later) (below n later) (each-below P later r.number each.1) (each-below P later n each.1)))
    (λ f. each-below P later n each.1)

pub filter-each : (p q : ResourceData → Bool) (rs : List ResourceData) → Each (λ r. p r ≡ q r) rs → filter p rs ≡ filter q rs
filter-each p q [] each = refl
filter-each p q (r ∷ rs) each = rw each.0 (ap (λ ys. cond (q r) (r ∷ ys) ys) (filter-each p q rs each.1))

filter_none : (p : ResourceData → Bool) (rs : List ResourceData) → Each (λ r. p r ≡ false) rs → filter p rs ≡ []
filter_none p [] each = refl
filter_none p (r ∷ rs) each = rw each.0 (filter_none p rs each.1)

-- what stands below a resource of the tree, or is found at a number
pub each_below_found : (nodes : List ResourceData) (n : ℕ) → is_tree nodes ≡ true → Each (IsFound nodes) (below n nodes)
each_below_found nodes n tree = each-below (IsFound nodes) nodes n (each_found nodes (in_order-tree nodes tree))

module _ (nodes : List ResourceData) (tree : is_tree nodes ≡ true) where
  -- a line up to its first is empty
  line_to_itself : (m : ℕ) (t : ResourceData) → at m nodes ≡ Some t → line_up_to m (line_of m nodes) ≡ []
  line_to_itself m t found =
      ap (line_up_to m) (stands nodes tree m t found).line ∙ rw (eq-eqb t.number m (at_number m nodes t found)) refl

  -- that of a child goes one up
  line_of_child : (n m : ℕ) (r : ResourceData) → IsFound nodes r → r.parent ≡ m → n < r.number → line_up_to n (line_of r.number nodes) ≡ r ∷ line_up_to n (line_of m nodes)
  line_of_child n m r found under less =
      ap (line_up_to n) (stands nodes tree r.number r found).line
      ∙ rw (ne_eqb r.number n (λ e. omega (arith, less, e))) (ap (λ k. r ∷ line_up_to n (line_of k nodes)) under)

  -- the line from below a resource up to another goes through it
  abbrev GoesThrough : ℕ → ℕ → ResourceData → Type 0
  GoesThrough n m s = line_up_to n (line_of s.number nodes) ≡ line_up_to m (line_of s.number nodes) ++ line_up_to n (line_of m nodes)

  above_of : (r : ResourceData) (m : ℕ) → IsFound nodes r → is_under m r ≡ true → m < r.number
  above_of r m found under =
      let up : r.parent < r.number = (stands nodes tree r.number r found).above in
      omega (arith, up, eqb-true r.parent m under)

  through : (later : List ResourceData) (m : ℕ) (t : ResourceData) → at m nodes ≡ Some t → Each (IsFound nodes) later → (n : ℕ) → n < m → Each (GoesThrough n m) (below m later)
  through [] m t there each n less = tt
  through (r ∷ later) m t there each n less = elim (cases_Bool (is_under m r)) [
    | inl u ↦
        let under : r.parent ≡ m = eqb-true r.parent m u in
        let higher : m < r.number = above_of r m each.0 u in
        let own : line_up_to m (line_of r.number nodes) ≡ r ∷ [] = line_of_child m m r each.0 under higher ∙ ap (λ rs. r ∷ rs) (line_to_itself m t there) in
        let up : line_up_to n (line_of r.number nodes) ≡ r ∷ line_up_to n (line_of m nodes) = line_of_child n m r each.0 under (omega (arith, less, higher)) in
        let here : GoesThrough n m r = up ∙ ap (λ rs. rs ++ line_up_to n (line_of m nodes)) (sym own) in
        let first = through later r.number r each.0 each.1 n (omega (arith, less, higher)) in
        let second = through later r.number r each.0 each.1 m higher in
        rw u (here, each-append (GoesThrough n m) (below r.number later) (below m later) (both r m n (below r.number later) own up first second) (through later m t there each.1 n less))
    | inr f ↦ rw f (through later m t there each.1 n less)
  ]
    where
      both : (r : ResourceData) (m n : ℕ) (rs : List ResourceData) → line_up_to m (line_of r.number nodes) ≡ r ∷ [] → line_up_to n (line_of r.number nodes) ≡ r ∷ line_up_to n (line_of m nodes) → Each (GoesThrough n r.number) rs → Each (GoesThrough m r.number) rs → Each (GoesThrough n m) rs
      both r m n [] own up first second = tt
      both r m n (s ∷ rs) own up first second =
          let front = line_up_to r.number (line_of s.number nodes) in
          let here : GoesThrough n m s =
          first.0 ∙ ap (λ xs. front ++ xs) up
          ∙ sym (append_assoc front (r ∷ []) (line_up_to n (line_of m nodes)))
          ∙ ap (λ xs. xs ++ line_up_to n (line_of m nodes)) (sym (second.0 ∙ ap (λ xs. front ++ xs) own)) in
          (here, both r m n rs own up first.1 second.1)

  module _ (goes : ResourceData → Bool) where
    abbrev passes : ℕ → ResourceData → Bool
    passes n s = list_all goes (line_below n nodes s)

    -- where a resource is gone through, what is below it passes as from there
    passes_through : (n : ℕ) (r : ResourceData) (b : Bool) (rs : List ResourceData) → passes n r ≡ b → Each (GoesThrough n r.number) rs → Each (λ s. passes n s ≡ (passes r.number s && b)) rs
    passes_through n r b [] is each = tt
    passes_through n r b (s ∷ rs) is each =
        let here : passes n s ≡ (passes r.number s && b) =
        ap (list_all goes) each.0
        ∙ list_all-append goes (line_up_to r.number (line_of s.number nodes)) (line_up_to n (line_of r.number nodes))
        ∙ ap (λ c. passes r.number s && c) is in
        (here, passes_through n r b rs is each.1)

    all_same : (n : ℕ) (r : ResourceData) (rs : List ResourceData) → Each (λ s. passes n s ≡ (passes r.number s && true)) rs → Each (λ s. passes n s ≡ passes r.number s) rs
    all_same n r [] each = tt
    all_same n r (s ∷ rs) each = (each.0 ∙ and-true (passes r.number s), all_same n r rs each.1)

    all_none : (n : ℕ) (r : ResourceData) (rs : List ResourceData) → Each (λ s. passes n s ≡ (passes r.number s && false)) rs → Each (λ s. passes n s ≡ false) rs
    all_none n r [] each = tt
    all_none n r (s ∷ rs) each = (each.0 ∙ and_right (passes r.number s) false refl, all_none n r rs each.1)

    reaches : (later : List ResourceData) (n : ℕ) (t : ResourceData) → at n nodes ≡ Some t → Each (IsFound nodes) later → filter (passes n) (below n later) ≡ preorder (forest_of goes n later)
    reaches [] n t there each = refl
    reaches (r ∷ later) n t there each = elim (cases_Bool (is_under n r)) [
      | inl u ↦
          let under : r.parent ≡ n = eqb-true r.parent n u in
          let higher : n < r.number = above_of r n each.0 u in
          let own : line_up_to n (line_of r.number nodes) ≡ r ∷ [] = line_of_child n n r each.0 under higher ∙ ap (λ rs. r ∷ rs) (line_to_itself n t there) in
          let passing : passes n r ≡ goes r = ap (list_all goes) own ∙ and-true (goes r) in
          let first = through later r.number r each.0 each.1 n higher in
          let rest = reaches later n t there each.1 in
          let split = filter-append (passes n) (below r.number later) (below n later) in
          elim (cases_Bool (goes r)) [
            | inl g ↦
                let kept : filter (passes n) (below r.number later) ≡ preorder (forest_of goes r.number later) =
                filter-each (passes n) (passes r.number) (below r.number later) (all_same n r (below r.number later) (passes_through n r true (below r.number later) (passing ∙ g) first))
                ∙ reaches later r.number r each.0 each.1 in
                rw (u, passing ∙ g, g) (ap (λ rs. r ∷ rs) (split ∙ ap (λ rs. rs ++ filter (passes n) (below n later)) kept ∙ ap (λ rs. preorder (forest_of goes r.number later) ++ rs) rest))
            | inr h ↦
                let none : filter (passes n) (below r.number later) ≡ [] =
                filter_none (passes n) (below r.number later) (all_none n r (below r.number later) (passes_through n r false (below r.number later) (passing ∙ h) first)) in
                rw (u, passing ∙ h, h) (split ∙ ap (λ rs. rs ++ filter (passes n) (below n later)) none ∙ rest)
          ]
      | inr f ↦ rw f (reaches later n t there each.1)
    ]

    -- a filter by the line below a resource goes down from it
    pub filtered_is_reached : (n : ℕ) (t : ResourceData) → at n nodes ≡ Some t → filter (passes n) (below n nodes) ≡ preorder (forest_of goes n nodes)
    filtered_is_reached n t there = reaches nodes n t there (each_found nodes (in_order-tree nodes tree))
