-- What a map of resources keeps that keeps numbers and parents.
use Rattle.sight_laws.proofs.Words.{◌==◌, ◌≡◌, ℕ, ◌-◌, List, [], ◌∷◌, ◌++◌, length, map, reverse, Bool, ◌&&◌, refl, sym, ap, ap₂, ◌∙◌, filter}
use Rattle.sight_laws.proofs.Terms.{ResourceData, has_number, children_of, is_under, line_from, line_of, Forest, bare, rooted, below, cut_forest, forest_of, preorder, forest_size}
use Rattle.sight_laws.proofs.Facts.{length-map, map-append, reverse-append, both_chosen, same_chosen}
use Rattle.retrieve_laws.proofs.FoundLemmas.{Each}

module _ (g : ResourceData → ResourceData) where
  -- a filter by a test that the map keeps
  pub filter-map : (q p : ResourceData → Bool) (rs : List ResourceData) → Each (λ r. q (g r) ≡ p r) rs → filter q (map g rs) ≡ map g (filter p rs)
  filter-map q p [] each = refl
  filter-map q p (r ∷ rs) each =
      same_chosen (λ (us vs : List ResourceData). us ≡ map g vs) _ _ _ _ _ _ each.0 (λ t. ap (λ (xs : List ResourceData). g r ∷ xs) (filter-map q p rs each.1)) (λ f. filter-map q p rs each.1)

  reverse-map : (rs : List ResourceData) → reverse (map g rs) ≡ map g (reverse rs)
  reverse-map [] = refl
  reverse-map (r ∷ rs) =
      reverse-append (g r ∷ []) (map g rs)
      ∙ ap (λ xs. xs ++ g r ∷ []) (reverse-map rs)
      ∙ sym (ap (map g) (reverse-append (r ∷ []) rs) ∙ map-append g (reverse rs) (r ∷ []))

  -- a forest, resource by resource
  abbrev pub map_forest : Forest → Forest
  map_forest bare = bare
  map_forest (rooted r kids more) = rooted (g r) (map_forest kids) (map_forest more)

  preorder-map : (f : Forest) → preorder (map_forest f) ≡ map g (preorder f)
  preorder-map bare = refl
  preorder-map (rooted r kids more) =
      ap (λ rs. g r ∷ (rs ++ preorder (map_forest more))) (preorder-map kids)
      ∙ ap (λ rs. g r ∷ (map g (preorder kids) ++ rs)) (preorder-map more)
      ∙ ap (λ rs. g r ∷ rs) (sym (map-append g (preorder kids) (preorder more)))

  size-map : (f : Forest) → forest_size (map_forest f) ≡ forest_size f
  size-map f = ap (λ (rs : List ResourceData). length rs) (preorder-map f) ∙ length-map (preorder f) g

  pub cut-map : (f : Forest) (m : ℕ) → cut_forest (map_forest f) m ≡ map_forest (cut_forest f m)
  cut-map bare m = refl
  cut-map (rooted r kids more) m =
      both_chosen (λ (x y : Forest). x ≡ map_forest y) (m == 0) _ _ _ _ (λ t. refl)
      (λ f. ap (λ (k : ℕ). rooted (g r) (cut_forest (map_forest kids) (m - 1)) (cut_forest (map_forest more) (m - 1 - k))) (size-map kids)
      ∙ ap (λ (x : Forest). rooted (g r) x (cut_forest (map_forest more) (m - 1 - forest_size kids))) (cut-map kids (m - 1))
      ∙ ap (rooted (g r) (map_forest (cut_forest kids (m - 1)))) (cut-map more (m - 1 - forest_size kids)))

  module _ (number : (r : ResourceData) → (g r).number ≡ r.number) (parent : (r : ResourceData) → (g r).parent ≡ r.parent) where
    under-map : (n : ℕ) (r : ResourceData) → is_under n (g r) ≡ is_under n r
    under-map n r = ap (λ (m : ℕ). m == n) (parent r)

    pub below-map : (rs : List ResourceData) (n : ℕ) → below n (map g rs) ≡ map g (below n rs)
    below-map [] n = refl
    below-map (r ∷ rs) n =
        same_chosen (λ (us vs : List ResourceData). us ≡ map g vs) _ _ _ _ _ _ (under-map n r)
        (λ t. ap (λ (k : ℕ). g r ∷ (below k (map g rs) ++ below n (map g rs))) (number r)
        ∙ ap (λ (xs : List ResourceData). g r ∷ (xs ++ below n (map g rs))) (below-map rs r.number)
        ∙ ap (λ (xs : List ResourceData). g r ∷ (map g (below r.number rs) ++ xs)) (below-map rs n)
        ∙ ap (λ (xs : List ResourceData). g r ∷ xs) (sym (map-append g (below r.number rs) (below n rs))))
        (λ f. below-map rs n)

    each_under : (n : ℕ) (rs : List ResourceData) → Each (λ r. is_under n (g r) ≡ is_under n r) rs
    each_under n [] = tt
    each_under n (r ∷ rs) = (under-map n r, each_under n rs)

    pub children-map : (n : ℕ) (rs : List ResourceData) → children_of n (map g rs) ≡ map g (children_of n rs)
    children-map n rs = filter-map (is_under n) (is_under n) rs (each_under n rs)

    line_from-map : (rs : List ResourceData) (n : ℕ) → line_from n (map g rs) ≡ map g (line_from n rs)
    line_from-map [] n = refl
    line_from-map (r ∷ rs) n =
        let same : has_number n (g r) ≡ has_number n r = ap (λ (m : ℕ). m == n) (number r) in
        same_chosen (λ (us vs : List ResourceData). us ≡ map g vs) _ _ _ _ _ _ same
        (λ t. ap (λ (k : ℕ). g r ∷ line_from k (map g rs)) (parent r) ∙ ap (λ (xs : List ResourceData). g r ∷ xs) (line_from-map rs r.parent))
        (λ f. line_from-map rs n)

    pub line-map : (rs : List ResourceData) (n : ℕ) → line_of n (map g rs) ≡ map g (line_of n rs)
    line-map rs n = ap (line_from n) (reverse-map rs) ∙ line_from-map (reverse rs) n

    pub forest_of-map : (goes had : ResourceData → Bool) → ((r : ResourceData) → goes (g r) ≡ had r) → (rs : List ResourceData) (n : ℕ) → forest_of goes n (map g rs) ≡ map_forest (forest_of had n rs)
    forest_of-map goes had same [] n = refl
    forest_of-map goes had same (r ∷ rs) n =
        same_chosen (λ (x y : Forest). x ≡ map_forest y) _ _ _ _ _ _ (ap₂ (λ (a b : Bool). a && b) (under-map n r) (same r))
        (λ t. ap (λ (k : ℕ). rooted (g r) (forest_of goes k (map g rs)) (forest_of goes n (map g rs))) (number r)
        ∙ ap (λ (x : Forest). rooted (g r) x (forest_of goes n (map g rs))) (forest_of-map goes had same rs r.number)
        ∙ ap (rooted (g r) (map_forest (forest_of had r.number rs))) (forest_of-map goes had same rs n))
        (λ f. forest_of-map goes had same rs n)
