-- Children, instances, channels, sizes, ids and depth: under an append, a replacement and a removal.
-- Due moments stand in QuietLemmas.
use Rattle.std.specs.Prelude.{◌==◌}
use Rattle.std.proofs.Common.{◌≡◌, ℕ, ◌+◌, ◌≤◌, List, [], ◌∷◌, ◌++◌, length, map, reverse, find, Bool, true, false, cond, not, ◌&&◌, ◌||◌, Some, inl, inr, refl, sym, ap, ◌∙◌, subst, arith}
use Rattle.std.proofs.lemmas.Bool.{cases_Bool, and_parts, or_parts, eq-eqb, eqb-true, both_ways, false_from_ne_true}
use Rattle.std.proofs.lemmas.List.{append-nil, length-map, map-append, reverse-append}
use Rattle.std.proofs.lemmas.List.Elements.{filter-append}
use Rattle.std.proofs.lemmas.List.Sums.{sum_by-cons}
use Rattle.std.specs.List.{filter, list_any, sum_by}
use Rattle.resource_model.specs.Resource.{ResourceData, has_number}
use Rattle.tree_model.specs.Tree.{at, has, resource_number, replaced, line_from, line_of, level_of, stays, staying, without, is_spared, may_stand, is_tree}
use Rattle.tree_model.proofs.GrowthLemmas.{IsNext, growth, next_fits, below_lacks, line-append, spared_new, stays_spared}
use Rattle.tree_model.proofs.KeptLemmas.{map-replaced_same, is_tree-without, without-snoc}
use Rattle.tree_model.proofs.TreeLemmas.{at_number, has-append, staying_any}

-- ---- what a filter picks, as children, instances, subscriptions and channels are picked

pub picked-append : (p : ResourceData → Bool) (nodes : List ResourceData) (r : ResourceData) → filter p (nodes ++ r ∷ []) ≡ filter p nodes ++ filter p (r ∷ [])
picked-append p nodes r = filter-append p nodes (r ∷ [])

-- where what takes a place is picked as what had it
pub picked-replaced : (p : ResourceData → Bool) (r : ResourceData) (nodes : List ResourceData) → ((s : ResourceData) → at r.number nodes ≡ Some s → p s ≡ p r) → p r ≡ true → filter p (replaced r nodes) ≡ replaced r (filter p nodes)
picked-replaced p r [] same picked = refl
picked-replaced p r (s ∷ nodes) same picked = elim (cases_Bool (has_number r.number s)) [
  | inl t ↦ rw (t, picked, same s (rw t refl) ∙ picked, t) refl
  | inr f ↦ elim (cases_Bool (p s)) [
    | inl u ↦ rw (f, u, f) (ap (λ rest. s ∷ rest) (picked-replaced p r nodes (λ x found. same x (rw f found)) picked))
    | inr v ↦ rw (f, v) (picked-replaced p r nodes (λ x found. same x (rw f found)) picked)
  ]
]

pub unpicked-replaced : (p : ResourceData → Bool) (r : ResourceData) (nodes : List ResourceData) → ((s : ResourceData) → at r.number nodes ≡ Some s → p s ≡ p r) → p r ≡ false → filter p (replaced r nodes) ≡ filter p nodes
unpicked-replaced p r [] same out = refl
unpicked-replaced p r (s ∷ nodes) same out = elim (cases_Bool (has_number r.number s)) [
  | inl t ↦ rw (t, out, same s (rw t refl) ∙ out) refl
  | inr f ↦ elim (cases_Bool (p s)) [
    | inl u ↦ rw (f, u) (ap (λ rest. s ∷ rest) (unpicked-replaced p r nodes (λ x found. same x (rw f found)) out))
    | inr v ↦ rw (f, v) (unpicked-replaced p r nodes (λ x found. same x (rw f found)) out)
  ]
]

filter_both : (p q : ResourceData → Bool) (nodes : List ResourceData) → filter p (filter q nodes) ≡ filter (λ r. q r && p r) nodes
filter_both p q [] = refl
filter_both p q (r ∷ nodes) = elim (cases_Bool (q r)) [
  | inl t ↦ elim (cases_Bool (p r)) [
    | inl u ↦ rw (t, u) (ap (λ rest. r ∷ rest) (filter_both p q nodes))
    | inr v ↦ rw (t, v) (filter_both p q nodes)
  ]
  | inr f ↦ rw f (filter_both p q nodes)
]

-- ---- sizes

-- where what takes a place is picked as what had it, and has its size
pub sum-replaced : (p : ResourceData → Bool) (size : ResourceData → ℕ) (r : ResourceData) (nodes : List ResourceData) → ((s : ResourceData) → at r.number nodes ≡ Some s → (p s ≡ p r) × (size s ≡ size r)) → sum_by size (filter p (replaced r nodes)) ≡ sum_by size (filter p nodes)
sum-replaced p size r [] same = refl
sum-replaced p size r (s ∷ nodes) same = elim (cases_Bool (has_number r.number s)) [
  | inl t ↦
      let old : (p s ≡ p r) × (size s ≡ size r) = same s (rw t refl) in
      elim (cases_Bool (p r)) [
        | inl u ↦
            let new : sum_by size (r ∷ filter p nodes) ≡ sum_by size (s ∷ filter p nodes) =
            sum_by-cons size r (filter p nodes) ∙ ap (λ n. n + sum_by size (filter p nodes)) (sym old.1) ∙ sym (sum_by-cons size s (filter p nodes)) in
            rw (t, u, old.0 ∙ u) new
        | inr v ↦ rw (t, v, old.0 ∙ v) refl
      ]
  | inr f ↦
      let rest : sum_by size (filter p (replaced r nodes)) ≡ sum_by size (filter p nodes) = sum-replaced p size r nodes (λ x found. same x (rw f found)) in
      elim (cases_Bool (p s)) [
        | inl u ↦
            let kept : sum_by size (s ∷ filter p (replaced r nodes)) ≡ sum_by size (s ∷ filter p nodes) =
            sum_by-cons size s (filter p (replaced r nodes)) ∙ ap (λ n. size s + n) rest ∙ sym (sum_by-cons size s (filter p nodes)) in
            rw (f, u) kept
        | inr v ↦ rw (f, v) rest
      ]
]

-- a removal makes no count and no sum greater
pub count-without : (picks q : ResourceData → Bool) (stayed nodes : List ResourceData) → length (filter q (staying picks stayed nodes)) ≤ length (filter q nodes)
count-without picks q stayed [] = omega arith
count-without picks q stayed (r ∷ nodes) = elim (cases_Bool (stays picks stayed r)) [
  | inl t ↦ elim (cases_Bool (q r)) [
    | inl u ↦ rw (t, u) (omega (arith, count-without picks q (stayed ++ r ∷ []) nodes))
    | inr v ↦ rw (t, v) (count-without picks q (stayed ++ r ∷ []) nodes)
  ]
  | inr f ↦ elim (cases_Bool (q r)) [
    | inl u ↦ rw (f, u) (omega (arith, count-without picks q stayed nodes))
    | inr v ↦ rw (f, v) (count-without picks q stayed nodes)
  ]
]

pub sum-without : (picks q : ResourceData → Bool) (size : ResourceData → ℕ) (stayed nodes : List ResourceData) → sum_by size (filter q (staying picks stayed nodes)) ≤ sum_by size (filter q nodes)
sum-without picks q size stayed [] = omega arith
sum-without picks q size stayed (r ∷ nodes) = elim (cases_Bool (stays picks stayed r)) [
  | inl t ↦ elim (cases_Bool (q r)) [
    | inl u ↦
        let rest : sum_by size (filter q (staying picks (stayed ++ r ∷ []) nodes)) ≤ sum_by size (filter q nodes) = sum-without picks q size (stayed ++ r ∷ []) nodes in
        let left : sum_by size (filter q (staying picks stayed (r ∷ nodes))) ≡ size r + sum_by size (filter q (staying picks (stayed ++ r ∷ []) nodes)) = rw (t, u) (sum_by-cons size r (filter q (staying picks (stayed ++ r ∷ []) nodes))) in
        let all : sum_by size (filter q (r ∷ nodes)) ≡ size r + sum_by size (filter q nodes) = rw u (sum_by-cons size r (filter q nodes)) in
        omega arith
    | inr v ↦ rw (t, v) (sum-without picks q size (stayed ++ r ∷ []) nodes)
  ]
  | inr f ↦ elim (cases_Bool (q r)) [
    | inl u ↦
        let rest : sum_by size (filter q (staying picks stayed nodes)) ≤ sum_by size (filter q nodes) = sum-without picks q size stayed nodes in
        let left : sum_by size (filter q (staying picks stayed (r ∷ nodes))) ≡ sum_by size (filter q (staying picks stayed nodes)) = rw f refl in
        let all : sum_by size (filter q (r ∷ nodes)) ≡ size r + sum_by size (filter q nodes) = rw u (sum_by-cons size r (filter q nodes)) in
        omega arith
    | inr v ↦ rw (f, v) (sum-without picks q size stayed nodes)
  ]
]

-- ---- whether something is there, as AE-IDs, CSE-IDs and channels are

-- what has a test that the new one passes as the old one did, the list has as before
pub any-replaced : (p : ResourceData → Bool) (r : ResourceData) (nodes : List ResourceData) → ((s : ResourceData) → at r.number nodes ≡ Some s → p s ≡ p r) → list_any p (replaced r nodes) ≡ list_any p nodes
any-replaced p r [] same = refl
any-replaced p r (s ∷ nodes) same = elim (cases_Bool (has_number r.number s)) [
  | inl t ↦ rw (t, same s (rw t refl)) refl
  | inr f ↦ rw f (ap (λ b. p s || b) (any-replaced p r nodes (λ x found. same x (rw f found))))
]

any_both : (p q : ResourceData → Bool) (nodes : List ResourceData) → list_any p (filter q nodes) ≡ list_any (λ r. q r && p r) nodes
any_both p q [] = refl
any_both p q (r ∷ nodes) = elim (cases_Bool (q r)) [
  | inl t ↦ rw t (ap (λ b. p r || b) (any_both p q nodes))
  | inr f ↦ rw f (any_both p q nodes)
]

-- what isn't there isn't there after a removal
pub none-without : (p picks : ResourceData → Bool) (nodes : List ResourceData) → list_any p nodes ≡ false → list_any p (without picks nodes) ≡ false
none-without p picks nodes none = false_from_ne_true _ (λ t. both_ways _ none (staying_any picks p [] nodes t))

-- ---- who is found, by an AE-ID, a CSE-ID, or as a channel

-- where what takes a place passes as what had it
pub found-replaced : (p : ResourceData → Bool) (r : ResourceData) (nodes : List ResourceData) → ((s : ResourceData) → at r.number nodes ≡ Some s → p s ≡ p r) → resource_number (find p (replaced r nodes)) ≡ resource_number (find p nodes)
found-replaced p r [] same = refl
found-replaced p r (s ∷ nodes) same = elim (cases_Bool (has_number r.number s)) [
  | inl t ↦ elim (cases_Bool (p r)) [
    | inl u ↦ rw (t, u, same s (rw t refl) ∙ u) (ap (λ (n : ℕ). Some n) (sym (eqb-true s.number r.number t)))
    | inr v ↦ rw (t, v, same s (rw t refl) ∙ v) refl
  ]
  | inr f ↦ elim (cases_Bool (p s)) [
    | inl u ↦ rw (f, u) refl
    | inr v ↦ rw (f, v) (found-replaced p r nodes (λ x found. same x (rw f found)))
  ]
]

find_both : (p q : ResourceData → Bool) (nodes : List ResourceData) → find p (filter q nodes) ≡ find (λ r. q r && p r) nodes
find_both p q [] = refl
find_both p q (r ∷ nodes) = elim (cases_Bool (q r)) [
  | inl t ↦ elim (cases_Bool (p r)) [
    | inl u ↦ rw (t, u) refl
    | inr v ↦ rw (t, v) (find_both p q nodes)
  ]
  | inr f ↦ rw f (find_both p q nodes)
]

-- ---- depth

pub level_of-append : (n : ℕ) (nodes : List ResourceData) (r : ResourceData) → level_of n (nodes ++ r ∷ []) ≡ cond (has_number n r) (level_of r.parent nodes + 1) (level_of n nodes)
level_of-append n nodes r = ap length (line-append n nodes r) ∙ elim (cases_Bool (has_number n r)) [
  | inl t ↦ rw t (omega arith)
  | inr f ↦ rw f refl
]

-- a map that keeps numbers and parents keeps how deep each resource stands
module _ (g : ResourceData → ResourceData) (number : (r : ResourceData) → (g r).number ≡ r.number) (parent : (r : ResourceData) → (g r).parent ≡ r.parent) where
  line_from-map : (n : ℕ) (older : List ResourceData) → line_from n (map g older) ≡ map g (line_from n older)
  line_from-map n [] = refl
  line_from-map n (r ∷ older) =
      let up : line_from (g r).parent (map g older) ≡ map g (line_from r.parent older) = ap (λ (m : ℕ). line_from m (map g older)) (parent r) ∙ line_from-map r.parent older in
      elim (cases_Bool (has_number n r)) [
        | inl t ↦ let u : has_number n (g r) ≡ true = ap (λ (m : ℕ). m == n) (number r) ∙ t in rw (u, t) (ap (λ rest. g r ∷ rest) up)
        | inr f ↦ let u : has_number n (g r) ≡ false = ap (λ (m : ℕ). m == n) (number r) ∙ f in rw (u, f) (line_from-map n older)
      ]

  reverse-map : (nodes : List ResourceData) → reverse (map g nodes) ≡ map g (reverse nodes)
  reverse-map [] = refl
  reverse-map (r ∷ nodes) =
      reverse-append (g r ∷ []) (map g nodes)
      ∙ ap (λ (front : List ResourceData). front ++ g r ∷ []) (reverse-map nodes)
      ∙ sym (map-append g (reverse nodes) (r ∷ []))
      ∙ ap (map g) (sym (reverse-append (r ∷ []) nodes))

  pub level_of-map : (n : ℕ) (nodes : List ResourceData) → level_of n (map g nodes) ≡ level_of n nodes
  level_of-map n nodes = ap length (ap (line_from n) (reverse-map nodes) ∙ line_from-map n (reverse nodes)) ∙ length-map (line_of n nodes) g

module _ (r : ResourceData) where
  -- of a resource only number and parent are left
  abbrev placed : ResourceData → ResourceData
  placed s = record r { number = s.number; parent = s.parent }

  placed_same : (s : ResourceData) → s.number ≡ r.number → s.parent ≡ r.parent → placed s ≡ placed r
  placed_same s number parent =
      ap (λ (m : ℕ). record r { number = m; parent = s.parent }) number
      ∙ ap (λ (m : ℕ). record r { number = r.number; parent = m }) parent

  -- what takes a place under the parent of what had it keeps how deep each resource stands
  pub level_of-replaced : (n : ℕ) (nodes : List ResourceData) → ((s : ResourceData) → at r.number nodes ≡ Some s → s.parent ≡ r.parent) → level_of n (replaced r nodes) ≡ level_of n nodes
  level_of-replaced n nodes same =
      sym (level_of-map placed (λ _. refl) (λ _. refl) n (replaced r nodes))
      ∙ ap (level_of n) (map-replaced_same placed r nodes (λ s found. placed_same s (at_number r.number nodes s found) (same s found)))
      ∙ level_of-map placed (λ _. refl) (λ _. refl) n nodes

-- what isn't there has no line
pub line_none : (n : ℕ) (nodes : List ResourceData) → is_tree nodes ≡ true → has n nodes ≡ false → line_of n nodes ≡ []
line_none n nodes tree = growth may_stand (λ nodes. has n nodes ≡ false → line_of n nodes ≡ []) (λ _. refl) (λ before r grew next holds lacks.
    let parts = or_parts (has n before) (has n (r ∷ [])) (sym (has-append n before (r ∷ [])) ∙ lacks) in
    let apart : has_number n r ≡ false = (or_parts (has_number n r) false parts.1).0 in
    line-append n before r ∙ rw apart (holds parts.0)) nodes tree

-- what a removal leaves of the line of a number
abbrev LeavesLine : (ResourceData → Bool) → List ResourceData → ℕ → Type 0
LeavesLine p nodes n = line_of n (without p nodes) ≡ cond (is_spared p nodes n) (line_of n nodes) []

module _ (p : ResourceData → Bool) (before : List ResourceData) (r : ResourceData) (tree : is_tree before ≡ true) (next : IsNext before r) (holds : (n : ℕ) → LeavesLine p before n) where
  left_with : stays p (without p before) r ≡ true → without p (before ++ r ∷ []) ≡ without p before ++ r ∷ []
  left_with t = without-snoc p before r ∙ ap (λ b. without p before ++ cond b (r ∷ []) []) t

  left_alone : stays p (without p before) r ≡ false → without p (before ++ r ∷ []) ≡ without p before
  left_alone f = without-snoc p before r ∙ ap (λ b. without p before ++ cond b (r ∷ []) []) f ∙ append-nil (without p before)

  own : (nodes : List ResourceData) → line_of r.number (nodes ++ r ∷ []) ≡ r ∷ line_of r.parent nodes
  own nodes = line-append r.number nodes r ∙ rw (eq-eqb r.number r.number refl) refl

  other : (n : ℕ) (nodes : List ResourceData) → has_number n r ≡ false → line_of n (nodes ++ r ∷ []) ≡ line_of n nodes
  other n nodes apart = line-append n nodes r ∙ rw apart refl

  last_kept : stays p (without p before) r ≡ true → LeavesLine p (before ++ r ∷ []) r.number
  last_kept t =
      let spared : is_spared p (before ++ r ∷ []) r.number ≡ true = sym (stays_spared p before r tree next) ∙ t in
      let up : is_spared p before r.parent ≡ true = (and_parts (not (p r)) (is_spared p before r.parent) (sym (spared_new p before r) ∙ spared)).1 in
      let above : line_of r.parent (without p before) ≡ line_of r.parent before = holds r.parent ∙ ap (λ b. cond b (line_of r.parent before) []) up in
      ap (line_of r.number) (left_with t) ∙ own (without p before) ∙ ap (λ (rest : List ResourceData). r ∷ rest) above ∙ sym (own before)
      ∙ sym (ap (λ b. cond b (line_of r.number (before ++ r ∷ [])) []) spared)

  last_gone : stays p (without p before) r ≡ false → LeavesLine p (before ++ r ∷ []) r.number
  last_gone f =
      let spared : is_spared p (before ++ r ∷ []) r.number ≡ false = sym (stays_spared p before r tree next) ∙ f in
      let lacks : has r.number (without p before) ≡ false = none-without (has_number r.number) p before (below_lacks r.number before next.number) in
      ap (line_of r.number) (left_alone f) ∙ line_none r.number (without p before) (is_tree-without p before tree) lacks
      ∙ sym (ap (λ b. cond b (line_of r.number (before ++ r ∷ [])) []) spared)

  earlier_left : (n : ℕ) → has_number n r ≡ false → line_of n (without p (before ++ r ∷ [])) ≡ line_of n (without p before)
  earlier_left n apart = elim (cases_Bool (stays p (without p before) r)) [
    | inl t ↦ ap (line_of n) (left_with t) ∙ other n (without p before) apart
    | inr f ↦ ap (line_of n) (left_alone f)
  ]

  leaves_more : (n : ℕ) → LeavesLine p (before ++ r ∷ []) n
  leaves_more n = elim (cases_Bool (has_number n r)) [
    | inl here ↦ subst (LeavesLine p (before ++ r ∷ [])) (eqb-true r.number n here) (elim (cases_Bool (stays p (without p before) r)) [
      | inl t ↦ last_kept t
      | inr f ↦ last_gone f
    ])
    | inr apart ↦ earlier_left n apart ∙ holds n ∙ sym (ap (λ (line : List ResourceData). cond (not (list_any p line)) line []) (other n before apart))
  ]

-- a removal leaves the whole line of what it spares, and none of what it takes
pub line-without : (p : ResourceData → Bool) (nodes : List ResourceData) → is_tree nodes ≡ true → (n : ℕ) → line_of n (without p nodes) ≡ cond (is_spared p nodes n) (line_of n nodes) []
line-without p = growth may_stand (λ nodes. (n : ℕ) → LeavesLine p nodes n) (λ n. refl) (λ before r tree next holds. leaves_more p before r tree (next_fits before r next) holds)

pub level_of-without : (p : ResourceData → Bool) (nodes : List ResourceData) → is_tree nodes ≡ true → (n : ℕ) → level_of n (without p nodes) ≡ cond (is_spared p nodes n) (level_of n nodes) 0
level_of-without p nodes tree n = ap length (line-without p nodes tree n) ∙ length_of (is_spared p nodes n) (line_of n nodes)
  where
    length_of : (b : Bool) (line : List ResourceData) → length (cond b line []) ≡ cond b (length line) 0
    length_of true line = refl
    length_of false line = refl

-- and so a removal makes nothing stand deeper
pub no_deeper : (p : ResourceData → Bool) (nodes : List ResourceData) → is_tree nodes ≡ true → (n : ℕ) → level_of n (without p nodes) ≤ level_of n nodes
no_deeper p nodes tree n = elim (cases_Bool (is_spared p nodes n)) [
  | inl t ↦ let same : level_of n (without p nodes) ≡ level_of n nodes = level_of-without p nodes tree n ∙ ap (λ b. cond b (level_of n nodes) 0) t in omega arith
  | inr f ↦ let none : level_of n (without p nodes) ≡ 0 = level_of-without p nodes tree n ∙ ap (λ b. cond b (level_of n nodes) 0) f in omega arith
]
