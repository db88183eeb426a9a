-- Each polling channel is the first of its parent exactly where no resource has two.
use Rattle.std.specs.Prelude.{nat_eq, nat_le, find}
use Rattle.std.proofs.Common.{◌≡◌, ◌≢◌, ℕ, ◌+◌, ◌<◌, ◌≤◌, List, [], ◌∷◌, ◌++◌, length, length-append, Bool, true, false, not, ◌&&◌, ◌||◌, Option, Some, None, option_map, inl, inr, refl, sym, ap, ◌∙◌, subst, arith}
use Rattle.std.proofs.lemmas.Bool.{cases_Bool, and_parts, and_from, or_cases, or_left, or_right, not-true, not_from_false, both_ways, cases_eq, eqb-true, eq-eqb, leb-true, le-leb, ltb-true}
use Rattle.std.proofs.lemmas.List.{append-nil}
use Rattle.std.proofs.lemmas.List.Folds.{list_all-append}
use Rattle.std.specs.List.{filter, list_all, list_any}
use Rattle.std.specs.Option.{option_map_or}
use Rattle.m2m_names.specs.declared.types.Ty.TheVariants.{CseBase, PollingChannel}
use Rattle.m2m_names.specs.declared.types.Ty.{Ty}
use Rattle.m2m_names.proofs.TypeLemmas.{same_type}
use Rattle.m2m_names.proofs.ListLemmas.{all_weaker}
use Rattle.resource_model.specs.Resource.{ResourceData, has_number, is_ty}
use Rattle.tree_model.specs.Tree.{at, are_below, has, is_root, channel_of, is_channel, is_kin, is_tree, is_under, may_stand, channels_of}
use Rattle.tree_model.proofs.ChangeLemmas.{picked-append}
use Rattle.tree_model.proofs.GrowthLemmas.{growth, next_fits, root_parts}
use Rattle.tree_model.proofs.QuietLemmas.{all_by_number, number_passes}
use Rattle.tree_model.proofs.TreeLemmas.{at-append, at_number, has_at, kin_parts}
use Rattle.entity_model.specs.Sound.{has_one_channel}
use Rattle.entity_soundness.specs.Tested.{is_sole_channel}

none_some : {A : Type 0} (r : ResourceData) → None ≡ Some r → A
none_some r e = absurd cc

-- ---- where each is the first, no resource has two

-- it isn't picked, or has this number
abbrev is_only : (ResourceData → Bool) → ℕ → ResourceData → Bool
is_only f m r = not (f r) || nat_eq m r.number

pub nothing_picked : (f : ResourceData → Bool) (nodes : List ResourceData) → list_all (λ r. not (f r)) nodes ≡ true → filter f nodes ≡ []
nothing_picked f [] none = refl
nothing_picked f (r ∷ nodes) none =
    let parts = and_parts (not (f r)) _ none in
    rw (not-true _ parts.0) (nothing_picked f nodes parts.1)

-- of those that have lower numbers, none is the one of this number
none_lower : (f : ResourceData → Bool) (m : ℕ) (nodes : List ResourceData) → are_below m nodes ≡ true → list_all (is_only f m) nodes ≡ true → list_all (λ r. not (f r)) nodes ≡ true
none_lower f m [] below only = refl
none_lower f m (r ∷ nodes) below only =
    let lower = and_parts _ _ below in
    let parts = and_parts (is_only f m r) _ only in
    let less : r.number < m = ltb-true r.number m lower.0 in
    and_from _ _ (elim (or_cases (not (f r)) _ parts.0) [
      | inl miss ↦ miss
      | inr is ↦ (let same : m ≡ r.number = eqb-true m r.number is in absurd (omega (arith, same)))
    ]) (none_lower f m nodes lower.1 parts.1)

module _ (f : ResourceData → Bool) (m : ℕ) where
  few_picked : (nodes : List ResourceData) → is_tree nodes ≡ true → list_all (is_only f m) nodes ≡ true → length (filter f nodes) ≤ 1
  few_picked = growth may_stand (λ nodes. list_all (is_only f m) nodes ≡ true → length (filter f nodes) ≤ 1) (λ only. omega arith) (λ before r grew next holds only.
      let all : list_all (is_only f m) before && list_all (is_only f m) (r ∷ []) ≡ true = sym (list_all-append (is_only f m) before (r ∷ [])) ∙ only in
      let parts = and_parts (list_all (is_only f m) before) _ all in
      let here = and_parts (is_only f m r) _ parts.1 in
      let more = picked-append f before r in
      elim (cases_Bool (f r)) [
        | inl t ↦
            let same : m ≡ r.number = elim (or_cases (not (f r)) _ here.0) [
              | inl miss ↦ absurd (both_ways _ (not-true _ miss) t)
              | inr is ↦ eqb-true m r.number is
            ] in
            let below : are_below m before ≡ true = subst (λ n. are_below n before ≡ true) (sym same) (next_fits before r next).number in
            let none : filter f before ≡ [] = nothing_picked f before (none_lower f m before below parts.0) in
            let whole : filter f (before ++ r ∷ []) ≡ r ∷ [] = more ∙ rw t (ap (λ (l : List ResourceData). l ++ r ∷ []) none) in
            let one : length (filter f (before ++ r ∷ [])) ≡ 1 = ap length whole in
            omega arith
        | inr miss ↦
            let whole : filter f (before ++ r ∷ []) ≡ filter f before = more ∙ rw miss (append-nil (filter f before)) in
            let same : length (filter f (before ++ r ∷ [])) ≡ length (filter f before) = ap length whole in
            let few = holds parts.0 in
            omega arith
      ])

-- of a resource
module _ (nodes : List ResourceData) (tree : is_tree nodes ≡ true) (sole : list_all (is_sole_channel nodes) nodes ≡ true) (n : ℕ) where
  -- a channel of it is the first
  first_of : (o : Option ℕ) → channel_of n nodes ≡ o → (r : ResourceData) → is_sole_channel nodes r ≡ true → (not (is_channel n r) || option_map_or (λ k. nat_eq k r.number) o false) ≡ true
  first_of o is r one = elim (cases_Bool (is_channel n r)) [
    | inr miss ↦ or_left (not (is_channel n r)) _ (not_from_false _ miss)
    | inl t ↦
        let kin = kin_parts PollingChannel n r t in
        or_right (not (is_channel n r)) (option_map_or (λ k. nat_eq k r.number) o false) (elim (or_cases (not (is_ty r.ty PollingChannel)) (option_map_or (λ k. nat_eq k r.number) (channel_of r.parent nodes) false) one) [
          | inl other ↦ absurd (both_ways _ (not-true _ other) kin.kind)
          | inr first ↦ ap (λ (k : Option ℕ). option_map_or (λ (m : ℕ). nat_eq m r.number) k false) (sym (ap (λ p. channel_of p nodes) kin.under ∙ is)) ∙ first
        ])
  ]

  few_channels : (o : Option ℕ) → channel_of n nodes ≡ o → length (channels_of n nodes) ≤ 1
  few_channels None is =
      let none : list_all (λ r. not (is_channel n r)) nodes ≡ true = all_weaker (is_sole_channel nodes) (λ r. not (is_channel n r)) (λ r one. elim (or_cases (not (is_channel n r)) false (first_of None is r one)) [
        | inl miss ↦ miss
        | inr never ↦ absurd (both_ways false refl never)
      ]) nodes sole in
      let nothing : length (channels_of n nodes) ≡ 0 = ap length (nothing_picked (is_channel n) nodes none) in
      omega arith
  few_channels (Some m) is = few_picked (is_channel n) m nodes tree (all_weaker (is_sole_channel nodes) (is_only (is_channel n) m) (λ r one. first_of (Some m) is r one) nodes sole)

  pub one_channel : (r : ResourceData) → r.number ≡ n → has_one_channel nodes r ≡ true
  one_channel r is =
      let few = few_channels (channel_of n nodes) refl in
      ap (λ k. nat_le (length (channels_of k nodes)) 1) is ∙ le-leb _ 1 few

pub all_one_channel : (nodes : List ResourceData) → is_tree nodes ≡ true → list_all (is_sole_channel nodes) nodes ≡ true → list_all (has_one_channel nodes) nodes ≡ true
all_one_channel nodes tree sole = all_weaker (is_sole_channel nodes) (has_one_channel nodes) (λ r one. one_channel nodes tree sole r.number r refl) nodes sole

-- ---- where no resource has two, each is the first

module _ (f : ResourceData → Bool) (n : ℕ) (s : ResourceData) (is : f s ≡ true) where
  one_in : (nodes : List ResourceData) → at n nodes ≡ Some s → 1 ≤ length (filter f nodes)
  one_in [] found = none_some s found
  one_in (r ∷ nodes) found = elim (cases_Bool (has_number n r)) [
    | inl t ↦
        let same : r ≡ s = (let there : Some r ≡ Some s = rw t at found in cc) in
        let picks : f r ≡ true = ap f same ∙ is in
        rw picks (omega arith)
    | inr miss ↦
        let rest = one_in nodes (rw miss at found) in
        elim (cases_Bool (f r)) [
          | inl t ↦ rw t (omega arith)
          | inr fr ↦ rw fr rest
        ]
  ]

  two_in : (nodes : List ResourceData) (x : ResourceData) → find f nodes ≡ Some x → at n nodes ≡ Some s → x.number ≢ n → 2 ≤ length (filter f nodes)
  two_in [] x first found apart = none_some x first
  two_in (r ∷ nodes) x first found apart = elim (cases_Bool (f r)) [
    | inl t ↦
        let same : r ≡ x = (let there : Some r ≡ Some x = rw t at first in cc) in
        elim (cases_Bool (has_number n r)) [
          | inl num ↦ absurd (apart (ap (λ (y : ResourceData). y.number) (sym same) ∙ eqb-true r.number n num))
          | inr miss ↦
              let rest = one_in nodes (rw miss at found) in
              rw t (omega arith)
        ]
    | inr fr ↦ elim (cases_Bool (has_number n r)) [
      | inl num ↦
          let same : r ≡ s = (let there : Some r ≡ Some s = rw num at found in cc) in
          absurd (both_ways _ fr (ap f same ∙ is))
      | inr miss ↦ rw fr (two_in nodes x (rw fr at first) (rw miss at found) apart)
    ]
  ]

  nothing_found : (rs : List ResourceData) → find f rs ≡ None → filter f rs ≡ []
  nothing_found [] none = refl
  nothing_found (r ∷ rs) none = elim (cases_Bool (f r)) [
    | inl t ↦ none_some r (sym (rw t at none))
    | inr fr ↦ rw fr (nothing_found rs (rw fr at none))
  ]

  first_in : (nodes : List ResourceData) → at n nodes ≡ Some s → length (filter f nodes) ≤ 1 → (o : Option ResourceData) → find f nodes ≡ o → option_map_or (λ (x : ResourceData). nat_eq x.number n) o false ≡ true
  first_in nodes found few None none =
      let some = one_in nodes found in
      let zero : length (filter f nodes) ≡ 0 = ap length (nothing_found nodes none) in
      absurd (omega (arith, some, zero))
  first_in nodes found few (Some x) first = elim (cases_eq x.number n) [
    | inl same ↦ eq-eqb x.number n same
    | inr apart ↦ (let two = two_in nodes x first found apart in absurd (omega (arith, two, few)))
  ]

-- the parent of a channel is there
abbrev HasParents : List ResourceData → Type 0
HasParents nodes = (s : ResourceData) → at s.number nodes ≡ Some s → is_ty s.ty PollingChannel ≡ true → (p : ResourceData) × (at s.parent nodes ≡ Some p)

still_there : (n : ℕ) (before : List ResourceData) (r p : ResourceData) → at n before ≡ Some p → at n (before ++ r ∷ []) ≡ Some p
still_there n before r p found = at-append n before (r ∷ []) ∙ rw found refl

no_root : (before : List ResourceData) (r : ResourceData) → is_ty r.ty PollingChannel ≡ true → is_root before r ≡ true → ⊥
no_root before r kind root = (let base : is_ty r.ty CseBase ≡ true = (root_parts before r root).kind in both_kinds r.ty kind base)
  where
    both_kinds : (t : Ty) → is_ty t PollingChannel ≡ true → is_ty t CseBase ≡ true → ⊥
    both_kinds t kind base = (let one : t ≡ PollingChannel = same_type t PollingChannel (eqb-true _ _ kind) in let other : is_ty PollingChannel CseBase ≡ true = subst (λ u. is_ty u CseBase ≡ true) one base in both_ways (is_ty PollingChannel CseBase) refl other)

parents_grown : (before : List ResourceData) (r : ResourceData) → may_stand before r ≡ true → HasParents before → HasParents (before ++ r ∷ [])
parents_grown before r next holds s found kind = by_place (at s.number before) refl
  where
    by_place : (o : Option ResourceData) → at s.number before ≡ o → (p : ResourceData) × (at s.parent (before ++ r ∷ []) ≡ Some p)
    by_place (Some x) is =
        let same : Some x ≡ Some s = sym (still_there s.number before r x is) ∙ found in
        let above = holds s (is ∙ same) kind in
        (above.0, still_there s.parent before r above.0 above.1)
    by_place None is =
        let last : at s.number (r ∷ []) ≡ Some s = sym (at-append s.number before (r ∷ []) ∙ rw is refl) ∙ found in
        elim (cases_Bool (has_number s.number r)) [
          | inr miss ↦ (let none : None ≡ Some s = rw miss at last in none_some s none)
          | inl t ↦
              let same : r ≡ s = (let there : Some r ≡ Some s = rw t at last in cc) in
              let fits = next_fits before r next in
              let kind_r : is_ty r.ty PollingChannel ≡ true = ap (λ (x : ResourceData). is_ty x.ty PollingChannel) same ∙ kind in
              elim (or_cases (has r.parent before) _ fits.parent) [
                | inl there ↦
                    let above = has_at r.parent before there in
                    (above.0, still_there s.parent before r above.0 (ap (λ (x : ResourceData). at x.parent before) (sym same) ∙ above.1))
                | inr root ↦ absurd (no_root before r kind_r root)
              ]
        ]

parent_of : (nodes : List ResourceData) → is_tree nodes ≡ true → HasParents nodes
parent_of = growth may_stand HasParents (λ s found kind. none_some s found) (λ before r grew next holds. parents_grown before r next holds)

pub all_sole : (nodes : List ResourceData) → is_tree nodes ≡ true → list_all (has_one_channel nodes) nodes ≡ true → list_all (is_sole_channel nodes) nodes ≡ true
all_sole nodes tree one = all_by_number (is_sole_channel nodes) nodes tree (λ s found. elim (cases_Bool (is_ty s.ty PollingChannel)) [
  | inr other ↦ or_left _ _ (not_from_false _ other)
  | inl kind ↦
      let under : is_under s.parent s ≡ true = eq-eqb s.parent s.parent refl in
      let is : is_channel s.parent s ≡ true = and_from _ _ under kind in
      or_right _ _ (as_number s.number (find (is_channel s.parent) nodes) (first_in (is_channel s.parent) s.number s is nodes found (few s found kind) (find (is_channel s.parent) nodes) refl))
])
  where
    as_number : (n : ℕ) (o : Option ResourceData) → option_map_or (λ (x : ResourceData). nat_eq x.number n) o false ≡ true → option_map_or (λ k. nat_eq k n) (option_map (λ (x : ResourceData). x.number) o) false ≡ true
    as_number n None h = h
    as_number n (Some x) h = h

    few : (s : ResourceData) → at s.number nodes ≡ Some s → is_ty s.ty PollingChannel ≡ true → length (filter (is_channel s.parent) nodes) ≤ 1
    few s found kind =
        let above = parent_of nodes tree s found kind in
        let small = number_passes (has_one_channel nodes) s.parent nodes above.0 one above.1 in
        leb-true _ 1 (ap (λ k. nat_le (length (channels_of k nodes)) 1) (sym (at_number s.parent nodes above.0 above.1)) ∙ small)
