-- In a sound entity no two resources have one address.
use Rattle.guard_laws.proofs.Words.{bytes_eq, nat_lt, ◌≡◌, ℕ, ◌<◌, ◌^◌, Bool, true, false, List, [], ◌∷◌, ◌++◌, Some, None, inl, inr, refl, sym, ap, ap₂, ◌∙◌, arith, option_or}
use Rattle.guard_laws.proofs.Terms.{ResourceData, are_below, at, child_of, may_stand, has, is_child, is_root, is_tree, is_under, EntityData, IsSoundEntity, begins_with_base, HasOwnAddresses}
use Rattle.guard_laws.proofs.Facts.{both_ways, cases_Bool, eqb-true, false_from_ne_true, lt-ltb, ltb-true, or_cases, find-append, growth, next_fits, tree_from_well_formed, zero_lacks, base_parts, all_weaker}
use Rattle.std.specs.Prelude.{find}
use Rattle.std.specs.Option.{option_map}
use Rattle.std.proofs.lemmas.Slice.Eq.{bytes_eq-Decides}
use Rattle.addressing.proofs.NameLemmas.{child_of_its_name}
use Rattle.retrieve_laws.proofs.OwnLemmas.{own_addresses}

-- ---- under nothing stands the first resource alone

abbrev is_first_named : List ℕ → List ResourceData → Bool
is_first_named text [] = false
is_first_named text (r ∷ nodes) = bytes_eq r.name text

-- where the first has another name, nothing of this name stands under nothing
abbrev NoneAtRoot : List ℕ → List ResourceData → Type 0
NoneAtRoot text nodes = is_first_named text nodes ≡ false → find (is_child 0 text) nodes ≡ None

none_more : (text : List ℕ) (before : List ResourceData) (r : ResourceData) → is_tree before ≡ true → may_stand before r ≡ true → NoneAtRoot text before → NoneAtRoot text (before ++ r ∷ [])
none_more text [] r tree fit holds other = elim (cases_Bool (is_under 0 r)) [
  | inl t ↦ rw (t, other) refl
  | inr f ↦ rw f refl
]
none_more text (s ∷ before) r tree fit holds other =
    let next = next_fits (s ∷ before) r fit in
    let old : find (is_child 0 text) (s ∷ before) ≡ None = holds other in
    elim (or_cases (has r.parent (s ∷ before)) (is_root (s ∷ before) r) next.parent) [
      | inl there ↦
          let apart : is_under 0 r ≡ false = false_from_ne_true _ (λ t.
          both_ways _ (zero_lacks (s ∷ before) tree) (ap (λ (n : ℕ). has n (s ∷ before)) (sym (eqb-true r.parent 0 t)) ∙ there)) in
          let new : find (is_child 0 text) (r ∷ []) ≡ None = rw apart refl in
          find-append (is_child 0 text) (s ∷ before) (r ∷ []) ∙ ap₂ option_or old new
      | inr root ↦ absurd (both_ways _ refl root)
    ]

none_at_root : (text : List ℕ) (nodes : List ResourceData) → is_tree nodes ≡ true → is_first_named text nodes ≡ false → find (is_child 0 text) nodes ≡ None
none_at_root text = growth may_stand (NoneAtRoot text) (λ _. refl) (λ before r grew next holds. none_more text before r grew next holds)

-- ---- in a sound entity

module _ (e : EntityData) (sound : IsSoundEntity e) where
  tree_is : is_tree e.nodes ≡ true
  tree_is = tree_from_well_formed e.nodes sound.tree

  -- the first is named by the home
  first_other : (text : List ℕ) (nodes : List ResourceData) → bytes_eq text e.home.base ≡ false → begins_with_base e.home nodes ≡ true → is_first_named text nodes ≡ false
  first_other text [] apart base = refl
  first_other text (b ∷ nodes) apart base = false_from_ne_true _ (λ t.
      let own : b.name ≡ e.home.base = (base_parts e.home b nodes base).name in
      let same : b.name ≡ text = (bytes_eq-Decides b.name text).0 t in
      both_ways _ apart ((bytes_eq-Decides text e.home.base).1 (sym same ∙ own)))

  -- and so is all that stands under nothing
  base_named : (r : ResourceData) → at r.number e.nodes ≡ Some r → r.parent ≡ 0 → r.name ≡ e.home.base
  base_named r found root = elim (cases_Bool (bytes_eq r.name e.home.base)) [
    | inl t ↦ (bytes_eq-Decides r.name e.home.base).0 t
    | inr f ↦
        (let none : child_of 0 r.name e.nodes ≡ None =
        ap (option_map (λ (s : ResourceData). s.number)) (none_at_root r.name e.nodes tree_is (first_other r.name e.nodes f sound.base)) in
        let child : child_of 0 r.name e.nodes ≡ Some r.number =
        ap (λ (p : ℕ). child_of p r.name e.nodes) (sym root) ∙ (child_of_its_name e.nodes tree_is r.number r found).child in
        let both : None ≡ Some r.number = sym none ∙ child in
        cc)
  ]

  small_numbers : (nodes : List ResourceData) → are_below e.next nodes ≡ true → are_below (2 ^ 63) nodes ≡ true
  small_numbers nodes below = all_weaker (λ (r : ResourceData). nat_lt r.number e.next) (λ (r : ResourceData). nat_lt r.number (2 ^ 63)) (λ r low. let less : r.number < e.next = ltb-true r.number e.next low in lt-ltb r.number (2 ^ 63) (omega (arith, less, sound.next))) nodes below

  -- no two of its resources have one address
  pub apart_addresses : HasOwnAddresses e.nodes
  apart_addresses = own_addresses e.home e.nodes sound.home tree_is base_named sound.names (small_numbers e.nodes sound.numbers)
