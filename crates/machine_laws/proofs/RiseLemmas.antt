-- As many resources are new after what an operation changed is told as before: who is told stood
-- there already, and nothing stands below a subscription that goes.
use Rattle.machine_laws.proofs.Words.{◌==◌, nat_eq, ◌≡◌, ℕ, ◌+◌, ◌-◌, List, [], ◌∷◌, ◌++◌, map, length, length-append, filter, Bool, true, false, cond, not, ◌&&◌, ◌||◌, Option, Some, None, option_map, inl, inr, refl, sym, ap, ap₂, ◌∙◌, cons_option, list_all, option_map_or}
use Rattle.machine_laws.proofs.Terms.{does_take, Ty, CseBase, Subscription, HomeData, ResourceData, has_number, is_ty, ChangeData, at, fits_in, grows, has, is_root, is_taken, is_well_formed, may_stand, staying, without, notes_of_all, DraftParts, only_in}
use Rattle.machine_laws.proofs.Facts.{length-map, and_parts, both_ways, cases_Bool, eqb-true, or_cases, or_left, or_parts, or_right, filter-append, list_all-append, same_Some, all_weaker, growth, next_fits, has_at, staying-append, count_whom, numbers_told, numbers_told_all, times, whom_all}
use Rattle.m2m_names.proofs.TypeLemmas.{same_type}
use Rattle.attribute_rules.specs.Kinds.{are_kinds}
use Rattle.tree_model.proofs.QuietLemmas.{number_passes}
use Rattle.subscription_match.specs.Matching.{event_for}
use Rattle.subscription_match.specs.Spending.{count_for, is_spent, left_to, lowered, nodes_spent}
use Rattle.subscription_match.specs.declared.events.EventKind.{EventKind}
use Rattle.entity_model.proofs.SpentLemmas.{counts_to, lowered_stands}
use Rattle.policy_laws.proofs.ChoiceLemmas.{filter_image}

-- ---- a removal of subscriptions takes nothing else

module _ (picks : ResourceData → Bool) where
  abbrev stay : ResourceData → Bool
  stay r = not (picks r)

  abbrev picks_subs : ResourceData → Bool
  picks_subs r = not (picks r) || is_ty r.ty Subscription

  still_has : (n : ℕ) (nodes : List ResourceData) (p : ResourceData) → at n nodes ≡ Some p → picks p ≡ false → has n (filter stay nodes) ≡ true
  still_has n [] p found other = cc
  still_has n (s ∷ nodes) p found other = elim (cases_Bool (has_number n s)) [
    | inl t ↦
        let same : s ≡ p = same_Some s p (rw t at found) in
        let stays_so : picks s ≡ false = ap picks same ∙ other in
        rw (stays_so, t) refl
    | inr f ↦
        let rest : at n nodes ≡ Some p = rw f at found in
        elim (cases_Bool (picks s)) [
          | inl k ↦ rw k (still_has n nodes p rest other)
          | inr k ↦ rw (k, f) (still_has n nodes p rest other)
        ]
  ]

  -- a subscription takes nothing
  takes_none : (ty child : Ty) → is_ty ty Subscription ≡ true → does_take ty child ≡ false
  takes_none ty child is = ap (λ t. does_take t child) (same_type ty Subscription (eqb-true _ _ is))

  abbrev LeavesTheRest : List ResourceData → Type 0
  LeavesTheRest nodes = list_all picks_subs nodes ≡ true → without picks nodes ≡ filter stay nodes

  -- what comes next has its parent among those that stay
  parent_stays : (before : List ResourceData) (r : ResourceData) → fits_in before r ≡ true → list_all picks_subs before ≡ true → ((r.parent == 0) || has r.parent (filter stay before)) ≡ true
  parent_stays before r fit subs =
      let parts = and_parts (may_stand before r) (is_taken before r) fit in
      elim (or_cases (has r.parent before) (is_root before r) (next_fits before r parts.0).parent) [
        | inr root ↦ or_left _ _ (at_root before root)
        | inl there ↦ or_right _ _ (under (has_at r.parent before there).0 (has_at r.parent before there).1 parts.1)
      ]
    where
      at_root : (nodes : List ResourceData) → is_root nodes r ≡ true → (r.parent == 0) ≡ true
      at_root [] root = (and_parts (is_ty r.ty CseBase) (r.parent == 0) (and_parts (is_ty r.ty CseBase && (r.parent == 0)) _ root).0).1
      at_root (s ∷ nodes) root = absurd (both_ways _ refl root)

      under : (p : ResourceData) → at r.parent before ≡ Some p → is_taken before r ≡ true → has r.parent (filter stay before) ≡ true
      under p found taken =
          let takes : does_take p.ty r.ty ≡ true = sym (ap (λ (x : Option ResourceData). option_map_or (λ (q : ResourceData). does_take q.ty r.ty) x true) found) ∙ taken in
          elim (cases_Bool (picks p)) [
            | inr other ↦ still_has r.parent before p found other
            | inl picked ↦
                let sub : is_ty p.ty Subscription ≡ true = sym (ap (λ b. not b || is_ty p.ty Subscription) picked) ∙ number_passes picks_subs r.parent before p subs found in
                absurd (both_ways _ (takes_none p.ty r.ty sub) takes)
          ]

  grown : (before : List ResourceData) (r : ResourceData) → grows fits_in [] before ≡ true → fits_in before r ≡ true → LeavesTheRest before → LeavesTheRest (before ++ r ∷ [])
  grown before r grew fit holds all =
      let subs = and_parts (list_all picks_subs before) _ (sym (list_all-append picks_subs before (r ∷ [])) ∙ all) in
      let left : List ResourceData = filter stay before in
      staying-append picks [] before (r ∷ [])
      ∙ ap (λ (rs : List ResourceData). rs ++ staying picks rs (r ∷ [])) (holds subs.0)
      ∙ ap (λ (rs : List ResourceData). left ++ rs) (last (parent_stays before r fit subs.0))
      ∙ sym (filter-append stay before (r ∷ []))
    where
      last : ((r.parent == 0) || has r.parent (filter stay before)) ≡ true → staying picks (filter stay before) (r ∷ []) ≡ filter stay (r ∷ [])
      last placed = elim (cases_Bool (picks r)) [
        | inl t ↦ rw t refl
        | inr f ↦ rw (f, placed) refl
      ]

  leaves_the_rest : (nodes : List ResourceData) → is_well_formed nodes ≡ true → list_all picks_subs nodes ≡ true → without picks nodes ≡ filter stay nodes
  leaves_the_rest nodes well = growth fits_in LeavesTheRest (λ all. refl) grown nodes well

-- ---- who is told stood there

module _ (nodes : List ResourceData) (going : List ℕ) (n : ℕ) where
  none_told : (change : ChangeData) (subs : List ResourceData) → has n subs ≡ false → times n (numbers_told going subs change) ≡ 0
  none_told change [] none = refl
  none_told change (sub ∷ subs) none =
      let parts = or_parts (has_number n sub) (has n subs) none in
      by (event_for going change sub) parts.0 (none_told change subs parts.1)
    where
      by : (kind : Option EventKind) → has_number n sub ≡ false → times n (numbers_told going subs change) ≡ 0 → times n (cons_option (option_map (λ (k : EventKind). sub.number) kind) (numbers_told going subs change)) ≡ 0
      by None other rest = rest
      by (Some kind) other rest = rw other rest

  none_told_all : (changes : List ChangeData) → has n nodes ≡ false → times n (numbers_told_all going nodes changes) ≡ 0
  none_told_all [] none = refl
  none_told_all (change ∷ changes) none =
      let told = numbers_told going nodes change in
      let rest = numbers_told_all going nodes changes in
      ap length (filter-append (λ (m : ℕ). nat_eq m n) told rest)
      ∙ length-append (filter (λ (m : ℕ). nat_eq m n) told) (filter (λ (m : ℕ). nat_eq m n) rest)
      ∙ ap₂ (λ (a b : ℕ). a + b) (none_told change nodes none) (none_told_all changes none)

  -- so nothing is for what didn't
  pub untold : (home : HomeData) (changes : List ChangeData) → has n nodes ≡ false → count_for n (notes_of_all home nodes going changes) ≡ 0
  untold home changes none =
      count_whom n (notes_of_all home nodes going changes)
      ∙ ap (times n) (whom_all home nodes going changes)
      ∙ none_told_all changes none

-- ---- what is new stays new

-- a map that keeps numbers
as_many : (g : ResourceData → ResourceData) → ((r : ResourceData) → (g r).number ≡ r.number) → (rs others : List ResourceData) → length (only_in (map g rs) others) ≡ length (only_in rs others)
as_many g keeps rs others =
    ap length (filter_image g (λ (s : ResourceData). not (has s.number others)) (λ (r : ResourceData). not (has r.number others)) (λ r. ap (λ (n : ℕ). not (has n others)) (keeps r)) rs)
    ∙ length-map (only_in rs others) g

-- without what isn't new
new_stays : (picks : ResourceData → Bool) (others : List ResourceData) → ((r : ResourceData) → has r.number others ≡ false → picks r ≡ false) → (rs : List ResourceData) → only_in (filter (λ r. not (picks r)) rs) others ≡ only_in rs others
new_stays picks others old [] = refl
new_stays picks others old (r ∷ rs) = elim (cases_Bool (has r.number others)) [
  | inl t ↦ elim (cases_Bool (picks r)) [
    | inl k ↦ rw (k, t) (new_stays picks others old rs)
    | inr k ↦ rw k (rw t (new_stays picks others old rs))
  ]
  | inr f ↦ rw (old r f) (rw f (ap (λ (ss : List ResourceData). r ∷ ss) (new_stays picks others old rs)))
]

-- what is spent is a subscription, where the attributes are of their kinds
spent_subs : (drafts : List DraftParts) (r : ResourceData) → are_kinds r ≡ true → (not (is_spent drafts r) || is_ty r.ty Subscription) ≡ true
spent_subs drafts r kinds = by_left (left_to r) refl
  where
    none_spent : (b : Bool) → option_map_or (λ m. m == 0) (cond b None (option_map (λ m. m - count_for r.number drafts) None)) false ≡ false
    none_spent true = refl
    none_spent false = refl

    by_left : (left : Option ℕ) → left_to r ≡ left → (not (is_spent drafts r) || is_ty r.ty Subscription) ≡ true
    by_left None none =
        or_left _ _ (ap not (ap (λ (l : Option ℕ). option_map_or (λ m. m == 0) (cond (count_for r.number drafts == 0) None (option_map (λ m. m - count_for r.number drafts) l)) false) none ∙ none_spent (count_for r.number drafts == 0)))
    by_left (Some left) some = or_right _ _ (counts_to r left kinds some).subscription

-- as many are new after drafts for what stood before
pub as_many_new : (drafts : List DraftParts) (nodes others : List ResourceData) → is_well_formed nodes ≡ true → list_all are_kinds nodes ≡ true → ((n : ℕ) → has n others ≡ false → count_for n drafts ≡ 0) → length (only_in (nodes_spent drafts nodes) others) ≡ length (only_in nodes others)
as_many_new drafts nodes others well kinds old =
    let subs = all_weaker are_kinds (λ r. not (is_spent drafts r) || is_ty r.ty Subscription) (spent_subs drafts) nodes kinds in
    as_many (lowered drafts) (lowered_stands drafts).number (without (is_spent drafts) nodes) others
    ∙ ap (λ (rs : List ResourceData). length (only_in rs others)) (leaves_the_rest (is_spent drafts) nodes well subs)
    ∙ ap length (new_stays (is_spent drafts) others (λ r none. unspent r (old r.number none)) nodes)
  where
    unspent : (r : ResourceData) → count_for r.number drafts ≡ 0 → is_spent drafts r ≡ false
    unspent r none = rw none refl
