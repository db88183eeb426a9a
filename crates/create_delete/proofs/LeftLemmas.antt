-- What is left where a container has pushed out what doesn't fit, and nothing else.
use Rattle.std.specs.Prelude.{sum_by}
use Rattle.std.proofs.Common.{◌≡◌, ℕ, zero, suc, ◌<◌, List, [], ◌∷◌, ◌++◌, length, Bool, true, false, cond, not, ◌&&◌, ◌||◌, Option, Some, None, inl, inr, refl, sym, ap, ◌∙◌, subst, arith}
use Rattle.std.proofs.lemmas.Bool.{cases_Bool, or_left, both_ways, eqb-true, false_from_ne_true}
use Rattle.std.proofs.lemmas.Option.{same_Some}
use Rattle.std.specs.List.{filter, list_any, list_all}
use Rattle.std.specs.Option.{option_map_or}
use Rattle.m2m_names.specs.Types.{does_take}
use Rattle.m2m_names.specs.declared.attributes.Attr.TheVariants.{Mia}
use Rattle.m2m_names.specs.declared.types.Ty.{Ty}
use Rattle.m2m_names.specs.declared.types.Ty.TheVariants.{Container, ContentInstance}
use Rattle.resource_model.specs.Attributes.{count_at}
use Rattle.resource_model.specs.Resource.{ResourceData, is_ty, has_number}
use Rattle.tree_model.specs.Tree.{at, has, line_of, without, is_spared, is_instance, instances_of, instance_size, is_due, is_taken, is_tree}
use Rattle.tree_model.proofs.GrowthLemmas.{StandsIn, stands, at-without, has-without, without-spared, tree_from_well_formed}
use Rattle.tree_model.proofs.OrderLemmas.{ascend, above_filter, above_lacks, tree_ascends, ascend_parts}
use Rattle.tree_model.proofs.QuietLemmas.{all_by_number, number_passes}
use Rattle.tree_model.proofs.TreeLemmas.{at_has, at_number, has_from_at, has-append, filter_among, kin_parts}
use Rattle.addressing.proofs.NameLemmas.{line_of_none}
use Rattle.container_limits.specs.Limits.{are_within, do_fit, evicted, kept, lasts, limits_of, longest_fit, numbers_of}
use Rattle.container_limits.proofs.LimitLemmas.{fit_here, fits_totals}
use Rattle.entity_model.specs.Entity.{EntityData}
use Rattle.entity_model.specs.Sound.{is_within_limits, IsSoundEntity}
use Rattle.create_delete.specs.Changing.{is_numbered_in, pushed_out, without_all}
use Rattle.create_delete.proofs.GrownLemmas.{none_all, picked_never}
use Rattle.create_delete.proofs.InstanceLemmas.{instance_type}
use Rattle.create_delete.proofs.KeptLemmas.{all_by_two, not_kept_parts}
use Rattle.create_delete.proofs.PrunedLemmas.{IsPruning, instance_due, split}
use Rattle.std.proofs.Math.Bool.{or-false}
use Rattle.m2m_names.proofs.ListLemmas.{all_filtered, filter_agree, filter_whole}
use Rattle.tree_model.proofs.RowLemmas.{filter_swap}
use Rattle.tree_model.proofs.TakenLemmas.{all_taken}
use Rattle.m2m_names.proofs.StepLemmas.{chosen}

-- ---- a removal of what nothing stands below

-- no resource stands under one that is picked
abbrev pub AreLeaves : (ResourceData → Bool) → List ResourceData → Type 0
AreLeaves p nodes = (s up : ResourceData) → at s.number nodes ≡ Some s → at s.parent nodes ≡ Some up → p up ≡ false

-- of a line only the lowest is picked, if any
picked_alone : (p : ResourceData → Bool) (nodes : List ResourceData) → is_tree nodes ≡ true → AreLeaves p nodes → (n : ℕ) (r : ResourceData) → at n nodes ≡ Some r → StandsIn nodes n r → ((up : ResourceData) → at r.parent nodes ≡ Some up → list_any p (line_of r.parent nodes) ≡ p up) → list_any p (line_of n nodes) ≡ p r
picked_alone p nodes tree leaves n r found placed above = by_parent (at r.parent nodes) refl
  where
    own : at r.number nodes ≡ Some r
    own = ap (λ (m : ℕ). at m nodes) (at_number n nodes r found) ∙ found

    alone : list_any p (line_of r.parent nodes) ≡ false → list_any p (line_of n nodes) ≡ p r
    alone none = ap (list_any p) placed.line ∙ ap (λ (b : Bool). p r || b) none ∙ or-false (p r)

    by_parent : (o : Option ResourceData) → at r.parent nodes ≡ o → list_any p (line_of n nodes) ≡ p r
    by_parent None is = alone (ap (list_any p) (line_of_none nodes tree r.parent (has_from_at r.parent nodes is)))
    by_parent (Some up) is = alone (above up is ∙ leaves r up own is)

picked_line : (p : ResourceData → Bool) (nodes : List ResourceData) → is_tree nodes ≡ true → AreLeaves p nodes → (k n : ℕ) (r : ResourceData) → n < k → at n nodes ≡ Some r → list_any p (line_of n nodes) ≡ p r
picked_line p nodes tree leaves zero n r below found = absurd (omega (arith, below))
picked_line p nodes tree leaves (suc k) n r below found =
    let placed : StandsIn nodes n r = stands nodes tree n r found in
    let lower : r.parent < n = placed.above in
    picked_alone p nodes tree leaves n r found placed (λ up is. picked_line p nodes tree leaves k r.parent up (omega (arith, below, lower)) is)

spared_is : (p : ResourceData → Bool) (nodes : List ResourceData) → is_tree nodes ≡ true → AreLeaves p nodes → (r : ResourceData) → at r.number nodes ≡ Some r → is_spared p nodes r.number ≡ not (p r)
spared_is p nodes tree leaves r found = ap not (picked_line p nodes tree leaves (suc r.number) r.number r (omega arith) found)

-- a resource is left just where it isn't picked
pub at_left : (p : ResourceData → Bool) (nodes : List ResourceData) → is_tree nodes ≡ true → AreLeaves p nodes → (r : ResourceData) → at r.number nodes ≡ Some r → at r.number (without p nodes) ≡ cond (not (p r)) (Some r) None
at_left p nodes tree leaves r found =
    at-without p r.number nodes tree
    ∙ ap (λ (b : Bool). cond b (at r.number nodes) None) (spared_is p nodes tree leaves r found)
    ∙ ap (λ (o : Option ResourceData). cond (not (p r)) o None) found

-- what is left stood there
pub left_stood : (p : ResourceData → Bool) (n : ℕ) (nodes : List ResourceData) (s : ResourceData) → is_tree nodes ≡ true → at n (without p nodes) ≡ Some s → at n nodes ≡ Some s
left_stood p n nodes s tree left = (chosen (is_spared p nodes n) (at n nodes) s (sym (at-without p n nodes tree) ∙ left)).1

-- ---- filters

agree : Bool → Bool → Bool
agree true b = b
agree false b = not b

agree_same : (a b : Bool) → agree a b ≡ true → a ≡ b
unfolding agree
agree_same true true t = refl
agree_same true false t = cc
agree_same false true t = cc
agree_same false false t = refl

agree_itself : (a b : Bool) → a ≡ b → agree a b ≡ true
unfolding agree
agree_itself true b same = sym same
agree_itself false b same = ap not (sym same)

-- two filters that are the same on what stands in a tree
pub filter_found : (p q : ResourceData → Bool) (nodes : List ResourceData) → is_tree nodes ≡ true → ((r : ResourceData) → at r.number nodes ≡ Some r → p r ≡ q r) → filter p nodes ≡ filter q nodes
filter_found p q nodes tree same =
    filter_agree (λ s. agree (p s) (q s)) p q (λ s alike. agree_same (p s) (q s) alike) nodes
    (all_by_number (λ s. agree (p s) (q s)) nodes tree (λ s found. agree_itself (p s) (q s) (same s found)))

left_filter : (p : ResourceData → Bool) (nodes : List ResourceData) → is_tree nodes ≡ true → AreLeaves p nodes → without p nodes ≡ filter (λ s. not (p s)) nodes
left_filter p nodes tree leaves =
    without-spared p nodes tree
    ∙ filter_found (λ s. is_spared p nodes s.number) (λ s. not (p s)) nodes tree (λ s found. spared_is p nodes tree leaves s found)

filter_passes : (p : ResourceData → Bool) (rs : List ResourceData) → list_all p (filter p rs) ≡ true
filter_passes p [] = refl
filter_passes p (r ∷ rs) = elim (cases_Bool (p r)) [
  | inl t ↦ rw t (rw t (filter_passes p rs))
  | inr f ↦ rw f (filter_passes p rs)
]

-- of a list in order, a number among those that are picked is that of one that is picked
has_picked : (p : ResourceData → Bool) (m : ℕ) (nodes : List ResourceData) (s : ResourceData) → ascend nodes ≡ true → has m (filter p nodes) ≡ true → at m nodes ≡ Some s → p s ≡ true
has_picked p m [] s order there found = cc
has_picked p m (r ∷ nodes) s order there found =
    let parts = ascend_parts r nodes order in
    elim (cases_Bool (has_number m r)) [
      | inl here ↦
          let same : Some r ≡ Some s = rw here at found in
          let is : r.number ≡ m = eqb-true r.number m here in
          let lacks : has m (filter p nodes) ≡ false = ap (λ (n : ℕ). has n (filter p nodes)) (sym is) ∙ above_lacks r.number (filter p nodes) (above_filter p r.number nodes parts.above) in
          subst (λ (x : ResourceData). p x ≡ true) (same_Some r s same) (picks_first r lacks)
      | inr apart ↦
          let rest : at m nodes ≡ Some s = rw apart at found in
          has_picked p m nodes s parts.rest (later r apart) rest
    ]
  where
    picks_first : (x : ResourceData) → has m (filter p nodes) ≡ false → p r ≡ true
    picks_first x lacks = elim (cases_Bool (p r)) [
      | inl t ↦ t
      | inr f ↦ absurd (both_ways _ lacks (rw f at there))
    ]

    later : (x : ResourceData) → has_number m r ≡ false → has m (filter p nodes) ≡ true
    later x apart = elim (cases_Bool (p r)) [
      | inl t ↦ (let all : (has_number m r || has m (filter p nodes)) ≡ true = rw t at there in rw apart at all)
      | inr f ↦ rw f at there
    ]

-- ---- what a container has pushed out

-- nothing stands under an instance
takes_nothing : (t : Ty) → does_take ContentInstance t ≡ true → ⊥
takes_nothing t taken = both_ways _ refl taken

-- what is left of a list, from which instances of the resource of a number may be gone, and nothing
-- else
pub record IsLeft (n : ℕ) (nodes left : List ResourceData) : Type 0 where
  pub stood : (m : ℕ) (s : ResourceData) → at m left ≡ Some s → at m nodes ≡ Some s
  pub gone : (s : ResourceData) → at s.number nodes ≡ Some s → at s.number left ≡ None → is_instance n s ≡ true

pub all_left : (n : ℕ) (nodes : List ResourceData) → IsLeft n nodes nodes
all_left n nodes = record {
  stood = λ m s found. found;
  gone = λ s found none. let both : Some s ≡ None = sym found ∙ none in cc;
}

module _ (n : ℕ) (e : EntityData) (c : ResourceData) (size : Option ℕ) (rs news : List ResourceData) (pruning : IsPruning n e c size rs news) where
  abbrev out : List ℕ
  out = evicted (limits_of c) size e.last rs

  abbrev stay : List ResourceData
  stay = kept (limits_of c) size e.last rs

  tree : is_tree e.nodes ≡ true
  tree = tree_from_well_formed e.nodes pruning.sound.frame.tree

  -- what goes is an instance of the container
  out_instance : (s : ResourceData) → at s.number e.nodes ≡ Some s → is_numbered_in out s ≡ true → is_instance n s ≡ true
  out_instance s found picked =
      has_picked (is_instance n) s.number e.nodes s (tree_ascends e.nodes tree) (ap (has s.number) pruning.instances ∙ has-append s.number rs news ∙ or_left _ _ (not_kept_parts stay rs s.number picked).there) found

  -- under which nothing stands
  leaves : AreLeaves (is_numbered_in out) e.nodes
  leaves s up found above = false_from_ne_true _ (λ picked.
      let there : at up.number e.nodes ≡ Some up = ap (λ (m : ℕ). at m e.nodes) (at_number s.parent e.nodes up above) ∙ above in
      let instance : is_ty up.ty ContentInstance ≡ true = (kin_parts ContentInstance n up (out_instance up there picked)).kind in
      let taken : is_taken e.nodes s ≡ true = number_passes (is_taken e.nodes) s.number e.nodes s (all_taken e.nodes pruning.sound.frame.tree) found in
      let takes : does_take up.ty s.ty ≡ true = sym (ap (λ (o : Option ResourceData). option_map_or (λ (p : ResourceData). does_take p.ty s.ty) o true) above) ∙ taken in
      takes_nothing s.ty (ap (λ (t : Ty). does_take t s.ty) (sym (instance_type up.ty instance)) ∙ takes))

  pub left_at : (s : ResourceData) → at s.number e.nodes ≡ Some s → at s.number (without_all out e.nodes) ≡ cond (not (is_numbered_in out s)) (Some s) None
  left_at s found = at_left (is_numbered_in out) e.nodes tree leaves s found

  pub has_left : (s : ResourceData) → at s.number e.nodes ≡ Some s → has s.number (without_all out e.nodes) ≡ not (is_numbered_in out s)
  has_left s found =
      has-without (is_numbered_in out) s.number e.nodes tree
      ∙ ap (λ (b : Bool). b && is_spared (is_numbered_in out) e.nodes s.number) (at_has s.number e.nodes s found)
      ∙ spared_is (is_numbered_in out) e.nodes tree leaves s found

  pub all_but_out : without_all out e.nodes ≡ filter (λ s. not (is_numbered_in out s)) e.nodes
  all_but_out = left_filter (is_numbered_in out) e.nodes tree leaves

  -- nothing but instances is gone
  pub is_left : IsLeft n e.nodes (without_all out e.nodes)
  is_left = record {
    stood = λ m s left. left_stood (is_numbered_in out) m e.nodes s tree left;
    gone = λ s found none. out_instance s found (picked s (is_numbered_in out s) (sym (left_at s found) ∙ none));
  }
    where
      picked : (s : ResourceData) (b : Bool) → cond (not b) (Some s) None ≡ None → b ≡ true
      picked s true t = refl
      picked s false t = cc

  -- what stays are the newest that fit, and the new ones that aren't pushed out
  pub instances_left : instances_of n (without_all out e.nodes) ≡ stay ++ filter (λ s. not (is_numbered_in out s)) news
  instances_left =
      ap (filter (is_instance n)) all_but_out
      ∙ filter_swap (is_instance n) (λ s. not (is_numbered_in out s)) e.nodes
      ∙ split n e c size rs news pruning

-- ---- in a sound entity a container keeps all that it has

module _ (e : EntityData) (c : ResourceData) (sound : IsSoundEntity e) (found : at c.number e.nodes ≡ Some c) (container : is_ty c.ty Container ≡ true) where
  abbrev own : List ResourceData
  own = instances_of c.number e.nodes

  within : do_fit (limits_of c) None own ≡ true
  within =
      let held : is_within_limits e.nodes c ≡ true = number_passes (is_within_limits e.nodes) c.number e.nodes c sound.limits found in
      let both : are_within (limits_of c) (length own) (sum_by instance_size own) ≡ true = rw container at held in
      sym (fits_totals (limits_of c) None own (length own) (sum_by instance_size own) (omega arith) (omega arith)) ∙ both

  -- none of its instances is due
  last : list_all (lasts (count_at Mia c.attrs) e.last) own ≡ true
  last = all_by_two (is_instance c.number) (λ s. not (is_due e.nodes e.last s)) (lasts (count_at Mia c.attrs) e.last)
      (λ s instance quiet. ap not (sym (instance_due c.number e.last e.nodes c s found instance)) ∙ quiet)
      own (filter_passes (is_instance c.number) e.nodes)
      (all_filtered (λ s. not (is_due e.nodes e.last s)) (is_instance c.number) e.nodes (none_all (is_due e.nodes e.last) e.nodes sound.due))

  pub keeps_all : kept (limits_of c) None e.last own ≡ own
  keeps_all =
      ap (longest_fit (limits_of c) None) (filter_whole (lasts (count_at Mia c.attrs) e.last) own last)
      ∙ fit_here (limits_of c) None own within

  pub pushes_nothing : pushed_out e c None ≡ []
  pushes_nothing =
      ap (λ (ss : List ResourceData). numbers_of (filter (λ s. not (has s.number ss)) own)) keeps_all
      ∙ ap numbers_of (filter_among (λ s. not (has s.number own)) (λ s. false) own (λ s there. ap not there) ∙ picked_never own)
