-- Soundness where a container has pushed out what doesn't fit.
use Rattle.std.specs.Prelude.{nat_le, sum_by}
use Rattle.std.proofs.Common.{◌≡◌, ℕ, ◌+◌, ◌≤◌, List, [], ◌∷◌, ◌++◌, length, Bool, true, false, not, ◌||◌, Option, Some, option_to_list, unwrap_or, inl, inr, refl, sym, ap, ◌∙◌, subst, arith, length-append}
use Rattle.std.proofs.lemmas.Bool.{cases_Bool, and_parts, and_from, or_cases, or_left, or_right, not-true, not_from_false, eqb-true, ne_eqb, both_ways, false_from_ne_true}
use Rattle.std.proofs.lemmas.List.Elements.{filter-append}
use Rattle.std.proofs.lemmas.List.Filters.{length-filter_both, sum_by-filter_both}
use Rattle.std.proofs.lemmas.List.Folds.{list_all-append}
use Rattle.std.proofs.lemmas.List.Sums.{sum_by-append}
use Rattle.std.proofs.lemmas.Option.{same_Some}
use Rattle.std.specs.List.{filter, list_all}
use Rattle.std.specs.Option.{option_map_or}
use Rattle.m2m_names.specs.Types.{ty_row}
use Rattle.m2m_names.specs.declared.attributes.Attr.TheVariants.{Mbs, Mia, Mni}
use Rattle.m2m_names.specs.declared.types.Ty.TheVariants.{ContentInstance, CseBase}
use Rattle.resource_model.specs.Attributes.{count_at}
use Rattle.resource_model.specs.Home.{HomeData}
use Rattle.resource_model.specs.Resource.{ResourceData, is_ty, has_number}
use Rattle.tree_model.specs.Tree.{at, has, without, is_spared, is_instance, instances_of, instance_size, due_under, is_due, is_tree}
use Rattle.tree_model.proofs.GrowthLemmas.{at-without, tree_from_well_formed}
use Rattle.tree_model.proofs.QuietLemmas.{all_by_number, number_passes}
use Rattle.tree_model.proofs.TreeLemmas.{at_number, has-append, staying_all, staying_unpicked, kin_parts}
use Rattle.container_limits.specs.Limits.{do_fit, evicted, is_due_by, is_within, kept, lasts, limits_of}
use Rattle.container_limits.proofs.LimitLemmas.{longest_fits, longest_is_suffix}
use Rattle.tree_model.proofs.OrderLemmas.{are_above, ascend, above_lacks, tree_ascends, ascend_parts}
use Rattle.entity_model.specs.Entity.{EntityData}
use Rattle.entity_model.specs.Sound.{is_within_limits, begins_with_base, spares_first, IsSoundEntity}
use Rattle.entity_model.proofs.SoundLemmas.{all_left, due_left, limits_left, within_too, IsFramed, framed_left, sound_framed, base_parts}
use Rattle.create_delete.specs.Changing.{is_numbered_in}
use Rattle.create_delete.proofs.GrownLemmas.{is_within_but, within_by, all_none, none_all}
use Rattle.create_delete.proofs.KeptLemmas.{all_unfiltered, all_by_two, left_are_kept, left_count, left_sum, not_kept_parts}
use Rattle.create_delete.proofs.ReplacedLemmas.{is_quiet_but}
use Rattle.m2m_names.proofs.ListLemmas.{all_filtered, all_weaker, append_parts}
use Rattle.m2m_names.proofs.StepLemmas.{chosen}

-- ---- sound but for the instances of one resource

pub record IsSoundBut (n : ℕ) (e : EntityData) : Type 0 where
  pub frame : IsFramed e
  pub limits : list_all (is_within_but n e.nodes) e.nodes ≡ true
  pub quiet : list_all (is_quiet_but n e.last e.nodes) e.nodes ≡ true

abbrev pub left_by : (ResourceData → Bool) → EntityData → EntityData
left_by p e = record { home = e.home; nodes = without p e.nodes; next = e.next; last = e.last; items = e.items; numbered = e.numbered }

but_left : (p : ResourceData → Bool) (n : ℕ) (e : EntityData) → IsSoundBut n e → spares_first p e.nodes ≡ true → IsSoundBut n (left_by p e)
but_left p n e sound spared =
    let tree = tree_from_well_formed e.nodes sound.frame.tree in
    record {
      frame = framed_left p e e.last e.items sound.frame spared sound.frame.last sound.frame.waiting sound.frame.moments;
      limits = all_left p (is_within_but n) e.nodes (λ s held. elim (or_cases (has_number n s) (is_within_limits e.nodes s) held) [
        | inl here ↦ or_left _ _ here
        | inr within ↦ or_right _ _ (limits_left p e.nodes s within)
      ]) sound.limits;
      quiet = all_left p (is_quiet_but n e.last) e.nodes (λ s held. elim (or_cases (is_instance n s) (not (is_due e.nodes e.last s)) held) [
        | inl here ↦ or_left _ _ here
        | inr still ↦ or_right _ _ (not_from_false _ (false_from_ne_true _ (λ t. both_ways _ (not-true _ still) (due_left p e.nodes e.last s tree t))))
      ]) sound.quiet;
    }

-- where it is within its limits, and none of its instances is due, the entity is sound
pub restored : (n : ℕ) (e : EntityData) → IsSoundBut n e → ((s : ResourceData) → at s.number e.nodes ≡ Some s → has_number n s ≡ true → is_within_limits e.nodes s ≡ true) → list_all (λ s. not (is_instance n s) || not (is_due e.nodes e.last s)) e.nodes ≡ true → IsSoundEntity e
restored n e sound within still =
    sound_framed e sound.frame
    (all_by_number (is_within_limits e.nodes) e.nodes (tree_from_well_formed e.nodes sound.frame.tree) (λ s found. elim (or_cases (has_number n s) (is_within_limits e.nodes s) (number_passes (is_within_but n e.nodes) s.number e.nodes s sound.limits found)) [
      | inl here ↦ within s found here
      | inr held ↦ held
    ]))
    (all_none (is_due e.nodes e.last) e.nodes (all_by_two (is_quiet_but n e.last e.nodes) (λ s. not (is_instance n s) || not (is_due e.nodes e.last s)) (λ s. not (is_due e.nodes e.last s)) (λ s one two. elim (or_cases (is_instance n s) (not (is_due e.nodes e.last s)) one) [
      | inl here ↦ elim (or_cases (not (is_instance n s)) (not (is_due e.nodes e.last s)) two) [
        | inl other ↦ absurd (both_ways _ (not-true _ other) here)
        | inr quiet ↦ quiet
      ]
      | inr quiet ↦ quiet
    ]) e.nodes sound.quiet still))

-- ---- instances

-- the CSEBase is no instance
other_type : (n : ℕ) (s : ResourceData) → is_instance n s ≡ true → is_ty s.ty CseBase ≡ false
other_type n s instance =
    let number : (ty_row s.ty).number ≡ 4 = eqb-true (ty_row s.ty).number 4 (kin_parts ContentInstance n s instance).kind in
    ne_eqb (ty_row s.ty).number 5 (λ e. omega arith)

-- when an instance is due
pub instance_due : (n moment : ℕ) (nodes : List ResourceData) (c s : ResourceData) → at n nodes ≡ Some c → is_instance n s ≡ true → is_due nodes moment s ≡ is_due_by (count_at Mia c.attrs) moment s
instance_due n moment nodes c s found instance =
    let kin = kin_parts ContentInstance n s instance in
    let up : at s.parent nodes ≡ Some c = ap (λ (m : ℕ). at m nodes) kin.under ∙ found in
    let moved : is_due nodes moment s ≡ option_map_or (λ at. nat_le at moment) (due_under (Some c) s) false = ap (λ (o : Option ResourceData). option_map_or (λ at. nat_le at moment) (due_under o s) false) up in
    moved ∙ rw (other_type n s instance, kin.kind) refl

-- the first resource, the CSEBase, is none of them
no_first : (n : ℕ) (home : HomeData) (nodes : List ResourceData) (picks : ResourceData → Bool) → begins_with_base home nodes ≡ true → ascend nodes ≡ true → ((s : ResourceData) → picks s ≡ true → has s.number (instances_of n nodes) ≡ true) → spares_first picks nodes ≡ true
no_first n home [] picks base order only = refl
no_first n home (r ∷ nodes) picks base order only =
    let is_base : is_ty r.ty CseBase ≡ true = (base_parts home r nodes base).kind in
    let plain : is_instance n r ≡ false = false_from_ne_true _ (λ t. both_ways _ (other_type n r t) is_base) in
    let above : are_above r.number nodes ≡ true = (ascend_parts r nodes order).above in
    let none : has r.number (instances_of n (r ∷ nodes)) ≡ false = rw plain (above_lacks r.number (instances_of n nodes) (all_filtered _ (is_instance n) nodes above)) in
    not_from_false _ (false_from_ne_true _ (λ t. both_ways _ none (only r t)))

few_of : (p : ResourceData → Bool) (rs : List ResourceData) → length (filter p rs) ≤ length rs
few_of p rs = (let both = length-filter_both p (λ s. not (p s)) (λ s. refl) rs in omega arith)

small_of : (p : ResourceData → Bool) (rs : List ResourceData) → sum_by instance_size (filter p rs) ≤ sum_by instance_size rs
small_of p rs = (let both = sum_by-filter_both p (λ s. not (p s)) (λ s. refl) instance_size rs in omega arith)

-- ---- what a container pushes out

-- Beside these instances the container has new ones, of this size, if any, that aren't due.
pub record IsPruning (n : ℕ) (e : EntityData) (c : ResourceData) (size : Option ℕ) (rs news : List ResourceData) : Type 0 where
  pub sound : IsSoundBut n e
  pub found : at n e.nodes ≡ Some c
  pub order : ascend rs ≡ true
  pub instances : instances_of n e.nodes ≡ rs ++ news
  pub few : length news ≤ length (option_to_list size)
  pub small : sum_by instance_size news ≤ unwrap_or size 0
  pub young : list_all (lasts (count_at Mia c.attrs) e.last) news ≡ true
  pub fits : do_fit (limits_of c) size [] ≡ true

module _ (n : ℕ) (e : EntityData) (c : ResourceData) (size : Option ℕ) (rs news : List ResourceData) (pruning : IsPruning n e c size rs news) where
  abbrev pub stay : List ResourceData
  stay = kept (limits_of c) size e.last rs

  abbrev pub goes : ResourceData → Bool
  goes s = is_numbered_in (evicted (limits_of c) size e.last rs) s

  abbrev left : List ResourceData
  left = without goes e.nodes

  tree : is_tree e.nodes ≡ true
  tree = tree_from_well_formed e.nodes pruning.sound.frame.tree

  -- a suffix of those that last
  suffix : (front : List ResourceData) × (front ++ stay ≡ filter (lasts (count_at Mia c.attrs) e.last) rs)
  suffix = longest_is_suffix (limits_of c) size (filter (lasts (count_at Mia c.attrs) e.last) rs)

  keeps : filter (λ s. not (goes s)) rs ≡ stay
  keeps = left_are_kept (lasts (count_at Mia c.attrs) e.last) suffix.0 stay rs pruning.order suffix.1

  spared : spares_first goes e.nodes ≡ true
  spared = no_first n e.home e.nodes goes pruning.sound.frame.base (tree_ascends e.nodes tree) (λ s picked.
      ap (has s.number) pruning.instances ∙ has-append s.number rs news ∙ or_left _ _ (not_kept_parts stay rs s.number picked).there)

  after : IsSoundBut n (left_by goes e)
  after = but_left goes n e pruning.sound spared

  pub split : filter (λ s. not (goes s)) (instances_of n e.nodes) ≡ stay ++ filter (λ s. not (goes s)) news
  split = ap (filter (λ s. not (goes s))) pruning.instances ∙ filter-append (λ s. not (goes s)) rs news ∙ ap (λ (ss : List ResourceData). ss ++ filter (λ s. not (goes s)) news) keeps

  count : length (instances_of n left) ≤ length stay + length (option_to_list size)
  count =
      let some : length (instances_of n left) ≤ length (filter (λ s. not (goes s)) (instances_of n e.nodes)) = left_count goes (is_instance n) [] e.nodes in
      let all : length (filter (λ s. not (goes s)) (instances_of n e.nodes)) ≡ length stay + length (filter (λ s. not (goes s)) news) = ap length split ∙ length-append stay (filter (λ s. not (goes s)) news) in
      let new : length (filter (λ s. not (goes s)) news) ≤ length news = few_of (λ s. not (goes s)) news in
      let one : length news ≤ length (option_to_list size) = pruning.few in
      omega arith

  sizes : sum_by instance_size (instances_of n left) ≤ sum_by instance_size stay + unwrap_or size 0
  sizes =
      let some : sum_by instance_size (instances_of n left) ≤ sum_by instance_size (filter (λ s. not (goes s)) (instances_of n e.nodes)) = left_sum goes (is_instance n) instance_size [] e.nodes in
      let all : sum_by instance_size (filter (λ s. not (goes s)) (instances_of n e.nodes)) ≡ sum_by instance_size stay + sum_by instance_size (filter (λ s. not (goes s)) news) = ap (sum_by instance_size) split ∙ sum_by-append instance_size stay (filter (λ s. not (goes s)) news) in
      let new : sum_by instance_size (filter (λ s. not (goes s)) news) ≤ sum_by instance_size news = small_of (λ s. not (goes s)) news in
      let one : sum_by instance_size news ≤ unwrap_or size 0 = pruning.small in
      omega arith

  within : within_by c (instances_of n left) ≡ true
  within =
      let fit = and_parts (is_within (length stay + length (option_to_list size)) (count_at Mni c.attrs)) (is_within (sum_by instance_size stay + unwrap_or size 0) (count_at Mbs c.attrs)) (longest_fits (limits_of c) size (filter (lasts (count_at Mia c.attrs) e.last) rs) pruning.fits) in
      or_right _ _ (and_from _ _
      (within_too (count_at Mni c.attrs) (length (instances_of n left)) (length stay + length (option_to_list size)) count fit.0)
      (within_too (count_at Mbs c.attrs) (sum_by instance_size (instances_of n left)) (sum_by instance_size stay + unwrap_or size 0) sizes fit.1))

  own_within : (s : ResourceData) → at s.number left ≡ Some s → has_number n s ≡ true → is_within_limits left s ≡ true
  own_within s there here =
      let by_number : at n left ≡ Some s = ap (λ (m : ℕ). at m left) (sym (eqb-true s.number n here)) ∙ there in
      let before : at n e.nodes ≡ Some s = (chosen (is_spared goes e.nodes n) (at n e.nodes) s (sym (at-without goes n e.nodes tree) ∙ by_number)).1 in
      let is : c ≡ s = same_Some c s (sym pruning.found ∙ before) in
      subst (λ (x : ResourceData). within_by x (instances_of x.number left) ≡ true) is
      (ap (λ (m : ℕ). within_by c (instances_of m left)) (at_number n e.nodes c pruning.found) ∙ within)

  -- each instance goes or lasts
  stay_last : list_all (lasts (count_at Mia c.attrs) e.last) stay ≡ true
  stay_last = (append_parts (lasts (count_at Mia c.attrs) e.last) suffix.0 stay (ap (list_all (lasts (count_at Mia c.attrs) e.last)) suffix.1 ∙ all_picked rs)).back
    where
      all_picked : (xs : List ResourceData) → list_all (lasts (count_at Mia c.attrs) e.last) (filter (lasts (count_at Mia c.attrs) e.last) xs) ≡ true
      all_picked [] = refl
      all_picked (x ∷ xs) = elim (cases_Bool (lasts (count_at Mia c.attrs) e.last x)) [
        | inl t ↦ rw t (and_from _ _ t (all_picked xs))
        | inr f ↦ rw f (all_picked xs)
      ]

  go_or_last : list_all (λ s. not (not (goes s)) || lasts (count_at Mia c.attrs) e.last s) (instances_of n e.nodes) ≡ true
  go_or_last =
      ap (list_all (λ s. not (not (goes s)) || lasts (count_at Mia c.attrs) e.last s)) pruning.instances
      ∙ list_all-append (λ s. not (not (goes s)) || lasts (count_at Mia c.attrs) e.last s) rs news
      ∙ and_from _ _
      (all_unfiltered (lasts (count_at Mia c.attrs) e.last) (λ s. not (goes s)) rs (ap (list_all (lasts (count_at Mia c.attrs) e.last)) keeps ∙ stay_last))
      (all_weaker (lasts (count_at Mia c.attrs) e.last) (λ s. not (not (goes s)) || lasts (count_at Mia c.attrs) e.last s) (λ s young. or_right _ _ young) news pruning.young)

  left_last : list_all (λ s. not (is_instance n s) || lasts (count_at Mia c.attrs) e.last s) left ≡ true
  left_last =
      let each : list_all (λ s. not (is_instance n s) || (not (not (goes s)) || lasts (count_at Mia c.attrs) e.last s)) left ≡ true =
      staying_all goes (λ s. not (is_instance n s) || (not (not (goes s)) || lasts (count_at Mia c.attrs) e.last s)) [] e.nodes (all_unfiltered (λ s. not (not (goes s)) || lasts (count_at Mia c.attrs) e.last s) (is_instance n) e.nodes go_or_last) in
      let unpicked : list_all (λ s. not (goes s)) left ≡ true = none_all goes left (staying_unpicked goes [] e.nodes) in
      all_by_two (λ s. not (is_instance n s) || (not (not (goes s)) || lasts (count_at Mia c.attrs) e.last s)) (λ s. not (goes s)) (λ s. not (is_instance n s) || lasts (count_at Mia c.attrs) e.last s) (λ s held free. elim (or_cases (not (is_instance n s)) (not (not (goes s)) || lasts (count_at Mia c.attrs) e.last s) held) [
        | inl other ↦ or_left _ _ other
        | inr either ↦ elim (or_cases (not (not (goes s))) (lasts (count_at Mia c.attrs) e.last s) either) [
          | inl gone ↦ absurd (both_ways _ (not-true _ gone) free)
          | inr last ↦ or_right _ _ last
        ]
      ]) left each unpicked

  still : list_all (λ s. not (is_instance n s) || not (is_due left e.last s)) left ≡ true
  still = all_weaker (λ s. not (is_instance n s) || lasts (count_at Mia c.attrs) e.last s) (λ s. not (is_instance n s) || not (is_due left e.last s)) (λ s held. elim (cases_Bool (is_instance n s)) [
    | inl t ↦ elim (or_cases (not (is_instance n s)) (lasts (count_at Mia c.attrs) e.last s) held) [
      | inl other ↦ absurd (both_ways _ (not-true _ other) t)
      | inr last ↦ or_right _ _ (not_from_false _ (false_from_ne_true _ (λ d.
          both_ways _ (not-true _ last) (sym (instance_due n e.last e.nodes c s pruning.found t) ∙ due_left goes e.nodes e.last s tree d))))
    ]
    | inr f ↦ or_left _ _ (not_from_false _ f)
  ]) left left_last

  pub sound_pruned : IsSoundEntity (left_by goes e)
  sound_pruned = restored n (left_by goes e) after own_within still
