-- What of soundness stays where a resource takes the place of the one of its number.
use Rattle.std.specs.Prelude.{◌==◌, nat_le, nat_lt}
use Rattle.std.proofs.Common.{◌≡◌, ℕ, ◌<◌, List, [], ◌∷◌, length, map, Bool, true, false, not, ◌&&◌, ◌||◌, Option, Some, None, option_map, inl, inr, refl, sym, ap, ◌∙◌, subst, arith, bytes_eq}
use Rattle.std.proofs.lemmas.Bool.{cases_Bool, cases_eq, and_parts, and_from, and_right, or_left, or_right, not_from_false, lt-leb, lt-ltb, eq-eqb}
use Rattle.std.proofs.lemmas.List.{length-map}
use Rattle.std.proofs.lemmas.Option.{same_Some}
use Rattle.std.specs.List.{list_any, list_all, filter, filter_map, cons_option}
use Rattle.std.specs.Option.{option_map_or}
use Rattle.m2m_names.specs.Name.{is_free_name}
use Rattle.m2m_names.specs.declared.types.Ty.TheVariants.{ContentInstance, CseBase, PollingChannel}
use Rattle.resource_model.specs.Home.{HomeData}
use Rattle.resource_model.specs.Resource.{ResourceData, is_ty, has_number, cse_id}
use Rattle.tree_model.specs.Tree.{at, has, replaced, is_under, is_kin, is_instance, channels_of, level_of, due_under, is_due, is_tree, standing}
use Rattle.tree_model.proofs.ChangeLemmas.{picked-replaced, unpicked-replaced, level_of-replaced}
use Rattle.tree_model.proofs.GrowthLemmas.{below_has}
use Rattle.tree_model.proofs.KeptLemmas.{map-replaced_same, is_tree-replaced, is_well_formed-replaced}
use Rattle.tree_model.proofs.QuietLemmas.{all_by_number, number_passes, due-replaced_other, due_plain}
use Rattle.tree_model.proofs.TreeLemmas.{at_has, at_number, at-replaced, at-replaced_other}
use Rattle.attribute_rules.specs.Kinds.{are_kinds}
use Rattle.entity_model.specs.Entity.{EntityData}
use Rattle.entity_model.specs.Sound.{has_known_ids, has_free_name, has_size, has_state_tag, is_shallow, keeps_order, begins_with_base, are_distinct, has_one_channel}
use Rattle.entity_model.proofs.SoundLemmas.{IsFramed}
use Rattle.create_delete.specs.NewResource.{IsReplacement}
use Rattle.create_delete.proofs.GrownLemmas.{is_within_but, within_by, none_all}
use Rattle.tree_model.specs.Shown.{own_cse_id}
use Rattle.m2m_names.proofs.ListLemmas.{all_weaker}

-- ---- over a list

all_replaced : (p : ResourceData → Bool) (c : ResourceData) (nodes : List ResourceData) → list_all p nodes ≡ true → p c ≡ true → list_all p (replaced c nodes) ≡ true
all_replaced p c [] all new = refl
all_replaced p c (s ∷ nodes) all new =
    let parts = and_parts (p s) (list_all p nodes) all in
    elim (cases_Bool (has_number c.number s)) [
      | inl t ↦ rw t (and_from _ _ new parts.1)
      | inr f ↦ rw f (and_from _ _ parts.0 (all_replaced p c nodes parts.1 new))
    ]

length_replaced : (c : ResourceData) (nodes : List ResourceData) → length (replaced c nodes) ≡ length nodes
length_replaced c nodes =
    let same : map (λ (s : ResourceData). c) (replaced c nodes) ≡ map (λ (s : ResourceData). c) nodes = map-replaced_same (λ s. c) c nodes (λ s found. refl) in
    sym (length-map (replaced c nodes) (λ (s : ResourceData). c)) ∙ ap length same ∙ length-map nodes (λ (s : ResourceData). c)

count_replaced : (p : ResourceData → Bool) (c : ResourceData) (nodes : List ResourceData) → ((s : ResourceData) → at c.number nodes ≡ Some s → p s ≡ p c) → length (filter p (replaced c nodes)) ≡ length (filter p nodes)
count_replaced p c nodes same = elim (cases_Bool (p c)) [
  | inl t ↦ ap length (picked-replaced p c nodes same t) ∙ length_replaced c (filter p nodes)
  | inr f ↦ ap length (unpicked-replaced p c nodes same f)
]

-- ---- what takes a place

-- the one that stood there
pub record Stood (nodes : List ResourceData) (c : ResourceData) : Type 0 where
  pub before : ResourceData
  pub found : at c.number nodes ≡ Some before
  pub same : standing before ≡ standing c

pub stood_there : (nodes : List ResourceData) (c : ResourceData) → option_map standing (at c.number nodes) ≡ Some (standing c) → Stood nodes c
stood_there nodes c stood = by_found (at c.number nodes) refl stood
  where
    by_found : (o : Option ResourceData) → at c.number nodes ≡ o → option_map standing o ≡ Some (standing c) → Stood nodes c
    by_found None is same = cc
    by_found (Some s) is same = record { before = s; found = is; same = same_Some (standing s) (standing c) same }

module _ (nodes : List ResourceData) (c : ResourceData) (stood : option_map standing (at c.number nodes) ≡ Some (standing c)) where
  old : Stood nodes c
  old = stood_there nodes c stood

  -- whatever finds the number finds that one
  alike : {X : Type 0} (h : ResourceData → X) → h old.before ≡ h c → (s : ResourceData) → at c.number nodes ≡ Some s → h s ≡ h c
  alike h same s found = ap h (same_Some s old.before (sym found ∙ old.found)) ∙ same

  same_ty : old.before.ty ≡ c.ty
  same_ty = ap (λ x. x.0) old.same

  same_name : old.before.name ≡ c.name
  same_name = ap (λ x. x.1) old.same

  same_parent : old.before.parent ≡ c.parent
  same_parent = ap (λ x. x.2) old.same

  same_cse : cse_id old.before ≡ cse_id c
  same_cse = ap (λ x. x.4) old.same

  same_kin : (k : ResourceData → Bool) → ((r s : ResourceData) → r.ty ≡ s.ty → r.parent ≡ s.parent → k r ≡ k s) → (s : ResourceData) → at c.number nodes ≡ Some s → k s ≡ k c
  same_kin k by s found = alike k (by old.before c same_ty same_parent) s found

  kin_by : (t : _) (m : ℕ) (r s : ResourceData) → r.ty ≡ s.ty → r.parent ≡ s.parent → is_kin t m r ≡ is_kin t m s
  kin_by t m r s ty parent = ap (λ (p : ℕ). (p == m) && is_ty r.ty t) parent ∙ ap (λ x. is_under m s && is_ty x t) ty

  pub instances_replaced : is_ty c.ty ContentInstance ≡ false → (m : ℕ) → filter (is_instance m) (replaced c nodes) ≡ filter (is_instance m) nodes
  instances_replaced plain m = unpicked-replaced (is_instance m) c nodes (same_kin (is_instance m) (kin_by ContentInstance m)) (and_right (is_under m c) _ plain)

  channels_replaced : (m : ℕ) → length (channels_of m (replaced c nodes)) ≡ length (channels_of m nodes)
  channels_replaced m = count_replaced (is_kin PollingChannel m) c nodes (same_kin (is_kin PollingChannel m) (kin_by PollingChannel m))

  cses_replaced : filter_map cse_id (replaced c nodes) ≡ filter_map cse_id nodes
  cses_replaced = by_list nodes (λ s found. alike cse_id same_cse s found)
    where
      by_list : (rs : List ResourceData) → ((s : ResourceData) → at c.number rs ≡ Some s → cse_id s ≡ cse_id c) → filter_map cse_id (replaced c rs) ≡ filter_map cse_id rs
      by_list [] same = refl
      by_list (s ∷ rs) same = elim (cases_Bool (has_number c.number s)) [
        | inl t ↦ rw t (ap (λ (o : Option (List ℕ)). cons_option o (filter_map cse_id rs)) (sym (same s (rw t refl))))
        | inr f ↦ rw f (ap (cons_option (cse_id s)) (by_list rs (λ x found. same x (rw f found))))
      ]

  base_replaced : (home : HomeData) → begins_with_base home (replaced c nodes) ≡ begins_with_base home nodes
  base_replaced home = by_list nodes (λ s found. (alike (λ r. is_ty r.ty CseBase) (ap (λ t. is_ty t CseBase) same_ty) s found, alike (λ r. bytes_eq r.name home.base) (ap (λ (t : List ℕ). bytes_eq t home.base) same_name) s found))
    where
      by_list : (rs : List ResourceData) → ((s : ResourceData) → at c.number rs ≡ Some s → (is_ty s.ty CseBase ≡ is_ty c.ty CseBase) × (bytes_eq s.name home.base ≡ bytes_eq c.name home.base)) → begins_with_base home (replaced c rs) ≡ begins_with_base home rs
      by_list [] same = refl
      by_list (s ∷ rs) same = elim (cases_Bool (has_number c.number s)) [
        | inl t ↦ (let both = same s (rw t refl) in rw (t, both.0, both.1) refl)
        | inr f ↦ rw f refl
      ]

  depth_replaced : (n : ℕ) → level_of n (replaced c nodes) ≡ level_of n nodes
  depth_replaced n = level_of-replaced c n nodes (λ s found. alike (λ r. r.parent) same_parent s found)

  pub still_there : has c.number nodes ≡ true
  still_there = at_has c.number nodes old.before old.found

-- ---- soundness but for limits and what is due

abbrev pub replaced_by : EntityData → ResourceData → EntityData
replaced_by e c = record { home = e.home; nodes = replaced c e.nodes; next = e.next; last = e.last; items = e.items; numbered = e.numbered }

pub framed_replaced : (e : EntityData) (c : ResourceData) → IsFramed e → IsReplacement e c → IsFramed (replaced_by e c)
framed_replaced e c framed new =
    let below : c.number < e.next = below_has e.next c.number e.nodes framed.numbers (still_there e.nodes c new.stood) in
    let many : length (replaced c e.nodes) ≡ length e.nodes = length_replaced c e.nodes in
    let few = framed.count in
    record {
      numbers = all_replaced (λ s. nat_lt s.number e.next) c e.nodes framed.numbers (lt-ltb c.number e.next below);
      next = framed.next;
      ids = all_replaced (has_known_ids e.next) c e.nodes framed.ids new.ids;
      tree = is_well_formed-replaced c e.nodes new.stood ∙ framed.tree;
      base = base_replaced e.nodes c new.stood e.home ∙ framed.base;
      names = all_replaced has_free_name c e.nodes framed.names (ap is_free_name (sym (same_name e.nodes c new.stood)) ∙ number_passes has_free_name c.number e.nodes (old e.nodes c new.stood).before framed.names (old e.nodes c new.stood).found);
      home = framed.home;
      depth = all_deep;
      count = omega arith;
      kinds = all_replaced are_kinds c e.nodes framed.kinds new.kinds;
      order = all_replaced keeps_order c e.nodes framed.order new.order;
      tags = all_replaced has_state_tag c e.nodes framed.tags new.tag;
      cses = ap (λ (ids : List (List ℕ)). are_distinct (own_cse_id e.home ∷ ids)) (cses_replaced e.nodes c new.stood) ∙ framed.cses;
      channels = all_channels;
      sizes = all_replaced has_size c e.nodes framed.sizes (or_left _ _ (not_from_false _ new.plain));
      last = framed.last;
      waiting = framed.waiting;
      moments = framed.moments;
    }
  where
    was : Stood e.nodes c
    was = stood_there e.nodes c new.stood

    all_deep : list_all (is_shallow (replaced c e.nodes)) (replaced c e.nodes) ≡ true
    all_deep = all_replaced _ c e.nodes
        (all_weaker _ _ (λ s held. ap (λ (d : ℕ). nat_le d 32) (depth_replaced e.nodes c new.stood s.number) ∙ held) e.nodes framed.depth)
        (ap (λ (d : ℕ). nat_le d 32) (depth_replaced e.nodes c new.stood c.number) ∙ ap (λ (n : ℕ). nat_le (level_of n e.nodes) 32) (sym (at_number c.number e.nodes was.before was.found)) ∙ number_passes (is_shallow e.nodes) c.number e.nodes was.before framed.depth was.found)

    all_channels : list_all (has_one_channel (replaced c e.nodes)) (replaced c e.nodes) ≡ true
    all_channels = all_replaced _ c e.nodes
        (all_weaker _ _ (λ s held. ap (λ (d : ℕ). nat_le d 1) (channels_replaced e.nodes c new.stood s.number) ∙ held) e.nodes framed.channels)
        (ap (λ (d : ℕ). nat_le d 1) (channels_replaced e.nodes c new.stood c.number) ∙ ap (λ (n : ℕ). nat_le (length (channels_of n e.nodes)) 1) (sym (at_number c.number e.nodes was.before was.found)) ∙ number_passes (has_one_channel e.nodes) c.number e.nodes was.before framed.channels was.found)

-- ---- limits, but those of the resource itself

pub within_but_replaced : (nodes : List ResourceData) (c : ResourceData) → option_map standing (at c.number nodes) ≡ Some (standing c) → is_ty c.ty ContentInstance ≡ false → list_all (is_within_but c.number nodes) nodes ≡ true → list_all (is_within_but c.number (replaced c nodes)) (replaced c nodes) ≡ true
within_but_replaced nodes c stood plain all =
    all_replaced _ c nodes
    (all_weaker _ _ (λ s held. ap (λ (rs : List ResourceData). has_number c.number s || within_by s rs) (instances_replaced nodes c stood plain s.number) ∙ held) nodes all)
    (or_left _ _ (eq-eqb c.number c.number refl))

-- ---- what is due, but the instances of the resource itself

abbrev pub is_quiet_but : ℕ → ℕ → List ResourceData → ResourceData → Bool
is_quiet_but n moment nodes s = is_instance n s || not (is_due nodes moment s)

abbrev is_past : ℕ → Option ℕ → Bool
is_past moment end = option_map_or (λ at. nat_le at moment) end false

not_yet : (o : Option ResourceData) (r : ResourceData) (moment : ℕ) → moment < r.et → is_ty r.ty ContentInstance ≡ false → is_past moment (due_under o r) ≡ false
not_yet o r moment later plain = elim (cases_Bool (is_ty r.ty CseBase)) [
  | inl t ↦ rw t refl
  | inr f ↦ rw (f, plain) (lt-leb r.et moment later)
]

quiet_each : (nodes : List ResourceData) (c s : ResourceData) (moment : ℕ) → option_map standing (at c.number nodes) ≡ Some (standing c) → is_ty c.ty ContentInstance ≡ false → moment < c.et → list_any (is_due nodes moment) nodes ≡ false → at s.number (replaced c nodes) ≡ Some s → is_quiet_but c.number moment (replaced c nodes) s ≡ true
quiet_each nodes c s moment stood plain later none found = elim (cases_eq s.number c.number) [
  | inl same ↦
      let is : c ≡ s = same_Some c s (sym (at-replaced c nodes (still_there nodes c stood)) ∙ ap (λ (n : ℕ). at n (replaced c nodes)) (sym same) ∙ found) in
      or_right _ _ (subst (λ (x : ResourceData). not (is_due (replaced c nodes) moment x) ≡ true) is (not_from_false _ (not_yet (at c.parent (replaced c nodes)) c moment later plain)))
  | inr apart ↦
      let before : at s.number nodes ≡ Some s = sym (at-replaced_other s.number c nodes apart) ∙ found in
      let held : not (is_due nodes moment s) ≡ true = number_passes (λ r. not (is_due nodes moment r)) s.number nodes s (none_all (is_due nodes moment) nodes none) before in
      elim (cases_eq s.parent c.number) [
        | inl under ↦ elim (cases_Bool (is_ty s.ty ContentInstance)) [
          | inl u ↦ or_left _ _ (and_from _ _ (eq-eqb s.parent c.number under) u)
          | inr v ↦ or_right _ _ (ap (λ (o : Option ℕ). not (is_past moment o)) (due_plain (at s.parent (replaced c nodes)) (at s.parent nodes) s v) ∙ held)
        ]
        | inr other ↦ or_right _ _ (ap (λ (o : Option ℕ). not (is_past moment o)) (due-replaced_other nodes c s other) ∙ held)
      ]
]

pub quiet_but_replaced : (nodes : List ResourceData) (c : ResourceData) (moment : ℕ) → is_tree nodes ≡ true → option_map standing (at c.number nodes) ≡ Some (standing c) → is_ty c.ty ContentInstance ≡ false → moment < c.et → list_any (is_due nodes moment) nodes ≡ false → list_all (is_quiet_but c.number moment (replaced c nodes)) (replaced c nodes) ≡ true
quiet_but_replaced nodes c moment tree stood plain later none =
    all_by_number _ (replaced c nodes) (is_tree-replaced c nodes stood ∙ tree) (λ s found. quiet_each nodes c s moment stood plain later none found)
