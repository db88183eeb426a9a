-- Subscriptions that are lowered or go: what of soundness stays.
use Rattle.std.specs.Prelude.{◌==◌, nat_le, nat_lt}
use Rattle.std.proofs.Common.{◌≡◌, ℕ, ◌+◌, ◌-◌, ◌≤◌, List, [], ◌∷◌, ◌++◌, length, map, Bool, true, false, cond, not, ◌&&◌, ◌||◌, Option, Some, None, option_and_then, option_map, pos, sum_by, inl, inr, refl, sym, ap, ◌∙◌, arith, bytes_eq}
use Rattle.std.proofs.lemmas.Bool.{cases_Bool, and_parts, and_from, or_parts, not_from_false, both_ways, eqb-true}
use Rattle.std.proofs.lemmas.Bool.Decides.{nat_tests}
use Rattle.std.proofs.lemmas.List.{length-map}
use Rattle.std.proofs.lemmas.List.Sums.{sum_by-cons}
use Rattle.std.proofs.lemmas.Option.{same_Some}
use Rattle.std.specs.Int.{is_in_range}
use Rattle.std.specs.List.{list_any, list_all, filter, filter_map, cons_option}
use Rattle.std.specs.Option.{option_map_or}
use Rattle.m2m_names.proofs.ListLemmas.{all_weaker}
use Rattle.m2m_names.proofs.TypeLemmas.{same_type}
use Rattle.m2m_names.specs.declared.attributes.Attr.{Attr}
use Rattle.m2m_names.specs.declared.attributes.Attr.TheVariants.{Acpi, Aei, Cs, Csi, Exc, Macp, Mbs, Mia, Mni, St}
use Rattle.m2m_names.specs.declared.types.Ty.{Ty}
use Rattle.m2m_names.specs.declared.types.Ty.TheVariants.{AccessControlPolicy, Ae, Container, ContentInstance, CseBase, Group, PollingChannel, RemoteCse, Subscription, AccessControlPolicyAnnc, AeAnnc, ContainerAnnc, ContentInstanceAnnc, GroupAnnc}
use Rattle.m2m_value.specs.Data.{Data, number}
use Rattle.m2m_value.specs.Shapes.{as_count}
use Rattle.m2m_value.specs.View.{as_text}
use Rattle.resource_model.specs.Attributes.{Row, is_attr, value_of, with_value}
use Rattle.resource_model.specs.Home.{HomeData}
use Rattle.resource_model.specs.Resource.{ResourceData, is_ty, ae_id, cse_id}
use Rattle.resource_model.proofs.AttributeLemmas.{is_attr-same}
use Rattle.attribute_rules.specs.Kinds.{is_attr_kind, have_kinds, are_kinds}
use Rattle.attribute_rules.proofs.KindLemmas.{kinds-with_value}
use Rattle.container_limits.specs.Limits.{are_within, limits_of}
use Rattle.policy_eval.specs.Rules.{ids_at, listed_in}
use Rattle.subscription_match.specs.Spending.{count_for, is_spent, left_of, left_to, lowered, nodes_spent}
use Rattle.subscription_match.specs.declared.drafts.DraftParts.{DraftParts}
use Rattle.tree_model.specs.Tree.{at, due_under, instance_size, is_due, is_instance, is_kin, level_of, recounted, without}
use Rattle.tree_model.specs.Shown.{own_cse_id}
use Rattle.tree_model.proofs.ChangeLemmas.{level_of-map}
use Rattle.tree_model.proofs.KeptLemmas.{KeepsStanding, is_well_formed-map, list_all-map, list_any-map}
use Rattle.tree_model.proofs.MarkLemmas.{exc_aside, due_below, other_kept}
use Rattle.tree_model.proofs.TreeLemmas.{at-map, list_any-same, staying_unpicked}
use Rattle.entity_model.specs.Entity.{EntityData}
use Rattle.entity_model.specs.Sound.{are_distinct, begins_with_base, has_free_name, has_known_ids, has_one_channel, has_size, has_state_tag, is_known_id, is_shallow, is_within_limits, keeps_order, spares_first, IsSoundEntity}
use Rattle.entity_model.proofs.OrderLemmas.{order-with_value}
use Rattle.entity_model.proofs.SoundLemmas.{base_parts, sound_framed, sound_removed, IsFramed}

-- ---- what counts

-- an attribute of a resource is of its kind
pub kind_found : (ty : Ty) (a : Attr) (rows : List Row) (d : Data) → have_kinds ty rows ≡ true → value_of a rows ≡ Some d → is_attr_kind ty (a, d) ≡ true
kind_found ty a [] d all found = cc
kind_found ty a (row ∷ rows) d all found =
    let parts = and_parts (is_attr_kind ty row) (have_kinds ty rows) all in
    elim (cases_Bool (is_attr a row.0)) [
      | inl t ↦
          let name : row.0 ≡ a = sym (is_attr-same a row.0 t) in
          let value : row.1 ≡ d = same_Some row.1 d (rw t at found) in
          ap (λ (x : Data). is_attr_kind ty (a, x)) (sym value) ∙ ap (λ (b : Attr). is_attr_kind ty (b, row.1)) (sym name) ∙ parts.0
      | inr f ↦ kind_found ty a rows d parts.1 (rw f at found)
    ]

-- only a subscription counts
record IsCounter (ty : Ty) (d : Data) : Type 0 where
  subscription : is_ty ty Subscription ≡ true
  range : option_map_or (is_in_range 1 9223372036854775807) (as_count d) false ≡ true

counter_kind : (ty : Ty) (d : Data) → is_attr_kind ty (Exc, d) ≡ true → IsCounter ty d
counter_kind AccessControlPolicy d kind = absurd (both_ways _ refl kind)
counter_kind Ae d kind = absurd (both_ways _ refl kind)
counter_kind Container d kind = absurd (both_ways _ refl kind)
counter_kind ContentInstance d kind = absurd (both_ways _ refl kind)
counter_kind CseBase d kind = absurd (both_ways _ refl kind)
counter_kind Group d kind = absurd (both_ways _ refl kind)
counter_kind PollingChannel d kind = absurd (both_ways _ refl kind)
counter_kind RemoteCse d kind = absurd (both_ways _ refl kind)
counter_kind Subscription d kind = record { subscription = refl; range = kind }
counter_kind AccessControlPolicyAnnc d kind = absurd (both_ways _ refl kind)
counter_kind AeAnnc d kind = absurd (both_ways _ refl kind)
counter_kind ContainerAnnc d kind = absurd (both_ways _ refl kind)
counter_kind ContentInstanceAnnc d kind = absurd (both_ways _ refl kind)
counter_kind GroupAnnc d kind = absurd (both_ways _ refl kind)

-- how many may be left
pub record CountsTo (r : ResourceData) (left : ℕ) : Type 0 where
  pub subscription : is_ty r.ty Subscription ≡ true
  pub some : 1 ≤ left
  pub most : left ≤ 9223372036854775807

range_parts : (n : ℕ) → is_in_range 1 9223372036854775807 n ≡ true → (1 ≤ n) × (n ≤ 9223372036854775807)
range_parts n is = grind (arith, nat_tests)

range_from : (n : ℕ) → 1 ≤ n → n ≤ 9223372036854775807 → is_in_range 1 9223372036854775807 n ≡ true
range_from n low high = grind (arith, nat_tests)

pub counts_to : (r : ResourceData) (left : ℕ) → are_kinds r ≡ true → left_to r ≡ Some left → CountsTo r left
counts_to r left kinds is = by (value_of Exc r.attrs) refl is
  where
    by : (o : Option Data) → value_of Exc r.attrs ≡ o → option_and_then as_count o ≡ Some left → CountsTo r left
    by None found none = cc
    by (Some d) found some =
        let kind = counter_kind r.ty d (kind_found r.ty Exc r.attrs d kinds found) in
        let range = range_parts left (ap (λ (o : Option ℕ). option_map_or (is_in_range 1 9223372036854775807) o false) (sym some) ∙ kind.range) in
        record { subscription = kind.subscription; some = range.0; most = range.1 }

-- ---- what is left

-- the resource counts and was told something, and so many are left
pub record IsTakenFrom (drafts : List DraftParts) (r : ResourceData) (left : ℕ) : Type 0 where
  pub old : ℕ
  pub counted : left_to r ≡ Some old
  pub told : (count_for r.number drafts == 0) ≡ false
  pub rest : left ≡ old - count_for r.number drafts

pub taken_from : (drafts : List DraftParts) (r : ResourceData) (left : ℕ) → left_of drafts r ≡ Some left → IsTakenFrom drafts r left
taken_from drafts r left is = elim (cases_Bool (count_for r.number drafts == 0)) [
  | inl t ↦ (let none : None ≡ Some left = rw t at is in cc)
  | inr f ↦ by (left_to r) refl f (rw f at is)
]
  where
    by : (o : Option ℕ) → left_to r ≡ o → (count_for r.number drafts == 0) ≡ false → option_map (λ left. left - count_for r.number drafts) o ≡ Some left → IsTakenFrom drafts r left
    by None found told none = cc
    by (Some old) found told some = record { old = old; counted = found; told = told; rest = sym (same_Some (old - count_for r.number drafts) left some) }

-- what isn't a subscription isn't spent
unspent : (drafts : List DraftParts) (r : ResourceData) → are_kinds r ≡ true → is_ty r.ty Subscription ≡ false → is_spent drafts r ≡ false
unspent drafts r kinds other = by (left_of drafts r) refl
  where
    by : (o : Option ℕ) → left_of drafts r ≡ o → option_map_or (λ left. left == 0) o false ≡ false
    by None is = refl
    by (Some left) is =
        let from = taken_from drafts r left is in
        absurd (both_ways _ other (counts_to r from.old kinds from.counted).subscription)

pub base_unspent : (home : HomeData) (drafts : List DraftParts) (nodes : List ResourceData) → begins_with_base home nodes ≡ true → list_all are_kinds nodes ≡ true → spares_first (is_spent drafts) nodes ≡ true
base_unspent home drafts [] base kinds = refl
base_unspent home drafts (r ∷ nodes) base kinds =
    let is : r.ty ≡ CseBase = same_type r.ty CseBase (eqb-true _ _ (base_parts home r nodes base).kind) in
    not_from_false _ (unspent drafts r (and_parts (are_kinds r) _ kinds).0 (ap (λ t. is_ty t Subscription) is))

pub not_none : (left : ℕ) → (left == 0) ≡ false → 1 ≤ left
not_none left some = grind (arith, nat_tests)

-- ---- a list in which they are lowered

module _ (drafts : List DraftParts) where
  abbrev turned : ResourceData → ResourceData
  turned r = lowered drafts r

  -- what a counter says nothing of
  kept_by : {X : Type 0} (h : ResourceData → X) → ((left : ℕ) (r : ResourceData) → h (recounted left r) ≡ h r) → (r : ResourceData) → h (turned r) ≡ h r
  kept_by {X} h same r = by (left_of drafts r)
    where
      by : (o : Option ℕ) → h (option_map_or (λ left. recounted left r) o r) ≡ h r
      by None = refl
      by (Some left) = same left r

  attr_kept : (a : Attr) (left : ℕ) (r : ResourceData) → is_attr a Exc ≡ false → is_attr a a ≡ true → value_of a (with_value Exc (number (pos left)) r.attrs) ≡ value_of a r.attrs
  attr_kept a left r apart itself = other_kept a Exc (number (pos left)) r apart itself

  cse_kept : (r : ResourceData) → cse_id (turned r) ≡ cse_id r
  cse_kept = kept_by cse_id (λ left r. ap (λ (o : Option Data). cond (is_ty r.ty RemoteCse) (option_and_then as_text o) None) (attr_kept Csi left r refl refl))

  pub lowered_stands : KeepsStanding turned
  lowered_stands = record {
    number = kept_by (λ (r : ResourceData). r.number) (λ left r. refl);
    ty = kept_by (λ (r : ResourceData). r.ty) (λ left r. refl);
    name = kept_by (λ (r : ResourceData). r.name) (λ left r. refl);
    parent = kept_by (λ (r : ResourceData). r.parent) (λ left r. refl);
    ae = kept_by ae_id (λ left r. ap (λ (o : Option Data). cond (is_ty r.ty Ae) (option_and_then as_text o) None) (attr_kept Aei left r refl refl));
    cse = cse_kept;
  }

  -- a test of each
  all_lowered : (q p : ResourceData → Bool) → ((r : ResourceData) → q r ≡ true → p (turned r) ≡ true) → (nodes : List ResourceData) → list_all q nodes ≡ true → list_all p (map turned nodes) ≡ true
  all_lowered q p passes nodes all = list_all-map p turned nodes ∙ all_weaker q (λ r. p (turned r)) passes nodes all

  picked_lowered : (p : ResourceData → Bool) → ((r : ResourceData) → p (turned r) ≡ p r) → (nodes : List ResourceData) → filter p (map turned nodes) ≡ map turned (filter p nodes)
  picked_lowered p same [] = refl
  picked_lowered p same (r ∷ nodes) = elim (cases_Bool (p r)) [
    | inl t ↦ rw (same r ∙ t, t) (ap (λ (rs : List ResourceData). turned r ∷ rs) (picked_lowered p same nodes))
    | inr f ↦ rw (same r ∙ f, f) (picked_lowered p same nodes)
  ]

  kin_kept : (t : Ty) (n : ℕ) (r : ResourceData) → is_kin t n (turned r) ≡ is_kin t n r
  kin_kept t n = kept_by (is_kin t n) (λ left r. refl)

  count_kept : (t : Ty) (n : ℕ) (nodes : List ResourceData) → length (filter (is_kin t n) (map turned nodes)) ≡ length (filter (is_kin t n) nodes)
  count_kept t n nodes = ap length (picked_lowered (is_kin t n) (kin_kept t n) nodes) ∙ length-map (filter (is_kin t n) nodes) turned

  size_kept : (r : ResourceData) → instance_size (turned r) ≡ instance_size r
  size_kept = kept_by instance_size (λ left r. rw (attr_kept Cs left r refl refl) refl)

  sum_kept : (rs : List ResourceData) → sum_by instance_size (map turned rs) ≡ sum_by instance_size rs
  sum_kept [] = refl
  sum_kept (r ∷ rs) = sum_by-cons instance_size (turned r) (map turned rs) ∙ ap (λ (n : ℕ). n + sum_by instance_size (map turned rs)) (size_kept r) ∙ ap (λ (n : ℕ). instance_size r + n) (sum_kept rs) ∙ sym (sum_by-cons instance_size r rs)

  sizes_kept : (n : ℕ) (nodes : List ResourceData) → sum_by instance_size (filter (is_instance n) (map turned nodes)) ≡ sum_by instance_size (filter (is_instance n) nodes)
  sizes_kept n nodes = ap (sum_by instance_size) (picked_lowered (is_instance n) (kin_kept ContentInstance n) nodes) ∙ sum_kept (filter (is_instance n) nodes)

  cses_kept : (nodes : List ResourceData) → filter_map cse_id (map turned nodes) ≡ filter_map cse_id nodes
  cses_kept [] = refl
  cses_kept (r ∷ nodes) = ap (λ (o : Option (List ℕ)). cons_option o (filter_map cse_id (map turned nodes))) (cse_kept r) ∙ ap (cons_option (cse_id r)) (cses_kept nodes)

  base_kept : (home : HomeData) (nodes : List ResourceData) → begins_with_base home (map turned nodes) ≡ begins_with_base home nodes
  base_kept home [] = refl
  base_kept home (r ∷ nodes) = kept_by (λ (s : ResourceData). is_ty s.ty CseBase && bytes_eq s.name home.base) (λ left s. refl) r

  ids_kept : (next : ℕ) (r : ResourceData) → has_known_ids next (turned r) ≡ has_known_ids next r
  ids_kept next = kept_by (has_known_ids next) (λ left r.
      ap (λ (o : Option Data). list_all (is_known_id next) (listed_in o ++ ids_at Macp (recounted left r))) (attr_kept Acpi left r refl refl)
      ∙ ap (λ (o : Option Data). list_all (is_known_id next) (ids_at Acpi r ++ listed_in o)) (attr_kept Macp left r refl refl))

  shallow_kept : (nodes : List ResourceData) (r : ResourceData) → is_shallow nodes r ≡ true → is_shallow (map turned nodes) (turned r) ≡ true
  shallow_kept nodes r held =
      ap (λ (n : ℕ). nat_le (level_of n (map turned nodes)) 32) (lowered_stands.number r)
      ∙ ap (λ (d : ℕ). nat_le d 32) (level_of-map turned lowered_stands.number lowered_stands.parent r.number nodes) ∙ held

  channel_kept : (nodes : List ResourceData) (r : ResourceData) → has_one_channel nodes r ≡ true → has_one_channel (map turned nodes) (turned r) ≡ true
  channel_kept nodes r held =
      kept_by (has_one_channel (map turned nodes)) (λ left s. refl) r
      ∙ ap (λ (k : ℕ). nat_le k 1) (count_kept PollingChannel r.number nodes) ∙ held

  limits_kept : (left : ℕ) (r : ResourceData) → limits_of (recounted left r) ≡ limits_of r
  limits_kept left r = rw (attr_kept Mni left r refl refl, attr_kept Mbs left r refl refl, attr_kept Mia left r refl refl) refl

  within_kept : (nodes : List ResourceData) (r : ResourceData) → is_within_limits nodes r ≡ true → is_within_limits (map turned nodes) (turned r) ≡ true
  within_kept nodes r held =
      kept_by (is_within_limits (map turned nodes)) (λ left s. ap (λ l. not (is_ty s.ty Container) || are_within l (length (filter (is_instance s.number) (map turned nodes))) (sum_by instance_size (filter (is_instance s.number) (map turned nodes)))) (limits_kept left s)) r
      ∙ ap (λ (k : ℕ). not (is_ty r.ty Container) || are_within (limits_of r) k (sum_by instance_size (filter (is_instance r.number) (map turned nodes)))) (count_kept ContentInstance r.number nodes)
      ∙ ap (λ (k : ℕ). not (is_ty r.ty Container) || are_within (limits_of r) (length (filter (is_instance r.number) nodes)) k) (sizes_kept r.number nodes)
      ∙ held

  -- and what is due
  abbrev is_past : ℕ → Option ℕ → Bool
  is_past moment end = option_map_or (λ at. nat_le at moment) end false

  due_kept : (o : Option ResourceData) (r : ResourceData) → due_under (option_map turned o) (turned r) ≡ due_under o r
  due_kept o r = kept_by (λ (s : ResourceData). due_under (option_map turned o) s) (λ left s. refl) r ∙ below o
    where
      below : (p : Option ResourceData) → due_under (option_map turned p) r ≡ due_under p r
      below None = refl
      below (Some p) = kept_by (λ (q : ResourceData). due_under (Some q) r) (λ left q. due_below Exc exc_aside (number (pos left)) q.lt q r) p

  is_due_kept : (nodes : List ResourceData) (moment : ℕ) (r : ResourceData) → is_due (map turned nodes) moment (turned r) ≡ is_due nodes moment r
  is_due_kept nodes moment r =
      ap (λ (n : ℕ). is_past moment (due_under (at n (map turned nodes)) (turned r))) (lowered_stands.parent r)
      ∙ ap (λ (o : Option ResourceData). is_past moment (due_under o (turned r))) (at-map turned lowered_stands.number r.parent nodes)
      ∙ there (at r.parent nodes)
    where
      there : (o : Option ResourceData) → is_past moment (due_under (option_map turned o) (turned r)) ≡ is_past moment (due_under o r)
      there o = ap (is_past moment) (due_kept o r)

  none_due_kept : (nodes : List ResourceData) (moment : ℕ) → list_any (is_due nodes moment) nodes ≡ false → list_any (is_due (map turned nodes) moment) (map turned nodes) ≡ false
  none_due_kept nodes moment none =
      list_any-map (is_due (map turned nodes) moment) turned nodes
      ∙ list_any-same (λ r. is_due (map turned nodes) moment (turned r)) (is_due nodes moment) (is_due_kept nodes moment) nodes ∙ none

  -- ---- kinds

  kind_kept : (r : ResourceData) → are_kinds r ≡ true → is_spent drafts r ≡ false → are_kinds (turned r) ≡ true
  kind_kept r kinds stays = by (left_of drafts r) refl stays
    where
      by : (o : Option ℕ) → left_of drafts r ≡ o → option_map_or (λ left. left == 0) o false ≡ false → are_kinds (option_map_or (λ left. recounted left r) o r) ≡ true
      by None is left_some = kinds
      by (Some left) is left_some =
          let from = taken_from drafts r left is in
          let counts = counts_to r from.old kinds from.counted in
          let high : left ≤ 9223372036854775807 = omega (arith, counts.most, from.rest) in
          let ty : r.ty ≡ Subscription = same_type r.ty Subscription (eqb-true _ _ counts.subscription) in
          kinds-with_value r.ty (Exc, number (pos left)) r.attrs (ap (λ t. is_attr_kind t (Exc, number (pos left))) ty ∙ range_from left (not_none left left_some) high) kinds

  kinds_kept : (nodes : List ResourceData) → list_all are_kinds nodes ≡ true → list_any (is_spent drafts) nodes ≡ false → list_all are_kinds (map turned nodes) ≡ true
  kinds_kept [] all none = refl
  kinds_kept (r ∷ nodes) all none =
      let parts = and_parts (are_kinds r) (list_all are_kinds nodes) all in
      let stays = or_parts (is_spent drafts r) (list_any (is_spent drafts) nodes) none in
      and_from _ _ (kind_kept r parts.0 stays.0) (kinds_kept nodes parts.1 stays.1)

  -- ---- the order of attributes

  stays_in_order : (r : ResourceData) → keeps_order r ≡ true → keeps_order (turned r) ≡ true
  stays_in_order r held = by (left_of drafts r)
    where
      by : (o : Option ℕ) → keeps_order (option_map_or (λ left. recounted left r) o r) ≡ true
      by None = held
      by (Some left) = order-with_value Exc (number (pos left)) r.attrs held

  -- ---- soundness

  sound_lowered : (e : EntityData) → IsSoundEntity e → list_any (is_spent drafts) e.nodes ≡ false → IsSoundEntity (record e { nodes = map turned e.nodes })
  sound_lowered e sound none =
      let many : length (map turned e.nodes) ≡ length e.nodes = length-map e.nodes turned in
      let few : length e.nodes ≤ 100000 = sound.count in
      let framed : IsFramed (record e { nodes = map turned e.nodes }) = record {
        numbers = all_lowered (λ s. nat_lt s.number e.next) (λ s. nat_lt s.number e.next) (λ r held. ap (λ (n : ℕ). nat_lt n e.next) (lowered_stands.number r) ∙ held) e.nodes sound.numbers;
        next = sound.next;
        ids = all_lowered (has_known_ids e.next) (has_known_ids e.next) (λ r held. ids_kept e.next r ∙ held) e.nodes sound.ids;
        tree = is_well_formed-map turned lowered_stands e.nodes ∙ sound.tree;
        base = base_kept e.home e.nodes ∙ sound.base;
        names = all_lowered has_free_name has_free_name (λ r held. kept_by has_free_name (λ left s. refl) r ∙ held) e.nodes sound.names;
        home = sound.home;
        depth = all_lowered (is_shallow e.nodes) (is_shallow (map turned e.nodes)) (shallow_kept e.nodes) e.nodes sound.depth;
        count = omega (arith, many, few);
        kinds = kinds_kept e.nodes sound.kinds none;
        order = all_lowered keeps_order keeps_order stays_in_order e.nodes sound.order;
        tags = all_lowered has_state_tag has_state_tag (λ r held. kept_by has_state_tag (λ left s. rw (attr_kept St left s refl refl) refl) r ∙ held) e.nodes sound.tags;
        cses = ap (λ (ids : List (List ℕ)). are_distinct (own_cse_id e.home ∷ ids)) (cses_kept e.nodes) ∙ sound.cses;
        channels = all_lowered (has_one_channel e.nodes) (has_one_channel (map turned e.nodes)) (channel_kept e.nodes) e.nodes sound.channels;
        sizes = all_lowered has_size has_size (λ r held. kept_by has_size (λ left s. rw (attr_kept Cs left s refl refl) refl) r ∙ held) e.nodes sound.sizes;
        last = sound.last;
        waiting = sound.waiting;
        moments = sound.moments;
      } in
      sound_framed _ framed
      (all_lowered (is_within_limits e.nodes) (is_within_limits (map turned e.nodes)) (within_kept e.nodes) e.nodes sound.limits)
      (none_due_kept e.nodes e.last sound.due)

  -- what the drafts leave of a sound entity is sound
  pub sound_spent : (e : EntityData) → IsSoundEntity e → IsSoundEntity (record e { nodes = nodes_spent drafts e.nodes })
  sound_spent e sound =
      sound_lowered (record e { nodes = without (is_spent drafts) e.nodes })
      (sound_removed (is_spent drafts) e sound (base_unspent e.home drafts e.nodes sound.base sound.kinds))
      (staying_unpicked (is_spent drafts) [] e.nodes)
