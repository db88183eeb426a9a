-- Soundness: of the entity as it opens, and of what a removal leaves.
use Rattle.std.specs.Prelude.{nat_le, nat_lt}
use Rattle.std.proofs.Common.{◌≡◌, ℕ, ◌-◌, ◌^◌, ◌<◌, ◌≤◌, List, [], ◌∷◌, ◌++◌, length, take, Bool, true, false, cond, not, ◌||◌, Option, Some, None, inl, inr, refl, sym, ap, ◌∙◌, subst, arith, bytes_eq}
use Rattle.std.proofs.lemmas.Bool.{cases_Bool, and_parts, and_from, or_cases, or_parts, or_from, or_left, or_right, not-true, not_from_false, leb-true, le-leb, both_ways, false_from_ne_true, eq-eqb}
use Rattle.std.proofs.lemmas.List.{append-nil}
use Rattle.std.proofs.lemmas.List.Elements.{filter-append}
use Rattle.std.proofs.lemmas.Slice.Eq.{bytes_eq-Decides}
use Rattle.std.specs.List.{list_any, list_all, filter, filter_map, cons_option}
use Rattle.std.specs.Option.{option_map_or}
use Rattle.m2m_names.specs.declared.attributes.Attr.TheVariants.{Mbs, Mni}
use Rattle.m2m_names.specs.Types.{does_take}
use Rattle.m2m_names.specs.declared.types.Ty.{Ty}
use Rattle.m2m_names.specs.declared.types.Ty.TheVariants.{AccessControlPolicy, Ae, Container, ContentInstance, CseBase, Group, PollingChannel, RemoteCse, Subscription, AccessControlPolicyAnnc, AeAnnc, ContainerAnnc, ContentInstanceAnnc, GroupAnnc}
use Rattle.resource_model.specs.Attributes.{count_at}
use Rattle.resource_model.specs.Home.{HomeData, IsHome, is_base_name}
use Rattle.resource_model.specs.Resource.{ResourceData, id_of, is_ty, cse_id}
use Rattle.m2m_value.specs.Data.{text}
use Rattle.tree_model.specs.Shown.{own_cse_id}
use Rattle.tree_model.specs.Tree.{at, has, are_below, stays, staying, without, is_spared, is_kin, is_instance, instance_size, is_due_under, is_due, age_end, live, is_root, is_taken, fits_in, is_well_formed, is_tree}
use Rattle.tree_model.proofs.ChangeLemmas.{count-without, sum-without, no_deeper}
use Rattle.tree_model.proofs.QuietLemmas.{lesser_least, due_case, due_never, due_by_age, due_by_expiry}
use Rattle.tree_model.proofs.TreeLemmas.{has_at, staying_all, staying_any, staying_unpicked}
use Rattle.tree_model.proofs.GrowthLemmas.{growth, tree_from_well_formed, next_fits, at-without, fits_parts, root_parts}
use Rattle.tree_model.proofs.KeptLemmas.{is_well_formed-without}
use Rattle.tree_model.proofs.LiveLemmas.{without_none}
use Rattle.m2m_names.specs.Name.{is_free_name, is_originator}
use Rattle.attribute_rules.specs.Kinds.{are_kinds}
use Rattle.container_limits.specs.Limits.{is_within}
use Rattle.notify_outbox.specs.Items.{still_waits}
use Rattle.notify_outbox.specs.Outbox.{OutboxData, without_first}
use Rattle.notify_outbox.specs.declared.item.Item.{Item}
use Rattle.entity_model.specs.Entity.{EntityData, blank, last_reading, cut, event_moment, expired, still_waiting}
use Rattle.entity_model.specs.Opening.{opening_base, opening_policy, opening_nodes, opening}
use Rattle.policy_eval.proofs.NameLemmas.{policy_number-id_of}
use Rattle.entity_model.proofs.WaitingLemmas.{waiting_later, order_filtered, order_without, all_waiting, all_without}
use Rattle.entity_model.specs.Sound.{is_known_id, has_known_ids, has_free_name, has_size, has_state_tag, is_shallow, is_within_limits, keeps_order, begins_with_base, cse_ids, are_distinct, has_one_channel, spares_first, greatest_count, is_waiting, do_not_fall, IsSoundEntity}
use Rattle.entity_model.proofs.RemovalLemmas.{staying_length}
use Rattle.m2m_names.proofs.ListLemmas.{all_weaker}
use Rattle.resource_model.proofs.HomeLemmas.{base_name_parts, home_parts}

-- ---- tests over a list

pub none_weaker : (p q : ResourceData → Bool) → ((r : ResourceData) → q r ≡ true → p r ≡ true) → (nodes : List ResourceData) → list_any p nodes ≡ false → list_any q nodes ≡ false
none_weaker p q weaker [] none = refl
none_weaker p q weaker (r ∷ nodes) none =
    let parts = or_parts (p r) (list_any p nodes) none in
    or_from _ _ (false_from_ne_true _ (λ t. both_ways _ parts.0 (weaker r t))) (none_weaker p q weaker nodes parts.1)

-- a test of each of what is left, that gets weaker with the list
pub all_left : (p : ResourceData → Bool) (q : List ResourceData → ResourceData → Bool) (nodes : List ResourceData) → ((r : ResourceData) → q nodes r ≡ true → q (without p nodes) r ≡ true) → list_all (q nodes) nodes ≡ true → list_all (q (without p nodes)) (without p nodes) ≡ true
all_left p q nodes weaker all = all_weaker (q nodes) (q (without p nodes)) weaker (without p nodes) (staying_all p (q nodes) [] nodes all)

-- ---- each part of soundness, after a removal

-- a smaller number is within the limits of a greater one
small_too : (m n k : ℕ) → m ≤ n → nat_le n k ≡ true → nat_le m k ≡ true
small_too m n k le small = let below : n ≤ k = leb-true n k small in le-leb m k (omega arith)

pub within_too : (limit : Option ℕ) (m n : ℕ) → m ≤ n → is_within n limit ≡ true → is_within m limit ≡ true
within_too None m n le within = refl
within_too (Some k) m n le within = small_too m n k le within

shallow_left : (p : ResourceData → Bool) (nodes : List ResourceData) → is_tree nodes ≡ true → (r : ResourceData) → is_shallow nodes r ≡ true → is_shallow (without p nodes) r ≡ true
shallow_left p nodes tree r shallow = small_too _ _ 32 (no_deeper p nodes tree r.number) shallow

channel_left : (p : ResourceData → Bool) (nodes : List ResourceData) (r : ResourceData) → has_one_channel nodes r ≡ true → has_one_channel (without p nodes) r ≡ true
channel_left p nodes r one = small_too _ _ 1 (count-without p (is_kin PollingChannel r.number) [] nodes) one

pub limits_left : (p : ResourceData → Bool) (nodes : List ResourceData) (r : ResourceData) → is_within_limits nodes r ≡ true → is_within_limits (without p nodes) r ≡ true
limits_left p nodes r within = elim (or_cases (not (is_ty r.ty Container)) _ within) [
  | inl other ↦ or_left _ _ other
  | inr both ↦
      let parts = and_parts _ _ both in
      or_right _ _ (and_from _ _
      (within_too (count_at Mni r.attrs) _ _ (count-without p (is_instance r.number) [] nodes) parts.0)
      (within_too (count_at Mbs r.attrs) _ _ (sum-without p (is_instance r.number) instance_size [] nodes) parts.1))
]

-- a test of the CSE-IDs, as one of the resources
named : (List ℕ → Bool) → ResourceData → Bool
named q r = option_map_or q (cse_id r) false

any_named : (q : List ℕ → Bool) (nodes : List ResourceData) → list_any q (filter_map cse_id nodes) ≡ list_any (named q) nodes
unfolding named
any_named q [] = refl
any_named q (r ∷ nodes) = any_first (cse_id r) ∙ ap (λ b. option_map_or q (cse_id r) false || b) (any_named q nodes)
  where
    any_first : (o : Option (List ℕ)) → list_any q (cons_option o (filter_map cse_id nodes)) ≡ (option_map_or q o false || list_any q (filter_map cse_id nodes))
    any_first None = refl
    any_first (Some s) = refl

absent_left : (p : ResourceData → Bool) (q : List ℕ → Bool) (stayed nodes : List ResourceData) → list_any q (filter_map cse_id nodes) ≡ false → list_any q (filter_map cse_id (staying p stayed nodes)) ≡ false
absent_left p q stayed nodes none = false_from_ne_true _ (λ t.
    both_ways _ (sym (any_named q nodes) ∙ none) (staying_any p (named q) stayed nodes (sym (any_named q (staying p stayed nodes)) ∙ t)))

-- no other text is the first, and the others differ
pub record AreDistinct (s : List ℕ) (texts : List (List ℕ)) : Type 0 where
  pub other : list_any (bytes_eq s) texts ≡ false
  pub rest : are_distinct texts ≡ true

pub distinct_parts : (s : List ℕ) (texts : List (List ℕ)) → are_distinct (s ∷ texts) ≡ true → AreDistinct s texts
distinct_parts s texts distinct =
    let parts = and_parts (not (list_any (bytes_eq s) texts)) (are_distinct texts) distinct in
    record { other = not-true _ parts.0; rest = parts.1 }

distinct_rest : (o : Option (List ℕ)) (texts : List (List ℕ)) → are_distinct (cons_option o texts) ≡ true → are_distinct texts ≡ true
distinct_rest None texts distinct = distinct
distinct_rest (Some s) texts distinct = (distinct_parts s texts distinct).rest

distinct_with : (o : Option (List ℕ)) (more less : List (List ℕ)) → ((q : List ℕ → Bool) → list_any q more ≡ false → list_any q less ≡ false) → are_distinct (cons_option o more) ≡ true → are_distinct less ≡ true → are_distinct (cons_option o less) ≡ true
distinct_with None more less absent distinct rest = rest
distinct_with (Some s) more less absent distinct rest =
    let parts = distinct_parts s more distinct in
    and_from _ _ (not_from_false _ (absent (bytes_eq s) parts.other)) rest

distinct_left : (p : ResourceData → Bool) (stayed nodes : List ResourceData) → are_distinct (filter_map cse_id nodes) ≡ true → are_distinct (filter_map cse_id (staying p stayed nodes)) ≡ true
distinct_left p stayed [] distinct = refl
distinct_left p stayed (r ∷ nodes) distinct =
    let rest = distinct_rest (cse_id r) (filter_map cse_id nodes) distinct in
    elim (cases_Bool (stays p stayed r)) [
      | inl t ↦ rw t (distinct_with (cse_id r) (filter_map cse_id nodes) (filter_map cse_id (staying p (stayed ++ r ∷ []) nodes)) (λ q none. absent_left p q (stayed ++ r ∷ []) nodes none) distinct (distinct_left p (stayed ++ r ∷ []) nodes rest))
      | inr f ↦ rw f (distinct_left p stayed nodes rest)
    ]

cses_left : (p : ResourceData → Bool) (home : HomeData) (nodes : List ResourceData) → are_distinct (cse_ids home nodes) ≡ true → are_distinct (cse_ids home (without p nodes)) ≡ true
cses_left p home nodes distinct =
    let parts = distinct_parts (own_cse_id home) (filter_map cse_id nodes) distinct in
    and_from _ _ (not_from_false _ (absent_left p (bytes_eq (own_cse_id home)) [] nodes parts.other)) (distinct_left p [] nodes parts.rest)

-- the first resource is the CSEBase, named as the home says
pub record BeginsWithBase (home : HomeData) (r : ResourceData) : Type 0 where
  pub kind : is_ty r.ty CseBase ≡ true
  pub name : r.name ≡ home.base

pub base_parts : (home : HomeData) (r : ResourceData) (nodes : List ResourceData) → begins_with_base home (r ∷ nodes) ≡ true → BeginsWithBase home r
base_parts home r nodes base =
    let parts = and_parts (is_ty r.ty CseBase) (bytes_eq r.name home.base) base in
    record { kind = parts.0; name = (bytes_eq-Decides r.name home.base).0 parts.1 }

-- the first resource has no parent
first_stays : (p : ResourceData → Bool) (r : ResourceData) (nodes : List ResourceData) → is_well_formed (r ∷ nodes) ≡ true → not (p r) ≡ true → stays p [] r ≡ true
first_stays p r nodes well spared =
    let fit = and_parts (fits_in [] r) _ well in
    let next = next_fits [] r (fits_parts [] r fit.0).stands in
    elim (or_cases (has r.parent []) _ next.parent) [
      | inl there ↦ absurd (both_ways _ refl there)
      | inr root ↦ and_from _ _ spared (or_left _ _ (eq-eqb r.parent 0 (root_parts [] r root).parent))
    ]

base_left : (p : ResourceData → Bool) (home : HomeData) (nodes : List ResourceData) → is_well_formed nodes ≡ true → spares_first p nodes ≡ true → begins_with_base home nodes ≡ true → begins_with_base home (without p nodes) ≡ true
base_left p home [] well spared base = base
base_left p home (r ∷ nodes) well spared base = rw (first_stays p r nodes well spared) base

-- where its parent is gone, a resource isn't due earlier
due_alone : (moment : ℕ) (o : Option ResourceData) (r : ResourceData) → is_due_under None moment r ≡ true → is_due_under o moment r ≡ true
due_alone moment o r due = elim (due_case r.ty) [
  | due_never t ↦ rw t (rw t at due)
  | due_by_age f u ↦ rw (f, u) (small_too _ _ moment (lesser_least r.et (age_end o r)) (rw (f, u) at due))
  | due_by_expiry f v ↦ rw (f, v) (rw (f, v) at due)
]

due_left_under : (spared : Bool) (moment : ℕ) (o : Option ResourceData) (r : ResourceData) → is_due_under (cond spared o None) moment r ≡ true → is_due_under o moment r ≡ true
due_left_under true moment o r due = due
due_left_under false moment o r due = due_alone moment o r due

pub due_left : (p : ResourceData → Bool) (nodes : List ResourceData) (moment : ℕ) (r : ResourceData) → is_tree nodes ≡ true → is_due (without p nodes) moment r ≡ true → is_due nodes moment r ≡ true
due_left p nodes moment r tree due =
    due_left_under (is_spared p nodes r.parent) moment (at r.parent nodes) r
    (sym (ap (λ (o : Option ResourceData). is_due_under o moment r) (at-without p r.parent nodes tree)) ∙ due)

-- where nothing was due, nothing is
pub none_due_left : (p : ResourceData → Bool) (nodes : List ResourceData) (moment : ℕ) → is_tree nodes ≡ true → list_any (is_due nodes moment) nodes ≡ false → list_any (is_due (without p nodes) moment) (without p nodes) ≡ false
none_due_left p nodes moment tree none =
    none_weaker (is_due nodes moment) (is_due (without p nodes) moment) (λ r due. due_left p nodes moment r tree due) (without p nodes)
    (false_from_ne_true _ (λ t. both_ways _ none (staying_any p (is_due nodes moment) [] nodes t)))

-- ---- soundness after a removal

-- what of soundness speaks neither of limits nor of what is due
pub record IsFramed (e : EntityData) : Type 0 where
  pub numbers : are_below e.next e.nodes ≡ true
  pub next : e.next ≤ 2 ^ 63 - 1
  pub ids : list_all (has_known_ids e.next) e.nodes ≡ true
  pub tree : is_well_formed e.nodes ≡ true
  pub base : begins_with_base e.home e.nodes ≡ true
  pub names : list_all has_free_name e.nodes ≡ true
  pub home : IsHome e.home
  pub depth : list_all (is_shallow e.nodes) e.nodes ≡ true
  pub count : length e.nodes ≤ greatest_count
  pub kinds : list_all are_kinds e.nodes ≡ true
  pub order : list_all keeps_order e.nodes ≡ true
  pub tags : list_all has_state_tag e.nodes ≡ true
  pub cses : are_distinct (cse_ids e.home e.nodes) ≡ true
  pub channels : list_all (has_one_channel e.nodes) e.nodes ≡ true
  pub sizes : list_all has_size e.nodes ≡ true
  pub last : e.last ≤ last_reading
  pub waiting : list_all (is_waiting e.last) e.items ≡ true
  pub moments : do_not_fall e.items ≡ true

pub framed_from : (e : EntityData) → IsSoundEntity e → IsFramed e
framed_from e sound = record {
  numbers = sound.numbers;
  next = sound.next;
  ids = sound.ids;
  tree = sound.tree;
  base = sound.base;
  names = sound.names;
  home = sound.home;
  depth = sound.depth;
  count = sound.count;
  kinds = sound.kinds;
  order = sound.order;
  tags = sound.tags;
  cses = sound.cses;
  channels = sound.channels;
  sizes = sound.sizes;
  last = sound.last;
  waiting = sound.waiting;
  moments = sound.moments;
}

pub sound_framed : (e : EntityData) → IsFramed e → list_all (is_within_limits e.nodes) e.nodes ≡ true → list_any (is_due e.nodes e.last) e.nodes ≡ false → IsSoundEntity e
sound_framed e framed limits due = record {
  numbers = framed.numbers;
  next = framed.next;
  ids = framed.ids;
  tree = framed.tree;
  base = framed.base;
  names = framed.names;
  home = framed.home;
  depth = framed.depth;
  count = framed.count;
  kinds = framed.kinds;
  order = framed.order;
  tags = framed.tags;
  cses = framed.cses;
  channels = framed.channels;
  sizes = framed.sizes;
  limits = limits;
  last = framed.last;
  due = due;
  waiting = framed.waiting;
  moments = framed.moments;
}

pub framed_left : (p : ResourceData → Bool) (e : EntityData) (last : ℕ) (items : List Item) → IsFramed e → spares_first p e.nodes ≡ true → last ≤ last_reading → list_all (is_waiting last) items ≡ true → do_not_fall items ≡ true → IsFramed (record e { nodes = without p e.nodes; last = last; items = items })
framed_left p e last items framed spared small waiting moments =
    let tree = tree_from_well_formed e.nodes framed.tree in
    let fewer : length (without p e.nodes) ≤ length e.nodes = staying_length p [] e.nodes in
    let few : length e.nodes ≤ 100000 = framed.count in
    record {
      numbers = staying_all p _ [] e.nodes framed.numbers;
      next = framed.next;
      ids = staying_all p (has_known_ids e.next) [] e.nodes framed.ids;
      tree = is_well_formed-without p e.nodes framed.tree;
      base = base_left p e.home e.nodes framed.tree spared framed.base;
      names = staying_all p has_free_name [] e.nodes framed.names;
      home = framed.home;
      depth = all_left p is_shallow e.nodes (shallow_left p e.nodes tree) framed.depth;
      count = omega arith;
      kinds = staying_all p are_kinds [] e.nodes framed.kinds;
      order = staying_all p keeps_order [] e.nodes framed.order;
      tags = staying_all p has_state_tag [] e.nodes framed.tags;
      cses = cses_left p e.home e.nodes framed.cses;
      channels = all_left p has_one_channel e.nodes (channel_left p e.nodes) framed.channels;
      sizes = staying_all p has_size [] e.nodes framed.sizes;
      last = small;
      waiting = waiting;
      moments = moments;
    }

pub sound_left : (p : ResourceData → Bool) (e : EntityData) (last : ℕ) (items : List Item) → IsSoundEntity e → spares_first p e.nodes ≡ true → last ≤ last_reading → list_any (is_due (without p e.nodes) last) (without p e.nodes) ≡ false → list_all (is_waiting last) items ≡ true → do_not_fall items ≡ true → IsSoundEntity (record e { nodes = without p e.nodes; last = last; items = items })
sound_left p e last items sound spared small none waiting moments =
    sound_framed _ (framed_left p e last items (framed_from e sound) spared small waiting moments)
    (all_left p is_within_limits e.nodes (limits_left p e.nodes) sound.limits) none

-- the CSEBase is never due
base_spared : (home : HomeData) (nodes : List ResourceData) (among : List ResourceData) (moment : ℕ) → begins_with_base home nodes ≡ true → spares_first (is_due among moment) nodes ≡ true
base_spared home [] among moment base = refl
base_spared home (r ∷ nodes) among moment base = rw (base_parts home r nodes base).kind refl

-- after the expiry nothing is due
pub none_live : (nodes : List ResourceData) (moment : ℕ) → is_tree nodes ≡ true → list_any (is_due (without (is_due nodes moment) nodes) moment) (without (is_due nodes moment) nodes) ≡ false
none_live nodes moment tree =
    none_weaker (is_due nodes moment) (is_due (without (is_due nodes moment) nodes) moment) (λ r due. due_left (is_due nodes moment) nodes moment r tree due)
    (without (is_due nodes moment) nodes) (staying_unpicked (is_due nodes moment) [] nodes)

pub moment_small : (last reading : ℕ) → last ≤ 253402300798 → event_moment last reading ≤ 253402300798
moment_small last reading small = omega arith

pub sound_expired : (moment : ℕ) (e : EntityData) → e.last ≤ moment → moment ≤ 253402300798 → IsSoundEntity e → IsSoundEntity (expired moment e)
sound_expired moment e later small sound =
    sound_left (is_due e.nodes moment) e moment (still_waiting moment e.items) sound
    (base_spared e.home e.nodes e.nodes moment sound.base)
    small
    (none_live e.nodes moment (tree_from_well_formed e.nodes sound.tree))
    (waiting_later e.last moment e.items later sound.waiting)
    (order_filtered (still_waits moment) e.items sound.moments)

pub sound_removed : (p : ResourceData → Bool) (e : EntityData) → IsSoundEntity e → spares_first p e.nodes ≡ true → IsSoundEntity (record e { nodes = without p e.nodes })
sound_removed p e sound spared = sound_left p e e.last e.items sound spared sound.last (none_due_left p e.nodes e.last (tree_from_well_formed e.nodes sound.tree) sound.due) sound.waiting sound.moments

-- and so is an entity with other items, which are in order and of which none has waited too long
pub sound_items : (e : EntityData) (items : List Item) (numbered : ℕ) → IsSoundEntity e → list_all (is_waiting e.last) items ≡ true → do_not_fall items ≡ true → IsSoundEntity (record e { items = items; numbered = numbered })
sound_items e items numbered sound waiting moments =
    let framed = framed_from e sound in
    sound_framed _ (record {
      numbers = framed.numbers;
      next = framed.next;
      ids = framed.ids;
      tree = framed.tree;
      base = framed.base;
      names = framed.names;
      home = framed.home;
      depth = framed.depth;
      count = framed.count;
      kinds = framed.kinds;
      order = framed.order;
      tags = framed.tags;
      cses = framed.cses;
      channels = framed.channels;
      sizes = framed.sizes;
      last = framed.last;
      waiting = waiting;
      moments = moments;
    }) sound.limits sound.due

-- such as what is left where an item is taken
pub sound_taken : (p : Item → Bool) (e : EntityData) → IsSoundEntity e → IsSoundEntity (record e { items = without_first p e.items })
sound_taken p e sound =
    sound_items e (without_first p e.items) e.numbered sound
    (all_without p (is_waiting e.last) e.items sound.waiting)
    (order_without p e.items sound.moments)

-- nothing is due at the last moment
pub all_still_live : (e : EntityData) → IsSoundEntity e → live e.last e.nodes ≡ e.nodes
all_still_live e sound = without_none (is_due e.nodes e.last) e.nodes (tree_from_well_formed e.nodes sound.tree) sound.due

-- where no time passes, nothing is due
pub expired_still : (reading : ℕ) (e : EntityData) → IsSoundEntity e → cut reading ≤ e.last → expired (event_moment e.last reading) e ≡ e
expired_still reading e sound early =
    let entity : List ResourceData → ℕ → List Item → EntityData = λ nodes last items. record e { nodes = nodes; last = last; items = items } in
    let same : event_moment e.last reading ≡ e.last = omega arith in
    ap (λ (m : ℕ). entity (live m e.nodes) m (still_waiting m e.items)) same
    ∙ ap (λ (nodes : List ResourceData). entity nodes e.last (still_waiting e.last e.items)) (all_still_live e sound)
    ∙ ap (entity e.nodes e.last) (all_waiting e.last e.items sound.waiting)

-- ---- the opening

cut_small : (reading : ℕ) → nat_le 253402300799 (cut reading) ≡ false
cut_small reading = false_from_ne_true _ (λ t. let le : 253402300799 ≤ cut reading = leb-true 253402300799 (cut reading) t in omega arith)

opening_names : (home : HomeData) (moment : ℕ) → is_base_name home.base ≡ true → list_all has_free_name (opening_nodes home moment) ≡ true
opening_names home moment admitted = and_from (is_free_name home.base) _ (base_name_parts home.base admitted).free refl

policy_kinds : (home : HomeData) (moment : ℕ) → is_originator home.admin ≡ true → are_kinds (opening_policy home moment) ≡ true
policy_kinds home moment admitted = rw admitted refl

opening_kinds : (home : HomeData) (moment : ℕ) → is_originator home.admin ≡ true → list_all are_kinds (opening_base home moment ∷ opening_policy home moment ∷ []) ≡ true
opening_kinds home moment admitted = and_from (are_kinds (opening_base home moment)) _ refl (and_from (are_kinds (opening_policy home moment)) _ (policy_kinds home moment admitted) refl)

-- the policy that the CSEBase names is there
opening_known : (home : HomeData) (moment : ℕ) → is_known_id 3 (text (id_of (opening_policy home moment))) ≡ true
opening_known home moment =
    let small : 2 < 2 ^ 63 = omega arith in
    ap (λ (o : Option ℕ). option_map_or (λ n. nat_lt n 3) o true) (policy_number-id_of (opening_policy home moment) refl small)

opening_ids : (home : HomeData) (moment : ℕ) → list_all (has_known_ids 3) (opening_nodes home moment) ≡ true
opening_ids home moment =
    and_from (has_known_ids 3 (opening_base home moment)) (list_all (has_known_ids 3) (opening_policy home moment ∷ []))
    (and_from (is_known_id 3 (text (id_of (opening_policy home moment)))) true (opening_known home moment) refl) refl

pub sound_opening : (home : HomeData) (reading : ℕ) → IsHome home → IsSoundEntity (opening home reading)
sound_opening home reading is = record {
  numbers = refl;
  next = omega arith;
  ids = opening_ids home (cut reading);
  tree = refl;
  base = (bytes_eq-Decides home.base home.base).1 refl;
  names = opening_names home (cut reading) (home_parts home is).base;
  home = is;
  depth = refl;
  count = omega arith;
  kinds = opening_kinds home (cut reading) (home_parts home is).admin;
  order = refl;
  tags = refl;
  cses = refl;
  channels = refl;
  sizes = refl;
  limits = refl;
  last = omega arith;
  due = rw (cut_small reading) refl;
  waiting = refl;
  moments = refl;
}

-- the entity as it opens, by its parts
pub opened_is : (home : HomeData) (reading moment : ℕ) (nodes : List ResourceData) (o : OutboxData) → moment ≡ cut reading → nodes ≡ opening_nodes home moment → o ≡ record { items = []; count = 0; room = 0 } → record (blank home) { nodes = nodes; next = 3; last = moment; items = o.items; numbered = o.count } ≡ opening home reading
opened_is home reading moment nodes o when stand none =
    let entity : List ResourceData → ℕ → OutboxData → EntityData = λ ns m b. record (blank home) { nodes = ns; next = 3; last = m; items = b.items; numbered = b.count } in
    let empty : OutboxData = record { items = []; count = 0; room = 0 } in
    ap (entity nodes moment) none
    ∙ ap (λ (ns : List ResourceData). entity ns moment empty) stand
    ∙ ap (λ (m : ℕ). entity (opening_nodes home m) m empty) when

-- the same, of what stands for its parts
pub sound_opened : (home : HomeData) (reading moment : ℕ) (nodes : List ResourceData) (o : OutboxData) → IsHome home → moment ≡ cut reading → nodes ≡ opening_nodes home moment → o ≡ record { items = []; count = 0; room = 0 } → IsSoundEntity (record (blank home) { nodes = nodes; next = 3; last = moment; items = o.items; numbered = o.count })
sound_opened home reading moment nodes o is when stand none = subst IsSoundEntity (sym (opened_is home reading moment nodes o when stand none)) (sound_opening home reading is)

-- ---- one CSEBase

no_base : (p : Ty) → does_take p CseBase ≡ false
no_base AccessControlPolicy = refl
no_base Ae = refl
no_base Container = refl
no_base ContentInstance = refl
no_base CseBase = refl
no_base Group = refl
no_base PollingChannel = refl
no_base RemoteCse = refl
no_base Subscription = refl
no_base AccessControlPolicyAnnc = refl
no_base AeAnnc = refl
no_base ContainerAnnc = refl
no_base ContentInstanceAnnc = refl
no_base GroupAnnc = refl

taken_no_base : (p t : Ty) → does_take p t ≡ true → is_ty t CseBase ≡ false
taken_no_base p CseBase taken = absurd (both_ways _ (no_base p) taken)
taken_no_base p _ taken = refl

abbrev is_base : ResourceData → Bool
is_base r = is_ty r.ty CseBase

under_no_base : (nodes : List ResourceData) (r : ResourceData) → has r.parent nodes ≡ true → is_taken nodes r ≡ true → is_base r ≡ false
under_no_base nodes r there taken =
    let parent = has_at r.parent nodes there in
    let takes : does_take (parent.0).ty r.ty ≡ true = sym (ap (λ (o : Option ResourceData). option_map_or (λ p. does_take p.ty r.ty) o true) parent.1) ∙ taken in
    taken_no_base (parent.0).ty r.ty takes

base_last : (before : List ResourceData) (r : ResourceData) → fits_in before r ≡ true → filter is_base before ≡ take 1 before → filter is_base (before ++ r ∷ []) ≡ take 1 (before ++ r ∷ [])
base_last [] r fit holds =
    let next = next_fits [] r (fits_parts [] r fit).stands in
    elim (or_cases (has r.parent []) (is_root [] r) next.parent) [
      | inl there ↦ absurd (both_ways _ refl there)
      | inr root ↦
          let base : is_base r ≡ true = (root_parts [] r root).kind in
          rw base refl
    ]
base_last (s ∷ before) r fit holds =
    let parts = fits_parts (s ∷ before) r fit in
    let next = next_fits (s ∷ before) r parts.stands in
    elim (or_cases (has r.parent (s ∷ before)) (is_root (s ∷ before) r) next.parent) [
      | inl there ↦
          let other : is_base r ≡ false = under_no_base (s ∷ before) r there parts.taken in
          let none : filter is_base (r ∷ []) ≡ [] = rw other refl in
          filter-append is_base (s ∷ before) (r ∷ [])
          ∙ ap (λ (rest : List ResourceData). filter is_base (s ∷ before) ++ rest) none
          ∙ append-nil (filter is_base (s ∷ before)) ∙ holds
      | inr root ↦ absurd (both_ways _ refl root)
    ]

pub one_base : (e : EntityData) → IsSoundEntity e → filter is_base e.nodes ≡ take 1 e.nodes
one_base e sound = growth fits_in (λ nodes. filter is_base nodes ≡ take 1 nodes) refl (λ before r grew next holds. base_last before r next holds) e.nodes sound.tree
