-- Soundness where a resource comes last.
use Rattle.std.specs.Prelude.{nat_le, nat_lt, sum_by}
use Rattle.std.proofs.Common.{◌≡◌, ℕ, ◌+◌, ◌-◌, ◌^◌, ◌<◌, List, [], ◌∷◌, ◌++◌, length, length-append, Bool, true, false, not, ◌&&◌, ◌||◌, Option, Some, None, option_and_then, inl, inr, refl, sym, ap, ◌∙◌, arith, bytes_eq}
use Rattle.std.proofs.lemmas.Bool.{cases_Bool, and_parts, and_from, and_left, and_right, or_from, or_left, or_right, or_parts, cases_eq, not-true, not_from_false, ltb-true, lt-ltb, le-leb, eq-eqb, ne_eqb, both_ways}
use Rattle.std.proofs.lemmas.List.{append-nil}
use Rattle.std.proofs.lemmas.List.Elements.{filter_map-append}
use Rattle.std.proofs.lemmas.List.Folds.{list_all-append, list_any-append}
use Rattle.std.specs.List.{list_any, list_all, filter, filter_map, cons_option}
use Rattle.std.specs.Option.{option_map_or}
use Rattle.m2m_names.specs.declared.attributes.Attr.TheVariants.{Acpi, Macp, Mbs, Mni}
use Rattle.m2m_names.specs.declared.types.Ty.TheVariants.{Container, ContentInstance, PollingChannel}
use Rattle.m2m_value.specs.Data.{Data}
use Rattle.m2m_value.specs.View.{as_text}
use Rattle.resource_model.specs.Attributes.{count_at}
use Rattle.resource_model.specs.Home.{HomeData}
use Rattle.resource_model.specs.Resource.{ResourceData, is_ty, has_number, cse_id}
use Rattle.tree_model.specs.Tree.{at, is_under, is_kin, channels_of, instances_of, instance_size, level_of, is_due, are_below, same_text, has_cse_id, is_tree}
use Rattle.tree_model.proofs.TreeLemmas.{at_has, kin_parts}
use Rattle.tree_model.proofs.GrowthLemmas.{IsNext, next_fits, tree_from_well_formed, below_has, next_above_parent, stands, fits_parts}
use Rattle.tree_model.proofs.KeptLemmas.{is_well_formed-append}
use Rattle.tree_model.proofs.ChangeLemmas.{picked-append, level_of-append}
use Rattle.tree_model.proofs.QuietLemmas.{all_by_number, number_passes, due-append}
use Rattle.attribute_rules.specs.Kinds.{are_kinds}
use Rattle.container_limits.specs.Limits.{is_within}
use Rattle.policy_eval.specs.Rules.{policy_number, ids_at}
use Rattle.entity_model.specs.Entity.{EntityData}
use Rattle.create_delete.specs.NewResource.{IsNewResource}
use Rattle.entity_model.specs.Sound.{is_known_id, has_known_ids, has_free_name, has_size, has_state_tag, is_shallow, is_within_limits, keeps_order, begins_with_base, cse_ids, are_distinct, has_one_channel, IsSoundEntity}
use Rattle.entity_model.proofs.SoundLemmas.{IsFramed, framed_from, sound_framed, distinct_parts}
use Rattle.tree_model.specs.Shown.{own_cse_id}
use Rattle.request_rules.proofs.RoomLemmas.{place_parts}
use Rattle.m2m_names.proofs.ListLemmas.{all_weaker}

-- ---- tests over a list

-- a test of each that was there, and of the new one
pub all_grown : (p : ResourceData → Bool) (nodes : List ResourceData) (r : ResourceData) → list_all p nodes ≡ true → p r ≡ true → list_all p (nodes ++ r ∷ []) ≡ true
all_grown p nodes r old new = list_all-append p nodes (r ∷ []) ∙ and_from _ _ old (and_from _ _ new refl)

-- what was there has a smaller number, and so has its parent
pub record IsOlder (r s : ResourceData) : Type 0 where
  pub number : s.number < r.number
  pub parent : s.parent < r.number

older : (nodes : List ResourceData) (r s : ResourceData) → is_tree nodes ≡ true → are_below r.number nodes ≡ true → at s.number nodes ≡ Some s → IsOlder r s
older nodes r s tree below found =
    let less : s.number < r.number = below_has r.number s.number nodes below (at_has s.number nodes s found) in
    let up : s.parent < s.number = (stands nodes tree s.number s found).above in
    record { number = less; parent = omega arith }

-- a test of all that were there gives another one
pub all_turned : (p q : ResourceData → Bool) (nodes : List ResourceData) (r : ResourceData) → is_tree nodes ≡ true → are_below r.number nodes ≡ true → ((s : ResourceData) → IsOlder r s → p s ≡ true → q s ≡ true) → list_all p nodes ≡ true → list_all q nodes ≡ true
all_turned p q nodes r tree below turn all = all_by_number q nodes tree (λ s found. turn s (older nodes r s tree below found) (number_passes p s.number nodes s all found))

-- ---- numbers and ids

below_grown : (n : ℕ) (nodes : List ResourceData) (r : ResourceData) → are_below n nodes ≡ true → r.number ≡ n → are_below (n + 1) (nodes ++ r ∷ []) ≡ true
below_grown n nodes r below is = all_grown _ nodes r
    (all_weaker _ _ (λ s small. let less : s.number < n = ltb-true s.number n small in lt-ltb s.number (n + 1) (omega arith)) nodes below)
    (lt-ltb r.number (n + 1) (omega arith))

known_more : (n : ℕ) (o : Option ℕ) → option_map_or (λ m. nat_lt m n) o true ≡ true → option_map_or (λ m. nat_lt m (n + 1)) o true ≡ true
known_more n None known = refl
known_more n (Some m) known = let less : m < n = ltb-true m n known in lt-ltb m (n + 1) (omega arith)

all_known : (n : ℕ) (ds : List Data) → list_all (is_known_id n) ds ≡ true → list_all (is_known_id (n + 1)) ds ≡ true
all_known n ds known = all_weaker (is_known_id n) (is_known_id (n + 1)) (λ d known. known_more n (option_and_then policy_number (as_text d)) known) ds known

ids_more : (n : ℕ) (r : ResourceData) → has_known_ids n r ≡ true → has_known_ids (n + 1) r ≡ true
ids_more n r known = all_known n (ids_at Acpi r ++ ids_at Macp r) known

-- ---- the CSEBase, depth

base_grown : (home : HomeData) (nodes : List ResourceData) (r : ResourceData) → begins_with_base home nodes ≡ true → begins_with_base home (nodes ++ r ∷ []) ≡ true
base_grown home [] r base = absurd (both_ways _ refl base)
base_grown home (s ∷ nodes) r base = base

shallow_grown : (nodes : List ResourceData) (r : ResourceData) → is_tree nodes ≡ true → are_below r.number nodes ≡ true → level_of r.parent nodes < 32 → list_all (is_shallow nodes) nodes ≡ true → list_all (is_shallow (nodes ++ r ∷ [])) (nodes ++ r ∷ []) ≡ true
shallow_grown nodes r tree below shallow all =
    let same : has_number r.number r ≡ true = eq-eqb r.number r.number refl in
    let new : level_of r.number (nodes ++ r ∷ []) ≡ level_of r.parent nodes + 1 = level_of-append r.number nodes r ∙ rw same refl in
    all_grown _ nodes r
    (all_turned (is_shallow nodes) _ nodes r tree below (λ s old held.
    let apart : has_number s.number r ≡ false = ne_eqb r.number s.number (λ e. let less : s.number < r.number = old.number in omega arith) in
    ap (λ (d : ℕ). nat_le d 32) (level_of-append s.number nodes r ∙ rw apart refl) ∙ held) all)
    (le-leb _ 32 (omega arith))

-- ---- CSE-IDs

ids_among : (s : List ℕ) (nodes : List ResourceData) → list_any (λ t. bytes_eq t s) (filter_map cse_id nodes) ≡ has_cse_id (Some s) nodes
ids_among s [] = refl
ids_among s (r ∷ nodes) = first (cse_id r) ∙ ap (λ b. same_text (cse_id r) (Some s) || b) (ids_among s nodes)
  where
    first : (o : Option (List ℕ)) → list_any (λ t. bytes_eq t s) (cons_option o (filter_map cse_id nodes)) ≡ (same_text o (Some s) || list_any (λ t. bytes_eq t s) (filter_map cse_id nodes))
    first None = refl
    first (Some a) = refl

distinct_push : (texts : List (List ℕ)) (s : List ℕ) → are_distinct texts ≡ true → list_any (λ t. bytes_eq t s) texts ≡ false → are_distinct (texts ++ s ∷ []) ≡ true
distinct_push [] s distinct none = refl
distinct_push (t ∷ texts) s distinct none =
    let parts = distinct_parts t texts distinct in
    let two = or_parts (bytes_eq t s) _ none in
    and_from _ _ (not_from_false _ (list_any-append (bytes_eq t) texts (s ∷ []) ∙ or_from _ _ parts.other (or_from _ _ two.0 refl))) (distinct_push texts s parts.rest two.1)

distinct_grown : (own : List ℕ) (nodes : List ResourceData) (o : Option (List ℕ)) → has_cse_id o nodes ≡ false → option_map_or (bytes_eq own) o false ≡ false → are_distinct (own ∷ filter_map cse_id nodes) ≡ true → are_distinct (own ∷ (filter_map cse_id nodes ++ cons_option o [])) ≡ true
distinct_grown own nodes None free apart distinct = ap (λ (texts : List (List ℕ)). are_distinct (own ∷ texts)) (append-nil (filter_map cse_id nodes)) ∙ distinct
distinct_grown own nodes (Some s) free apart distinct = distinct_push (own ∷ filter_map cse_id nodes) s distinct (or_from _ _ apart (ids_among s nodes ∙ free))

cses_grown : (home : HomeData) (nodes : List ResourceData) (r : ResourceData) → has_cse_id (cse_id r) nodes ≡ false → option_map_or (bytes_eq (own_cse_id home)) (cse_id r) false ≡ false → are_distinct (cse_ids home nodes) ≡ true → are_distinct (cse_ids home (nodes ++ r ∷ [])) ≡ true
cses_grown home nodes r free apart distinct =
    ap (λ (texts : List (List ℕ)). are_distinct (own_cse_id home ∷ texts)) (filter_map-append cse_id nodes (r ∷ []))
    ∙ distinct_grown (own_cse_id home) nodes (cse_id r) free apart distinct

-- ---- what stands under a resource

pub nothing_picked : (p : ResourceData → Bool) (nodes : List ResourceData) → list_all (λ s. not (p s)) nodes ≡ true → filter p nodes ≡ []
nothing_picked p [] none = refl
nothing_picked p (s ∷ nodes) none =
    let parts = and_parts (not (p s)) _ none in
    rw (not-true _ parts.0) (nothing_picked p nodes parts.1)

-- what nothing passes picks nothing
pub picked_never : (nodes : List ResourceData) → filter (λ (s : ResourceData). false) nodes ≡ []
picked_never [] = refl
picked_never (s ∷ nodes) = picked_never nodes

-- under the new one there is nothing
childless : (p : ResourceData → Bool) (nodes : List ResourceData) (r : ResourceData) → is_tree nodes ≡ true → IsNext nodes r → ((s : ResourceData) → is_under r.number s ≡ false → p s ≡ false) → filter p (nodes ++ r ∷ []) ≡ []
childless p nodes r tree next only = nothing_picked p (nodes ++ r ∷ []) (all_grown _ nodes r
    (all_by_number _ nodes tree (λ s found.
    let old = older nodes r s tree next.number found in
    not_from_false _ (only s (ne_eqb s.parent r.number (λ e. let less : s.parent < r.number = old.parent in omega arith)))))
    (not_from_false _ (only r (ne_eqb r.parent r.number (λ e. let less : r.parent < r.number = next_above_parent nodes r next in omega arith)))))

-- under an older one there is what was there, and the new one where it is picked
unpicked_grown : (p : ResourceData → Bool) (nodes : List ResourceData) (r : ResourceData) → p r ≡ false → filter p (nodes ++ r ∷ []) ≡ filter p nodes
unpicked_grown p nodes r other = picked-append p nodes r ∙ rw other (append-nil (filter p nodes))

few_channels : (nodes : List ResourceData) (r s : ResourceData) → (is_ty r.ty PollingChannel ≡ true → length (channels_of r.parent nodes) ≡ 0) → has_one_channel nodes s ≡ true → has_one_channel (nodes ++ r ∷ []) s ≡ true
few_channels nodes r s free one = elim (cases_Bool (is_kin PollingChannel s.number r)) [
  | inl t ↦
      let kin = kin_parts PollingChannel s.number r t in
      let none : length (channels_of s.number nodes) ≡ 0 = ap (λ (n : ℕ). length (channels_of n nodes)) (sym kin.under) ∙ free kin.kind in
      let all : channels_of s.number (nodes ++ r ∷ []) ≡ channels_of s.number nodes ++ r ∷ [] = picked-append (is_kin PollingChannel s.number) nodes r ∙ rw t refl in
      let many : length (channels_of s.number (nodes ++ r ∷ [])) ≡ length (channels_of s.number nodes) + 1 = ap length all ∙ length-append (channels_of s.number nodes) (r ∷ []) in
      le-leb _ 1 (omega arith)
  | inr f ↦ ap (λ (rs : List ResourceData). nat_le (length rs) 1) (unpicked_grown (is_kin PollingChannel s.number) nodes r f) ∙ one
]

channels_grown : (nodes : List ResourceData) (r : ResourceData) → is_tree nodes ≡ true → IsNext nodes r → (is_ty r.ty PollingChannel ≡ true → length (channels_of r.parent nodes) ≡ 0) → list_all (has_one_channel nodes) nodes ≡ true → list_all (has_one_channel (nodes ++ r ∷ [])) (nodes ++ r ∷ []) ≡ true
channels_grown nodes r tree next free all =
    let none : channels_of r.number (nodes ++ r ∷ []) ≡ [] = childless (is_kin PollingChannel r.number) nodes r tree next (λ s apart. rw apart refl) in
    all_grown _ nodes r (all_weaker _ _ (λ s one. few_channels nodes r s free one) nodes all)
    (ap (λ (rs : List ResourceData). nat_le (length rs) 1) none)

-- ---- limits

-- a container with these instances is within its limits
abbrev pub within_by : ResourceData → List ResourceData → Bool
within_by s rs = not (is_ty s.ty Container) || (is_within (length rs) (count_at Mni s.attrs) && is_within (sum_by instance_size rs) (count_at Mbs s.attrs))

pub nothing_within : (o : Option ℕ) → is_within 0 o ≡ true
nothing_within None = refl
nothing_within (Some n) = le-leb 0 n (omega arith)

pub within_by_none : (s : ResourceData) → within_by s [] ≡ true
within_by_none s = elim (cases_Bool (not (is_ty s.ty Container))) [
  | inl t ↦ or_left _ _ t
  | inr f ↦ rw f (and_from _ _ (nothing_within (count_at Mni s.attrs)) (nothing_within (count_at Mbs s.attrs)))
]

-- another container than the parent
older_within : (nodes : List ResourceData) (r s : ResourceData) → is_kin ContentInstance s.number r ≡ false → is_within_limits nodes s ≡ true → is_within_limits (nodes ++ r ∷ []) s ≡ true
older_within nodes r s other held = ap (within_by s) (unpicked_grown (is_kin ContentInstance s.number) nodes r other) ∙ held

newest_within : (nodes : List ResourceData) (r : ResourceData) → is_tree nodes ≡ true → IsNext nodes r → is_within_limits (nodes ++ r ∷ []) r ≡ true
newest_within nodes r tree next =
    let none : instances_of r.number (nodes ++ r ∷ []) ≡ [] = childless (is_kin ContentInstance r.number) nodes r tree next (λ s apart. rw apart refl) in
    ap (within_by r) none ∙ within_by_none r

limits_grown : (nodes : List ResourceData) (r : ResourceData) → is_tree nodes ≡ true → IsNext nodes r → is_ty r.ty ContentInstance ≡ false → list_all (is_within_limits nodes) nodes ≡ true → list_all (is_within_limits (nodes ++ r ∷ [])) (nodes ++ r ∷ []) ≡ true
limits_grown nodes r tree next plain all =
    all_grown _ nodes r
    (all_weaker _ _ (λ s held. older_within nodes r s (and_right (is_under s.number r) _ plain) held) nodes all)
    (newest_within nodes r tree next)

-- of all but the parent
abbrev pub is_within_but : ℕ → List ResourceData → ResourceData → Bool
is_within_but n nodes s = has_number n s || is_within_limits nodes s

others_grown : (nodes : List ResourceData) (r : ResourceData) → is_tree nodes ≡ true → IsNext nodes r → list_all (is_within_limits nodes) nodes ≡ true → list_all (is_within_but r.parent (nodes ++ r ∷ [])) (nodes ++ r ∷ []) ≡ true
others_grown nodes r tree next all =
    all_grown _ nodes r
    (all_weaker _ _ (λ s held. elim (cases_eq r.parent s.number) [
      | inl under ↦ or_left _ _ (eq-eqb s.number r.parent (sym under))
      | inr apart ↦ or_right _ _ (older_within nodes r s (and_left (is_under s.number r) _ (ne_eqb r.parent s.number apart)) held)
    ]) nodes all)
    (or_right _ _ (newest_within nodes r tree next))

-- ---- what is due

pub none_all : (p : ResourceData → Bool) (nodes : List ResourceData) → list_any p nodes ≡ false → list_all (λ s. not (p s)) nodes ≡ true
none_all p [] none = refl
none_all p (s ∷ nodes) none = let parts = or_parts (p s) _ none in and_from _ _ (not_from_false _ parts.0) (none_all p nodes parts.1)

pub all_none : (p : ResourceData → Bool) (nodes : List ResourceData) → list_all (λ s. not (p s)) nodes ≡ true → list_any p nodes ≡ false
all_none p [] all = refl
all_none p (s ∷ nodes) all = let parts = and_parts (not (p s)) _ all in or_from _ _ (not-true _ parts.0) (all_none p nodes parts.1)

abbrev is_past : ℕ → Option ℕ → Bool
is_past moment end = option_map_or (λ at. nat_le at moment) end false

due_grown : (nodes : List ResourceData) (r : ResourceData) (moment : ℕ) → is_tree nodes ≡ true → IsNext nodes r → is_due nodes moment r ≡ false → list_any (is_due nodes moment) nodes ≡ false → list_any (is_due (nodes ++ r ∷ []) moment) (nodes ++ r ∷ []) ≡ false
due_grown nodes r moment tree next later none = all_none (is_due (nodes ++ r ∷ []) moment) (nodes ++ r ∷ []) (all_grown (λ s. not (is_due (nodes ++ r ∷ []) moment s)) nodes r
    (all_turned (λ s. not (is_due nodes moment s)) _ nodes r tree next.number (λ s old held. ap (λ (o : Option ℕ). not (is_past moment o)) (due-append nodes r s old.parent) ∙ held) (none_all _ nodes none))
    (not_from_false _ (ap (is_past moment) (due-append nodes r r (next_above_parent nodes r next)) ∙ later)))

-- ---- the entity

abbrev pub grown_by : EntityData → ResourceData → EntityData
grown_by e r = record { home = e.home; nodes = e.nodes ++ r ∷ []; next = e.next + 1; last = e.last; items = e.items; numbered = e.numbered }

pub framed_grown : (e : EntityData) (r : ResourceData) → IsFramed e → IsNewResource e r → IsFramed (grown_by e r)
framed_grown e r framed new =
    let tree = tree_from_well_formed e.nodes framed.tree in
    let parts = fits_parts e.nodes r new.fits in
    let next : IsNext e.nodes r = next_fits e.nodes r parts.stands in
    let place = place_parts e r.parent new.room in
    let small : e.next < 2 ^ 63 - 1 = place.few in
    let few : length e.nodes < 100000 = place.count in
    let longer : length (e.nodes ++ r ∷ []) ≡ length e.nodes + 1 = length-append e.nodes (r ∷ []) in
    record {
      numbers = below_grown e.next e.nodes r framed.numbers new.number;
      next = omega arith;
      ids = all_grown _ e.nodes r (all_weaker _ _ (λ s known. ids_more e.next s known) e.nodes framed.ids) (ids_more e.next r new.ids);
      tree = is_well_formed-append e.nodes r framed.tree next parts.taken;
      base = base_grown e.home e.nodes r framed.base;
      names = all_grown has_free_name e.nodes r framed.names new.name;
      home = framed.home;
      depth = shallow_grown e.nodes r tree next.number place.depth framed.depth;
      count = omega arith;
      kinds = all_grown are_kinds e.nodes r framed.kinds new.kinds;
      order = all_grown keeps_order e.nodes r framed.order new.order;
      tags = all_grown has_state_tag e.nodes r framed.tags new.tag;
      cses = cses_grown e.home e.nodes r next.cse new.apart framed.cses;
      channels = channels_grown e.nodes r tree next (λ polls. ap length (nothing_picked (is_kin PollingChannel r.parent) e.nodes (none_all _ e.nodes (new.channel polls)))) framed.channels;
      sizes = all_grown has_size e.nodes r framed.sizes new.size;
      last = framed.last;
      waiting = framed.waiting;
      moments = framed.moments;
    }

-- what comes next in the tree
next_of : (e : EntityData) (r : ResourceData) → IsNewResource e r → IsNext e.nodes r
next_of e r new = next_fits e.nodes r (fits_parts e.nodes r new.fits).stands

pub quiet_grown : (e : EntityData) (r : ResourceData) → IsSoundEntity e → IsNewResource e r → list_any (is_due (e.nodes ++ r ∷ []) e.last) (e.nodes ++ r ∷ []) ≡ false
quiet_grown e r sound new = due_grown e.nodes r e.last (tree_from_well_formed e.nodes sound.tree) (next_of e r new) new.due sound.due

pub within_but_grown : (e : EntityData) (r : ResourceData) → IsSoundEntity e → IsNewResource e r → list_all (is_within_but r.parent (e.nodes ++ r ∷ [])) (e.nodes ++ r ∷ []) ≡ true
within_but_grown e r sound new = others_grown e.nodes r (tree_from_well_formed e.nodes sound.tree) (next_of e r new) sound.limits

pub sound_grown : (e : EntityData) (r : ResourceData) → IsSoundEntity e → IsNewResource e r → is_ty r.ty ContentInstance ≡ false → IsSoundEntity (grown_by e r)
sound_grown e r sound new plain =
    sound_framed (grown_by e r) (framed_grown e r (framed_from e sound) new)
    (limits_grown e.nodes r (tree_from_well_formed e.nodes sound.tree) (next_of e r new) plain sound.limits)
    (quiet_grown e r sound new)
