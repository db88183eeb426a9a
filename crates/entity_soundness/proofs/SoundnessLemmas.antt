-- The tests hold of every sound entity, and what passes them is one.
use Rattle.std.specs.Prelude.{nat_le, nat_lt}
use Rattle.std.proofs.Common.{◌≡◌, ℕ, ◌<◌, ◌≤◌, List, [], ◌∷◌, length, Bool, true, false, not, ◌&&◌, refl, sym, ap, ◌∙◌, arith}
use Rattle.std.proofs.lemmas.Bool.{and_parts, and_from, or_from, or_parts, not-true, not_from_false, leb-true, le-leb, ltb-true, lt-ltb}
use Rattle.std.proofs.lemmas.List.Folds.{list_all-append}
use Rattle.std.specs.List.{list_all, list_any}
use Rattle.m2m_names.proofs.ListLemmas.{all_weaker}
use Rattle.m2m_names.specs.declared.attributes.Attr.TheVariants.{Acpi, Macp}
use Rattle.m2m_value.specs.Shapes.{largest_count}
use Rattle.resource_model.specs.Home.{HomeData, IsHome}
use Rattle.resource_model.specs.Resource.{ResourceData}
use Rattle.tree_model.specs.Tree.{are_below, is_due, is_tree, is_well_formed, level_of}
use Rattle.tree_model.proofs.GrowthLemmas.{tree_from_well_formed}
use Rattle.attribute_rules.specs.Kinds.{are_kinds}
use Rattle.policy_eval.specs.Rules.{ids_at}
use Rattle.entity_model.specs.Entity.{EntityData, last_reading}
use Rattle.entity_model.specs.Sound.{IsSoundEntity, begins_with_base, greatest_count, has_free_name, has_known_ids, has_size, has_state_tag, is_known_id, is_shallow, is_within_limits, keeps_order}
use Rattle.entity_soundness.specs.Laws.{AreNumbered}
use Rattle.entity_soundness.specs.Tested.{are_sound, do_follow, has_other_cse_id, is_formed, is_identified, is_located, is_sole_channel, is_sound}
use Rattle.entity_soundness.proofs.ChannelLemmas.{all_one_channel, all_sole}
use Rattle.entity_soundness.proofs.CseLemmas.{cses_from, others_from}
use Rattle.entity_soundness.proofs.FollowLemmas.{all_from, all_wait, follow_all, none_falls}

-- ---- one resource

pub record IsFit (home : HomeData) (nodes : List ResourceData) (next last : ℕ) (r : ResourceData) : Type 0 where
  pub name : has_free_name r ≡ true
  pub kinds : are_kinds r ≡ true
  pub order : keeps_order r ≡ true
  pub tag : has_state_tag r ≡ true
  pub size : has_size r ≡ true
  pub number : nat_lt r.number next ≡ true
  pub ids : has_known_ids next r ≡ true
  pub other : has_other_cse_id home r ≡ true
  pub shallow : is_shallow nodes r ≡ true
  pub limits : is_within_limits nodes r ≡ true
  pub sole : is_sole_channel nodes r ≡ true
  pub live : not (is_due nodes last r) ≡ true

fit_parts : (home : HomeData) (nodes : List ResourceData) (next last : ℕ) (r : ResourceData) → is_sound home nodes next last r ≡ true → IsFit home nodes next last r
fit_parts home nodes next last r h =
    let two = and_parts (is_formed r && is_identified home next r) (is_located nodes last r) h in
    let one = and_parts (is_formed r) (is_identified home next r) two.0 in
    let f4 = and_parts (has_free_name r && are_kinds r && keeps_order r && has_state_tag r) (has_size r) one.0 in
    let f3 = and_parts (has_free_name r && are_kinds r && keeps_order r) (has_state_tag r) f4.0 in
    let f2 = and_parts (has_free_name r && are_kinds r) (keeps_order r) f3.0 in
    let f1 = and_parts (has_free_name r) (are_kinds r) f2.0 in
    let n2 = and_parts (nat_lt r.number next && has_known_ids next r) (has_other_cse_id home r) one.1 in
    let n1 = and_parts (nat_lt r.number next) (has_known_ids next r) n2.0 in
    let p3 = and_parts (is_shallow nodes r && is_within_limits nodes r && is_sole_channel nodes r) (not (is_due nodes last r)) two.1 in
    let p2 = and_parts (is_shallow nodes r && is_within_limits nodes r) (is_sole_channel nodes r) p3.0 in
    let p1 = and_parts (is_shallow nodes r) (is_within_limits nodes r) p2.0 in
    record {
      name = f1.0;
      kinds = f1.1;
      order = f2.1;
      tag = f3.1;
      size = f4.1;
      number = n1.0;
      ids = n1.1;
      other = n2.1;
      shallow = p1.0;
      limits = p1.1;
      sole = p2.1;
      live = p3.1;
    }

-- what it is judged by, and what it fans out by
pub known_both : (next : ℕ) (r : ResourceData) → has_known_ids next r ≡ (list_all (is_known_id next) (ids_at Acpi r) && list_all (is_known_id next) (ids_at Macp r))
known_both next r = list_all-append (is_known_id next) (ids_at Acpi r) (ids_at Macp r)

none_any : (p : ResourceData → Bool) (nodes : List ResourceData) → list_all (λ r. not (p r)) nodes ≡ true → list_any p nodes ≡ false
none_any p [] all = refl
none_any p (r ∷ nodes) all = (let parts = and_parts (not (p r)) _ all in or_from _ _ (not-true _ parts.0) (none_any p nodes parts.1))

none_all : (p : ResourceData → Bool) (nodes : List ResourceData) → list_any p nodes ≡ false → list_all (λ r. not (p r)) nodes ≡ true
none_all p [] none = refl
none_all p (r ∷ nodes) none = (let parts = or_parts (p r) _ none in and_from _ _ (not_from_false _ parts.0) (none_all p nodes parts.1))

all_both : (p q : ResourceData → Bool) (nodes : List ResourceData) → list_all p nodes ≡ true → list_all q nodes ≡ true → list_all (λ r. p r && q r) nodes ≡ true
all_both p q [] ps qs = refl
all_both p q (r ∷ nodes) ps qs =
    let one = and_parts (p r) _ ps in
    let other = and_parts (q r) _ qs in
    and_from _ _ (and_from _ _ one.0 other.0) (all_both p q nodes one.1 other.1)

-- ---- all of it

module _ (e : EntityData) where
  abbrev fit : ResourceData → Bool
  fit = is_sound e.home e.nodes e.next e.last

  abbrev Fit : ResourceData → Type 0
  Fit = IsFit e.home e.nodes e.next e.last

  each : (q : ResourceData → Bool) → ((r : ResourceData) → Fit r → q r ≡ true) → list_all fit e.nodes ≡ true → list_all q e.nodes ≡ true
  each q turn all = all_weaker fit q (λ r h. turn r (fit_parts e.home e.nodes e.next e.last r h)) e.nodes all

  pub sound_from : IsHome e.home → is_well_formed e.nodes ≡ true → are_sound e.home e.nodes e.next e.last ≡ true → do_follow e.last e.numbered 0 0 e.items ≡ true → IsSoundEntity e
  sound_from home well h follow =
      let four = and_parts (nat_le e.next largest_count && nat_le e.last last_reading && nat_le (length e.nodes) greatest_count && begins_with_base e.home e.nodes) (list_all fit e.nodes) h in
      let three = and_parts (nat_le e.next largest_count && nat_le e.last last_reading && nat_le (length e.nodes) greatest_count) (begins_with_base e.home e.nodes) four.0 in
      let two = and_parts (nat_le e.next largest_count && nat_le e.last last_reading) (nat_le (length e.nodes) greatest_count) three.0 in
      let one = and_parts (nat_le e.next largest_count) (nat_le e.last last_reading) two.0 in
      let all = four.1 in
      let tree = tree_from_well_formed e.nodes well in
      record {
        numbers = each (λ r. nat_lt r.number e.next) (λ r f. f.number) all;
        next = leb-true _ _ one.0;
        ids = each (has_known_ids e.next) (λ r f. f.ids) all;
        tree = well;
        base = three.1;
        names = each has_free_name (λ r f. f.name) all;
        home = home;
        depth = each (is_shallow e.nodes) (λ r f. f.shallow) all;
        count = leb-true _ _ two.1;
        kinds = each are_kinds (λ r f. f.kinds) all;
        order = each keeps_order (λ r f. f.order) all;
        tags = each has_state_tag (λ r f. f.tag) all;
        cses = cses_from e.home e.nodes tree (each (has_other_cse_id e.home) (λ r f. f.other) all);
        channels = all_one_channel e.nodes tree (each (is_sole_channel e.nodes) (λ r f. f.sole) all);
        sizes = each has_size (λ r f. f.size) all;
        limits = each (is_within_limits e.nodes) (λ r f. f.limits) all;
        last = leb-true _ _ one.1;
        due = none_any (is_due e.nodes e.last) e.nodes (each (λ r. not (is_due e.nodes e.last r)) (λ r f. f.live) all);
        waiting = all_wait e.last e.numbered 0 0 e.items follow;
        moments = none_falls e.last e.numbered 0 0 e.items follow;
      }

  module _ (s : IsSoundEntity e) where
    formed : list_all is_formed e.nodes ≡ true
    formed =
        all_both (λ r. has_free_name r && are_kinds r && keeps_order r && has_state_tag r) has_size e.nodes
        (all_both (λ r. has_free_name r && are_kinds r && keeps_order r) has_state_tag e.nodes
        (all_both (λ r. has_free_name r && are_kinds r) keeps_order e.nodes (all_both has_free_name are_kinds e.nodes s.names s.kinds) s.order) s.tags) s.sizes

    numbered : list_all (is_identified e.home e.next) e.nodes ≡ true
    numbered =
        all_both (λ r. nat_lt r.number e.next && has_known_ids e.next r) (has_other_cse_id e.home) e.nodes
        (all_both (λ r. nat_lt r.number e.next) (has_known_ids e.next) e.nodes s.numbers s.ids)
        (others_from e.home e.nodes s.cses)

    placed : list_all (is_located e.nodes e.last) e.nodes ≡ true
    placed =
        all_both (λ r. is_shallow e.nodes r && is_within_limits e.nodes r && is_sole_channel e.nodes r) (λ r. not (is_due e.nodes e.last r)) e.nodes
        (all_both (λ r. is_shallow e.nodes r && is_within_limits e.nodes r) (is_sole_channel e.nodes) e.nodes
        (all_both (is_shallow e.nodes) (is_within_limits e.nodes) e.nodes s.depth s.limits)
        (all_sole e.nodes (tree_from_well_formed e.nodes s.tree) s.channels))
        (none_all (is_due e.nodes e.last) e.nodes s.due)

    pub passes : AreNumbered 0 e.numbered e.items → (are_sound e.home e.nodes e.next e.last ≡ true) × (do_follow e.last e.numbered 0 0 e.items ≡ true)
    passes numbers = (
      and_from _ _ (and_from _ _ (and_from _ _ (and_from _ _ (le-leb _ _ s.next) (le-leb _ _ s.last)) (le-leb _ _ s.count)) s.base)
          (all_both (λ r. is_formed r && is_identified e.home e.next r) (is_located e.nodes e.last) e.nodes (all_both is_formed (is_identified e.home e.next) e.nodes formed numbered) placed),
      follow_all e.last e.numbered 0 0 e.items numbers (all_from e.items) s.moments s.waiting,
    )
