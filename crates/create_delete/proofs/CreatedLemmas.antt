-- What a creation that no place refuses makes may join a sound entity.
use Rattle.std.specs.Prelude.{nat_le, nat_lt}
use Rattle.std.proofs.Common.{◌≡◌, ℕ, ◌+◌, ◌-◌, ◌^◌, ◌<◌, ◌≤◌, List, [], ◌∷◌, ◌++◌, true, false, not, ◌||◌, Option, Some, None, is_some, option_map, option_and_then, unwrap_or, if◌then◌else◌, bytes_eq, pos, inl, inr, refl, sym, ap, ◌∙◌, arith}
use Rattle.std.proofs.lemmas.Bool.{cases_Bool, and_from, or_left, or_right, not-true, not_from_false, ltb-true, lt-leb, le-leb, eqb-true}
use Rattle.std.proofs.lemmas.List.Folds.{list_all-append}
use Rattle.std.specs.List.{list_all}
use Rattle.std.specs.Option.{option_map_or}
use Rattle.m2m_names.specs.Attributes.{attr_short}
use Rattle.m2m_names.specs.Name.{is_originator}
use Rattle.m2m_names.specs.Stamps.{last_moment}
use Rattle.m2m_names.specs.Types.{does_take}
use Rattle.m2m_names.specs.declared.attributes.Attr.{Attr}
use Rattle.m2m_names.specs.declared.attributes.Attr.TheVariants.{Acpi, Aei, Cr, Cs, Csi, Macp, Mia, St}
use Rattle.m2m_names.specs.declared.types.Ty.{Ty}
use Rattle.m2m_names.specs.declared.types.Ty.TheVariants.{Ae, Container, ContentInstance, PollingChannel, RemoteCse}
use Rattle.m2m_names.proofs.TypeLemmas.{same_type}
use Rattle.m2m_value.specs.Data.{Data, Entry, number, text}
use Rattle.m2m_value.specs.Node.{AreSorted}
use Rattle.m2m_value.specs.Shapes.{as_count}
use Rattle.m2m_value.specs.View.{as_text, member_of}
use Rattle.resource_model.specs.Attributes.{Row, count_at, is_attr, value_of, with_value}
use Rattle.resource_model.specs.Resource.{ResourceData, is_ty, ae_id, cse_id}
use Rattle.resource_model.proofs.AttributeLemmas.{value-with_value_same}
use Rattle.tree_model.specs.Shown.{with_rows, own_cse_id}
use Rattle.tree_model.specs.Tree.{at, age_end, due_under, may_stand, has_ae_id, has_channel, has_cse_id, is_due, is_placed, lesser, instance_size}
use Rattle.tree_model.proofs.ShownLemmas.{with_rows-append}
use Rattle.tree_model.proofs.FoundLemmas.{no_text_found}
use Rattle.tree_model.proofs.GrowthLemmas.{fits_next}
use Rattle.tree_model.proofs.TreeLemmas.{at_has}
use Rattle.attribute_rules.specs.Admission.{attributes_in, is_admitted}
use Rattle.attribute_rules.specs.Contents.{named_text, wanted_in, wanted_of}
use Rattle.attribute_rules.specs.declared.table.Writing.TheVariants.{Create as Creating}
use Rattle.attribute_rules.proofs.ValueLemmas.{value_wanted}
use Rattle.policy_eval.specs.Rules.{listed_in, ids_at}
use Rattle.entity_model.specs.Entity.{EntityData, last_reading}
use Rattle.entity_model.specs.Sound.{is_known_id, largest_size, IsSoundEntity}
use Rattle.request_rules.specs.Creation.{Creation, creator_rows, given_rows, has_room, is_below, is_free_cse_id, is_single, is_small, new_ae_id, new_resource, new_rows, new_size, next_state, takes_instance}
use Rattle.request_rules.specs.Groups.{MembershipData, member_rows}
use Rattle.request_rules.specs.Policies.{link_row}
use Rattle.request_rules.specs.Requests.{named_expiry}
use Rattle.request_rules.proofs.RoomLemmas.{StandsAlone, HasRoom, free_cse_id_parts, place_parts, room_parts, takes_parts, unique_parts}
use Rattle.create_delete.specs.Changing.{container_update_of, pushed_out}
use Rattle.create_delete.specs.Joining.{IsAllowed, MayJoin}
use Rattle.create_delete.specs.NewResource.{IsNewInstance, IsNewResource}
use Rattle.entity_model.proofs.OrderLemmas.{order_kept}
use Rattle.create_delete.proofs.AttributeOrderLemmas.{new_order}
use Rattle.create_delete.proofs.NewResourceLemmas.{lacks_creator, lacks_given, lacks_link, link_known, new_kinds, new_name_is_free, state_small, wanted_none}
use Rattle.create_delete.proofs.RowLemmas.{lacks_attr, value_unset}
use Rattle.tree_model.proofs.QuietLemmas.{due_case, due_never, due_by_age, due_by_expiry}

-- ---- what the limits say

few_for : (c : Creation) → has_room c ≡ true → c.e.next < 2 ^ 63 - 1
few_for c room = (place_parts c.e c.parent.number (room_parts c room).place).few

takes_it : (c : Creation) → is_small c ≡ true → is_ty c.ty ContentInstance ≡ true → takes_instance c.parent (new_size c) ≡ true
takes_it c small instance = rw instance at small

-- ---- a new resource

module _ (c : Creation) (sound : IsSoundEntity c.e) (originator : is_originator c.originator ≡ true) (may : IsAllowed c) where
  sorted : AreSorted c.named
  sorted = may.sorted

  abbrev r : ResourceData
  r = new_resource c

  abbrev given : List Row
  given = given_rows c.ty c

  abbrev creator : List Row
  creator = creator_rows c.originator c.named

  abbrev wanted : List Row
  wanted = (wanted_in c.named).attrs

  abbrev base : List Row
  base = with_rows creator (with_rows given wanted)

  room : HasRoom c
  room = room_parts c may.room

  rows_are : new_rows c ≡ with_rows (link_row c.e c.named Macp) (with_rows (link_row c.e c.named Acpi) base)
  rows_are =
      with_rows-append ((given ++ creator) ++ link_row c.e c.named Acpi) (link_row c.e c.named Macp) wanted
      ∙ ap (with_rows (link_row c.e c.named Macp)) (with_rows-append (given ++ creator) (link_row c.e c.named Acpi) wanted
      ∙ ap (with_rows (link_row c.e c.named Acpi)) (with_rows-append given creator wanted))

  -- an attribute that neither the links nor the creator are
  before_links : (a : Attr) → is_attr Acpi a ≡ false → is_attr Macp a ≡ false → is_attr Cr a ≡ false → value_of a (new_rows c) ≡ value_of a (with_rows given wanted)
  before_links a acpi macp cr =
      ap (value_of a) rows_are
      ∙ value_unset a (link_row c.e c.named Macp) (with_rows (link_row c.e c.named Acpi) base) (lacks_link a Macp c.e c.named macp)
      ∙ value_unset a (link_row c.e c.named Acpi) base (lacks_link a Acpi c.e c.named acpi)
      ∙ value_unset a creator (with_rows given wanted) (lacks_creator a c.originator c.named cr)

  -- ---- identifiers

  unique : StandsAlone c
  unique = unique_parts c may.unique

  ae_is : is_ty c.ty Ae ≡ true → ae_id r ≡ Some (new_ae_id c)
  ae_is is =
      let ty : c.ty ≡ Ae = same_type c.ty Ae (eqb-true _ _ is) in
      let put : value_of Aei (with_rows given wanted) ≡ Some (text (new_ae_id c)) = ap (λ (t : Ty). value_of Aei (with_rows (given_rows t c) wanted)) ty ∙ value-with_value_same Aei (text (new_ae_id c)) wanted in
      rw is (ap (option_and_then as_text) (before_links Aei refl refl refl ∙ put))

  free_ae : has_ae_id (ae_id r) c.e.nodes ≡ false
  free_ae = elim (cases_Bool (is_ty c.ty Ae)) [
    | inl is ↦ ap (λ (o : Option (List ℕ)). has_ae_id o c.e.nodes) (ae_is is) ∙ not-true _ (sym (ap (λ (t : Ty). is_single t c) (same_type c.ty Ae (eqb-true _ _ is))) ∙ unique.single)
    | inr other ↦ (let none : ae_id r ≡ None = rw other refl in ap (λ (o : Option (List ℕ)). has_ae_id o c.e.nodes) none ∙ no_text_found ae_id c.e.nodes)
  ]

  whole : (o : Option Data) → option_and_then (λ d. if false then None else Some d) o ≡ o
  whole None = refl
  whole (Some d) = refl

  cse_is : is_ty c.ty RemoteCse ≡ true → cse_id r ≡ named_text Csi c.named
  cse_is is =
      let ty : c.ty ≡ RemoteCse = same_type c.ty RemoteCse (eqb-true _ _ is) in
      let kept : value_of Csi (with_rows given wanted) ≡ value_of Csi wanted = ap (λ (t : Ty). value_of Csi (with_rows (given_rows t c) wanted)) ty in
      let named : value_of Csi wanted ≡ member_of (attr_short Csi) c.named = value_wanted Csi c.named sorted ∙ whole (member_of (attr_short Csi) c.named) in
      rw is (ap (option_and_then as_text) (before_links Csi refl refl refl ∙ kept ∙ named))

  -- what a remote CSE names is free, and not the own
  free_csi : (o : Option (List ℕ)) → option_map_or (is_free_cse_id c.e) o true ≡ true → (has_cse_id o c.e.nodes ≡ false) × (option_map_or (bytes_eq (own_cse_id c.e.home)) o false ≡ false)
  free_csi None t = (no_text_found cse_id c.e.nodes, refl)
  free_csi (Some csi) t = (let parts = free_cse_id_parts c.e csi t in (parts.free, parts.foreign))

  cse_free : (has_cse_id (cse_id r) c.e.nodes ≡ false) × (option_map_or (bytes_eq (own_cse_id c.e.home)) (cse_id r) false ≡ false)
  cse_free = elim (cases_Bool (is_ty c.ty RemoteCse)) [
    | inl is ↦
        let single : option_map_or (is_free_cse_id c.e) (named_text Csi c.named) true ≡ true = sym (ap (λ (t : Ty). is_single t c) (same_type c.ty RemoteCse (eqb-true _ _ is))) ∙ unique.single in
        let free = free_csi (named_text Csi c.named) single in
        (ap (λ (o : Option (List ℕ)). has_cse_id o c.e.nodes) (cse_is is) ∙ free.0, ap (λ (o : Option (List ℕ)). option_map_or (bytes_eq (own_cse_id c.e.home)) o false) (cse_is is) ∙ free.1)
    | inr other ↦
        let none : cse_id r ≡ None = rw other refl in
        (ap (λ (o : Option (List ℕ)). has_cse_id o c.e.nodes) none ∙ no_text_found cse_id c.e.nodes, ap (λ (o : Option (List ℕ)). option_map_or (bytes_eq (own_cse_id c.e.home)) o false) none)
  ]

  one_channel : is_ty r.ty PollingChannel ≡ true → has_channel r.parent c.e.nodes ≡ false
  one_channel is = not-true _ (sym (ap (λ (t : Ty). is_single t c) (same_type c.ty PollingChannel (eqb-true _ _ is))) ∙ unique.single)

  -- ---- its place

  placed : is_placed c.e.nodes r ≡ true
  placed = or_left _ _ (at_has c.parent.number c.e.nodes c.parent may.parent)

  fitting : may_stand c.e.nodes r ≡ true
  fitting = fits_next c.e.nodes r (record {
    number = sound.numbers;
    parent = placed;
    name = unique.name;
    ae = free_ae;
    cse = cse_free.0;
  })

  taken : option_map_or (λ (p : ResourceData). does_take p.ty r.ty) (at r.parent c.e.nodes) true ≡ true
  taken = ap (λ (o : Option ResourceData). option_map_or (λ (p : ResourceData). does_take p.ty r.ty) o true) may.parent ∙ may.takes

  -- ---- what it keeps

  -- a policy link before it is put in
  link_before : (a : Attr) → is_attr Cr a ≡ false → is_attr Aei a ≡ false → is_attr St a ≡ false → is_attr Cs a ≡ false → ((m : MembershipData) → lacks_attr a (member_rows c.e m) ≡ true) → value_of a base ≡ value_of a wanted
  link_before a cr aei st cs members = value_unset a creator (with_rows given wanted) (lacks_creator a c.originator c.named cr) ∙ value_unset a given wanted (lacks_given a c.ty c aei st cs members)

  acpi_known : list_all (is_known_id c.e.next) (ids_at Acpi r) ≡ true
  acpi_known =
      ap (λ (o : Option Data). list_all (is_known_id c.e.next) (listed_in o)) (ap (value_of Acpi) rows_are ∙ value_unset Acpi (link_row c.e c.named Macp) (with_rows (link_row c.e c.named Acpi) base) (lacks_link Acpi Macp c.e c.named refl))
      ∙ link_known c.e c.named Acpi base sound (λ t. ap (list_all (is_known_id c.e.next)) (ap listed_in (link_before Acpi refl refl refl refl (λ m. refl)) ∙ wanted_none Acpi c.named sorted t))

  macp_known : list_all (is_known_id c.e.next) (ids_at Macp r) ≡ true
  macp_known =
      ap (λ (o : Option Data). list_all (is_known_id c.e.next) (listed_in o)) (ap (value_of Macp) rows_are)
      ∙ link_known c.e c.named Macp (with_rows (link_row c.e c.named Acpi) base) sound
      (λ t. ap (list_all (is_known_id c.e.next)) (ap listed_in (value_unset Macp (link_row c.e c.named Acpi) base (lacks_link Macp Acpi c.e c.named refl) ∙ link_before Macp refl refl refl refl (λ m. refl)) ∙ wanted_none Macp c.named sorted t))

  small_size : is_ty c.ty ContentInstance ≡ true → new_size c ≤ largest_size
  small_size is = (takes_parts c.parent (new_size c) (takes_it c room.small is)).largest

  size_is : is_ty c.ty ContentInstance ≡ true → instance_size r ≡ new_size c
  size_is is =
      let ty : c.ty ≡ ContentInstance = same_type c.ty ContentInstance (eqb-true _ _ is) in
      let put : value_of Cs (with_rows given wanted) ≡ Some (number (pos (new_size c))) =
      ap (λ (t : Ty). value_of Cs (with_rows (given_rows t c) wanted)) ty
      ∙ value_unset Cs ((St, number (pos (next_state c.parent))) ∷ []) (with_value Cs (number (pos (new_size c))) wanted) refl
      ∙ value-with_value_same Cs (number (pos (new_size c))) wanted in
      ap (λ (o : Option Data). unwrap_or (option_and_then as_count o) 0) (before_links Cs refl refl refl ∙ put)

  -- ---- when it is due

  expires : c.e.last < r.et
  expires = by_named (named_expiry c.named) may.later
    where
      by_named : (o : Option ℕ) → option_map_or (nat_lt c.e.last) o true ≡ true → c.e.last < unwrap_or o last_moment
      by_named None t = (let most : c.e.last ≤ last_reading = sound.last in omega arith)
      by_named (Some m) t = ltb-true c.e.last m t

  ages : is_ty c.ty ContentInstance ≡ true → nat_le (lesser r.et (age_end (Some c.parent) r)) c.e.last ≡ false
  ages is = by_age (count_at Mia c.parent.attrs) (takes_parts c.parent (new_size c) (takes_it c room.small is)).age
    where
      by_age : (o : Option ℕ) → is_below 0 o ≡ true → nat_le (lesser r.et (option_map (λ age. c.e.last + age) o)) c.e.last ≡ false
      by_age None t = lt-leb r.et c.e.last expires
      by_age (Some age) t = (let some : 0 < age = ltb-true 0 age t in let later : c.e.last < r.et = expires in lt-leb (lesser r.et (Some (c.e.last + age))) c.e.last (omega arith))

  not_due : is_due c.e.nodes c.e.last r ≡ false
  not_due = ap (λ (o : Option ResourceData). option_map_or (λ at. nat_le at c.e.last) (due_under o r) false) may.parent ∙ by_type
    where
      by_type : option_map_or (λ at. nat_le at c.e.last) (due_under (Some c.parent) r) false ≡ false
      by_type = elim (due_case c.ty) [
        | due_never t ↦ rw t refl
        | due_by_age f u ↦ rw (f, u) (ages u)
        | due_by_expiry f v ↦ rw (f, v) (lt-leb r.et c.e.last expires)
      ]

  -- ---- whole

  tagged : (not (is_ty c.ty Container) || is_some (value_of St (new_rows c))) ≡ true
  tagged = elim (cases_Bool (is_ty c.ty Container)) [
    | inl is ↦
        let ty : c.ty ≡ Container = same_type c.ty Container (eqb-true _ _ is) in
        let put : value_of St (with_rows given wanted) ≡ Some (number (pos 0)) = ap (λ (t : Ty). value_of St (with_rows (given_rows t c) wanted)) ty ∙ value-with_value_same St (number (pos 0)) wanted in
        or_right _ _ (ap is_some (before_links St refl refl refl ∙ put))
    | inr other ↦ or_left _ _ (not_from_false _ other)
  ]

  sized : (not (is_ty c.ty ContentInstance) || nat_le (instance_size r) largest_size) ≡ true
  sized = elim (cases_Bool (is_ty c.ty ContentInstance)) [
    | inl is ↦ or_right _ _ (ap (λ (n : ℕ). nat_le n largest_size) (size_is is) ∙ le-leb (new_size c) largest_size (small_size is))
    | inr other ↦ or_left _ _ (not_from_false _ other)
  ]

  pub newcomer : IsNewResource c.e r
  newcomer =
      let few : c.e.next < 2 ^ 63 - 1 = few_for c may.room in
      record {
        number = refl;
        fits = and_from _ _ fitting taken;
        name = new_name_is_free c (omega arith) may.admitted;
        ids = list_all-append (is_known_id c.e.next) (ids_at Acpi r) (ids_at Macp r) ∙ and_from _ _ acpi_known macp_known;
        room = room.place;
        kinds = new_kinds c originator (omega arith) (λ is. let small : new_size c ≤ 1048576 = small_size is in omega arith) sorted may.few may.admitted;
        order = order_kept r (new_order c sorted);
        tag = tagged;
        apart = cse_free.1;
        channel = one_channel;
        size = sized;
        due = not_due;
      }

  pub filling : is_ty c.ty ContentInstance ≡ true → IsNewInstance c.e r c.parent (next_state c.parent)
  filling is = record {
    new = newcomer;
    instance = is;
    container = may.parent;
    takes = ap (takes_instance c.parent) (size_is is) ∙ takes_it c room.small is;
    small = state_small c.parent;
  }

  -- it may join, with what it does besides
  pub may_join : MayJoin c.e r (container_update_of c)
  may_join = elim (cases_Bool (is_ty c.ty ContentInstance)) [
    | inl is ↦ rw is (record {
      parent = c.parent;
      joins = filling is;
      container = refl;
      gone = ap (λ (n : ℕ). pushed_out c.e c.parent (Some n)) (sym (size_is is));
    })
    | inr other ↦ rw other (newcomer, other)
  ]

-- ---- what building it takes

pub few_numbers : (c : Creation) → IsAllowed c → c.e.next < 2 ^ 63
few_numbers c may = (let few : c.e.next < 2 ^ 63 - 1 = few_for c may.room in omega arith)

pub small_contents : (c : Creation) → IsAllowed c → is_ty c.ty ContentInstance ≡ true → new_size c < 2 ^ 63
small_contents c may is = (let small : new_size c ≤ 1048576 = (takes_parts c.parent (new_size c) (takes_it c (room_parts c may.room).small is)).largest in omega arith)

pub last_is_moment : (e : EntityData) → IsSoundEntity e → e.last ≤ last_moment
last_is_moment e sound = (let most : e.last ≤ last_reading = sound.last in omega arith)

-- the parts of what a creation makes
pub ruleset parts_of_the_created = (few_numbers, small_contents, last_is_moment)
