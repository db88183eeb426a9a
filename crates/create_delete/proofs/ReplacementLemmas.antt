-- What an update that no place refuses leaves may take the place of what it updates.
use Rattle.std.specs.Prelude.{◌==◌, nat_lt}
use Rattle.std.proofs.Common.{◌≡◌, ℕ, ◌^◌, ◌<◌, ◌≤◌, List, ◌++◌, length, Bool, true, false, not, ◌||◌, Option, Some, None, is_some, option_map, option_and_then, unwrap_or, if◌then◌else◌, pos, inl, inr, refl, sym, ap, ◌∙◌, arith}
use Rattle.std.proofs.lemmas.Bool.{cases_Bool, and_from, or_left, or_right, or_parts, not-true, not_from_false, ltb-true, lt-ltb, leb-false, eqb-true}
use Rattle.std.proofs.lemmas.List.{nil_from_length}
use Rattle.std.proofs.lemmas.List.Folds.{list_all-append}
use Rattle.std.specs.List.{list_all}
use Rattle.std.specs.Option.{option_map_or}
use Rattle.m2m_names.specs.Attributes.{attr_short}
use Rattle.m2m_names.specs.Stamps.{last_moment}
use Rattle.m2m_names.specs.declared.attributes.Attr.{Attr}
use Rattle.m2m_names.specs.declared.attributes.Attr.TheVariants.{Acpi, Aei, Csi, Et, Macp, St}
use Rattle.m2m_names.specs.declared.types.Ty.{Ty}
use Rattle.m2m_names.specs.declared.types.Ty.TheVariants.{Ae, Container, ContentInstance, CseBase, RemoteCse}
use Rattle.m2m_names.proofs.TypeLemmas.{same_type}
use Rattle.m2m_value.specs.Data.{Data, Entry, number}
use Rattle.m2m_value.specs.Node.{AreSorted}
use Rattle.m2m_value.specs.View.{as_text, member_of}
use Rattle.attribute_rules.specs.Admission.{is_named}
use Rattle.request_rules.specs.Requests.{expiry_for, named_expiry}
use Rattle.resource_model.specs.Attributes.{Row, is_attr, value_of}
use Rattle.resource_model.specs.Resource.{ResourceData, is_ty, ae_id, cse_id}
use Rattle.resource_model.proofs.AttributeLemmas.{value-with_value_same}
use Rattle.tree_model.specs.Shown.{with_rows}
use Rattle.tree_model.specs.Tree.{at, is_due, standing}
use Rattle.tree_model.proofs.QuietLemmas.{number_passes}
use Rattle.tree_model.proofs.ShownLemmas.{with_rows-append}
use Rattle.attribute_rules.specs.Contents.{does_clear, edit_in, edited}
use Rattle.attribute_rules.specs.Kinds.{is_attr_kind, are_kinds}
use Rattle.attribute_rules.specs.Laws.{may_name}
use Rattle.attribute_rules.specs.declared.table.Writing.TheVariants.{Update as Updating}
use Rattle.attribute_rules.proofs.AdmittedLemmas.{members_keep_policies, members_keep_fan_policies, members_leave}
use Rattle.attribute_rules.proofs.KindLemmas.{updated_members}
use Rattle.attribute_rules.proofs.ValueLemmas.{value_edited}
use Rattle.policy_eval.specs.Rules.{listed_in, ids_at}
use Rattle.entity_model.specs.Entity.{EntityData, last_reading}
use Rattle.entity_model.specs.Sound.{is_known_id, has_known_ids, IsSoundEntity}
use Rattle.entity_model.proofs.OrderLemmas.{order_at, order_kept}
use Rattle.create_delete.proofs.AttributeOrderLemmas.{updated_order}
use Rattle.request_rules.specs.Creation.{next_state}
use Rattle.request_rules.specs.Groups.{MembershipData, group_rows, member_rows, membership_edited}
use Rattle.request_rules.specs.Policies.{link_row, listed}
use Rattle.create_delete.specs.Changing.{expiry_after, own_rows, state_row, updated_resource}
use Rattle.create_delete.specs.NewResource.{IsReplacement}
use Rattle.create_delete.specs.Updating.{IsUpdatable}
use Rattle.create_delete.proofs.GrownLemmas.{none_all}
use Rattle.create_delete.proofs.NewResourceLemmas.{kinds-with_rows, lacks_link, link_kind, link_known, state_small}
use Rattle.create_delete.proofs.RowLemmas.{lacks_attr, value_unset}
use Rattle.create_delete.proofs.MemberLemmas.{edited_members_kinds}
use Rattle.create_delete.proofs.UpdatedRowLemmas.{as_edited, lacks_members, lacks_own, rows_are}
use Rattle.m2m_names.proofs.ListLemmas.{AllOfBoth, append_parts}

-- what is known stays so where nothing else is named
still_known : (next : ℕ) (o : Option Data) (clears : Data → Bool) (old : Option Data) → (length (listed_in o) == 0) ≡ true → list_all (is_known_id next) (listed_in old) ≡ true → list_all (is_known_id next) (listed_in (option_map_or (λ d. if clears d then None else Some d) o old)) ≡ true
still_known next None clears old t known = known
still_known next (Some d) clears old t known = elim (cases_Bool (clears d)) [
  | inl u ↦ rw u refl
  | inr v ↦ rw v (ap (list_all (is_known_id next)) (nil_from_length (listed_in (Some d)) (eqb-true (length (listed_in (Some d))) 0 t)))
]

module _ (e : EntityData) (es : List Entry) (r : ResourceData) (sound : IsSoundEntity e) (may : IsUpdatable e es r) where
  sorted : AreSorted es
  sorted = may.sorted

  abbrev now : ResourceData
  now = updated_resource e es r

  abbrev own : List Row
  own = own_rows e es r

  lacks_it : (a : Attr) → is_attr St a ≡ false → ((x : MembershipData) → lacks_attr a (member_rows e x) ≡ true) → lacks_attr a own ≡ true
  lacks_it a st lacks = lacks_own e es r a (λ is. st) (lacks_members a e (membership_edited r es) lacks)

  abbrev kept : List Row
  kept = edited (edit_in es) r.attrs

  -- an attribute that isn't put in
  edited_at : (a : Attr) → is_attr Acpi a ≡ false → is_attr Macp a ≡ false → is_attr St a ≡ false → ((x : MembershipData) → lacks_attr a (member_rows e x) ≡ true) → value_of a now.attrs ≡ value_of a kept
  edited_at a acpi macp st lacks = as_edited e es r a (lacks_link a Acpi e es acpi) (lacks_link a Macp e es macp) (lacks_it a st lacks)

  -- ---- types

  types : (is_ty r.ty CseBase ≡ false) × (is_ty r.ty ContentInstance ≡ false)
  types = or_parts (is_ty r.ty CseBase) (is_ty r.ty ContentInstance) (not-true _ may.kind)

  -- ---- what stands as before

  ae_same : ae_id now ≡ ae_id r
  ae_same = elim (cases_Bool (is_ty r.ty Ae)) [
    | inl is ↦
        let fixed : may_name r.ty Aei ≡ false = ap (λ (t : Ty). may_name t Aei) (same_type r.ty Ae (eqb-true _ _ is)) in
        rw is (ap (option_and_then as_text) (edited_at Aei refl refl refl (λ x. refl) ∙ members_leave r.ty es Aei r.attrs may.admitted fixed))
    | inr other ↦ rw other refl
  ]

  cse_same : cse_id now ≡ cse_id r
  cse_same = elim (cases_Bool (is_ty r.ty RemoteCse)) [
    | inl is ↦
        let fixed : may_name r.ty Csi ≡ false = ap (λ (t : Ty). may_name t Csi) (same_type r.ty RemoteCse (eqb-true _ _ is)) in
        rw is (ap (option_and_then as_text) (edited_at Csi refl refl refl (λ x. refl) ∙ members_leave r.ty es Csi r.attrs may.admitted fixed))
    | inr other ↦ rw other refl
  ]

  stood : option_map standing (at now.number e.nodes) ≡ Some (standing now)
  stood =
      ap (option_map standing) may.stands
      ∙ ap (λ (o : Option (List ℕ)). Some (r.ty, r.name, r.parent, o, cse_id r)) (sym ae_same)
      ∙ ap (λ (o : Option (List ℕ)). Some (r.ty, r.name, r.parent, ae_id now, o)) (sym cse_same)

  -- ---- policies

  known : list_all (is_known_id e.next) (ids_at Acpi r ++ ids_at Macp r) ≡ true
  known = number_passes (has_known_ids e.next) r.number e.nodes r sound.ids may.stands

  each_known : AllOfBoth (is_known_id e.next) (ids_at Acpi r) (ids_at Macp r)
  each_known = append_parts (is_known_id e.next) (ids_at Acpi r) (ids_at Macp r) known

  edit_known : (a : Attr) → is_attr a Et ≡ false → list_all (is_known_id e.next) (ids_at a r) ≡ true → (length (listed a es) == 0) ≡ true → list_all (is_known_id e.next) (listed_in (value_of a kept)) ≡ true
  edit_known a apart old t =
      ap (λ (o : Option Data). list_all (is_known_id e.next) (listed_in o)) (value_edited a es r.attrs sorted apart)
      ∙ still_known e.next (member_of (attr_short a) es) (does_clear a) (value_of a r.attrs) t old

  acpi_known : list_all (is_known_id e.next) (ids_at Acpi now) ≡ true
  acpi_known =
      ap (λ (o : Option Data). list_all (is_known_id e.next) (listed_in o)) (ap (value_of Acpi) (rows_are e es r) ∙ value_unset Acpi (link_row e es Macp) (with_rows (link_row e es Acpi) (with_rows own kept)) (lacks_link Acpi Macp e es refl))
      ∙ link_known e es Acpi (with_rows own kept) sound
      (λ t. ap (λ (o : Option Data). list_all (is_known_id e.next) (listed_in o)) (value_unset Acpi own kept (lacks_it Acpi refl (λ x. refl))) ∙ edit_known Acpi refl each_known.front t)

  macp_known : list_all (is_known_id e.next) (ids_at Macp now) ≡ true
  macp_known =
      ap (λ (o : Option Data). list_all (is_known_id e.next) (listed_in o)) (ap (value_of Macp) (rows_are e es r))
      ∙ link_known e es Macp (with_rows (link_row e es Acpi) (with_rows own kept)) sound
      (λ t. ap (λ (o : Option Data). list_all (is_known_id e.next) (listed_in o)) (value_unset Macp (link_row e es Acpi) (with_rows own kept) (lacks_link Macp Acpi e es refl) ∙ value_unset Macp own kept (lacks_it Macp refl (λ x. refl))) ∙ edit_known Macp refl each_known.back t)

  -- ---- kinds

  state_kinds : list_all (is_attr_kind r.ty) (state_row r) ≡ true
  state_kinds = elim (cases_Bool (is_ty r.ty Container)) [
    | inl is ↦
        let row : Row = (St, number (pos (next_state r))) in
        let kind : is_attr_kind r.ty row ≡ true = ap (λ (t : Ty). is_attr_kind t row) (same_type r.ty Container (eqb-true _ _ is)) ∙ lt-ltb (next_state r) (2 ^ 63) (state_small r) in
        rw is (and_from _ _ kind refl)
    | inr other ↦ rw other refl
  ]

  kept_kinds : are_kinds r ≡ true
  kept_kinds = number_passes are_kinds r.number e.nodes r sound.kinds may.stands

  own_kinds : list_all (is_attr_kind r.ty) own ≡ true
  own_kinds =
      list_all-append (is_attr_kind r.ty) (state_row r) (group_rows e (membership_edited r es))
      ∙ and_from _ _ state_kinds (edited_members_kinds e es r sorted may.admitted kept_kinds may.few)

  kinds : are_kinds now ≡ true
  kinds =
      kinds-with_rows r.ty ((own ++ link_row e es Acpi) ++ link_row e es Macp) kept
      (list_all-append (is_attr_kind r.ty) (own ++ link_row e es Acpi) (link_row e es Macp)
      ∙ and_from _ _
      (list_all-append (is_attr_kind r.ty) own (link_row e es Acpi) ∙ and_from _ _ own_kinds (link_kind e es Acpi r.ty (members_keep_policies Updating r.ty es may.admitted)))
      (link_kind e es Macp r.ty (members_keep_fan_policies Updating r.ty es may.admitted)))
      (updated_members r.ty es r.attrs may.admitted kept_kinds)

  tagged : (not (is_ty r.ty Container) || is_some (value_of St now.attrs)) ≡ true
  tagged = elim (cases_Bool (is_ty r.ty Container)) [
    | inl is ↦
        let state : value_of St (with_rows (state_row r) kept) ≡ Some (number (pos (next_state r))) = rw is (value-with_value_same St (number (pos (next_state r))) kept) in
        let put : value_of St (with_rows own kept) ≡ Some (number (pos (next_state r))) =
        ap (value_of St) (with_rows-append (state_row r) (group_rows e (membership_edited r es)) kept)
        ∙ value_unset St (group_rows e (membership_edited r es)) (with_rows (state_row r) kept) (lacks_members St e (membership_edited r es) (λ x. refl)) ∙ state in
        let value : value_of St now.attrs ≡ Some (number (pos (next_state r))) =
        ap (value_of St) (rows_are e es r)
        ∙ value_unset St (link_row e es Macp) (with_rows (link_row e es Acpi) (with_rows own kept)) (lacks_link St Macp e es refl)
        ∙ value_unset St (link_row e es Acpi) (with_rows own kept) (lacks_link St Acpi e es refl) ∙ put in
        or_right _ _ (ap is_some value)
    | inr other ↦ or_left _ _ (not_from_false _ other)
  ]

  -- ---- when it is due

  not_due : not (is_due e.nodes e.last r) ≡ true
  not_due = number_passes (λ s. not (is_due e.nodes e.last s)) r.number e.nodes r (none_all (is_due e.nodes e.last) e.nodes sound.due) may.stands

  lasted : e.last < r.et
  lasted = (let quiet : is_due e.nodes e.last r ≡ false = not-true _ not_due in leb-false r.et e.last (rw (types.0, types.1) at quiet))

  expires : e.last < expiry_after es r.et
  expires = by_named (is_named Et es)
    where
      by_moment : (o : Option ℕ) → option_map_or (nat_lt e.last) o true ≡ true → e.last < unwrap_or o last_moment
      by_moment None t = (let most : e.last ≤ last_reading = sound.last in omega arith)
      by_moment (Some m) t = ltb-true e.last m t

      by_named : (b : Bool) → e.last < (if b then expiry_for es else r.et)
      by_named true = by_moment (named_expiry es) may.later
      by_named false = lasted

  pub replacement : IsReplacement e now
  replacement = record {
    stood = stood;
    ids = list_all-append (is_known_id e.next) (ids_at Acpi now) (ids_at Macp now) ∙ and_from _ _ acpi_known macp_known;
    kinds = kinds;
    order = order_kept now (updated_order e es r (order_at r.number e r sound may.stands));
    tag = tagged;
    plain = types.1;
    later = expires;
  }
