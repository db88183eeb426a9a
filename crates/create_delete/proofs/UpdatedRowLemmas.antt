-- The attributes that an Update leaves: those that it sets and clears, and then what is put in.
use Rattle.std.proofs.Common.{◌≡◌, List, ◌++◌, true, false, not, Option, Some, None, inl, inr, refl, ap, ◌∙◌}
use Rattle.std.proofs.lemmas.Bool.{cases_Bool, and_from, not_from_false}
use Rattle.std.proofs.lemmas.List.Folds.{list_all-append}
use Rattle.m2m_names.specs.declared.attributes.Attr.{Attr}
use Rattle.m2m_names.specs.declared.attributes.Attr.TheVariants.{Acpi, Macp, St}
use Rattle.m2m_names.specs.declared.types.Ty.TheVariants.{Container}
use Rattle.m2m_value.specs.Data.{Entry}
use Rattle.resource_model.specs.Attributes.{Row, is_attr, value_of}
use Rattle.resource_model.specs.Resource.{ResourceData, is_ty}
use Rattle.tree_model.specs.Shown.{with_rows}
use Rattle.tree_model.proofs.ShownLemmas.{with_rows-append}
use Rattle.attribute_rules.specs.Contents.{edit_in, edited}
use Rattle.entity_model.specs.Entity.{EntityData}
use Rattle.request_rules.specs.Groups.{MembershipData, group_rows, member_rows, membership_edited}
use Rattle.request_rules.specs.Policies.{link_row}
use Rattle.create_delete.specs.Changing.{own_rows, state_row, updated_resource}
use Rattle.create_delete.proofs.RowLemmas.{lacks_attr, value_unset}

pub lacks_state : (r : ResourceData) (a : Attr) → (is_ty r.ty Container ≡ true → is_attr St a ≡ false) → lacks_attr a (state_row r) ≡ true
lacks_state r a other = elim (cases_Bool (is_ty r.ty Container)) [
  | inl t ↦ rw t (and_from _ _ (not_from_false _ (other t)) refl)
  | inr f ↦ rw f refl
]

-- what a group keeps of its members is none of the other attributes
pub lacks_members : (a : Attr) (e : EntityData) (m : Option MembershipData) → ((x : MembershipData) → lacks_attr a (member_rows e x) ≡ true) → lacks_attr a (group_rows e m) ≡ true
lacks_members a e None lacks = refl
lacks_members a e (Some x) lacks = lacks x

pub lacks_own : (e : EntityData) (es : List Entry) (r : ResourceData) (a : Attr) → (is_ty r.ty Container ≡ true → is_attr St a ≡ false) → lacks_attr a (group_rows e (membership_edited r es)) ≡ true → lacks_attr a (own_rows e es r) ≡ true
lacks_own e es r a other lacks =
    list_all-append (λ (row : Row). not (is_attr row.0 a)) (state_row r) (group_rows e (membership_edited r es))
    ∙ and_from _ _ (lacks_state r a other) lacks

module _ (e : EntityData) (es : List Entry) (r : ResourceData) where
  abbrev now : ResourceData
  now = updated_resource e es r

  abbrev own : List Row
  own = own_rows e es r

  abbrev kept : List Row
  kept = edited (edit_in es) r.attrs

  pub rows_are : now.attrs ≡ with_rows (link_row e es Macp) (with_rows (link_row e es Acpi) (with_rows own kept))
  rows_are = with_rows-append (own ++ link_row e es Acpi) (link_row e es Macp) kept ∙ ap (with_rows (link_row e es Macp)) (with_rows-append own (link_row e es Acpi) kept)

  -- an attribute that isn't put in
  pub as_edited : (a : Attr) → lacks_attr a (link_row e es Acpi) ≡ true → lacks_attr a (link_row e es Macp) ≡ true → lacks_attr a own ≡ true → value_of a now.attrs ≡ value_of a kept
  as_edited a acpi macp none =
      ap (value_of a) rows_are
      ∙ value_unset a (link_row e es Macp) (with_rows (link_row e es Acpi) (with_rows own kept)) macp
      ∙ value_unset a (link_row e es Acpi) (with_rows own kept) acpi
      ∙ value_unset a own kept none
