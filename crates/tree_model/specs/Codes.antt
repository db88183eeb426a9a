-- How the logic stores a change: as the resources that it speaks of, with their kind.
use Rattle.std.specs.Prelude.{◌≡◌, ◌⊎◌, List, refl}
use Rattle.std.specs.Coded.{Coded, code_by, coded×, coded⊎, coded_list}
use Rattle.std.proofs.Common.{inl, inr}
use Rattle.m2m_names.specs.contracts.attributes.Attr as attr
use Rattle.m2m_names.specs.declared.attributes.Attr.{Attr}
use Rattle.resource_model.specs.Codes.{resource_code}
use Rattle.resource_model.specs.Resource.{ResourceData}
use Rattle.tree_model.specs.Changes.{ChangeData, created, updated, deleted}

abbrev Stored : Type 0
Stored = ResourceData ⊎ ((ResourceData × (ResourceData × List Attr)) ⊎ ResourceData)

abbrev stored : ChangeData → Stored
stored (created r) = inl r
stored (updated r s named) = inr (inl (r, (s, named)))
stored (deleted r) = inr (inr r)

abbrev restored : Stored → ChangeData
restored (inl r) = created r
restored (inr (inl p)) = updated p.0 p.1.0 p.1.1
restored (inr (inr r)) = deleted r

-- The change that is restored from what was stored of it is the one that was stored.
pub restored-stored : (c : ChangeData) → restored (stored c) ≡ c
restored-stored (created r) = refl
restored-stored (updated r s named) = refl
restored-stored (deleted r) = refl

-- A change is stored as one of three kinds with the resources that it speaks of. These give it back
-- unchanged.
abbrev pub change_code : Coded ChangeData
change_code =
    code_by Stored
    (coded⊎ resource_code
    (coded⊎ (coded× resource_code (coded× resource_code (coded_list attr.the_row.coded)))
    resource_code))
    stored restored restored-stored
