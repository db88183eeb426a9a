-- What an Update changes for copies (TS-0001, 9.6.26 and 10.2.4).
use Rattle.std.specs.Prelude.{◌≡◌, List, false, IsTrue}
use Rattle.m2m_names.specs.declared.attributes.Attr.{Attr}
use Rattle.m2m_names.specs.declared.attributes.Attr.TheVariants.{Mid}
use Rattle.m2m_value.specs.Data.{Entry}
use Rattle.m2m_value.specs.Node.{AreSorted}
use Rattle.resource_model.specs.Attributes.{is_attr}
use Rattle.resource_model.specs.Home.{HomeData}
use Rattle.resource_model.specs.Resource.{ResourceData}
use Rattle.attribute_rules.specs.Kinds.{are_kinds}
use Rattle.announce_copy.specs.Announced.{does_renew}
use Rattle.copy_laws.specs.Following.{value_in_copy}
use Rattle.entity_model.specs.Entity.{EntityData}
use Rattle.create_delete.specs.Changes.{attrs_of}
use Rattle.create_delete.specs.Changing.{updated_resource}

-- An Update that names nothing that copies follow leaves what they have, but for the members of a
-- group.
abbrev pub WhatIsNotFollowedStays : Type 0
WhatIsNotFollowedStays =
    (home : HomeData) (e : EntityData) (es : List Entry) (r : ResourceData) → AreSorted es
    → IsTrue (are_kinds r) → does_renew (attrs_of es) (updated_resource e es r) ≡ false
    → (attr : Attr) → is_attr attr Mid ≡ false
    → value_in_copy home r attr ≡ value_in_copy home (updated_resource e es r) attr
