-- What a Create asks for (TS-0001, 10.2.2).
use Rattle.std.specs.Prelude.{ℕ, List}
use Rattle.m2m_names.specs.declared.types.Ty.{Ty}
use Rattle.m2m_value.specs.Data.{Entry}
use Rattle.resource_model.specs.Resource.{ResourceData}
use Rattle.entity_model.specs.Entity.{EntityData}

-- A creation: in which entity, by whom, of which type, under which parent, and the attributes that
-- the content names. The number is the entity's next one.
pub record Creation : Type 0 where
  pub e : EntityData
  pub originator : List ℕ
  pub ty : Ty
  pub parent : ResourceData
  pub named : List Entry

-- The creation that has these parts.
abbrev pub creation_of : EntityData → List ℕ → Ty → ResourceData → List Entry → Creation
creation_of e originator ty parent named =
    record { e = e; originator = originator; ty = ty; parent = parent; named = named }
