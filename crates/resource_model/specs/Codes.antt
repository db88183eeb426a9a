-- How the logic stores a list of attributes and a resource: as nested pairs.
use Rattle.std.specs.Prelude.{ℕ, List, refl}
use Rattle.std.specs.Coded.{Coded, code_by, coded×, coded_ℕ, coded_list}
use Rattle.m2m_names.specs.contracts.attributes.Attr as attr
use Rattle.m2m_names.specs.contracts.types.Ty as ty
use Rattle.m2m_names.specs.declared.types.Ty.{Ty}
use Rattle.m2m_value.specs.Code.{data_code}
use Rattle.resource_model.specs.Attributes.{Row}
use Rattle.resource_model.specs.Resource.{ResourceData}

-- A list of attributes is stored as a list of pairs, each of an attribute and its value.
abbrev pub rows_code : Coded (List Row)
rows_code = coded_list (coded× attr.the_row.coded data_code)

abbrev ResourceParts : Type 0
ResourceParts = ℕ × (Ty × (List ℕ × (ℕ × (List ℕ × (ℕ × (ℕ × (ℕ × List Row)))))))

abbrev resource_parts : ResourceData → ResourceParts
resource_parts r =
    (r.number, (r.ty, (r.name, (r.parent, (r.owner, (r.ct, (r.lt, (r.et, r.attrs))))))))

abbrev of_resource_parts : ResourceParts → ResourceData
of_resource_parts p = record {
  number = p.0;
  ty = p.1.0;
  name = p.1.1.0;
  parent = p.1.1.1.0;
  owner = p.1.1.1.1.0;
  ct = p.1.1.1.1.1.0;
  lt = p.1.1.1.1.1.1.0;
  et = p.1.1.1.1.1.1.1.0;
  attrs = p.1.1.1.1.1.1.1.1;
}

-- A resource is stored as nested pairs of its nine parts, which give it back unchanged.
abbrev pub resource_code : Coded ResourceData
resource_code =
    code_by ResourceParts
    (coded× coded_ℕ
    (coded× ty.the_row.coded
    (coded× (coded_list coded_ℕ) (coded× coded_ℕ (coded× (coded_list coded_ℕ)
    (coded× coded_ℕ (coded× coded_ℕ (coded× coded_ℕ rows_code))))))))
    resource_parts of_resource_parts (λ _. refl)
