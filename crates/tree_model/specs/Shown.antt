-- The attributes of a resource as they are shown (TS-0001, 9.6; TS-0004, 7.4 and 8.2.3).
use Rattle.std.specs.Prelude.{ℕ, min, pos, List, [], ◌∷◌, ◌++◌, length, map, codes}
use Rattle.std.specs.Prelude.{if◌then◌else◌}
use Rattle.std.specs.Option.{option_map_or}
use Rattle.m2m_names.specs.Attributes.{attr_short}
use Rattle.m2m_names.specs.Stamps.{timestamp}
use Rattle.m2m_names.specs.Types.{ty_row, ty_member, all_types}
use Rattle.m2m_names.specs.declared.attributes.Attr.{Attr}
use Rattle.m2m_names.specs.declared.attributes.Attr.TheVariants.{Cbs, Cni, Csi, Cst, Csy, Ct, Et}
use Rattle.m2m_names.specs.declared.attributes.Attr.TheVariants.{Lt, Mt, Pi, Ri, Rn, Srt}
use Rattle.m2m_names.specs.declared.attributes.Attr.TheVariants.{Ty as TyAttr}
use Rattle.m2m_names.specs.declared.types.Ty.{Ty}
use Rattle.m2m_names.specs.declared.types.Ty.TheVariants.{CseBase, Container, Group}
use Rattle.m2m_value.specs.Data.{Data, number, text, list, object, Entry, elements_of, pairs_of}
use Rattle.m2m_value.specs.Shapes.{largest_count}
use Rattle.resource_model.specs.Attributes.{Row, value_of, with_value}
use Rattle.resource_model.specs.Home.{HomeData}
use Rattle.resource_model.specs.Resource.{ResourceData, is_ty, id_of}
use Rattle.tree_model.specs.Tree.{at, instances_of, sizes_of}

-- a count as a value, which ends at the largest that a value has
abbrev pub shown_count : ℕ → Data
shown_count n = number (pos (min n largest_count))

-- the number of a type as a value
abbrev pub shown_ty : Ty → Data
shown_ty ty = number (pos (ty_row ty).number)

-- the numbers of all types as a value
unfoldable pub shown_types : Data
shown_types = list (elements_of (map shown_ty all_types))

-- a moment as a value: its timestamp
unfoldable pub shown_moment : ℕ → Data
shown_moment moment = text (timestamp moment)

-- the resource identifier of the parent; of the CSEBase the empty text
abbrev pub parent_id : List ResourceData → ResourceData → List ℕ
parent_id nodes r =
    if is_ty r.ty CseBase then [] else option_map_or id_of (at r.parent nodes) []

-- what every resource shows
abbrev pub common_rows : List ResourceData → ResourceData → List Row
common_rows nodes r =
    (Ct, shown_moment r.ct) ∷ (Lt, shown_moment r.lt) ∷ (Pi, text (parent_id nodes r))
    ∷ (Ri, text (id_of r)) ∷ (Rn, text r.name) ∷ (TyAttr, shown_ty r.ty) ∷ []

-- the own CSE-ID (TS-0001, 7.2)
abbrev pub own_cse_id : HomeData → List ℕ
own_cse_id home = codes "/" ++ home.csi

-- what the CSEBase shows besides
abbrev pub base_rows : HomeData → List Row
base_rows home =
    (Csi, text (own_cse_id home)) ∷ (Cst, number home.cst)
    ∷ (Srt, shown_types) ∷ []

-- what every other resource shows besides
abbrev pub expiry_rows : ResourceData → List Row
expiry_rows r = (Et, shown_moment r.et) ∷ []

-- what a container shows besides: the count of its instances, and the sum of their sizes
abbrev pub container_rows : List ResourceData → ResourceData → List Row
container_rows nodes r =
    (Cbs, shown_count (sizes_of r.number nodes))
    ∷ (Cni, shown_count (length (instances_of r.number nodes))) ∷ []

-- the attribute with this number, where it has no value
abbrev pub default_row : Attr → ℕ → List Row → List Row
default_row a n rows = option_map_or (λ _. []) (value_of a rows) ((a, number (pos n)) ∷ [])

-- what a group shows besides: members of another type are left out, and members are of any type
abbrev pub group_rows : ResourceData → List Row
group_rows r = default_row Csy 1 r.attrs ++ default_row Mt 0 r.attrs

-- what the entity adds to the attributes of a resource
abbrev pub added_rows : HomeData → List ResourceData → ResourceData → List Row
added_rows home nodes r =
    common_rows nodes r
    ++ (if is_ty r.ty CseBase then base_rows home else expiry_rows r)
    ++ (if is_ty r.ty Container then container_rows nodes r else [])
    ++ (if is_ty r.ty Group then group_rows r else [])

-- each of these attributes has its value
abbrev pub with_rows : List Row → List Row → List Row
with_rows [] rows = rows
with_rows (row ∷ more) rows = with_rows more (with_value row.0 row.1 rows)

-- the attributes that are shown, in order
abbrev pub shown_rows : HomeData → List ResourceData → ResourceData → List Row
shown_rows home nodes r = with_rows (added_rows home nodes r) r.attrs

-- the members of an object that has these attributes
abbrev pub members_of : List Row → List Entry
members_of rows = map (λ row. (attr_short row.0, row.1)) rows

-- a member, named by the type, that has the object of these (TS-0004, 8.4)
abbrev pub typed_member : Ty → List Entry → Entry
typed_member ty members = (ty_member ty, object (pairs_of members))

-- that member alone
abbrev pub under_type : Ty → List Entry → Data
under_type ty members = object (pairs_of (typed_member ty members ∷ []))

-- An object whose one member is named by the type and has the members of all these attributes.
abbrev pub wrapped : Ty → List Row → Data
wrapped ty rows = under_type ty (members_of rows)

-- The attributes of a resource as they are shown, under the name of its type (TS-0004, 7.4 and
-- 8.4).
abbrev pub attributes_of : HomeData → List ResourceData → ResourceData → Data
attributes_of home nodes r = wrapped r.ty (shown_rows home nodes r)
