-- What is announced of a resource: the type of its announced resources, the attributes that these
-- have, and what a Create and an Update of one carry (TS-0001, 9.6.26 and 10.2.18).
use Rattle.std.specs.Prelude.{ℕ, pos, Bool, false, ◌&&◌, ◌||◌, List, [], ◌∷◌, ◌++◌, map, filter}
use Rattle.std.specs.Prelude.{find, codes, Option, Some, None, option_map, unwrap_or}
use Rattle.std.specs.Prelude.{if◌then◌else◌}
use Rattle.std.specs.List.{filter_map, list_any}
use Rattle.std.specs.Option.{option_or, option_map_or}
use Rattle.std.specs.Str.{bytes_eq}
use Rattle.m2m_names.specs.Attributes.{attr_short}
use Rattle.m2m_names.specs.Ids.{id_text}
use Rattle.m2m_names.specs.Types.{all_types, is_ty}
use Rattle.m2m_names.specs.declared.attributes.Attr.{Attr}
use Rattle.m2m_names.specs.declared.attributes.Attr.TheVariants.{Aa, Csy, Et, Lbl, Lnk, Pv, Pvs, Rn}
use Rattle.m2m_names.specs.declared.types.Ty.{Ty}
use Rattle.m2m_value.specs.Data.{Data, null, number, text}
use Rattle.m2m_value.specs.Shapes.{is_text_of}
use Rattle.policy_eval.specs.Rules.{is_attr_in, listed_in}
use Rattle.resource_model.specs.Attributes.{Row, is_attr, value_of}
use Rattle.resource_model.specs.Home.{HomeData}
use Rattle.resource_model.specs.Resource.{ResourceData}
use Rattle.attribute_rules.specs.Table.{AttrRow, attr_rows, is_type_among, original_of}
use Rattle.subscription_match.specs.Notices.{reference_of}
use Rattle.tree_model.specs.Shown.{shown_moment, with_rows, wrapped}

-- ---- types and attributes

-- the type of the announced resources of a type's resources, where these can be announced
abbrev pub announced_type : Ty → Option Ty
announced_type ty = find (λ a. option_map_or (is_ty ty) (original_of a) false) all_types

-- the type by which a resource is announced: its own where it can't be
abbrev pub copy_type : Ty → Ty
copy_type ty = unwrap_or (announced_type ty) ty

-- the attributes of a type that can be announced, in the order of the table
abbrev pub announceable_attrs : Ty → List Attr
announceable_attrs ty =
    map (λ (row : AttrRow). row.attr)
    (filter (λ (row : AttrRow). row.rule.announced && is_type_among ty row.types) attr_rows)

-- a resource names the attribute in `aa` (announcedAttribute), whether it can be announced or not
abbrev pub lists_attr : ResourceData → Attr → Bool
lists_attr r attr =
    list_any (is_text_of (bytes_eq (attr_short attr))) (listed_in (value_of Aa r.attrs))

-- the attributes that are announced though `aa` doesn't name them: the rules of a policy
abbrev pub always_announced : List Attr
always_announced = Pv ∷ Pvs ∷ []

-- the attribute is announced, where it can be
abbrev pub is_announced : ResourceData → Attr → Bool
is_announced r attr = is_attr_in always_announced attr || lists_attr r attr

-- the value that is announced where a resource has none: a group leaves members of another type out
-- (TS-0004, 6.3.4.2.10)
abbrev pub default_value : Attr → Option Data
default_value attr = if is_attr attr Csy then Some (number (pos 1)) else None

-- the value of an attribute as it is announced
abbrev pub announced_value : ResourceData → Attr → Option Data
announced_value r attr =
    if is_announced r attr then option_or (value_of attr r.attrs) (default_value attr) else None

-- the attributes whose change is announced in any case: the policies' rules, the time of expiry,
-- the labels, and which attributes are announced
abbrev pub always_followed : List Attr
always_followed = Aa ∷ Et ∷ Lbl ∷ Pv ∷ Pvs ∷ []

-- a change of the attribute is announced
abbrev pub is_followed : ResourceData → Attr → Bool
is_followed r attr = is_attr_in always_followed attr || lists_attr r attr

-- An Update that named these attributes and left the resource so is announced.
abbrev pub does_renew : List Attr → ResourceData → Bool
does_renew named r = list_any (is_followed r) named

-- ---- contents

-- the name of the copy of a resource of this type and number: its resource id, and `A`
abbrev pub copy_name : Ty → ℕ → List ℕ
copy_name ty n = id_text ty n ++ codes "A"

-- the value, and null where there is none
abbrev pub or_null : Option Data → Data
or_null d = unwrap_or d null

-- an attribute with its value, where it is announced and has one
abbrev pub announced_row : ResourceData → Attr → Option Row
announced_row r attr = option_map (λ d. (attr, d)) (announced_value r attr)

-- an attribute that can be announced, with its value, or null
abbrev pub renewed_row : ResourceData → Attr → Row
renewed_row r attr = (attr, or_null (announced_value r attr))

-- the labels, where there are some
abbrev pub label_rows : ResourceData → List Row
label_rows r = option_map_or (λ d. (Lbl, d) ∷ []) (value_of Lbl r.attrs) []

-- the name of the copy, and the original: the CSE-ID, `/`, and its resource id
abbrev pub name_rows : HomeData → ResourceData → List Row
name_rows home r =
    (Lnk, text (reference_of home r)) ∷ (Rn, text (copy_name r.ty r.number)) ∷ []

-- what the Create of a copy gives it: its name, the original, the time of expiry, the labels, and
-- what is announced
abbrev pub created_rows : HomeData → ResourceData → List Row
created_rows home r =
    with_rows
    ((Et, shown_moment r.et) ∷ label_rows r ++ name_rows home r
    ++ filter_map (announced_row r) (announceable_attrs r.ty))
    []

-- what an Update gives it: the time of expiry, and the labels and each attribute that can be
-- announced, or null
abbrev pub renewed_rows : ResourceData → List Row
renewed_rows r =
    with_rows
    ((Et, shown_moment r.et) ∷ (Lbl, or_null (value_of Lbl r.attrs))
    ∷ map (renewed_row r) (announceable_attrs r.ty))
    []

-- the content of the Create
abbrev pub copy_of : HomeData → ResourceData → Data
copy_of home r = wrapped (copy_type r.ty) (created_rows home r)

-- the content of the Update
abbrev pub renewal_of : ResourceData → Data
renewal_of r = wrapped (copy_type r.ty) (renewed_rows r)
