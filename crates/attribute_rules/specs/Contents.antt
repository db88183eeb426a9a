-- What a creation wants, and what an update changes.
use Rattle.std.specs.Prelude.{ℕ, ◌==◌, Bool, true, false, ◌&&◌, ◌||◌, List, [], ◌∷◌, length}
use Rattle.std.specs.Prelude.{bytes_eq, Option, Some, None, option_and_then, if◌then◌else◌}
use Rattle.std.specs.List.{filter_map}
use Rattle.std.specs.Option.{option_or, option_map_or}
use Rattle.m2m_names.specs.Attributes.{attr_short, attr_of_short}
use Rattle.m2m_names.specs.StampReading.{moment_at}
use Rattle.m2m_names.specs.declared.attributes.Attr.{Attr}
use Rattle.m2m_names.specs.declared.attributes.Attr.TheVariants.{Acpi, Cr, Et, Macp, Rn}
use Rattle.m2m_names.specs.declared.types.Ty.{Ty}
use Rattle.m2m_value.specs.Data.{Data, Entry}
use Rattle.m2m_value.specs.View.{as_list, as_text, member_of}
use Rattle.resource_model.specs.Attributes.{Row, is_attr, with_value, without_value}
use Rattle.attribute_rules.specs.Admission.{is_named, is_null, named_members}
use Rattle.attribute_rules.specs.declared.contents.Edit.{Edit}
use Rattle.attribute_rules.specs.declared.contents.Wanted.{Wanted}

-- an empty list of policies, which is kept as none
abbrev pub is_empty_list : Data → Bool
is_empty_list d = option_map_or (λ (ds : List Data). length ds == 0) (as_list d) false

-- the attribute names policies: those by which the resource is judged, or a fan-out to it
abbrev pub names_policies : Attr → Bool
names_policies Acpi = true
names_policies Macp = true
names_policies _ = false

-- the value names none
abbrev pub is_no_policy : Attr → Data → Bool
is_no_policy attr d = names_policies attr && is_empty_list d

-- what a creation says beside its attributes: the name, the moment of expiry, and that the
-- originator is to be kept
abbrev pub is_apart : Attr → Bool
is_apart Cr = true
is_apart Et = true
is_apart Rn = true
is_apart _ = false

-- the attribute and the value that a member of a creation gives the resource
abbrev pub kept_row : Entry → Option Row
kept_row e =
    option_and_then
    (λ attr. if is_apart attr || is_no_policy attr e.1 then None else Some (attr, e.1))
    (attr_of_short e.0)

-- the text at an attribute
abbrev pub named_text : Attr → List Entry → Option (List ℕ)
named_text attr es = option_and_then as_text (member_of (attr_short attr) es)

-- what a creation wants that names these attributes
abbrev pub wanted_in : List Entry → Wanted
wanted_in es = record {
  name = named_text Rn es;
  et = option_and_then moment_at (named_text Et es);
  attrs = filter_map kept_row es;
  creator = is_named Cr es;
}

-- What a content wants of a creation (TS-0001, 10.2.2).
abbrev pub wanted_of : Ty → Data → Wanted
wanted_of ty content = wanted_in (named_members ty content)

-- an update clears the attribute
abbrev pub does_clear : Attr → Data → Bool
does_clear attr d = is_null d || is_no_policy attr d

-- The attribute that an update sets by this member, with its new value.
abbrev pub set_row : Entry → Option Row
set_row e =
    option_and_then (λ attr. if does_clear attr e.1 then None else Some (attr, e.1))
    (attr_of_short e.0)

-- The attribute that an update takes away by this member.
abbrev pub cleared_attr : Entry → Option Attr
cleared_attr e =
    option_and_then (λ attr. if does_clear attr e.1 then Some attr else None)
    (attr_of_short e.0)

-- what an update changes that names these attributes
abbrev pub edit_in : List Entry → Edit
edit_in es = record { sets = filter_map set_row es; clears = filter_map cleared_attr es }

-- What a content changes by an update (TS-0001, 10.2.4).
abbrev pub edit_of : Ty → Data → Edit
edit_of ty content = edit_in (named_members ty content)

-- the rows after an update: `et` is kept beside them
abbrev pub set_all : List Row → List Row → List Row
set_all [] rows = rows
set_all (s ∷ sets) rows = set_all sets (if is_attr s.0 Et then rows else with_value s.0 s.1 rows)

-- The rows without these attributes.
abbrev pub clear_all : List Attr → List Row → List Row
clear_all [] rows = rows
clear_all (attr ∷ attrs) rows = clear_all attrs (without_value attr rows)

-- The rows after an update: what it sets is set, and what it takes away is gone (TS-0004, 7.4).
abbrev pub edited : Edit → List Row → List Row
edited edit rows = clear_all edit.clears (set_all edit.sets rows)

-- ---- what becomes of one attribute

-- the value that a creation gives it: the one that is named, but for what is said beside the
-- attributes, and for no policy
abbrev pub value_created : Attr → List Entry → Option Data
value_created attr es =
    option_and_then (λ d. if is_apart attr || is_no_policy attr d then None else Some d)
    (member_of (attr_short attr) es)

-- the value that it has after an update: the one that is named, none where it is cleared, else the
-- one that it had
abbrev pub value_updated : Attr → List Entry → Option Data → Option Data
value_updated attr es old =
    option_map_or (λ d. if does_clear attr d then None else Some d)
    (member_of (attr_short attr) es) old
