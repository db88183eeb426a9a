-- The kinds of attribute values.
use Rattle.std.specs.Prelude.{ℕ, ◌==◌, nat_lt, Bool, true, false, ◌&&◌, ◌||◌, List, [], ◌∷◌}
use Rattle.std.specs.Prelude.{length, codes, is_some}
use Rattle.std.specs.Int.{is_in_range}
use Rattle.std.specs.List.{list_all}
use Rattle.std.specs.Option.{option_map_or}
use Rattle.m2m_names.specs.Ids.{count_bound}
use Rattle.m2m_names.specs.Members.{acr_name, acor_name, acop_name}
use Rattle.m2m_names.specs.Name.{is_free_name, is_name, is_originator, is_printable}
use Rattle.m2m_names.specs.Operations.{all_bits}
use Rattle.m2m_names.specs.StampReading.{moment_at}
use Rattle.m2m_names.specs.Types.{ty_of_number}
use Rattle.m2m_names.specs.Urls.{point_limit}
use Rattle.m2m_value.specs.Data.{Data, null, boolean, number, text, list, object, Entry}
use Rattle.m2m_value.specs.Shapes.{is_text_of, is_list_of, is_some_of, is_count_of, is_object_of}
use Rattle.m2m_value.specs.Shapes.{are_keys_among, has_member, may_have_member, is_label}
use Rattle.m2m_value.specs.View.{as_boolean, as_list, as_text}
use Rattle.attribute_kinds.specs.declared.kinds.Kind.{Kind}
use Rattle.attribute_kinds.specs.declared.kinds.Kind.TheVariants.{Name, Stamp, Text, Label, Labels}
use Rattle.attribute_kinds.specs.declared.kinds.Kind.TheVariants.{Bool as Truth, Count, OneOf}
use Rattle.attribute_kinds.specs.declared.kinds.Kind.TheVariants.{CseId, CseIds, Originator}
use Rattle.attribute_kinds.specs.declared.kinds.Kind.TheVariants.{Policies, Points, Target, Rules}
use Rattle.attribute_kinds.specs.declared.kinds.Kind.TheVariants.{Criteria, MemberType, Content}

-- the text of a timestamp (TS-0004, 6.3.3)
abbrev pub is_stamp_text : List ℕ → Bool
is_stamp_text s = is_some (moment_at s)

-- the text of a CSE-ID: `/` and a name (TS-0001, 7.2)
abbrev pub is_cse_id : List ℕ → Bool
is_cse_id [] = false
is_cse_id (b ∷ name) = (b == 47) && is_name name

-- the text of an address or of a URL: 1 to 512 printable ASCII characters without a space
abbrev pub is_point : List ℕ → Bool
is_point s = is_printable point_limit s

-- a list of exactly one text of an address or of a URL
abbrev pub is_notification_target : List Data → Bool
is_notification_target ds = (length ds == 1) && list_all (is_text_of is_point) ds

-- an access control rule: exactly `acor`, a list, not empty, of originators, and `acop`, a sum of
-- the six bits (TS-0001, 9.6.2.1)
abbrev pub is_rule : List Entry → Bool
is_rule es =
    are_keys_among (acor_name ∷ acop_name ∷ []) es
    && has_member acor_name (is_some_of (is_text_of is_originator)) es
    && has_member acop_name (is_count_of (is_in_range 0 all_bits)) es

-- access control rules: exactly `acr`, a list of them (TS-0001, 9.6.2)
abbrev pub is_rules : List Entry → Bool
is_rules es =
    are_keys_among (acr_name ∷ []) es
    && has_member acr_name (is_list_of (is_object_of is_rule)) es

-- a kind of event, 1 to 4 (TS-0001, 9.6.8)
abbrev pub is_event_kind : ℕ → Bool
is_event_kind n = is_in_range 1 4 n

-- criteria of notification: at most `net`, a list, not empty, of kinds of event, and `atr`, a list
-- of labels (TS-0001, 9.6.8)
abbrev pub is_criteria : List Entry → Bool
is_criteria es =
    are_keys_among (codes "net" ∷ codes "atr" ∷ []) es
    && may_have_member (codes "net") (is_some_of (is_count_of is_event_kind)) es
    && may_have_member (codes "atr") (is_list_of is_label) es

-- the type of a group's members: 0 for any, which is the profile's, or the number of a type
-- (TS-0001, 9.6.13)
abbrev pub is_member_type : ℕ → Bool
is_member_type n = (n == 0) || is_some (ty_of_number n)

-- a value that is something
abbrev pub is_content : Data → Bool
is_content null = false
is_content (boolean b) = true
is_content (number z) = true
is_content (text s) = true
is_content (list es) = true
is_content (object ps) = true

-- the value is of the kind
abbrev pub has_kind : Kind → Data → Bool
has_kind Name d = is_text_of is_free_name d
has_kind Stamp d = is_text_of is_stamp_text d
has_kind Text d = is_some (as_text d)
has_kind Label d = is_label d
has_kind Labels d = is_list_of is_label d
has_kind Truth d = is_some (as_boolean d)
has_kind Count d = is_count_of (λ n. nat_lt n count_bound) d
has_kind (OneOf from to) d = is_count_of (is_in_range from to) d
has_kind CseId d = is_text_of is_cse_id d
has_kind CseIds d = is_list_of (is_text_of is_cse_id) d
has_kind Originator d = is_text_of is_originator d
has_kind Policies d = is_list_of (λ e. is_some (as_text e)) d
has_kind Points d = is_list_of (is_text_of is_point) d
has_kind Target d = option_map_or is_notification_target (as_list d) false
has_kind Rules d = is_object_of is_rules d
has_kind Criteria d = is_object_of is_criteria d
has_kind MemberType d = is_count_of is_member_type d
has_kind Content d = is_content d
