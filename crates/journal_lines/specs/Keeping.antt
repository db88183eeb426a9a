-- Which requests can be kept: those that are read back from what is written of them.
use Rattle.std.specs.Prelude.{◌^◌, nat_le, nat_lt, Bool, true, ◌&&◌, is_none}
use Rattle.std.specs.Option.{option_map_or}
use Rattle.m2m_names.specs.Name.{is_filled, is_originator}
use Rattle.m2m_names.specs.Stamps.{last_moment}
use Rattle.m2m_value.specs.Data.{depth}
use Rattle.m2m_value.specs.Reading.{reading_depth}
use Rattle.primitive_json.specs.Form.{has_form, has_no_more}
use Rattle.primitive_json.specs.Kinds.{numeral_limit, target_limit}
use Rattle.primitive_json.specs.Writing.{written_request}
use Rattle.primitive_json.specs.declared.request.RequestParts.{RequestParts}
use Rattle.primitive_json.specs.declared.request.When.{When}
use Rattle.primitive_json.specs.declared.request.When.TheVariants.{At, Millis}

-- its time of expiry is that of a timestamp, or has at most 18 digits
abbrev pub is_short_when : When → Bool
is_short_when (At at) = nat_le at last_moment
is_short_when (Millis n) = nat_lt n (10 ^ numeral_limit)

-- Its parameters are of their kinds, and none is there that its operation doesn't read. It has no
-- filter, which only a Retrieve has.
abbrev pub is_of_kinds : RequestParts → Bool
is_of_kinds r =
    has_form r && has_no_more r && is_filled target_limit r.to
    && option_map_or is_originator r.fr true && option_map_or is_short_when r.rqet true
    && is_none r.fc

-- What is written of it is no deeper than a text is read.
abbrev pub is_shallow : RequestParts → Bool
is_shallow r = nat_le (depth (written_request r)) reading_depth

-- The request can be kept.
abbrev pub can_be_kept : RequestParts → Bool
can_be_kept r = is_of_kinds r && is_shallow r
