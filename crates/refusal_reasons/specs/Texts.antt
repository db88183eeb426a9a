-- What is told of faults and of causes, as texts.
use Rattle.std.specs.Prelude.{ℕ, Bool, List, [], ◌∷◌, ◌++◌, codes, map, Option, Some, None}
use Rattle.std.specs.Prelude.{if◌then◌else◌}
use Rattle.std.specs.Option.{option_map_or}
use Rattle.m2m_names.specs.Attributes.{attr_short}
use Rattle.m2m_names.specs.Name.{is_printable}
use Rattle.m2m_names.specs.declared.codes.Rsc.{Rsc}
use Rattle.m2m_value.specs.declared.fault.ValFault.{ValFault}
use Rattle.m2m_value.specs.declared.fault.ValFault.TheVariants as value
use Rattle.primitive_json.specs.declared.fault.PrimFault.{PrimFault}
use Rattle.primitive_json.specs.declared.fault.PrimFault.TheVariants as member
use Rattle.primitive_json.specs.declared.request.RequestParts.{RequestParts}
use Rattle.resource_model.specs.Home.{HomeData}
use Rattle.http_target.specs.declared.fault.BindFault.{BindFault}
use Rattle.http_target.specs.declared.fault.BindFault.TheVariants as bind
use Rattle.attribute_rules.specs.declared.faults.AttrFault.{AttrFault}
use Rattle.attribute_rules.specs.declared.faults.AttrFault.TheVariants as attr
use Rattle.refusal_reasons.specs.Causes.{causes, row_of}
use Rattle.refusal_reasons.specs.Facts.{content_fault}
use Rattle.refusal_reasons.specs.declared.cause.Cause.{Cause}
use Rattle.refusal_reasons.specs.declared.cause.Cause.TheVariants as cause

-- ---- names

-- the most bytes of a name that are told
abbrev pub shown_limit : ℕ
shown_limit = 64

-- what stands for a name that isn't told: it is longer, empty, or has other than printable ASCII
-- characters without a space
abbrev pub unshown : List ℕ
unshown = codes "(a name)"

-- a name as it is told, which is the client's own
abbrev pub shown : List ℕ → List ℕ
shown name = if is_printable shown_limit name then name else unshown

-- words, a name, and words
abbrev pub around : List ℕ → List ℕ → List ℕ → List ℕ
around front name back = front ++ (shown name ++ back)

-- words, and a name behind them
abbrev pub before : List ℕ → List ℕ → List ℕ
before front name = front ++ shown name

-- ---- what is no request

-- What is told of what is no JSON value (RFC 8259; that numbers are whole is the profile's).
abbrev pub words_of_value : ValFault → List ℕ
words_of_value value.NotJson = codes "no object of JSON, or one deeper than 127"
words_of_value value.TooWide = codes "a number from 2^63: send it as text"
words_of_value value.Fraction =
    codes "a fraction, an exponent, -0, or more than 64 bits: send the number as text"
words_of_value value.OutOfMemory = codes "no memory"

-- What is told of an object that is no request (TS-0004, 8.2.2).
abbrev pub reason_of_member : PrimFault → List ℕ
reason_of_member (member.Missing name) = before (codes "missing ") name
reason_of_member (member.Bad name) =
    around (codes "member ") name (codes " is unknown, or has a value of another kind")
reason_of_member member.OutOfMemory = codes "no memory"

-- What is told of a message of HTTP that is no request (TS-0009, 6).
abbrev pub reason_of_binding : BindFault → List ℕ
reason_of_binding bind.Method = codes "the method is none of GET, POST, PUT and DELETE"
reason_of_binding bind.Target = codes "the target is no path of an address"
reason_of_binding (bind.Header name) =
    around (codes "header ") name (codes " stands twice, or has a value of another kind")
reason_of_binding (bind.Missing name) = before (codes "missing ") name
reason_of_binding (bind.Query key) =
    around (codes "query ") key (codes " is unknown, stands twice, or has a value of another kind")
reason_of_binding (bind.Body fault) = codes "the body has " ++ words_of_value fault
reason_of_binding bind.OutOfMemory = codes "no memory"

-- ---- a content

-- What is told of a content that isn't admitted (TS-0004, 7.4).
abbrev pub reason_of_content : AttrFault → List ℕ
reason_of_content attr.Shape = codes "the content is no object with the one member of its type"
reason_of_content (attr.Unknown name) = before (codes "unknown attribute ") name
reason_of_content (attr.NotAllowed a) =
    around (codes "attribute ") (attr_short a) (codes " may not be named here")
reason_of_content (attr.Kind a) =
    around (codes "attribute ") (attr_short a) (codes " has a value of another kind")
reason_of_content (attr.Missing a) = before (codes "missing attribute ") (attr_short a)
reason_of_content attr.AcpiNotAlone = codes "acpi is updated alone"
reason_of_content attr.OutOfMemory = codes "no memory"

-- ---- a request

-- what is told of a cause, the content having this first fault
abbrev pub told_of : Option AttrFault → Cause → List ℕ
told_of fault cause.Content =
    option_map_or reason_of_content fault (row_of cause.Content).words
told_of fault c = (row_of c).words

-- a text behind others, if there are any: `, or ` stands between
abbrev pub with_other : List ℕ → List ℕ → List ℕ
with_other [] text = text
with_other (byte ∷ bytes) text = (byte ∷ bytes) ++ (codes ", or " ++ text)

-- what comes of texts behind one another
abbrev pub with_others : List ℕ → List (List ℕ) → List ℕ
with_others text [] = text
with_others text (other ∷ others) = with_others (with_other text other) others

-- texts of which one is true
abbrev pub alternatives : List (List ℕ) → List ℕ
alternatives texts = with_others [] texts

-- What is told of a request that is refused with this status; nothing where its causes aren't known.
abbrev pub reason_of : HomeData → RequestParts → Rsc → List ℕ
reason_of home request code =
    alternatives (map (told_of (content_fault request)) (causes home request code))
