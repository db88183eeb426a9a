-- What stands at another CSE where the operations on copies that go there are carried out, one
-- after another, from nothing (TS-0001, 9.6.26 and 10.2.18).
use Rattle.std.specs.Prelude.{ℕ, nat_eq, Bool, ◌||◌, List, [], ◌∷◌, ◌++◌, codes, filter}
use Rattle.std.specs.Prelude.{Option, Some, None, option_map, option_and_then, unwrap_or}
use Rattle.std.specs.Prelude.{if◌then◌else◌}
use Rattle.std.specs.List.{starts_with}
use Rattle.std.specs.Option.{option_map_or}
use Rattle.std.specs.Str.{bytes_eq}
use Rattle.m2m_names.specs.Attributes.{attr_short}
use Rattle.m2m_names.specs.declared.attributes.Attr.{Attr}
use Rattle.m2m_names.specs.declared.attributes.Attr.TheVariants.{Rn}
use Rattle.m2m_names.specs.declared.operations.Op.{Op}
use Rattle.m2m_names.specs.declared.operations.Op.TheVariants.{Create, Retrieve, Update, Delete}
use Rattle.m2m_names.specs.declared.operations.Op.TheVariants.{Notify}
use Rattle.m2m_value.specs.Data.{Data, Entry}
use Rattle.m2m_value.specs.View.{as_object, member_of, only_member, text_or_empty}
use Rattle.attribute_kinds.specs.Kinds.{is_content}
use Rattle.subscription_match.specs.Destinations.{leading_cse_id}
use Rattle.announce_copy.specs.Copies.{CopyDraft}

-- ---- what a content says

-- the attributes in a content: the members of the object that is its only member (TS-0004, 8.4)
abbrev pub members_in : Data → List Entry
members_in content =
    option_map_or (λ (e : Entry). unwrap_or (as_object e.1) [])
    (option_and_then only_member (as_object content)) []

-- what a content says of an attribute, if there is one and it says something
abbrev pub said_of : Attr → Option Data → Option Data
said_of attr content =
    option_and_then (λ d. member_of (attr_short attr) (members_in d)) content

-- a value; null stands for none
abbrev pub unless_null : Data → Option Data
unless_null d = if is_content d then Some d else None

-- the value that a content gives an attribute of something new
abbrev pub value_given : Attr → Option Data → Option Data
value_given attr content = option_and_then unless_null (said_of attr content)

-- the value that an attribute has after a content: what it says of it, or else what it had
abbrev pub value_left : Attr → Option Data → Option Data → Option Data
value_left attr content old = option_map_or unless_null (said_of attr content) old

-- ---- entries

-- What is kept of an attribute at an address: nothing where no entry stands there, and else its
-- value, if it has one.
abbrev pub Kept : Type 0
Kept = Option (Option Data)

-- the address of what a Create of this content makes under its target: its name is in the content
abbrev pub new_address : List ℕ → Option Data → List ℕ
new_address target content =
    target ++ codes "/" ++ text_or_empty (value_given Rn content)

-- The address is this one, or one below it.
abbrev pub is_within : List ℕ → List ℕ → Bool
is_within top address =
    bytes_eq address top || starts_with nat_eq address (top ++ codes "/")

-- an entry is added where none stands
abbrev pub with_entry : Attr → Option Data → Kept → Kept
with_entry attr content kept = Some (unwrap_or kept (value_given attr content))

-- what an operation leaves at an address: a Create adds an entry where none stands, an Update sets
-- what it names, and a Delete removes the entry and what stands below
abbrev pub effect_by : Op → List ℕ → Option Data → List ℕ → Attr → Kept → Kept
effect_by Create target content address attr kept =
    if bytes_eq address (new_address target content)
    then with_entry attr content kept else kept
effect_by Retrieve target content address attr kept = kept
effect_by Update target content address attr kept =
    if bytes_eq address target then option_map (value_left attr content) kept else kept
effect_by Delete target content address attr kept =
    if is_within target address then None else kept
effect_by Notify target content address attr kept = kept

-- what an operation leaves at an address of what is kept there
abbrev pub effect : CopyDraft → List ℕ → Attr → Kept → Kept
effect draft address attr kept = effect_by draft.0 draft.1 draft.3 address attr kept

-- what several leave, one after another
abbrev pub effects : List CopyDraft → List ℕ → Attr → Kept → Kept
effects [] address attr kept = kept
effects (draft ∷ drafts) address attr kept =
    effects drafts address attr (effect draft address attr kept)

-- ---- at one CSE

-- The operation goes to the CSE of this CSE-ID.
abbrev pub goes_to : List ℕ → CopyDraft → Bool
goes_to peer draft = bytes_eq (leading_cse_id draft.1) peer

-- those that go there
abbrev pub those_to : List ℕ → List CopyDraft → List CopyDraft
those_to peer drafts = filter (goes_to peer) drafts

-- What is kept at the CSE of this CSE-ID once all operations that go there are carried out in their
-- order, by address and attribute.
abbrev pub replica : List ℕ → List CopyDraft → List ℕ → Attr → Kept
replica peer drafts address attr = effects (those_to peer drafts) address attr None
