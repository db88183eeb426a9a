-- The right that a request needs on its target (TS-0001, 9.6.2; TS-0004, 7.3.3.15).
use Rattle.std.specs.Prelude.{ℕ, ◌+◌, ◌==◌, Bool, true, false, bytes_eq, List}
use Rattle.std.specs.Prelude.{Option, option_and_then, if◌then◌else◌}
use Rattle.std.specs.Option.{option_map_or}
use Rattle.m2m_names.specs.Attributes.{attr_short}
use Rattle.m2m_names.specs.Types.{ty_row}
use Rattle.m2m_names.specs.declared.attributes.Attr.TheVariants.{Acpi}
use Rattle.m2m_names.specs.declared.operations.Op.{Op}
use Rattle.m2m_names.specs.declared.operations.Op.TheVariants.{Create, Retrieve, Update, Delete}
use Rattle.m2m_names.specs.declared.operations.Op.TheVariants.{Notify}
use Rattle.m2m_names.specs.declared.types.Ty.TheVariants.{Subscription}
use Rattle.m2m_value.specs.Data.{Data, Entry}
use Rattle.m2m_value.specs.View.{as_object, only_member}
use Rattle.filter_criteria.specs.declared.filter.FilterUsage.{FilterUsage}
use Rattle.filter_criteria.specs.declared.filter.FilterUsage.TheVariants.{Discovery, Conditional}
use Rattle.primitive_json.specs.declared.request.RequestParts.{RequestParts}
use Rattle.policy_eval.specs.Rights.{create_bit, retrieve_bit, update_bit, delete_bit, notify_bit}
use Rattle.policy_eval.specs.Rights.{grants, relinks}
use Rattle.entity_model.specs.Entity.{EntityData}
use Rattle.entity_model.specs.Places.{reading_bit}

-- the originator has these bits on the resource of the number
abbrev pub is_granted : EntityData → List ℕ → ℕ → ℕ → Bool
is_granted e originator bits n = grants e.home e.nodes originator bits n

-- ---- kinds of requests

-- The request creates a subscription.
abbrev pub is_subscribing : RequestParts → Bool
is_subscribing request = option_map_or (λ n. n == (ty_row Subscription).number) request.ty false

-- the filter is used to look for resources (TS-0001, 10.2.6)
abbrev pub is_search : FilterUsage → Bool
is_search Discovery = true
is_search Conditional = false

-- The request looks for resources: its filter says so by `fu` 1 (TS-0001, 10.2.6).
abbrev pub is_discovery : RequestParts → Bool
is_discovery request =
    option_map_or is_search (option_and_then (λ f. f.fu) request.fc) false

-- the only member of an object
abbrev pub sole : Data → Option Entry
sole d = option_and_then only_member (as_object d)

-- the object has the member `acpi`, and no other
abbrev pub is_link : Data → Bool
is_link d = option_map_or (λ e. bytes_eq e.0 (attr_short Acpi)) (sole d) false

-- The request is of `acpi` alone: its content is one member that holds it, and nothing else.
abbrev pub is_relink : RequestParts → Bool
is_relink request =
    option_map_or (λ e. is_link e.1) (option_and_then sole request.pc) false

-- ---- rights

-- the bits that an operation needs on its target; a Create needs them on the parent, and of a
-- subscription RETRIEVE besides
abbrev pub create_bits : RequestParts → ℕ
create_bits request =
    if is_subscribing request then create_bit + retrieve_bit else create_bit

-- The right that a Retrieve needs: DISCOVERY where it looks for resources, else RETRIEVE.
abbrev pub retrieve_bits : RequestParts → ℕ
retrieve_bits request = reading_bit (is_discovery request)

-- a change of `acpi` alone is judged by who may change it, every other Update by UPDATE
abbrev pub may_update : EntityData → List ℕ → RequestParts → ℕ → Bool
may_update e originator request n =
    if is_relink request then relinks e.home e.nodes originator n
    else is_granted e originator update_bit n

-- the originator has the right that the operation needs on the resource of the number
abbrev pub may_do : Op → EntityData → List ℕ → RequestParts → ℕ → Bool
may_do Create e originator request n = is_granted e originator (create_bits request) n
may_do Retrieve e originator request n = is_granted e originator (retrieve_bits request) n
may_do Update e originator request n = may_update e originator request n
may_do Delete e originator request n = is_granted e originator delete_bit n
may_do Notify e originator request n = is_granted e originator notify_bit n
