-- The requests of the made input, and when each is asked (the profile's).
use Rattle.std.specs.Prelude.{◌≡◌, ℕ, ◌+◌, ◌%◌, ◌==◌, ℤ, pos, true, List, [], ◌∷◌, ◌++◌, map}
use Rattle.std.specs.Prelude.{codes}
use Rattle.std.specs.Prelude.{Option, Some, None, if◌then◌else◌}
use Rattle.std.specs.Fmt.{decimal}
use Rattle.std.specs.List.{range_with_len}
use Rattle.m2m_names.specs.Ids.{id_text}
use Rattle.m2m_names.specs.Types.{ty_member, ty_row}
use Rattle.m2m_names.specs.declared.operations.Op.{Op}
use Rattle.m2m_names.specs.declared.operations.Op.TheVariants.{Create, Retrieve}
use Rattle.m2m_names.specs.declared.types.Ty.{Ty}
use Rattle.m2m_names.specs.declared.types.Ty.TheVariants.{Ae, Container, ContentInstance}
use Rattle.m2m_names.specs.declared.types.Ty.TheVariants.{Group, Subscription}
use Rattle.m2m_value.specs.Data.{Data, Entry, boolean, elements_of, list, number, object, pairs_of}
use Rattle.m2m_value.specs.Data.{text}
use Rattle.primitive_json.specs.declared.request.RequestParts.{RequestParts}
use Rattle.resource_model.specs.Home.{default_home}
use Rattle.cse_machine.specs.declared.event.Event.{Event}
use Rattle.cse_machine.specs.declared.event.Event.TheVariants.{Ask, Take, Tick}
use Rattle.made_input.specs.declared.requests.Maker.{Maker}

-- ---- one request

-- who asks
abbrev pub maker : List ℕ
maker = codes "CGen"

-- the identifier that each request has
abbrev pub request_id : List ℕ
request_id = codes "q"

-- these are the texts that every request has
abbrev pub IsMaker : Maker → Type 0
IsMaker texts = (texts.fr ≡ maker) × (texts.rqi ≡ request_id)

-- the request has them
abbrev pub IsMade : RequestParts → Type 0
IsMade request = (request.fr ≡ Some maker) × (request.rqi ≡ request_id)

-- the event is a request that has them
abbrev pub IsMadeEvent : Event → Type 0
IsMadeEvent (Ask request) = IsMade request
IsMadeEvent Take = Unit {0}
IsMadeEvent Tick = Unit {0}

-- A request of the maker: its operation and target, the number of the type that it creates, its
-- content, and the result content that it wants.
abbrev pub asked : Op → List ℕ → Option ℕ → Option Data → Option ℤ → RequestParts
asked op to ty pc rcn = record {
  op = op;
  to = to;
  fr = Some maker;
  rqi = request_id;
  ty = ty;
  pc = pc;
  rqet = None;
  rt = None;
  rcn = rcn;
  fc = None;
  drt = None;
}

-- An object with these members.
abbrev pub object_with : List Entry → Data
object_with members = object (pairs_of members)

-- A list of these values.
abbrev pub list_with : List Data → Data
list_with values = list (elements_of values)

-- the content that creates a resource of a type with these attributes (TS-0004, 8.4)
abbrev pub content_of : Ty → Data → Data
content_of ty attributes = object_with ((ty_member ty, attributes) ∷ [])

-- the Create of a resource of a type with these attributes, which is answered without content
abbrev pub creation : List ℕ → Ty → Data → RequestParts
creation to ty attributes =
    asked Create to (Some (ty_row ty).number) (Some (content_of ty attributes)) (Some (pos 0))

-- the Retrieve of what stands at an address
abbrev pub retrieval : List ℕ → RequestParts
retrieval to = asked Retrieve to None None None

-- ---- those that come first

abbrev pub ae_attributes : Data
ae_attributes = object_with (
    (codes "api", text (codes "N1"))
    ∷ (codes "rn", text (codes "gen"))
    ∷ (codes "rr", boolean true) ∷ [])

-- the AE, which becomes `ae3`
abbrev pub registration : RequestParts
registration = creation default_home.base Ae ae_attributes

abbrev pub container_attributes : List ℕ → Data
container_attributes name = object_with (
    (codes "mni", number (pos 10))
    ∷ (codes "rn", text name) ∷ [])

-- a container of this name under the AE; they become `cnt4` to `cnt7`
abbrev pub container : List ℕ → RequestParts
container name = creation (codes "ae3") Container (container_attributes name)

-- the events of which the subscription is told: a child is created, or one is deleted
abbrev pub criteria : Data
criteria = object_with ((codes "net", list_with (number (pos 3) ∷ number (pos 4) ∷ [])) ∷ [])

-- where it is told of them
abbrev pub listeners : Data
listeners = list_with (text (codes "http://127.0.0.1:9000/n") ∷ [])

abbrev pub subscription_attributes : Data
subscription_attributes = object_with (
    (codes "enc", criteria)
    ∷ (codes "nct", number (pos 3))
    ∷ (codes "nu", listeners) ∷ [])

-- a subscription to the first container, which becomes `sub8`
abbrev pub subscription : RequestParts
subscription = creation (codes "cnt4") Subscription subscription_attributes

-- the members of the group: the four containers
abbrev pub members_listed : Data
members_listed = list_with (
    text (codes "cnt4") ∷ text (codes "cnt5") ∷ text (codes "cnt6") ∷ text (codes "cnt7") ∷ [])

abbrev pub group_attributes : Data
group_attributes = object_with (
    (codes "mid", members_listed)
    ∷ (codes "mnm", number (pos 4)) ∷ [])

-- a group of the four containers, which becomes `grp9`
abbrev pub group : RequestParts
group = creation (codes "ae3") Group group_attributes

-- All that come first, in order.
abbrev pub first_requests : List RequestParts
first_requests =
    registration
    ∷ container (codes "k0") ∷ container (codes "k1")
    ∷ container (codes "k2") ∷ container (codes "k3")
    ∷ subscription ∷ group ∷ []

-- Each is asked at the reading 0.
abbrev pub first_input : RequestParts → ℕ × Event
first_input request = (0, Ask request)

abbrev pub first_inputs : List (ℕ × Event)
first_inputs = map first_input first_requests

-- ---- those that are counted

-- the number of the container with which the request of a number works: they take turns
abbrev pub container_number : ℕ → ℕ
container_number i = 4 + i % 4

-- the address of the container of a number
abbrev pub address_of : ℕ → List ℕ
address_of n = id_text Container n

-- the address of that container
abbrev pub container_id : ℕ → List ℕ
container_id i = address_of (container_number i)

-- the address of the newest instance of the container of a number
abbrev pub newest_of : ℕ → List ℕ
newest_of n = address_of n ++ codes "/la"

-- the address of the newest one of the container that the request of a number works with
abbrev pub newest : ℕ → List ℕ
newest i = newest_of (container_number i)

-- the fan-out point of the group
abbrev pub fan_point : List ℕ
fan_point = codes "grp9/fopt"

-- the content of the instance of a number is the number in decimal
abbrev pub instance_attributes : ℕ → Data
instance_attributes i = object_with ((codes "con", text (decimal i)) ∷ [])

-- the Create of the instance of a number at an address
abbrev pub instance_at : List ℕ → ℕ → RequestParts
instance_at to i = creation to ContentInstance (instance_attributes i)

-- The request of a number, from 0. Of five in a row three create an instance in a container, the
-- fourth retrieves the newest one, and the fifth creates one in each container.
abbrev pub made_request : ℕ → RequestParts
made_request i =
    if i % 5 == 4 then instance_at fan_point i
    else if i % 5 == 3 then retrieval (newest i)
    else instance_at (container_id i) i

-- It is asked at the reading that is its number.
abbrev pub made_input : ℕ → ℕ × Event
made_input i = (i, Ask (made_request i))

-- So many that are counted, in order.
abbrev pub made_inputs : ℕ → List (ℕ × Event)
made_inputs n = map made_input (range_with_len 0 n)
