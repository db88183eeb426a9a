-- Which subscriptions are told of which changes (TS-0001, 9.6.8 and 10.2.10).
use Rattle.std.specs.Prelude.{◌≡◌, ℕ, ◌+◌, nat_eq, Bool, true, false, not, ◌&&◌, ◌||◌, List}
use Rattle.std.specs.Prelude.{[], ◌∷◌, filter, length, codes}
use Rattle.std.specs.Prelude.{if◌then◌else◌, Option, Some, None, is_some, option_and_then}
use Rattle.std.specs.List.{list_any}
use Rattle.std.specs.Map.{lookup}
use Rattle.std.specs.Option.{option_map_or, option_or}
use Rattle.std.specs.Ordering.{is_eq, nat_cmp}
use Rattle.std.specs.Str.{bytes_eq}
use Rattle.m2m_names.specs.Attributes.{attr_short}
use Rattle.m2m_names.specs.declared.attributes.Attr.{Attr}
use Rattle.m2m_names.specs.declared.attributes.Attr.TheVariants.{Enc}
use Rattle.m2m_names.specs.declared.types.Ty.TheVariants.{Subscription}
use Rattle.m2m_value.specs.Data.{Data}
use Rattle.m2m_value.specs.Shapes.{is_count_of, is_text_of}
use Rattle.policy_eval.specs.Rules.{listed_in, member_at}
use Rattle.resource_model.specs.Attributes.{value_of}
use Rattle.resource_model.specs.Resource.{ResourceData}
use Rattle.subscription_match.specs.declared.events.EventKind.{EventKind}
use Rattle.subscription_match.specs.declared.events.EventKind.TheVariants.{UpdateOfResource}
use Rattle.subscription_match.specs.declared.events.EventKind.TheVariants.{DeleteOfResource}
use Rattle.subscription_match.specs.declared.events.EventKind.TheVariants.{CreateOfChild}
use Rattle.subscription_match.specs.declared.events.EventKind.TheVariants.{DeleteOfChild}
use Rattle.tree_model.specs.Changes.{ChangeData, created, updated, deleted}
use Rattle.tree_model.specs.Tree.{is_kin, is_numbered_in}

-- ---- what a subscription looks for

-- the number of a kind of event (TS-0004, 6.3.4.2.19)
abbrev pub event_number : EventKind → ℕ
event_number UpdateOfResource = 1
event_number DeleteOfResource = 2
event_number CreateOfChild = 3
event_number DeleteOfChild = 4

-- an update of the resource that the subscription stands under
abbrev pub is_update : EventKind → Bool
is_update kind = nat_eq (event_number kind) 1

-- a criterion of a subscription, a member of `enc`
abbrev pub criterion : List ℕ → ResourceData → Option Data
criterion key sub = option_and_then (member_at key) (value_of Enc sub.attrs)

-- a list has the number
abbrev pub lists_number : ℕ → Data → Bool
lists_number n d = list_any (is_count_of (nat_eq n)) (listed_in (Some d))

-- the subscription looks for events of the kind: `net` lists it; without `net` for updates alone
abbrev pub looks_for : EventKind → ResourceData → Bool
looks_for kind sub =
    option_map_or (lists_number (event_number kind)) (criterion (codes "net") sub) (is_update kind)

-- the value is the short name of one of these attributes
abbrev pub names_one_of : List Attr → Data → Bool
names_one_of named d = list_any (λ a. is_text_of (bytes_eq (attr_short a)) d) named

-- a list has the short name of one of these attributes
abbrev pub lists_one_of : List Attr → Data → Bool
lists_one_of named d = list_any (names_one_of named) (listed_in (Some d))

-- the subscription looks for updates of one of these attributes: `atr` lists it; without `atr` for
-- those of any
abbrev pub looks_at : List Attr → ResourceData → Bool
looks_at named sub = option_map_or (lists_one_of named) (criterion (codes "atr") sub) true

-- ---- where it stands

-- a subscription under the resource of this number, where one is given
abbrev pub is_sub_of : Option ℕ → ResourceData → Bool
is_sub_of parent sub = option_map_or (λ n. is_kin Subscription n sub) parent false

-- a subscription under one of two resources, as far as they are given
abbrev pub is_sub_of_either : Option ℕ → Option ℕ → ResourceData → Bool
is_sub_of_either own above sub = is_sub_of own sub || is_sub_of above sub

-- the resource that was there before the change and is itself changed: not one that is new
abbrev pub own_of : ChangeData → Option ℕ
own_of (created r) = None
own_of (updated r s named) = Some s.number
own_of (deleted r) = Some r.number

-- the resource that gets or loses a child by the change: not by one's update
abbrev pub above_of : ChangeData → Option ℕ
above_of (created r) = Some r.parent
above_of (updated r s named) = None
above_of (deleted r) = Some r.parent

-- the subscriptions under one of both
abbrev pub watching : List ResourceData → ChangeData → List ResourceData
watching nodes change = filter (is_sub_of_either (own_of change) (above_of change)) nodes

-- ---- the table

-- the kind of event, where a condition holds and the subscription looks for it
abbrev pub event_where : Bool → EventKind → ResourceData → Option EventKind
event_where is kind sub = if is && looks_for kind sub then Some kind else None

-- As what event a change is told to a subscription that stands in the tree before it, if it is; the
-- resources of the numbers `going` are those that the same removal takes. Who looks for the update
-- or the deletion of the parent needn't stay. Who looks for new children isn't there before its
-- own creation. Who looks for deletions of children has to stay after the whole removal.
abbrev pub event_for : List ℕ → ChangeData → ResourceData → Option EventKind
event_for going (created r) sub = event_where (is_sub_of (Some r.parent) sub) CreateOfChild sub
event_for going (updated r s named) sub =
    event_where (is_sub_of (Some s.number) sub && looks_at named sub) UpdateOfResource sub
event_for going (deleted r) sub =
    option_or (event_where (is_sub_of (Some r.number) sub) DeleteOfResource sub)
    (event_where (is_sub_of (Some r.parent) sub && not (is_numbered_in going sub))
    DeleteOfChild sub)

-- a subscription stays, and looks for the deletion of children of the resource that it stands under
abbrev pub does_hear : List ℕ → ResourceData → Bool
does_hear going sub = not (is_numbered_in going sub) && looks_for DeleteOfChild sub

-- one under the resource of this number does
abbrev pub is_heard : List ℕ → List ResourceData → ℕ → Bool
is_heard going nodes parent = list_any (does_hear going) (filter (is_sub_of (Some parent)) nodes)

-- one under the resource of this number, where one is given, does
abbrev pub is_heard_above : List ℕ → List ResourceData → Option ℕ → Bool
is_heard_above going nodes parent = list_any (does_hear going) (filter (is_sub_of parent) nodes)

-- the subscription stands there, and does
abbrev pub does_hear_under : List ℕ → Option ℕ → ResourceData → Bool
does_hear_under going parent sub = is_sub_of parent sub && does_hear going sub

-- what is noted at the number of a resource
abbrev pub noted_at : List (ℕ × Bool) → ℕ → Option Bool
noted_at rows n = lookup (λ m. is_eq (nat_cmp n m)) rows

-- what is noted at the numbers of resources is so
pub record AreHeard (going : List ℕ) (nodes : List ResourceData)
    (rows : List (ℕ × Bool)) : Type 0 where
  pub says : (n : ℕ) (b : Bool) → noted_at rows n ≡ Some b → b ≡ is_heard going nodes n

-- it is noted that none under the resource of this number does
abbrev pub is_deaf : List (ℕ × Bool) → ℕ → Bool
is_deaf rows n = option_map_or not (noted_at rows n) false

-- the resource that gets or loses a child by the change, unless it is noted that nobody under it is
-- told so
abbrev pub heard_above : List (ℕ × Bool) → ChangeData → Option ℕ
heard_above rows (created r) = Some r.parent
heard_above rows (updated r s named) = None
heard_above rows (deleted r) = if is_deaf rows r.parent then None else Some r.parent

-- the subscriptions that are told of a change, in order of creation
abbrev pub matching : List ResourceData → List ℕ → ChangeData → List ResourceData
matching nodes going change = filter (λ sub. is_some (event_for going change sub)) nodes

-- ---- how many steps it takes

-- at most a step for each subscription under the changed resource or its parent, and two more
abbrev pub steps_of : List ResourceData → ChangeData → ℕ
steps_of nodes change = length (watching nodes change) + 2

-- the same for each change of an operation
abbrev pub steps_of_all : List ResourceData → List ChangeData → ℕ
steps_of_all nodes [] = 0
steps_of_all nodes (change ∷ changes) = steps_of nodes change + steps_of_all nodes changes
