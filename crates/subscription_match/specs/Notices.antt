-- What subscriptions are told: the contents of notifications and of deletion notices (TS-0001,
-- 9.6.8 and 10.2.10; TS-0004, 7.5.1.2).
use Rattle.std.specs.Prelude.{ℕ, ◌==◌, pos, Bool, true, ◌&&◌, ◌||◌, List, [], ◌∷◌, ◌++◌, filter}
use Rattle.std.specs.Prelude.{codes, if◌then◌else◌, Option, Some, None, option_map, unwrap_or}
use Rattle.std.specs.List.{filter_map, flat_map}
use Rattle.m2m_names.specs.declared.attributes.Attr.{Attr}
use Rattle.m2m_names.specs.declared.attributes.Attr.TheVariants.{Lt, Nct, Nu, Su}
use Rattle.m2m_names.specs.declared.types.Ty.TheVariants.{Subscription}
use Rattle.m2m_value.specs.Data.{Data, boolean, number, text, object, Entry, pairs_of}
use Rattle.m2m_value.specs.View.{text_or_empty}
use Rattle.policy_eval.specs.Rules.{is_attr_in, listed_in}
use Rattle.resource_model.specs.Attributes.{Row, count_at, is_attr, text_at, value_of}
use Rattle.resource_model.specs.Home.{HomeData}
use Rattle.resource_model.specs.Resource.{ResourceData, id_of, is_ty}
use Rattle.subscription_match.specs.Matching.{event_for, event_number, is_update}
use Rattle.subscription_match.specs.declared.drafts.DraftParts.{DraftParts}
use Rattle.subscription_match.specs.declared.events.EventKind.{EventKind}
use Rattle.tree_model.specs.Changes.{ChangeData, created, updated, deleted}
use Rattle.tree_model.specs.Shown.{attributes_of, own_cse_id, shown_rows, wrapped}

-- ---- how much is shown

-- the resource of a change, as it is after a creation or an update and was before a deletion
abbrev pub resource_of : ChangeData → ResourceData
resource_of (created r) = r
resource_of (updated r s named) = s
resource_of (deleted r) = r

-- the attributes that an update named
abbrev pub named_in : ChangeData → List Attr
named_in (created r) = []
named_in (updated r s named) = named
named_in (deleted r) = []

-- the numbers of notification contents (TS-0004, 6.3.4.2.21): all attributes, those that an update
-- named, and the resource id
abbrev pub all_shown : ℕ
all_shown = 1

abbrev pub modified_shown : ℕ
modified_shown = 2

abbrev pub id_shown : ℕ
id_shown = 3

-- what a subscription wants to be shown: `nct`, and all where it isn't there
abbrev pub content_wanted : ResourceData → ℕ
content_wanted sub = unwrap_or (count_at Nct sub.attrs) all_shown

-- the attributes that an update named, and `lt`
abbrev pub is_modified_at : List Attr → Attr → Bool
is_modified_at named attr = is_attr_in named attr || is_attr Lt attr

abbrev pub is_modified : List Attr → Row → Bool
is_modified named row = is_modified_at named row.0

-- those that have a value now
abbrev pub modified_attributes : HomeData → List ResourceData → List Attr → ResourceData → Data
modified_attributes home nodes named r =
    wrapped r.ty (filter (is_modified named) (shown_rows home nodes r))

-- the member that has a resource id
abbrev pub id_alone : ResourceData → Data
id_alone r = object (pairs_of ((codes "m2m:uri", text (id_of r)) ∷ []))

-- the representation of a resource that was changed: its resource id; or after an update the
-- attributes that it named; or all attributes. What a container counts is counted before the
-- change, and so with what the same operation removes.
abbrev pub representation : HomeData → List ResourceData → ChangeData → EventKind → ℕ → Data
representation home nodes change kind wanted =
    if wanted == id_shown then id_alone (resource_of change) else
    if (wanted == modified_shown) && is_update kind
    then modified_attributes home nodes (named_in change) (resource_of change)
    else attributes_of home nodes (resource_of change)

-- ---- contents

-- the subscription as its notifications name it: the CSE-ID, `/`, and its resource id
abbrev pub reference_of : HomeData → ResourceData → List ℕ
reference_of home sub = own_cse_id home ++ codes "/" ++ id_of sub

abbrev pub reference_member : HomeData → ResourceData → Entry
reference_member home sub = (codes "sur", text (reference_of home sub))

-- the frame round what is told
abbrev pub framed : List Entry → Data
framed members = object (pairs_of ((codes "m2m:sgn", object (pairs_of members)) ∷ []))

-- the event: its kind, and the representation
abbrev pub event_told : EventKind → Data → Data
event_told kind shown =
    object (pairs_of (
    (codes "net", number (pos (event_number kind))) ∷ (codes "rep", shown) ∷ []))

abbrev pub notification : HomeData → ResourceData → EventKind → Data → Data
notification home sub kind shown =
    framed ((codes "nev", event_told kind shown) ∷ reference_member home sub ∷ [])

-- that the subscription itself is gone
abbrev pub deletion_notice : HomeData → ResourceData → Data
deletion_notice home sub =
    framed ((codes "sud", boolean true) ∷ reference_member home sub ∷ [])

-- ---- one change

-- the text of the target of a subscription's notifications
abbrev pub target_of : ResourceData → List ℕ
target_of sub = first_text (listed_in (value_of Nu sub.attrs))
  where
    first_text : List Data → List ℕ
    first_text [] = []
    first_text (d ∷ ds) = text_or_empty (Some d)

-- what a subscription is told as an event
abbrev pub told_as :
    HomeData → List ResourceData → ChangeData → ResourceData → EventKind → DraftParts
told_as home nodes change sub kind = record {
  subscription = Some sub.number;
  target = target_of sub;
  content =
      notification home sub kind
      (representation home nodes change kind (content_wanted sub));
}

-- what it is told of a change, where it is
abbrev pub told : HomeData → List ResourceData → List ℕ → ChangeData → ResourceData
    → Option DraftParts
told home nodes going change sub =
    option_map (told_as home nodes change sub) (event_for going change sub)

-- what all are told of it, in the order of the subscriptions' creation
abbrev pub told_to_all : HomeData → List ResourceData → List ℕ → ChangeData → List DraftParts
told_to_all home nodes going change = filter_map (told home nodes going change) nodes

-- a notice of the deletion of a subscription, to its `su`, where it has one
abbrev pub notice_to : HomeData → ResourceData → List ℕ → DraftParts
notice_to home sub su =
    record { subscription = None; target = su; content = deletion_notice home sub }

abbrev pub notice_of : HomeData → ResourceData → Option DraftParts
notice_of home r =
    if is_ty r.ty Subscription then option_map (notice_to home r) (text_at Su r.attrs) else None

-- the notices of a change
abbrev pub listed : {A : Type 0} → Option A → List A
listed None = []
listed (Some a) = a ∷ []

abbrev pub notices : HomeData → ChangeData → List DraftParts
notices home (created r) = []
notices home (updated r s named) = []
notices home (deleted r) = listed (notice_of home r)

-- what is told of a change, in order: what subscriptions are told of it, and then the notice
abbrev pub notes_of : HomeData → List ResourceData → List ℕ → ChangeData → List DraftParts
notes_of home nodes going change =
    told_to_all home nodes going change ++ notices home change

-- what is told of an operation's changes, in order
abbrev pub notes_of_all : HomeData → List ResourceData → List ℕ → List ChangeData → List DraftParts
notes_of_all home nodes going changes = flat_map (notes_of home nodes going) changes
