-- What a Retrieve shows (TS-0001, 10.2.3; TS-0004, 6.3.4.2.7 and 7.5.2).
use Rattle.std.specs.Prelude.{ℕ, ℤ, Bool, List, [], ◌∷◌, ◌++◌, map, filter, take, codes}
use Rattle.std.specs.Prelude.{Option, if◌then◌else◌}
use Rattle.std.specs.BTreeMap.{insert_entry}
use Rattle.std.specs.Cmp.Lexicographic.{slice_cmp}
use Rattle.std.specs.List.{list_all}
use Rattle.std.specs.Ordering.{int_eq, nat_cmp}
use Rattle.m2m_names.specs.Members.{ch_name, val_name}
use Rattle.m2m_names.specs.Types.{ty_member}
use Rattle.m2m_value.specs.Data.{Data, Entry, list, object, text, elements_of, pairs_of}
use Rattle.m2m_value.specs.View.{member_of}
use Rattle.primitive_json.specs.Kinds.{descendants_wanted, children_wanted}
use Rattle.primitive_json.specs.Kinds.{children_alone_wanted}
use Rattle.resource_model.specs.Home.{HomeData}
use Rattle.resource_model.specs.Resource.{ResourceData}
use Rattle.policy_eval.specs.Rights.{grants, retrieve_bit}
use Rattle.policy_eval.specs.Rules.{listed_in}
use Rattle.tree_model.specs.Shown.{attributes_of, members_of, shown_rows, shown_ty, under_type}
use Rattle.tree_model.specs.Tree.{children_of}
use Rattle.entity_model.specs.Places.{wanted_content}
use Rattle.retrieve_discover.specs.Descendants.{Forest, bare, rooted, below, cut_forest, forest_of}
use Rattle.retrieve_discover.specs.Descendants.{line_below}
use Rattle.retrieve_discover.specs.Findings.{address, most_listed}

-- ---- objects

-- the members of a resource's object: its attributes
abbrev pub members : HomeData → List ResourceData → ResourceData → List Entry
members home nodes r = members_of (shown_rows home nodes r)

-- with a member besides, in its place by the bytes of its key
abbrev pub with_member : List ℕ → Data → List Entry → List Entry
with_member key d es = insert_entry (slice_cmp nat_cmp) es key d

-- ---- references to children

-- the originator may retrieve it
abbrev pub may_retrieve : HomeData → List ResourceData → List ℕ → ResourceData → Bool
may_retrieve home nodes originator r = grants home nodes originator retrieve_bit r.number

-- the first of those children that the originator may retrieve
abbrev pub referred : HomeData → List ResourceData → List ℕ → ℕ → List ResourceData
referred home nodes originator n =
    take most_listed (filter (may_retrieve home nodes originator) (children_of n nodes))

-- a reference: name, type and address of a child (the form is the profile's)
abbrev pub reference : Bool → List ResourceData → ResourceData → Data
reference by_id nodes r = object (pairs_of (
    (codes "nm", text r.name) ∷ (codes "typ", shown_ty r.ty)
    ∷ (val_name, address by_id nodes r) ∷ []))

-- The references to the first of the children that the originator may retrieve, as a list.
abbrev pub references : HomeData → List ResourceData → List ℕ → Bool → ℕ → Data
references home nodes originator by_id n =
    list (elements_of (map (reference by_id nodes) (referred home nodes originator n)))

-- ---- descendants

-- a descendant of a resource is shown: the originator may retrieve it and all between it and that
-- resource
abbrev pub is_shown_below : HomeData → List ResourceData → List ℕ → ℕ → ResourceData → Bool
is_shown_below home nodes originator n r =
    list_all (may_retrieve home nodes originator) (line_below n nodes r)

-- the most descendants that are shown (the number is the profile's)
abbrev pub most_shown : ℕ
most_shown = 128

-- the first of those that may be
abbrev pub shown_below : HomeData → List ResourceData → List ℕ → ℕ → List ResourceData
shown_below home nodes originator n =
    take most_shown (filter (is_shown_below home nodes originator n) (below n nodes))

-- The descendants that are shown, each with what is shown below it.
abbrev pub shown_forest : HomeData → List ResourceData → List ℕ → ℕ → Forest
shown_forest home nodes originator n =
    cut_forest (forest_of (may_retrieve home nodes originator) n nodes) most_shown

-- an object more at the end of the list that a member has
abbrev pub with_last : List ℕ → Data → List Entry → List Entry
with_last key d es =
    with_member key (list (elements_of (listed_in (member_of key es) ++ d ∷ []))) es

-- the members of an object and, under the name of its type, an object of each child that is shown,
-- made in the same way (TS-0004, 8.4)
abbrev pub with_forest : (ResourceData → List Entry) → Forest → List Entry → List Entry
with_forest members bare es = es
with_forest members (rooted r kids more) es =
    with_forest members more
    (with_last (ty_member r.ty) (object (pairs_of (with_forest members kids (members r)))) es)

-- ---- the content

-- attributes and descendants; attributes and references to children; these alone
abbrev pub whole : HomeData → List ResourceData → List ℕ → ResourceData → Data
whole home nodes originator r = under_type r.ty
    (with_forest (members home nodes) (shown_forest home nodes originator r.number)
    (members home nodes r))

-- The attributes of a resource, and references to its children as `ch`.
abbrev pub with_references : HomeData → List ResourceData → List ℕ → Bool → ResourceData → Data
with_references home nodes originator by_id r = under_type r.ty
    (with_member ch_name (references home nodes originator by_id r.number) (members home nodes r))

-- References to the children of a resource, without its attributes.
abbrev pub references_alone : HomeData → List ResourceData → List ℕ → Bool → ResourceData → Data
references_alone home nodes originator by_id r =
    under_type r.ty ((ch_name, references home nodes originator by_id r.number) ∷ [])

-- The content of the reply to a Retrieve, by the result content that is asked for (TS-0001, 8.1.2).
abbrev pub content : HomeData → List ResourceData → List ℕ → Bool → Option ℤ → ResourceData → Data
content home nodes originator by_id rcn r =
    let wanted = wanted_content rcn in
    if int_eq wanted descendants_wanted then whole home nodes originator r else
    if int_eq wanted children_wanted then with_references home nodes originator by_id r else
    if int_eq wanted children_alone_wanted then references_alone home nodes originator by_id r else
    attributes_of home nodes r
