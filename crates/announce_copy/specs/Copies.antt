-- Which copies follow a change, and where they stand (TS-0001, 9.6.26 and 10.2.18; the names are
-- the profile's).
use Rattle.std.specs.Prelude.{ℕ, Bool, not, List, ◌++◌, map, filter, codes, Option, Some, None}
use Rattle.std.specs.Prelude.{if◌then◌else◌, IsUtf8}
use Rattle.std.specs.List.{AllByRecursion, filter_map, flat_map}
use Rattle.m2m_names.specs.declared.operations.Op.{Op}
use Rattle.m2m_names.specs.declared.operations.Op.TheVariants.{Create, Delete, Update}
use Rattle.m2m_names.specs.declared.types.Ty.{Ty}
use Rattle.m2m_names.specs.declared.types.Ty.TheVariants.{Container, ContentInstance}
use Rattle.m2m_value.specs.Data.{Data}
use Rattle.resource_model.specs.Home.{HomeData}
use Rattle.resource_model.specs.Resource.{ResourceData, is_ty}
use Rattle.tree_model.specs.Changes.{ChangeData, created, updated, deleted}
use Rattle.announce_copy.specs.Announced.{copy_name, copy_of, copy_type, does_renew, renewal_of}
use Rattle.announce_copy.specs.Peers.{is_one_of, peers_of}

-- ---- where a copy stands

-- A copy is addressed from the CSEBase of the CSE at which it stands: below that the resource by
-- which this CSE is registered there, whose name is own CSE-ID without its slash
abbrev pub registration_path : HomeData → List ℕ
registration_path home = codes "/-/" ++ home.csi

-- the path to what the copy of a resource stands under: that one, and of an instance the copy of
-- its container
abbrev pub parent_path : HomeData → ResourceData → List ℕ
parent_path home r =
    if is_ty r.ty ContentInstance
    then registration_path home ++ codes "/" ++ copy_name Container r.parent
    else registration_path home

-- and the path to the copy itself
abbrev pub copy_path : HomeData → ResourceData → List ℕ
copy_path home r = parent_path home r ++ codes "/" ++ copy_name r.ty r.number

-- the address, at the CSE of this CSE-ID, of what a copy stands under
abbrev pub parent_address : HomeData → List ℕ → ResourceData → List ℕ
parent_address home peer r = peer ++ parent_path home r

-- The address of the copy of a resource at the CSE of this CSE-ID.
abbrev pub copy_address : HomeData → List ℕ → ResourceData → List ℕ
copy_address home peer r = peer ++ copy_path home r

-- ---- what is sent

-- an operation on a copy: its target; for a Create the type; and the content, but for a Delete
abbrev pub CopyDraft : Type 0
CopyDraft = Op × List ℕ × Option Ty × Option Data

-- each goes to an address, which is UTF-8
abbrev pub AreAddressed : List CopyDraft → Type 0
AreAddressed drafts = AllByRecursion (λ (d : CopyDraft). IsUtf8 d.1) drafts

abbrev pub creation_at : HomeData → ResourceData → List ℕ → CopyDraft
creation_at home r peer =
    (Create, parent_address home peer r, Some (copy_type r.ty), Some (copy_of home r))

-- the copy at the end of a path
abbrev pub renewal_at : List ℕ → ResourceData → List ℕ → CopyDraft
renewal_at path r peer = (Update, peer ++ path, None, Some (renewal_of r))

abbrev pub deletion_at : List ℕ → List ℕ → CopyDraft
deletion_at path peer = (Delete, peer ++ path, None, None)

-- What a CSE is sent to which a resource was announced before an Update that leaves it so: where it
-- is one of those to which it is announced now, the copy is renewed if the Update is announced, and
-- else stays as it is; at every other one the copy goes.
abbrev pub followed_at :
    List ℕ → Bool → List (List ℕ) → ResourceData → List ℕ → Option CopyDraft
followed_at path renews peers s peer =
    if is_one_of peers peer
    then (if renews then Some (renewal_at path s peer) else None)
    else Some (deletion_at path peer)

-- of these CSEs those that aren't among others
abbrev pub others_than : List (List ℕ) → List (List ℕ) → List (List ℕ)
others_than known peers = filter (λ peer. not (is_one_of known peer)) peers

-- What is sent for a change: first to the CSEs to which the resource was announced before, then to
-- those to which it is announced newly. The list is the one before the operation.
abbrev pub copies_of : HomeData → List ResourceData → ChangeData → List CopyDraft
copies_of home nodes (created r) = map (creation_at home r) (peers_of nodes r)
copies_of home nodes (updated r s named) =
    filter_map (followed_at (copy_path home s) (does_renew named s) (peers_of nodes s) s)
    (peers_of nodes r)
    ++ map (creation_at home s) (others_than (peers_of nodes r) (peers_of nodes s))
copies_of home nodes (deleted r) = map (deletion_at (copy_path home r)) (peers_of nodes r)

-- what is sent for the changes of an operation, in their order
abbrev pub copies_of_all : HomeData → List ResourceData → List ChangeData → List CopyDraft
copies_of_all home nodes changes = flat_map (copies_of home nodes) changes
