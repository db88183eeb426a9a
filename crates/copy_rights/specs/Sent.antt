-- By what right something is sent about copies (TS-0001, 9.6.2 and 9.6.26).
use Rattle.std.specs.Prelude.{◌≡◌, ◌⊎◌, ℕ, List, ◌++◌, Option, Some, None, IsTrue}
use Rattle.std.specs.List.{AllByRecursion}
use Rattle.m2m_names.specs.Name.{is_one_of, is_originator}
use Rattle.m2m_names.specs.declared.operations.Op.{Op}
use Rattle.m2m_names.specs.declared.operations.Op.TheVariants.{Delete}
use Rattle.m2m_value.specs.Data.{Data}
use Rattle.primitive_json.specs.declared.note.NoteParts.{NoteParts}
use Rattle.primitive_json.specs.declared.request.RequestParts.{RequestParts}
use Rattle.resource_model.specs.Home.{HomeData}
use Rattle.resource_model.specs.Resource.{ResourceData}
use Rattle.tree_model.specs.Tree.{at}
use Rattle.policy_eval.specs.Rights.{create_bit, update_bit}
use Rattle.announce_copy.specs.Announced.{copy_of, renewal_of}
use Rattle.announce_copy.specs.Copies.{registration_path}
use Rattle.announce_copy.specs.Peers.{listed_peers}
use Rattle.entity_model.specs.Entity.{EntityData, copy_requests}
use Rattle.entity_model.specs.Expiry.{expiry_changes}
use Rattle.entity_model.specs.Sound.{IsSoundEntity}
use Rattle.request_rules.specs.Rights.{is_granted}
use Rattle.create_delete.specs.Changes.{changes_at}
use Rattle.create_delete.specs.Changing.{effect_at}

-- ---- where it goes

-- The request is sent to a CSE that the resource lists in `at`: its address is that CSE-ID, and
-- then leads to or below the resource by which this CSE is registered there.
pub record IsSentFor (home : HomeData) (r : ResourceData) (sent : NoteParts) : Type 0 where
  pub peer : List ℕ
  pub rest : List ℕ
  pub to : sent.request.to ≡ peer ++ (registration_path home ++ rest)
  pub listed : IsTrue (is_one_of (listed_peers r) peer)

-- ---- by what right

-- The originator of an operation on the resource of a number may say where the resource is
-- announced: by CREATE on its parent, which is that one, or by UPDATE on the resource itself.
abbrev pub MayAnnounce : EntityData → List ℕ → ℕ → ResourceData → Type 0
MayAnnounce before originator n r =
    ((r.parent ≡ n) × IsTrue (is_granted before originator create_bit n))
    ⊎ IsTrue (is_granted before originator update_bit r.number)

-- The resource stood so before the operation; or it stands so behind it, and the originator may say
-- where it is announced.
abbrev pub IsAnnouncedByRight :
    EntityData → List ℕ → ℕ → EntityData → ResourceData → Type 0
IsAnnouncedByRight before originator n after r =
    (at r.number before.nodes ≡ Some r)
    ⊎ ((at r.number after.nodes ≡ Some r) × MayAnnounce before originator n r)

-- ---- what it says

-- the content is that of a copy of the resource: a whole one, or what is renewed
abbrev pub IsOfCopy : HomeData → ResourceData → Option Data → Type 0
IsOfCopy home r content = (content ≡ Some (copy_of home r)) ⊎ (content ≡ Some (renewal_of r))

-- There is no content, or that of a copy of the resource of this number as the operation leaves it.
abbrev pub SaysOfCopy : HomeData → EntityData → ℕ → Option Data → Type 0
SaysOfCopy home after number content =
    (content ≡ None)
    ⊎ ((left : ResourceData) × (left.number ≡ number) × (at number after.nodes ≡ Some left)
    × IsOfCopy home left content)

-- ---- the law

-- What an operation sends about a copy, it sends by right, and of one resource alone.
pub record IsSentByRight (before : EntityData) (originator : List ℕ) (n : ℕ) (after : EntityData)
    (sent : NoteParts) : Type 0 where
  pub resource : ResourceData
  pub goes : IsSentFor before.home resource sent
  pub right : IsAnnouncedByRight before originator n after resource
  pub says : SaysOfCopy before.home after resource.number sent.request.pc

-- So it is for all that an operation on a resource of a sound entity sends about copies.
abbrev pub OperationsAnnounceByRight : Type 0
OperationsAnnounceByRight =
    (op : Op) (e : EntityData) (originator : List ℕ) (request : RequestParts) (n : ℕ)
    → IsSoundEntity e → IsTrue (is_originator originator)
    → AllByRecursion (IsSentByRight e originator n (effect_at op e originator request n).after)
    (copy_requests e.home e.nodes (changes_at op e originator request n))

-- A Delete without content goes where a resource that stood was announced.
pub record Withdraws (home : HomeData) (nodes : List ResourceData) (sent : NoteParts)
    : Type 0 where
  pub resource : ResourceData
  pub stood : at resource.number nodes ≡ Some resource
  pub goes : IsSentFor home resource sent
  pub deletes : sent.request.op ≡ Delete
  pub says : sent.request.pc ≡ None

-- An expiry sends about copies nothing else.
abbrev pub ExpiriesWithdrawCopies : Type 0
ExpiriesWithdrawCopies =
    (e : EntityData) (moment : ℕ)
    → AllByRecursion (Withdraws e.home e.nodes)
    (copy_requests e.home e.nodes (expiry_changes moment e.nodes))
