-- What a Create and an Update change where they are served (TS-0001, 10.2.1 and 10.2.4).
use Rattle.std.specs.Prelude.{◌≡◌, ℕ, ◌+◌, List, [], ◌∷◌, Some, IsTrue}
use Rattle.m2m_names.specs.Types.{does_take}
use Rattle.m2m_names.specs.declared.operations.Op.TheVariants.{Create, Update, Delete}
use Rattle.m2m_names.specs.declared.types.Ty.{Ty}
use Rattle.m2m_value.specs.Data.{Entry}
use Rattle.primitive_json.specs.declared.request.RequestParts.{RequestParts}
use Rattle.resource_model.specs.Resource.{ResourceData}
use Rattle.tree_model.specs.Tree.{at, is_instance, restamped}
use Rattle.attribute_rules.specs.declared.table.Writing.TheVariants.{Create as Creating}
use Rattle.attribute_rules.specs.declared.table.Writing.TheVariants.{Update as Updating}
use Rattle.entity_model.specs.Entity.{EntityData}
use Rattle.entity_model.specs.Places.{Effect}
use Rattle.request_rules.specs.Creation.{creation_of, has_room, is_unique, next_state}
use Rattle.request_rules.specs.Groups.{admits_members, membership_edited, membership_new}
use Rattle.request_rules.specs.Order.{creation_by, expires_later}
use Rattle.request_rules.specs.Policies.{links_live}
use Rattle.request_rules.specs.Requests.{admits, child_ty, content_for, is_for, named_by}
use Rattle.request_rules.specs.Rights.{may_do}
use Rattle.create_delete.specs.Changes.{only_in}
use Rattle.create_delete.specs.Changing.{create_effect, delete_effect, update_effect}
use Rattle.create_delete.specs.Guard.{IsChanged, IsGone}

-- What a new resource changes of another: that one is the container in which it is an instance, and
-- differs in its state tag, which counts one change more, and in its last change (TS-0001, 9.6.6).
pub record IsCounted (before : EntityData) (made r s : ResourceData) : Type 0 where
  pub instance : IsTrue (is_instance r.number made)
  pub stamped : s ≡ restamped before.last (next_state r) r

-- A Create under the resource of the number adds exactly one, which has the next number and stands
-- under that. It changes besides at most that, and removes at most instances of it, and both only
-- where what is new is an instance.
pub record AddsOne (before : EntityData) (n : ℕ) (after : EntityData) : Type 0 where
  pub made : ResourceData
  pub alone : only_in after.nodes before.nodes ≡ made ∷ []
  pub number : made.number ≡ before.next
  pub parent : made.parent ≡ n
  pub changed : (r s : ResourceData) → IsChanged before.nodes after.nodes r s
      → (r.number ≡ n) × IsCounted before made r s
  pub removed : (r : ResourceData) → IsGone before.nodes after.nodes r
      → IsTrue (is_instance n made) × IsTrue (is_instance n r)
  pub rest : after ≡ record before { nodes = after.nodes; next = before.next + 1 }

-- An Update of the resource of the number changes that alone, which stays: in its attributes, its
-- expiry and its last change. It adds nothing, and removes at most instances of that.
pub record ChangesOne (before : EntityData) (n : ℕ) (after : EntityData) : Type 0 where
  pub was : ResourceData
  pub is : ResourceData
  pub stood : at n before.nodes ≡ Some was
  pub stands : at n after.nodes ≡ Some is
  pub same : is ≡ record was { lt = before.last; et = is.et; attrs = is.attrs }
  pub none : only_in after.nodes before.nodes ≡ []
  pub changed : (r s : ResourceData) → IsChanged before.nodes after.nodes r s → r.number ≡ n
  pub removed : (r : ResourceData) → IsGone before.nodes after.nodes r → IsTrue (is_instance n r)
  pub rest : after ≡ record before { nodes = after.nodes }

-- ---- what comes of what no place refuses

-- a Create is served: its target is there and it names a type, and its reply is the success with
-- the content that is asked for of the resource that it makes
pub record ServesCreate (e : EntityData) (originator : List ℕ) (request : RequestParts) (n : ℕ)
    (served : Effect) : Type 0 where
  pub parent : ResourceData
  pub ty : Ty
  pub found : at n e.nodes ≡ Some parent
  pub child : child_ty request ≡ Some ty
  pub does : served ≡ create_effect request (creation_by e originator request parent ty)

-- an Update is served: its target is there, and its reply is the success with the content that is
-- asked for of the resource as it leaves it
pub record ServesUpdate (e : EntityData) (request : RequestParts) (n : ℕ) (served : Effect)
    : Type 0 where
  pub target : ResourceData
  pub found : at n e.nodes ≡ Some target
  pub does : served ≡ update_effect e request (named_by Update request target) target

-- a Delete is served: its target is there, and its reply is the success, without content
pub record ServesDelete (e : EntityData) (request : RequestParts) (n : ℕ) (served : Effect)
    : Type 0 where
  pub target : ResourceData
  pub found : at n e.nodes ≡ Some target
  pub does : served ≡ delete_effect e request target

-- ---- what may be done

-- The originator may create this under the parent: it has the right, the parent takes the type, the
-- content names these attributes, which are admitted and expire later, its policies are live,
-- nothing stands there already that it alone may be, and no limit is passed.
pub record MayCreate (e : EntityData) (originator : List ℕ) (request : RequestParts)
    (parent : ResourceData) (ty : Ty) (es : List Entry) : Type 0 where
  pub right : IsTrue (may_do Create e originator request parent.number)
  pub child : child_ty request ≡ Some ty
  pub takes : IsTrue (does_take parent.ty ty)
  pub named : content_for request ty ≡ Some es
  pub admitted : IsTrue (admits Creating ty es)
  pub later : IsTrue (expires_later e es)
  pub live : IsTrue (links_live e es)
  pub unique : IsTrue (is_unique (creation_of e originator ty parent es))
  pub room : IsTrue (has_room (creation_of e originator ty parent es))
  pub members : IsTrue (admits_members e (membership_new (creation_of e originator ty parent es)))

-- The originator may update the resource by these attributes, which the content names.
pub record MayUpdate (e : EntityData) (originator : List ℕ) (request : RequestParts)
    (r : ResourceData) (es : List Entry) : Type 0 where
  pub right : IsTrue (may_do Update e originator request r.number)
  pub kind : IsTrue (is_for Update r.ty)
  pub named : content_for request r.ty ≡ Some es
  pub admitted : IsTrue (admits Updating r.ty es)
  pub later : IsTrue (expires_later e es)
  pub live : IsTrue (links_live e es)
  pub members : IsTrue (admits_members e (membership_edited r es))

-- The originator may delete the resource, which isn't the CSEBase.
pub record MayDelete (e : EntityData) (originator : List ℕ) (request : RequestParts)
    (r : ResourceData) : Type 0 where
  pub right : IsTrue (may_do Delete e originator request r.number)
  pub kind : IsTrue (is_for Delete r.ty)
