-- Resources and lists by which an originator is judged alike, and subscriptions are told alike.
use Rattle.std.specs.Prelude.{◌≡◌, ℕ, true, List, [], ◌∷◌, ◌++◌, Option, Some, None}
use Rattle.std.specs.Prelude.{if◌then◌else◌}
use Rattle.std.specs.List.{AllZip}
use Rattle.m2m_names.specs.declared.attributes.Attr.{Attr}
use Rattle.m2m_names.specs.declared.attributes.Attr.TheVariants.{Acpi, Aei, Csi, Enc, Exc}
use Rattle.m2m_names.specs.declared.attributes.Attr.TheVariants.{Macp, Pv, Pvs}
use Rattle.m2m_names.specs.declared.types.Ty.{Ty}
use Rattle.m2m_names.specs.declared.types.Ty.TheVariants.{AccessControlPolicy, Ae, RemoteCse}
use Rattle.m2m_names.specs.declared.types.Ty.TheVariants.{Subscription}
use Rattle.resource_model.specs.Attributes.{value_of}
use Rattle.resource_model.specs.Home.{HomeData}
use Rattle.resource_model.specs.Resource.{ResourceData, is_ty}
use Rattle.policy_eval.specs.Originators.{is_same}
use Rattle.policy_eval.specs.Rules.{is_attr_in, rules_in}
use Rattle.policy_eval.specs.Rights.{bits_by}

-- Two resources have the same values of these attributes.
abbrev pub Agree : List Attr → ResourceData → ResourceData → Type 0
Agree attrs s r = (a : Attr) → is_attr_in attrs a ≡ true → value_of a s.attrs ≡ value_of a r.attrs

-- attributes that name a resource of the type: the AE-ID of an AE, the CSE-ID of a remote CSE
abbrev pub id_attrs : Ty → List Attr
id_attrs ty =
    if is_ty ty Ae then Aei ∷ [] else
    if is_ty ty RemoteCse then Csi ∷ [] else []

-- attributes by which a subscription is told of changes: what it looks for, and how many
-- notifications are left to it (TS-0001, 9.6.8)
abbrev pub told_attrs : Ty → List Attr
told_attrs ty = if is_ty ty Subscription then Enc ∷ Exc ∷ [] else []

-- attributes by which a resource of the type is judged, named or told
abbrev pub shape_attrs : Ty → List Attr
shape_attrs ty = Acpi ∷ Macp ∷ (id_attrs ty ++ told_attrs ty)

-- Two resources stand at one place, and the originator is judged alike by them: it owns both or
-- neither, by what they are judged, named and told is the same, and where they are policies, their
-- rules give it the same bits (TS-0001, 9.6.2).
pub record Alike (home : HomeData) (originator : List ℕ) (s r : ResourceData) : Type 0 where
  pub number : s.number ≡ r.number
  pub ty : s.ty ≡ r.ty
  pub name : s.name ≡ r.name
  pub parent : s.parent ≡ r.parent
  pub owned : is_same home originator s.owner ≡ is_same home originator r.owner
  pub shape : Agree (shape_attrs r.ty) s r
  pub pv : is_ty r.ty AccessControlPolicy ≡ true →
      bits_by home originator (rules_in (value_of Pv s.attrs))
      ≡ bits_by home originator (rules_in (value_of Pv r.attrs))
  pub pvs : is_ty r.ty AccessControlPolicy ≡ true →
      bits_by home originator (rules_in (value_of Pvs s.attrs))
      ≡ bits_by home originator (rules_in (value_of Pvs r.attrs))

-- two lists are alike, place by place
abbrev pub AreAlike : HomeData → List ℕ → List ResourceData → List ResourceData → Type 0
AreAlike home originator ss rs = AllZip (Alike home originator) ss rs

-- two look-ups find alike resources, or both find none
abbrev pub FindAlike : HomeData → List ℕ → Option ResourceData → Option ResourceData → Type 0
FindAlike home originator None None = Unit {0}
FindAlike home originator None (Some r) = ⊥
FindAlike home originator (Some s) None = ⊥
FindAlike home originator (Some s) (Some r) = Alike home originator s r
