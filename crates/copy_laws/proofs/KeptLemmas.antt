-- What a CSE keeps of a resource: no value is null, and what it is announced to are CSE-IDs.
use Rattle.std.specs.Prelude.{option_and_then, unwrap_or}
use Rattle.std.proofs.Common.{◌≡◌, ℕ, ◌<◌, List, [], ◌∷◌, Bool, true, false, ◌&&◌, Option, Some, None, inl, inr, refl, sym, ap, ◌∙◌, subst}
use Rattle.std.proofs.lemmas.Bool.{and_parts, cases_Bool}
use Rattle.std.proofs.lemmas.Option.{same_Some}
use Rattle.std.specs.List.{AllByRecursion, filter_map, list_all}
use Rattle.std.specs.Option.{option_map_or}
use Rattle.attribute_kinds.specs.Kinds.{has_kind, is_cse_id, is_content}
use Rattle.attribute_kinds.specs.declared.kinds.Kind.{Kind}
use Rattle.attribute_kinds.specs.declared.kinds.Kind.TheVariants.{Name, Stamp, Text, Label, Labels, Bool as Truth, Count, OneOf, CseId, CseIds, Originator, Policies, Points, Target, Rules, Criteria, MemberType, Content}
use Rattle.attribute_rules.specs.Kinds.{are_kinds, is_attr_kind, kind_of}
use Rattle.m2m_names.specs.Ids.{count_bound}
use Rattle.m2m_names.specs.declared.attributes.Attr.{Attr}
use Rattle.m2m_names.specs.declared.attributes.Attr.TheVariants.{At}
use Rattle.m2m_names.specs.declared.types.Ty.{Ty}
use Rattle.m2m_names.specs.declared.types.Ty.TheVariants.{AccessControlPolicy, Ae, Container, ContentInstance, CseBase, Group, PollingChannel, RemoteCse, Subscription, AccessControlPolicyAnnc, AeAnnc, ContainerAnnc, ContentInstanceAnnc, GroupAnnc}
use Rattle.m2m_value.specs.Data.{Data, null, boolean, number, text, list, object}
use Rattle.m2m_value.specs.Shapes.{is_text_of}
use Rattle.m2m_value.specs.View.{as_list, as_text}
use Rattle.policy_eval.specs.Rules.{listed_in, texts_of}
use Rattle.resource_model.proofs.AttributeLemmas.{is_attr-same}
use Rattle.resource_model.specs.Attributes.{Row, is_attr, value_of}
use Rattle.resource_model.specs.Resource.{ResourceData}
use Rattle.announce_copy.specs.Peers.{listed_peers}
use Rattle.copy_laws.specs.Following.{IsKept}

-- no kind has null
null_is_none : (kind : Kind) → has_kind kind null ≡ false
null_is_none Name = refl
null_is_none Stamp = refl
null_is_none Text = refl
null_is_none Label = refl
null_is_none Labels = refl
null_is_none Truth = refl
null_is_none Count = refl
null_is_none (OneOf from to) = refl
null_is_none CseId = refl
null_is_none CseIds = refl
null_is_none Originator = refl
null_is_none Policies = refl
null_is_none Points = refl
null_is_none Target = refl
null_is_none Rules = refl
null_is_none Criteria = refl
null_is_none MemberType = refl
null_is_none Content = refl

something : (kind : Kind) (d : Data) → has_kind kind d ≡ true → is_content d ≡ true
something kind null is = (let bad : false ≡ true = sym (null_is_none kind) ∙ is in cc)
something kind (boolean b) is = refl
something kind (number z) is = refl
something kind (text s) is = refl
something kind (list es) is = refl
something kind (object ps) is = refl

-- the row of a value passes what each row does
pub value_passes : (p : Row → Bool) (a : Attr) (d : Data) (rows : List Row) → list_all p rows ≡ true → value_of a rows ≡ Some d → p (a, d) ≡ true
value_passes p a d [] all is = (let bad : None ≡ Some d = is in cc)
value_passes p a d (row ∷ rows) all is =
    let both = and_parts (p row) (list_all p rows) all in
    elim (cases_Bool (is_attr a row.0)) [
      | inl t ↦
          let value : row.1 ≡ d = same_Some row.1 d (rw t at is) in
          let attr : a ≡ row.0 = is_attr-same a row.0 t in
          ap (λ (b : Attr). p (b, d)) attr ∙ ap (λ (e : Data). p (row.0, e)) (sym value) ∙ both.0
      | inr f ↦ value_passes p a d rows both.1 (rw f at is)
    ]

-- a value is of its kind
pub record HasItsKind (ty : Ty) (a : Attr) (d : Data) : Type 0 where
  pub kind : Kind
  pub of : kind_of ty a ≡ Some kind
  pub has : has_kind kind d ≡ true

pub its_kind : (ty : Ty) (a : Attr) (d : Data) → is_attr_kind ty (a, d) ≡ true → HasItsKind ty a d
its_kind ty a d is = by (kind_of ty a) refl
  where
    by : (o : Option Kind) → kind_of ty a ≡ o → HasItsKind ty a d
    by None none = (let bad : false ≡ true = sym (ap (λ (o : Option Kind). option_map_or (λ kind. has_kind kind d) o false) none) ∙ is in cc)
    by (Some kind) some = record {
      kind = kind;
      of = some;
      has = sym (ap (λ (o : Option Kind). option_map_or (λ kind. has_kind kind d) o false) some) ∙ is;
    }

-- `at` lists CSE-IDs, or there is none
at_kind : (ty : Ty) (kind : Kind) → kind_of ty At ≡ Some kind → kind ≡ CseIds
at_kind AccessControlPolicy kind is = same_Some kind CseIds (sym is)
at_kind Ae kind is = same_Some kind CseIds (sym is)
at_kind Container kind is = same_Some kind CseIds (sym is)
at_kind ContentInstance kind is = same_Some kind CseIds (sym is)
at_kind Group kind is = same_Some kind CseIds (sym is)
at_kind CseBase kind is = cc
at_kind PollingChannel kind is = cc
at_kind RemoteCse kind is = cc
at_kind Subscription kind is = cc
at_kind AccessControlPolicyAnnc kind is = cc
at_kind AeAnnc kind is = cc
at_kind ContainerAnnc kind is = cc
at_kind ContentInstanceAnnc kind is = cc
at_kind GroupAnnc kind is = cc

texts_pass : (p : List ℕ → Bool) (ds : List Data) → list_all (is_text_of p) ds ≡ true → AllByRecursion (λ (t : List ℕ). p t ≡ true) (texts_of ds)
texts_pass p [] all = tt
texts_pass p (d ∷ ds) all =
    let both = and_parts (is_text_of p d) (list_all (is_text_of p) ds) all in
    by both.0 (texts_pass p ds both.1) (as_text d) refl
  where
    by : is_text_of p d ≡ true → AllByRecursion (λ (t : List ℕ). p t ≡ true) (texts_of ds) → (o : Option (List ℕ)) → as_text d ≡ o → AllByRecursion (λ (t : List ℕ). p t ≡ true) (texts_of (d ∷ ds))
    by own rest None none = rw none rest
    by own rest (Some t) some = rw some (sym (ap (λ (o : Option (List ℕ)). option_map_or p o false) some) ∙ own, rest)

listed_pass : (p : List ℕ → Bool) (d : Data) → option_map_or (list_all (is_text_of p)) (as_list d) false ≡ true → AllByRecursion (λ (t : List ℕ). p t ≡ true) (texts_of (listed_in (Some d)))
listed_pass p d is = by (as_list d) refl
  where
    by : (o : Option (List Data)) → as_list d ≡ o → AllByRecursion (λ (t : List ℕ). p t ≡ true) (texts_of (listed_in (Some d)))
    by None none = rw none tt
    by (Some ds) some = rw some (texts_pass p ds (sym (ap (λ (o : Option (List Data)). option_map_or (list_all (is_text_of p)) o false) some) ∙ is))

peers_pass : (r : ResourceData) → are_kinds r ≡ true → AllByRecursion (λ (peer : List ℕ). is_cse_id peer ≡ true) (listed_peers r)
peers_pass r kinds = by (value_of At r.attrs) refl
  where
    by : (o : Option Data) → value_of At r.attrs ≡ o → AllByRecursion (λ (peer : List ℕ). is_cse_id peer ≡ true) (listed_peers r)
    by None none = rw none tt
    by (Some d) some =
        let its = its_kind r.ty At d (value_passes (is_attr_kind r.ty) At d r.attrs kinds some) in
        let has : has_kind CseIds d ≡ true = ap (λ kind. has_kind kind d) (sym (at_kind r.ty its.kind its.of)) ∙ its.has in
        rw some (listed_pass is_cse_id d has)

-- a resource whose attributes are of their kinds is such as a CSE keeps
pub kept_from_kinds : (r : ResourceData) → r.number < count_bound → r.parent < count_bound → are_kinds r ≡ true → IsKept r
kept_from_kinds r small parent kinds = record {
  number = small;
  parent = parent;
  peers = peers_pass r kinds;
  values = λ attr d is.
      let its = its_kind r.ty attr d (value_passes (is_attr_kind r.ty) attr d r.attrs kinds is) in
      something its.kind d its.has;
}

-- one of a type that has no `at` is announced to none
pub never_announced : (r : ResourceData) → kind_of r.ty At ≡ None → are_kinds r ≡ true → listed_peers r ≡ []
never_announced r none kinds = by (value_of At r.attrs) refl
  where
    by : (o : Option Data) → value_of At r.attrs ≡ o → listed_peers r ≡ []
    by None is = rw is refl
    by (Some d) is =
        let its = its_kind r.ty At d (value_passes (is_attr_kind r.ty) At d r.attrs kinds is) in
        let bad : None ≡ Some its.kind = sym none ∙ its.of in
        cc
