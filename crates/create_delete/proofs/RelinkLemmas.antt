-- What an Update leaves of the attributes, by whether it is of `acpi` alone.
use Rattle.std.proofs.Common.{◌≡◌, ◌≢◌, ℕ, List, [], ◌∷◌, Bool, true, false, not, ◌||◌, Option, Some, None, is_some, option_and_then, if◌then◌else◌, bytes_eq, inl, inr, refl, sym, ap, ◌∙◌, subst}
use Rattle.std.proofs.lemmas.Bool.{cases_Bool, or_parts, both_ways, false_from_ne_true}
use Rattle.std.proofs.lemmas.Option.{same_Some}
use Rattle.std.specs.Option.{option_map_or}
use Rattle.m2m_names.specs.Attributes.{attr_short}
use Rattle.m2m_names.specs.Types.{ty_member}
use Rattle.m2m_names.specs.declared.attributes.Attr.{Attr}
use Rattle.m2m_names.specs.declared.attributes.Attr.TheVariants.{Acpi, Macp, Mbs, Mia, Mni, St}
use Rattle.m2m_names.specs.declared.types.Ty.{Ty}
use Rattle.m2m_names.specs.declared.types.Ty.TheVariants.{Container, Group}
use Rattle.m2m_value.specs.Data.{Data, Entry}
use Rattle.m2m_value.specs.Node.{AreSorted}
use Rattle.m2m_value.specs.View.{as_object, member_of, only_member}
use Rattle.primitive_json.specs.declared.request.RequestParts.{RequestParts}
use Rattle.resource_model.specs.Attributes.{Row, is_attr, value_of}
use Rattle.resource_model.specs.Resource.{ResourceData, is_ty}
use Rattle.resource_model.proofs.AttributeLemmas.{is_attr-same, is_attr-itself, value-with_value_other, value-without_value_other}
use Rattle.attribute_rules.specs.Admission.{are_admitted, attributes_in, is_alone, is_named, only_value}
use Rattle.attribute_rules.specs.Contents.{does_clear, edit_in, edited}
use Rattle.attribute_rules.specs.declared.table.Writing.TheVariants.{Update as Updating}
use Rattle.attribute_rules.proofs.ContentsLemmas.{same_text}
use Rattle.attribute_rules.proofs.ValueLemmas.{value_edited}
use Rattle.policy_eval.specs.Rules.{is_attr_in}
use Rattle.container_limits.specs.Limits.{limits_of}
use Rattle.entity_model.specs.Entity.{EntityData}
use Rattle.request_rules.specs.Groups.{MembershipData, group_rows, membership_edited}
use Rattle.request_rules.specs.Policies.{link_row}
use Rattle.request_rules.specs.Requests.{content_for}
use Rattle.request_rules.specs.Rights.{is_link, is_relink, sole}
use Rattle.create_delete.specs.Changing.{updated_resource}
use Rattle.create_delete.specs.Guard.{DiffersIn, IsUpdated, link_attrs}
use Rattle.create_delete.proofs.NewResourceLemmas.{lacks_link}
use Rattle.create_delete.proofs.RowLemmas.{lacks_attr}
use Rattle.create_delete.proofs.UpdatedRowLemmas.{as_edited, lacks_members, lacks_own}
use Rattle.attribute_rules.proofs.KindLemmas.{admitted_parts}

-- ---- `acpi` alone

-- it names `acpi`, and nothing else
abbrev pub NamesLink : List Entry → Type 0
NamesLink es = (d : Data) × (es ≡ (attr_short Acpi, d) ∷ [])

abbrev has_link_key : Entry → Bool
has_link_key e = bytes_eq e.0 (attr_short Acpi)

link_whole : (o : Option (List Entry)) (es : List Entry) → option_map_or has_link_key (option_and_then only_member o) false ≡ true → o ≡ Some es → NamesLink es
link_whole None es links is = cc
link_whole (Some []) es links is = cc
link_whole (Some (x ∷ [])) es links is = (x.1, sym (same_Some (x ∷ []) es is) ∙ ap (λ (k : List ℕ). (k, x.1) ∷ []) (same_text x.0 (attr_short Acpi) links))
link_whole (Some (x ∷ y ∷ xs)) es links is = cc

link_of : (name : List ℕ) (o : Option (List Entry)) (es : List Entry) → option_map_or (λ (e : Entry). is_link e.1) (option_and_then only_member o) false ≡ true → option_and_then as_object (option_and_then (only_value name) o) ≡ Some es → NamesLink es
link_of name None es links named = cc
link_of name (Some []) es links named = cc
link_of name (Some (x ∷ [])) es links named = elim (cases_Bool (bytes_eq x.0 name)) [
  | inl t ↦ link_whole (as_object x.1) es links (rw t at named)
  | inr f ↦ (let none : None ≡ Some es = rw f at named in cc)
]
link_of name (Some (x ∷ y ∷ xs)) es links named = cc

-- an Update of `acpi` alone names that
pub names_link : (request : RequestParts) (ty : Ty) (es : List Entry) → is_relink request ≡ true → content_for request ty ≡ Some es → NamesLink es
names_link request ty es links whole = by_content request.pc links whole
  where
    by_content : (pc : Option Data) → option_map_or (λ (e : Entry). is_link e.1) (option_and_then sole pc) false ≡ true → option_and_then (attributes_in ty) pc ≡ Some es → NamesLink es
    by_content None links is = cc
    by_content (Some content) links is = link_of (ty_member ty) (as_object content) es links is

-- ---- and no other names it

alone_link : (es : List Entry) → is_alone es ≡ true → is_named Acpi es ≡ true → option_map_or has_link_key (only_member es) false ≡ true
alone_link [] alone named = cc
alone_link (x ∷ []) alone named = elim (cases_Bool (bytes_eq (attr_short Acpi) x.0)) [
  | inl t ↦ ap (λ (k : List ℕ). bytes_eq k (attr_short Acpi)) (sym (same_text (attr_short Acpi) x.0 t))
  | inr f ↦ absurd (both_ways _ refl (rw f at named))
]
alone_link (x ∷ y ∷ xs) alone named = cc

relink_of : (name : List ℕ) (o : Option (List Entry)) (es : List Entry) → option_and_then as_object (option_and_then (only_value name) o) ≡ Some es → is_alone es ≡ true → is_named Acpi es ≡ true → option_map_or (λ (e : Entry). is_link e.1) (option_and_then only_member o) false ≡ true
relink_of name None es whole alone named = cc
relink_of name (Some []) es whole alone named = cc
relink_of name (Some (x ∷ [])) es whole alone named = elim (cases_Bool (bytes_eq x.0 name)) [
  | inl t ↦
      let inner : as_object x.1 ≡ Some es = rw t at whole in
      ap (λ (o : Option (List Entry)). option_map_or has_link_key (option_and_then only_member o) false) inner ∙ alone_link es alone named
  | inr f ↦ (let none : None ≡ Some es = rw f at whole in cc)
]
relink_of name (Some (x ∷ y ∷ xs)) es whole alone named = cc

relinks_alone : (request : RequestParts) (ty : Ty) (es : List Entry) → content_for request ty ≡ Some es → is_alone es ≡ true → is_named Acpi es ≡ true → is_relink request ≡ true
relinks_alone request ty es whole alone named = by_content request.pc whole
  where
    by_content : (pc : Option Data) → option_and_then (attributes_in ty) pc ≡ Some es → option_map_or (λ (e : Entry). is_link e.1) (option_and_then sole pc) false ≡ true
    by_content None is = cc
    by_content (Some content) is = relink_of (ty_member ty) (as_object content) es is alone named

-- an admitted Update that isn't of `acpi` alone doesn't name it
pub names_no_link : (request : RequestParts) (ty : Ty) (es : List Entry) → are_admitted Updating ty es ≡ true → content_for request ty ≡ Some es → is_relink request ≡ false → is_named Acpi es ≡ false
names_no_link request ty es admitted whole other = false_from_ne_true _ (λ named.
    let complete : (not (is_named Acpi es) || is_alone es) ≡ true = (admitted_parts Updating ty es admitted).complete in
    let alone : is_alone es ≡ true = rw named at complete in
    both_ways _ other (relinks_alone request ty es whole alone named))

-- ---- an Update of `acpi` alone

link_edited : (a : Attr) (d : Data) (rows : List Row) → a ≢ Acpi → value_of a (edited (edit_in ((attr_short Acpi, d) ∷ [])) rows) ≡ value_of a rows
link_edited a d rows other = elim (cases_Bool (does_clear Acpi d)) [
  | inl t ↦ rw t (value-without_value_other Acpi a rows other)
  | inr f ↦ rw f (value-with_value_other Acpi a d rows other)
]

apart_from : (a b : Attr) → is_attr a b ≡ false → a ≢ b
apart_from a b other same = both_ways _ other (subst (λ (x : Attr). is_attr a x ≡ true) same (is_attr-itself a))

apart_to : (a b : Attr) → is_attr a b ≡ false → is_attr b a ≡ false
apart_to a b other = false_from_ne_true _ (λ t. apart_from a b other (sym (is_attr-same b a t)))

-- which of them is neither `acpi` nor, in a container, the state tag
record IsApart (ty : Ty) (a : Attr) : Type 0 where
  acpi : is_attr a Acpi ≡ false
  st : is_ty ty Container ≡ true → is_attr a St ≡ false

apart_of : (ty : Ty) (a : Attr) → is_attr_in (link_attrs ty) a ≡ false → IsApart ty a
apart_of ty a none = elim (cases_Bool (is_ty ty Container)) [
  | inl t ↦
      let both : (is_attr a Acpi || (is_attr a St || false)) ≡ false = rw t at none in
      let first = or_parts (is_attr a Acpi) (is_attr a St || false) both in
      let second = or_parts (is_attr a St) false first.1 in
      record { acpi = first.0; st = λ is. second.0 }
  | inr f ↦
      let one : (is_attr a Acpi || false) ≡ false = rw f at none in
      record { acpi = (or_parts (is_attr a Acpi) false one).0; st = λ is. absurd (both_ways _ f is) }
]

-- and no members of a group
names_no_members : (d : Data) (r : ResourceData) → membership_edited r ((attr_short Acpi, d) ∷ []) ≡ None
names_no_members d r = elim (cases_Bool (is_ty r.ty Group)) [
  | inl t ↦ rw t refl
  | inr f ↦ rw f refl
]

link_value : (e : EntityData) (d : Data) (r : ResourceData) (a : Attr) → is_attr_in (link_attrs r.ty) a ≡ false → value_of a (updated_resource e ((attr_short Acpi, d) ∷ []) r).attrs ≡ value_of a r.attrs
link_value e d r a none =
    let es : List Entry = (attr_short Acpi, d) ∷ [] in
    let apart = apart_of r.ty a none in
    as_edited e es r a (lacks_link a Acpi e es (apart_to a Acpi apart.acpi)) refl
    (lacks_own e es r a (λ is. apart_to a St (apart.st is)) (ap (λ (m : Option MembershipData). lacks_attr a (group_rows e m)) (names_no_members d r)))
    ∙ link_edited a d r.attrs (apart_from a Acpi apart.acpi)

-- changes nothing else
pub relinked : (e : EntityData) (es : List Entry) (r : ResourceData) → NamesLink es → DiffersIn (link_attrs r.ty) r (updated_resource e es r)
relinked e es r names =
    subst (λ (xs : List Entry). DiffersIn (link_attrs r.ty) r (updated_resource e xs r)) (sym names.1)
    (record { rest = refl; others = link_value e names.0 r })

-- and no limit of a container
pub limits_kept : (r s : ResourceData) → is_ty r.ty Container ≡ true → DiffersIn (link_attrs r.ty) r s → limits_of s ≡ limits_of r
limits_kept r s container differs = rw (differs.others Mni (rw container refl), differs.others Mbs (rw container refl), differs.others Mia (rw container refl)) refl

-- ---- every other Update

not_there : {X : Type 0} (o : Option X) → is_some o ≡ false → o ≡ None
not_there None none = refl
not_there (Some x) none = cc

-- leaves the policies that are named
pub links_stay : (e : EntityData) (es : List Entry) (r : ResourceData) → AreSorted es → is_named Acpi es ≡ false → IsUpdated r (updated_resource e es r)
links_stay e es r sorted none = record {
  rest = refl;
  links =
      as_edited e es r Acpi unlinked (lacks_link Acpi Macp e es refl) (lacks_own e es r Acpi (λ is. refl) (lacks_members Acpi e (membership_edited r es) (λ x. refl)))
      ∙ value_edited Acpi es r.attrs sorted refl
      ∙ ap (λ (o : Option Data). option_map_or (λ d. if does_clear Acpi d then None else Some d) o (value_of Acpi r.attrs)) unnamed;
}
  where
    unnamed : member_of (attr_short Acpi) es ≡ None
    unnamed = not_there (member_of (attr_short Acpi) es) none

    unlinked : lacks_attr Acpi (link_row e es Acpi) ≡ true
    unlinked = rw unnamed refl
