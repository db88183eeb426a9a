-- What an Update does that names `acpi` or the rules of a policy: it names `acpi` alone, or is of a
-- policy. So it changes no members of a group and no limits of a container, and pushes out nothing.
use Rattle.sight_laws.proofs.Words.{◌≡◌, ℕ, List, [], ◌∷◌, ◌++◌, map, length, Bool, true, false, cond, not, ◌&&◌, ◌||◌, Option, Some, None, is_some, inl, inr, refl, sym, ap, ◌∙◌, bytes_eq, list_any, option_and_then, option_map_or, ◌==◌}
use Rattle.sight_laws.proofs.Terms.{attr_short, Attr, Acpi, Csy, Et, Macp, Mia, Mid, Mnm, Mt, Pv, Pvs, St, Ty, Container, Group, Data, Entry, AreSorted, list, elements_of, number, Row, is_attr, ResourceData, is_ty, at, instances_of, are_admitted, is_named, may_name, Updating, evicted, limits_of, EntityData, IsSoundEntity, NewValue, RequestParts, MembershipData, does_edit_members, group_rows, membership_edited, link_row, listed, policy_ids, content_for, named_for, own_rows, pushed_by, state_row, updated_resource}
use Rattle.sight_laws.proofs.Facts.{and_parts, both_ways, cases_Bool, cond_both, false_from_ne_true, list_any-append, or_cases, or_from, or_parts, is_attr-same, same_Some, same_type, eqb-true}
use Rattle.std.specs.Prelude.{pos}
use Rattle.m2m_value.specs.View.{as_object, only_member}
use Rattle.m2m_names.specs.Types.{all_types, ty_member}
use Rattle.attribute_rules.specs.Admission.{attributes_in, is_alone, only_value}
use Rattle.attribute_rules.proofs.ContentsLemmas.{same_text}
use Rattle.attribute_rules.proofs.KindLemmas.{admitted_parts}
use Rattle.create_delete.proofs.LeftLemmas.{pushes_nothing}
use Rattle.create_delete.proofs.PushingLemmas.{by_pushing}
use Rattle.create_delete.proofs.RelinkLemmas.{NamesLink, limits_kept, relinked}
use Rattle.sight_laws.specs.Laws.{changes_rules, names_rules}
use Rattle.sight_laws.proofs.ChangeRowsLemmas.{is_touched}
use Rattle.sight_laws.proofs.EditLemmas.{NoneNamed, edit_changes, edits_pass, row_changes, unnamed}
use Rattle.sight_laws.proofs.UpdateSeenLemmas.{changes_of, given_by}

-- ---- what contents name

-- a type is among all
listed_type : (ty : Ty) → list_any (λ (t : Ty). is_ty t ty) all_types ≡ true
listed_type Container = refl
listed_type _ = refl

none_of : (p : Ty → Bool) (ty : Ty) (types : List Ty) → list_any p types ≡ false → list_any (λ (t : Ty). is_ty t ty) types ≡ true → p ty ≡ false
none_of p ty [] none some = absurd (both_ways _ refl some)
none_of p ty (t ∷ types) none some =
    let parts = or_parts (p t) (list_any p types) none in
    elim (or_cases (is_ty t ty) (list_any (λ (u : Ty). is_ty u ty) types) some) [
      | inl here ↦ ap p (sym (same_type t ty (eqb-true _ _ here))) ∙ parts.0
      | inr later ↦ none_of p ty types parts.1 later
    ]

some_of : (p : Ty → Bool) (types : List Ty) → list_any p types ≡ true → (ty : Ty) × (p ty ≡ true)
some_of p [] some = absurd (both_ways _ refl some)
some_of p (t ∷ types) some = elim (or_cases (p t) (list_any p types) some) [
  | inl here ↦ (t, here)
  | inr later ↦ some_of p types later
]

-- a content that names none of the rules names none for any type
pub calm_for : (request : RequestParts) → changes_rules request ≡ false → (ty : Ty) → names_rules (named_for request ty) ≡ false
calm_for request calm ty = none_of (λ (t : Ty). names_rules (named_for request t)) ty all_types calm (listed_type ty)

-- for whatever types a content is read, it names one list of attributes
read_once : (a b : List ℕ) (o : Option (List Entry)) (xs ys : List Entry) → option_and_then as_object (option_and_then (only_value a) o) ≡ Some xs → option_and_then as_object (option_and_then (only_value b) o) ≡ Some ys → xs ≡ ys
read_once a b None xs ys first second = cc
read_once a b (Some []) xs ys first second = cc
read_once a b (Some (x ∷ [])) xs ys first second = elim (cases_Bool (bytes_eq x.0 a)) [
  | inr f ↦ (let none : None ≡ Some xs = rw f at first in cc)
  | inl t ↦ elim (cases_Bool (bytes_eq x.0 b)) [
    | inr f ↦ (let none : None ≡ Some ys = rw f at second in cc)
    | inl u ↦
        let one : as_object x.1 ≡ Some xs = rw t at first in
        let other : as_object x.1 ≡ Some ys = rw u at second in
        same_Some xs ys (sym one ∙ other)
  ]
]
read_once a b (Some (x ∷ y ∷ more)) xs ys first second = cc

one_content : (request : RequestParts) (a b : Ty) (xs ys : List Entry) → content_for request a ≡ Some xs → content_for request b ≡ Some ys → xs ≡ ys
one_content request a b xs ys first second = by request.pc first second
  where
    by : (pc : Option Data) → option_and_then (attributes_in a) pc ≡ Some xs → option_and_then (attributes_in b) pc ≡ Some ys → xs ≡ ys
    by None none lacks = cc
    by (Some content) one other = read_once (ty_member a) (ty_member b) (as_object content) xs ys one other

-- so where it names a rule for some type, it does for each for which it can be read
pub rules_for : (request : RequestParts) → changes_rules request ≡ true → (ty : Ty) (es : List Entry) → content_for request ty ≡ Some es → names_rules es ≡ true
rules_for request some ty es whole =
    let found = some_of (λ (t : Ty). names_rules (named_for request t)) all_types some in
    by found.0 (content_for request found.0) refl found.1
  where
    by : (other : Ty) (o : Option (List Entry)) → content_for request other ≡ o → names_rules (option_map_or (λ (xs : List Entry). xs) o []) ≡ true → names_rules es ≡ true
    by other None is named = absurd (both_ways _ refl named)
    by other (Some xs) is named = ap names_rules (one_content request ty other es xs whole is) ∙ named

-- ---- what an admitted Update names beside them

-- policies alone have rules; they are no groups and no containers, and no age is theirs
pv_apart : (ty : Ty) → (may_name ty Pv && (is_ty ty Group || is_ty ty Container || may_name ty Mia)) ≡ false
pv_apart Container = refl
pv_apart _ = refl

pvs_apart : (ty : Ty) → (may_name ty Pvs && (is_ty ty Group || is_ty ty Container || may_name ty Mia)) ≡ false
pvs_apart Container = refl
pvs_apart _ = refl

record IsApart (ty : Ty) : Type 0 where
  group : is_ty ty Group ≡ false
  container : is_ty ty Container ≡ false
  age : may_name ty Mia ≡ false

apart_from : (ty : Ty) (may : Bool) → (may && (is_ty ty Group || is_ty ty Container || may_name ty Mia)) ≡ false → may ≡ true → IsApart ty
apart_from ty true none is =
    let first = or_parts (is_ty ty Group || is_ty ty Container) (may_name ty Mia) none in
    let second = or_parts (is_ty ty Group) (is_ty ty Container) first.0 in
    record { group = second.0; container = second.1; age = first.1 }
apart_from ty false none is = absurd (both_ways _ refl is)

-- it names `acpi` alone, or is of a policy
data RulesBy (ty : Ty) (es : List Entry) : Type 0 where
  by_link : NamesLink es → RulesBy ty es
  by_policy : IsApart ty → RulesBy ty es

link_of : (es : List Entry) → is_alone es ≡ true → is_named Acpi es ≡ true → NamesLink es
link_of [] alone named = cc
link_of (x ∷ []) alone named = elim (cases_Bool (bytes_eq (attr_short Acpi) x.0)) [
  | inl t ↦ (x.1, ap (λ (k : List ℕ). (k, x.1) ∷ []) (sym (same_text (attr_short Acpi) x.0 t)))
  | inr f ↦ absurd (both_ways _ refl (rw f at named))
]
link_of (x ∷ y ∷ xs) alone named = cc

rules_by : (ty : Ty) (es : List Entry) → AreSorted es → are_admitted Updating ty es ≡ true → names_rules es ≡ true → RulesBy ty es
rules_by ty es sorted admitted some = elim (cases_Bool (is_named Acpi es)) [
  | inl t ↦
      let complete : (not (is_named Acpi es) || is_alone es) ≡ true = (admitted_parts Updating ty es admitted).complete in
      let alone : is_alone es ≡ true = rw t at complete in
      by_link (link_of es alone t)
  | inr f ↦
      let others : (is_named Pv es || (is_named Pvs es || false)) ≡ true = rw f at some in
      elim (or_cases (is_named Pv es) (is_named Pvs es || false) others) [
        | inl named ↦ by_policy (apart_from ty (may_name ty Pv) (pv_apart ty) (may Pv named refl))
        | inr rest ↦ elim (or_cases (is_named Pvs es) false rest) [
          | inl named ↦ by_policy (apart_from ty (may_name ty Pvs) (pvs_apart ty) (may Pvs named refl))
          | inr neither ↦ absurd (both_ways _ refl neither)
        ]
      ]
]
  where
    may : (a : Attr) → is_named a es ≡ true → is_attr a Et ≡ false → may_name ty a ≡ true
    may a named kept = elim (cases_Bool (may_name ty a)) [
      | inl t ↦ t
      | inr never ↦ absurd (both_ways _ (unnamed ty es a sorted admitted never kept) named)
    ]

-- ---- so it changes nothing beside

-- one of the rows is of the greatest age
abbrev aged : List Row → Bool
aged rows = list_any (λ (row : Row). is_attr row.0 Mia) rows

pub record ChangesRules (r : ResourceData) (es : List Entry) : Type 0 where
  pub members : does_edit_members r es ≡ false
  pub age : is_named Mia es ≡ false
  pub defaults : is_ty r.ty Group ≡ true → (is_named Csy es ≡ false) × (is_named Mt es ≡ false)
  pub limits : is_ty r.ty Container ≡ true → NamesLink es

no_members : (r : ResourceData) (es : List Entry) → (is_ty r.ty Group ≡ true → (is_named Mid es || is_named Mnm es) ≡ false) → does_edit_members r es ≡ false
no_members r es none = elim (cases_Bool (is_ty r.ty Group)) [
  | inl t ↦ rw t (none t)
  | inr f ↦ rw f refl
]

changes_only : (r : ResourceData) (es : List Entry) → AreSorted es → are_admitted Updating r.ty es ≡ true → RulesBy r.ty es → ChangesRules r es
changes_only r es sorted admitted (by_link alone) = record {
  members = no_members r es (λ group. or_from _ _ (ap (is_named Mid) alone.1) (ap (is_named Mnm) alone.1));
  age = ap (is_named Mia) alone.1;
  defaults = λ group. (ap (is_named Csy) alone.1, ap (is_named Mt) alone.1);
  limits = λ container. alone;
}
changes_only r es sorted admitted (by_policy apart) = record {
  members = no_members r es (λ group. absurd (both_ways _ apart.group group));
  age = unnamed r.ty es Mia sorted admitted apart.age refl;
  defaults = λ group. absurd (both_ways _ apart.group group);
  limits = λ container. absurd (both_ways _ apart.container container);
}

pub changes_rules_only : (r : ResourceData) (es : List Entry) → AreSorted es → are_admitted Updating r.ty es ≡ true → names_rules es ≡ true → ChangesRules r es
changes_rules_only r es sorted admitted some = changes_only r es sorted admitted (rules_by r.ty es sorted admitted some)

module _ (e : EntityData) (r : ResourceData) (es : List Entry) (only : ChangesRules r es) where
  no_membership : membership_edited r es ≡ None
  no_membership = rw only.members refl

  pub own_are : own_rows e es r ≡ state_row r ++ []
  own_are = ap (λ (m : Option MembershipData). state_row r ++ group_rows e m) no_membership

  -- it pushes out nothing
  pub pushes_none : IsSoundEntity e → at r.number e.nodes ≡ Some r → pushed_by e (updated_resource e es r) ≡ []
  pushes_none sound there =
      by_pushing (λ (gone : List ℕ). gone ≡ []) e (updated_resource e es r)
      (λ t.
      ap (λ l. evicted l None e.last (instances_of r.number e.nodes)) (limits_kept r (updated_resource e es r) t (relinked e es r (only.limits t)))
      ∙ pushes_nothing e r sound there t)
      (λ f. refl)

  -- and changes no age
  pub ages_stay : is_touched (changes_of e es r) Mia ≡ false
  ages_stay =
      list_any-append (λ (c : NewValue). is_attr c.0 Mia) (edit_changes es) (row_changes (given_by e es r))
      ∙ or_from _ _ (edits_pass (λ (a : Attr). is_attr a Mia) es other) (all_rows (given_by e es r) given)
    where
      other : NoneNamed (λ (a : Attr). is_attr a Mia) es
      other a named = false_from_ne_true _ (λ t. both_ways _ only.age (ap (λ (c : Attr). is_named c es) (sym (is_attr-same a Mia t)) ∙ named))

      all_rows : (rows : List Row) → aged rows ≡ false → list_any (λ (c : NewValue). is_attr c.0 Mia) (row_changes rows) ≡ false
      all_rows [] none = refl
      all_rows (row ∷ rows) none = (let parts = or_parts (is_attr row.0 Mia) _ none in or_from _ _ parts.0 (all_rows rows parts.1))

      split : (xs ys : List Row) → aged xs ≡ false → aged ys ≡ false → aged (xs ++ ys) ≡ false
      split xs ys first second = list_any-append (λ (row : Row). is_attr row.0 Mia) xs ys ∙ or_from _ _ first second

      state : aged (state_row r) ≡ false
      state = cond_both (is_ty r.ty Container) _ _ (λ (rows : List Row). aged rows ≡ false) (λ t. refl) (λ f. refl)

      link : (attr : Attr) → is_attr attr Mia ≡ false → aged (link_row e es attr) ≡ false
      link attr apart =
          cond_both (length (listed attr es) == 0) [] ((attr, list (elements_of (policy_ids e (listed attr es)))) ∷ []) (λ (rows : List Row). aged rows ≡ false)
          (λ t. refl) (λ f. or_from _ _ apart refl)

      given : aged (given_by e es r) ≡ false
      given =
          ap (λ (own : List Row). aged ((own ++ link_row e es Acpi) ++ link_row e es Macp)) own_are
          ∙ split ((state_row r ++ []) ++ link_row e es Acpi) (link_row e es Macp)
          (split (state_row r ++ []) (link_row e es Acpi) (split (state_row r) [] state refl) (link Acpi refl)) (link Macp refl)
