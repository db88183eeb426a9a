-- What follows for admitted contents: what an update may do, the name that a creation gives, and that what is named is kept.
use Rattle.std.proofs.Common.{◌≡◌, ℕ, List, [], ◌∷◌, Bool, true, false, ◌&&◌, ◌||◌, Option, Some, None, is_some, IfSome, Result, Ok, Err, IfOk, option_and_then, unwrap_or, if◌then◌else◌, bytes_eq, inl, inr, refl, sym, ap, ◌∙◌, subst}
use Rattle.std.proofs.lemmas.Bool.{and_from, and_parts, both_ways, cases_Bool, false_from_ne_true, not-true, or_cases, or_from, or_parts}
use Rattle.std.proofs.lemmas.Option.{same_Some}
use Rattle.std.specs.List.{filter_map, list_all, list_any}
use Rattle.std.specs.Option.{option_map_or}
use Rattle.m2m_names.specs.Attributes.{attr_short, attr_of_short}
use Rattle.m2m_names.specs.Name.{is_free_name}
use Rattle.m2m_names.specs.declared.attributes.Attr.{Attr}
use Rattle.m2m_names.specs.declared.attributes.Attr.TheVariants.{Acpi, Cr, Et, Macp, Rn}
use Rattle.m2m_names.specs.declared.types.Ty.{Ty}
use Rattle.m2m_names.specs.declared.types.Ty.TheVariants.{AccessControlPolicy, Ae, Container, ContentInstance, CseBase, Group, PollingChannel, RemoteCse, Subscription, AccessControlPolicyAnnc, AeAnnc, ContainerAnnc, ContentInstanceAnnc, GroupAnnc}
use Rattle.m2m_value.specs.Data.{Data, Entry, null, boolean, number, text, list, object}
use Rattle.m2m_value.specs.View.{as_text, member_of}
use Rattle.resource_model.proofs.AttributeLemmas.{is_attr-same}
use Rattle.resource_model.specs.Attributes.{Row, is_attr, value_of}
use Rattle.attribute_kinds.specs.Kinds.{has_kind}
use Rattle.attribute_kinds.specs.declared.kinds.Kind.TheVariants.{Name, Originator, Policies, Stamp}
use Rattle.attribute_rules.specs.Admission.{is_null, is_given, is_clearable, is_fit, are_admitted, is_admitted, attributes_in, is_named, named_members}
use Rattle.attribute_rules.specs.Contents.{is_no_policy, does_clear, set_row, cleared_attr, named_text, wanted_in, edit_in, edit_of, set_all, edited}
use Rattle.attribute_rules.specs.Kinds.{kind_of}
use Rattle.attribute_rules.specs.Laws.{may_clear, may_name, may_set}
use Rattle.attribute_rules.specs.Table.{rule, rule_of, is_permitted}
use Rattle.attribute_rules.specs.declared.contents.Edit.{Edit}
use Rattle.attribute_rules.specs.declared.contents.Wanted.{Wanted}
use Rattle.attribute_rules.specs.declared.table.Optionality.TheVariants.{NotPermitted, Optional}
use Rattle.attribute_rules.specs.declared.table.Rule.{Rule}
use Rattle.attribute_rules.specs.declared.table.Source.TheVariants.{Apart}
use Rattle.attribute_rules.specs.declared.table.Writing.{Writing}
use Rattle.attribute_rules.specs.declared.table.Writing.TheVariants.{Create, Update}
use Rattle.attribute_rules.proofs.ContentsLemmas.{seen, no_some, set_choice, all_filter_map}
use Rattle.attribute_rules.proofs.KindLemmas.{Fitting, fit_rule, given_something, rule_emptied, admitted_parts}
use Rattle.attribute_rules.proofs.ValueLemmas.{here, cleared_at, row_set, kept_beside, value_cleared}

-- ---- what is set

set_may : (ty : Ty) (e : Entry) (row : Row) → is_fit Update ty e ≡ true → set_row e ≡ Some row → may_set ty row ≡ true
set_may ty e row fit h =
    let choice = set_choice e row h in
    let at = fit_rule Update ty e row.0 choice.attr fit in
    let something = (or_parts (is_null e.1) (is_no_policy row.0 e.1) choice.stays).0 in
    ap (λ d. may_set ty (row.0, d)) choice.value
    ∙ ap (λ (o : Option Rule). option_map_or (λ (r : Rule). is_permitted r.update && is_given r.source e.1) o false) at.is
    ∙ and_from _ _ at.permitted (given_something e.1 (rule_of ty row.0) at something)

sets_may : (ty : Ty) (es : List Entry) → list_all (is_fit Update ty) es ≡ true → list_all (may_set ty) (filter_map set_row es) ≡ true
sets_may ty es fit = all_filter_map (is_fit Update ty) (may_set ty) set_row (λ e row fits read. set_may ty e row fits read) es fit

fit_in : (writing : Writing) (ty : Ty) (es : List Entry) → are_admitted writing ty es ≡ true → list_all (is_fit writing ty) es ≡ true
fit_in writing ty es h = (admitted_parts writing ty es h).fit

sets_in : (ty : Ty) (o : Option (List Entry)) → option_map_or (are_admitted Update ty) o false ≡ true → list_all (may_set ty) (filter_map set_row (unwrap_or o [])) ≡ true
sets_in ty None h = refl
sets_in ty (Some es) h = sets_may ty es (fit_in Update ty es h)

-- what an admitted update sets it may set
pub admitted_sets : (ty : Ty) (content : Data) → is_admitted Update ty content ≡ true → list_all (may_set ty) (edit_of ty content).sets ≡ true
admitted_sets ty content h = sets_in ty (attributes_in ty content) h

-- ---- the expiry

value_passes : (p : Row → Bool) (a : Attr) (rows : List Row) (d : Data) → list_all p rows ≡ true → value_of a rows ≡ Some d → p (a, d) ≡ true
value_passes p a [] d all h = absurd (no_some d h)
value_passes p a (r ∷ rows) d all h =
    let parts = and_parts (p r) (list_all p rows) all in
    elim (cases_Bool (is_attr a r.0)) [
      | inl t ↦
          let value : r.1 ≡ d = same_Some r.1 d (rw t at h) in
          ap (λ x. p (x, d)) (is_attr-same a r.0 t) ∙ ap (λ x. p (r.0, x)) (sym value) ∙ parts.0
      | inr f ↦ value_passes p a rows d parts.1 (rw f at h)
    ]

stamp_set : (ty : Ty) (d : Data) → may_set ty (Et, d) ≡ true → has_kind Stamp d ≡ true
stamp_set AccessControlPolicy d h = h
stamp_set Ae d h = h
stamp_set Container d h = h
stamp_set ContentInstance d h = h
stamp_set CseBase d h = let no : false ≡ true = h in cc
stamp_set Group d h = h
stamp_set PollingChannel d h = h
stamp_set RemoteCse d h = h
stamp_set Subscription d h = h
stamp_set AccessControlPolicyAnnc d h = h
stamp_set AeAnnc d h = h
stamp_set ContainerAnnc d h = h
stamp_set ContentInstanceAnnc d h = h
stamp_set GroupAnnc d h = h

if_value : (o : Option Data) (P : Data → Type 0) → ((d : Data) → o ≡ Some d → P d) → IfSome o P
if_value None P means = tt
if_value (Some d) P means = means d refl

-- an expiry that an admitted update sets is a timestamp
pub sets_expiry : (ty : Ty) (es : List Entry) (sets : List Row) → are_admitted Update ty es ≡ true → sets ≡ filter_map set_row es → IfSome (value_of Et sets) (λ d. has_kind Stamp d ≡ true)
sets_expiry ty es sets h is =
    let may : list_all (may_set ty) sets ≡ true = ap (list_all (may_set ty)) is ∙ sets_may ty es (fit_in Update ty es h) in
    if_value (value_of Et sets) (λ d. has_kind Stamp d ≡ true)
    (λ d found. stamp_set ty d (value_passes (may_set ty) Et sets d may found))

pub admitted_expiry : (ty : Ty) (content : Data) → is_admitted Update ty content ≡ true → IfSome (value_of Et (edit_of ty content).sets) (λ d. has_kind Stamp d ≡ true)
admitted_expiry ty content h =
    if_value (value_of Et (edit_of ty content).sets) (λ d. has_kind Stamp d ≡ true)
    (λ d is. stamp_set ty d (value_passes (may_set ty) Et (edit_of ty content).sets d (admitted_sets ty content h) is))

-- ---- what is cleared

null_from : (d : Data) → is_null d ≡ true → d ≡ null
null_from null h = refl
null_from (boolean b) h = let no : false ≡ true = h in cc
null_from (number z) h = let no : false ≡ true = h in cc
null_from (text s) h = let no : false ≡ true = h in cc
null_from (list es) h = let no : false ≡ true = h in cc
null_from (object ps) h = let no : false ≡ true = h in cc

-- no policy can be named but at these
policies_at : (a : Attr) (d : Data) → is_no_policy a d ≡ true → (is_attr a Acpi || is_attr a Macp) ≡ true
policies_at Acpi d h = refl
policies_at Macp d h = refl
policies_at _ d h = let no : false ≡ true = h in cc

cleared_rule : (d : Data) (ty : Ty) (a : Attr) (at : Fitting Update d (rule_of ty a)) → does_clear a d ≡ true → is_clearable Update at.rule ≡ true
cleared_rule d ty a at clears =
    let emptied = rule_emptied ty a at.rule at.is in
    elim (or_cases (is_null d) (is_no_policy a d) clears) [
      | inl nothing ↦ elim (or_cases (is_null d && is_clearable Update at.rule) (is_given at.rule.source d) at.fits) [
        | inl t ↦ (and_parts (is_null d) (is_clearable Update at.rule) t).1
        | inr given ↦
            let null_given : is_given at.rule.source null ≡ true = ap (is_given at.rule.source) (sym (null_from d nothing)) ∙ given in
            elim (or_cases _ (is_clearable Update at.rule) emptied.nothing) [
              | inl never ↦ absurd (both_ways _ (not-true _ never) (and_from _ _ at.permitted null_given))
              | inr t ↦ t
            ]
      ]
      | inr empty ↦ elim (or_cases _ (is_clearable Update at.rule) emptied.policies) [
        | inl never ↦ absurd (both_ways _ (not-true _ never) (policies_at a d empty))
        | inr t ↦ t
      ]
    ]

clear_may : (ty : Ty) (e : Entry) (a : Attr) → is_fit Update ty e ≡ true → cleared_attr e ≡ Some a → may_clear ty a ≡ true
clear_may ty e a fit h =
    let cleared = cleared_at e.1 (attr_of_short e.0) a h in
    let at = fit_rule Update ty e a cleared.0 fit in
    ap (λ (o : Option Rule). option_map_or (is_clearable Update) o false) at.is
    ∙ cleared_rule e.1 ty a at cleared.1

clears_may : (ty : Ty) (es : List Entry) → list_all (is_fit Update ty) es ≡ true → list_all (may_clear ty) (filter_map cleared_attr es) ≡ true
clears_may ty es fit = all_filter_map (is_fit Update ty) (may_clear ty) cleared_attr (λ e a fits read. clear_may ty e a fits read) es fit

clears_in : (ty : Ty) (o : Option (List Entry)) → option_map_or (are_admitted Update ty) o false ≡ true → list_all (may_clear ty) (filter_map cleared_attr (unwrap_or o [])) ≡ true
clears_in ty None h = refl
clears_in ty (Some es) h = clears_may ty es (fit_in Update ty es h)

-- what an admitted update clears it may clear
pub admitted_clears : (ty : Ty) (content : Data) → is_admitted Update ty content ≡ true → list_all (may_clear ty) (edit_of ty content).clears ≡ true
admitted_clears ty content h = clears_in ty (attributes_in ty content) h

-- ---- what stays

set_names : (d : Data) (o : Option Rule) → option_map_or (λ (r : Rule). is_permitted r.update && is_given r.source d) o false ≡ true → option_map_or (λ (r : Rule). is_permitted r.update) o false ≡ true
set_names d None h = h
set_names d (Some r) h = (and_parts (is_permitted r.update) (is_given r.source d) h).0

clear_names : (o : Option Rule) → option_map_or (is_clearable Update) o false ≡ true → option_map_or (λ (r : Rule). is_permitted r.update) o false ≡ true
clear_names None h = h
clear_names (Some r) h = (and_parts (is_permitted r.update) _ h).0

-- another attribute than one that an update may not name
other_than : (ty : Ty) (a b : Attr) → may_name ty a ≡ false → may_name ty b ≡ true → is_attr a b ≡ false
other_than ty a b never may = false_from_ne_true _ (λ t. both_ways _ never (ap (may_name ty) (is_attr-same a b t) ∙ may))

stays_set : (ty : Ty) (a : Attr) (sets rows : List Row) → may_name ty a ≡ false → list_all (may_set ty) sets ≡ true → value_of a (set_all sets rows) ≡ value_of a rows
stays_set ty a [] rows never all = refl
stays_set ty a (s ∷ sets) rows never all =
    let parts = and_parts (may_set ty s) (list_all (may_set ty) sets) all in
    stays_set ty a sets (row_set s rows) never parts.1
    ∙ kept_beside a s rows (other_than ty a s.0 never (set_names s.1 (rule_of ty s.0) parts.0))

stays_clear : (ty : Ty) (a : Attr) (attrs : List Attr) → may_name ty a ≡ false → list_all (may_clear ty) attrs ≡ true → list_any (is_attr a) attrs ≡ false
stays_clear ty a [] never all = refl
stays_clear ty a (x ∷ attrs) never all =
    let parts = and_parts (may_clear ty x) (list_all (may_clear ty) attrs) all in
    or_from _ _ (other_than ty a x never (clear_names (rule_of ty x) parts.0)) (stays_clear ty a attrs never parts.1)

-- an admitted update leaves as it is what it may not name
stays_edited : (ty : Ty) (a : Attr) (edit : Edit) (rows : List Row) → may_name ty a ≡ false → list_all (may_set ty) edit.sets ≡ true → list_all (may_clear ty) edit.clears ≡ true → value_of a (edited edit rows) ≡ value_of a rows
stays_edited ty a edit rows never sets clears =
    value_cleared a edit.clears (set_all edit.sets rows)
    ∙ ap (λ b. if b then None else value_of a (set_all edit.sets rows)) (stays_clear ty a edit.clears never clears)
    ∙ stays_set ty a edit.sets rows never sets

pub members_leave : (ty : Ty) (es : List Entry) (a : Attr) (rows : List Row) → are_admitted Update ty es ≡ true → may_name ty a ≡ false → value_of a (edited (edit_in es) rows) ≡ value_of a rows
members_leave ty es a rows h never =
    stays_edited ty a (edit_in es) rows never (sets_may ty es (fit_in Update ty es h)) (clears_may ty es (fit_in Update ty es h))

pub admitted_others : (ty : Ty) (content : Data) (a : Attr) (rows : List Row) → is_admitted Update ty content ≡ true → may_name ty a ≡ false → value_of a (edited (edit_of ty content) rows) ≡ value_of a rows
admitted_others ty content a rows h never = stays_edited ty a (edit_of ty content) rows never (admitted_sets ty content h) (admitted_clears ty content h)

-- ---- the name

named_fits : (writing : Writing) (ty : Ty) (a : Attr) (es : List Entry) (d : Data) → list_all (is_fit writing ty) es ≡ true → member_of (attr_short a) es ≡ Some d → Fitting writing d (rule_of ty a)
named_fits writing ty a [] d fit h = absurd (no_some d h)
named_fits writing ty a (e ∷ es) d fit h =
    let parts = and_parts (is_fit writing ty e) (list_all (is_fit writing ty) es) fit in
    elim (cases_Bool (bytes_eq (attr_short a) e.0)) [
      | inl t ↦
          let same : e.1 ≡ d = same_Some e.1 d (rw t at h) in
          subst (λ x. Fitting writing x (rule_of ty a)) same (fit_rule writing ty e a (here a e.0 t) parts.0)
      | inr f ↦ named_fits writing ty a es d parts.1 (rw f at h)
    ]

name_given : (d : Data) (r : Rule) → Some (rule (Apart Name) Optional NotPermitted false) ≡ Some r → is_given r.source d ≡ true → has_kind Name d ≡ true
name_given d r is given = ap (λ (x : Rule). is_given x.source d) (same_Some _ r is) ∙ given

name_of_type : (ty : Ty) (d : Data) (r : Rule) → rule_of ty Rn ≡ Some r → is_given r.source d ≡ true → has_kind Name d ≡ true
name_of_type AccessControlPolicy d r is given = name_given d r is given
name_of_type Ae d r is given = name_given d r is given
name_of_type Container d r is given = name_given d r is given
name_of_type ContentInstance d r is given = name_given d r is given
name_of_type CseBase d r is given = absurd (no_some r is)
name_of_type Group d r is given = name_given d r is given
name_of_type PollingChannel d r is given = name_given d r is given
name_of_type RemoteCse d r is given = name_given d r is given
name_of_type Subscription d r is given = name_given d r is given
name_of_type AccessControlPolicyAnnc d r is given = name_given d r is given
name_of_type AeAnnc d r is given = name_given d r is given
name_of_type ContainerAnnc d r is given = name_given d r is given
name_of_type ContentInstanceAnnc d r is given = name_given d r is given
name_of_type GroupAnnc d r is given = name_given d r is given

name_fits : (ty : Ty) (d : Data) → Fitting Create d (rule_of ty Rn) → has_kind Name d ≡ true
name_fits ty d at = elim (or_cases (is_null d && false) (is_given at.rule.source d) at.fits) [
  | inl t ↦ absurd (both_ways false refl (and_parts (is_null d) false t).1)
  | inr t ↦ name_of_type ty d at.rule at.is t
]

text_free : (d : Data) → has_kind Name d ≡ true → IfSome (as_text d) (λ s. is_free_name s ≡ true)
text_free null h = tt
text_free (boolean b) h = tt
text_free (number z) h = tt
text_free (text s) h = h
text_free (list es) h = tt
text_free (object ps) h = tt

free_in : (o : Option Data) → ((d : Data) → o ≡ Some d → has_kind Name d ≡ true) → IfSome (option_and_then as_text o) (λ s. is_free_name s ≡ true)
free_in None means = tt
free_in (Some d) means = text_free d (means d refl)

pub free_name : (ty : Ty) (es : List Entry) → are_admitted Create ty es ≡ true → IfSome (named_text Rn es) (λ s. is_free_name s ≡ true)
free_name ty es h =
    free_in (member_of (attr_short Rn) es) (λ d is. name_fits ty d (named_fits Create ty Rn es d (fit_in Create ty es h) is))

pub name_free : (ty : Ty) (es : List Entry) (name : Option (List ℕ)) → are_admitted Create ty es ≡ true → name ≡ named_text Rn es → IfSome name (λ s. is_free_name s ≡ true)
name_free ty es name h is = subst (λ (x : Option (List ℕ)). IfSome x (λ s. is_free_name s ≡ true)) (sym is) (free_name ty es h)

-- ---- what is named is kept

-- what a request may give among these attributes is kept as it has to be
policies_kept : (ty : Ty) (r : Rule) → rule_of ty Acpi ≡ Some r → kind_of ty Acpi ≡ Some Policies
policies_kept AccessControlPolicy r is = absurd (no_some r is)
policies_kept Ae r is = refl
policies_kept Container r is = refl
policies_kept ContentInstance r is = absurd (no_some r is)
policies_kept CseBase r is = refl
policies_kept Group r is = refl
policies_kept PollingChannel r is = absurd (no_some r is)
policies_kept RemoteCse r is = refl
policies_kept Subscription r is = refl
policies_kept AccessControlPolicyAnnc r is = refl
policies_kept AeAnnc r is = refl
policies_kept ContainerAnnc r is = refl
policies_kept ContentInstanceAnnc r is = refl
policies_kept GroupAnnc r is = refl

fan_policies_kept : (ty : Ty) (r : Rule) → rule_of ty Macp ≡ Some r → kind_of ty Macp ≡ Some Policies
fan_policies_kept Group r is = refl
fan_policies_kept _ r is = absurd (no_some r is)

creator_kept : (ty : Ty) (r : Rule) → rule_of ty Cr ≡ Some r → kind_of ty Cr ≡ Some Originator
creator_kept Container r is = refl
creator_kept ContentInstance r is = refl
creator_kept Group r is = refl
creator_kept Subscription r is = refl
creator_kept _ r is = absurd (no_some r is)

-- the type has each attribute that an admitted content names
named_rule : (writing : Writing) (ty : Ty) (a : Attr) (P : Type 0) → ((r : Rule) → rule_of ty a ≡ Some r → P) → (es : List Entry) → are_admitted writing ty es ≡ true → is_named a es ≡ true → P
named_rule writing ty a P means es h named = elim (seen (member_of (attr_short a) es)) [
  | inl none ↦ absurd (both_ways _ (ap is_some none) named)
  | inr found ↦
      let at = named_fits writing ty a es found.0 (fit_in writing ty es h) found.1 in
      means at.rule at.is
]

pub members_keep_policies : (writing : Writing) (ty : Ty) (es : List Entry) → are_admitted writing ty es ≡ true → is_named Acpi es ≡ true → kind_of ty Acpi ≡ Some Policies
members_keep_policies writing ty es h named = named_rule writing ty Acpi _ (policies_kept ty) es h named

pub members_keep_fan_policies : (writing : Writing) (ty : Ty) (es : List Entry) → are_admitted writing ty es ≡ true → is_named Macp es ≡ true → kind_of ty Macp ≡ Some Policies
members_keep_fan_policies writing ty es h named = named_rule writing ty Macp _ (fan_policies_kept ty) es h named

pub members_keep_creator : (writing : Writing) (ty : Ty) (es : List Entry) → are_admitted writing ty es ≡ true → is_named Cr es ≡ true → kind_of ty Cr ≡ Some Originator
members_keep_creator writing ty es h named = named_rule writing ty Cr _ (creator_kept ty) es h named

-- and so of a content
named_in : (writing : Writing) (ty : Ty) (a : Attr) (P : Type 0) → ((es : List Entry) → are_admitted writing ty es ≡ true → is_named a es ≡ true → P) → (o : Option (List Entry)) → option_map_or (are_admitted writing ty) o false ≡ true → is_named a (unwrap_or o []) ≡ true → P
named_in writing ty a P means None h named = absurd (both_ways _ refl h)
named_in writing ty a P means (Some es) h named = means es h named

pub named_policies : (writing : Writing) (ty : Ty) (content : Data) → is_admitted writing ty content ≡ true → is_named Acpi (named_members ty content) ≡ true → kind_of ty Acpi ≡ Some Policies
named_policies writing ty content h named = named_in writing ty Acpi _ (members_keep_policies writing ty) (attributes_in ty content) h named

pub named_fan_policies : (writing : Writing) (ty : Ty) (content : Data) → is_admitted writing ty content ≡ true → is_named Macp (named_members ty content) ≡ true → kind_of ty Macp ≡ Some Policies
named_fan_policies writing ty content h named = named_in writing ty Macp _ (members_keep_fan_policies writing ty) (attributes_in ty content) h named

pub named_creator : (writing : Writing) (ty : Ty) (content : Data) → is_admitted writing ty content ≡ true → is_named Cr (named_members ty content) ≡ true → kind_of ty Cr ≡ Some Originator
named_creator writing ty content h named = named_in writing ty Cr _ (members_keep_creator writing ty) (attributes_in ty content) h named
