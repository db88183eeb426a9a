-- What admitted contents give a resource is of the kinds that it keeps.
use Rattle.std.proofs.Common.{◌≡◌, List, [], ◌∷◌, Bool, true, false, not, ◌&&◌, ◌||◌, Option, Some, None, option_map, option_and_then, unwrap_or, if◌then◌else◌, inl, inr, refl, sym, ap, ◌∙◌}
use Rattle.std.proofs.lemmas.Bool.{cases_Bool, and_parts, and_from, or_cases, or_left, or_parts, or_right, not-true, not_from_false, both_ways}
use Rattle.std.proofs.lemmas.List.Folds.{list_all-append}
use Rattle.std.proofs.lemmas.Option.{same_Some}
use Rattle.std.specs.List.{cons_option, filter_map, find, list_all}
use Rattle.std.specs.Option.{option_or, option_map_or}
use Rattle.std.specs.Ordering.{is_lt}
use Rattle.m2m_names.specs.Attributes.{attr_of_short}
use Rattle.m2m_names.specs.declared.attributes.Attr.{Attr}
use Rattle.m2m_names.specs.declared.attributes.Attr.TheVariants.{Acpi, Et, Macp}
use Rattle.m2m_names.specs.declared.types.Ty.{Ty}
use Rattle.m2m_value.specs.Data.{Data, Entry, null}
use Rattle.resource_model.specs.Attributes.{Row, attr_cmp, is_attr, rows_before, rows_after, with_value, without_value}
use Rattle.resource_model.proofs.AttributeLemmas.{is_attr-same}
use Rattle.attribute_kinds.specs.Kinds.{has_kind}
use Rattle.attribute_rules.specs.Kinds.{kept_kind, opening_kind, is_attr_kind, have_kinds}
use Rattle.attribute_rules.specs.Table.{AttrRow, attr_rows, is_row_for, table_rule, inherited_rule, rule_of, announced_rule, announced_source, original_of, is_permitted}
use Rattle.attribute_rules.specs.Admission.{is_null, is_given, is_clearable, column_of, allows_value, is_fit, is_complete, are_admitted, is_admitted, attributes_in}
use Rattle.attribute_rules.specs.Contents.{is_apart, is_no_policy, kept_row, set_row, cleared_attr, wanted_in, wanted_of, edit_in, edit_of, set_all, clear_all, edited}
use Rattle.attribute_rules.specs.Laws.{is_beside}
use Rattle.attribute_rules.specs.declared.table.Rule.{Rule}
use Rattle.attribute_rules.specs.declared.table.Source.{Source}
use Rattle.attribute_rules.specs.declared.table.Source.TheVariants.{Given, Apart, Creator, Assigned, Derived}
use Rattle.attribute_rules.specs.declared.table.Writing.{Writing}
use Rattle.attribute_rules.specs.declared.table.Writing.TheVariants.{Create, Update}
use Rattle.attribute_rules.proofs.ContentsLemmas.{seen, no_some, kept_choice, set_choice, all_filter_map}
use Rattle.m2m_names.proofs.ListLemmas.{all_filtered}
use Rattle.m2m_names.proofs.LookupLemmas.{found_is, found_passes}

-- ---- a fact of the table

-- what isn't kept as it is given is told apart in a creation, and of it an update names `et` alone
abbrev is_parted : Attr → Rule → Bool
is_parted attr r = not (is_beside r.source) || (is_apart attr && (not (is_permitted r.update) || is_attr attr Et))

-- where an update may give null, or policies, it may clear the attribute
abbrev is_emptied : Attr → Rule → Bool
is_emptied attr r =
    (not (is_permitted r.update && is_given r.source null) || is_clearable Update r)
    && (not (is_attr attr Acpi || is_attr attr Macp) || is_clearable Update r)

abbrev is_fair : Attr → Rule → Bool
is_fair attr r = is_parted attr r && is_emptied attr r

-- what can be announced is kept as it is given
abbrev is_fair_original : Rule → Bool
is_fair_original r = not r.announced || not (is_beside r.source)

abbrev is_fair_row : AttrRow → Bool
is_fair_row row = is_fair row.attr row.rule && is_fair_original row.rule

rows_fair : list_all is_fair_row attr_rows ≡ true
rows_fair = refl

found_row : (p q : AttrRow → Bool) (rows : List AttrRow) (row : AttrRow) → list_all q rows ≡ true → find p rows ≡ Some row → (p row ≡ true) × (q row ≡ true)
found_row p q rows row all found = (found_is p rows row found, found_passes p q rows row found all)

abbrev IsFairRule : Attr → Rule → Type 0
IsFairRule a r = (is_fair a r ≡ true) × (is_fair_original r ≡ true)

fair_in : (rows : List AttrRow) → list_all is_fair_row rows ≡ true → (ty : Ty) (a : Attr) (o : Option AttrRow) → find (is_row_for ty a) rows ≡ o → (r : Rule) → option_map (λ (row : AttrRow). row.rule) o ≡ Some r → IsFairRule a r
fair_in rows all ty a None is r h = absurd (no_some r h)
fair_in rows all ty a (Some row) is r h =
    let found = found_row (is_row_for ty a) is_fair_row rows row all is in
    let same : a ≡ row.attr = is_attr-same a row.attr (and_parts _ _ found.0).0 in
    let fair = and_parts (is_fair row.attr row.rule) (is_fair_original row.rule) found.1 in
    let rule_is : row.rule ≡ r = same_Some row.rule r h in
    (ap (λ b. is_fair b r) same ∙ ap (is_fair row.attr) (sym rule_is) ∙ fair.0, ap is_fair_original (sym rule_is) ∙ fair.1)

table_fair : (ty : Ty) (a : Attr) (r : Rule) → table_rule ty a ≡ Some r → IsFairRule a r
table_fair ty a r h = fair_in attr_rows rows_fair ty a (find (is_row_for ty a) attr_rows) refl r h

beside_announced : (s : Source) → is_beside s ≡ false → is_beside (announced_source s) ≡ false
beside_announced (Given kind) h = refl
beside_announced (Apart kind) h = cc
beside_announced Creator h = cc
beside_announced (Assigned kind) h = refl
beside_announced Derived h = refl

-- what is announced is kept as it is given, and may be cleared
record IsFree (r : Rule) : Type 0 where
  kept : is_beside r.source ≡ false
  clears : is_clearable Update r ≡ true

announced_fair : (q r : Rule) → is_fair_original q ≡ true → announced_rule q ≡ Some r → IsFree r
announced_fair q r fair h = elim (cases_Bool q.announced) [
  | inl t ↦
      let kept : is_beside q.source ≡ false = not-true _ (rw t at fair) in
      let is = same_Some _ r (rw t at h) in
      record {
        kept = ap (λ (x : Rule). is_beside x.source) (sym is) ∙ beside_announced q.source kept;
        clears = ap (is_clearable Update) (sym is);
      }
  | inr f ↦ absurd (no_some r (rw f at h))
]

inherited_fair : (o : Option Rule) → ((q : Rule) → o ≡ Some q → is_fair_original q ≡ true) → (r : Rule) → option_and_then announced_rule o ≡ Some r → IsFree r
inherited_fair None fair r h = absurd (no_some r h)
inherited_fair (Some q) fair r h = announced_fair q r (fair q refl) h

looked_up : (look : Ty → Option Rule) (o : Option Ty) (q : Rule) → option_and_then look o ≡ Some q → (x : Ty) × (look x ≡ Some q)
looked_up look None q h = absurd (no_some q h)
looked_up look (Some x) q h = (x, h)

either_fair : (a : Attr) (o p : Option Rule) → ((q : Rule) → o ≡ Some q → is_fair a q ≡ true) → ((q : Rule) → p ≡ Some q → is_fair a q ≡ true) → (r : Rule) → option_or o p ≡ Some r → is_fair a r ≡ true
either_fair a None p first second r h = second r h
either_fair a (Some q) p first second r h = first r h

free_fair : (a : Attr) (r : Rule) → IsFree r → is_fair a r ≡ true
free_fair a r free =
    and_from _ _ (or_left _ _ (not_from_false _ free.kept))
    (and_from _ _ (or_right _ _ free.clears) (or_right _ _ free.clears))

rule_fair : (ty : Ty) (a : Attr) (r : Rule) → rule_of ty a ≡ Some r → is_fair a r ≡ true
rule_fair ty a r h =
    either_fair a (table_rule ty a) (inherited_rule ty a) (λ q is. (table_fair ty a q is).0)
    (λ q is. free_fair a q
    (inherited_fair (option_and_then (λ original. table_rule original a) (original_of ty))
    (λ x found. let at = looked_up (λ original. table_rule original a) (original_of ty) x found in (table_fair at.0 a x at.1).1)
    q is))
    r h

rule_parted : (ty : Ty) (a : Attr) (r : Rule) → rule_of ty a ≡ Some r → is_parted a r ≡ true
rule_parted ty a r h = (and_parts (is_parted a r) (is_emptied a r) (rule_fair ty a r h)).0

pub record IsEmptied (a : Attr) (r : Rule) : Type 0 where
  pub nothing : (not (is_permitted r.update && is_given r.source null) || is_clearable Update r) ≡ true
  pub policies : (not (is_attr a Acpi || is_attr a Macp) || is_clearable Update r) ≡ true

pub rule_emptied : (ty : Ty) (a : Attr) (r : Rule) → rule_of ty a ≡ Some r → IsEmptied a r
rule_emptied ty a r h =
    let parts = and_parts _ _ (and_parts (is_parted a r) (is_emptied a r) (rule_fair ty a r h)).1 in
    record { nothing = parts.0; policies = parts.1 }

-- ---- a value that was asked for and is kept as it is given

source_kind : (s : Source) (d : Data) → is_beside s ≡ false → is_given s d ≡ true → option_map_or (λ kind. has_kind kind d) (kept_kind s) false ≡ true
source_kind (Given kind) d kept given = given
source_kind (Apart kind) d kept given = cc
source_kind Creator d kept given = cc
source_kind (Assigned kind) d kept given = cc
source_kind Derived d kept given = cc

given_kind : (ty : Ty) (a : Attr) (d : Data) (r : Rule) → rule_of ty a ≡ Some r → is_beside r.source ≡ false → is_given r.source d ≡ true → is_attr_kind ty (a, d) ≡ true
given_kind ty a d r is kept given =
    ap (λ (o : Option Rule). option_map_or (λ kind. has_kind kind d) (option_map_or (λ (x : Rule). kept_kind x.source) o (opening_kind ty a)) false) is
    ∙ source_kind r.source d kept given

-- the rule of a member that fits
pub record Fitting (writing : Writing) (d : Data) (o : Option Rule) : Type 0 where
  pub rule : Rule
  pub is : o ≡ Some rule
  pub permitted : is_permitted (column_of writing rule) ≡ true
  pub fits : allows_value writing rule d ≡ true

fitting : (writing : Writing) (a : Attr) (d : Data) (o : Option Rule) → option_map_or (λ (p : Attr × Rule). is_permitted (column_of writing p.1) && allows_value writing p.1 d) (option_map (λ rule. (a, rule)) o) false ≡ true → Fitting writing d o
fitting writing a d None h = absurd (both_ways false refl h)
fitting writing a d (Some r) h =
    let parts = and_parts (is_permitted (column_of writing r)) (allows_value writing r d) h in
    record { rule = r; is = refl; permitted = parts.0; fits = parts.1 }

pub fit_rule : (writing : Writing) (ty : Ty) (e : Entry) (a : Attr) → attr_of_short e.0 ≡ Some a → is_fit writing ty e ≡ true → Fitting writing e.1 (rule_of ty a)
fit_rule writing ty e a is fit =
    fitting writing a e.1 (rule_of ty a)
    (sym (ap (λ (o : Option Attr). option_map_or (λ (p : Attr × Rule). is_permitted (column_of writing p.1) && allows_value writing p.1 e.1) (option_and_then (λ attr. option_map (λ rule. (attr, rule)) (rule_of ty attr)) o) false) is) ∙ fit)

-- an update gives what isn't null
pub given_something : (d : Data) (o : Option Rule) (at : Fitting Update d o) → is_null d ≡ false → is_given at.rule.source d ≡ true
given_something d o at something = elim (or_cases _ _ at.fits) [
  | inl t ↦ absurd (both_ways _ something (and_parts _ _ t).0)
  | inr t ↦ t
]

pub created_kind : (ty : Ty) (e : Entry) (row : Row) → is_fit Create ty e ≡ true → kept_row e ≡ Some row → is_attr_kind ty row ≡ true
created_kind ty e row fit h =
    let choice = kept_choice e row h in
    let at = fit_rule Create ty e row.0 choice.attr fit in
    let stays = (or_parts (is_apart row.0) (is_no_policy row.0 e.1) choice.stays).0 in
    let kept : is_beside at.rule.source ≡ false = elim (or_cases _ _ (rule_parted ty row.0 at.rule at.is)) [
      | inl t ↦ not-true _ t
      | inr t ↦ absurd (both_ways _ stays (and_parts _ _ t).0)
    ] in
    let given : is_given at.rule.source e.1 ≡ true = elim (or_cases _ _ at.fits) [
      | inl t ↦ absurd (both_ways false refl (and_parts (is_null e.1) false t).1)
      | inr t ↦ t
    ] in
    ap (λ d. is_attr_kind ty (row.0, d)) choice.value ∙ given_kind ty row.0 e.1 at.rule at.is kept given

pub updated_kind : (ty : Ty) (e : Entry) (row : Row) → is_fit Update ty e ≡ true → set_row e ≡ Some row → is_attr row.0 Et ≡ false → is_attr_kind ty row ≡ true
updated_kind ty e row fit h other =
    let choice = set_choice e row h in
    let at = fit_rule Update ty e row.0 choice.attr fit in
    let something = (or_parts (is_null e.1) (is_no_policy row.0 e.1) choice.stays).0 in
    let kept : is_beside at.rule.source ≡ false = elim (or_cases _ _ (rule_parted ty row.0 at.rule at.is)) [
      | inl t ↦ not-true _ t
      | inr t ↦ elim (or_cases _ _ (and_parts _ _ t).1) [
        | inl n ↦ absurd (both_ways _ (not-true _ n) at.permitted)
        | inr s ↦ absurd (both_ways _ other s)
      ]
    ] in
    let given : is_given at.rule.source e.1 ≡ true = given_something e.1 (rule_of ty row.0) at something in
    ap (λ d. is_attr_kind ty (row.0, d)) choice.value ∙ given_kind ty row.0 e.1 at.rule at.is kept given

-- ---- the attributes of a resource

-- members that are admitted: each is fit, and what has to be named is there
pub record AreAdmitted (writing : Writing) (ty : Ty) (es : List Entry) : Type 0 where
  pub fit : list_all (is_fit writing ty) es ≡ true
  pub complete : is_complete writing ty es ≡ true

pub admitted_parts : (writing : Writing) (ty : Ty) (es : List Entry) → are_admitted writing ty es ≡ true → AreAdmitted writing ty es
admitted_parts writing ty es h =
    let parts = and_parts (list_all (is_fit writing ty) es) (is_complete writing ty es) h in
    record { fit = parts.0; complete = parts.1 }

created_all : (ty : Ty) (es : List Entry) → list_all (is_fit Create ty) es ≡ true → have_kinds ty (filter_map kept_row es) ≡ true
created_all ty es fit = all_filter_map (is_fit Create ty) (is_attr_kind ty) kept_row (λ e row fits read. created_kind ty e row fits read) es fit

-- what the members of an admitted creation give a resource
pub created_members : (ty : Ty) (es : List Entry) → are_admitted Create ty es ≡ true → have_kinds ty (wanted_in es).attrs ≡ true
created_members ty es h = created_all ty es (admitted_parts Create ty es h).fit

created_in : (ty : Ty) (o : Option (List Entry)) → option_map_or (are_admitted Create ty) o false ≡ true → have_kinds ty (filter_map kept_row (unwrap_or o [])) ≡ true
created_in ty None h = refl
created_in ty (Some es) h = created_members ty es h

-- what an admitted creation gives a resource is of the kinds that its type keeps
pub created_kinds : (ty : Ty) (content : Data) → is_admitted Create ty content ≡ true → have_kinds ty (wanted_of ty content).attrs ≡ true
created_kinds ty content h = created_in ty (attributes_in ty content) h

-- one attribute that gets a value of its kind, and one that is cleared
pub kinds-with_value : (ty : Ty) (row : Row) (rows : List Row) → is_attr_kind ty row ≡ true → have_kinds ty rows ≡ true → have_kinds ty (with_value row.0 row.1 rows) ≡ true
kinds-with_value ty row rows one all =
    list_all-append (is_attr_kind ty) (rows_before row.0 rows) (row ∷ rows_after row.0 rows)
    ∙ and_from _ _ (all_filtered (is_attr_kind ty) (λ r. is_lt (attr_cmp r.0 row.0)) rows all)
    (and_from _ _ one (all_filtered (is_attr_kind ty) (λ r. is_lt (attr_cmp row.0 r.0)) rows all))

pub kinds-without_value : (ty : Ty) (a : Attr) (rows : List Row) → have_kinds ty rows ≡ true → have_kinds ty (without_value a rows) ≡ true
kinds-without_value ty a rows all =
    list_all-append (is_attr_kind ty) (rows_before a rows) (rows_after a rows)
    ∙ and_from _ _ (all_filtered (is_attr_kind ty) (λ r. is_lt (attr_cmp r.0 a)) rows all)
    (all_filtered (is_attr_kind ty) (λ r. is_lt (attr_cmp a r.0)) rows all)

cleared_all : (ty : Ty) (attrs : List Attr) (rows : List Row) → have_kinds ty rows ≡ true → have_kinds ty (clear_all attrs rows) ≡ true
cleared_all ty [] rows all = all
cleared_all ty (a ∷ attrs) rows all = cleared_all ty attrs (without_value a rows) (kinds-without_value ty a rows all)

set_one : (ty : Ty) (e : Entry) (row : Row) (rows : List Row) → is_fit Update ty e ≡ true → set_row e ≡ Some row → have_kinds ty rows ≡ true → have_kinds ty (if is_attr row.0 Et then rows else with_value row.0 row.1 rows) ≡ true
set_one ty e row rows fit h all = elim (cases_Bool (is_attr row.0 Et)) [
  | inl t ↦ rw t all
  | inr f ↦ rw f (kinds-with_value ty row rows (updated_kind ty e row fit h f) all)
]

updated_all : (ty : Ty) (es : List Entry) (rows : List Row) → list_all (is_fit Update ty) es ≡ true → have_kinds ty rows ≡ true → have_kinds ty (set_all (filter_map set_row es) rows) ≡ true
updated_all ty [] rows fit all = all
updated_all ty (e ∷ es) rows fit all =
    let parts = and_parts (is_fit Update ty e) (list_all (is_fit Update ty) es) fit in
    elim (seen (set_row e)) [
      | inl none ↦ ap (λ o. have_kinds ty (set_all (cons_option o (filter_map set_row es)) rows)) none ∙ updated_all ty es rows parts.1 all
      | inr found ↦
          ap (λ o. have_kinds ty (set_all (cons_option o (filter_map set_row es)) rows)) found.1
          ∙ updated_all ty es (if is_attr found.0.0 Et then rows else with_value found.0.0 found.0.1 rows) parts.1 (set_one ty e found.0 rows parts.0 found.1 all)
    ]

-- and what those of an admitted update leave
pub updated_members : (ty : Ty) (es : List Entry) (rows : List Row) → are_admitted Update ty es ≡ true → have_kinds ty rows ≡ true → have_kinds ty (edited (edit_in es) rows) ≡ true
updated_members ty es rows h all =
    cleared_all ty (filter_map cleared_attr es) (set_all (filter_map set_row es) rows)
    (updated_all ty es rows (admitted_parts Update ty es h).fit all)

updated_in : (ty : Ty) (o : Option (List Entry)) (rows : List Row) → option_map_or (are_admitted Update ty) o false ≡ true → have_kinds ty rows ≡ true → have_kinds ty (clear_all (filter_map cleared_attr (unwrap_or o [])) (set_all (filter_map set_row (unwrap_or o [])) rows)) ≡ true
updated_in ty None rows h all = all
updated_in ty (Some es) rows h all = updated_members ty es rows h all

-- attributes of their kinds stay so after an admitted update
pub updated_kinds : (ty : Ty) (content : Data) (rows : List Row) → is_admitted Update ty content ≡ true → have_kinds ty rows ≡ true → have_kinds ty (edited (edit_of ty content) rows) ≡ true
updated_kinds ty content rows h all = updated_in ty (attributes_in ty content) rows h all
