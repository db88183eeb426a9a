-- What a group keeps of its members is of the kinds of a group's attributes.
use Rattle.std.specs.Prelude.{◌==◌, min}
use Rattle.std.proofs.Common.{◌≡◌, ℕ, ◌+◌, ◌^◌, ◌<◌, ◌≤◌, List, [], ◌∷◌, ◌++◌, length, map, Bool, true, false, not, ◌&&◌, Option, Some, None, is_some, option_and_then, unwrap_or, if◌then◌else◌, bytes_eq, inl, inr, refl, sym, ap, ◌∙◌, arith}
use Rattle.std.proofs.lemmas.Bool.{cases_Bool, and_parts, and_from, both_ways, eqb-true, leb-true, lt-ltb}
use Rattle.std.proofs.lemmas.List.Sums.{count_by-le-length, length-filter}
use Rattle.std.specs.Int.{is_in_range}
use Rattle.std.specs.List.{list_all, list_any, filter_map, cons_option}
use Rattle.std.specs.Option.{option_map_or}
use Rattle.m2m_names.specs.Attributes.{attr_short}
use Rattle.m2m_names.specs.declared.attributes.Attr.{Attr}
use Rattle.m2m_names.specs.declared.attributes.Attr.TheVariants.{Csy, Mid, Mt}
use Rattle.m2m_names.specs.declared.types.Ty.{Ty}
use Rattle.m2m_names.specs.declared.types.Ty.TheVariants.{Group}
use Rattle.m2m_names.proofs.ListLemmas.{all_filtered}
use Rattle.m2m_names.proofs.TypeLemmas.{same_type}
use Rattle.m2m_value.specs.Data.{Data, Entry, null, boolean, number, text, list, object, elements_of}
use Rattle.m2m_value.specs.Node.{AreSorted}
use Rattle.m2m_value.specs.Shapes.{as_count, is_text_of}
use Rattle.m2m_value.specs.View.{as_list, as_text, member_of}
use Rattle.m2m_value.proofs.Levels.{elements-elements_of}
use Rattle.resource_model.specs.Attributes.{Row, value_of}
use Rattle.resource_model.specs.Resource.{ResourceData, is_ty}
use Rattle.attribute_kinds.specs.Kinds.{has_kind, is_member_type, is_point}
use Rattle.attribute_kinds.specs.declared.kinds.Kind.TheVariants.{Points}
use Rattle.attribute_rules.specs.Admission.{are_admitted}
use Rattle.attribute_rules.specs.Contents.{does_clear, edit_in, edited, wanted_in}
use Rattle.attribute_rules.specs.Kinds.{is_attr_kind, have_kinds, are_kinds}
use Rattle.attribute_rules.specs.declared.table.Writing.TheVariants.{Create as Creating, Update as Updating}
use Rattle.attribute_rules.proofs.KindLemmas.{created_members, updated_members}
use Rattle.attribute_rules.proofs.ValueLemmas.{value_edited, value_wanted}
use Rattle.policy_eval.specs.Rules.{listed_in, texts_of}
use Rattle.entity_model.specs.Entity.{EntityData}
use Rattle.entity_model.proofs.SpentLemmas.{kind_found}
use Rattle.request_rules.specs.Creation.{Creation}
use Rattle.request_rules.specs.Groups.{MembershipData, are_few, distinct_texts, does_edit_members, group_rows, has_other_type, is_left_out, member_rows, members_edited, members_kept, members_wanted, membership_edited, membership_new, new_after, set_mixed, type_kept}

-- ---- one attribute

-- what is found of an attribute, if anything, is of its kind
value_fits : (a : Attr) (rows : List Row) → have_kinds Group rows ≡ true → option_map_or (λ (d : Data). is_attr_kind Group (a, d)) (value_of a rows) true ≡ true
value_fits a rows kinds = by_value (value_of a rows) refl
  where
    by_value : (o : Option Data) → value_of a rows ≡ o → option_map_or (λ (d : Data). is_attr_kind Group (a, d)) o true ≡ true
    by_value None is = refl
    by_value (Some d) is = kind_found Group a rows d kinds is

-- the values of a list of addresses
listed_points : (o : Option Data) → option_map_or (has_kind Points) o true ≡ true → list_all (is_text_of is_point) (listed_in o) ≡ true
listed_points None fits = refl
listed_points (Some d) fits = by_list (as_list d) fits
  where
    by_list : (o : Option (List Data)) → option_map_or (list_all (is_text_of is_point)) o false ≡ true → list_all (is_text_of is_point) (unwrap_or o []) ≡ true
    by_list None fits = absurd (both_ways false refl fits)
    by_list (Some ds) fits = fits

-- the count of a kind, or what stands where there is none
count_fits : (fits : ℕ → Bool) (default : ℕ) (o : Option Data) → fits default ≡ true → option_map_or (λ (d : Data). option_map_or fits (as_count d) false) o true ≡ true → fits (unwrap_or (option_and_then as_count o) default) ≡ true
count_fits fits default None usual is = usual
count_fits fits default (Some d) usual is = by_count (as_count d) is
  where
    by_count : (n : Option ℕ) → option_map_or fits n false ≡ true → fits (unwrap_or n default) ≡ true
    by_count None is = absurd (both_ways false refl is)
    by_count (Some n) is = is

-- ---- what is asked for

-- the values, the type and the strategy of members are of their kinds
pub record AreFit (m : MembershipData) : Type 0 where
  pub points : list_all (is_text_of is_point) m.values ≡ true
  pub of_type : is_member_type m.of_type ≡ true
  pub strategy : is_in_range 1 3 m.strategy ≡ true

whole : (o : Option Data) → option_and_then (λ d. if false then None else Some d) o ≡ o
whole None = refl
whole (Some d) = refl

-- by a Create
pub wanted_fit : (es : List Entry) → AreSorted es → are_admitted Creating Group es ≡ true → AreFit (members_wanted es)
wanted_fit es sorted admitted =
    let rows : List Row = (wanted_in es).attrs in
    let kinds : have_kinds Group rows ≡ true = created_members Group es admitted in
    let mid : value_of Mid rows ≡ member_of (attr_short Mid) es = value_wanted Mid es sorted ∙ whole (member_of (attr_short Mid) es) in
    let mt : value_of Mt rows ≡ member_of (attr_short Mt) es = value_wanted Mt es sorted ∙ whole (member_of (attr_short Mt) es) in
    let csy : value_of Csy rows ≡ member_of (attr_short Csy) es = value_wanted Csy es sorted ∙ whole (member_of (attr_short Csy) es) in
    record {
      points = listed_points (member_of (attr_short Mid) es) (ap (λ (o : Option Data). option_map_or (λ (d : Data). is_attr_kind Group (Mid, d)) o true) (sym mid) ∙ value_fits Mid rows kinds);
      of_type = count_fits is_member_type 0 (member_of (attr_short Mt) es) refl (ap (λ (o : Option Data). option_map_or (λ (d : Data). is_attr_kind Group (Mt, d)) o true) (sym mt) ∙ value_fits Mt rows kinds);
      strategy = count_fits (is_in_range 1 3) 1 (member_of (attr_short Csy) es) refl (ap (λ (o : Option Data). option_map_or (λ (d : Data). is_attr_kind Group (Csy, d)) o true) (sym csy) ∙ value_fits Csy rows kinds);
    }

-- a list that isn't named stays, and one that is named takes its place
edited_values : (o old : Option Data) → (if is_some o then listed_in o else listed_in old) ≡ listed_in (option_map_or (λ d. if does_clear Mid d then None else Some d) o old)
edited_values None old = refl
edited_values (Some null) old = refl
edited_values (Some (boolean b)) old = refl
edited_values (Some (number z)) old = refl
edited_values (Some (text s)) old = refl
edited_values (Some (list es)) old = refl
edited_values (Some (object ps)) old = refl

-- by an Update
pub edited_fit : (r : ResourceData) (es : List Entry) → AreSorted es → are_admitted Updating Group es ≡ true → have_kinds Group r.attrs ≡ true → AreFit (members_edited r es)
edited_fit r es sorted admitted kinds =
    let after : List Row = edited (edit_in es) r.attrs in
    let fits : option_map_or (has_kind Points) (value_of Mid after) true ≡ true = value_fits Mid after (updated_members Group es r.attrs admitted kinds) in
    let values : (members_edited r es).values ≡ listed_in (value_of Mid after) =
    edited_values (member_of (attr_short Mid) es) (value_of Mid r.attrs) ∙ ap listed_in (sym (value_edited Mid es r.attrs sorted refl)) in
    record {
      points = ap (list_all (is_text_of is_point)) values ∙ listed_points (value_of Mid after) fits;
      of_type = count_fits is_member_type 0 (value_of Mt r.attrs) refl (value_fits Mt r.attrs kinds);
      strategy = count_fits (is_in_range 1 3) 1 (value_of Csy r.attrs) refl (value_fits Csy r.attrs kinds);
    }

-- ---- what is kept

texts_fit : (fits : List ℕ → Bool) (ds : List Data) → list_all (is_text_of fits) ds ≡ true → list_all fits (texts_of ds) ≡ true
texts_fit fits [] all = refl
texts_fit fits (d ∷ ds) all =
    let parts = and_parts (is_text_of fits d) (list_all (is_text_of fits) ds) all in
    by_text (as_text d) parts.0 (texts_fit fits ds parts.1)
  where
    by_text : (o : Option (List ℕ)) → option_map_or fits o false ≡ true → list_all fits (filter_map as_text ds) ≡ true → list_all fits (cons_option o (filter_map as_text ds)) ≡ true
    by_text None one rest = absurd (both_ways false refl one)
    by_text (Some s) one rest = and_from _ _ one rest

distinct_fit : (fits : List ℕ → Bool) (seen xs : List (List ℕ)) → list_all fits xs ≡ true → list_all fits (new_after seen xs) ≡ true
distinct_fit fits seen [] all = refl
distinct_fit fits seen (x ∷ xs) all =
    let parts = and_parts (fits x) (list_all fits xs) all in
    elim (cases_Bool (list_any (bytes_eq x) seen)) [
      | inl t ↦ rw t (distinct_fit fits seen xs parts.1)
      | inr f ↦ rw f (and_from _ _ parts.0 (distinct_fit fits (seen ++ x ∷ []) xs parts.1))
    ]

values_fit : (fits : List ℕ → Bool) (xs : List (List ℕ)) → list_all fits xs ≡ true → list_all (is_text_of fits) (map text xs) ≡ true
values_fit fits [] all = refl
values_fit fits (x ∷ xs) all =
    let parts = and_parts (fits x) (list_all fits xs) all in
    and_from _ _ parts.0 (values_fit fits xs parts.1)

kept_are_few : (e : EntityData) (m : MembershipData) → are_few m ≡ true → length (members_kept e m) < 2 ^ 63
kept_are_few e m few =
    let most : length (distinct_texts m.values) ≤ min m.most 64 = leb-true (length (distinct_texts m.values)) (min m.most 64) few in
    let stays : List ℕ → Bool = λ address. not (is_left_out e m address) in
    let kept : length (members_kept e m) ≤ length (distinct_texts m.values) =
    omega (arith, length-filter stays (distinct_texts m.values), count_by-le-length stays (distinct_texts m.values)) in
    omega arith

type_fits : (e : EntityData) (m : MembershipData) → is_member_type m.of_type ≡ true → is_member_type (type_kept e m) ≡ true
type_fits e m fits = elim (cases_Bool ((m.strategy == set_mixed) && has_other_type e m)) [
  | inl t ↦ rw t refl
  | inr f ↦ rw f fits
]

members_kinds : (e : EntityData) (m : MembershipData) → AreFit m → are_few m ≡ true → list_all (is_attr_kind Group) (member_rows e m) ≡ true
members_kinds e m fit few =
    let kept : list_all is_point (members_kept e m) ≡ true =
    all_filtered is_point (λ (address : List ℕ). not (is_left_out e m address)) (distinct_texts m.values) (distinct_fit is_point [] (texts_of m.values) (texts_fit is_point m.values fit.points)) in
    let mid : is_attr_kind Group (Mid, list (elements_of (map text (members_kept e m)))) ≡ true = ap (list_all (is_text_of is_point)) (elements-elements_of (map text (members_kept e m))) ∙ values_fit is_point (members_kept e m) kept in
    and_from _ _ mid
    (and_from _ _ (type_fits e m fit.of_type)
    (and_from _ _ fit.strategy
    (and_from _ _ (lt-ltb (length (members_kept e m)) (2 ^ 63) (kept_are_few e m few)) refl)))

-- what a new group keeps of its members
pub new_members_kinds : (c : Creation) → is_ty c.ty Group ≡ true → AreSorted c.named → are_admitted Creating c.ty c.named ≡ true → option_map_or are_few (membership_new c) true ≡ true → list_all (is_attr_kind Group) (group_rows c.e (membership_new c)) ≡ true
new_members_kinds c group sorted admitted few =
    let ty : c.ty ≡ Group = same_type c.ty Group (eqb-true _ _ group) in
    let asked : membership_new c ≡ Some (members_wanted c.named) = rw group refl in
    ap (λ (m : Option MembershipData). list_all (is_attr_kind Group) (group_rows c.e m)) asked
    ∙ members_kinds c.e (members_wanted c.named) (wanted_fit c.named sorted (ap (λ (t : Ty). are_admitted Creating t c.named) (sym ty) ∙ admitted)) (ap (λ (m : Option MembershipData). option_map_or are_few m true) (sym asked) ∙ few)

-- and what a group keeps after an Update
pub edited_members_kinds : (e : EntityData) (es : List Entry) (r : ResourceData) → AreSorted es → are_admitted Updating r.ty es ≡ true → are_kinds r ≡ true → option_map_or are_few (membership_edited r es) true ≡ true → list_all (is_attr_kind r.ty) (group_rows e (membership_edited r es)) ≡ true
edited_members_kinds e es r sorted admitted kinds few = elim (cases_Bool (does_edit_members r es)) [
  | inl t ↦
      let ty : r.ty ≡ Group = same_type r.ty Group (eqb-true _ _ (and_parts (is_ty r.ty Group) _ t).0) in
      let asked : membership_edited r es ≡ Some (members_edited r es) = rw t refl in
      let fit : AreFit (members_edited r es) = edited_fit r es sorted (ap (λ (k : Ty). are_admitted Updating k es) (sym ty) ∙ admitted) (ap (λ (k : Ty). have_kinds k r.attrs) (sym ty) ∙ kinds) in
      ap (λ (k : Ty). list_all (is_attr_kind k) (group_rows e (membership_edited r es))) ty
      ∙ ap (λ (m : Option MembershipData). list_all (is_attr_kind Group) (group_rows e m)) asked
      ∙ members_kinds e (members_edited r es) fit (ap (λ (m : Option MembershipData). option_map_or are_few m true) (sym asked) ∙ few)
  | inr f ↦
      let asked : membership_edited r es ≡ None = rw f refl in
      ap (λ (m : Option MembershipData). list_all (is_attr_kind r.ty) (group_rows e m)) asked
]
