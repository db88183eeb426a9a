-- What a group keeps of the members that it is asked to have.
use Rattle.change_laws.proofs.Words.{◌≡◌, ℕ, ◌≤◌, List, [], ◌∷◌, ◌++◌, length, map, filter, pos, Bool, true, false, cond, not, ◌&&◌, ◌||◌, bytes_eq, Option, Some, None, unwrap_or, if◌then◌else◌, inl, inr, refl, sym, ap, ◌∙◌, subst, arith, list_all, list_any, option_map_or}
use Rattle.change_laws.proofs.Terms.{Data, boolean, elements_of, list, number, text, ResourceData, EntityData, are_distinct, MembershipData, abandon_member, abandon_group, any_type, are_few, differs_from, distinct_texts, has_other_type, is_consistent, is_left_out, is_live_member, is_of_other_type, kept_among, member_limit, member_named, member_rows, members_kept, new_after, set_mixed, type_kept, Updating, Check, IsSoundEntity, Create, Update, Ty, Group, Entry, RequestParts, is_ty, at, Creation, creation_of, creator_rows, new_resource, new_rows, does_edit_members, group_rows, have_addresses, members_edited, members_wanted, membership_edited, creation_by, fault_at, fault_on, member_places, link_row, child_ty, content_for, named_by, named_for, own_rows, state_row, updated_by, updated_resource, IsAllowed}
use Rattle.change_laws.proofs.Facts.{cases_Bool, cond_both, and_parts, and_from, or_parts, or_from, or_left, or_right, both_ways, false_from_ne_true, not_from_false, not-true, leb-true, eqb-true, at_number, new_is, IsUnrefusedNew, new_parts, nothing_on, places_parts, allowed, names_attributes}
use Rattle.std.specs.Prelude.{◌==◌, nat_le, min}
use Rattle.std.proofs.lemmas.Bool.Decides.{nat_tests}
use Rattle.std.proofs.lemmas.List.Folds.{list_any-append}
use Rattle.std.proofs.lemmas.List.Sums.{count_by-le-length, length-filter}
use Rattle.std.proofs.lemmas.Slice.Eq.{bytes_eq-Decides}
use Rattle.std.specs.Int.{is_in_range}
use Rattle.m2m_names.specs.declared.attributes.Attr.{Attr}
use Rattle.m2m_names.specs.declared.attributes.Attr.TheVariants.{Cnm, Csy, Mid, Mt, Mtv}
use Rattle.resource_model.specs.Attributes.{Row, value_of, with_value}
use Rattle.resource_model.proofs.AttributeLemmas.{value-with_value_same}
use Rattle.tree_model.specs.Shown.{with_rows}
use Rattle.attribute_rules.proofs.ContentsLemmas.{same_text}
use Rattle.policy_eval.specs.Rules.{texts_of}
use Rattle.attribute_rules.specs.Admission.{are_admitted}
use Rattle.attribute_rules.specs.Contents.{edit_in, edited, wanted_in}
use Rattle.attribute_rules.specs.Kinds.{are_kinds, have_kinds}
use Rattle.m2m_names.specs.declared.attributes.Attr.TheVariants.{Acpi, Cr, Macp}
use Rattle.m2m_names.proofs.TypeLemmas.{same_type}
use Rattle.resource_model.specs.Attributes.{is_attr}
use Rattle.tree_model.proofs.QuietLemmas.{number_passes}
use Rattle.tree_model.proofs.ShownLemmas.{with_rows-append}
use Rattle.create_delete.specs.Updating.{IsUpdatable}
use Rattle.create_delete.proofs.MemberLemmas.{AreFit, edited_fit, wanted_fit}
use Rattle.create_delete.proofs.NewResourceLemmas.{lacks_creator, lacks_link}
use Rattle.create_delete.proofs.UpdatableLemmas.{updatable, updates_attributes}
use Rattle.create_delete.proofs.UpdatedRowLemmas.{rows_are}
use Rattle.create_delete.proofs.RowLemmas.{lacks_attr, value_unset}
use Rattle.change_laws.specs.Groups.{KeepsMembers}

-- ---- texts without repeats

itself : (a : List ℕ) → bytes_eq a a ≡ true
itself a = (bytes_eq-Decides a a).1 refl

among_more : (a x : List ℕ) (seen : List (List ℕ)) → list_any (bytes_eq a) (seen ++ x ∷ []) ≡ (list_any (bytes_eq a) seen || (bytes_eq a x || false))
among_more a x seen = list_any-append (bytes_eq a) seen (x ∷ [])

-- what stood before isn't new
none_again : (a : List ℕ) (seen xs : List (List ℕ)) → list_any (bytes_eq a) seen ≡ true → list_any (bytes_eq a) (new_after seen xs) ≡ false
none_again a seen [] old = refl
none_again a seen (x ∷ xs) old =
    cond_both (list_any (bytes_eq x) seen) (new_after seen xs) (x ∷ new_after (seen ++ x ∷ []) xs) (λ (ys : List (List ℕ)). list_any (bytes_eq a) ys ≡ false)
    (λ t. none_again a seen xs old)
    (λ f.
    let apart : bytes_eq a x ≡ false = false_from_ne_true _ (λ same. both_ways _ f (ap (λ (y : List ℕ). list_any (bytes_eq y) seen) (sym (same_text a x same)) ∙ old)) in
    or_from _ _ apart (none_again a (seen ++ x ∷ []) xs (among_more a x seen ∙ or_left _ _ old)))

new_once : (seen xs : List (List ℕ)) → are_distinct (new_after seen xs) ≡ true
new_once seen [] = refl
new_once seen (x ∷ xs) =
    cond_both (list_any (bytes_eq x) seen) (new_after seen xs) (x ∷ new_after (seen ++ x ∷ []) xs) (λ (ys : List (List ℕ)). are_distinct ys ≡ true)
    (λ t. new_once seen xs)
    (λ f. and_from _ _ (not_from_false _ (none_again x (seen ++ x ∷ []) xs (among_more x x seen ∙ or_right _ _ (or_left _ _ (itself x)))))
    (new_once (seen ++ x ∷ []) xs))

none_kept : (q p : List ℕ → Bool) (xs : List (List ℕ)) → list_any q xs ≡ false → list_any q (filter p xs) ≡ false
none_kept q p [] none = refl
none_kept q p (x ∷ xs) none =
    let parts = or_parts (q x) (list_any q xs) none in
    cond_both (p x) (x ∷ filter p xs) (filter p xs) (λ (ys : List (List ℕ)). list_any q ys ≡ false)
    (λ t. or_from _ _ parts.0 (none_kept q p xs parts.1)) (λ f. none_kept q p xs parts.1)

kept_once : (p : List ℕ → Bool) (xs : List (List ℕ)) → are_distinct xs ≡ true → are_distinct (filter p xs) ≡ true
kept_once p [] once = refl
kept_once p (x ∷ xs) once =
    let parts = and_parts (not (list_any (bytes_eq x) xs)) (are_distinct xs) once in
    cond_both (p x) (x ∷ filter p xs) (filter p xs) (λ (ys : List (List ℕ)). are_distinct ys ≡ true)
    (λ t. and_from _ _ (not_from_false _ (none_kept (bytes_eq x) p xs (not-true _ parts.0))) (kept_once p xs parts.1)) (λ f. kept_once p xs parts.1)

-- what is new was there
new_among : (a : List ℕ) (seen xs : List (List ℕ)) → list_any (bytes_eq a) xs ≡ false → list_any (bytes_eq a) (new_after seen xs) ≡ false
new_among a seen [] none = refl
new_among a seen (x ∷ xs) none =
    let parts = or_parts (bytes_eq a x) (list_any (bytes_eq a) xs) none in
    cond_both (list_any (bytes_eq x) seen) (new_after seen xs) (x ∷ new_after (seen ++ x ∷ []) xs) (λ (ys : List (List ℕ)). list_any (bytes_eq a) ys ≡ false)
    (λ t. new_among a seen xs parts.1) (λ f. or_from _ _ parts.0 (new_among a (seen ++ x ∷ []) xs parts.1))

-- what was there is new, or stood before
all_new : (a : List ℕ) (seen xs : List (List ℕ)) → list_any (bytes_eq a) xs ≡ true → list_any (bytes_eq a) seen ≡ false → list_any (bytes_eq a) (new_after seen xs) ≡ true
all_new a seen [] there apart = there
all_new a seen (x ∷ xs) there apart = elim (cases_Bool (list_any (bytes_eq x) seen)) [
  | inl t ↦
      let other : bytes_eq a x ≡ false = false_from_ne_true _ (λ same. both_ways _ apart (ap (λ (y : List ℕ). list_any (bytes_eq y) seen) (same_text a x same) ∙ t)) in
      rw t (all_new a seen xs (rw other at there) apart)
  | inr f ↦ elim (cases_Bool (bytes_eq a x)) [
    | inl same ↦ rw f (or_left _ _ same)
    | inr other ↦
        rw f (or_right _ _ (all_new a (seen ++ x ∷ []) xs (rw other at there) (among_more a x seen ∙ or_from _ _ apart (or_from _ _ other refl))))
  ]
]

-- ---- those that stay

-- one that is there and doesn't stay isn't kept
not_kept : (p : List ℕ → Bool) (a : List ℕ) (xs : List (List ℕ)) → list_any (bytes_eq a) xs ≡ true → list_any (bytes_eq a) (filter p xs) ≡ false → p a ≡ false
not_kept p a [] there gone = absurd (both_ways false refl there)
not_kept p a (x ∷ xs) there gone = elim (cases_Bool (bytes_eq a x)) [
  | inl same ↦ elim (cases_Bool (p x)) [
    | inl t ↦ (let still : (bytes_eq a x || list_any (bytes_eq a) (filter p xs)) ≡ false = rw t at gone in absurd (both_ways _ (or_parts _ _ still).0 same))
    | inr f ↦ ap p (same_text a x same) ∙ f
  ]
  | inr other ↦ elim (cases_Bool (p x)) [
    | inl t ↦
        let still : (bytes_eq a x || list_any (bytes_eq a) (filter p xs)) ≡ false = rw t at gone in
        not_kept p a xs (rw other at there) (or_parts _ _ still).1
    | inr f ↦ not_kept p a xs (rw other at there) (rw f at gone)
  ]
]

-- and one that is kept stays
kept_stays : (p : List ℕ → Bool) (a : List ℕ) (xs : List (List ℕ)) → list_any (bytes_eq a) (filter p xs) ≡ true → p a ≡ true
kept_stays p a [] there = absurd (both_ways false refl there)
kept_stays p a (x ∷ xs) there = elim (cases_Bool (p x)) [
  | inl t ↦ elim (cases_Bool (bytes_eq a x)) [
    | inl same ↦ ap p (same_text a x same) ∙ t
    | inr other ↦
        let more : (bytes_eq a x || list_any (bytes_eq a) (filter p xs)) ≡ true = rw t at there in
        kept_stays p a xs (rw other at more)
  ]
  | inr f ↦ kept_stays p a xs (rw f at there)
]

-- one of those of which none is so isn't
none_among : (q : List ℕ → Bool) (a : List ℕ) (xs : List (List ℕ)) → list_any q xs ≡ false → list_any (bytes_eq a) xs ≡ true → q a ≡ false
none_among q a [] none there = absurd (both_ways false refl there)
none_among q a (x ∷ xs) none there =
    let parts = or_parts (q x) (list_any q xs) none in
    elim (cases_Bool (bytes_eq a x)) [
      | inl same ↦ ap q (same_text a x same) ∙ parts.0
      | inr other ↦ none_among q a xs parts.1 (rw other at there)
    ]

-- ---- the members of a group

module _ (e : EntityData) (m : MembershipData) where
  abbrev stays : List ℕ → Bool
  stays address = not (is_left_out e m address)

  abbrev all : List (List ℕ)
  all = distinct_texts m.values

  among_all : (a : List ℕ) → list_any (bytes_eq a) (members_kept e m) ≡ true → list_any (bytes_eq a) all ≡ true
  among_all a there = elim (cases_Bool (list_any (bytes_eq a) all)) [
    | inl t ↦ t
    | inr f ↦ absurd (both_ways _ (none_kept (bytes_eq a) stays all f) there)
  ]

  was_asked : (a : List ℕ) → list_any (bytes_eq a) (members_kept e m) ≡ true → list_any (bytes_eq a) (texts_of m.values) ≡ true
  was_asked a there = elim (cases_Bool (list_any (bytes_eq a) (texts_of m.values))) [
    | inl t ↦ t
    | inr f ↦ absurd (both_ways _ (new_among a [] (texts_of m.values) f) (among_all a there))
  ]

  left_out : (a : List ℕ) → list_any (bytes_eq a) (texts_of m.values) ≡ true → list_any (bytes_eq a) (members_kept e m) ≡ false → is_left_out e m a ≡ true
  left_out a there gone =
      let none : stays a ≡ false = not_kept stays a all (all_new a [] (texts_of m.values) there refl) gone in
      elim (cases_Bool (is_left_out e m a)) [
        | inl t ↦ t
        | inr f ↦ absurd (both_ways _ none (not_from_false _ f))
      ]

  are_kept_few : are_few m ≡ true → length (members_kept e m) ≤ member_limit m
  are_kept_few few =
      let most : length all ≤ member_limit m = leb-true (length all) (member_limit m) few in
      omega (arith, length-filter stays all, count_by-le-length stays all)

  -- by what becomes of members of another type
  others_out : (m.strategy == abandon_member) ≡ true → (a : List ℕ) → list_any (bytes_eq a) (members_kept e m) ≡ true → is_of_other_type e m.of_type a ≡ false
  others_out abandons a there =
      let out : is_left_out e m a ≡ false = not-true _ (kept_stays stays a all there) in
      rw abandons at out

  none_other : has_other_type e m ≡ false → (a : List ℕ) → list_any (bytes_eq a) (members_kept e m) ≡ true → is_of_other_type e m.of_type a ≡ false
  none_other none a there = none_among (is_of_other_type e m.of_type) a all none (among_all a there)

  -- a strategy is one of the three
  strategies : (n : ℕ) → is_in_range 1 3 n ≡ true → (n == abandon_member) ≡ false → (n == abandon_group) ≡ false → (n == set_mixed) ≡ true
  strategies n range first second = grind (arith, nat_tests)

  of_type_kept : is_in_range 1 3 m.strategy ≡ true → is_consistent e m ≡ true → (a : List ℕ) → list_any (bytes_eq a) (members_kept e m) ≡ true → is_of_other_type e (type_kept e m) a ≡ false
  of_type_kept range consistent a there = elim (cases_Bool ((m.strategy == set_mixed) && has_other_type e m)) [
    | inl mixed ↦ rw mixed refl
    | inr not_mixed ↦ rw not_mixed (elim (cases_Bool (has_other_type e m)) [
      | inr none ↦ none_other none a there
      | inl other ↦ elim (cases_Bool (m.strategy == abandon_member)) [
        | inl abandons ↦ others_out abandons a there
        | inr first ↦ elim (cases_Bool (m.strategy == abandon_group)) [
          | inl refuses ↦ (let wrong : false ≡ true = rw (refuses, other) at consistent in cc)
          | inr second ↦ (let wrong : true ≡ false = rw (strategies m.strategy range first second, other) at not_mixed in cc)
        ]
      ]
    ])
  ]

  -- ---- as the group shows them

  put_first : (a : Attr) (v : Data) (rest base : List Row) → lacks_attr a rest ≡ true → value_of a (with_rows ((a, v) ∷ rest) base) ≡ Some v
  put_first a v rest base lacks = value_unset a rest (with_value a v base) lacks ∙ value-with_value_same a v base

  abbrev mid : Row
  mid = (Mid, list (elements_of (map text (members_kept e m))))

  abbrev mt : Row
  mt = (Mt, number (pos (type_kept e m)))

  abbrev csy : Row
  csy = (Csy, number (pos m.strategy))

  abbrev cnm : Row
  cnm = (Cnm, number (pos (length (members_kept e m))))

  abbrev mtv : Row
  mtv = (Mtv, boolean (list_all (is_live_member e) (members_kept e m)))

  pub keeps_members : (base : List Row) → is_in_range 1 3 m.strategy ≡ true → are_few m ≡ true → is_consistent e m ≡ true → KeepsMembers e m (with_rows (member_rows e m) base)
  keeps_members base range few consistent = record {
    kept = members_kept e m;
    of_type = type_kept e m;
    members = put_first Mid mid.1 (mt ∷ csy ∷ cnm ∷ mtv ∷ []) base refl;
    count = put_first Cnm cnm.1 (mtv ∷ []) (with_rows (mid ∷ mt ∷ csy ∷ []) base) refl;
    types = put_first Mt mt.1 (csy ∷ cnm ∷ mtv ∷ []) (with_rows (mid ∷ []) base) refl;
    validated = put_first Mtv mtv.1 [] (with_rows (mid ∷ mt ∷ csy ∷ cnm ∷ []) base) refl;
    once = kept_once stays all (new_once [] (texts_of m.values));
    few = are_kept_few few;
    asked = was_asked;
    stays = left_out;
    typed = of_type_kept range consistent;
  }

-- ---- of a resource

-- the attributes in which they are shown
pub record ShowsAlike (more rows : List Row) : Type 0 where
  pub mid : value_of Mid more ≡ value_of Mid rows
  pub cnm : value_of Cnm more ≡ value_of Cnm rows
  pub mt : value_of Mt more ≡ value_of Mt rows
  pub mtv : value_of Mtv more ≡ value_of Mtv rows

keeps_alike : (e : EntityData) (m : MembershipData) (more rows : List Row) → ShowsAlike more rows → KeepsMembers e m rows → KeepsMembers e m more
keeps_alike e m more rows alike keeps = record {
  kept = keeps.kept;
  of_type = keeps.of_type;
  members = alike.mid ∙ keeps.members;
  count = alike.cnm ∙ keeps.count;
  types = alike.mt ∙ keeps.types;
  validated = alike.mtv ∙ keeps.validated;
  once = keeps.once;
  few = keeps.few;
  asked = keeps.asked;
  stays = keeps.stays;
  typed = keeps.typed;
}

-- what a Create and an Update put in besides shows none of them
creates_alike : (c : Creation) (rows : List Row) → ShowsAlike (with_rows (link_row c.e c.named Macp) (with_rows (link_row c.e c.named Acpi) (with_rows (creator_rows c.originator c.named) rows))) rows
creates_alike c rows = record { mid = unset Mid refl refl refl; cnm = unset Cnm refl refl refl; mt = unset Mt refl refl refl; mtv = unset Mtv refl refl refl }
  where
    unset : (a : Attr) → is_attr Macp a ≡ false → is_attr Acpi a ≡ false → is_attr Cr a ≡ false → value_of a (with_rows (link_row c.e c.named Macp) (with_rows (link_row c.e c.named Acpi) (with_rows (creator_rows c.originator c.named) rows))) ≡ value_of a rows
    unset a macp acpi cr =
        value_unset a (link_row c.e c.named Macp) (with_rows (link_row c.e c.named Acpi) (with_rows (creator_rows c.originator c.named) rows)) (lacks_link a Macp c.e c.named macp)
        ∙ value_unset a (link_row c.e c.named Acpi) (with_rows (creator_rows c.originator c.named) rows) (lacks_link a Acpi c.e c.named acpi)
        ∙ value_unset a (creator_rows c.originator c.named) rows (lacks_creator a c.originator c.named cr)

links_alike : (e : EntityData) (es : List Entry) (rows : List Row) → ShowsAlike (with_rows (link_row e es Macp) (with_rows (link_row e es Acpi) rows)) rows
links_alike e es rows = record { mid = unset Mid refl refl; cnm = unset Cnm refl refl; mt = unset Mt refl refl; mtv = unset Mtv refl refl }
  where
    unset : (a : Attr) → is_attr Macp a ≡ false → is_attr Acpi a ≡ false → value_of a (with_rows (link_row e es Macp) (with_rows (link_row e es Acpi) rows)) ≡ value_of a rows
    unset a macp acpi =
        value_unset a (link_row e es Macp) (with_rows (link_row e es Acpi) rows) (lacks_link a Macp e es macp)
        ∙ value_unset a (link_row e es Acpi) rows (lacks_link a Acpi e es acpi)

-- what the places of a group's members say of them
record AreTaken (e : EntityData) (m : MembershipData) : Type 0 where
  few : are_few m ≡ true
  consistent : is_consistent e m ≡ true

taken_parts : (e : EntityData) (m : MembershipData) → list_all (λ (p : Check). p.holds) (member_places e (Some m)) ≡ true → AreTaken e m
taken_parts e m all =
    let few = and_parts (are_few m) (is_consistent e m && true) all in
    record { few = few.0; consistent = (and_parts (is_consistent e m) true few.1).0 }

-- ---- a Create

module _ (e : EntityData) (o : List ℕ) (request : RequestParts) (parent : ResourceData) (none : fault_on Create e o request parent ≡ None) (there : at parent.number e.nodes ≡ Some parent) (child : child_ty request ≡ Some Group) where
  creation_keeps : (es : List Entry) → content_for request Group ≡ Some es → KeepsMembers e (members_wanted es) (new_rows (creation_of e o Group parent es))
  creation_keeps es whole =
      let c : Creation = creation_of e o Group parent es in
      let may : IsAllowed c = allowed e o request parent Group es none there child whole in
      let new : IsUnrefusedNew c = new_parts c (sym (ap (list_all (λ (p : Check). p.holds)) (new_is e o request parent Group es child whole)) ∙ (places_parts Create e o request parent none).new) in
      let members = taken_parts e (members_wanted es) new.members in
      let fit : AreFit (members_wanted es) = wanted_fit es may.sorted may.admitted in
      let given : List Row = member_rows e (members_wanted es) in
      let wanted : List Row = (wanted_in es).attrs in
      let creator : List Row = creator_rows o es in
      let rows : new_rows c ≡ with_rows (link_row e es Macp) (with_rows (link_row e es Acpi) (with_rows creator (with_rows given wanted))) =
      with_rows-append ((given ++ creator) ++ link_row e es Acpi) (link_row e es Macp) wanted
      ∙ ap (with_rows (link_row e es Macp)) (with_rows-append (given ++ creator) (link_row e es Acpi) wanted
      ∙ ap (with_rows (link_row e es Acpi)) (with_rows-append given creator wanted)) in
      subst (KeepsMembers e (members_wanted es)) (sym rows)
      (keeps_alike e (members_wanted es) _ (with_rows given wanted) (creates_alike c (with_rows given wanted))
      (keeps_members e (members_wanted es) wanted fit.strategy members.few members.consistent))

  by_names : (x : Option (List Entry)) → content_for request Group ≡ x → KeepsMembers e (members_wanted (unwrap_or x [])) (new_rows (creation_of e o Group parent (unwrap_or x [])))
  by_names None is = absurd (names_attributes e o request parent Group none child is)
  by_names (Some es) is = creation_keeps es is

  pub new_group_keeps : KeepsMembers e (members_wanted (named_for request Group)) (new_resource (creation_by e o request parent Group)).attrs
  new_group_keeps = by_names (content_for request Group) refl

pub creation_keeps_members : (e : EntityData) (o : List ℕ) (request : RequestParts) (n : ℕ) (parent : ResourceData) → fault_at Create e o request n ≡ None → at n e.nodes ≡ Some parent → child_ty request ≡ Some Group → KeepsMembers e (members_wanted (named_for request Group)) (new_resource (creation_by e o request parent Group)).attrs
creation_keeps_members e o request n parent none found child =
    new_group_keeps e o request parent (nothing_on Create e o request n parent found none)
    (ap (λ (m : ℕ). at m e.nodes) (at_number n e.nodes parent found) ∙ found) child

-- ---- an Update

module _ (e : EntityData) (o : List ℕ) (request : RequestParts) (r : ResourceData) (sound : IsSoundEntity e) (none : fault_on Update e o request r ≡ None) (there : at r.number e.nodes ≡ Some r) where
  update_keeps : (es : List Entry) → content_for request r.ty ≡ Some es → does_edit_members r es ≡ true → KeepsMembers e (members_edited r es) (updated_resource e es r).attrs
  update_keeps es whole edits =
      let m : MembershipData = members_edited r es in
      let may : IsUpdatable e es r = updatable e o request r es none there whole in
      let ty : r.ty ≡ Group = same_type r.ty Group (eqb-true _ _ (and_parts (is_ty r.ty Group) _ edits).0) in
      let wants : membership_edited r es ≡ Some m = rw edits refl in
      let asked : membership_edited r (named_by Update request r) ≡ Some m =
      ap (λ (x : Option (List Entry)). membership_edited r (unwrap_or x [])) whole ∙ wants in
      let places : (have_addresses e.home (Some m) && (are_few m && (is_consistent e m && true))) ≡ true =
      ap (λ (x : Option MembershipData). have_addresses e.home x && list_all (λ (p : Check). p.holds) (member_places e x)) (sym asked) ∙ (places_parts Update e o request r none).new in
      let members = taken_parts e m (and_parts (have_addresses e.home (Some m)) _ places).1 in
      let kinds : are_kinds r ≡ true = number_passes are_kinds r.number e.nodes r sound.kinds there in
      let fit : AreFit m = edited_fit r es may.sorted (ap (λ (k : Ty). are_admitted Updating k es) (sym ty) ∙ may.admitted) (ap (λ (k : Ty). have_kinds k r.attrs) (sym ty) ∙ kinds) in
      let kept : List Row = edited (edit_in es) r.attrs in
      let base : List Row = with_rows (state_row r) kept in
      let own : with_rows (own_rows e es r) kept ≡ with_rows (member_rows e m) base =
      with_rows-append (state_row r) (group_rows e (membership_edited r es)) kept
      ∙ ap (λ (x : Option MembershipData). with_rows (group_rows e x) base) wants in
      let rows : (updated_resource e es r).attrs ≡ with_rows (link_row e es Macp) (with_rows (link_row e es Acpi) (with_rows (member_rows e m) base)) =
      rows_are e es r ∙ ap (λ (x : List Row). with_rows (link_row e es Macp) (with_rows (link_row e es Acpi) x)) own in
      subst (KeepsMembers e m) (sym rows)
      (keeps_alike e m _ (with_rows (member_rows e m) base) (links_alike e es (with_rows (member_rows e m) base))
      (keeps_members e m base fit.strategy members.few members.consistent))

  by_edited : (x : Option (List Entry)) → content_for request r.ty ≡ x → does_edit_members r (unwrap_or x []) ≡ true → KeepsMembers e (members_edited r (unwrap_or x [])) (updated_resource e (unwrap_or x []) r).attrs
  by_edited None is edits = absurd (updates_attributes e o request r none is)
  by_edited (Some es) is edits = update_keeps es is edits

  pub group_keeps : does_edit_members r (named_by Update request r) ≡ true → KeepsMembers e (members_edited r (named_by Update request r)) (updated_by e request r).attrs
  group_keeps edits = by_edited (content_for request r.ty) refl edits

pub update_keeps_members : (e : EntityData) (o : List ℕ) (request : RequestParts) (n : ℕ) (r : ResourceData) → IsSoundEntity e → fault_at Update e o request n ≡ None → at n e.nodes ≡ Some r → does_edit_members r (named_by Update request r) ≡ true → KeepsMembers e (members_edited r (named_by Update request r)) (updated_by e request r).attrs
update_keeps_members e o request n r sound none found edits =
    group_keeps e o request r sound (nothing_on Update e o request n r found none)
    (ap (λ (m : ℕ). at m e.nodes) (at_number n e.nodes r found) ∙ found) edits
