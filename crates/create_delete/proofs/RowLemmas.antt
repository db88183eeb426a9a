-- The values of attributes that are put in one after another.
use Rattle.std.proofs.Common.{◌≡◌, ◌==◌, ℕ, List, [], ◌∷◌, ◌++◌, Bool, true, not, filter, if◌then◌else◌, length, inl, inr, refl, sym, ap, ◌∙◌, subst}
use Rattle.std.proofs.lemmas.Bool.{cases_Bool, and_parts, both_ways, not-true}
use Rattle.std.proofs.lemmas.List.Kept.{IsStrictlySortedBy-filter}
use Rattle.std.specs.List.Sorted.{IsStrictlySortedBy}
use Rattle.std.specs.Map.{keys_of}
use Rattle.std.specs.List.{list_all}
use Rattle.m2m_names.specs.declared.attributes.Attr.{Attr}
use Rattle.m2m_names.specs.declared.attributes.Attr.TheVariants.{Acpi, Macp}
use Rattle.m2m_value.specs.Data.{Data, Entry, elements_of, list}
use Rattle.resource_model.specs.Attributes.{Row, AreInOrder, attr_cmp, is_attr, value_of, with_value}
use Rattle.resource_model.specs.Resource.{ResourceData}
use Rattle.resource_model.proofs.AttributeLemmas.{is_attr-itself, value-with_value_other}
use Rattle.tree_model.specs.Shown.{with_rows}
use Rattle.tree_model.proofs.ShownLemmas.{with_rows-append}
use Rattle.attribute_rules.specs.Contents.{edit_in, edited, wanted_in}
use Rattle.entity_model.specs.Entity.{EntityData}
use Rattle.request_rules.specs.Creation.{Creation, creator_rows, given_rows, new_name, new_owner, new_resource, new_rows, rows_besides}
use Rattle.request_rules.specs.Groups.{group_rows, membership_edited}
use Rattle.request_rules.specs.Judged.{AreLinksOf}
use Rattle.request_rules.specs.Policies.{are_policies, link_row, links_live}
use Rattle.request_rules.specs.Requests.{expiry_for}
use Rattle.request_rules.specs.declared.allowed.Links.{Links}
use Rattle.request_rules.proofs.PolicyLemmas.{links_kept}
use Rattle.create_delete.specs.Changing.{is_told, is_told_at, own_rows, state_row, updated_resource}

-- none of them is of the attribute
abbrev pub lacks_attr : Attr → List Row → Bool
lacks_attr a rows = list_all (λ (row : Row). not (is_attr row.0 a)) rows

pub value_unset : (a : Attr) (more rows : List Row) → lacks_attr a more ≡ true → value_of a (with_rows more rows) ≡ value_of a rows
value_unset a [] rows none = refl
value_unset a (row ∷ more) rows none =
    let parts = and_parts (not (is_attr row.0 a)) (lacks_attr a more) none in
    value_unset a more (with_value row.0 row.1 rows) parts.1
    ∙ value-with_value_other row.0 a row.1 rows (λ e. both_ways _ (not-true _ parts.0) (ap (is_attr row.0) e ∙ is_attr-itself row.0))

-- ---- after an update

-- three lists of them after an edit
pub edited_in_turn : (a b d rows one two three : List Row) → one ≡ with_rows a rows → two ≡ with_rows b one → three ≡ with_rows d two → three ≡ with_rows (a ++ b ++ d) rows
edited_in_turn a b d rows one two three first second third =
    third ∙ ap (with_rows d) (second ∙ ap (with_rows b) first)
    ∙ ap (with_rows d) (sym (with_rows-append a b rows)) ∙ sym (with_rows-append (a ++ b) d rows)

-- and four after a creation
pub given_in_turn : (a b d f rows one two three four : List Row) → one ≡ with_rows a rows → two ≡ with_rows b one → three ≡ with_rows d two → four ≡ with_rows f three → four ≡ with_rows (a ++ b ++ d ++ f) rows
given_in_turn a b d f rows one two three four first second third fourth =
    fourth ∙ ap (with_rows f) (edited_in_turn a b d rows one two three first second third)
    ∙ sym (with_rows-append (a ++ b ++ d) f rows)

-- the policies that a content names, which are live, at the two attributes
pub linked_in_turn : (e : EntityData) (es : List Entry) (links : Links) (rows one two : List Row) → AreLinksOf e es links → links_live e es ≡ true
    → one ≡ with_rows (if length links.acpi.items == 0 then [] else (Acpi, list (elements_of links.acpi.items)) ∷ []) rows
    → two ≡ with_rows (if length links.macp.items == 0 then [] else (Macp, list (elements_of links.macp.items)) ∷ []) one
    → two ≡ with_rows (link_row e es Macp) (with_rows (link_row e es Acpi) rows)
linked_in_turn e es links rows one two are live first second =
    let both = and_parts (are_policies e Acpi es) (are_policies e Macp es) live in
    second
    ∙ ap (λ (ids : List Data). with_rows (if length ids == 0 then [] else (Macp, list (elements_of ids)) ∷ []) one) are.macp
    ∙ ap (λ (added : List Row). with_rows added one) (links_kept e es Macp both.1)
    ∙ ap (with_rows (link_row e es Macp))
    (first
    ∙ ap (λ (ids : List Data). with_rows (if length ids == 0 then [] else (Acpi, list (elements_of ids)) ∷ []) rows) are.acpi
    ∙ ap (λ (added : List Row). with_rows added rows) (links_kept e es Acpi both.0))

-- all that a new resource keeps
pub created_in_turn : (c : Creation) (kept one two : List Row) → kept ≡ (wanted_in c.named).attrs → one ≡ with_rows (creator_rows c.originator c.named) (with_rows (given_rows c.ty c) kept) → two ≡ with_rows (link_row c.e c.named Macp) (with_rows (link_row c.e c.named Acpi) one) → two ≡ new_rows c
created_in_turn c kept one two start first second =
    given_in_turn (given_rows c.ty c) (creator_rows c.originator c.named) (link_row c.e c.named Acpi) (link_row c.e c.named Macp)
    kept (with_rows (given_rows c.ty c) kept) one (with_rows (link_row c.e c.named Acpi) one) two refl first refl second
    ∙ ap (with_rows (rows_besides c)) start

-- a resource with the parts of the new one
abbrev pub made_with : Creation → ℕ → List ℕ → ℕ → List ℕ → ℕ → ℕ → List Row → ResourceData
made_with c number name parent owner last et attrs = record { number = number; ty = c.ty; name = name; parent = parent; owner = owner; ct = last; lt = last; et = et; attrs = attrs }

pub made_of : (c : Creation) (number : ℕ) (name : List ℕ) (parent : ℕ) (owner : List ℕ) (last et : ℕ) (attrs : List Row) → number ≡ c.e.next → name ≡ new_name c → parent ≡ c.parent.number → owner ≡ new_owner c → last ≡ c.e.last → et ≡ expiry_for c.named → attrs ≡ new_rows c → made_with c number name parent owner last et attrs ≡ new_resource c
made_of c number name parent owner last et attrs numbers names parents owners lasts expiries rows =
    ap (λ (n : ℕ). made_with c n name parent owner last et attrs) numbers
    ∙ ap (λ (m : List ℕ). made_with c c.e.next m parent owner last et attrs) names
    ∙ ap (λ (p : ℕ). made_with c c.e.next (new_name c) p owner last et attrs) parents
    ∙ ap (λ (o : List ℕ). made_with c c.e.next (new_name c) c.parent.number o last et attrs) owners
    ∙ ap (λ (l : ℕ). made_with c c.e.next (new_name c) c.parent.number (new_owner c) l et attrs) lasts
    ∙ ap (λ (x : ℕ). made_with c c.e.next (new_name c) c.parent.number (new_owner c) c.e.last x attrs) expiries
    ∙ ap (λ (all : List Row). made_with c c.e.next (new_name c) c.parent.number (new_owner c) c.e.last (expiry_for c.named) all) rows

-- and all that one keeps which is updated
pub updated_in_turn : (e : EntityData) (es : List Entry) (r : ResourceData) (one two three four : List Row) → one ≡ edited (edit_in es) r.attrs → two ≡ with_rows (state_row r) one → three ≡ with_rows (group_rows e (membership_edited r es)) two → four ≡ with_rows (link_row e es Macp) (with_rows (link_row e es Acpi) three) → four ≡ (updated_resource e es r).attrs
updated_in_turn e es r one two three four start first second third =
    given_in_turn (state_row r) (group_rows e (membership_edited r es)) (link_row e es Acpi) (link_row e es Macp)
    one two three (with_rows (link_row e es Acpi) three) four first second refl third
    ∙ ap (with_rows (own_rows e es r ++ link_row e es Acpi ++ link_row e es Macp)) start

-- ---- what is told

keys_told : (es : List Entry) (rows : List Row) → keys_of (filter (is_told es) rows) ≡ filter (is_told_at es) (keys_of rows)
keys_told es [] = refl
keys_told es (row ∷ rows) = elim (cases_Bool (is_told_at es row.0)) [
  | inl t ↦ rw t (ap (λ (ks : List Attr). row.0 ∷ ks) (keys_told es rows))
  | inr f ↦ rw f (keys_told es rows)
]

-- stands in order as all does
pub told_in_order : (es : List Entry) (all rows : List Row) → AreInOrder all → rows ≡ filter (is_told es) all → AreInOrder rows
told_in_order es all rows order is =
    subst AreInOrder (sym is) (subst (IsStrictlySortedBy attr_cmp) (sym (keys_told es all)) (IsStrictlySortedBy-filter attr_cmp (is_told_at es) (keys_of all) order))
