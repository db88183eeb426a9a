-- The members of what is told stand in order.
use Rattle.std.proofs.Common.{◌≡◌, ℕ, List, [], ◌∷◌, ◌++◌, IsUtf8, codes, filter, inl, inr, refl, sym, ap, ◌∙◌, subst}
use Rattle.std.proofs.lemmas.Bool.{cases_Bool}
use Rattle.std.proofs.lemmas.List.Kept.{IsStrictlySortedBy-filter}
use Rattle.std.specs.List.Sorted.{IsStrictlySortedBy}
use Rattle.std.specs.Map.{keys_of}
use Rattle.m2m_names.specs.declared.attributes.Attr.{Attr}
use Rattle.m2m_value.specs.Data.{Data, Entry}
use Rattle.m2m_value.specs.Node.{AreSorted, HaveTextKeys}
use Rattle.resource_model.specs.Attributes.{Row, AreInOrder, attr_cmp}
use Rattle.subscription_match.specs.Notices.{is_modified, is_modified_at}
use Rattle.tree_model.proofs.ShownLemmas.{one_sorted}

pub sorted_alone : (es : List Entry) (e : Entry) → es ≡ [] ++ e ∷ [] → AreSorted es
sorted_alone es e is = subst AreSorted (sym is) (one_sorted e)

event_sorted : (a b : Data) → AreSorted ((codes "net", a) ∷ (codes "rep", b) ∷ [])
unfolding IsStrictlySortedBy
event_sorted a b = ((refl, tt), (tt, tt))

pub sorted_event : (es : List Entry) (a b : Data) → es ≡ ([] ++ (codes "net", a) ∷ []) ++ (codes "rep", b) ∷ [] → AreSorted es
sorted_event es a b is = subst AreSorted (sym is) (event_sorted a b)

framed_sorted : (a b : Data) → AreSorted ((codes "nev", a) ∷ (codes "sur", b) ∷ [])
unfolding IsStrictlySortedBy
framed_sorted a b = ((refl, tt), (tt, tt))

pub sorted_framed : (es : List Entry) (a b : Data) → es ≡ ([] ++ (codes "nev", a) ∷ []) ++ (codes "sur", b) ∷ [] → AreSorted es
sorted_framed es a b is = subst AreSorted (sym is) (framed_sorted a b)

deletion_sorted : (a b : Data) → AreSorted ((codes "sud", a) ∷ (codes "sur", b) ∷ [])
unfolding IsStrictlySortedBy
deletion_sorted a b = ((refl, tt), (tt, tt))

pub sorted_deletion : (es : List Entry) (a b : Data) → es ≡ ([] ++ (codes "sud", a) ∷ []) ++ (codes "sur", b) ∷ [] → AreSorted es
sorted_deletion es a b is = subst AreSorted (sym is) (deletion_sorted a b)

-- two members that are pushed one after another, whose keys are UTF-8
pub two_texts : (none one two all : List Entry) (j k : List ℕ) (a b : Data) → none ≡ [] → one ≡ none ++ (j, a) ∷ [] → two ≡ one ++ (k, b) ∷ [] → all ≡ two → IsUtf8 j → IsUtf8 k → HaveTextKeys all
two_texts none one two all j k a b first second third same left right =
    let f : Entry = (j, a) in
    let s : Entry = (k, b) in
    let is : all ≡ f ∷ s ∷ [] =
    same ∙ third ∙ ap (λ (es : List Entry). es ++ s ∷ []) (second ∙ ap (λ (es : List Entry). es ++ f ∷ []) first) in
    subst HaveTextKeys (sym is) (left, (right, tt))

-- ---- rows in order

keys_modified : (named : List Attr) (rows : List Row) → keys_of (filter (is_modified named) rows) ≡ filter (is_modified_at named) (keys_of rows)
keys_modified named [] = refl
keys_modified named (row ∷ rows) = elim (cases_Bool (is_modified_at named row.0)) [
  | inl t ↦ rw t (ap (λ (ks : List Attr). row.0 ∷ ks) (keys_modified named rows))
  | inr f ↦ rw f (keys_modified named rows)
]

-- what an update named stands in order as all does
pub modified_in_order : (named : List Attr) (all rows : List Row) → AreInOrder all → rows ≡ filter (is_modified named) all → AreInOrder rows
modified_in_order named all rows order is =
    subst AreInOrder (sym is) (subst (IsStrictlySortedBy attr_cmp) (sym (keys_modified named all)) (IsStrictlySortedBy-filter attr_cmp (is_modified_at named) (keys_of all) order))
