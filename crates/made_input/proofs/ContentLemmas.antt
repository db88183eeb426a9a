-- The members of the contents stand in order.
use Rattle.std.proofs.Common.{◌≡◌, ℕ, List, [], ◌∷◌, ◌++◌, IsUtf8, codes, refl, sym, ap, ◌∙◌, subst}
use Rattle.std.specs.List.Sorted.{IsStrictlySortedBy}
use Rattle.m2m_value.specs.Data.{Data, Entry}
use Rattle.m2m_value.specs.Node.{AreSorted, HaveTextKeys}

ae_sorted : (a b c : Data) → AreSorted ((codes "api", a) ∷ (codes "rn", b) ∷ (codes "rr", c) ∷ [])
unfolding IsStrictlySortedBy
ae_sorted a b c = ((refl, (refl, tt)), ((refl, tt), (tt, tt)))

pub sorted_ae : (es : List Entry) (a b c : Data)
    → es ≡ (([] ++ (codes "api", a) ∷ []) ++ (codes "rn", b) ∷ []) ++ (codes "rr", c) ∷ [] → AreSorted es
sorted_ae es a b c is = subst AreSorted (sym is) (ae_sorted a b c)

container_sorted : (a b : Data) → AreSorted ((codes "mni", a) ∷ (codes "rn", b) ∷ [])
unfolding IsStrictlySortedBy
container_sorted a b = ((refl, tt), (tt, tt))

pub sorted_container : (es : List Entry) (a b : Data)
    → es ≡ ([] ++ (codes "mni", a) ∷ []) ++ (codes "rn", b) ∷ [] → AreSorted es
sorted_container es a b is = subst AreSorted (sym is) (container_sorted a b)

subscription_sorted : (a b c : Data) → AreSorted ((codes "enc", a) ∷ (codes "nct", b) ∷ (codes "nu", c) ∷ [])
unfolding IsStrictlySortedBy
subscription_sorted a b c = ((refl, (refl, tt)), ((refl, tt), (tt, tt)))

pub sorted_subscription : (es : List Entry) (a b c : Data)
    → es ≡ (([] ++ (codes "enc", a) ∷ []) ++ (codes "nct", b) ∷ []) ++ (codes "nu", c) ∷ [] → AreSorted es
sorted_subscription es a b c is = subst AreSorted (sym is) (subscription_sorted a b c)

group_sorted : (a b : Data) → AreSorted ((codes "mid", a) ∷ (codes "mnm", b) ∷ [])
unfolding IsStrictlySortedBy
group_sorted a b = ((refl, tt), (tt, tt))

pub sorted_group : (es : List Entry) (a b : Data)
    → es ≡ ([] ++ (codes "mid", a) ∷ []) ++ (codes "mnm", b) ∷ [] → AreSorted es
sorted_group es a b is = subst AreSorted (sym is) (group_sorted a b)

-- ---- keys

-- members that are pushed one after another, whose keys are UTF-8
pub two_texts : (none one two all : List Entry) (j k : List ℕ) (a b : Data) → none ≡ [] → one ≡ none ++ (j, a) ∷ [] → two ≡ one ++ (k, b) ∷ [] → all ≡ two → IsUtf8 j → IsUtf8 k → HaveTextKeys all
two_texts none one two all j k a b first second third same left right =
    let f : Entry = (j, a) in
    let s : Entry = (k, b) in
    let is : all ≡ f ∷ s ∷ [] =
    same ∙ third ∙ ap (λ (es : List Entry). es ++ s ∷ []) (second ∙ ap (λ (es : List Entry). es ++ f ∷ []) first) in
    subst HaveTextKeys (sym is) (left, (right, tt))

pub three_texts : (none one two three all : List Entry) (i j k : List ℕ) (a b d : Data) → none ≡ [] → one ≡ none ++ (i, a) ∷ [] → two ≡ one ++ (j, b) ∷ [] → three ≡ two ++ (k, d) ∷ [] → all ≡ three → IsUtf8 i → IsUtf8 j → IsUtf8 k → HaveTextKeys all
three_texts none one two three all i j k a b d first second third fourth same left middle right =
    let f : Entry = (i, a) in
    let s : Entry = (j, b) in
    let t : Entry = (k, d) in
    let is : all ≡ f ∷ s ∷ t ∷ [] =
    same ∙ fourth ∙ ap (λ (es : List Entry). es ++ t ∷ []) (third ∙ ap (λ (es : List Entry). es ++ s ∷ []) (second ∙ ap (λ (es : List Entry). es ++ f ∷ []) first)) in
    subst HaveTextKeys (sym is) (left, (middle, (right, tt)))
