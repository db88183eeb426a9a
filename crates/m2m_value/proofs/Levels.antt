-- Lists of elements and members beside the data that they make.
use Rattle.std.proofs.Common.{◌≡◌, ℕ, List, [], ◌∷◌, Some, None, false, unwrap_or, IsUtf8, nat_cmp, refl, sym, ap, ◌∙◌, subst}
use Rattle.std.specs.Cmp.Lexicographic.{slice_cmp}
use Rattle.std.specs.List.{AllByRecursion}
use Rattle.std.specs.List.Sorted.{IsStrictlySortedBy}
use Rattle.std.specs.Map.{keys_of}
use Rattle.m2m_value.specs.Data.{Data, null, boolean, number, text, list, object, Elements, no_elements, element, Entry, Pairs, no_pairs, pair, elements_of, pairs_of}
use Rattle.m2m_value.specs.Node.{AreSorted, HaveTextKeys}
use Rattle.m2m_value.specs.Same.{same, same_items}
use Rattle.m2m_value.specs.Sound.{pair_keys, IsSound, HaveSound}
use Rattle.m2m_value.specs.View.{as_list, as_object, elements, entries}

pub pair_keys-pairs_of : (es : List Entry) → pair_keys (pairs_of es) ≡ keys_of es
pair_keys-pairs_of [] = refl
pair_keys-pairs_of (e ∷ es) = ap (λ ks. e.0 ∷ ks) (pair_keys-pairs_of es)

pub elements-elements_of : (ds : List Data) → elements (elements_of ds) ≡ ds
elements-elements_of [] = refl
elements-elements_of (d ∷ ds) = ap (λ es. d ∷ es) (elements-elements_of ds)

pub entries-pairs_of : (es : List Entry) → entries (pairs_of es) ≡ es
entries-pairs_of [] = refl
entries-pairs_of (e ∷ es) = ap (λ ds. e ∷ ds) (entries-pairs_of es)

elements_of-elements : (es : Elements) → elements_of (elements es) ≡ es
elements_of-elements no_elements = refl
elements_of-elements (element d es) = ap (element d) (elements_of-elements es)

pairs_of-entries : (ps : Pairs) → pairs_of (entries ps) ≡ ps
pairs_of-entries no_pairs = refl
pairs_of-entries (pair k d ps) = ap (pair k d) (pairs_of-entries ps)

-- a value that is seen as a list is that list
pub list_seen : (d : Data) (ds : List Data) → as_list d ≡ Some ds → d ≡ list (elements_of ds)
list_seen null ds e = cc
list_seen (boolean b) ds e = cc
list_seen (number z) ds e = cc
list_seen (text s) ds e = cc
list_seen (list es) ds e = sym (ap list (elements_of-elements es)) ∙ ap (λ o. list (elements_of (unwrap_or o []))) e
list_seen (object ps) ds e = cc

-- one that is seen as an object is that object
pub object_seen : (d : Data) (es : List Entry) → as_object d ≡ Some es → d ≡ object (pairs_of es)
object_seen null es e = cc
object_seen (boolean b) es e = cc
object_seen (number z) es e = cc
object_seen (text s) es e = cc
object_seen (list xs) es e = cc
object_seen (object ps) es e = sym (ap object (pairs_of-entries ps)) ∙ ap (λ o. object (pairs_of (unwrap_or o []))) e

-- a list beside what is seen as a list, and beside what isn't
pub same_list : (ds : List Data) (d : Data) (es : List Data) → as_list d ≡ Some es → same (list (elements_of ds)) d ≡ same_items ds es
same_list ds d es seen = ap (same (list (elements_of ds))) (list_seen d es seen)

pub same_no_list : (ds : List Data) (d : Data) → as_list d ≡ None → same (list (elements_of ds)) d ≡ false
same_no_list ds null seen = refl
same_no_list ds (boolean b) seen = refl
same_no_list ds (number z) seen = refl
same_no_list ds (text s) seen = refl
same_no_list ds (list es) seen = cc
same_no_list ds (object ps) seen = refl

pub ruleset same_list_rules = (same_list, same_no_list)

-- an object is sound where its keys are, and its values
pub sound_object : (es : List Entry) → AreSorted es → HaveTextKeys es → HaveSound (pairs_of es) → IsSound (object (pairs_of es))
sound_object es sorted texts sound =
    let P : List (List ℕ) → Type 0 = λ ks. IsStrictlySortedBy (slice_cmp nat_cmp) ks × AllByRecursion IsUtf8 ks × HaveSound (pairs_of es) in
    subst P (sym (pair_keys-pairs_of es)) (sorted, texts, sound)
