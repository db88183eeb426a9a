-- Values beside what stands in for a hidden one.
use Rattle.std.proofs.Common.{◌≡◌, ℕ, ℤ, List, [], ◌∷◌, Bool, true, false, ◌&&◌, Option, refl, ap, sym}
use Rattle.std.specs.Prelude.{bytes_eq}
use Rattle.std.specs.Option.{option_map_or}
use Rattle.std.specs.Ordering.{int_eq}
use Rattle.m2m_value.specs.Data.{Data, null, boolean, number, text, list, object, Elements, no_elements, element, elements_of, Entry, Pairs, no_pairs, pair, pairs_of}
use Rattle.m2m_value.specs.Same.{same, same_elements, same_pairs, same_items, same_members}
use Rattle.m2m_value.specs.View.{as_text, as_number, as_list, as_object, elements, entries}

pub and_true : (b : Bool) → (b && true) ≡ b
and_true true = refl
and_true false = refl

pub same_text : (d : Data) (t : List ℕ) → same d (text t) ≡ option_map_or (λ own. bytes_eq own t) (as_text d) false
same_text null t = refl
same_text (boolean b) t = refl
same_text (number n) t = refl
same_text (text own) t = refl
same_text (list es) t = refl
same_text (object ps) t = refl

pub same_number : (d : Data) (z : ℤ) → same d (number z) ≡ option_map_or (λ own. int_eq own z) (as_number d) false
same_number null z = refl
same_number (boolean b) z = refl
same_number (number n) z = refl
same_number (text own) z = refl
same_number (list es) z = refl
same_number (object ps) z = refl

elements_again : (es : Elements) → elements_of (elements es) ≡ es
elements_again no_elements = refl
elements_again (element d es) = ap (element d) (elements_again es)

pairs_again : (ps : Pairs) → pairs_of (entries ps) ≡ ps
pairs_again no_pairs = refl
pairs_again (pair k d ps) = ap (pair k d) (pairs_again ps)

pub same_list : (d : Data) (ys : List Data) → same d (list (elements_of ys)) ≡ option_map_or (λ xs. same_items xs ys) (as_list d) false
same_list null ys = refl
same_list (boolean b) ys = refl
same_list (number n) ys = refl
same_list (text own) ys = refl
same_list (list es) ys = ap (λ (xs : Elements). same_elements xs (elements_of ys)) (sym (elements_again es))
same_list (object ps) ys = refl

pub same_object : (d : Data) (ys : List Entry) → same d (object (pairs_of ys)) ≡ option_map_or (λ xs. same_members xs ys) (as_object d) false
same_object null ys = refl
same_object (boolean b) ys = refl
same_object (number n) ys = refl
same_object (text own) ys = refl
same_object (list es) ys = refl
same_object (object ps) ys = ap (λ (xs : Pairs). same_pairs xs (pairs_of ys)) (sym (pairs_again ps))
