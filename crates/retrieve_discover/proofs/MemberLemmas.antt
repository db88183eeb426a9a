-- A member that is put twice.
use Rattle.std.proofs.Common.{◌≡◌, ℕ, List, [], ◌∷◌, ◌++◌, Option, Some, None, OnSome, IfNone, unwrap_or, IsUtf8, Ordering, Less, Equal, Greater, codes, refl, sym, ap, ◌∙◌, subst}
use Rattle.std.proofs.lemmas.Cmp.{nat_list_cmp_total, tied_itself}
use Rattle.std.specs.BTreeMap.{insert_entry}
use Rattle.std.specs.List.Sorted.{IsStrictlySortedBy}
use Rattle.std.specs.Ordering.{match_ordering}
use Rattle.m2m_value.specs.Data.{Data, Entry, elements_of, list, null}
use Rattle.m2m_names.proofs.NameLemmas.{graphic_is_utf8}
use Rattle.m2m_value.specs.Node.{AreSorted, HaveTextKeys}
use Rattle.m2m_value.specs.View.{as_list, member_of}
use Rattle.m2m_value.proofs.Lookup.{compared, put_texts}
use Rattle.policy_eval.specs.Rules.{listed_in}
use Rattle.retrieve_discover.specs.Contents.{with_last}

again_at : (o : Ordering) (key : List ℕ) (u v : Data) (e : Entry) (es : List Entry) → compared key e.0 ≡ o → insert_entry compared (insert_entry compared es key u) key v ≡ insert_entry compared es key v
    → insert_entry compared (match_ordering o ((key, u) ∷ e ∷ es) ((e.0, u) ∷ es) (e ∷ insert_entry compared es key u)) key v ≡ match_ordering o ((key, v) ∷ e ∷ es) ((e.0, v) ∷ es) (e ∷ insert_entry compared es key v)
again_at Less key u v e es is more = ap (λ o. match_ordering o ((key, v) ∷ (key, u) ∷ e ∷ es) ((key, v) ∷ e ∷ es) ((key, u) ∷ insert_entry compared (e ∷ es) key v)) (tied_itself nat_list_cmp_total key)
again_at Equal key u v e es is more = ap (λ o. match_ordering o ((key, v) ∷ (e.0, u) ∷ es) ((e.0, v) ∷ es) ((e.0, u) ∷ insert_entry compared es key v)) is
again_at Greater key u v e es is more =
    ap (λ o. match_ordering o ((key, v) ∷ e ∷ insert_entry compared es key u) ((e.0, v) ∷ insert_entry compared es key u) (e ∷ insert_entry compared (insert_entry compared es key u) key v)) is
    ∙ ap (λ rest. e ∷ rest) more

-- what was put last stays
pub put-again : (es : List Entry) (key : List ℕ) (u v : Data) → insert_entry compared (insert_entry compared es key u) key v ≡ insert_entry compared es key v
put-again [] key u v = ap (λ o. match_ordering o ((key, v) ∷ (key, u) ∷ []) ((key, v) ∷ []) ((key, u) ∷ (key, v) ∷ [])) (tied_itself nat_list_cmp_total key)
put-again (e ∷ es) key u v = again_at _ key u v e es refl (put-again es key u v)

-- what is listed in a value that is seen as a list, and in one that isn't
pub listed : (d : Data) (ds : List Data) → as_list d ≡ Some ds → listed_in (Some d) ≡ ds
listed d ds seen = ap (λ o. unwrap_or o []) seen

pub none_listed : (d : Data) → as_list d ≡ None → listed_in (Some d) ≡ []
none_listed d seen = ap (λ o. unwrap_or o []) seen

pub ruleset listed_rules = (listed, none_listed)

-- a list of one more, put where the list was taken away, or where none was
pub listed_last : (taken : Option Data) (key at name : List ℕ) (d v : Data) (objects : List Data) (es mid new : List Entry) → key ≡ name → at ≡ key → taken ≡ member_of at es → objects ≡ listed_in taken ++ d ∷ [] → v ≡ list (elements_of objects)
    → OnSome taken (mid ≡ insert_entry compared es at null) → IfNone taken (mid ≡ es) → new ≡ insert_entry compared mid key v → new ≡ with_last name d es
listed_last taken key at name d v objects es mid new named same found grown is some none put =
    let value : v ≡ list (elements_of (listed_in (member_of name es) ++ d ∷ [])) =
    is ∙ ap (λ (ds : List Data). list (elements_of ds)) (grown ∙ ap (λ (o : Option Data). listed_in o ++ d ∷ []) (found ∙ ap (λ k. member_of k es) (same ∙ named))) in
    put ∙ back taken some none ∙ ap (λ k. insert_entry compared es k v) named ∙ ap (insert_entry compared es name) value
  where
    back : (o : Option Data) → OnSome o (mid ≡ insert_entry compared es at null) → IfNone o (mid ≡ es) → insert_entry compared mid key v ≡ insert_entry compared es key v
    back (Some u) some none = ap (λ xs. insert_entry compared xs key v) (some ∙ ap (λ k. insert_entry compared es k null) same) ∙ put-again es key null v
    back None some none = ap (λ xs. insert_entry compared xs key v) none

-- where a value is taken away the keys stay UTF-8
pub taken_texts : (taken : Option Data) (at : List ℕ) (es mid : List Entry) → IsUtf8 at → OnSome taken (mid ≡ insert_entry compared es at null) → IfNone taken (mid ≡ es) → HaveTextKeys es → HaveTextKeys mid
taken_texts (Some u) at es mid utf8 some none texts = subst HaveTextKeys (sym some) (put_texts es at null texts utf8)
taken_texts None at es mid utf8 some none texts = subst HaveTextKeys (sym none) texts

-- the members of a reference are in order, by keys that are UTF-8
pub reference_sorted : (name typ val : Data) → AreSorted ((codes "nm", name) ∷ (codes "typ", typ) ∷ (codes "val", val) ∷ [])
unfolding IsStrictlySortedBy
reference_sorted name typ val = ((refl, (refl, tt)), ((refl, tt), (tt, tt)))

pub reference_texts : (name typ val : Data) → HaveTextKeys ((codes "nm", name) ∷ (codes "typ", typ) ∷ (codes "val", val) ∷ [])
reference_texts name typ val = (graphic_is_utf8 (codes "nm") refl, (graphic_is_utf8 (codes "typ") refl, (graphic_is_utf8 (codes "val") refl, tt)))

-- three that are pushed one after another
pub pushed_three : (none one two three : List Entry) (a b c : Entry) → none ≡ [] → one ≡ none ++ a ∷ [] → two ≡ one ++ b ∷ [] → three ≡ two ++ c ∷ [] → three ≡ a ∷ b ∷ c ∷ []
pushed_three none one two three a b c first second third fourth =
    fourth ∙ ap (λ (es : List Entry). es ++ c ∷ []) (third ∙ ap (λ (es : List Entry). es ++ b ∷ []) (second ∙ ap (λ (es : List Entry). es ++ a ∷ []) first))
