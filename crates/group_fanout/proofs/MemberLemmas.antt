-- The addresses of members, and what is told of them.
use Rattle.std.proofs.Common.{◌≡◌, ℕ, List, [], ◌∷◌, ◌++◌, true, IsUtf8, sym, ap, ◌∙◌, subst}
use Rattle.std.proofs.lemmas.Bool.{and_parts}
use Rattle.std.proofs.lemmas.List.{append_assoc}
use Rattle.std.proofs.lemmas.List.Elements.{filter_map-append}
use Rattle.std.proofs.lemmas.Str.{IsUtf8-append}
use Rattle.m2m_names.proofs.NameLemmas.{name_is_utf8}
use Rattle.m2m_value.specs.Data.{Entry}
use Rattle.tree_model.proofs.ShownLemmas.{slash_utf8}
use Rattle.addressing.specs.Addresses.{are_names, joined}
use Rattle.filter_criteria.specs.Values.{NamedValue, entry_there, present}

-- ---- an address, part by part

-- a part more is written
joined_on : (a p : List ℕ) (ps : List (List ℕ)) → joined (((a ++ 47 ∷ []) ++ p) ∷ ps) ≡ joined (a ∷ p ∷ ps)
joined_on a p [] = append_assoc a (47 ∷ []) p
joined_on a p (q ∷ qs) =
    append_assoc (a ++ 47 ∷ []) p (47 ∷ joined (q ∷ qs)) ∙ append_assoc a (47 ∷ []) (p ++ 47 ∷ joined (q ∷ qs))

pub written_on : (a b p whole : List ℕ) (left more : List (List ℕ)) → left ≡ p ∷ more → b ≡ (a ++ 47 ∷ []) ++ p → joined (a ∷ left) ≡ whole → joined (b ∷ more) ≡ whole
written_on a b p whole left more is text all =
    ap (λ t. joined (t ∷ more)) text ∙ joined_on a p more ∙ ap (λ ps. joined (a ∷ ps)) (sym is) ∙ all

-- and it stays a text
pub text_on : (a b p : List ℕ) (left more : List (List ℕ)) → left ≡ p ∷ more → b ≡ (a ++ 47 ∷ []) ++ p → IsUtf8 a → are_names left ≡ true → IsUtf8 b
text_on a b p left more is text utf8 names =
    subst IsUtf8 (sym text)
    (IsUtf8-append (a ++ 47 ∷ []) p (IsUtf8-append a (47 ∷ []) utf8 slash_utf8)
    (name_is_utf8 p (and_parts _ _ (ap are_names (sym is) ∙ names)).0))

-- before names
pub names_on : (p : List ℕ) (left more : List (List ℕ)) → left ≡ p ∷ more → are_names left ≡ true → are_names more ≡ true
names_on p left more is names = (and_parts _ _ (ap are_names (sym is) ∙ names)).1

pub ruleset written_so_far = (written_on, text_on, names_on)

-- ---- what is told of one

-- four rows, one after another
pub four_present : (a b c d : NamedValue) (none one two three four : List Entry) → none ≡ [] → one ≡ none ++ present (a ∷ []) → two ≡ one ++ present (b ∷ []) → three ≡ two ++ present (c ∷ []) → four ≡ three ++ present (d ∷ []) → four ≡ present (a ∷ b ∷ c ∷ d ∷ [])
four_present a b c d none one two three four at0 at1 at2 at3 at4 =
    let first : one ≡ present (a ∷ []) = at1 ∙ ap (λ es. es ++ present (a ∷ [])) at0 in
    let second : two ≡ present (a ∷ b ∷ []) = at2 ∙ ap (λ es. es ++ present (b ∷ [])) first ∙ sym (filter_map-append entry_there (a ∷ []) (b ∷ [])) in
    let third : three ≡ present (a ∷ b ∷ c ∷ []) = at3 ∙ ap (λ es. es ++ present (c ∷ [])) second ∙ sym (filter_map-append entry_there (a ∷ b ∷ []) (c ∷ [])) in
    at4 ∙ ap (λ es. es ++ present (d ∷ [])) third ∙ sym (filter_map-append entry_there (a ∷ b ∷ c ∷ []) (d ∷ []))
