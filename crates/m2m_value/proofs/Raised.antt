-- Each value as `serde_json` keeps it, and the text that `serde_json` defines for it.
use Rattle.std.proofs.Common.{◌≡◌, ℕ, ◌+◌, ◌==◌, ℤ, pos, negsuc, List, [], ◌∷◌, ◌++◌, Bool, true, false, not, if◌then◌else◌, flat_map, refl, ap, ap₂, ◌∙◌, arith, append_assoc, ne_eqb}
use Rattle.std.proofs.lemmas.Bool.Decides.{nat_tests}
use Rattle.json.specs.Print.{escape_byte, escape, quoted as spec_quoted}
use Rattle.serde_json.specs.Data as json
use Rattle.serde_json.specs.Written.{compact_text, items_text, members_text, comma_if}
use Rattle.m2m_value.specs.Data.{Data, null, boolean, number, text, list, object, Elements, no_elements, element, Pairs, no_pairs, pair}
use Rattle.m2m_value.specs.Spelling.{escaped, quoted, comma_at, text_of, elements_from, pairs_from}

-- a whole number, as `serde_json` keeps it
abbrev pub raised_number : ℤ → json.Num
raised_number (pos n) = json.unsigned n
raised_number (negsuc n) = json.negative (negsuc n)

abbrev mutual
  pub raised : Data → json.Data
  raised null = json.null
  raised (boolean b) = json.boolean b
  raised (number z) = json.number (raised_number z)
  raised (text s) = json.string s
  raised (list es) = json.array (raised_elements es)
  raised (object ps) = json.object (raised_pairs ps)

  pub raised_elements : Elements → json.Items
  raised_elements no_elements = json.no_items
  raised_elements (element d es) = json.item (raised d) (raised_elements es)

  pub raised_pairs : Pairs → json.Members
  raised_pairs no_pairs = json.no_members
  raised_pairs (pair k d ps) = json.member k (raised d) (raised_pairs ps)

-- ---- the two definitions of the text agree

pub escaped-same : (byte : ℕ) → escaped byte ≡ escape_byte byte
unfolding escape_byte
escaped-same byte = grind (arith, nat_tests)

pub escaped_all-same : (s : List ℕ) → flat_map escaped s ≡ escape s
escaped_all-same [] = refl
escaped_all-same (b ∷ s) = ap₂ (λ x y. x ++ y) (escaped-same b) (escaped_all-same s)

pub quoted-same : (s : List ℕ) → quoted s ≡ spec_quoted s
quoted-same s = ap (λ t. 34 ∷ (t ++ 34 ∷ [])) (escaped_all-same s)

number-same : (z : ℤ) → text_of (number z) ≡ compact_text (raised (number z))
number-same (pos n) = refl
number-same (negsuc n) = refl

truth-same : (b : Bool) → text_of (boolean b) ≡ compact_text (json.boolean b)
truth-same true = refl
truth-same false = refl

comma-same : (b : Bool) → (if b then [] else 44 ∷ []) ≡ comma_if (not b)
comma-same true = refl
comma-same false = refl

later : (place : ℕ) → not (place + 1 == 0) ≡ true
later place = rw (ne_eqb (place + 1) 0 (λ e. omega arith)) refl

regroup : (a b c d : List ℕ) → (a ++ (b ++ c)) ++ d ≡ a ++ (b ++ (c ++ d))
regroup a b c d = simp append_assoc refl

regroup_pair : (a q b c d : List ℕ) → (a ++ (q ++ 58 ∷ (b ++ c))) ++ d ≡ a ++ (q ++ 58 ∷ (b ++ (c ++ d)))
regroup_pair a q b c d = append_assoc a _ d ∙ ap (λ s. a ++ s) (append_assoc q _ d ∙ ap (λ s. q ++ 58 ∷ s) (append_assoc b c d))

mutual
  pub text_of-same : (d : Data) → text_of d ≡ compact_text (raised d)
  text_of-same null = refl
  text_of-same (boolean b) = truth-same b
  text_of-same (number z) = number-same z
  text_of-same (text s) = quoted-same s
  text_of-same (list es) = ap (λ s. 91 ∷ s) (elements_from-same es 0)
  text_of-same (object ps) = ap (λ s. 123 ∷ s) (pairs_from-same ps 0)

  elements_from-same : (es : Elements) (place : ℕ) → elements_from es place ++ 93 ∷ [] ≡ items_text (not (place == 0)) (raised_elements es)
  elements_from-same no_elements place = refl
  elements_from-same (element d es) place =
      regroup (comma_at place) (text_of d) (elements_from es (place + 1)) (93 ∷ [])
      ∙ ap₂ (λ c s. c ++ s) (comma-same (place == 0))
      (ap₂ (λ s t. s ++ t) (text_of-same d) (elements_from-same es (place + 1) ∙ ap (λ b. items_text b (raised_elements es)) (later place)))

  pairs_from-same : (ps : Pairs) (place : ℕ) → pairs_from ps place ++ 125 ∷ [] ≡ members_text (not (place == 0)) (raised_pairs ps)
  pairs_from-same no_pairs place = refl
  pairs_from-same (pair k d ps) place =
      regroup_pair (comma_at place) (quoted k) (text_of d) (pairs_from ps (place + 1)) (125 ∷ [])
      ∙ ap₂ (λ c s. c ++ s) (comma-same (place == 0)) (ap₂ (λ q s. q ++ 58 ∷ s) (quoted-same k)
      (ap₂ (λ s t. s ++ t) (text_of-same d) (pairs_from-same ps (place + 1) ∙ ap (λ b. members_text b (raised_pairs ps)) (later place))))
