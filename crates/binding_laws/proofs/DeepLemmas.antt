-- A value that is read from its own text is no deeper than a text is read.
use Rattle.binding_laws.proofs.Words.{◌≡◌, ◌<◌, ◌≤◌, ◌^◌, Bool, true, false, List, [], Option, Some, None, refl, sym, ap, ◌∙◌, arith, append-nil, ℤ, pos, Ok, is_some, option_and_then}
use Rattle.binding_laws.proofs.Terms.{Data, null, boolean, number, text, list, object, depth}
use Rattle.binding_laws.proofs.Facts.{false≢true}
use Rattle.std.specs.Prelude.{is_ok, negsuc, if◌then◌else◌}
use Rattle.std.specs.Str.{is_utf8}
use Rattle.json.specs.Json as tree
use Rattle.json.specs.Tree as tokens_of
use Rattle.json.specs.Token.{Token}
use Rattle.json.specs.Lex.{tokens}
use Rattle.json.proofs.Found.{one_reading}
use Rattle.json.proofs.Nesting.{value-depth}
use Rattle.json.proofs.Printed.Decimals.{IsNumber-decimal, IsNumber-signed_decimal}
use Rattle.json.proofs.Printed.Tokens.{tokens-print}
use Rattle.json.proofs.Printed.Trees.{ArePrintable-json_tokens, value-json_tokens}
use Rattle.serde_json.specs.Data as json
use Rattle.serde_json.specs.Read.{max_depth, of_json, read}
use Rattle.serde_json.specs.Written.{items_outline, members_outline, outline}
use Rattle.serde_json.proofs.Texts.{print-outline}
use Rattle.m2m_value.specs.Data.{Elements, Pairs, element, elements_depth, no_elements, no_pairs, pair, pairs_depth}
use Rattle.m2m_value.specs.Reading.{reading, reading_depth, value_if}
use Rattle.m2m_value.specs.Sound.{AreSound, HaveSound, IsSound}
use Rattle.m2m_value.specs.Spelling.{text_of}
use Rattle.m2m_value.proofs.Raised.{raised, raised_elements, raised_pairs, text_of-same}
use lib.Signed.{mag}

-- ---- the numbers of a value are numbers

is_number : (z : ℤ) → mag z < 2 ^ 63 → tokens_of.HasNumbers (outline (raised (number z)))
is_number (pos n) h = IsNumber-decimal n (omega arith)
is_number (negsuc n) h = IsNumber-signed_decimal (negsuc n) h

mutual
  has_numbers : (d : Data) → IsSound d → tokens_of.HasNumbers (outline (raised d))
  has_numbers null h = tt
  has_numbers (boolean b) h = tt
  has_numbers (number z) h = is_number z h
  has_numbers (text s) h = tt
  has_numbers (list es) h = elements_have_numbers es h
  has_numbers (object ps) h = pairs_have_numbers ps h.2

  elements_have_numbers : (es : Elements) → AreSound es → tokens_of.ItemsHaveNumbers (items_outline (raised_elements es))
  elements_have_numbers no_elements h = tt
  elements_have_numbers (element d es) h = (has_numbers d h.0, elements_have_numbers es h.1)

  pairs_have_numbers : (ps : Pairs) → HaveSound ps → tokens_of.MembersHaveNumbers (members_outline (raised_pairs ps))
  pairs_have_numbers no_pairs h = tt
  pairs_have_numbers (pair k d ps) h = (has_numbers d h.0, pairs_have_numbers ps h.1)

-- ---- its tree is as deep

mutual
  same_depth : (d : Data) → tokens_of.depth (outline (raised d)) ≡ depth d
  same_depth null = refl
  same_depth (boolean b) = refl
  same_depth (number z) = refl
  same_depth (text s) = refl
  same_depth (list es) = omega (arith, same_elements_depth es)
  same_depth (object ps) = omega (arith, same_pairs_depth ps)

  same_elements_depth : (es : Elements) → tokens_of.items_depth (items_outline (raised_elements es)) ≡ elements_depth es
  same_elements_depth no_elements = refl
  same_elements_depth (element d es) = omega (arith, same_depth d, same_elements_depth es)

  same_pairs_depth : (ps : Pairs) → tokens_of.members_depth (members_outline (raised_pairs ps)) ≡ pairs_depth ps
  same_pairs_depth no_pairs = refl
  same_pairs_depth (pair k d ps) = omega (arith, same_depth d, same_pairs_depth ps)

-- ---- so it is that tree that its text is read as

module _ (d : Data) (sound : IsSound d) where
  abbrev own : tree.Json
  own = outline (raised d)

  abbrev spelled : List Token
  spelled = tokens_of.json_tokens own

  spelled_is : tokens (text_of d) ≡ spelled
  spelled_is = ap tokens (text_of-same d ∙ sym (print-outline (raised d))) ∙ tokens-print spelled (ArePrintable-json_tokens own (has_numbers d sound))

  own_value : tree.value (tokens_of.depth own) spelled ≡ Some (own, [])
  own_value = ap (tree.value (tokens_of.depth own)) (sym (append-nil spelled)) ∙ value-json_tokens own (tokens_of.depth own) [] (omega arith)

  shallow_by : (found : Option (tree.Json × List Token)) (j : json.Data) → tree.value max_depth (tokens (text_of d)) ≡ found
      → option_and_then of_json (option_and_then (λ p. tree.if_last p.0 p.1) found) ≡ Some j → depth d ≤ reading_depth
  shallow_by None j is told = absurd (false≢true (ap is_some told))
  shallow_by (Some p) j is told =
      let here : tree.value max_depth spelled ≡ Some p = ap (tree.value max_depth) (sym spelled_is) ∙ is in
      let same = one_reading max_depth (tokens_of.depth own) spelled p (own, []) here own_value in
      omega (arith, value-depth max_depth spelled [] own (here ∙ same), same_depth d)

  shallow_found : (found : Option json.Data) (e : Data) → read (text_of d) ≡ found → value_if found ≡ Ok e → depth d ≤ reading_depth
  shallow_found None e is told = absurd (false≢true (ap is_ok told))
  shallow_found (Some j) e is told = shallow_by (tree.value max_depth (tokens (text_of d))) j refl is

  shallow_text : (utf8 : Bool) (e : Data) → value_if (if utf8 then read (text_of d) else None) ≡ Ok e → depth d ≤ reading_depth
  shallow_text true e told = shallow_found (read (text_of d)) e refl told
  shallow_text false e told = absurd (false≢true (ap is_ok told))

  pub shallow_own : (e : Data) → reading (text_of d) ≡ Ok e → depth d ≤ reading_depth
  shallow_own e told = shallow_text (is_utf8 (text_of d)) e told
