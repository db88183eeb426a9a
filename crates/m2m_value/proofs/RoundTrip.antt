-- The text of a value is read as that value.
use Rattle.std.proofs.Common.{◌≡◌, ℕ, ◌+◌, ◌<◌, ◌≤◌, ◌^◌, ℤ, pos, negsuc, List, [], ◌∷◌, Bool, true, false, Option, Some, option_map, option_and_then, Ok, Less, Greater, IsUtf8, nat_cmp, ◌==◌, if◌then◌else◌, refl, sym, ap, ◌∙◌, subst, arith, append-nil, lt-ltb}
use Rattle.std.proofs.lemmas.Cmp.{nat_list_cmp_total}
use Rattle.std.proofs.lemmas.Fmt.{IsAscii-signed}
use Rattle.std.proofs.lemmas.Str.{IsUtf8-append, IsUtf8-nil, IsUtf8-from_ascii}
use Rattle.std.specs.Cmp.Lexicographic.{slice_cmp}
use Rattle.std.specs.List.{AllByRecursion}
use Rattle.std.specs.List.Sorted.{IsStrictlySortedBy}
use Rattle.std.specs.Ordering.{ordering_reverse}
use Rattle.json.specs.Json as tree
use Rattle.json.specs.Tree as tokens_of
use Rattle.json.specs.Token.{Token}
use Rattle.json.specs.Lex.{tokens}
use Rattle.json.proofs.Printed.Decimals.{IsNumber-decimal, IsNumber-signed_decimal}
use Rattle.json.proofs.Printed.Tokens.{tokens-print}
use Rattle.json.proofs.Printed.Trees.{ArePrintable-json_tokens, value-json_tokens}
use Rattle.json.proofs.Printed.Utf8.{IsUtf8-are_ascii, IsUtf8-quoted}
use Rattle.serde_json.specs.Data as json
use Rattle.serde_json.specs.Read.{number_of, of_json, of_items, of_members, read, max_depth}
use Rattle.serde_json.specs.Written.{number_text, outline, items_outline, members_outline}
use Rattle.serde_json.proofs.Numbers.{number_of-decimal, number_of-negative}
use Rattle.serde_json.proofs.Texts.{print-outline}
use Rattle.m2m_value.specs.Data.{Data, null, boolean, number, text, list, object, Elements, no_elements, element, Pairs, no_pairs, pair, depth, elements_depth, pairs_depth}
use Rattle.m2m_value.specs.Reading.{followed, whole_of, value_kept, elements_in, pairs_in, value_if, reading, reading_depth}
use Rattle.m2m_value.specs.Sound.{IsSound, AreSound, HaveSound, pair_keys}
use Rattle.m2m_value.specs.Spelling.{quoted, text_of, elements_from, pairs_from}
use Rattle.m2m_value.proofs.Answering.{reading-text}
use Rattle.m2m_value.proofs.Raised.{raised_number, raised, raised_elements, raised_pairs, text_of-same, quoted-same}
use lib.Signed.{mag}

-- ---- its numbers are numbers, and read back

is_number : (z : ℤ) → mag z < 2 ^ 63 → tokens_of.HasNumbers (outline (raised (number z)))
is_number (pos n) h = IsNumber-decimal n (omega arith)
is_number (negsuc n) h = IsNumber-signed_decimal (negsuc n) h

mutual
  has_numbers : (d : Data) → IsSound d → tokens_of.HasNumbers (outline (raised d))
  has_numbers null h = tt
  has_numbers (boolean b) h = tt
  has_numbers (number z) h = is_number z h
  has_numbers (text s) h = tt
  has_numbers (list es) h = elements_have_numbers es h
  has_numbers (object ps) h = pairs_have_numbers ps h.2

  elements_have_numbers : (es : Elements) → AreSound es → tokens_of.ItemsHaveNumbers (items_outline (raised_elements es))
  elements_have_numbers no_elements h = tt
  elements_have_numbers (element d es) h = (has_numbers d h.0, elements_have_numbers es h.1)

  pairs_have_numbers : (ps : Pairs) → HaveSound ps → tokens_of.MembersHaveNumbers (members_outline (raised_pairs ps))
  pairs_have_numbers no_pairs h = tt
  pairs_have_numbers (pair k d ps) h = (has_numbers d h.0, pairs_have_numbers ps h.1)

number_back : (z : ℤ) → mag z < 2 ^ 63 → number_of (number_text (raised_number z)) ≡ Some (raised_number z)
number_back (pos n) h = number_of-decimal n (omega arith)
number_back (negsuc n) h = number_of-negative n h

-- ---- it nests as deep

mutual
  same_depth : (d : Data) → tokens_of.depth (outline (raised d)) ≡ depth d
  same_depth null = refl
  same_depth (boolean b) = refl
  same_depth (number z) = refl
  same_depth (text s) = refl
  same_depth (list es) = omega (arith, same_elements_depth es)
  same_depth (object ps) = omega (arith, same_pairs_depth ps)

  same_elements_depth : (es : Elements) → tokens_of.items_depth (items_outline (raised_elements es)) ≡ elements_depth es
  same_elements_depth no_elements = refl
  same_elements_depth (element d es) = omega (arith, same_depth d, same_elements_depth es)

  same_pairs_depth : (ps : Pairs) → tokens_of.members_depth (members_outline (raised_pairs ps)) ≡ pairs_depth ps
  same_pairs_depth no_pairs = refl
  same_pairs_depth (pair k d ps) = omega (arith, same_depth d, same_pairs_depth ps)

-- ---- keys in order go in at the end, one after another

abbrev joined : json.Members → json.Members → json.Members
joined json.no_members ms = ms
joined (json.member k d more) ms = json.member k d (joined more ms)

abbrev keys_in : json.Members → List (List ℕ)
keys_in json.no_members = []
keys_in (json.member k d ms) = k ∷ keys_in ms

joined-none : (ms : json.Members) → joined ms json.no_members ≡ ms
joined-none json.no_members = refl
joined-none (json.member k d ms) = ap (json.member k d) (joined-none ms)

joined-assoc : (a b c : json.Members) → joined (joined a b) c ≡ joined a (joined b c)
joined-assoc json.no_members b c = refl
joined-assoc (json.member k d a) b c = ap (json.member k d) (joined-assoc a b c)

below_middle : (l : List ℕ) (done : json.Members) (k : List ℕ) (d : json.Data) (rest : json.Members)
    → AllByRecursion (λ y. slice_cmp nat_cmp l y ≡ Less) (keys_in (joined done (json.member k d rest))) → slice_cmp nat_cmp l k ≡ Less
below_middle l json.no_members k d rest h = h.0
below_middle l (json.member m e done) k d rest h = below_middle l done k d rest h.1

put_last : (done : json.Members) (k : List ℕ) (d : json.Data) (rest : json.Members) → IsStrictlySortedBy (slice_cmp nat_cmp) (keys_in (joined done (json.member k d rest)))
    → json.put k d done ≡ joined done (json.member k d json.no_members)
unfolding IsStrictlySortedBy
put_last json.no_members k d rest h = refl
put_last (json.member l e done) k d rest h =
    let above : slice_cmp nat_cmp k l ≡ Greater = nat_list_cmp_total.antisymm k l ∙ ap ordering_reverse (below_middle l done k d rest h.0) in
    rw above (ap (json.member l e) (put_last done k d rest h.1))

raised_keys : (ps : Pairs) → keys_in (raised_pairs ps) ≡ pair_keys ps
raised_keys no_pairs = refl
raised_keys (pair k d ps) = ap (λ ks. k ∷ ks) (raised_keys ps)

mutual
  kept_back : (d : Data) → IsSound d → of_json (outline (raised d)) ≡ Some (raised d)
  kept_back null h = refl
  kept_back (boolean b) h = refl
  kept_back (number z) h = ap (option_map json.number) (number_back z h)
  kept_back (text s) h = refl
  kept_back (list es) h = ap (option_map json.array) (elements_kept_back es h)
  kept_back (object ps) h = ap (option_map json.object) (pairs_kept_back ps json.no_members h.2 (subst (IsStrictlySortedBy (slice_cmp nat_cmp)) (sym (raised_keys ps)) h.0))

  elements_kept_back : (es : Elements) → AreSound es → of_items (items_outline (raised_elements es)) ≡ Some (raised_elements es)
  elements_kept_back no_elements h = refl
  elements_kept_back (element d es) h =
      ap (option_and_then (λ x. option_map (json.item x) (of_items (items_outline (raised_elements es))))) (kept_back d h.0) ∙ ap (option_map (json.item (raised d))) (elements_kept_back es h.1)

  pairs_kept_back : (ps : Pairs) (done : json.Members) → HaveSound ps → IsStrictlySortedBy (slice_cmp nat_cmp) (keys_in (joined done (raised_pairs ps)))
      → of_members (members_outline (raised_pairs ps)) done ≡ Some (joined done (raised_pairs ps))
  pairs_kept_back no_pairs done h sorted = ap Some (sym (joined-none done))
  pairs_kept_back (pair k d ps) done h sorted =
      let rest = raised_pairs ps in
      let more = joined done (json.member k (raised d) json.no_members) in
      let again = joined-assoc done (json.member k (raised d) json.no_members) rest in
      ap (option_and_then (λ x. of_members (members_outline rest) (json.put k x done))) (kept_back d h.0)
      ∙ ap (of_members (members_outline rest)) (put_last done k (raised d) rest sorted)
      ∙ pairs_kept_back ps more h.1 (subst (λ ms. IsStrictlySortedBy (slice_cmp nat_cmp) (keys_in ms)) (sym again) sorted)
      ∙ ap Some again

-- ---- `serde_json` reads the text as what it would keep

abbrev whole : Option (tree.Json × List Token) → Option json.Data
whole o = option_and_then of_json (option_and_then (λ p. tree.if_last p.0 p.1) o)

pub read-text_of : (d : Data) → IsSound d → depth d ≤ max_depth → read (text_of d) ≡ Some (raised d)
read-text_of d sound shallow =
    let j = outline (raised d) in
    let ts = tokens_of.json_tokens j in
    let spelled : tokens (text_of d) ≡ ts = ap tokens (text_of-same d ∙ sym (print-outline (raised d))) ∙ tokens-print ts (ArePrintable-json_tokens j (has_numbers d sound)) in
    ap whole (ap (tree.value max_depth) (spelled ∙ sym (append-nil ts)) ∙ value-json_tokens j max_depth [] (omega (arith, same_depth d))) ∙ kept_back d sound

-- ---- and each number is kept

number_kept : (z : ℤ) → mag z < 2 ^ 63 → whole_of (raised_number z) ≡ Ok z
number_kept (pos n) h = rw (lt-ltb _ _ h) refl
number_kept (negsuc n) h = refl

mutual
  pub value_kept-raised : (d : Data) → IsSound d → value_kept (raised d) ≡ Ok d
  value_kept-raised null h = refl
  value_kept-raised (boolean b) h = refl
  value_kept-raised (number z) h = ap (λ r. followed r (λ n. Ok (number n))) (number_kept z h)
  value_kept-raised (text s) h = refl
  value_kept-raised (list es) h = ap (λ r. followed r (λ x. Ok (list x))) (elements_in-raised es h)
  value_kept-raised (object ps) h = ap (λ r. followed r (λ x. Ok (object x))) (pairs_in-raised ps h.2)

  elements_in-raised : (es : Elements) → AreSound es → elements_in (raised_elements es) ≡ Ok es
  elements_in-raised no_elements h = refl
  elements_in-raised (element d es) h =
      ap (λ r. followed r (λ e. followed (elements_in (raised_elements es)) (λ x. Ok (element e x)))) (value_kept-raised d h.0) ∙ ap (λ r. followed r (λ x. Ok (element d x))) (elements_in-raised es h.1)

  pairs_in-raised : (ps : Pairs) → HaveSound ps → pairs_in (raised_pairs ps) ≡ Ok ps
  pairs_in-raised no_pairs h = refl
  pairs_in-raised (pair k d ps) h =
      ap (λ r. followed r (λ e. followed (pairs_in (raised_pairs ps)) (λ x. Ok (pair k e x)))) (value_kept-raised d h.0) ∙ ap (λ r. followed r (λ x. Ok (pair k d x))) (pairs_in-raised ps h.1)

-- ---- the text is UTF-8

comma_utf8 : (b : Bool) → IsUtf8 (if b then [] else 44 ∷ [])
comma_utf8 true = IsUtf8-nil
comma_utf8 false = IsUtf8-are_ascii _ refl

truth_utf8 : (b : Bool) → IsUtf8 (text_of (boolean b))
truth_utf8 true = IsUtf8-are_ascii _ refl
truth_utf8 false = IsUtf8-are_ascii _ refl

quoted_utf8 : (s : List ℕ) → IsUtf8 s → IsUtf8 (quoted s)
quoted_utf8 s h = subst IsUtf8 (sym (quoted-same s)) (IsUtf8-quoted s h)

mutual
  pub IsUtf8-text_of : (d : Data) → IsSound d → IsUtf8 (text_of d)
  IsUtf8-text_of null h = IsUtf8-are_ascii _ refl
  IsUtf8-text_of (boolean b) h = truth_utf8 b
  IsUtf8-text_of (number z) h = IsUtf8-from_ascii _ (IsAscii-signed z h)
  IsUtf8-text_of (text s) h = quoted_utf8 s h
  IsUtf8-text_of (list es) h = IsUtf8-append (91 ∷ []) _ (IsUtf8-are_ascii _ refl) (IsUtf8-append _ (93 ∷ []) (elements_utf8 es 0 h) (IsUtf8-are_ascii _ refl))
  IsUtf8-text_of (object ps) h = IsUtf8-append (123 ∷ []) _ (IsUtf8-are_ascii _ refl) (IsUtf8-append _ (125 ∷ []) (pairs_utf8 ps 0 h.1 h.2) (IsUtf8-are_ascii _ refl))

  elements_utf8 : (es : Elements) (place : ℕ) → AreSound es → IsUtf8 (elements_from es place)
  elements_utf8 no_elements place h = IsUtf8-nil
  elements_utf8 (element d es) place h = IsUtf8-append _ _ (comma_utf8 (place == 0)) (IsUtf8-append _ _ (IsUtf8-text_of d h.0) (elements_utf8 es (place + 1) h.1))

  pairs_utf8 : (ps : Pairs) (place : ℕ) → AllByRecursion IsUtf8 (pair_keys ps) → HaveSound ps → IsUtf8 (pairs_from ps place)
  pairs_utf8 no_pairs place keys h = IsUtf8-nil
  pairs_utf8 (pair k d ps) place keys h =
      IsUtf8-append _ _ (comma_utf8 (place == 0)) (IsUtf8-append _ _ (quoted_utf8 k keys.0)
      (IsUtf8-append (58 ∷ []) _ (IsUtf8-are_ascii _ refl) (IsUtf8-append _ _ (IsUtf8-text_of d h.0) (pairs_utf8 ps (place + 1) keys.1 h.1))))

-- the text of a value is read as that value
pub reading-text_of : (d : Data) → IsSound d → depth d ≤ reading_depth → reading (text_of d) ≡ Ok d
reading-text_of d sound shallow = reading-text (text_of d) (IsUtf8-text_of d sound) ∙ ap value_if (read-text_of d sound shallow) ∙ value_kept-raised d sound
