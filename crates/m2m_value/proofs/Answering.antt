-- What the rest of a list or an object answers, after the parts that are kept.
use Rattle.std.proofs.Common.{◌≡◌, Bool, true, false, None, if◌then◌else◌, ℕ, List, [], ◌∷◌, ◌++◌, map, Result, Ok, Err, String, Global, Less, IsUtf8, nat_cmp, string_bytes, refl, sym, ap, ◌∙◌}
use Rattle.std.specs.Cmp.Lexicographic.{slice_cmp}
use Rattle.std.specs.List.{AllByRecursion}
use Rattle.std.specs.List.Sorted.{IsStrictlySortedBy}
use Rattle.std.specs.Map.{keys_of}
use Rattle.std.specs.String.{string_cmp}
use Rattle.std.proofs.lemmas.Str.{IsUtf8-from_is_utf8, is_utf8-from_IsUtf8}
use Rattle.std.specs.Str.{is_utf8}
use Rattle.serde_json.specs.Data as json
use Rattle.serde_json.specs.Read.{read}
use Rattle.m2m_value.specs.Data.{Data, Entry, Elements, no_elements, element, elements_of, Pairs, no_pairs, pair, pairs_of}
use Rattle.m2m_value.specs.Reading.{followed, value_kept, elements_in, pairs_in, value_if, reading}
use Rattle.m2m_value.specs.declared.fault.ValFault.{ValFault}
use Rattle.m2m_value.specs.declared.fault.ValFault.TheVariants.{NotJson}

-- the elements ds, and then es
abbrev pub onto : List Data → Elements → Elements
onto [] es = es
onto (d ∷ ds) es = element d (onto ds es)

abbrev pub pairs_onto : List Entry → Pairs → Pairs
pairs_onto [] ps = ps
pairs_onto (e ∷ es) ps = pair e.0 e.1 (pairs_onto es ps)

-- the answer for the rest, with what is kept before it
abbrev pub after_kept : List Data → Result Elements ValFault → Result Elements ValFault
after_kept ds rest = followed rest (λ es. Ok (onto ds es))

abbrev pub pairs_after_kept : List Entry → Result Pairs ValFault → Result Pairs ValFault
pairs_after_kept es rest = followed rest (λ ps. Ok (pairs_onto es ps))

pub onto-none : (ds : List Data) → onto ds no_elements ≡ elements_of ds
onto-none [] = refl
onto-none (d ∷ ds) = ap (element d) (onto-none ds)

pub pairs_onto-none : (es : List Entry) → pairs_onto es no_pairs ≡ pairs_of es
pairs_onto-none [] = refl
pairs_onto-none (e ∷ es) = ap (pair e.0 e.1) (pairs_onto-none es)

onto-push : (ds : List Data) (d : Data) (es : Elements) → onto (ds ++ d ∷ []) es ≡ onto ds (element d es)
onto-push [] d es = refl
onto-push (x ∷ ds) d es = ap (element x) (onto-push ds d es)

pairs_onto-push : (es : List Entry) (e : Entry) (ps : Pairs) → pairs_onto (es ++ e ∷ []) ps ≡ pairs_onto es (pair e.0 e.1 ps)
pairs_onto-push [] e ps = refl
pairs_onto-push (x ∷ es) e ps = ap (pair x.0 x.1) (pairs_onto-push es e ps)

pub one_more : (ds : List Data) (d : Data) (rest : Result Elements ValFault) → after_kept ds (followed rest (λ es. Ok (element d es))) ≡ after_kept (ds ++ d ∷ []) rest
one_more ds d (Ok es) = ap Ok (sym (onto-push ds d es))
one_more ds d (Err fault) = refl

one_more_pair : (es : List Entry) (e : Entry) (rest : Result Pairs ValFault) → pairs_after_kept es (followed rest (λ ps. Ok (pair e.0 e.1 ps))) ≡ pairs_after_kept (es ++ e ∷ []) rest
one_more_pair es e (Ok ps) = ap Ok (sym (pairs_onto-push es e ps))
one_more_pair es e (Err fault) = refl

pub element_kept : (ds more : List Data) (j : json.Data) (js : json.Items) (d : Data) → value_kept j ≡ Ok d → more ≡ ds ++ d ∷ [] → after_kept ds (elements_in (json.item j js)) ≡ after_kept more (elements_in js)
element_kept ds more j js d told pushed =
    ap (λ r. after_kept ds (followed r (λ e. followed (elements_in js) (λ es. Ok (element e es))))) told ∙ one_more ds d (elements_in js) ∙ ap (λ l. after_kept l (elements_in js)) (sym pushed)

pub pair_kept : (es more : List Entry) (k : List ℕ) (j : json.Data) (ms : json.Members) (d : Data) → value_kept j ≡ Ok d → more ≡ es ++ (k, d) ∷ []
    → pairs_after_kept es (pairs_in (json.member k j ms)) ≡ pairs_after_kept more (pairs_in ms)
pair_kept es more k j ms d told pushed =
    ap (λ r. pairs_after_kept es (followed r (λ e. followed (pairs_in ms) (λ ps. Ok (pair k e ps))))) told ∙ one_more_pair es (k, d) (pairs_in ms) ∙ ap (λ l. pairs_after_kept l (pairs_in ms)) (sym pushed)

pub element_refused : (ds : List Data) (j : json.Data) (js : json.Items) (fault : ValFault) → value_kept j ≡ Err fault → after_kept ds (elements_in (json.item j js)) ≡ Err fault
element_refused ds j js fault told = ap (λ r. after_kept ds (followed r (λ e. followed (elements_in js) (λ es. Ok (element e es))))) told

pub pair_refused : (es : List Entry) (k : List ℕ) (j : json.Data) (ms : json.Members) (fault : ValFault) → value_kept j ≡ Err fault → pairs_after_kept es (pairs_in (json.member k j ms)) ≡ Err fault
pair_refused es k j ms fault told = ap (λ r. pairs_after_kept es (followed r (λ e. followed (pairs_in ms) (λ ps. Ok (pair k e ps))))) told

pub text_keys-push : (es : List Entry) (e : Entry) → AllByRecursion IsUtf8 (keys_of es) → IsUtf8 e.0 → AllByRecursion IsUtf8 (keys_of (es ++ e ∷ []))
text_keys-push [] e h one = (one, tt)
text_keys-push (x ∷ es) e h one = (h.0, text_keys-push es e h.1 one)

below_texts : (k : String Global) (ks : List (String Global)) → AllByRecursion (λ y. string_cmp k y ≡ Less) ks → AllByRecursion (λ y. slice_cmp nat_cmp (string_bytes k) y ≡ Less) (map string_bytes ks)
below_texts k [] h = tt
below_texts k (x ∷ ks) h = (h.0, below_texts k ks h.1)

-- keys in order have their bytes in order
pub sorted_texts : (ks : List (String Global)) → IsStrictlySortedBy string_cmp ks → IsStrictlySortedBy (slice_cmp nat_cmp) (map string_bytes ks)
unfolding IsStrictlySortedBy
sorted_texts [] h = tt
sorted_texts (k ∷ ks) h = (below_texts k ks h.0, sorted_texts ks h.1)

pub keys_of-push : (es : List Entry) (e : Entry) (ks : List (List ℕ)) → keys_of es ++ e.0 ∷ ks ≡ keys_of (es ++ e ∷ []) ++ ks
keys_of-push [] e ks = refl
keys_of-push (x ∷ es) e ks = ap (λ l. x.0 ∷ l) (keys_of-push es e ks)

-- what is read of bytes that are UTF-8, and of bytes that are not
pub reading-text : (bytes : List ℕ) → IsUtf8 bytes → reading bytes ≡ value_if (read bytes)
reading-text bytes utf8 = rw (is_utf8-from_IsUtf8 bytes utf8) refl

reading_refused : (b : Bool) (bytes : List ℕ) → is_utf8 bytes ≡ b → (IsUtf8 bytes → read bytes ≡ None) → value_if (if b then read bytes else None) ≡ Err NotJson
reading_refused false bytes e none = refl
reading_refused true bytes e none = ap value_if (none (IsUtf8-from_is_utf8 bytes e))

pub reading-refused : (bytes : List ℕ) → (IsUtf8 bytes → read bytes ≡ None) → reading bytes ≡ Err NotJson
reading-refused bytes none = reading_refused (is_utf8 bytes) bytes refl none
