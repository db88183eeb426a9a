-- The target of a request to another CSE says its address and its query.
use Rattle.binding_laws.proofs.Words.{◌≡◌, ℕ, ◌<◌, ◌≤◌, ◌==◌, ◌&&◌, Bool, true, not, cond, nat_eq, List, [], ◌∷◌, ◌++◌, length, drop, codes, Option, Some, IsTrue, IsUtf8, inl, inr, refl, sym, ap, subst, ◌∙◌, arith, append-nil, Ok, Err, unwrap_or, list_all, starts_with, option_map_or}
use Rattle.binding_laws.proofs.Terms.{append_pair, byte_serialize, extend_pairs, is_nonempty, separator, serialize_pair, is_path_byte, is_query_byte, percent_sign, slash, split_once_front, split_once_back, is_filled, Ask, Pair, said_by_target, target_of, is_some_text, target_limit, query_part, has_own_path, path_of_address}
use Rattle.binding_laws.proofs.Facts.{and_from, and_parts, cond_both, cond-true, cond-false, le-leb, lt-ltb, ltb-true, ne_eqb, nat_tests, All-weaker, list_all-from_AllPass, is_utf8-from_IsUtf8, IsSerializedByte, All-byte_serialize, all_weaker}
use Rattle.std.proofs.Common.{nat_lt}
use Rattle.std.proofs.lemmas.List.Folds.{list_all-append}
use Rattle.http_uri.specs.Grammar.{or_slash, path_of, without_fragment}
use Rattle.http_target.specs.declared.fault.BindFault.TheVariants as bind
use Rattle.http_target.specs.Targets.{TargetValues, address_of_path, is_origin_form, is_path_and_query, is_target, is_uncoded_byte, split_target, target_parts, target_values, with_tildes}
use Rattle.http_target.proofs.TargetLemmas.{tildes_kept}
use Rattle.http_client_binding.proofs.AddressLemmas.{address_back}
use Rattle.binding_laws.specs.ReadBack.{is_address_byte}
use Rattle.binding_laws.proofs.EachLemmas.{each_parts}
use Rattle.binding_laws.proofs.CutLemmas.{back_at, back_none, front_at, front_none, is_other}

-- ---- bytes

-- what holds of each byte of two texts
pub all_append : (p : ℕ → Bool) (xs ys : List ℕ) → list_all p xs ≡ true → list_all p ys ≡ true → list_all p (xs ++ ys) ≡ true
all_append p xs ys a b = list_all-append p xs ys ∙ and_from _ _ a b

pub all_drop : (p : ℕ → Bool) (xs : List ℕ) → list_all p xs ≡ true → list_all p (drop 1 xs) ≡ true
all_drop p [] a = refl
all_drop p (x ∷ xs) a = (each_parts p x xs a).rest

-- a byte that passes a test, and is ASCII
pub record IsAsciiOf (p : ℕ → Bool) (b : ℕ) : Type 0 where
  pub passes : p b ≡ true
  pub ascii : b < 128

pub ascii_parts : (p : ℕ → Bool) (b : ℕ) → (p b && nat_lt b 128) ≡ true → IsAsciiOf p b
ascii_parts p b h =
    let parts = and_parts (p b) (nat_lt b 128) h in
    record { passes = parts.0; ascii = ltb-true b 128 parts.1 }

-- a byte of an address is one of a path, and stands for itself
record IsAddressByte (b : ℕ) : Type 0 where
  path : is_path_byte b ≡ true
  uncoded : is_uncoded_byte b ≡ true

address_parts : (b : ℕ) → is_address_byte b ≡ true → IsAddressByte b
address_parts b h =
    let parts = and_parts (is_path_byte b) (not (b == percent_sign)) h in
    record { path = parts.0; uncoded = parts.1 }

-- the path of an address is one of three texts, and what holds of each holds of it
pub path_holds : (P : List ℕ → Type 0) (to : List ℕ) → P (codes "/_" ++ drop 1 to) → P (codes "/~" ++ to) → P (slash ∷ to) → P (path_of_address to)
path_holds P to two one none =
    cond_both (starts_with nat_eq to (codes "//")) _ _ P (λ is. two) (λ other. cond_both (starts_with nat_eq to (codes "/")) _ _ P (λ is. one) (λ still. none))

path_bytes : (to : List ℕ) → list_all is_address_byte to ≡ true → list_all is_address_byte (path_of_address to) ≡ true
path_bytes to h =
    path_holds (λ (path : List ℕ). list_all is_address_byte path ≡ true) to
    (all_append is_address_byte (codes "/_") (drop 1 to) refl (all_drop is_address_byte to h)) (all_append is_address_byte (codes "/~") to refl h) h

pub path_begins : (to : List ℕ) → (rest : List ℕ) × (path_of_address to ≡ slash ∷ rest)
path_begins to =
    path_holds (λ (path : List ℕ). (rest : List ℕ) × (path ≡ slash ∷ rest)) to (95 ∷ drop 1 to, refl) (126 ∷ to, refl) (to, refl)

path_no_mark : (b : ℕ) → is_address_byte b ≡ true → is_other 63 b ≡ true
path_no_mark b h = let p = (address_parts b h).path in grind (arith, nat_tests)

path_no_hash : (b : ℕ) → is_address_byte b ≡ true → is_other 35 b ≡ true
path_no_hash b h = let p = (address_parts b h).path in grind (arith, nat_tests)

-- ---- the bytes of a query

-- a byte of a query that is ASCII
abbrev pub is_form_byte : ℕ → Bool
is_form_byte b = is_query_byte b && nat_lt b 128

query_serialized : (b : ℕ) → IsSerializedByte b → IsTrue (is_form_byte b)
query_serialized b h = elim h.allowed [
  | inl kept ↦ grind (arith, nat_tests)
  | inr (inl plus) ↦ subst (λ (c : ℕ). IsTrue (is_form_byte c)) (sym plus) refl
  | inr (inr percent) ↦ subst (λ (c : ℕ). IsTrue (is_form_byte c)) (sym percent) refl
]

query_text_byte : (bs : List ℕ) → list_all is_form_byte (byte_serialize bs) ≡ true
query_text_byte bs =
    list_all-from_AllPass is_form_byte (byte_serialize bs)
    (All-weaker IsSerializedByte (λ b. IsTrue (is_form_byte b)) query_serialized (byte_serialize bs) (All-byte_serialize bs))

query_separator : (form : List ℕ) → list_all is_form_byte (separator form) ≡ true
query_separator form = cond_both (is_nonempty form) _ _ (λ (text : List ℕ). list_all is_form_byte text ≡ true) (λ some. refl) (λ none. refl)

query_pair : (form key value : List ℕ) → list_all is_form_byte form ≡ true → list_all is_form_byte (append_pair form key value) ≡ true
query_pair form key value h =
    all_append is_form_byte (form ++ separator form) (serialize_pair (key, value))
    (all_append is_form_byte form (separator form) h (query_separator form))
    (all_append is_form_byte (byte_serialize key ++ 61 ∷ []) (byte_serialize value)
    (all_append is_form_byte (byte_serialize key) (61 ∷ []) (query_text_byte key) refl) (query_text_byte value))

pub form_bytes : (form : List ℕ) (pairs : List Pair) → list_all is_form_byte form ≡ true → list_all is_form_byte (extend_pairs form pairs) ≡ true
form_bytes form [] h = h
form_bytes form (pair ∷ pairs) h = form_bytes (append_pair form pair.0 pair.1) pairs (query_pair form pair.0 pair.1 h)

pub query_bytes : (pairs : List Pair) → list_all is_query_byte (extend_pairs [] pairs) ≡ true
query_bytes pairs = all_weaker is_form_byte is_query_byte (λ b h. (ascii_parts is_query_byte b h).passes) (extend_pairs [] pairs) (form_bytes [] pairs refl)

query_no_hash : (b : ℕ) → is_query_byte b ≡ true → is_other 35 b ≡ true
query_no_hash b h = grind (arith, nat_tests)

-- ---- the target

-- a path and a query, joined
abbrev pub target_with : List ℕ → List ℕ → List ℕ
target_with to query = path_of_address to ++ query_part query

-- what is known of both
pub record Fits (to query : List ℕ) : Type 0 where
  pub own : IsTrue (has_own_path to)
  pub path : list_all is_address_byte to ≡ true
  pub filled : IsTrue (is_filled target_limit to)
  pub to_utf8 : IsUtf8 to
  pub asked : list_all is_query_byte query ≡ true
  pub utf8 : IsUtf8 (target_with to query)
  pub few : length (target_with to query) ≤ 65534

-- the path, and the query where there is one
record Cut (to query : List ℕ) : Type 0 where
  front : split_once_front 63 (target_with to query) ≡ path_of_address to
  told : unwrap_or (split_once_back 63 (target_with to query)) [] ≡ query
  bytes : option_map_or (list_all is_query_byte) (split_once_back 63 (target_with to query)) true ≡ true
  no_hash : list_all (is_other 35) (target_with to query) ≡ true

cut : (to query : List ℕ) → Fits to query → Cut to query
cut to [] fits =
    let path = path_bytes to fits.path in
    let no_mark = all_weaker is_address_byte (is_other 63) path_no_mark (path_of_address to) path in
    let no_hash = all_weaker is_address_byte (is_other 35) path_no_hash (path_of_address to) path in
    let whole : path_of_address to ++ [] ≡ path_of_address to = append-nil (path_of_address to) in
    record {
      front = ap (split_once_front 63) whole ∙ front_none 63 (path_of_address to) no_mark;
      told = ap (λ t. unwrap_or (split_once_back 63 t) []) whole ∙ ap (λ o. unwrap_or o []) (back_none 63 (path_of_address to) no_mark);
      bytes = ap (λ t. option_map_or (list_all is_query_byte) (split_once_back 63 t) true) whole
          ∙ ap (λ o. option_map_or (list_all is_query_byte) o true) (back_none 63 (path_of_address to) no_mark);
      no_hash = ap (list_all (is_other 35)) whole ∙ no_hash;
    }
cut to (q ∷ query) fits =
    let path = path_bytes to fits.path in
    let no_mark = all_weaker is_address_byte (is_other 63) path_no_mark (path_of_address to) path in
    let no_hash = all_weaker is_address_byte (is_other 35) path_no_hash (path_of_address to) path in
    let some : is_some_text (q ∷ query) ≡ true = lt-ltb 0 (length (q ∷ query)) (omega arith) in
    let whole : target_with to (q ∷ query) ≡ path_of_address to ++ 63 ∷ q ∷ query = ap (λ p. path_of_address to ++ p) (cond-true _ _ _ some) in
    record {
      front = ap (split_once_front 63) whole ∙ front_at 63 (path_of_address to) (q ∷ query) refl no_mark;
      told = ap (λ t. unwrap_or (split_once_back 63 t) []) whole ∙ ap (λ o. unwrap_or o []) (back_at 63 (path_of_address to) (q ∷ query) refl no_mark);
      bytes = ap (λ t. option_map_or (list_all is_query_byte) (split_once_back 63 t) true) whole
          ∙ ap (λ o. option_map_or (list_all is_query_byte) o true) (back_at 63 (path_of_address to) (q ∷ query) refl no_mark) ∙ fits.asked;
      no_hash = ap (list_all (is_other 35)) whole
          ∙ all_append (is_other 35) (path_of_address to) (63 ∷ q ∷ query) no_hash (all_weaker is_query_byte (is_other 35) query_no_hash (q ∷ query) fits.asked);
    }

origin : (to query : List ℕ) → Fits to query → Cut to query → is_origin_form (target_with to query) ≡ true
origin to query fits c =
    let text = target_with to query in
    let begins = path_begins to in
    let slashed : starts_with nat_eq text (codes "/") ≡ true = ap (λ p. starts_with nat_eq (p ++ query_part query) (codes "/")) begins.1 in
    let kept : without_fragment text ≡ text = front_none 35 text c.no_hash in
    let path : list_all is_path_byte (split_once_front 63 text) ≡ true =
    ap (list_all is_path_byte) c.front ∙ all_weaker is_address_byte is_path_byte (λ b h. (address_parts b h).path) (path_of_address to) (path_bytes to fits.path) in
    and_from _ _ (and_from _ _ slashed (le-leb (length text) 65534 fits.few))
    (ap is_path_and_query kept ∙ and_from _ _ (and_from _ _ path c.bytes) (is_utf8-from_IsUtf8 text fits.utf8))

-- a path that isn't empty stays
slash_some : (b : ℕ) (rest : List ℕ) → or_slash (b ∷ rest) ≡ b ∷ rest
slash_some b rest = cond-false _ _ _ (ne_eqb (length (b ∷ rest)) 0 (λ e. omega (arith, e)))

-- the target says address and query
pub target_said : (method to query : List ℕ) (minor : ℕ) → Fits to query
    → target_of (Ask method (target_with to query) minor) ≡ Ok (record { to = to; query = query })
target_said method to query minor fits =
    let text = target_with to query in
    let c = cut to query fits in
    let kept : without_fragment text ≡ text = front_none 35 text c.no_hash in
    let begins = path_begins to in
    let parts : target_parts text ≡ Some (split_target text) = cond-true _ _ _ (origin to query fits c) ∙ ap (λ t. Some (split_target t)) kept in
    let path : path_of text ≡ path_of_address to =
    ap or_slash c.front ∙ ap or_slash begins.1 ∙ slash_some slash begins.0 ∙ sym begins.1 in
    let tildes : with_tildes (path_of_address to) ≡ path_of_address to =
    tildes_kept (path_of_address to) (all_weaker is_address_byte is_uncoded_byte (λ b h. (address_parts b h).uncoded) (path_of_address to) (path_bytes to fits.path)) in
    let address : address_of_path (with_tildes (path_of text)) ≡ to = ap (λ p. address_of_path (with_tildes p)) path ∙ ap address_of_path tildes ∙ address_back to fits.own in
    let values : target_values (split_target text) ≡ record { to = to; query = query } = λ i. record { to = address i; query = c.told i } in
    let good : is_target (record { to = to; query = query }) ≡ true = and_from _ _ fits.filled (is_utf8-from_IsUtf8 to fits.to_utf8) in
    ap (λ o. option_map_or said_by_target o (Err bind.Target)) parts
    ∙ ap (λ (v : TargetValues). cond (is_target v) (Ok v) (Err bind.Target)) values
    ∙ cond-true _ _ _ good
