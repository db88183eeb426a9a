-- The pairs of a query are read from its text.
use Rattle.binding_laws.proofs.Words.{◌≡◌, ℕ, ◌<◌, ◌^◌, true, List, [], ◌∷◌, ◌++◌, map, Option, Some, None, IfSome, IsUtf8, refl, ap, subst, sym, ◌∙◌, arith, All, ℤ, nat_lt, decimal, signed_decimal, IsInRange, AllByRecursion, flat_map, list_all}
use Rattle.binding_laws.proofs.Terms.{decode, extend_pairs, raw_pairs, timestamp, IsMoment, ValueOf, asked_of, name_of_condition, sort_of_condition, usage_number, IsValueOfKind, are_type_numbers, Condition, CreatedAfter, CreatedBefore, ExpireAfter, ExpireBefore, Usage, OneLabel, Limit, ModifiedSince, StateTagBigger, StateTagSmaller, SizeAbove, SizeBelow, OneType, UnmodifiedSince, Sort, Moment, Count, Labels, Types, Use, FilterParts, Discovery, Conditional, is_type_number, Pair, decoded_pair, decoded_pairs, condition_pairs, condition_texts, pairs_at, texts_of_sort, whole_texts}
use Rattle.binding_laws.proofs.Facts.{lt-ltb, ltb-true, All-nil, All-cons, IsUtf8-from_ascii, utf8_lossy-IsUtf8, IsAscii-from_all, IsBytePair, round_trip, timestamp_is}
use Rattle.std.specs.Str.Lossy.{utf8_lossy}
use Rattle.percent_encoding.proofs.PercentLemmas.{IsByte}
use Rattle.m2m_names.proofs.StampTextLemmas.{each_of_timestamp}
use Rattle.binding_laws.specs.ReadBack.{IsOneWord, IsTellable}
use Rattle.binding_laws.proofs.EachLemmas.{each_parts}
use Rattle.binding_laws.proofs.TextLemmas.{IsShort, decimal_bytes, decimal_utf8, short_by, type_small}

-- ---- what is decoded

-- bytes that are UTF-8
pub record IsPlain (text : List ℕ) : Type 0 where
  pub bytes : AllByRecursion (λ (b : ℕ). b < 256) text
  pub utf8 : IsUtf8 text

abbrev pub IsPlainPair : Pair → Type 0
IsPlainPair pair = IsPlain pair.0 × IsPlain pair.1

abbrev lossy_pair : Pair → Pair
lossy_pair pair = (utf8_lossy pair.0, utf8_lossy pair.1)

decoded_parse : (raw : List Pair) → map decoded_pair raw ≡ map lossy_pair (map (λ (name, value). (decode name, decode value)) raw)
decoded_parse [] = refl
decoded_parse (pair ∷ raw) = ap (λ ps. decoded_pair pair ∷ ps) (decoded_parse raw)

lossy_same : (pairs : List Pair) → AllByRecursion IsPlainPair pairs → map lossy_pair pairs ≡ pairs
lossy_same [] plain = refl
lossy_same (pair ∷ pairs) plain =
    λ i. (utf8_lossy-IsUtf8 pair.0 plain.0.0.utf8 i, utf8_lossy-IsUtf8 pair.1 plain.0.1.utf8 i) ∷ lossy_same pairs plain.1 i

all_bytes : (text : List ℕ) → AllByRecursion (λ (b : ℕ). b < 256) text → All IsByte text
all_bytes [] h = All-nil IsByte
all_bytes (b ∷ text) h = All-cons IsByte b text h.0 (all_bytes text h.1)

all_pairs : (pairs : List Pair) → AllByRecursion IsPlainPair pairs → All IsBytePair pairs
all_pairs [] plain = All-nil IsBytePair
all_pairs (pair ∷ pairs) plain =
    All-cons IsBytePair pair pairs (all_bytes pair.0 plain.0.0.bytes, all_bytes pair.1 plain.0.1.bytes) (all_pairs pairs plain.1)

pub pairs_back : (pairs : List Pair) → AllByRecursion IsPlainPair pairs → decoded_pairs (extend_pairs [] pairs) ≡ pairs
pairs_back pairs plain =
    decoded_parse (raw_pairs (extend_pairs [] pairs)) ∙ ap (map lossy_pair) (round_trip pairs (all_pairs pairs plain)) ∙ lossy_same pairs plain

-- ---- plain texts

below : (n : ℕ) (text : List ℕ) → list_all (λ b. nat_lt b n) text ≡ true → AllByRecursion (λ (b : ℕ). b < n) text
below n [] h = tt
below n (b ∷ text) h =
    let parts = each_parts (λ c. nat_lt c n) b text h in
    (ltb-true b n parts.first, below n text parts.rest)

ascii_all : (text : List ℕ) → AllByRecursion (λ (b : ℕ). b < 128) text → All (λ (b : ℕ). b < 128) text
ascii_all [] h = All-nil (λ (b : ℕ). b < 128)
ascii_all (b ∷ text) h = All-cons (λ (b : ℕ). b < 128) b text h.0 (ascii_all text h.1)

ascii_bytes : (text : List ℕ) → AllByRecursion (λ (b : ℕ). b < 128) text → AllByRecursion (λ (b : ℕ). b < 256) text
ascii_bytes [] h = tt
ascii_bytes (b ∷ text) h = let small = h.0 in (omega (arith, small), ascii_bytes text h.1)

ascii_plain : (text : List ℕ) → AllByRecursion (λ (b : ℕ). b < 128) text → IsPlain text
ascii_plain text h = record { bytes = ascii_bytes text h; utf8 = IsUtf8-from_ascii text (IsAscii-from_all text (ascii_all text h)) }

-- a text that is written out
pub known_plain : (text : List ℕ) → list_all (λ b. nat_lt b 128) text ≡ true → IsPlain text
known_plain text h = ascii_plain text (below 128 text h)

pub decimal_plain : (n : ℕ) → n < 10 ^ 18 → IsPlain (decimal n)
decimal_plain n small = record { bytes = below 256 (decimal n) (decimal_bytes n small); utf8 = decimal_utf8 n small }

pub short_plain : (z : ℤ) → IsShort z → IsPlain (signed_decimal z)
short_plain z h = subst (λ (y : ℤ). IsPlain (signed_decimal y)) (sym h.1) (decimal_plain h.0 h.2)

stamp_plain : (at : ℕ) → IsMoment at → IsPlain (timestamp at)
stamp_plain at h =
    ascii_plain (timestamp at) (each_of_timestamp (λ (b : ℕ). b < 128) (λ b low high. omega (arith, high)) (omega arith) (omega arith) (timestamp at) at (timestamp_is at h))

-- ---- the pairs of a filter

texts_plain : (sort : Sort) (value : ValueOf sort) → IsValueOfKind sort value → IsTellable sort value → AllByRecursion IsPlain (texts_of_sort sort value)
texts_plain Moment None kind told = tt
texts_plain Moment (Some at) kind told = (stamp_plain at kind, tt)
texts_plain Count None kind told = tt
texts_plain Count (Some n) kind told = (decimal_plain n told, tt)
texts_plain Labels labels kind told = labels_plain labels told
  where
    labels_plain : (labels : List (List ℕ)) → AllByRecursion IsOneWord labels → AllByRecursion IsPlain labels
    labels_plain [] told = tt
    labels_plain (label ∷ labels) told = (record { bytes = told.0.bytes; utf8 = told.0.utf8 }, labels_plain labels told.1)
texts_plain Types types kind told = types_plain types kind
  where
    types_plain : (types : List ℕ) → are_type_numbers types ≡ true → AllByRecursion IsPlain (map decimal types)
    types_plain [] kind = tt
    types_plain (n ∷ types) kind =
        let parts = each_parts is_type_number n types kind in
        (decimal_plain n (type_small n parts.first), types_plain types parts.rest)
texts_plain Use None kind told = tt
texts_plain Use (Some Discovery) kind told = (short_plain (usage_number Discovery) (short_by 1 (omega arith)), tt)
texts_plain Use (Some Conditional) kind told = (short_plain (usage_number Conditional) (short_by 2 (omega arith)), tt)

pub pairs_plain : (key : List ℕ) (texts : List (List ℕ)) → IsPlain key → AllByRecursion IsPlain texts → AllByRecursion IsPlainPair (pairs_at key texts)
pairs_plain key [] plain each = tt
pairs_plain key (text ∷ texts) plain each = ((plain, each.0), pairs_plain key texts plain each.1)

name_plain : (c : Condition) → IsPlain (name_of_condition c)
name_plain CreatedAfter = known_plain (name_of_condition CreatedAfter) refl
name_plain CreatedBefore = known_plain (name_of_condition CreatedBefore) refl
name_plain ExpireAfter = known_plain (name_of_condition ExpireAfter) refl
name_plain ExpireBefore = known_plain (name_of_condition ExpireBefore) refl
name_plain Usage = known_plain (name_of_condition Usage) refl
name_plain OneLabel = known_plain (name_of_condition OneLabel) refl
name_plain Limit = known_plain (name_of_condition Limit) refl
name_plain ModifiedSince = known_plain (name_of_condition ModifiedSince) refl
name_plain StateTagBigger = known_plain (name_of_condition StateTagBigger) refl
name_plain StateTagSmaller = known_plain (name_of_condition StateTagSmaller) refl
name_plain SizeAbove = known_plain (name_of_condition SizeAbove) refl
name_plain SizeBelow = known_plain (name_of_condition SizeBelow) refl
name_plain OneType = known_plain (name_of_condition OneType) refl
name_plain UnmodifiedSince = known_plain (name_of_condition UnmodifiedSince) refl

pub plain_append : (xs ys : List Pair) → AllByRecursion IsPlainPair xs → AllByRecursion IsPlainPair ys → AllByRecursion IsPlainPair (xs ++ ys)
plain_append [] ys a b = b
plain_append (x ∷ xs) ys a b = (a.0, plain_append xs ys a.1 b)

pub filter_plain : (cs : List Condition) (f : FilterParts)
    → ((c : Condition) → IsValueOfKind (sort_of_condition c) (asked_of c f)) → ((c : Condition) → IsTellable (sort_of_condition c) (asked_of c f))
    → AllByRecursion IsPlainPair (flat_map (condition_pairs f) cs)
filter_plain [] f kinds told = tt
filter_plain (c ∷ cs) f kinds told =
    plain_append (condition_pairs f c) (flat_map (condition_pairs f) cs)
    (pairs_plain (name_of_condition c) (condition_texts f c) (name_plain c) (texts_plain (sort_of_condition c) (asked_of c f) (kinds c) (told c)))
    (filter_plain cs f kinds told)
