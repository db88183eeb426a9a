-- The words of a text, one after another.
use Rattle.std.proofs.Common.{◌≡◌, ℕ, ◌+◌, ◌==◌, suc, Bool, true, false, not, nat_lt, List, [], ◌∷◌, ◌++◌, length, drop, Some, None, is_some, unwrap_or, refl, sym, ap, ◌∙◌, arith, append_assoc}
use Rattle.std.specs.Bool.{if◌then◌else◌}
use Rattle.std.specs.List.{onto_first}
use Rattle.std.proofs.lemmas.Bool.{false≢true, ltb-true, lt-ltb, not-true}
use Rattle.std.proofs.lemmas.Bool.Decides.{nat_tests}
use Rattle.std.proofs.lemmas.List.Splits.{slice_split_first, slice_split-cons_no}
use Rattle.http_uri.specs.ByteClasses.{index_of, split_once_front, split_once_back}
use Rattle.http_target.specs.Queries.{words_of}

-- a space
abbrev is_blank : ℕ → Bool
is_blank b = b == 32

some_by : (b : Bool) (x next : List ℕ) → Some next ≡ (if b then Some x else None) → (b ≡ true) × (next ≡ x)
some_by true x next h = (refl, ap (λ o. unwrap_or o next) h)
some_by false x next h = absurd (false≢true (sym (ap is_some h)))

none_by : (b : Bool) (x : List ℕ) → None ≡ (if b then Some x else None) → b ≡ false
none_by true x h = absurd (false≢true (ap is_some h))
none_by false x h = refl

-- behind a space
pub word_first : (rest next : List ℕ) → Some next ≡ split_once_back 32 rest → words_of rest ≡ split_once_front 32 rest ∷ words_of next
word_first rest next h =
    let p = some_by (nat_lt (index_of 32 rest) (length rest)) (drop (index_of 32 rest + 1) rest) next h in
    slice_split_first is_blank rest 0 (ltb-true (index_of 32 rest) (length rest) p.0) ∙ ap (λ t. split_once_front 32 rest ∷ words_of t) (sym p.1)

pub word_on : (rest next : List ℕ) (words more : List (List ℕ)) (text : List ℕ) → words ++ words_of rest ≡ words_of text
    → Some next ≡ split_once_back 32 rest → more ≡ words ++ split_once_front 32 rest ∷ [] → more ++ words_of next ≡ words_of text
word_on rest next words more text whole h pushed =
    ap (λ w. w ++ words_of next) pushed ∙ append_assoc words (split_once_front 32 rest ∷ []) (words_of next)
    ∙ ap (λ w. words ++ w) (sym (word_first rest next h)) ∙ whole

-- where there is no space
no_less : (n len : ℕ) → nat_lt (1 + n) (suc len) ≡ false → nat_lt n len ≡ false
no_less n len h = grind (arith, nat_tests)

not_first : (b : Bool) (n len : ℕ) → nat_lt (if b then 1 + n else 0) (suc len) ≡ false → (b ≡ true) × (nat_lt n len ≡ false)
not_first true n len h = (refl, no_less n len h)
not_first false n len h = absurd (false≢true (sym h ∙ lt-ltb 0 (suc len) (omega arith)))

one_word : (rest : List ℕ) → nat_lt (index_of 32 rest) (length rest) ≡ false → words_of rest ≡ rest ∷ []
one_word [] h = refl
one_word (b ∷ rest) h =
    let p = not_first (not (is_blank b)) (index_of 32 rest) (length rest) h in
    slice_split-cons_no is_blank b rest (not-true (is_blank b) p.0) ∙ ap (onto_first b) (one_word rest p.1)

pub word_last : (rest : List ℕ) (words all : List (List ℕ)) (text : List ℕ) → words ++ words_of rest ≡ words_of text
    → None ≡ split_once_back 32 rest → all ≡ words ++ rest ∷ [] → all ≡ words_of text
word_last rest words all text whole h pushed =
    let none = none_by (nat_lt (index_of 32 rest) (length rest)) (drop (index_of 32 rest + 1) rest) h in
    pushed ∙ ap (λ w. words ++ w) (sym (one_word rest none)) ∙ whole

-- ---- the pairs of a query, one after another
