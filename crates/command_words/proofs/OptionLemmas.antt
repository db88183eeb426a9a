-- Options that are read one after another.
use Rattle.std.proofs.Common.{◌≡◌, ◌+◌, ◌==◌, ℕ, suc, Bool, true, false, true≢false, cond, not, ◌&&◌, ◌||◌, List, [], ◌∷◌, ◌++◌, append_assoc, length, take, drop, Option, Some, None, find, is_some, option_map, option_and_then, if◌then◌else◌, refl, sym, ap, ◌∙◌, arith, nat_lt, lt-ltb}
use Rattle.std.specs.Str.{bytes_eq}
use Rattle.std.specs.List.{list_all, list_any, before_first, after_first, position_or_len}
use Rattle.std.proofs.lemmas.Slice.Eq.{bytes_eq-Decides}
use Rattle.command_words.specs.Options.{Choice, choice, is_equals, has_dash, in_front, in_one_word, in_two_words, choices_by, choices, option_value, are_options}
use Rattle.std.proofs.lemmas.Bool.{and_right}
use Rattle.std.proofs.Math.Bool.{and-true}

-- ---- tests

pub or_false : (b : Bool) → (b || false) ≡ b
or_false true = refl
or_false false = refl

pub or_assoc : (a b c : Bool) → (a || (b || c)) ≡ ((a || b) || c)
or_assoc true b c = refl
or_assoc false b c = refl

-- texts are the same in either order
pub same_sym : (a b : List ℕ) → bytes_eq a b ≡ bytes_eq b a
same_sym a b = go (bytes_eq a b) (bytes_eq b a) refl refl
  where
    go : (s t : Bool) → bytes_eq a b ≡ s → bytes_eq b a ≡ t → s ≡ t
    go true true e f = refl
    go false false e f = refl
    go true false e f = sym ((bytes_eq-Decides b a).1 (sym ((bytes_eq-Decides a b).0 e))) ∙ f
    go false true e f = sym e ∙ (bytes_eq-Decides a b).1 (sym ((bytes_eq-Decides b a).0 f))

pub same_self : (a : List ℕ) → bytes_eq a a ≡ true
same_self a = (bytes_eq-Decides a a).1 refl

-- ---- one word

-- an equals sign stands in the text
abbrev pub has_equals : List ℕ → Bool
has_equals text = list_any is_equals text

lt_suc : (a b : ℕ) → nat_lt (1 + a) (suc b) ≡ nat_lt a b
lt_suc a b = grind arith

pub equals_inside : (text : List ℕ) → nat_lt (position_or_len is_equals text) (length text) ≡ has_equals text
equals_inside [] = refl
equals_inside (c ∷ text) = go (c == 61) (equals_inside text)
  where
    go : (b : Bool) → nat_lt (position_or_len is_equals text) (length text) ≡ has_equals text
        → nat_lt (cond (not b) (1 + position_or_len is_equals text) 0) (suc (length text)) ≡ (b || has_equals text)
    go true e = lt-ltb 0 (suc (length text)) (omega arith)
    go false e = lt_suc (position_or_len is_equals text) (length text) ∙ e

pub in_one : (word : List ℕ) → has_equals word ≡ true → in_one_word word ≡ Some (choice (before_first is_equals word) (after_first is_equals word))
in_one word e = ap (λ (b : Bool). if b then Some (choice (before_first is_equals word) (after_first is_equals word)) else None) (equals_inside word ∙ e)

pub not_in_one : (word : List ℕ) → has_equals word ≡ false → in_one_word word ≡ None
not_in_one word e = ap (λ (b : Bool). if b then Some (choice (before_first is_equals word) (after_first is_equals word)) else None) (equals_inside word ∙ e)

-- a word with no equals sign is its name
pub all_before : (word : List ℕ) → has_equals word ≡ false → before_first is_equals word ≡ word
all_before [] e = refl
all_before (c ∷ word) e = go (c == 61) e (all_before word)
  where
    go : (b : Bool) → (b || has_equals word) ≡ false → (has_equals word ≡ false → before_first is_equals word ≡ word)
        → take (cond (not b) (1 + position_or_len is_equals word) 0) (c ∷ word) ≡ c ∷ word
    go true e rest = absurd (true≢false e)
    go false e rest =
        let n : 1 + position_or_len is_equals word ≡ suc (position_or_len is_equals word) = omega arith in
        ap (λ k. take k (c ∷ word)) n ∙ ap (λ t. c ∷ t) (rest e)

-- the parts of a word with two dashes in front
pub before_dashes : (text : List ℕ) → before_first is_equals (45 ∷ 45 ∷ text) ≡ 45 ∷ 45 ∷ before_first is_equals text
before_dashes text =
    let n : 1 + (1 + position_or_len is_equals text) ≡ suc (suc (position_or_len is_equals text)) = omega arith in
    ap (λ k. take k (45 ∷ 45 ∷ text)) n

pub after_dashes : (text : List ℕ) → after_first is_equals (45 ∷ 45 ∷ text) ≡ after_first is_equals text
after_dashes text =
    let n : (1 + (1 + position_or_len is_equals text)) + 1 ≡ suc (suc (position_or_len is_equals text + 1)) = omega arith in
    ap (λ k. drop k (45 ∷ 45 ∷ text)) n

-- the name of a word with no dash in front has none
pub no_dash_before : (word : List ℕ) → has_dash word ≡ false → has_dash (before_first is_equals word) ≡ false
no_dash_before [] e = refl
no_dash_before (c ∷ word) e = go (c == 61)
  where
    go : (b : Bool) → has_dash (take (cond (not b) (1 + position_or_len is_equals word) 0) (c ∷ word)) ≡ false
    go true = refl
    go false =
        let n : 1 + position_or_len is_equals word ≡ suc (position_or_len is_equals word) = omega arith in
        ap (λ k. has_dash (take k (c ∷ word))) n ∙ e

-- ---- the option that stands first

-- an option in one word stands first
pub one_word : (word : List ℕ) (behind : List (List ℕ)) (o : Choice) → in_one_word word ≡ Some o
    → choices (word ∷ behind) ≡ in_front (Some o) (choices behind)
one_word word [] o e = ap (λ (w : Option Choice). in_front w (Some [])) e
one_word word (next ∷ words) o e = ap (λ (w : Option Choice). choices_by w (in_two_words word next) (choices (next ∷ words)) (choices words)) e

-- an option in two words stands first
pub two_words : (word next : List ℕ) (words : List (List ℕ)) (two : Option Choice) → in_one_word word ≡ None
    → in_two_words word next ≡ two → choices (word ∷ next ∷ words) ≡ in_front two (choices words)
two_words word next words two e t =
    ap (λ (w : Option Choice). choices_by w (in_two_words word next) (choices (next ∷ words)) (choices words)) e
    ∙ ap (λ (w : Option Choice). in_front w (choices words)) t

-- a word alone is none
pub no_words : (word : List ℕ) → in_one_word word ≡ None → choices (word ∷ []) ≡ None
no_words word e = ap (λ (w : Option Choice). in_front w (Some [])) e

-- ---- options behind others

-- an option of this name is among these
abbrev pub has_name : List ℕ → List Choice → Bool
has_name name os = is_some (option_value name os)

pub has_cons : (name : List ℕ) (o : Choice) (os : List Choice) → has_name name (o ∷ os) ≡ (bytes_eq o.name name || has_name name os)
has_cons name o os = go (bytes_eq o.name name)
  where
    go : (b : Bool) → is_some (option_map (λ (x : Choice). x.value) (cond b (Some o) (find (λ (x : Choice). bytes_eq x.name name) os))) ≡ (b || has_name name os)
    go true = refl
    go false = refl

pub has_push : (name : List ℕ) (seen : List Choice) (o : Choice) → has_name name (seen ++ o ∷ []) ≡ (has_name name seen || bytes_eq o.name name)
has_push name [] o = has_cons name o [] ∙ or_false (bytes_eq o.name name)
has_push name (p ∷ seen) o =
    has_cons name p (seen ++ o ∷ []) ∙ ap (λ b. bytes_eq p.name name || b) (has_push name seen o)
    ∙ or_assoc (bytes_eq p.name name) (has_name name seen) (bytes_eq o.name name)
    ∙ ap (λ b. b || bytes_eq o.name name) (sym (has_cons name p seen))

-- a command takes these options behind those that were seen, and none of them stands twice
abbrev pub fits : (List ℕ → Bool) → List Choice → List Choice → Bool
fits takes seen [] = true
fits takes seen (o ∷ os) = (takes o.name && not (has_name o.name seen)) && fits takes (seen ++ o ∷ []) os

-- none of these was seen
abbrev clear : List Choice → List Choice → Bool
clear seen os = list_all (λ o. not (has_name o.name seen)) os

push_test : (a e c d : Bool) → (not (a || e) && (c && not d)) ≡ ((not a && c) && not (e || d))
push_test true e c d = refl
push_test false true true d = refl
push_test false true false d = refl
push_test false false true d = refl
push_test false false false d = refl

clear_push : (seen : List Choice) (o : Choice) (os : List Choice) → clear (seen ++ o ∷ []) os ≡ (clear seen os && not (has_name o.name os))
clear_push seen o [] = refl
clear_push seen o (p ∷ os) =
    ap (λ b. not b && clear (seen ++ o ∷ []) os) (has_push p.name seen o)
    ∙ ap (λ b. not (has_name p.name seen || bytes_eq o.name p.name) && b) (clear_push seen o os)
    ∙ push_test (has_name p.name seen) (bytes_eq o.name p.name) (clear seen os) (has_name o.name os)
    ∙ ap (λ b. (not (has_name p.name seen) && clear seen os) && not (b || has_name o.name os)) (same_sym o.name p.name)
    ∙ ap (λ b. (not (has_name p.name seen) && clear seen os) && not b) (sym (has_cons o.name p os))

fits_test : (t n a c h : Bool) → ((t && n) && (a && (c && h))) ≡ ((t && (h && a)) && (n && c))
fits_test false n a c h = refl
fits_test true false a c true = sym (and_right a false refl)
fits_test true false a c false = refl
fits_test true true true c true = and-true c
fits_test true true true true false = refl
fits_test true true true false false = refl
fits_test true true false c true = refl
fits_test true true false c false = refl

fits_is : (takes : List ℕ → Bool) (seen os : List Choice) → fits takes seen os ≡ (are_options takes os && clear seen os)
fits_is takes seen [] = refl
fits_is takes seen (o ∷ os) =
    ap (λ b. (takes o.name && not (has_name o.name seen)) && b) (fits_is takes (seen ++ o ∷ []) os ∙ ap (λ b. are_options takes os && b) (clear_push seen o os))
    ∙ fits_test (takes o.name) (not (has_name o.name seen)) (are_options takes os) (clear seen os) (not (has_name o.name os))

clear_nothing : (os : List Choice) → clear [] os ≡ true
clear_nothing [] = refl
clear_nothing (o ∷ os) = clear_nothing os

pub fits_nothing : (takes : List ℕ → Bool) (os : List Choice) → fits takes [] os ≡ are_options takes os
fits_nothing takes os = fits_is takes [] os ∙ ap (λ b. are_options takes os && b) (clear_nothing os) ∙ and-true (are_options takes os)

-- the options that were seen and those behind them, if the command takes them
abbrev pub more : (List ℕ → Bool) → List Choice → Option (List Choice) → Option (List Choice)
more takes seen = option_and_then (λ os. if fits takes seen os then Some (seen ++ os) else None)

pub more_front : (takes : List ℕ → Bool) (seen : List Choice) (o : Choice) (rest : Option (List Choice))
    → more takes seen (in_front (Some o) rest) ≡ (if takes o.name && not (has_name o.name seen) then more takes (seen ++ o ∷ []) rest else None)
more_front takes seen o rest = all rest (takes o.name && not (has_name o.name seen))
  where
    none : (b : Bool) → None ≡ (if b then more takes (seen ++ o ∷ []) None else None)
    none true = refl
    none false = refl

    some : (os : List Choice) (b : Bool) → (if b && fits takes (seen ++ o ∷ []) os then Some (seen ++ (o ∷ os)) else None)
        ≡ (if b then more takes (seen ++ o ∷ []) (Some os) else None)
    some os true = ap (λ (l : List Choice). if fits takes (seen ++ o ∷ []) os then Some l else None) (sym (append_assoc seen (o ∷ []) os))
    some os false = refl

    all : (rest : Option (List Choice)) (b : Bool) → option_and_then (λ os. if fits takes seen os then Some (seen ++ os) else None) (in_front (Some o) rest)
        ≡ (if takes o.name && not (has_name o.name seen) then more takes (seen ++ o ∷ []) rest else None)
    all None b = none (takes o.name && not (has_name o.name seen))
    all (Some os) b = some os (takes o.name && not (has_name o.name seen))

-- the command takes the option that stands first
pub more_taken : (takes : List ℕ → Bool) (seen : List Choice) (o : Choice) (rest : Option (List Choice)) → takes o.name ≡ true
    → has_name o.name seen ≡ false → more takes seen (in_front (Some o) rest) ≡ more takes (seen ++ o ∷ []) rest
more_taken takes seen o rest t h =
    more_front takes seen o rest
    ∙ ap (λ (b : Bool). if b && not (has_name o.name seen) then more takes (seen ++ o ∷ []) rest else None) t
    ∙ ap (λ (b : Bool). if not b then more takes (seen ++ o ∷ []) rest else None) h

-- it doesn't
pub more_unknown : (takes : List ℕ → Bool) (seen : List Choice) (o : Choice) (rest : Option (List Choice)) → takes o.name ≡ false
    → more takes seen (in_front (Some o) rest) ≡ None
more_unknown takes seen o rest t =
    more_front takes seen o rest
    ∙ ap (λ (b : Bool). if b && not (has_name o.name seen) then more takes (seen ++ o ∷ []) rest else None) t

-- it was seen
pub more_again : (takes : List ℕ → Bool) (seen : List Choice) (o : Choice) (rest : Option (List Choice)) → takes o.name ≡ true
    → has_name o.name seen ≡ true → more takes seen (in_front (Some o) rest) ≡ None
more_again takes seen o rest t h =
    more_front takes seen o rest
    ∙ ap (λ (b : Bool). if b && not (has_name o.name seen) then more takes (seen ++ o ∷ []) rest else None) t
    ∙ ap (λ (b : Bool). if not b then more takes (seen ++ o ∷ []) rest else None) h

-- the command doesn't take what the first word names
pub first_unknown : (takes : List ℕ → Bool) (seen : List Choice) (word : List ℕ) (rest : List (List ℕ)) → takes (before_first is_equals word) ≡ false
    → more takes seen (choices (word ∷ rest)) ≡ None
first_unknown takes seen word rest unknown = go (has_equals word) refl rest
  where
    two : (next : List ℕ) (words : List (List ℕ)) (b : Bool) → has_equals word ≡ false
        → more takes seen (in_front (if b then None else Some (choice word next)) (choices words)) ≡ None
    two next words true e = refl
    two next words false e = more_unknown takes seen (choice word next) (choices words) (ap takes (sym (all_before word e)) ∙ unknown)

    go : (b : Bool) → has_equals word ≡ b → (rest : List (List ℕ)) → more takes seen (choices (word ∷ rest)) ≡ None
    go true e rest =
        ap (more takes seen) (one_word word rest (choice (before_first is_equals word) (after_first is_equals word)) (in_one word e))
        ∙ more_unknown takes seen (choice (before_first is_equals word) (after_first is_equals word)) (choices rest) unknown
    go false e [] = ap (more takes seen) (no_words word (not_in_one word e))
    go false e (next ∷ words) =
        ap (more takes seen) (two_words word next words (in_two_words word next) (not_in_one word e) refl) ∙ two next words (has_dash next) e
