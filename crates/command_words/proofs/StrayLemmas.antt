-- Words that are no option and no value.
use Rattle.std.proofs.Common.{◌≡◌, ◌+◌, ◌==◌, ℕ, suc, Bool, true, false, true≢false, cond, not, ◌&&◌, ◌||◌, List, [], ◌∷◌, ◌++◌, take, drop, Option, Some, None, if◌then◌else◌, map, Bor, refl, sym, ap, ap₂, subst, ◌∙◌, eqb-true, arith}
use Rattle.std.specs.Str.{bytes_eq}
use Rattle.std.specs.List.{before_first, after_first, list_any, position_or_len}
use Rattle.std.proofs.lemmas.Slice.Eq.{bytes_eq-Decides}
use Rattle.m2m_names.specs.Name.{is_one_of}
use Rattle.command_words.specs.Options.{Choice, choice, is_equals, has_dash, in_front, in_two_words, choices, options_in}
use Rattle.command_words.specs.Program.{AreOptionNames, has_stray, is_stray}
use Rattle.command_words.proofs.OptionLemmas.{first_unknown, has_equals, has_name, in_one, more, more_front, not_in_one, one_word, two_words}
use Rattle.command_words.proofs.ProgramLemmas.{options_more}

-- a stray word is none of these texts
stray_differs : (word text : List ℕ) → is_stray word ≡ true → is_stray text ≡ false → bytes_eq word text ≡ false
stray_differs word text e f = go (bytes_eq word text) refl
  where
    go : (b : Bool) → bytes_eq word text ≡ b → b ≡ false
    go true h = absurd (true≢false (sym e ∙ ap is_stray ((bytes_eq-Decides word text).0 h) ∙ f))
    go false h = refl

stray_none : (names : List (List ℕ)) (word : List ℕ) → is_stray word ≡ true → AreOptionNames names → is_one_of names word ≡ false
stray_none [] word e all = refl
stray_none (name ∷ names) word e all = ap₂ (λ a b. a || b) (stray_differs word name e all.1) (stray_none names word e all.2)

-- nor what stands before its equals sign
stray_before : (word : List ℕ) → is_stray word ≡ true → is_stray (before_first is_equals word) ≡ true
stray_before [] e = absurd (true≢false (sym e))
stray_before (a ∷ []) e = subst (λ a. is_stray (before_first is_equals (a ∷ [])) ≡ true) (sym (eqb-true a 45 e)) refl
stray_before (a ∷ b ∷ []) e = subst (λ a. is_stray (before_first is_equals (a ∷ b ∷ [])) ≡ true) (sym (eqb-true a 45 e)) (go (b == 61))
  where
    go : (t : Bool) → is_stray (take (1 + cond (not t) (1 + 0) 0) (45 ∷ b ∷ [])) ≡ true
    go true = refl
    go false = refl
stray_before (a ∷ b ∷ c ∷ word) e = first (a == 45) (b == 45) refl refl e
  where
    n : ℕ
    n = position_or_len is_equals word

    third : (t u : Bool) → (b == 45) ≡ false → is_stray (take (1 + cond (not t) (1 + cond (not u) (1 + n) 0) 0) (45 ∷ b ∷ c ∷ word)) ≡ true
    third true u f = refl
    third false true f = refl
    third false false f =
        let k : 1 + (1 + (1 + n)) ≡ suc (suc (suc n)) = omega arith in
        ap (λ m. is_stray (take m (45 ∷ b ∷ c ∷ word))) k ∙ ap not f

    first : (s t : Bool) → (a == 45) ≡ s → (b == 45) ≡ t → (s && not t) ≡ true → is_stray (before_first is_equals (a ∷ b ∷ c ∷ word)) ≡ true
    first false t p q f = absurd (true≢false (sym f))
    first true true p q f = absurd (true≢false (sym f))
    first true false p q f =
        subst (λ a. is_stray (before_first is_equals (a ∷ b ∷ c ∷ word)) ≡ true) (sym (eqb-true a 45 p)) (third (b == 61) (c == 61) q)

stray_dash : (word : List ℕ) → is_stray word ≡ true → has_dash word ≡ true
stray_dash [] e = e
stray_dash (a ∷ []) e = e
stray_dash (a ∷ b ∷ []) e = e
stray_dash (a ∷ b ∷ c ∷ word) e = go (a == 45) e
  where
    go : (s : Bool) → (s && not (b == 45)) ≡ true → s ≡ true
    go true f = refl
    go false f = f

module _ (names : List (List ℕ)) (are : AreOptionNames names) where
  abbrev takes : List ℕ → Bool
  takes = is_one_of names

  abbrev SaysNone : List (List ℕ) → Type 0
  SaysNone words = has_stray words ≡ true → (seen : List Choice) → more takes seen (choices words) ≡ None

  -- a stray word behind an option
  stray_behind : (o : Choice) (rest : Option (List Choice)) → ((seen : List Choice) → more takes seen rest ≡ None) → (seen : List Choice)
      → more takes seen (in_front (Some o) rest) ≡ None
  stray_behind o rest none seen = more_front takes seen o rest ∙ go (takes o.name && not (has_name o.name seen))
    where
      go : (b : Bool) → (if b then more takes (seen ++ o ∷ []) rest else None) ≡ None
      go true = none (seen ++ o ∷ [])
      go false = refl

  stray_two : (word : List ℕ) (rest : List (List ℕ)) → has_equals word ≡ false → has_stray rest ≡ true → SaysNone (drop 1 rest) → (seen : List Choice)
      → more takes seen (choices (word ∷ rest)) ≡ None
  stray_two word [] plain e ih seen = absurd (true≢false (sym e))
  stray_two word (word2 ∷ words) plain e ih seen =
      ap (more takes seen) (two_words word word2 words (in_two_words word word2) (not_in_one word plain) refl)
      ∙ go (is_stray word2) (has_dash word2) refl refl e
    where
      go : (s d : Bool) → is_stray word2 ≡ s → has_dash word2 ≡ d → (s || has_stray words) ≡ true
          → more takes seen (in_front (if d then None else Some (choice word word2)) (choices words)) ≡ None
      go s true p q f = refl
      go true false p q f = absurd (true≢false (sym (stray_dash word2 p) ∙ q))
      go false false p q f = stray_behind (choice word word2) (choices words) (ih f) seen

  stray_step : (word : List ℕ) (rest : List (List ℕ)) → SaysNone rest → SaysNone (drop 1 rest) → SaysNone (word ∷ rest)
  stray_step word rest ih1 ih2 e seen = go (is_stray word) (has_equals word) refl refl e
    where
      go : (s b : Bool) → is_stray word ≡ s → has_equals word ≡ b → (s || has_stray rest) ≡ true → more takes seen (choices (word ∷ rest)) ≡ None
      go true b p q f = first_unknown takes seen word rest (stray_none names (before_first is_equals word) (stray_before word p) are)
      go false true p q f =
          let o = choice (before_first is_equals word) (after_first is_equals word) in
          ap (more takes seen) (one_word word rest o (in_one word q)) ∙ stray_behind o (choices rest) (ih1 f) seen
      go false false p q f = stray_two word rest q f ih2 seen

  stray_options : (words : List (List ℕ)) → SaysNone words
  stray_options [] = λ e seen. absurd (true≢false (sym e))
  stray_options (word ∷ []) = stray_step word [] (stray_options []) (stray_options [])
  stray_options (word ∷ word2 ∷ words) = stray_step word (word2 ∷ words) (stray_options (word2 ∷ words)) (stray_options words)

-- a stray text among words is one among their texts
pub stray_texts : (words : List (Bor (List ℕ))) → list_any (λ word. is_stray word.now) words ≡ has_stray (map (λ word. word.now) words)
stray_texts [] = refl
stray_texts (word ∷ words) = ap (λ b. is_stray word.now || b) (stray_texts words)

-- words with a stray one are no options
pub stray_says : (names words : List (List ℕ)) → AreOptionNames names → has_stray words ≡ true → options_in names words ≡ None
stray_says names words are e = options_more names words ∙ stray_options names are words e []
