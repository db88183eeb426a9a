-- What `clap` finds in words, by options of these names.
use Rattle.std.proofs.Common.{◌≡◌, ◌≢◌, ℕ, Bool, true, false, ◌&&◌, ◌||◌, List, [], ◌∷◌, ◌++◌, append-nil, append_assoc, map, drop, take, fold, count_by, is_some, Option, Some, None, option_and_then, if◌then◌else◌, refl, sym, ap, ap₂, subst, ◌∙◌, codes}
use Rattle.std.specs.List.{list_all, list_any}
use Rattle.m2m_names.specs.Name.{is_one_of}
use Rattle.clap.specs.Kinds.{IsAmong, Kinds}
use Rattle.clap.specs.Walk.{Row, Rule, is_early_multiple, nothing_held, rows_after, walk}
use Rattle.clap.specs.Simple.{App, built, entered, filled_from, is_simple, matches_of}
use Rattle.clap.specs.Faults.{built_fault, entered_fault, fault_of, is_simple_and_free, level_fault}
use Rattle.clap.specs.declared.error.kind.ErrorKind.{ErrorKind}
use Rattle.command_words.specs.Options.{Choice, are_options, choices, options_in}
use Rattle.command_words.specs.Program.{AreOptionNames, bare_command, has_stray, option_rule, reader, rows_by, with_option}
use Rattle.command_words.proofs.OptionLemmas.{fits, fits_nothing, more}
use Rattle.command_words.proofs.WalkLemmas.{Reads, dashed, leaf, leaf_reads, names_by, option_of}

-- ---- the command that `clap` is told

abbrev plain : List ℕ → Rule
plain long = option_rule (dashed long)

abbrev app_with : List Rule → App
app_with rules = record { top = record bare_command.top { rules = rules }; subs = [] }

grown : (rules : List Rule) (longs : List (List ℕ)) → fold with_option (app_with rules) (names_by longs) ≡ app_with (rules ++ map plain longs)
grown rules [] = ap app_with (sym (append-nil rules))
grown rules (long ∷ longs) = grown (rules ++ plain long ∷ []) longs ∙ ap app_with (append_assoc rules (plain long ∷ []) (map plain longs))

reader_is : (longs : List (List ℕ)) → reader (names_by longs) ≡ app_with (map plain longs)
reader_is longs = grown [] longs

-- each option is filled in
filled_in : (i : ℕ) (longs : List (List ℕ)) → filled_from i (map plain longs) ≡ map option_of longs
filled_in i [] = refl
filled_in i (long ∷ longs) = ap (λ rules. option_of long ∷ rules) (filled_in i longs)

abbrev ready : List Rule → App
ready rules = record { top = record (leaf (codes "cse") []) { rules = rules }; subs = [] }

built_is : (longs : List (List ℕ)) → built (app_with (map plain longs)) ≡ ready (map option_of longs)
built_is longs = ap ready (filled_in 1 longs)

-- ---- it is simple

simple_rules : (longs : List (List ℕ)) → list_all (λ (a : Rule). a.is_simple) (map plain longs) ≡ true
simple_rules [] = refl
simple_rules (long ∷ longs) = simple_rules longs

simple_filled : (longs : List (List ℕ)) → list_all (λ (a : Rule). a.is_simple) (map option_of longs) ≡ true
simple_filled [] = refl
simple_filled (long ∷ longs) = simple_filled longs

free_filled : (longs : List (List ℕ)) → list_all (λ (a : Rule). a.is_free) (map option_of longs) ≡ true
free_filled [] = refl
free_filled (long ∷ longs) = free_filled longs

none_early : (n : ℕ) (longs : List (List ℕ)) → list_any (is_early_multiple n) (map option_of longs) ≡ false
none_early n [] = refl
none_early n (long ∷ longs) = none_early n longs

simple_with : (longs : List (List ℕ)) → is_simple (app_with (map plain longs)) ≡ true
simple_with longs =
    rw (filled_in 1 longs, simple_rules longs, simple_filled longs, none_early (count_by (λ (a : Rule). is_some a.index) (map option_of longs)) longs) refl

free_with : (longs : List (List ℕ)) → is_simple_and_free (app_with (map plain longs)) ≡ true
free_with longs =
    ap₂ (λ a b. a && b) (simple_with longs) (rw (filled_in 1 longs, free_filled longs) refl)

-- ---- what it finds

abbrev words_fault : List (List ℕ) → List (List ℕ) → Kinds
words_fault longs words = level_fault (leaf (codes "cse") longs) [] nothing_held words false []

-- no command is entered
not_entered : (longs : List (List ℕ)) (stop : Option (List ℕ × List (List ℕ))) → is_some (entered (ready (map option_of longs)) stop) ≡ false
not_entered longs None = refl
not_entered longs (Some p) = refl

no_fault_below : (longs : List (List ℕ)) (stop : Option (List ℕ × List (List ℕ))) → entered_fault (ready (map option_of longs)) stop ≡ []
no_fault_below longs None = refl
no_fault_below longs (Some p) = refl

fault_with : (longs words : List (List ℕ)) → fault_of (app_with (map plain longs)) words ≡ words_fault longs words
fault_with longs words =
    let stop = (walk (map option_of longs) [] nothing_held words).stopped in
    ap (λ (a : App). built_fault a nothing_held words) (built_is longs)
    ∙ ap₂ (λ b k. level_fault (leaf (codes "cse") longs) [] nothing_held words b k) (not_entered longs stop) (no_fault_below longs stop)

rows_with : (longs words : List (List ℕ)) → matches_of (app_with (map plain longs)) words ≡ rows_after (map option_of longs) [] words
rows_with longs words = ap (λ rules. rows_after rules [] words) (filled_in 1 longs)

-- ---- names with their dashes

dashed_again : (name : List ℕ) → take 2 name ≡ codes "--" → dashed (drop 2 name) ≡ name
dashed_again [] e = absurd cc
dashed_again (a ∷ []) e = absurd cc
dashed_again (a ∷ b ∷ name) e = ap (λ l. l ++ name) (sym e)

names_again : (names : List (List ℕ)) → AreOptionNames names → names_by (map (λ name. drop 2 name) names) ≡ names
names_again [] are = refl
names_again (name ∷ names) are = ap₂ (λ n ns. n ∷ ns) (dashed_again name are.0) (names_again names are.2)

-- ---- the options that words are

pub options_more : (names words : List (List ℕ)) → options_in names words ≡ more (is_one_of names) [] (choices words)
options_more names words = all (choices words)
  where
    all : (c : Option (List Choice)) → option_and_then (λ os. if are_options (is_one_of names) os then Some os else None) c ≡ more (is_one_of names) [] c
    all None = refl
    all (Some os) = ap (λ (b : Bool). if b then Some os else None) (sym (fits_nothing (is_one_of names) os))

-- What `clap` finds in words with no stray dash is what they are.
module _ (app : App) (names : List (List ℕ)) (is : app ≡ reader names) (are : AreOptionNames names) where
  abbrev longs : List (List ℕ)
  longs = map (λ name. drop 2 name) names

  app_is : app ≡ app_with (map plain longs)
  app_is = is ∙ ap reader (sym (names_again names are)) ∙ reader_is longs

  pub program_simple : is_simple app ≡ true
  program_simple = ap is_simple app_is ∙ simple_with longs

  pub program_free : is_simple_and_free app ≡ true
  program_free = ap is_simple_and_free app_is ∙ free_with longs

  read : (words : List (List ℕ)) → has_stray words ≡ false → Reads (fault_of app words) (matches_of app words) (options_in names words)
  read words clean =
      let P : Kinds → List Row → Option (List Choice) → Type 0 = Reads in
      let fault : fault_of app words ≡ words_fault longs words = ap (λ (a : App). fault_of a words) app_is ∙ fault_with longs words in
      let rows : matches_of app words ≡ rows_after (map option_of longs) [] words = ap (λ (a : App). matches_of a words) app_is ∙ rows_with longs words in
      let said : options_in names words ≡ more (is_one_of (names_by longs)) [] (choices words) =
      options_more names words ∙ ap (λ ns. more (is_one_of ns) [] (choices words)) (sym (names_again names are)) in
      subst (λ k. P k (matches_of app words) (options_in names words)) (sym fault)
      (subst (λ r. P (words_fault longs words) r (options_in names words)) (sym rows)
      (subst (λ c. P (words_fault longs words) (rows_after (map option_of longs) [] words) c) (sym said)
      (leaf_reads (codes "cse") longs words clean)))

  pub matches_say : (words : List (List ℕ)) (rows : List Row) → has_stray words ≡ false → rows ≡ matches_of app words → fault_of app words ≡ []
      → (os : List Choice) × ((rows ≡ rows_by os) × (options_in names words ≡ Some os))
  matches_say words rows clean same none = all (options_in names words) refl (read words clean)
    where
      all : (said : Option (List Choice)) → options_in names words ≡ said → Reads (fault_of app words) (matches_of app words) said
          → (os : List Choice) × ((rows ≡ rows_by os) × (options_in names words ≡ Some os))
      all None e bad = absurd (bad none)
      all (Some os) e good = (os, (same ∙ good.1, e))

  pub faults_say : (words : List (List ℕ)) (k : ErrorKind) → has_stray words ≡ false → IsAmong k (fault_of app words) → options_in names words ≡ None
  faults_say words k clean among = all (options_in names words) refl (read words clean)
    where
      all : (said : Option (List Choice)) → options_in names words ≡ said → Reads (fault_of app words) (matches_of app words) said → options_in names words ≡ None
      all None e bad = e
      all (Some os) e good = absurd (subst (IsAmong k) good.0 among)
