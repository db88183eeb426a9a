-- What `clap` makes of the words behind the name of a command.
use Rattle.std.proofs.Common.{◌≡◌, ◌≢◌, ◌⊎◌, ◌==◌, ℕ, Bool, true, false, true≢false, cond, not, ◌&&◌, ◌||◌, List, [], ◌∷◌, ◌++◌, append-nil, map, drop, Option, Some, None, find, option_map, option_and_then, if◌then◌else◌, fold, refl, sym, ap, ap₂, subst, ◌∙◌, inl, inr, eqb-true}
use Rattle.std.specs.Prelude.{slice_get}
use Rattle.std.specs.Str.{bytes_eq}
use Rattle.std.specs.Option.{option_map_or}
use Rattle.std.specs.List.{list_any, before_first, after_first}
use Rattle.std.proofs.lemmas.Slice.Eq.{bytes_eq-Decides}
use Rattle.m2m_names.specs.Name.{is_one_of}
use Rattle.clap.specs.Lexer.{long_of, short_of}
use Rattle.clap.specs.Kinds.{Kinds, check_kinds, or_else}
use Rattle.clap.specs.Walk.{Held, Row, Rule, Step, Waiting, Walk, idle, option, positional, after_flag, after_step, arg_by_id, arg_by_index, arg_by_long, first_of, has_row, long_met, more_values, nothing_held, reacted, settled, used, used_by_id, walked, with_values, without, with_default, finished, rows_after}
use Rattle.clap.specs.Simple.{Shape, filled}
use Rattle.clap.specs.Takes.{is_given}
use Rattle.clap.specs.Faults.{check_fault, given_default_fault, default_fault, defaults_fault, level_fault, long_fault, settle_fault, step_fault, turn_fault, use_fault, walk_fault}
use Rattle.clap.specs.declared.error.kind.ErrorKind.TheVariants as kind
use Rattle.clap.specs.declared.parser.matches.ValueSource.TheVariants.{CommandLine}
use Rattle.clap.specs.declared.builder.value_parser.Reading.TheVariants.{AsWritten}
use Rattle.command_words.specs.Options.{Choice, choice, is_equals, has_dash, in_front, in_two_words, choices, option_value}
use Rattle.command_words.specs.Program.{has_stray, is_stray, option_rule, row_by, rows_by}
use Rattle.command_words.proofs.OptionLemmas.{same_sym, same_self, has_equals, in_one, not_in_one, all_before, before_dashes, after_dashes, no_dash_before, one_word, two_words, no_words, has_name, has_cons, more, more_taken, more_again, first_unknown}

-- ---- faults

pub fault_first : (a b : Kinds) → a ≢ [] → or_else a b ≢ []
fault_first [] b bad e = bad refl
fault_first (k ∷ a) b bad e = bad e

pub fault_alone : (a : Kinds) → or_else a [] ≡ a
fault_alone [] = refl
fault_alone (k ∷ a) = refl

abbrev pub IsFault : Kinds → Type 0
IsFault [] = ⊥
IsFault (k ∷ a) = Unit {0}

pub fault_is : (a : Kinds) → IsFault a → a ≢ []
fault_is a bad e = subst IsFault e bad

-- ---- words

-- a word begins with no dash, or with two and something behind them
abbrev pub View : List ℕ → Type 0
View word = (has_dash word ≡ false) ⊎ ((x : ℕ) × ((text : List ℕ) × (word ≡ 45 ∷ 45 ∷ x ∷ text)))

pub view : (word : List ℕ) → is_stray word ≡ false → View word
view [] e = inl refl
view (a ∷ []) e = inl e
view (a ∷ b ∷ []) e = inl e
view (a ∷ b ∷ x ∷ text) e = go (a == 45) (b == 45) refl refl e
  where
    go : (s t : Bool) → (a == 45) ≡ s → (b == 45) ≡ t → (s && not t) ≡ false → View (a ∷ b ∷ x ∷ text)
    go false t p q f = inl p
    go true false p q f = absurd (true≢false f)
    go true true p q f = inr (x, (text, ap₂ (λ (c d : ℕ). c ∷ d ∷ x ∷ text) (eqb-true a 45 p) (eqb-true b 45 q)))

pub plain_long : (word : List ℕ) → has_dash word ≡ false → long_of word ≡ None
plain_long [] e = refl
plain_long (c ∷ word) e = rw e refl

pub plain_short : (word : List ℕ) → has_dash word ≡ false → short_of word ≡ None
plain_short [] e = refl
plain_short (c ∷ word) e = rw e refl

pub plain_bare : (word : List ℕ) → has_dash word ≡ false → bytes_eq word (45 ∷ 45 ∷ []) ≡ false
plain_bare [] e = refl
plain_bare (c ∷ word) e = rw e refl

-- ---- a command with these options

abbrev pub dashed : List ℕ → List ℕ
dashed long = 45 ∷ 45 ∷ long

-- the option of this long name, as `clap` fills it in
abbrev pub option_of : List ℕ → Rule
option_of long = filled (option_rule (dashed long))

-- the names of options
abbrev pub names_by : List (List ℕ) → List (List ℕ)
names_by longs = map dashed longs

-- as `clap` fills it in
abbrev pub leaf : List ℕ → List (List ℕ) → Shape
leaf name longs = record {
  name = name;
  aliases = [];
  rules = map option_of longs;
  is_plain = true;
  is_leaf = true;
  no_binary_name = true;
  disable_help_flag = true;
  disable_help_subcommand = true;
  disable_version_flag = false;
  propagate_version = false;
  has_version = false;
  has_long_version = false;
  args_override_self = false;
  arg_required_else_help = false;
  subcommand_required = false;
  subcommand_negates_reqs = false;
  is_built = true;
}

found_long : (longs : List (List ℕ)) (long : List ℕ) → arg_by_long (map option_of longs) long ≡ (if is_one_of longs long then Some (option_of long) else None)
found_long [] long = refl
found_long (l ∷ longs) long = go (bytes_eq l long) refl (found_long longs long) ∙ ap (λ (b : Bool). if b || is_one_of longs long then Some (option_of long) else None) (same_sym l long)
  where
    go : (b : Bool) → bytes_eq l long ≡ b → arg_by_long (map option_of longs) long ≡ (if is_one_of longs long then Some (option_of long) else None)
        → cond (b || false) (Some (option_of l)) (arg_by_long (map option_of longs) long) ≡ (if b || is_one_of longs long then Some (option_of long) else None)
    go true e rest = ap (λ t. Some (option_of t)) ((bytes_eq-Decides l long).0 e)
    go false e rest = rest

found_id : (longs : List (List ℕ)) (long : List ℕ) → arg_by_id (map option_of longs) (dashed long) ≡ (if is_one_of longs long then Some (option_of long) else None)
found_id [] long = refl
found_id (l ∷ longs) long = go (bytes_eq l long) refl (found_id longs long) ∙ ap (λ (b : Bool). if b || is_one_of longs long then Some (option_of long) else None) (same_sym l long)
  where
    go : (b : Bool) → bytes_eq l long ≡ b → arg_by_id (map option_of longs) (dashed long) ≡ (if is_one_of longs long then Some (option_of long) else None)
        → cond b (Some (option_of l)) (arg_by_id (map option_of longs) (dashed long)) ≡ (if b || is_one_of longs long then Some (option_of long) else None)
    go true e rest = ap (λ t. Some (option_of t)) ((bytes_eq-Decides l long).0 e)
    go false e rest = rest

no_place : (longs : List (List ℕ)) (i : ℕ) → arg_by_index (map option_of longs) i ≡ None
no_place [] i = refl
no_place (l ∷ longs) i = no_place longs i

-- an option of the command, by the name with its dashes
pub takes_dashed : (longs : List (List ℕ)) (long : List ℕ) → is_one_of (names_by longs) (dashed long) ≡ is_one_of longs long
takes_dashed [] long = refl
takes_dashed (l ∷ longs) long = ap (λ b. bytes_eq long l || b) (takes_dashed longs long)

-- a name with no dash is no option
takes_plain : (longs : List (List ℕ)) (name : List ℕ) → has_dash name ≡ false → is_one_of (names_by longs) name ≡ false
takes_plain [] name e = refl
takes_plain (l ∷ longs) [] e = takes_plain longs [] e
takes_plain (l ∷ longs) (c ∷ name) e = rw e (takes_plain longs (c ∷ name) e)

-- ---- rows

pub row_named : (name : List ℕ) (os : List Choice) → has_row name (rows_by os) ≡ has_name name os
row_named name [] = refl
row_named name (o ∷ os) = ap (λ b. bytes_eq o.name name || b) (row_named name os) ∙ sym (has_cons name o os)

pub first_named : (name : List ℕ) (os : List Choice) → first_of name (rows_by os) ≡ option_value name os
first_named name [] = refl
first_named name (o ∷ os) = go (bytes_eq o.name name) (first_named name os)
  where
    go : (b : Bool) → first_of name (rows_by os) ≡ option_value name os → option_and_then (λ (r : Row). slice_get r.values 0) (cond b (Some (row_by o)) (find (λ (r : Row). bytes_eq r.id name) (rows_by os)))
        ≡ option_map (λ (x : Choice). x.value) (cond b (Some o) (find (λ (x : Choice). bytes_eq x.name name) os))
    go true rest = refl
    go false rest = rest

without_new : (name : List ℕ) (os : List Choice) → has_row name (rows_by os) ≡ false → without name (rows_by os) ≡ rows_by os
without_new name [] e = refl
without_new name (o ∷ os) e = go (bytes_eq o.name name) e (without_new name os)
  where
    go : (b : Bool) → (b || has_row name (rows_by os)) ≡ false → (has_row name (rows_by os) ≡ false → without name (rows_by os) ≡ rows_by os)
        → cond b (rows_by os) (row_by o ∷ without name (rows_by os)) ≡ rows_by (o ∷ os)
    go true e rest = absurd (true≢false e)
    go false e rest = ap (λ rs. row_by o ∷ rs) (rest e)

with_new : (name text : List ℕ) (os : List Choice) → has_row name (rows_by os) ≡ false
    → with_values name AsWritten CommandLine (text ∷ []) (rows_by os) ≡ rows_by (os ++ choice name text ∷ [])
with_new name text [] e = refl
with_new name text (o ∷ os) e = go (bytes_eq o.name name) e (with_new name text os)
  where
    go : (b : Bool) → (b || has_row name (rows_by os)) ≡ false
        → (has_row name (rows_by os) ≡ false → with_values name AsWritten CommandLine (text ∷ []) (rows_by os) ≡ rows_by (os ++ choice name text ∷ []))
        → cond b (more_values CommandLine (text ∷ []) (row_by o) ++ rows_by os) (row_by o ∷ with_values name AsWritten CommandLine (text ∷ []) (rows_by os)) ≡ rows_by (o ∷ (os ++ choice name text ∷ []))
    go true e rest = absurd (true≢false e)
    go false e rest = ap (λ rs. row_by o ∷ rs) (rest e)

-- ---- one use of an option

use_new : (long text : List ℕ) (rows : List Row) → has_row (dashed long) rows ≡ false → use_fault false (option_of long) (text ∷ []) rows ≡ []
use_new long text rows e = ap (λ (b : Bool). or_else (if b && true then kind.ArgumentConflict ∷ [] else []) []) e

use_again : (long text : List ℕ) (rows : List Row) → has_row (dashed long) rows ≡ true → use_fault false (option_of long) (text ∷ []) rows ≢ []
use_again long text rows e =
    let same : use_fault false (option_of long) (text ∷ []) rows ≡ kind.ArgumentConflict ∷ [] =
    ap (λ (b : Bool). or_else (if b && true then kind.ArgumentConflict ∷ [] else []) []) e in
    subst (λ k. k ≢ []) (sym same) (fault_is (kind.ArgumentConflict ∷ []) tt)

use_none : (long : List ℕ) (rows : List Row) → use_fault false (option_of long) [] rows ≢ []
use_none long rows = fault_is (use_fault false (option_of long) [] rows) tt

used_new : (long text : List ℕ) (os : List Choice) → has_row (dashed long) (rows_by os) ≡ false
    → used (option_of long) (text ∷ []) (rows_by os) ≡ rows_by (os ++ choice (dashed long) text ∷ [])
used_new long text os e =
    ap (with_values (dashed long) AsWritten CommandLine (text ∷ [])) (without_new (dashed long) os e) ∙ with_new (dashed long) text os e

pub both_false : (a b : Bool) → (a || b) ≡ false → (a ≡ false) × (b ≡ false)
both_false true b e = absurd (true≢false e)
both_false false b e = (refl, e)

-- ---- the walk over the options of a command

-- between two words
abbrev pub between : Waiting → Held → Walk
between waiting h = record { held = h; waiting = waiting; position = 1; is_trailing = false; stopped = None }

-- a fault comes where there are no options, and else there are the rows of the options
abbrev pub Reads : Kinds → List Row → Option (List Choice) → Type 0
Reads fault rows None = fault ≢ []
Reads fault rows (Some os) = (fault ≡ []) × (rows ≡ rows_by os)

module _ (name : List ℕ) (longs : List (List ℕ)) where
  abbrev rules : List Rule
  rules = map option_of longs

  abbrev takes : List ℕ → Bool
  takes = is_one_of (names_by longs)

  abbrev rest_fault : Walk → List (List ℕ) → Kinds
  rest_fault w words = or_else (walk_fault (leaf name longs) [] w words) (settle_fault rules false (fold (walked rules []) w words).held)

  abbrev rest_rows : Walk → List (List ℕ) → List Row
  rest_rows w words = (settled rules (fold (walked rules []) w words).held).rows

  abbrev ReadsFrom : Walk → List (List ℕ) → Option (List Choice) → Type 0
  ReadsFrom w words said = Reads (rest_fault w words) (rest_rows w words) said

  abbrev turn : Walk → List ℕ → Kinds
  turn w word = turn_fault (leaf name longs) [] w word

  -- a fault at the first word
  bad_turn : (w : Walk) (word : List ℕ) (words : List (List ℕ)) → turn w word ≢ [] → rest_fault w (word ∷ words) ≢ []
  unfolding walk_fault
  bad_turn w word words bad = fault_first
      (or_else (turn w word) (walk_fault (leaf name longs) [] (walked rules [] w word) words))
      (settle_fault rules false (fold (walked rules []) w (word ∷ words)).held)
      (fault_first (turn w word) (walk_fault (leaf name longs) [] (walked rules [] w word) words) bad)

  reads_none : (w : Walk) (words : List (List ℕ)) (said : Option (List Choice)) → rest_fault w words ≢ [] → said ≡ None → ReadsFrom w words said
  reads_none w words said bad none = subst (λ r. ReadsFrom w words r) (sym none) bad

  -- the first word is read, and the others are read behind it
  reads_next : (w after : Walk) (word : List ℕ) (words : List (List ℕ)) (said rest : Option (List Choice)) → turn w word ≡ [] → walked rules [] w word ≡ after
      → said ≡ rest → ReadsFrom after words rest → ReadsFrom w (word ∷ words) said
  unfolding walk_fault
  reads_next w after word words said rest ok is same h =
      let P : Kinds → Walk → Option (List Choice) → Type 0 = λ t a r. Reads
      (or_else (or_else t (walk_fault (leaf name longs) [] a words)) (settle_fault rules false (fold (walked rules []) a words).held))
      ((settled rules (fold (walked rules []) a words).held).rows) r in
      subst (λ t. P t (walked rules [] w word) said) (sym ok) (subst (λ a. P [] a said) (sym is) (subst (λ r. P [] after r) (sym same) h))

  -- a word with two dashes, by the option of its name and its value
  abbrev long_step : Waiting → Option Rule → Option (List ℕ) → List ℕ → Held → Held × Step
  long_step waiting found v word h = after_flag rules waiting word (long_met rules found v h).0 (long_met rules found v h).1

  abbrev long_turn : Waiting → Option Rule → Option (List ℕ) → List ℕ → Held → Kinds
  long_turn waiting found v word h = or_else (long_fault rules false found v h)
      (step_fault (leaf name longs) 1 (long_step waiting found v word h).0 (long_step waiting found v word h).1)

  abbrev long_walk : Waiting → Option Rule → Option (List ℕ) → List ℕ → Held → Walk
  long_walk waiting found v word h = after_step rules word (between waiting h) (long_step waiting found v word h).0 (long_step waiting found v word h).1

  abbrev value_behind : List ℕ → Option (List ℕ)
  value_behind text = if has_equals text then Some (after_first is_equals text) else None

  turn_of_long : (waiting : Waiting) (x : ℕ) (text : List ℕ) (h : Held) → turn (between waiting h) (45 ∷ 45 ∷ x ∷ text)
      ≡ long_turn waiting (arg_by_long rules (before_first is_equals (x ∷ text))) (value_behind (x ∷ text)) (45 ∷ 45 ∷ x ∷ text) h
  turn_of_long idle x text h = refl
  turn_of_long (option id) x text h = refl
  turn_of_long positional x text h = refl

  walk_of_long : (waiting : Waiting) (x : ℕ) (text : List ℕ) (h : Held) → walked rules [] (between waiting h) (45 ∷ 45 ∷ x ∷ text)
      ≡ long_walk waiting (arg_by_long rules (before_first is_equals (x ∷ text))) (value_behind (x ∷ text)) (45 ∷ 45 ∷ x ∷ text) h
  unfolding walked
  walk_of_long idle x text h = refl
  walk_of_long (option id) x text h = refl
  walk_of_long positional x text h = refl

  abbrev known : Bool → List ℕ → Option Rule
  known b long = if b then Some (option_of long) else None

  abbrev said_value : Bool → List ℕ → Option (List ℕ)
  said_value b v = if b then Some v else None

  -- where an option lacks a value or was given twice, no word with two dashes mends it
  long_stuck : (waiting : Waiting) (x : ℕ) (text : List ℕ) (h : Held) → settle_fault rules false h ≢ [] → turn (between waiting h) (45 ∷ 45 ∷ x ∷ text) ≢ []
  long_stuck waiting x text h bad =
      let n = before_first is_equals (x ∷ text) in
      let word = 45 ∷ 45 ∷ x ∷ text in
      let v = after_first is_equals (x ∷ text) in
      let P : Bool → Bool → Type 0 = λ b c. long_turn waiting (known b n) (said_value c v) word h ≢ [] in
      let each : (b c : Bool) → P b c = λ b c. elim b as (λ b. P b c) [
        | false ↦ fault_is (long_turn waiting None (said_value c v) word h) tt
        | true ↦ elim c as (λ c. P true c) [
          | true ↦ fault_first (or_else (settle_fault rules false h) (use_fault false (option_of n) (v ∷ []) (settled rules h).rows)) []
              (fault_first (settle_fault rules false h) (use_fault false (option_of n) (v ∷ []) (settled rules h).rows) bad)
          | false ↦ fault_first (settle_fault rules false h) [] bad
        ]
      ] in
      subst (λ k. k ≢ [])
      (sym (turn_of_long waiting x text h ∙ ap (λ found. long_turn waiting found (value_behind (x ∷ text)) word h) (found_long longs n)))
      (each (is_one_of longs n) (has_equals (x ∷ text)))

  -- a word with no dash, where no option waits for a value
  plain_idle : (word : List ℕ) (h : Held) → has_dash word ≡ false → turn (between idle h) word ≢ []
  plain_idle word h e =
      let bare = plain_bare word e in
      let long = plain_long word e in
      let short = plain_short word e in
      let place = no_place longs 1 in
      let bad : IsFault (turn (between idle h) word) = rw (bare, long, short, place) tt in
      fault_is (turn (between idle h) word) bad

  -- ---- an option that waits for a value

  abbrev waiting_held : List ℕ → List (List ℕ) → Held → Held
  waiting_held long values h = record (settled rules h) { pending = Some (dashed long, values) }

  plain_turn : (word long : List ℕ) (h : Held) → has_dash word ≡ false → turn (between (option (dashed long)) h) word ≡ []
  plain_turn word long h e =
      let bare = plain_bare word e in
      let dashes = plain_long word e in
      let short = plain_short word e in
      rw (bare, dashes, short) refl

  plain_walk : (word long : List ℕ) (h : Held) → has_dash word ≡ false → is_one_of longs long ≡ true
      → walked rules [] (between (option (dashed long)) (waiting_held long [] h)) word ≡ between idle (waiting_held long (word ∷ []) h)
  unfolding walked
  plain_walk word long h e takes_it =
      let bare = plain_bare word e in
      let dashes = plain_long word e in
      let short = plain_short word e in
      let found : arg_by_id rules (dashed long) ≡ Some (option_of long) = found_id longs long ∙ ap (λ b. known b long) takes_it in
      let self = same_self (dashed long) in
      rw (bare, dashes, short, found, self) refl

  waiting_fault : (long : List ℕ) (values : List (List ℕ)) (h : Held) → is_one_of longs long ≡ true
      → settle_fault rules false (waiting_held long values h) ≡ use_fault false (option_of long) values (settled rules h).rows
  waiting_fault long values h takes_it =
      ap (λ found. option_map_or (λ (a : Rule). use_fault false a values (settled rules h).rows) found [])
      (found_id longs long ∙ ap (λ b. known b long) takes_it)

  waiting_rows : (long : List ℕ) (values : List (List ℕ)) (h : Held) → is_one_of longs long ≡ true
      → (settled rules (waiting_held long values h)).rows ≡ used (option_of long) values (settled rules h).rows
  waiting_rows long values h takes_it =
      ap (λ found. used_by_id found values (settled rules h).rows) (found_id longs long ∙ ap (λ b. known b long) takes_it)

  -- where an option lacks a value or was given twice, no words mend it
  stuck : (words : List (List ℕ)) (h : Held) → has_stray words ≡ false → settle_fault rules false h ≢ [] → rest_fault (between idle h) words ≢ []
  unfolding walk_fault
  stuck [] h clean bad = bad
  stuck (word ∷ words) h clean bad = bad_turn (between idle h) word words (elim (view word (both_false (is_stray word) (has_stray words) clean).0) as (λ _. turn (between idle h) word ≢ []) [
    | inl plain ↦ plain_idle word h plain
    | inr dashes ↦ subst (λ w. turn (between idle h) w ≢ []) (sym dashes.1.1) (long_stuck idle dashes.0 dashes.1.0 h bad)
  ])

  -- ---- options behind those that were seen

  -- all options so far have a value, each stands once, and these are their rows
  abbrev Ready : Held → List Choice → Type 0
  Ready h seen = (settle_fault rules false h ≡ []) × ((settled rules h).rows ≡ rows_by seen)

  abbrev Goes : List (List ℕ) → Type 0
  Goes words = has_stray words ≡ false → (h : Held) (seen : List Choice) → Ready h seen → ReadsFrom (between idle h) words (more takes seen (choices words))

  -- an option and its value in one word
  step_one : (x : ℕ) (text : List ℕ) (rest : List (List ℕ)) → is_one_of longs (before_first is_equals (x ∷ text)) ≡ true → has_equals (x ∷ text) ≡ true
      → has_stray rest ≡ false → Goes rest → (h : Held) (seen : List Choice) → Ready h seen
      → ReadsFrom (between idle h) ((45 ∷ 45 ∷ x ∷ text) ∷ rest) (more takes seen (choices ((45 ∷ 45 ∷ x ∷ text) ∷ rest)))
  step_one x text rest takes_it equals clean ih h seen ready =
      let n = before_first is_equals (x ∷ text) in
      let v = after_first is_equals (x ∷ text) in
      let word = 45 ∷ 45 ∷ x ∷ text in
      let o = choice (dashed n) v in
      let front : choices (word ∷ rest) ≡ in_front (Some o) (choices rest) = one_word word rest o
      (in_one word equals ∙ ap₂ (λ a b. Some (choice a b)) (before_dashes (x ∷ text)) (after_dashes (x ∷ text))) in
      let has : takes o.name ≡ true = takes_dashed longs n ∙ takes_it in
      let found : arg_by_long rules n ≡ Some (option_of n) = found_long longs n ∙ ap (λ b. known b n) takes_it in
      let turn_is : turn (between idle h) word ≡ long_turn idle (Some (option_of n)) (Some v) word h =
      turn_of_long idle x text h ∙ ap₂ (λ f b. long_turn idle f (said_value b v) word h) found equals in
      let walk_is : walked rules [] (between idle h) word ≡ between idle (reacted rules (option_of n) (v ∷ []) h) =
      walk_of_long idle x text h ∙ ap₂ (λ f b. long_walk idle f (said_value b v) word h) found equals in
      let row : (b : Bool) → has_name (dashed n) seen ≡ b → has_row (dashed n) (settled rules h).rows ≡ b =
      λ b e. ap (has_row (dashed n)) ready.1 ∙ row_named (dashed n) seen ∙ e in
      let P : Bool → Type 0 = λ b. has_name (dashed n) seen ≡ b → ReadsFrom (between idle h) (word ∷ rest) (more takes seen (choices (word ∷ rest))) in
      let each : (b : Bool) → P b = λ b. elim b as P [
        | true ↦ λ e.
            let used_fault = use_again n v (settled rules h).rows (row true e) in
            let bad : turn (between idle h) word ≢ [] = subst (λ k. k ≢ []) (sym (turn_is ∙ ap (λ k. or_else (or_else k (use_fault false (option_of n) (v ∷ []) (settled rules h).rows)) []) ready.0))
            (fault_first (use_fault false (option_of n) (v ∷ []) (settled rules h).rows) [] used_fault) in
            reads_none (between idle h) (word ∷ rest) (more takes seen (choices (word ∷ rest))) (bad_turn (between idle h) word rest bad)
            (ap (more takes seen) front ∙ more_again takes seen o (choices rest) has e)
        | false ↦ λ e.
            let used_fault = use_new n v (settled rules h).rows (row false e) in
            let ok : turn (between idle h) word ≡ [] = turn_is ∙ ap₂ (λ k l. or_else (or_else k l) []) ready.0 used_fault in
            let seen_row : has_row (dashed n) (rows_by seen) ≡ false = row_named (dashed n) seen ∙ e in
            let rows : used (option_of n) (v ∷ []) (settled rules h).rows ≡ rows_by (seen ++ o ∷ []) = ap (used (option_of n) (v ∷ [])) ready.1 ∙ used_new n v seen seen_row in
            reads_next (between idle h) (between idle (reacted rules (option_of n) (v ∷ []) h)) word rest (more takes seen (choices (word ∷ rest))) (more takes (seen ++ o ∷ []) (choices rest))
            ok walk_is (ap (more takes seen) front ∙ more_taken takes seen o (choices rest) has e)
            (ih clean (reacted rules (option_of n) (v ∷ []) h) (seen ++ o ∷ []) (refl, rows))
      ] in
      each (has_name (dashed n) seen) refl

  -- an option, and its value in the next word if that has no dash
  step_two : (x : ℕ) (text : List ℕ) (rest : List (List ℕ)) → is_one_of longs (x ∷ text) ≡ true → has_equals (x ∷ text) ≡ false
      → has_stray rest ≡ false → Goes (drop 1 rest) → (h : Held) (seen : List Choice) → Ready h seen
      → ReadsFrom (between (option (dashed (x ∷ text))) (waiting_held (x ∷ text) [] h)) rest (more takes seen (choices ((45 ∷ 45 ∷ x ∷ text) ∷ rest)))
  unfolding walk_fault
  step_two x text [] takes_it equals clean ih h seen ready =
      let long = x ∷ text in
      let word = dashed long in
      let bad : settle_fault rules false (waiting_held long [] h) ≢ [] = subst (λ k. k ≢ []) (sym (waiting_fault long [] h takes_it)) (use_none long (settled rules h).rows) in
      reads_none (between (option (dashed long)) (waiting_held long [] h)) [] (more takes seen (choices (word ∷ []))) bad
      (ap (more takes seen) (no_words word (not_in_one word equals)))
  step_two x text (word2 ∷ words) takes_it equals clean ih h seen ready =
      let long = x ∷ text in
      let word = dashed long in
      let w = between (option (dashed long)) (waiting_held long [] h) in
      let said = more takes seen (choices (word ∷ word2 ∷ words)) in
      let parts = both_false (is_stray word2) (has_stray words) clean in
      let two : choices (word ∷ word2 ∷ words) ≡ in_front (in_two_words word word2) (choices words) = two_words word word2 words (in_two_words word word2) (not_in_one word equals) refl in
      elim (view word2 parts.0) as (λ _. ReadsFrom w (word2 ∷ words) said) [
        | inr dashes ↦
            let lacking : settle_fault rules false (waiting_held long [] h) ≢ [] = subst (λ k. k ≢ []) (sym (waiting_fault long [] h takes_it)) (use_none long (settled rules h).rows) in
            let bad : turn w word2 ≢ [] = subst (λ t. turn w t ≢ []) (sym dashes.1.1) (long_stuck (option (dashed long)) dashes.0 dashes.1.0 (waiting_held long [] h) lacking) in
            let dash : has_dash word2 ≡ true = ap has_dash dashes.1.1 in
            reads_none w (word2 ∷ words) said (bad_turn w word2 words bad)
            (ap (more takes seen) (two ∙ ap (λ (b : Bool). in_front (if b then None else Some (choice word word2)) (choices words)) dash))
        | inl plain ↦
            let o = choice word word2 in
            let front : choices (word ∷ word2 ∷ words) ≡ in_front (Some o) (choices words) =
            two ∙ ap (λ (b : Bool). in_front (if b then None else Some (choice word word2)) (choices words)) plain in
            let has : takes o.name ≡ true = takes_dashed longs long ∙ takes_it in
            let after = waiting_held long (word2 ∷ []) h in
            let row : (b : Bool) → has_name word seen ≡ b → has_row word (settled rules h).rows ≡ b = λ b e. ap (has_row word) ready.1 ∙ row_named word seen ∙ e in
            let P : Bool → Type 0 = λ b. has_name word seen ≡ b → ReadsFrom w (word2 ∷ words) said in
            let each : (b : Bool) → P b = λ b. elim b as P [
              | true ↦ λ e.
                  let bad : settle_fault rules false after ≢ [] =
                  subst (λ k. k ≢ []) (sym (waiting_fault long (word2 ∷ []) h takes_it)) (use_again long word2 (settled rules h).rows (row true e)) in
                  reads_next w (between idle after) word2 words said None (plain_turn word2 long (waiting_held long [] h) plain) (plain_walk word2 long h plain takes_it)
                  (ap (more takes seen) front ∙ more_again takes seen o (choices words) has e) (stuck words after parts.1 bad)
              | false ↦ λ e.
                  let fault : settle_fault rules false after ≡ [] = waiting_fault long (word2 ∷ []) h takes_it ∙ use_new long word2 (settled rules h).rows (row false e) in
                  let seen_row : has_row word (rows_by seen) ≡ false = row_named word seen ∙ e in
                  let rows : (settled rules after).rows ≡ rows_by (seen ++ o ∷ []) =
                  waiting_rows long (word2 ∷ []) h takes_it ∙ ap (used (option_of long) (word2 ∷ [])) ready.1 ∙ used_new long word2 seen seen_row in
                  reads_next w (between idle after) word2 words said (more takes (seen ++ o ∷ []) (choices words))
                  (plain_turn word2 long (waiting_held long [] h) plain) (plain_walk word2 long h plain takes_it)
                  (ap (more takes seen) front ∙ more_taken takes seen o (choices words) has e)
                  (ih parts.1 after (seen ++ o ∷ []) (fault, rows))
            ] in
            each (has_name word seen) refl
      ]

  step_long : (x : ℕ) (text : List ℕ) (rest : List (List ℕ)) → has_stray rest ≡ false → Goes rest → Goes (drop 1 rest) → (h : Held) (seen : List Choice) → Ready h seen
      → ReadsFrom (between idle h) ((45 ∷ 45 ∷ x ∷ text) ∷ rest) (more takes seen (choices ((45 ∷ 45 ∷ x ∷ text) ∷ rest)))
  step_long x text rest clean ih1 ih2 h seen ready =
      let n = before_first is_equals (x ∷ text) in
      let v = after_first is_equals (x ∷ text) in
      let word = 45 ∷ 45 ∷ x ∷ text in
      let said = more takes seen (choices (word ∷ rest)) in
      let found : (b : Bool) → is_one_of longs n ≡ b → arg_by_long rules n ≡ known b n = λ b e. found_long longs n ∙ ap (λ b. known b n) e in
      let P : Bool → Bool → Type 0 = λ b c. is_one_of longs n ≡ b → has_equals (x ∷ text) ≡ c → ReadsFrom (between idle h) (word ∷ rest) said in
      let each : (b c : Bool) → P b c = λ b c. elim b as (λ b. P b c) [
        | false ↦ λ e f.
            let bad : turn (between idle h) word ≢ [] = subst (λ k. k ≢ [])
            (sym (turn_of_long idle x text h ∙ ap (λ t. long_turn idle t (value_behind (x ∷ text)) word h) (found false e)))
            (fault_is (long_turn idle None (value_behind (x ∷ text)) word h) tt) in
            reads_none (between idle h) (word ∷ rest) said (bad_turn (between idle h) word rest bad)
            (first_unknown takes seen word rest (ap takes (before_dashes (x ∷ text)) ∙ takes_dashed longs n ∙ e))
        | true ↦ elim c as (λ c. P true c) [
          | true ↦ λ e f. step_one x text rest e f clean ih1 h seen ready
          | false ↦ λ e f.
              let all : n ≡ x ∷ text = all_before (x ∷ text) f in
              let takes_it : is_one_of longs (x ∷ text) ≡ true = ap (is_one_of longs) (sym all) ∙ e in
              let is : arg_by_long rules n ≡ Some (option_of (x ∷ text)) = found true e ∙ ap (λ t. Some (option_of t)) all in
              let ok : turn (between idle h) word ≡ [] =
              turn_of_long idle x text h ∙ ap₂ (λ t b. long_turn idle t (said_value b v) word h) is f ∙ ap (λ k. or_else k []) ready.0 in
              let walk_is : walked rules [] (between idle h) word ≡ between (option (dashed (x ∷ text))) (waiting_held (x ∷ text) [] h) =
              walk_of_long idle x text h ∙ ap₂ (λ t b. long_walk idle t (said_value b v) word h) is f in
              reads_next (between idle h) (between (option (dashed (x ∷ text))) (waiting_held (x ∷ text) [] h)) word rest said said ok walk_is refl
              (step_two x text rest takes_it f clean ih2 h seen ready)
        ]
      ] in
      each (is_one_of longs n) (has_equals (x ∷ text)) refl refl

  step : (word : List ℕ) (rest : List (List ℕ)) → Goes rest → Goes (drop 1 rest) → Goes (word ∷ rest)
  step word rest ih1 ih2 clean h seen ready =
      let parts = both_false (is_stray word) (has_stray rest) clean in
      elim (view word parts.0) as (λ _. ReadsFrom (between idle h) (word ∷ rest) (more takes seen (choices (word ∷ rest)))) [
        | inl plain ↦ reads_none (between idle h) (word ∷ rest) (more takes seen (choices (word ∷ rest))) (bad_turn (between idle h) word rest (plain_idle word h plain))
            (first_unknown takes seen word rest (takes_plain longs (before_first is_equals word) (no_dash_before word plain)))
        | inr dashes ↦ subst (λ w. ReadsFrom (between idle h) (w ∷ rest) (more takes seen (choices (w ∷ rest)))) (sym dashes.1.1)
            (step_long dashes.0 dashes.1.0 rest parts.1 ih1 ih2 h seen ready)
      ]

  all_words : (words : List (List ℕ)) → Goes words
  unfolding walk_fault
  all_words [] = λ clean h seen ready. (ready.0, ready.1 ∙ ap rows_by (sym (append-nil seen)))
  all_words (word ∷ []) = step word [] (all_words []) (all_words [])
  all_words (word ∷ word2 ∷ words) = step word (word2 ∷ words) (all_words (word2 ∷ words)) (all_words words)

  -- ---- behind the words

  no_default : (rows : List Row) (long : List ℕ) → default_fault rows (option_of long) ≡ []
  no_default rows long = go (has_row (dashed long) rows) (given_default_fault (option_of long) [])
    where
      go : (b : Bool) (k : Kinds) → cond (b || true) [] k ≡ []
      go true k = refl
      go false k = refl

  no_defaults : (ls : List (List ℕ)) (rows : List Row) → defaults_fault rows (map option_of ls) ≡ []
  unfolding defaults_fault
  no_defaults [] rows = refl
  no_defaults (l ∷ ls) rows =
      ap (λ k. or_else k (defaults_fault (with_default rows (option_of l)) (map option_of ls))) (no_default rows l) ∙ no_defaults ls (with_default rows (option_of l))

  no_default_row : (rows : List Row) (long : List ℕ) → with_default rows (option_of long) ≡ rows
  no_default_row rows long = go (has_row (dashed long) rows)
    where
      go : (b : Bool) → cond b rows rows ≡ rows
      go true = refl
      go false = refl

  no_default_rows : (ls : List (List ℕ)) (rows : List Row) → fold with_default rows (map option_of ls) ≡ rows
  no_default_rows [] rows = refl
  no_default_rows (l ∷ ls) rows = ap (λ r. fold with_default r (map option_of ls)) (no_default_row rows l) ∙ no_default_rows ls rows

  none_required : (ls : List (List ℕ)) (rows : List Row) → list_any (λ (a : Rule). a.required && not (is_given a.id rows)) (map option_of ls) ≡ false
  none_required [] rows = refl
  none_required (l ∷ ls) rows = none_required ls rows

  no_check : (rows : List Row) → check_fault (leaf name longs) rows false ≡ []
  no_check rows = ap (λ b. check_kinds false false b) (none_required longs rows)

  -- what `clap` finds in the words behind the name of a command: their options, or else a fault
  pub leaf_reads : (words : List (List ℕ)) → has_stray words ≡ false
      → Reads (level_fault (leaf name longs) [] nothing_held words false []) (rows_after rules [] words) (more takes [] (choices words))
  leaf_reads words clean =
      let w = between idle nothing_held in
      let end = (fold (walked rules []) w words).held in
      let walk_part = walk_fault (leaf name longs) [] w words in
      let fault : level_fault (leaf name longs) [] nothing_held words false [] ≡ rest_fault w words =
      ap₂ (λ d k. or_else walk_part (or_else (settle_fault rules false end) (or_else d k))) (no_defaults longs (settled rules end).rows) (no_check (finished rules end))
      ∙ ap (or_else walk_part) (fault_alone (settle_fault rules false end)) in
      let rows : rows_after rules [] words ≡ rest_rows w words = no_default_rows longs (settled rules end).rows in
      subst (λ k. Reads k (rows_after rules [] words) (more takes [] (choices words))) (sym fault)
      (subst (λ r. Reads (rest_fault w words) r (more takes [] (choices words))) (sym rows)
      (all_words words clean nothing_held [] (refl, refl)))
