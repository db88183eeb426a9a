-- A command's options as `clap` is told of them, and what it finds in words.
use Rattle.std.specs.Prelude.{◌≡◌, ◌==◌, ◌&&◌, ℕ, List, [], ◌∷◌, drop, map, fold, take, Bool}
use Rattle.std.specs.Prelude.{true, false, not, Option, Some, None, codes, ⊤}
use Rattle.std.specs.List.{list_any}
use Rattle.std.specs.declared.result.Result.{Result}
use Rattle.std.specs.declared.result.Result.TheVariants.{Ok, Err}
use Rattle.clap.specs.Words.{App, Row, Rule, found_of, new_app, new_rule, rows_of, with_rule}
use Rattle.clap.specs.Simple.{on_top}
use Rattle.clap.specs.declared.builder.action.ArgAction.TheVariants.{Set}
use Rattle.clap.specs.declared.builder.value_parser.Reading.TheVariants.{AsWritten}
use Rattle.clap.specs.declared.parser.matches.ArgMatches.{ArgMatches}
use Rattle.clap.specs.declared.parser.matches.ValueSource.TheVariants.{CommandLine}
use Rattle.command_words.specs.Options.{Choice}
use Rattle.command_words.specs.declared.faults.LineFault.{LineFault}
use Rattle.command_words.specs.declared.faults.LineFault.TheVariants.{Words, OutOfMemory}

-- ---- the words that `clap` isn't asked about

-- the word begins with a dash and is no option: `--`, or what has one dash alone
abbrev pub is_stray : List ℕ → Bool
is_stray [] = false
is_stray (a ∷ []) = a == 45
is_stray (a ∷ b ∷ []) = a == 45
is_stray (a ∷ b ∷ c ∷ word) = a == 45 && not (b == 45)

-- One of the words begins with a dash and is no option.
abbrev pub has_stray : List (List ℕ) → Bool
has_stray words = list_any is_stray words

-- ---- the options of a command

-- each is the name of an option: two dashes, and something behind them
abbrev pub AreOptionNames : List (List ℕ) → Type 0
AreOptionNames [] = ⊤
AreOptionNames (name ∷ names) =
    (take 2 name ≡ codes "--") × (is_stray name ≡ false) × AreOptionNames names

-- an option with one value, whose id is its name: two dashes and the long name
abbrev pub option_rule : List ℕ → Rule
option_rule name = record (new_rule name) { long = Some (drop 2 name); action = Some Set }

-- The command that knows one more option.
abbrev pub with_option : App → List ℕ → App
with_option app name = with_rule app (option_rule name)

-- The name of no program stands among the words, and nothing asks for help.
abbrev pub bare_command : App
bare_command = on_top (λ top. record top {
  no_binary_name = true;
  disable_help_flag = true;
  disable_help_subcommand = true;
}) (new_app (codes "cse"))

-- A command with options of these names.
abbrev pub reader : List (List ℕ) → App
reader names = fold with_option bare_command names

-- ---- what is found

-- what is found of an option
abbrev pub row_by : Choice → Row
row_by o = record {
  id = o.name;
  values = o.value ∷ [];
  count = None;
  source = Some CommandLine;
  reading = AsWritten;
}

abbrev pub rows_by : List Choice → List Row
rows_by os = map row_by os

-- What was found has the rows of these options. At a fault of the words there are none; and memory
-- may have run out.
abbrev pub FindsOptions : Option (List Choice) → Result ArgMatches LineFault → Type 0
FindsOptions said (Ok found) =
    (os : List Choice) × ((rows_of (found_of found) ≡ rows_by os) × (said ≡ Some os))
FindsOptions said (Err (Words fault)) = said ≡ None
FindsOptions said (Err OutOfMemory) = ⊤
