-- What a command line asks for.
use Rattle.std.specs.Prelude.{ℕ, ◌==◌, not, Bool, true, false, List, [], ◌∷◌, Option, Some, None}
use Rattle.std.specs.Prelude.{option_map, option_and_then, ◌||◌, if◌then◌else◌}
use Rattle.std.specs.Str.{bytes_eq}
use Rattle.resource_model.specs.Home.{HomeData, default_home}
use Rattle.command_words.specs.Options.{Choice, has_dash, in_one_word, option_value, options_in}
use Rattle.command_words.specs.Command.{Command, Task, http, replay, twin, serve, generate}
use Rattle.command_words.specs.Command.{count_in, file_said, home_said, later_said, serving_said}
use Rattle.command_words.specs.Command.{most_made}
use Rattle.command_words.specs.Command.{http_word, replay_word, twin_word, serve_word, gen_word}
use Rattle.command_words.specs.Command.{snapshot_word, help_word, help_option, version_option}
use Rattle.command_words.specs.Command.{http_options, replay_options, twin_options}
use Rattle.command_words.specs.Command.{serve_options}
use Rattle.command_words.specs.Command.{snapshot_options, journal_option, later_option}

-- What a command line asks for: a command; a command over the journal in the file of a name; that
-- the journal of a home in such a file is made short; help; or the program's version.
pub data Asked : Type 0 where
  runs : Command → Asked
  runs_over : List ℕ → Command → Asked
  shortens : List ℕ → HomeData → Asked
  helps : Asked
  tells_version : Asked

-- a command over an entity that can be kept in a file
abbrev pub may_keep : Task → Bool
may_keep (http later) = true
may_keep replay = false
may_keep twin = false
may_keep (serve serving) = true
may_keep (generate n) = false

-- a command over a CSE that answers later, where it is asked so
abbrev pub answers_later : Task → Bool
answers_later (http later) = later
answers_later replay = false
answers_later twin = false
answers_later (serve serving) = serving.later
answers_later (generate n) = false

-- a command over the journal in a file, where one is named: one that may keep its entity
abbrev pub over : Option (List ℕ) → Command → Option Asked
over None command = Some (runs command)
over (Some file) command = if may_keep command.task then Some (runs_over file command) else None

-- a task, with the home and the journal that its options say
abbrev pub task_at : Task → List Choice → Option Asked
task_at task os = option_and_then (λ file. option_and_then
    (λ home. over file (record { task = task; home = home })) (home_said os))
    (file_said (option_value journal_option os))

-- one connection, as its options say it
abbrev pub connection_at : List Choice → Option Asked
connection_at os = option_and_then (λ later. task_at (http later) os)
    (later_said (option_value later_option os))

-- a server, as its options say it
abbrev pub server_at : List Choice → Option Asked
server_at os = option_and_then (λ serving. task_at (serve serving) os) (serving_said os)

-- What the words behind `gen` say: one number, and no option. Its home is the usual one.
abbrev pub gen_says : List (List ℕ) → Option Asked
gen_says [] = None
gen_says (text ∷ []) = option_map
    (λ n. runs (record { task = generate n; home = default_home })) (count_in text most_made)
gen_says (text ∷ next ∷ words) = None

-- the word names a file: it isn't empty, and begins with no dash
abbrev pub is_file_word : List ℕ → Bool
is_file_word [] = false
is_file_word (c ∷ cs) = not (c == 45)

-- What the words behind `snapshot` say: the name of a journal's file, and then the options of a
-- home.
abbrev pub snapshot_says : List (List ℕ) → Option Asked
snapshot_says [] = None
snapshot_says (file ∷ words) = if is_file_word file then
    option_map (λ home. shortens file home)
    (option_and_then home_said (options_in snapshot_options words)) else None

-- this is asked for, where no word stands behind
abbrev pub alone : Asked → List (List ℕ) → Option Asked
alone asked [] = Some asked
alone asked (word ∷ words) = None

-- a word that asks for help
abbrev pub is_for_help : List ℕ → Bool
is_for_help word = bytes_eq word help_word || bytes_eq word help_option

-- What the program is asked of itself: a word for help or for its version, and nothing more.
abbrev pub asked_of_itself : List ℕ → List (List ℕ) → Option Asked
asked_of_itself first words =
    if is_for_help first then alone helps words
    else if bytes_eq first version_option then alone tells_version words
    else None

-- What the first word and those behind it ask for: a command, whose options stand behind its name;
-- or something of the program itself.
abbrev pub asked_behind : List ℕ → List (List ℕ) → Option Asked
asked_behind first words =
    if bytes_eq first http_word then option_and_then connection_at (options_in http_options words)
    else if bytes_eq first replay_word then
    option_and_then (task_at replay) (options_in replay_options words)
    else if bytes_eq first twin_word then
    option_and_then (task_at twin) (options_in twin_options words)
    else if bytes_eq first serve_word then
    option_and_then server_at (options_in serve_options words)
    else if bytes_eq first gen_word then gen_says words
    else if bytes_eq first snapshot_word then snapshot_says words
    else asked_of_itself first words

-- ---- a journal that is named in front of the command

-- What is asked for with the journal in this file in front of it: a command that may keep its
-- entity and names no journal behind it.
abbrev pub kept_in : List ℕ → Asked → Option Asked
kept_in file (runs command) = option_and_then (λ file. over file command) (file_said (Some file))
kept_in file (runs_over other command) = None
kept_in file (shortens other home) = None
kept_in file helps = None
kept_in file tells_version = None

-- what a command asks for behind the name of a journal's file
abbrev pub asked_over : List ℕ → List (List ℕ) → Option Asked
asked_over file [] = None
asked_over file (first ∷ words) = option_and_then (kept_in file) (asked_behind first words)

-- That, where the name of the file stands in a word of its own, which begins with no dash.
abbrev pub asked_over_next : List (List ℕ) → Option Asked
asked_over_next [] = None
asked_over_next (file ∷ words) = if has_dash file then None else asked_over file words

-- the value of an option, where it is the journal's
abbrev pub journal_of : Option Choice → Option (List ℕ)
journal_of None = None
journal_of (Some o) = if bytes_eq o.name journal_option then Some o.value else None

-- What is asked for where the first word gives `--journal` this value in itself, or else none.
abbrev pub asked_from : Option (List ℕ) → List ℕ → List (List ℕ) → Option Asked
asked_from (Some file) first words = asked_over file words
asked_from None first words = if bytes_eq first journal_option then asked_over_next words
    else asked_behind first words

-- What words ask for, if they are a command line of the program. A journal may be named in front of
-- the command as well as behind it.
abbrev pub asked_in : List (List ℕ) → Option Asked
asked_in [] = None
asked_in (first ∷ words) = asked_from (journal_of (in_one_word first)) first words

-- the command that is asked for, where it is one that keeps nothing
abbrev pub command_of : Asked → Option Command
command_of (runs command) = Some command
command_of (runs_over file command) = None
command_of (shortens file home) = None
command_of helps = None
command_of tells_version = None

-- The command that words are, if they are one: a line that names a journal is none, and neither is
-- one that asks about the program.
abbrev pub command_in : List (List ℕ) → Option Command
command_in words = option_and_then command_of (asked_in words)
