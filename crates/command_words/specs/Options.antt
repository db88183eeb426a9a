-- The options behind the name of a command.
use Rattle.std.specs.Prelude.{ℕ, ◌==◌, nat_lt, ◌&&◌, List, [], ◌∷◌, length, Bool, true, false, not}
use Rattle.std.specs.Prelude.{Option, Some, None, is_some, find, option_map, option_and_then}
use Rattle.std.specs.Prelude.{if◌then◌else◌}
use Rattle.std.specs.List.{before_first, after_first, position_or_len}
use Rattle.std.specs.Str.{bytes_eq}
use Rattle.m2m_names.specs.Name.{is_one_of}

-- an option: its name, and its value
pub record Choice : Type 0 where
  pub name : List ℕ
  pub value : List ℕ

-- The option that has this name and this value.
abbrev pub choice : List ℕ → List ℕ → Choice
choice name value = record { name = name; value = value }

-- an equals sign
abbrev pub is_equals : ℕ → Bool
is_equals c = c == 61

-- an option in one word: the first equals sign parts its name and its value
abbrev pub in_one_word : List ℕ → Option Choice
in_one_word word = if nat_lt (position_or_len is_equals word) (length word)
    then Some (choice (before_first is_equals word) (after_first is_equals word)) else None

-- The word begins with a dash.
abbrev pub has_dash : List ℕ → Bool
has_dash [] = false
has_dash (c ∷ cs) = c == 45

-- an option in two words, whose value begins with no dash
abbrev pub in_two_words : List ℕ → List ℕ → Option Choice
in_two_words name value = if has_dash value then None else Some (choice name value)

-- one option more in front of those behind it, if they are options
abbrev pub in_front : Option Choice → Option (List Choice) → Option (List Choice)
in_front None rest = None
in_front (Some first) rest = option_map (λ others. first ∷ others) rest

-- the option that a word is, or that it is with the next one, in front of those behind the words
-- that it takes: behind one, or behind two
abbrev pub choices_by : Option Choice → Option Choice → Option (List Choice) → Option (List Choice)
    → Option (List Choice)
choices_by (Some one) two behind_one behind_two = in_front (Some one) behind_one
choices_by None two behind_one behind_two = in_front two behind_two

-- the options that these words are, in order, if they are
abbrev pub choices : List (List ℕ) → Option (List Choice)
choices [] = Some []
choices (word ∷ []) = in_front (in_one_word word) (Some [])
choices (word ∷ next ∷ words) = choices_by (in_one_word word) (in_two_words word next)
    (choices (next ∷ words)) (choices words)

-- what the first of these options with this name says
abbrev pub option_value : List ℕ → List Choice → Option (List ℕ)
option_value name os = option_map (λ o. o.value) (find (λ o. bytes_eq o.name name) os)

-- a command takes each of these options, and none of them stands twice
abbrev pub are_options : (List ℕ → Bool) → List Choice → Bool
are_options takes [] = true
are_options takes (o ∷ os) =
    takes o.name && (not (is_some (option_value o.name os)) && are_options takes os)

-- The options that these words are, in any order, where each of them has one of these names and
-- none stands twice.
abbrev pub options_in : List (List ℕ) → List (List ℕ) → Option (List Choice)
options_in names words = option_and_then
    (λ os. if are_options (is_one_of names) os then Some os else None) (choices words)
