-- The first line of an entity's: the number of the format, the home, the counters, and how many
-- resources and items there are.
use Rattle.std.specs.Prelude.{◌≡◌, ◌⊎◌, ℕ, nat_eq, true, false, Bool, List, [], ◌∷◌, ◌++◌}
use Rattle.std.specs.Prelude.{Option, Some, None, option_and_then, option_map, ok_or, Result, Ok}
use Rattle.std.specs.Prelude.{Err}
use Rattle.std.specs.Prelude.{if◌then◌else◌}
use Rattle.std.specs.Option.{option_map_or}
use Rattle.std.specs.Result.{result_ok}
use Rattle.m2m_value.specs.Data.{Data, elements_of, list}
use Rattle.m2m_value.specs.Reading.{reading}
use Rattle.m2m_value.specs.Same.{same}
use Rattle.m2m_value.specs.Shapes.{as_count}
use Rattle.m2m_value.specs.Spelling.{text_of}
use Rattle.resource_model.specs.Home.{HomeData}
use Rattle.journal_lines.specs.Header.{home_data}
use Rattle.journal_lines.specs.Lines.{ended, first_line, has_line}
use Rattle.journal_lines.specs.Spelled.{has_no_end}
use Rattle.journal_lines.specs.declared.header.HeaderFault.{HeaderFault}
use Rattle.journal_lines.specs.declared.header.HeaderFault.TheVariants.{NoHeader, OtherFormat}
use Rattle.journal_lines.specs.declared.header.HeaderFault.TheVariants.{OtherHome, OutOfMemory}
use Rattle.entity_lines.specs.Values.{count_data, pair_data, triple_data, values_in}
use Rattle.entity_lines.specs.declared.heads.Head.{Head}

-- ---- what is written

-- the number of the format
abbrev pub format : ℕ
format = 1

-- the counters, and how many there are
abbrev pub counters_data : Head → Data
counters_data head =
    triple_data (count_data head.next) (count_data head.last) (count_data head.numbered)

abbrev pub sizes_data : Head → Data
sizes_data head = pair_data (count_data head.resources) (count_data head.items)

-- the head as a list
abbrev pub head_items : HomeData → Head → List Data
head_items home head =
    count_data format ∷ home_data home ∷ counters_data head ∷ sizes_data head ∷ []

abbrev pub head_data : HomeData → Head → Data
head_data home head = list (elements_of (head_items home head))

-- its line
abbrev pub head_line : HomeData → Head → List ℕ
head_line home head = ended (text_of (head_data home head))

-- ---- what is read

-- three counts, and how many resources and items there are
abbrev pub head_of : ℕ → ℕ → ℕ → ℕ → ℕ → Head
head_of next last numbered resources items = record {
  next = next;
  last = last;
  numbered = numbered;
  resources = resources;
  items = items;
}

abbrev pub three_by : List Data → Option (ℕ × ℕ × ℕ)
three_by (a ∷ b ∷ c ∷ []) =
    option_and_then (λ x. option_and_then (λ y. option_map (λ z. (x, y, z)) (as_count c))
    (as_count b)) (as_count a)
three_by _ = None

abbrev pub two_by : List Data → Option (ℕ × ℕ)
two_by (a ∷ b ∷ []) = option_and_then (λ x. option_map (λ y. (x, y)) (as_count b)) (as_count a)
two_by _ = None

-- the head of counters and sizes
abbrev pub head_in : Data → Data → Option Head
head_in counters sizes =
    option_and_then (λ (c : ℕ × ℕ × ℕ). option_map (λ (s : ℕ × ℕ).
    head_of c.0 c.1 c.2 s.0 s.1) (two_by (values_in sizes))) (three_by (values_in counters))

-- it is the number of this format
abbrev pub is_format : Data → Bool
is_format d = option_map_or (nat_eq format) (as_count d) false

-- what a list says as the head of an entity of a home
abbrev pub head_by : HomeData → List Data → Result Head HeaderFault
head_by home (version ∷ own ∷ counters ∷ sizes ∷ []) =
    if is_format version
    then (if same (home_data home) own then ok_or (head_in counters sizes) NoHeader
    else Err OtherHome)
    else Err OtherFormat
head_by home _ = Err NoHeader

-- what a line says
abbrev pub head_spelled : HomeData → List ℕ → Result Head HeaderFault
head_spelled home line =
    option_map_or (λ d. head_by home (values_in d)) (result_ok (reading line)) (Err NoHeader)

-- what the first line of a text says
abbrev pub first_head : HomeData → List ℕ → Result Head HeaderFault
first_head home text = if has_line text then head_spelled home (first_line text) else Err NoHeader

-- The text is a line that says this of an entity of the home.
pub record SpellsHead (home : HomeData) (head : Head) (text : List ℕ) : Type 0 where
  pub line : List ℕ
  pub split : text ≡ ended line
  pub whole : has_no_end line ≡ true
  pub means : head_spelled home line ≡ Ok head

-- ---- what is answered

-- The answer is the one that is told, unless memory ran out.
abbrev pub TellsHead : {A : Type 0} → (A → Head) → Result A HeaderFault → Result Head HeaderFault
    → Type 0
TellsHead seen (Ok a) told = told ≡ Ok (seen a)
TellsHead seen (Err fault) told = (fault ≡ OutOfMemory) ⊎ (told ≡ Err fault)
