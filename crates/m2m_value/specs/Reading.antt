-- The value that bytes spell, over the values that `serde_json` keeps.
use Rattle.std.specs.Prelude.{◌≡◌, ℕ, ◌⊎◌, ℤ, pos, List, nat_lt, if◌then◌else◌, Option, Some}
use Rattle.std.specs.Prelude.{None, Result, Ok, Err}
use Rattle.std.specs.Str.{is_utf8}
use Rattle.serde_json.specs.Data as json
use Rattle.serde_json.specs.Read.{read}
use Rattle.m2m_names.specs.Ids.{count_bound}
use Rattle.m2m_value.specs.Data.{Data, null, boolean, number, text, list, object, Elements}
use Rattle.m2m_value.specs.Data.{no_elements, element, Pairs, no_pairs, pair}
use Rattle.m2m_value.specs.declared.fault.ValFault.{ValFault}
use Rattle.m2m_value.specs.declared.fault.ValFault.TheVariants.{NotJson, TooWide, Fraction}
use Rattle.m2m_value.specs.declared.fault.ValFault.TheVariants.{OutOfMemory}

-- what comes of the first, or its fault
abbrev pub followed : {A B : Type 0} → Result A ValFault → (A → Result B ValFault) →
    Result B ValFault
followed (Ok a) next = next a
followed (Err fault) next = Err fault

-- a number is whole, and has 64 bits with its sign
abbrev pub whole_of : json.Num → Result ℤ ValFault
whole_of (json.unsigned n) = if nat_lt n count_bound then Ok (pos n) else Err TooWide
whole_of (json.negative z) = Ok z
whole_of (json.float x) = Err Fraction

-- the value, or the fault of its first number that has one: lists in order, members in the order of
-- their keys
abbrev mutual
  pub value_kept : json.Data → Result Data ValFault
  value_kept json.null = Ok null
  value_kept (json.boolean b) = Ok (boolean b)
  value_kept (json.number n) = followed (whole_of n) (λ z. Ok (number z))
  value_kept (json.string s) = Ok (text s)
  value_kept (json.array ds) = followed (elements_in ds) (λ es. Ok (list es))
  value_kept (json.object ms) = followed (pairs_in ms) (λ ps. Ok (object ps))

  pub elements_in : json.Items → Result Elements ValFault
  elements_in json.no_items = Ok no_elements
  elements_in (json.item d ds) =
      followed (value_kept d) (λ e. followed (elements_in ds) (λ es. Ok (element e es)))

  pub pairs_in : json.Members → Result Pairs ValFault
  pairs_in json.no_members = Ok no_pairs
  pairs_in (json.member k d ms) =
      followed (value_kept d) (λ e. followed (pairs_in ms) (λ ps. Ok (pair k e ps)))

-- The value of what was read, if anything was, or its fault.
abbrev pub value_if : Option json.Data → Result Data ValFault
value_if None = Err NotJson
value_if (Some d) = value_kept d

-- the elements of the items that were read, if any were, or the first fault
abbrev pub elements_if : Option json.Items → Result Elements ValFault
elements_if None = Err NotJson
elements_if (Some ds) = elements_in ds

-- the pairs of the members that were read, if any were, or the first fault
abbrev pub pairs_if : Option json.Members → Result Pairs ValFault
pairs_if None = Err NotJson
pairs_if (Some ms) = pairs_in ms

-- how deep a text is read
abbrev pub reading_depth : ℕ
reading_depth = 127

-- the value that the bytes spell: none where they are no UTF-8, or no JSON, or deeper than that
abbrev pub reading : List ℕ → Result Data ValFault
reading bytes = value_if (if is_utf8 bytes then read bytes else None)

-- the answer is the one that is told, unless memory ran out
abbrev pub Gives : {A B : Type 0} → (A → B) → Result A ValFault → Result B ValFault → Type 0
Gives seen (Ok a) told = told ≡ Ok (seen a)
Gives seen (Err fault) told = (fault ≡ OutOfMemory) ⊎ (told ≡ Err fault)
