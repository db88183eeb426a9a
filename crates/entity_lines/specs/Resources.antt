-- The line of a resource.
use Rattle.std.specs.Prelude.{◌≡◌, ℕ, nat_le, Bool, true, List, Option, Some, None, option_and_then}
use Rattle.std.specs.Prelude.{if◌then◌else◌}
use Rattle.std.specs.Result.{result_ok}
use Rattle.m2m_value.specs.Data.{depth}
use Rattle.m2m_value.specs.Reading.{reading, reading_depth}
use Rattle.m2m_value.specs.Spelling.{text_of}
use Rattle.resource_model.specs.Resource.{ResourceData}
use Rattle.resource_lines.specs.Read.{resource_in}
use Rattle.resource_lines.specs.Written.{resource_data}
use Rattle.journal_lines.specs.Lines.{ended, first_line, has_line}
use Rattle.journal_lines.specs.Spelled.{has_no_end}

-- what is written of a resource
abbrev pub resource_line : ResourceData → List ℕ
resource_line r = ended (text_of (resource_data r))

-- it is no deeper than a text is read
abbrev pub is_readable : ResourceData → Bool
is_readable r = nat_le (depth (resource_data r)) reading_depth

-- the resource that a line is
abbrev pub resource_spelled : List ℕ → Option ResourceData
resource_spelled line = option_and_then resource_in (result_ok (reading line))

-- the resource whose line is the first of a text
abbrev pub first_resource : List ℕ → Option ResourceData
first_resource text = if has_line text then resource_spelled (first_line text) else None

-- The text is the line of a resource.
pub record SpellsResource (r : ResourceData) (text : List ℕ) : Type 0 where
  pub line : List ℕ
  pub split : text ≡ ended line
  pub whole : has_no_end line ≡ true
  pub means : resource_spelled line ≡ Some r
