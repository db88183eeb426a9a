-- What is written of an event before it is done.
use Rattle.std.specs.Prelude.{ℕ, Bool, List, ◌++◌, if◌then◌else◌}
use Rattle.journal_lines.specs.Lines.{lines_of}
use Rattle.journal_opening.specs.Journals.{event_deed}
use Rattle.cse_machine.specs.declared.event.Event.{Event}

-- lines, with those of an event at a moment behind them, where it has any
abbrev pub pushed : Bool → List ℕ → ℕ → Event → List ℕ
pushed own lines moment event = if own then lines ++ lines_of moment (event_deed event) else lines
