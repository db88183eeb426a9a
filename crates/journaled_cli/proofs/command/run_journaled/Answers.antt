use Rattle.std.proofs.Common.{sym, ◌∙◌}
use Rattle.journaled_cli.proofs.command.run_journaled.Goals as goal

-- a CSE that answers later
pub returns-then-answers_later : goal.returns-then-answers_later
returns-then-answers_later g c = record { runs = rw (c.told.ensures.same, sym c.answers_later.ensures ∙ c.if-answers_later.true) c.run_later-ended.ensures.runs }

-- an entity
pub returns-else-answers_later : goal.returns-else-answers_later
returns-else-answers_later g c = record {
  runs = rw (c.told-else-answers_later.ensures.same, sym c.answers_later.ensures ∙ c.if-answers_later.false) c.run_plain-ended.ensures.runs;
}
