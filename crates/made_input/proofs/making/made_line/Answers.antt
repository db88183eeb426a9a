use Rattle.std.proofs.Common.{◌≡◌, ◌∙◌, ap₂, subst}
use Rattle.std.proofs.lemmas.Result.{IfOk-weaker}
use Rattle.made_input.specs.Counts.{line}
use Rattle.made_input.specs.Making.{IsMadeLine, MakesAll}
use Rattle.made_input.specs.Requests.{first_inputs}
use Rattle.made_input.proofs.making.made_line.Goals as goal

pub returns : goal.returns
returns c =
    IfOk-weaker c.line_of.result
    (λ text. text.items ≡ line c.args.requests c.in_ok-tally.tally c.resources_of-resources.result c.notes_of-notes.result)
    (λ text. IsMadeLine c.args.requests text.items)
    (λ text is. record {
      between = c.take_first.new.entity;
      after = c.take_made.new.entity;
      tally = c.in_ok-tally.tally;
      first = subst (λ e. MakesAll first_inputs e c.take_first.new.entity) c.in_ok-entity.ensures c.in_ok-take_first.ensures;
      then = c.in_ok-tally.ensures;
      text_is = is ∙ ap₂ (λ r n. line c.args.requests c.in_ok-tally.tally r n) c.resources_of-resources.ensures c.notes_of-notes.ensures;
    })
    c.line_of.ensures
