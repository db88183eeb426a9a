use Rattle.std.proofs.Common.{ap, ◌∙◌}
use Rattle.addressing.specs.Short.{short_of}
use Rattle.accepted_requests.proofs.asked.short_asking.Goals as goal

pub returns-clause-value : goal.returns-clause-value
returns-clause-value c = c.short_fr.ensures.value ∙ ap (short_of c.args.home.now) c.asking.ensures

pub returns-clause-originator : goal.returns-clause-originator
returns-clause-originator c = c.short_fr.ensures.originator
