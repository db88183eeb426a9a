use Rattle.addressing.proofs.ShortLemmas.{some_is_originator}
use Rattle.addressing.proofs.short.short_fr.Goals as goal

pub returns-clause-originator : goal.returns-clause-originator
returns-clause-originator c = some_is_originator c.args.home.now c.args.text.now c.short_form.result c.short_form.ensures
