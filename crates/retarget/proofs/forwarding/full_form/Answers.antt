use Rattle.retarget.proofs.RouteLemmas.{originator_utf8}
use Rattle.retarget.proofs.forwarding.full_form.Goals as goal

pub returns-then-starts_with-clause-utf8 : goal.returns-then-starts_with-clause-utf8
returns-then-starts_with-clause-utf8 c =
    originator_utf8 c.args.originator.now c.from_slice.result c.from_slice.ensures c.requires
