use Rattle.std.proofs.Common.{ap, ◌∙◌}
use Rattle.addressing.specs.Names.{spot_of}
use Rattle.entity_model.specs.Entity.{EntityData}
use Rattle.cse_machine.proofs.OutcomeLemmas.{here_occurs}
use Rattle.cse_machine.proofs.machine.occur.Goals as goal

-- what stays here gives what it gives at what its address names
pub returns-in-Ok-reach : goal.returns-in-Ok-reach
returns-in-Ok-reach g c =
    let e = c.args.entity.now in
    let segments = c.in-Local.segments in
    let named = c.name_segments-spot.ensures ∙ ap (λ (x : EntityData). spot_of segments x.nodes) c.entity.view_is in
    let heard = c.in-Ok.ensures in
    here_occurs c.args.event.now e _ c.in-Ask.request c.in-Ok.heard.addr segments _ _ c.in-Ask.is heard.0 heard.1.addressed c.in-Local.is named
    c.in-Ok-reach.ensures.gives.reply c.in-Ok-reach.ensures.gives.after
