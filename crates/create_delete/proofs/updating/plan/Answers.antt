use Rattle.std.proofs.Common.{refl}
use Rattle.request_rules.specs.Judged.{IsUpdateOf}
use Rattle.create_delete.proofs.PlannedLemmas.{update_allowed, update_judged}
use Rattle.create_delete.proofs.updating.plan.Goals as goal

pub prepare-requires-clause-allowed : goal.prepare-requires-clause-allowed
prepare-requires-clause-allowed g c =
    update_allowed c.args.entity.now c.args.originator.now c.args.request.now c.args.target c.in_ok-update.update c.in_ok-update.ensures.0 c.in_ok-update.ensures.1

pub prepare-requires-clause-parts : goal.prepare-requires-clause-parts
prepare-requires-clause-parts g c =
    let asked : IsUpdateOf c.args.entity.now c.args.request.now c.args.target c.in_ok-update.update = c.in_ok-update.ensures.1 in
    record {
      target = refl;
      named = refl;
      members = asked.members;
      links = asked.links;
    }

pub returns : goal.returns
returns g c =
    update_judged c.args.entity.now c.args.originator.now c.args.request.now c.args.target c.in_ok-update.update c.in_ok-update.ensures.0 c.in_ok-update.ensures.1
    c.prepare.result c.prepare.ensures.may c.prepare.ensures.same c.prepare.ensures.named c.prepare.ensures.gone c.prepare.ensures.reply c.prepare.ensures.after c.prepare.ensures.memory
