use Rattle.std.proofs.Common.{refl}
use Rattle.request_rules.specs.Judged.{IsCreateOf}
use Rattle.create_delete.proofs.PlannedLemmas.{create_allowed, create_judged}
use Rattle.create_delete.proofs.creation.plan.Goals as goal

pub prepare-requires-clause-allowed : goal.prepare-requires-clause-allowed
prepare-requires-clause-allowed g c =
    create_allowed c.args.entity.now c.args.originator.now c.args.request.now c.args.parent c.in_ok-create.create c.in_ok-create.ensures.0 c.in_ok-create.ensures.1

pub prepare-requires-clause-parts : goal.prepare-requires-clause-parts
prepare-requires-clause-parts g c =
    let asked : IsCreateOf c.args.entity.now c.args.request.now c.args.parent c.in_ok-create.create = c.in_ok-create.ensures.1 in
    record {
      parent = refl;
      ty = refl;
      named = refl;
      name = asked.name;
      utf8 = asked.utf8;
      expiry = asked.expiry;
      last = asked.last;
      size = asked.size;
      members = asked.members;
      links = asked.links;
    }

pub returns : goal.returns
returns g c =
    create_judged c.args.entity.now c.args.originator.now c.args.request.now c.args.parent c.in_ok-create.create c.in_ok-create.ensures.0 c.in_ok-create.ensures.1
    c.prepare.result c.prepare.ensures.may c.prepare.ensures.unsent c.prepare.ensures.reply c.prepare.ensures.after c.prepare.ensures.memory
