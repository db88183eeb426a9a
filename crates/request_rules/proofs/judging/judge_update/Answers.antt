use Rattle.std.proofs.Common.{sym}
use Rattle.m2m_names.specs.declared.operations.Op.TheVariants.{Update}
use Rattle.request_rules.specs.Judged.{IsUpdateOf}
use Rattle.request_rules.proofs.JudgedLemmas.{judges_at}
use Rattle.request_rules.proofs.judging.judge_update.Goals as goal

pub returns-in-Some : goal.returns-in-Some
returns-in-Some g c =
    judges_at c.judge_on.result Update c.args.entity.now c.args.originator.now c.args.request.now c.args.target c.in-Some.target.now (IsUpdateOf c.args.entity.now c.args.request.now) (sym c.in-Some.ensures.value) c.judge_on.ensures
