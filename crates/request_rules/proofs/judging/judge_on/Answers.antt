use Rattle.std.proofs.Common.{◌++◌, List, sym}
use Rattle.m2m_names.specs.declared.operations.Op.TheVariants.{Update}
use Rattle.tree_model.proofs.TreeLemmas.{at_has}
use Rattle.entity_model.specs.Places.{Check}
use Rattle.request_rules.specs.Judged.{IsUpdateOf}
use Rattle.request_rules.specs.Order.{content_places, creation_places, target_places}
use Rattle.request_rules.proofs.JudgedLemmas.{judges_rest}
use Rattle.request_rules.proofs.OrderLemmas.{front_decides}
use Rattle.request_rules.proofs.judging.judge_on.Goals as goal

pub returns-in-Some : goal.returns-in-Some
returns-in-Some g c =
    let e = c.args.entity.now in
    let target = c.args.target.now in
    let front : List Check = target_places Update e c.args.originator.now c.args.request.now target in
    let back : List Check = content_places Update e c.args.request.now target ++ creation_places Update e c.args.originator.now c.args.request.now target in
    sym (front_decides front back c.in-Some.fault c.in-Some.ensures)

pub returns-in-None : goal.returns-in-None
returns-in-None g c =
    let e = c.args.entity.now in
    let target = c.args.target.now in
    let front : List Check = target_places Update e c.args.originator.now c.args.request.now target in
    let back : List Check = content_places Update e c.args.request.now target ++ creation_places Update e c.args.originator.now c.args.request.now target in
    judges_rest c.judge_edit.result front back (IsUpdateOf e c.args.request.now target.number) (sym c.in-None.ensures) c.judge_edit.ensures

pub judge_target-requires-clause-there : goal.judge_target-requires-clause-there
judge_target-requires-clause-there g c = at_has c.args.target.now.number c.args.entity.now.nodes c.args.target.now c.requires.stands
