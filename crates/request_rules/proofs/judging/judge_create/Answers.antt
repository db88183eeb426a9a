use Rattle.std.proofs.Common.{◌++◌, List, Err, sym}
use Rattle.m2m_names.specs.declared.operations.Op.TheVariants.{Create}
use Rattle.entity_model.specs.Places.{Check}
use Rattle.request_rules.specs.Judged.{IsCreateOf}
use Rattle.request_rules.specs.Order.{content_places, creation_places, target_places}
use Rattle.request_rules.specs.declared.judging.Refusal.TheVariants.{Fault}
use Rattle.request_rules.proofs.JudgedLemmas.{judges_at, judges_rest}
use Rattle.request_rules.proofs.OrderLemmas.{front_decides}
use Rattle.request_rules.proofs.judging.judge_create.Goals as goal

pub returns-in-Ok : goal.returns-in-Ok
returns-in-Ok g c =
    let e = c.args.entity.now in
    let o = c.args.originator.now in
    let request = c.args.request.now in
    let parent = c.in-Some.parent.now in
    let front : List Check = target_places Create e o request parent in
    let back : List Check = content_places Create e request parent ++ creation_places Create e o request parent in
    judges_at c.judge_child.result Create e o request c.args.parent parent (IsCreateOf e request) (sym c.in-Some.ensures.value)
    (judges_rest c.judge_child.result front back (IsCreateOf e request parent.number) c.in-Ok.ensures.ok c.judge_child.ensures)

pub returns-in-Err : goal.returns-in-Err
returns-in-Err g c =
    let e = c.args.entity.now in
    let o = c.args.originator.now in
    let request = c.args.request.now in
    let parent = c.in-Some.parent.now in
    let front : List Check = target_places Create e o request parent in
    let back : List Check = content_places Create e request parent ++ creation_places Create e o request parent in
    judges_at (Err (Fault c.in-Err.fault)) Create e o request c.args.parent parent (IsCreateOf e request) (sym c.in-Some.ensures.value)
    (sym (front_decides front back c.in-Err.fault (sym c.in-Err.ensures.err)))
