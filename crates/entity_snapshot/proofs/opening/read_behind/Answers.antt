use Rattle.std.proofs.Common.{◌≡◌, subst}
use Rattle.std.proofs.lemmas.Result.{err_from_is_err_and}
use Rattle.entity_snapshot.proofs.RefusalLemmas.{halts_items, halts_resources}
use Rattle.entity_snapshot.proofs.opening.read_behind.Goals as goal
use Rattle.entity_snapshot.specs.Reading.{ReadsResources}

pub returns-in_err-at-clause-fault : goal.returns-in_err-at-clause-fault
returns-in_err-at-clause-fault g c =
    let p = err_from_is_err_and c.from_residual.result c.from_residual.ensures.1 in
    rw (p.1, p.2) (halts_resources c.args.text.now c.args.head c.args.len _ c.requires.len c.in_err-at.ensures.fault)

pub returns-in_err-end-clause-fault : goal.returns-in_err-end-clause-fault
returns-in_err-end-clause-fault g c =
    let text = c.args.text.now in
    let head = c.args.head in
    let nodes = g.T.Tree.nodes c.put_resources.new.tree in
    let p = err_from_is_err_and c.from_residual-in_err-end.result c.from_residual-in_err-end.ensures.1 in
    rw (p.1, p.2) (halts_items text head c.in_ok-at.at nodes _ (subst (λ n. ReadsResources text n head.resources c.in_ok-at.at nodes) c.requires.len c.in_ok-at.ensures.read) c.in_err-end.ensures.fault)

pub returns-clause-read : goal.returns-clause-read
returns-clause-read g c =
    let text = c.args.text.now in
    let head = c.args.head in
    let nodes = g.T.Tree.nodes c.put_resources.new.tree in
    record {
      at = c.in_ok-at.at;
      resources = subst (λ n. ReadsResources text n head.resources c.in_ok-at.at nodes) c.requires.len c.in_ok-at.ensures.read;
      each = c.in_ok-end.ensures.read;
      most = c.if-head-gt-LARGEST_COUNT.false;
    }
