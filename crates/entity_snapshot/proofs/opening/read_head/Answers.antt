use Rattle.entity_snapshot.proofs.RefusalLemmas.{refused_head}
use Rattle.entity_snapshot.proofs.opening.read_head.Goals as goal

pub returns-in-Err-clause-refused : goal.returns-in-Err-clause-refused
returns-in-Err-clause-refused c = refused_head c.args.home.now c.args.text.now c.in-Err.fault c.snapshot_fault.result c.snapshot_fault.ensures c.in-Err.ensures.head
