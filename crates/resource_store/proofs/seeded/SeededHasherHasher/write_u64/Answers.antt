use Rattle.std.proofs.Common.{rules}
use Rattle.resource_store.proofs.SeededLemmas.{number_written}
use Rattle.resource_store.proofs.seeded.SeededHasherHasher.write_u64.Goals as goal

pub returns : goal.returns
returns c = number_written c.args.self.now c.args.i c.placed-self.result (search rules) c.placed-self.ensures
