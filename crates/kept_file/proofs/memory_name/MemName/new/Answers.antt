use Rattle.std.proofs.Common.{rules}
use Rattle.kept_file.proofs.MemoryLemmas.{fresh_leaves}
use Rattle.kept_file.proofs.memory_name.MemName.new.Goals as goal

pub returns-clause-kept : goal.returns-clause-kept
returns-clause-kept c = λ d left. fresh_leaves _ c.in_ok-to_vec.field-0.items d (search rules) left
