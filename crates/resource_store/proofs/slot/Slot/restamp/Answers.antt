use Rattle.std.proofs.Common.{ap, sym, ◌∙◌}
use Rattle.resource_store.specs.KinRows.{row_size}
use Rattle.resource_store.proofs.SizeLemmas.{restamped_size}
use Rattle.resource_store.proofs.slot.Slot.restamp.Goals as goal

pub invariant_of-self : goal.invariant_of-self
invariant_of-self c = record {
  sized = λ small. c.args.self.now.sized small ∙ sym (ap row_size c.restamp.ensures ∙ restamped_size c.args.lt c.args.st c.args.self.now.resource);
}
