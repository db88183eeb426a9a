use Rattle.std.proofs.Common.{ap, sym, ◌∙◌}
use Rattle.resource_store.specs.KinRows.{row_size}
use Rattle.resource_store.proofs.SizeLemmas.{recounted_size}
use Rattle.resource_store.proofs.slot.Slot.recount.Goals as goal

pub invariant_of-self : goal.invariant_of-self
invariant_of-self c = record {
  sized = λ small. c.args.self.now.sized small ∙ sym (ap row_size c.recount.ensures ∙ recounted_size c.args.left c.args.self.now.resource);
}
