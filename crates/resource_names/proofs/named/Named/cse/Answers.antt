use Rattle.std.proofs.Common.{ap, ◌∙◌}
use Rattle.tree_model.specs.Tree.{is_cse}
use Rattle.resource_names.specs.Names.{checked}
use Rattle.resource_names.proofs.NameLemmas.{cse_decided}
use Rattle.resource_names.proofs.named.Named.cse.Goals as goal

pub returns : goal.returns
returns c =
    cse_decided c.args.list.now c.requires.tree c.args.self.now c.requires.named c.args.csi.now _ (c.checked_cse.ensures ∙ ap (checked (is_cse c.args.csi.now) c.args.list.now) c.find.ensures)
