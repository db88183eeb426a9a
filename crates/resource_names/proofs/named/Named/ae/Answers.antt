use Rattle.std.proofs.Common.{ap, ◌∙◌}
use Rattle.tree_model.specs.Tree.{is_ae}
use Rattle.resource_names.specs.Names.{checked}
use Rattle.resource_names.proofs.NameLemmas.{ae_decided}
use Rattle.resource_names.proofs.named.Named.ae.Goals as goal

pub returns : goal.returns
returns c =
    ae_decided c.args.list.now c.requires.tree c.args.self.now c.requires.named c.args.aei.now _ (c.checked_ae.ensures ∙ ap (checked (is_ae c.args.aei.now) c.args.list.now) c.find.ensures)
