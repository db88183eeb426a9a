use Rattle.std.proofs.Common.{subst}
use Rattle.resource_model.specs.Attributes.{AreInOrder}
use Rattle.resource_lines.proofs.BackLemmas.{resource_back}
use Rattle.resource_lines.proofs.writing.resource_value.Goals as goal

pub returns-clause-back : goal.returns-clause-back
returns-clause-back c = resource_back c.args.resource.now
    (record {
      name = c.in_ok-push_texts.ensures.name;
      owner = c.in_ok-push_texts.ensures.owner;
      number = c.place_value.ensures.number;
      parent = c.place_value.ensures.parent;
      ct = c.moments_value.ensures.ct;
      lt = c.moments_value.ensures.lt;
      et = c.moments_value.ensures.et;
    })
    (subst AreInOrder c.attrs.ensures c.attrs_value.ensures.order)
