use Rattle.std.proofs.Common.{sym, subst}
use Rattle.resource_model.specs.Attributes.{AreInOrder}
use Rattle.entity_model.proofs.OrderLemmas.{order_kept}
use Rattle.entity_soundness.proofs.resources.keeps_order.Goals as goal

-- attributes are kept in order by their type
pub returns : goal.returns
returns c = sym (order_kept c.args.resource.now (subst AreInOrder c.attrs.ensures c.entries-rows.ensures.order))
