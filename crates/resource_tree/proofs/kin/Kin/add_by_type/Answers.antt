use Rattle.std.proofs.Common.{◌∙◌}
use Rattle.m2m_names.specs.declared.types.Ty.TheVariants.{ContentInstance, PollingChannel, Subscription}
use Rattle.tree_model.specs.Tree.{is_kin}
use Rattle.resource_tree.proofs.IndexLemmas.{kin_grown, kin_undone, low}
use Rattle.resource_tree.proofs.kin.Kin.add_by_type.Goals as goal

pub add_if-requires : goal.add_if-requires
add_if-requires c = low (is_kin ContentInstance) c.args.list.now c.args.resource.now c.args.self.now.instances c.number-number.result c.parent-parent.result c.requires.types.instances c.requires.next c.number-number.ensures.value

pub add_if-requires-2 : goal.add_if-requires-2
add_if-requires-2 c = low (is_kin Subscription) c.args.list.now c.args.resource.now c.args.self.now.subs c.number-number.result c.parent-parent.result c.requires.types.subs c.requires.next c.number-number.ensures.value

pub add_if-requires-3 : goal.add_if-requires-3
add_if-requires-3 c = low (is_kin PollingChannel) c.args.list.now c.args.resource.now c.args.self.now.channels c.number-number.result c.parent-parent.result c.requires.types.channels c.requires.next c.number-number.ensures.value

-- one that was put into the queue of its type is taken back
pub returns-in-Err-clause-err : goal.returns-in-Err-clause-err
returns-in-Err-clause-err c = record {
  instances = kin_undone c.args.list.now c.args.resource.now c.requires.next c.number-number.result c.parent-parent.result c.number-number.ensures.value c.parent-parent.ensures.value ContentInstance c.is-is_instance.result c.args.self.now.instances c.add_if.new.kin c.take_kin.new.kin c.is-is_instance.ensures c.requires.types.instances c.in_ok-add_if.ensures.ok c.take_kin.ensures;
  subs = λ p. c.in-Err.ensures.err p ∙ c.requires.types.subs p;
  channels = c.requires.types.channels;
}

pub returns-in-Err-add_if-clause-err : goal.returns-in-Err-add_if-clause-err
returns-in-Err-add_if-clause-err c = record {
  instances = kin_undone c.args.list.now c.args.resource.now c.requires.next c.number-number.result c.parent-parent.result c.number-number.ensures.value c.parent-parent.ensures.value ContentInstance c.is-is_instance.result c.args.self.now.instances c.add_if.new.kin c.take_kin-in-Err-add_if.new.kin c.is-is_instance.ensures c.requires.types.instances c.in_ok-add_if.ensures.ok c.take_kin-in-Err-add_if.ensures;
  subs = kin_undone c.args.list.now c.args.resource.now c.requires.next c.number-number.result c.parent-parent.result c.number-number.ensures.value c.parent-parent.ensures.value Subscription c.is-is_sub.result c.args.self.now.subs c.add_if-2.new.kin c.take_kin-in-Err-add_if-2.new.kin c.is-is_sub.ensures c.requires.types.subs c.in_default.ensures.ok c.take_kin-in-Err-add_if-2.ensures;
  channels = λ p. c.in-Err-add_if.ensures.err p ∙ c.requires.types.channels p;
}

pub returns-clause-ok : goal.returns-clause-ok
returns-clause-ok c = record {
  instances = kin_grown c.args.list.now c.args.resource.now c.requires.next c.number-number.result c.parent-parent.result c.number-number.ensures.value c.parent-parent.ensures.value ContentInstance c.is-is_instance.result c.args.self.now.instances c.add_if.new.kin c.is-is_instance.ensures c.requires.types.instances c.in_ok-add_if.ensures.ok;
  subs = kin_grown c.args.list.now c.args.resource.now c.requires.next c.number-number.result c.parent-parent.result c.number-number.ensures.value c.parent-parent.ensures.value Subscription c.is-is_sub.result c.args.self.now.subs c.add_if-2.new.kin c.is-is_sub.ensures c.requires.types.subs c.in_default.ensures.ok;
  channels = kin_grown c.args.list.now c.args.resource.now c.requires.next c.number-number.result c.parent-parent.result c.number-number.ensures.value c.parent-parent.ensures.value PollingChannel c.is-is_channel.result c.args.self.now.channels c.add_if-3.new.kin c.is-is_channel.ensures c.requires.types.channels c.in_default-add_if.ensures.ok;
}
