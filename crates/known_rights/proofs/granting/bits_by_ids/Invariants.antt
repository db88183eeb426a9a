use Rattle.std.proofs.Common.{◌≡◌, drop}
use Rattle.m2m_names.specs.declared.attributes.Attr.TheVariants.{Pv}
use Rattle.policy_eval.specs.Rules.{rules_by}
use Rattle.policy_eval.specs.Rights.{with_rules, bits_by}
use Rattle.known_rights.specs.Known.{IsKnown}
use Rattle.known_rights.proofs.granting.bits_by_ids.Given as goal

abbrev pub invariant-loop-id : goal.invariant-loop-id
invariant-loop-id g l =
    let nodes = g.T.Tree.nodes l.tree in
    record {
      bits : with_rules l.asker.home l.asker.originator l.bits (rules_by Pv nodes (drop l.id-index l.ids)) ≡ bits_by l.asker.home l.asker.originator (rules_by Pv nodes l.ids);
      known : IsKnown l.asker.home nodes l.asker.originator l.known;
    }
