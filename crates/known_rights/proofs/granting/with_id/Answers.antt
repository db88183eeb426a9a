use Rattle.std.proofs.Common.{None, Some, sym, ◌∙◌, subst}
use Rattle.policy_eval.specs.Rules.{linked_rules}
use Rattle.m2m_names.specs.declared.attributes.Attr.TheVariants.{Pv}
use Rattle.known_rights.specs.Tables.{AreBits}
use Rattle.known_rights.specs.Known.{IsRead}
use Rattle.known_rights.proofs.KnownLemmas.{gives_nothing, known_gives, lent_noted, policy_gives}
use Rattle.known_rights.proofs.granting.with_id.Goals as goal

pub returns-in_default-clause-bits : goal.returns-in_default-clause-bits
returns-in_default-clause-bits g c =
    gives_nothing c.args.asker.now.home (g.T.Tree.nodes c.args.tree.now) c.args.asker.now.originator c.args.id.now c.args.bits (sym c.policy_number.ensures ∙ c.in_default.is)

pub returns-in-Some-bits_at-clause-bits : goal.returns-in-Some-bits_at-clause-bits
returns-in-Some-bits_at-clause-bits g c =
    known_gives c.args.asker.now.home (g.T.Tree.nodes c.args.tree.now) c.args.asker.now.originator c.args.known.now.policies c.args.id.now c.in-Some.number c.args.bits c.in-Some-bits_at.own c.requires.known.policies c.in-Some-bits_at.ensures (sym c.policy_number.ensures ∙ c.in-Some.is)

pub returns-in-Some-policy_at-clause-bits : goal.returns-in-Some-policy_at-clause-bits
returns-in-Some-policy_at-clause-bits g c =
    c.with_policy.ensures.bits
    ∙ policy_gives c.args.asker.now.home (g.T.Tree.nodes c.args.tree.now) c.args.asker.now.originator c.args.id.now c.in-Some.number (Some c.in-Some-policy_at.policy.now) c.args.bits (sym c.policy_number.ensures ∙ c.in-Some.is) c.in-Some-policy_at.ensures

pub returns-in-Some-policy_at-clause-known : goal.returns-in-Some-policy_at-clause-known
returns-in-Some-policy_at-clause-known g c = record {
  policies = lent_noted c.args.asker.now.home (g.T.Tree.nodes c.args.tree.now) c.args.asker.now.originator c.args.known.now.policies c.with_policy.new.known.policies c.in-Some.number c.in-Some-policy_at.policy.now c.requires.known.policies (sym c.in-Some-policy_at.ensures) c.with_policy.ensures.policies;
  linked = subst (AreBits (linked_rules Pv (g.T.Tree.nodes c.args.tree.now)) c.args.asker.now.home (g.T.Tree.nodes c.args.tree.now) c.args.asker.now.originator) (sym c.with_policy.ensures.linked) c.requires.known.linked;
  last = subst (IsRead c.args.asker.now.home (g.T.Tree.nodes c.args.tree.now) c.args.asker.now.originator) (sym c.with_policy.ensures.last) c.requires.known.last;
}

pub returns-in-None-clause-bits : goal.returns-in-None-clause-bits
returns-in-None-clause-bits g c =
    policy_gives c.args.asker.now.home (g.T.Tree.nodes c.args.tree.now) c.args.asker.now.originator c.args.id.now c.in-Some.number None c.args.bits (sym c.policy_number.ensures ∙ c.in-Some.is) c.in-None.ensures
