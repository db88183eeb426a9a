use Rattle.std.proofs.Common.{ℕ, subst}
use Rattle.std.specs.List.{Contains}
use Rattle.m2m_names.specs.declared.attributes.Attr.TheVariants.{Pv}
use Rattle.policy_eval.specs.Rules.{linked_rules}
use Rattle.known_rights.proofs.KnownLemmas.{bits_noted}
use Rattle.known_rights.proofs.granting.container_bits.Goals as goal

pub returns-in-Some-clause-bits : goal.returns-in-Some-clause-bits
returns-in-Some-clause-bits g c =
    c.requires.known.linked c.args.container.now c.in-Some.bits c.requires.container
    (subst (λ (n : ℕ). Contains c.args.known.now.linked (n, c.in-Some.bits)) c.number.ensures.value c.in-Some.ensures)

pub returns-clause-known : goal.returns-clause-known
returns-clause-known g c =
    let nodes = g.T.Tree.nodes c.args.tree.now in
    record {
      policies = c.linked_bits-bits.ensures.known.policies;
      linked = bits_noted (linked_rules Pv nodes) c.args.asker.now.home nodes c.args.asker.now.originator c.linked_bits-bits.new.known.linked c.note.new.self c.args.container.now c.number-2.result c.linked_bits-bits.result c.linked_bits-bits.ensures.known.linked c.requires.container c.number-2.ensures.value c.linked_bits-bits.ensures.bits c.note.ensures;
      last = c.linked_bits-bits.ensures.known.last;
    }
