use Rattle.std.proofs.Common.{List, ap, ◌∙◌}
use Rattle.m2m_names.specs.declared.attributes.Attr.TheVariants.{Pv}
use Rattle.m2m_value.specs.Data.{Data}
use Rattle.policy_eval.specs.Rights.{bits_by}
use Rattle.policy_eval.specs.Rules.{rules_by}
use Rattle.known_rights.proofs.KnownLemmas.{list_read}
use Rattle.known_rights.proofs.granting.bits_by_list.Goals as goal

pub returns-clause-known : goal.returns-clause-known
returns-clause-known g c =
    let home = c.args.asker.now.home in
    let o = c.args.asker.now.originator in
    let nodes = g.T.Tree.nodes c.args.tree.now in
    let gives = c.bits_by_ids-bits.ensures.bits ∙ ap (λ (ids : List Data). bits_by home o (rules_by Pv nodes ids)) c.listed_in.ensures in
    record {
      policies = c.bits_by_ids-bits.ensures.known.policies;
      linked = c.bits_by_ids-bits.ensures.known.linked;
      last = list_read home nodes o c.args.resource.now c.args.acpi.now _ c.requires.resource c.requires.acpi c.number.ensures.value gives;
    }
