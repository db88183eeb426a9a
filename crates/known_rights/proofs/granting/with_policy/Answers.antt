use Rattle.std.proofs.Common.{ℕ, ap, sym, ◌∙◌, subst}
use Rattle.std.specs.Int.RustNames.{bit_or}
use Rattle.known_rights.specs.Tables.{lent_rules, NotesOrStays}
use Rattle.known_rights.proofs.BesidesLemmas.{rules_besides}
use Rattle.known_rights.proofs.granting.with_policy.Goals as goal

pub returns-clause-bits : goal.returns-clause-bits
returns-clause-bits c =
    ap (bit_or c.args.bits) c.read_bits-own.ensures
    ∙ sym (rules_besides c.args.asker.now.home c.args.asker.now.originator c.args.bits (lent_rules c.args.policy.now))

pub returns-clause-policies : goal.returns-clause-policies
returns-clause-policies c =
    subst (λ (bits : ℕ). NotesOrStays c.args.known.now.policies c.note.new.self c.args.number bits) c.read_bits-own.ensures c.note.ensures
