use Rattle.std.proofs.Common.{ap, sym, ◌∙◌}
use Rattle.std.specs.Prelude.{option_to_list}
use Rattle.resource_dues.specs.Dues.{is_told}
use Rattle.resource_dues.proofs.DuesLemmas.{told_by_none, told_last, told_pushed}
use Rattle.resource_dues.proofs.dues.push_entry.Goals as goal

pub returns-in_ok-push-clause-kept : goal.returns-in_ok-push-clause-kept
returns-in_ok-push-clause-kept c moment n told =
    ap (is_told moment n) c.in_ok-push.ensures.items ∙ told_pushed c.args.entries.now.items c.in-Some.entry moment n told

pub returns-in_ok-push-clause-ok : goal.returns-in_ok-push-clause-ok
returns-in_ok-push-clause-ok c moment is =
    ap (is_told moment c.args.number) c.in_ok-push.ensures.items
    ∙ told_last c.args.entries.now.items c.in-Some.entry moment c.args.number (ap (λ o. is_told moment c.args.number (option_to_list o)) (sym c.in-Some.is) ∙ c.entry_of.ensures moment is)

pub returns-in_default-clause-ok : goal.returns-in_default-clause-ok
returns-in_default-clause-ok c moment is =
    told_by_none c.args.entries.now.items moment c.args.number (ap (λ o. is_told moment c.args.number (option_to_list o)) (sym c.in_default.is) ∙ c.entry_of.ensures moment is)
