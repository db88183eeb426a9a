use Rattle.std.proofs.Common.{ap, sym, ◌∙◌}
use Rattle.std.specs.Prelude.{option_to_list}
use Rattle.resource_dues.specs.Dues.{is_listed, is_told, tells}
use Rattle.resource_dues.proofs.DuesLemmas.{kept_in, told_by, told_by_none, told_inserted}
use Rattle.resource_dues.proofs.dues.Dues.add.Goals as goal

pub returns-in_ok-insert-clause-kept : goal.returns-in_ok-insert-clause-kept
returns-in_ok-insert-clause-kept c moment n told =
    told_by moment n c.args.self.now.moments.keys _ (λ listed. ap (λ es. is_listed moment n es) c.in_ok-insert.ensures.keys ∙ kept_in c.in-Some.entry (tells moment n) c.args.self.now.moments.keys listed) told

pub returns-in_ok-insert-clause-ok : goal.returns-in_ok-insert-clause-ok
returns-in_ok-insert-clause-ok c moment is =
    ap (is_told moment c.args.number) c.in_ok-insert.ensures.keys
    ∙ told_inserted c.args.self.now.moments.keys c.in-Some.entry moment c.args.number (ap (λ o. is_told moment c.args.number (option_to_list o)) (sym c.in-Some.is) ∙ c.entry_of.ensures moment is)

pub returns-in_default-clause-ok : goal.returns-in_default-clause-ok
returns-in_default-clause-ok c moment is =
    told_by_none c.args.self.now.moments.keys moment c.args.number (ap (λ o. is_told moment c.args.number (option_to_list o)) (sym c.in_default.is) ∙ c.entry_of.ensures moment is)
