use Rattle.std.proofs.Common.{codes, sym, ◌∙◌}
use Rattle.later_lines.proofs.KindLemmas.{written_count}
use Rattle.later_lines.proofs.WordLemmas.{gone_back, lines_of_value, on_ok}
use Rattle.later_lines.proofs.writing.push_gone.Goals as goal

pub returns-clause-written : goal.returns-clause-written
returns-clause-written c =
    on_ok c.push_kept.result _ _
    (λ w. w.lines ∙ lines_of_value (codes "gone") c.args.text.now.items w.value _ (written_count c.args.number w.value (sym c.count_value-kept.ensures ∙ w.kept_is)))
    c.push_kept.ensures.written

pub returns-clause-reads_back : goal.returns-clause-reads_back
returns-clause-reads_back c =
    on_ok c.push_kept.result _ _ (λ w. gone_back c.args.number w.value (sym c.count_value-kept.ensures ∙ w.kept_is) w.reads_back) c.push_kept.ensures.written
