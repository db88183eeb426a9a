use Rattle.std.proofs.Common.{codes, sym, ◌∙◌}
use Rattle.later_lines.proofs.WordLemmas.{lines_of_value, on_ok, run_back, run_written}
use Rattle.later_lines.proofs.writing.push_ran.Goals as goal

pub returns-clause-written : goal.returns-clause-written
returns-clause-written c =
    on_ok c.push_kept.result _ _
    (λ w. w.lines ∙ lines_of_value (codes "ran") c.args.text.now.items w.value _ (run_written c.args.number c.args.reply.now w.value (sym c.in_ok-kept.ensures ∙ w.kept_is) w.reads_back))
    c.push_kept.ensures.written

pub returns-clause-reads_back : goal.returns-clause-reads_back
returns-clause-reads_back c =
    on_ok c.push_kept.result _ _ (λ w. run_back c.args.number c.args.reply.now w.value (sym c.in_ok-kept.ensures ∙ w.kept_is) w.reads_back) c.push_kept.ensures.written
