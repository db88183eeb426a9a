use Rattle.std.proofs.Common.{codes, sym, ◌∙◌}
use Rattle.later_lines.proofs.WordLemmas.{accepted_back, accepted_written, lines_of_value, on_ok, some_kept}
use Rattle.later_lines.proofs.writing.push_accepted.Goals as goal

pub returns-clause-written : goal.returns-clause-written
returns-clause-written c =
    let kinds = c.in_ok-kept.ensures.kinds in
    on_ok c.push_kept.result _ _
    (λ w. w.lines ∙ lines_of_value (codes "accepted") c.args.text.now.items w.value _
    (accepted_written c.args.entry.now (some_kept _ w.value _ w.kept_is kinds) w.value (sym c.in_ok-kept.ensures.value ∙ w.kept_is) w.reads_back))
    c.push_kept.ensures.written

pub returns-clause-reads_back : goal.returns-clause-reads_back
returns-clause-reads_back c =
    let kinds = c.in_ok-kept.ensures.kinds in
    on_ok c.push_kept.result _ _
    (λ w. accepted_back c.args.entry.now (some_kept _ w.value _ w.kept_is kinds) w.value (sym c.in_ok-kept.ensures.value ∙ w.kept_is) w.reads_back)
    c.push_kept.ensures.written
