use Rattle.std.proofs.Common.{◌≡◌, ℕ, List, Some, Err, length, drop, ap, subst, ◌∙◌}
use Rattle.primitive_replay.specs.Lines.{GivesLine, line_at}
use Rattle.primitive_replay.proofs.NextLemmas.{last_fault}
use Rattle.primitive_replay.proofs.StandLemmas.{last_leads}
use Rattle.primitive_replay.proofs.next.take_last.Goals as goal

pub returns-in-Ok-clause-next : goal.returns-in-Ok-clause-next
returns-in-Ok-clause-next g c =
    λ stream left kept end. last_leads (g.F.LineForm.reads c.args.form.now) c.args.place stream c.args.held.now c.skip.new.self left c.in-Ok.line kept c.requires.none c.requires.some end
    (subst (λ (t : List ℕ). line_at (g.F.LineForm.reads c.args.form.now) c.args.place t ≡ Some c.in-Ok.line) c.bytes-text.ensures.value c.in-Ok.ensures)
    (c.skip.ensures.taken ∙ ap (λ (t : List ℕ). drop (length t) c.args.held.now) c.bytes-text.ensures.value)

pub returns-in-Err-clause-next : goal.returns-in-Err-clause-next
returns-in-Err-clause-next g c =
    λ stream left kept end. last_fault (g.F.LineForm.reads c.args.form.now) c.in-Err.fault c.args.place c.args.held.now stream left c.requires.none c.requires.some
    (subst (λ (t : List ℕ). GivesLine (Err c.in-Err.fault) (line_at (g.F.LineForm.reads c.args.form.now) c.args.place t)) c.bytes-text.ensures.value c.in-Err.ensures) kept end
