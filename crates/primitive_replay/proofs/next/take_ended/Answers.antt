use Rattle.std.proofs.Common.{◌≡◌, ◌+◌, ◌<◌, ℕ, List, Some, Err, length, take, drop, ap, subst, ◌∙◌}
use Rattle.std.specs.Str.Lines.{strip_carriage_return}
use Rattle.primitive_replay.specs.Front.{end_of}
use Rattle.primitive_replay.specs.Lines.{GivesLine, line_at}
use Rattle.primitive_replay.proofs.NextLemmas.{ended_fault}
use Rattle.primitive_replay.proofs.StandLemmas.{whole_leads}
use Rattle.primitive_replay.proofs.next.take_ended.Goals as goal

pub returns-in-Ok-clause-next : goal.returns-in-Ok-clause-next
returns-in-Ok-clause-next g c =
    let text : c.without_return.result.now ≡ strip_carriage_return (take (end_of c.args.held.now) c.args.held.now) = cc in
    let found : end_of c.args.held.now < length c.args.held.now = subst (λ (n : ℕ). n < length c.args.held.now) c.requires.end c.requires.within in
    λ stream left kept. whole_leads (g.F.LineForm.reads c.args.form.now) c.args.place stream c.args.held.now c.skip.new.self left c.in-Ok.line kept found
    (subst (λ (t : List ℕ). line_at (g.F.LineForm.reads c.args.form.now) c.args.place t ≡ Some c.in-Ok.line) text c.in-Ok.ensures)
    (c.skip.ensures.taken ∙ ap (λ (n : ℕ). drop (n + 1) c.args.held.now) c.requires.end)

pub returns-in-Err-clause-next : goal.returns-in-Err-clause-next
returns-in-Err-clause-next g c =
    let text : c.without_return.result.now ≡ strip_carriage_return (take (end_of c.args.held.now) c.args.held.now) = cc in
    let found : end_of c.args.held.now < length c.args.held.now = subst (λ (n : ℕ). n < length c.args.held.now) c.requires.end c.requires.within in
    λ stream left kept. ended_fault (g.F.LineForm.reads c.args.form.now) c.in-Err.fault c.args.place c.args.held.now stream left found
    (subst (λ (t : List ℕ). GivesLine (Err c.in-Err.fault) (line_at (g.F.LineForm.reads c.args.form.now) c.args.place t)) text c.in-Err.ensures) kept
