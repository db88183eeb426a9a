use Rattle.std.proofs.Common.{Ok, subst}
use Rattle.primitive_replay.specs.Front.{IsFront}
use Rattle.primitive_replay.specs.declared.front.Front.{Front}
use Rattle.primitive_replay.proofs.NextLemmas.{long_fault}
use Rattle.primitive_replay.proofs.next.take_front.Goals as goal

pub returns-in-TooLong-clause-next : goal.returns-in-TooLong-clause-next
returns-in-TooLong-clause-next g c =
    λ stream left kept front. long_fault (g.F.LineForm.reads c.args.form.now) c.args.place c.args.held.now stream left kept
    (subst (λ (f : Front). IsFront (Ok f) c.args.held.now left) c.in-TooLong.is front)
