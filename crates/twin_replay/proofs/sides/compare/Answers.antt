use Rattle.std.proofs.Common.{◌≡◌, ℕ, ap, rules, subst}
use Rattle.cse_machine.specs.Step.{Step}
use Rattle.cse_machine.specs.declared.event.Event.TheVariants.{Tick}
use Rattle.cse_machine.specs.declared.event.Outcome.TheVariants.{Ticked}
use Rattle.twin_replay.specs.Sides.{later_last}
use Rattle.twin_replay.specs.declared.lines.Part.TheVariants.{Asking}
use Rattle.twin_replay.proofs.sides.compare.Goals as goal

pub returns : goal.returns
returns c =
    let moment : c.max-moment.result ≡ later_last c.args.sides.now = search rules in
    record {
      left = c.tick.new.entity;
      right = c.tick-2.new.entity;
      left_ticks = subst (λ (n : ℕ). Step n Tick c.args.sides.now.left Ticked c.tick.new.entity) moment c.in_ok-tick.ensures;
      right_ticks = subst (λ (n : ℕ). Step n Tick c.args.sides.now.right Ticked c.tick-2.new.entity) moment c.in_ok-tick-2.ensures;
      next_is = ap (λ (n : ℕ). record c.args.sides.now { part = Asking c.args.originator; reading = n; left = c.tick.new.entity; right = c.tick-2.new.entity }) moment;
      verdict = c.in_ok-text.ensures;
    }
