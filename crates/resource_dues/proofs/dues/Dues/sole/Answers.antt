use Rattle.std.proofs.Common.{ℕ, List, ◌≡◌, ◌∷◌, ◌<◌, sym, subst, ◌∙◌, arith}
use Rattle.std.proofs.lemmas.Option.{same_Some}
use Rattle.resource_dues.proofs.DuesLemmas.{first_same, listed_before, nothing_first, sole_first}
use Rattle.resource_dues.proofs.dues.Dues.sole.Goals as goal
use Rattle.resource_dues.proofs.dues.Dues.sole.Goals.{in_default-via-in-Some+else-second-moment, in_default-via-in_default}

pub returns-in_default : goal.returns-in_default
returns-in_default c number early n is low told =
    let first = c.in_ok-first.first.now in
    let late : (second : ℕ × ℕ) (more : List (ℕ × ℕ)) → c.next.new.self ≡ second ∷ more → c.args.moment < second.0 = elim c.in_default.branch [
      | in_default-via-in-Some+else-second-moment w ↦ (λ second more rest. subst (λ (e : ℕ × ℕ). c.args.moment < e.0) (first_same w.in-Some.second.now second c.next-2.new.self more (sym w.in-Some.ensures.steps ∙ rest)) w.if-second-moment.false)
      | in_default-via-in_default w ↦ (λ second more rest. absurd (nothing_first second more (sym w.in_default.ensures.steps.0 ∙ rest)))
    ] in
    sym (same_Some first.1 number is)
    ∙ sole_first c.args.self.now.moments.keys c.next.new.self first c.args.moment c.iter-entries.ensures.ordered (sym c.iter-entries.ensures.rest ∙ c.in_ok-first.ensures.steps) late early n low
    (listed_before early n c.args.self.now.moments.keys (omega (arith, low)) told)
