use Rattle.std.proofs.Common.{◌≡◌, ◌-◌, ℕ, List, None, false, drop, length, take, sym, ap, ◌∙◌, arith, subst}
use Rattle.std.proofs.lemmas.List.{take_rest}
use Rattle.journal_file.specs.Gates.{is_shut}
use Rattle.later_opening.proofs.PlayLemmas.{halts_at, halts_by, none_said, plays_more, plays_none, plays_some, some_first}
use Rattle.later_opening.specs.Playing.{first_fitting}
use Rattle.later_opening.proofs.playing.play_acts.Goals as goal

pub acts-init : goal.acts-init
acts-init g c = record { within = c.requires.from; plays = plays_none c.args.bytes.now c.args.from c.args.entity.now c.args.requests.now c.requires.none c.requires.from }

pub acts-preserved : goal.acts-preserved
acts-preserved g c =
    let bytes = c.args.bytes.now in
    let first = some_first bytes c.acts.at _ c.in-Some.len c.acts.entity c.acts.requests c.play_first.new.entity c.play_first.new.requests c.in-Some.is c.in_ok-len.ensures.played in
    let some = plays_some bytes c.acts.at c.in-Some.len c.acts.entity c.acts.requests c.play_first.new.entity c.play_first.new.requests c.acts.invariant.within first in
    record {
      within = some.1;
      plays = plays_more bytes c.args.from c.acts.at c.in-Some.len c.args.entity.now c.acts.entity c.play_first.new.entity c.acts.requests c.play_first.new.requests c.acts.invariant.plays first;
    }

pub acts-smaller : goal.acts-smaller
acts-smaller g c =
    let bytes = c.args.bytes.now in
    let first = some_first bytes c.acts.at _ c.in-Some.len c.acts.entity c.acts.requests c.play_first.new.entity c.play_first.new.requests c.in-Some.is c.in_ok-len.ensures.played in
    let some = plays_some bytes c.acts.at c.in-Some.len c.acts.entity c.acts.requests c.play_first.new.entity c.play_first.new.requests c.acts.invariant.within first in
    omega (arith, some.0, some.1)

-- no act that fits stands there
pub returns-in_default-clause-fault : goal.returns-in_default-clause-fault
returns-in_default-clause-fault g c =
    let bytes = c.args.bytes.now in
    let at = c.acts.at in
    let there : List ℕ = take (length bytes - at) (drop at bytes) in
    let rest : there ≡ drop at bytes = take_rest bytes at in
    let counts : is_shut (drop at bytes) ≡ false = ap is_shut (sym rest) ∙ sym c.is_shut.ensures ∙ c.acts-test.true in
    let none : first_fitting c.acts.entity.last c.acts.requests there ≡ None = none_said _ (first_fitting c.acts.entity.last c.acts.requests there ≡ None) c.in_default.not-Some c.in_ok-len.ensures.none in
    halts_by c.args.entity.now bytes c.args.from at c.fault_at.result
    (halts_at bytes c.args.from at c.args.entity.now c.acts.entity c.acts.requests c.acts.invariant.plays counts
    (subst (λ (l : List ℕ). first_fitting c.acts.entity.last c.acts.requests l ≡ None) rest none)) c.fault_at.ensures
