use Rattle.std.proofs.Common.{◌≡◌, ◌-◌, ℕ, List, Option, Some, None, IfNone, false, drop, length, take, sym, ap, refl, ◌∙◌, arith, subst}
use Rattle.std.proofs.lemmas.List.{take_rest}
use Rattle.journal_file.specs.Gates.{is_shut}
use Rattle.journal_lines.specs.Lines.{first_deed}
use Rattle.journal_opening.proofs.PlayLemmas.{halts_at, halts_by, plays_more, plays_none, plays_some, some_first}
use Rattle.journal_opening.proofs.playing.play_lines.Goals as goal

pub deeds-init : goal.deeds-init
deeds-init g c = record { within = c.requires; plays = plays_none c.args.bytes.now c.args.from c.args.entity.now c.requires }

pub deeds-preserved : goal.deeds-preserved
deeds-preserved g c =
    let bytes = c.args.bytes.now in
    let first = some_first bytes c.deeds.at _ c.in-Some.len c.deeds.entity c.play_first.new.entity c.in-Some.is c.in_ok-len.ensures.played in
    let some = plays_some bytes c.deeds.at c.in-Some.len c.deeds.entity c.play_first.new.entity c.deeds.invariant.within first in
    record {
      within = some.1;
      plays = plays_more bytes c.args.from c.deeds.at c.in-Some.len c.args.entity.now c.deeds.entity c.play_first.new.entity c.deeds.invariant.plays first;
    }

pub deeds-smaller : goal.deeds-smaller
deeds-smaller g c =
    let bytes = c.args.bytes.now in
    let first = some_first bytes c.deeds.at _ c.in-Some.len c.deeds.entity c.play_first.new.entity c.in-Some.is c.in_ok-len.ensures.played in
    let some = plays_some bytes c.deeds.at c.in-Some.len c.deeds.entity c.play_first.new.entity c.deeds.invariant.within first in
    omega (arith, some.0, some.1)

-- what holds where nothing is there
none_said : {A : Type 0} (o : Option A) (P : Type 0) → ((a : A) → o ≡ Some a → ⊥) → IfNone o P → P
none_said None P other said = said
none_said (Some a) P other said = absurd (other a refl)

-- no deed stands there
pub returns-in_default-clause-fault : goal.returns-in_default-clause-fault
returns-in_default-clause-fault g c =
    let bytes = c.args.bytes.now in
    let at = c.deeds.at in
    let there : List ℕ = take (length bytes - at) (drop at bytes) in
    let rest : there ≡ drop at bytes = take_rest bytes at in
    let counts : is_shut (drop at bytes) ≡ false = ap is_shut (sym rest) ∙ sym c.is_shut.ensures ∙ c.deeds-test.true in
    let none : first_deed there ≡ None = none_said _ (first_deed there ≡ None) c.in_default.not-Some c.in_ok-len.ensures.none in
    halts_by bytes c.args.from at c.fault_at.result
    (halts_at bytes c.args.from at c.args.entity.now c.deeds.entity c.deeds.invariant.plays counts
    (subst (λ (l : List ℕ). first_deed l ≡ None) rest none)) c.fault_at.ensures
