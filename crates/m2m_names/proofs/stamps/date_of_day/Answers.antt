use Rattle.std.proofs.Common.{◌≡◌, pos, ◌+ℤ◌, ◌∙◌, ap, arith, to_z, w64}
use Rattle.std.proofs.lemmas.Int.{ints}
use Rattle.jiff.specs.Words.{epoch_day, IsEpochDay}
use Rattle.jiff.proofs.SpanFacts.{signed_arith}
use Rattle.m2m_names.proofs.CalendarLemmas.{jiff_start}
use Rattle.m2m_names.proofs.stamps.date_of_day.Goals as goal

pub unwrap-requires : goal.unwrap-requires
unwrap-requires c =
    let start : epoch_day c.to_plain-first.result ≡ pos 0 = ap epoch_day c.to_plain-first.ensures ∙ jiff_start c.date.result c.date.ensures in
    let same : to_z w64 c.args.day ≡ pos c.args.day = omega (arith, ints) in
    let there : IsEpochDay (epoch_day c.to_plain-first.result +ℤ pos c.args.day) = rw start (omega (arith, signed_arith), omega (arith, signed_arith)) in
    c.checked_add.ensures.succeeds.1 (rw same there)

pub returns : goal.returns
returns c =
    let start : epoch_day c.to_plain-first.result ≡ pos 0 = ap epoch_day c.to_plain-first.ensures ∙ jiff_start c.date.result c.date.ensures in
    let same : to_z w64 c.args.day ≡ pos c.args.day = omega (arith, ints) in
    let value = rw c.unwrap.ensures at c.checked_add.ensures.value in
    ap epoch_day c.from_plain.ensures ∙ value ∙ rw (same, start) (omega (arith, signed_arith))
