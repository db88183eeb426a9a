use Rattle.std.proofs.Common.{◌≡◌, ◌<◌, ◌≤◌, length, get_or, set, sym, ap, ◌∙◌, arith}
use Rattle.std.specs.List.{position_or_len}
use Rattle.accepted_requests.specs.Entries.{LaterEntryData, does_wait}
use Rattle.later_opening.proofs.MakingLemmas.{does_wait_at, ran_at, ran_nowhere, waits_at}
use Rattle.later_opening.specs.Making.{waits_as, with_result}
use Rattle.later_opening.proofs.making.keep_ran.Goals as goal

pub keep_result-requires : goal.keep_result-requires
keep_result-requires c =
    let n = c.args.number in
    let es = c.args.entries.now.items in
    let e = c.index_mut-entry.result.now in
    let place : c.place_of-place.result ≡ position_or_len (waits_as n) es = c.place_of-place.ensures.value ∙ ap (position_or_len (waits_as n)) c.deref.ensures.value in
    let within : position_or_len (waits_as n) es < length es = omega (arith, place, c.if-place-len.true, c.len.ensures, c.args.entries.now.ok.0) in
    let there : e ≡ get_or es (position_or_len (waits_as n) es) e = c.index_mut-entry.ensures.value ∙ ap (λ p. get_or es p e) place in
    ap does_wait there ∙ does_wait_at n (get_or es (position_or_len (waits_as n) es) e) (waits_at n es e within)

pub returns-then-place-len : goal.returns-then-place-len
returns-then-place-len c =
    let n = c.args.number in
    let es = c.args.entries.now.items in
    let e = c.index_mut-entry.result.now in
    let place : c.place_of-place.result ≡ position_or_len (waits_as n) es = c.place_of-place.ensures.value ∙ ap (position_or_len (waits_as n)) c.deref.ensures.value in
    let within : position_or_len (waits_as n) es < length es = omega (arith, place, c.if-place-len.true, c.len.ensures, c.args.entries.now.ok.0) in
    let there : e ≡ get_or es (position_or_len (waits_as n) es) e = c.index_mut-entry.ensures.value ∙ ap (λ p. get_or es p e) place in
    ap (λ (x : LaterEntryData). set es c.place_of-place.result x) (c.keep_result.ensures ∙ ap (with_result c.args.reply) there)
    ∙ ap (λ p. set es p (with_result c.args.reply (get_or es (position_or_len (waits_as n) es) e))) place
    ∙ sym (ran_at n c.args.reply es e within)

pub returns-else-place-len : goal.returns-else-place-len
returns-else-place-len c =
    let n = c.args.number in
    let es = c.args.entries.now.items in
    let place : c.place_of-place.result ≡ position_or_len (waits_as n) es = c.place_of-place.ensures.value ∙ ap (position_or_len (waits_as n)) c.deref.ensures.value in
    let past : length es ≤ position_or_len (waits_as n) es = omega (arith, place, c.if-place-len.false, c.len.ensures, c.args.entries.now.ok.0) in
    sym (ran_nowhere n c.args.reply es past)
