use Rattle.std.proofs.Common.{◌<◌, ◌≤◌, ◌+◌, ◌-◌, ◌^◌, length, min, ap, arith, rules, ◌∙◌}
use Rattle.std.proofs.lemmas.Grind.{common_steps}
use Rattle.accepted_requests.proofs.SizeLemmas.{sized_all, sized_next, sized_none}
use Rattle.accepted_requests.proofs.list.results_size.Goals as goal

pub each-init : goal.each-init
each-init c = sized_none c.args.entries.now

pub each-preserved : goal.each-preserved
each-preserved c =
    let within : c.each.place < length c.args.entries.now = first_of (omega arith, search rules, grind (arith, common_steps)) in
    sized_next c.each.place c.each.kept c.saturating_add-kept.result c.args.entries.now c.index-entries-place.result within c.each.invariant c.index-entries-place.is
    (c.saturating_add-kept.ensures ∙ ap (λ n. min (c.each.kept + n) (2 ^ 64 - 1)) c.result_size.ensures)

pub returns : goal.returns
returns c =
    let past : length c.args.entries.now ≤ c.each.place = first_of (omega arith, search rules, grind (arith, common_steps)) in
    sized_all c.each.place c.each.kept c.args.entries.now past c.each.invariant
