use Rattle.std.proofs.Common.{◌<◌, ◌≤◌, length, arith, rules}
use Rattle.std.proofs.lemmas.Grind.{common_steps}
use Rattle.later_opening.proofs.SnapshotLemmas.{all_lines, last_of_all, next_unkept, put_all, put_next, put_none}
use Rattle.later_opening.proofs.snapshot.push_entries.Goals as goal

pub each-init : goal.each-init
each-init c = put_none c.args.moment c.args.entries.now c.args.text.now.items

pub each-preserved : goal.each-preserved
each-preserved c =
    let within : c.each.place < length c.args.entries.now = first_of (omega arith, search rules, grind (arith, common_steps)) in
    put_next c.args.moment c.each.place c.args.entries.now c.each.last c.number-last.result c.index-entries-place.result c.args.text.now.items c.each.text.items c.push_entry.new.text.items
    within c.each.invariant c.index-entries-place.is c.number-last.ensures c.in_ok-push_entry.ensures.put

pub returns-clause-put : goal.returns-clause-put
returns-clause-put c = λ e at.
    let past : length c.args.entries.now ≤ c.each.place = first_of (omega arith, search rules, grind (arith, common_steps)) in
    put_all c.args.moment c.each.place c.args.entries.now c.each.last c.args.text.now.items c.each.text.items past c.each.invariant e at

pub returns-clause-lines : goal.returns-clause-lines
returns-clause-lines c =
    let past : length c.args.entries.now ≤ c.each.place = first_of (omega arith, search rules, grind (arith, common_steps)) in
    all_lines c.args.moment c.each.place c.args.entries.now c.each.last c.args.text.now.items c.each.text.items past c.each.invariant

pub returns-clause-last : goal.returns-clause-last
returns-clause-last c =
    let past : length c.args.entries.now ≤ c.each.place = first_of (omega arith, search rules, grind (arith, common_steps)) in
    last_of_all c.args.moment c.each.place c.args.entries.now c.each.last c.args.text.now.items c.each.text.items past c.each.invariant

pub returns-in_err-push_entry-clause-unkept : goal.returns-in_err-push_entry-clause-unkept
returns-in_err-push_entry-clause-unkept c = λ fault given can.
    let within : c.each.place < length c.args.entries.now = first_of (omega arith, search rules, grind (arith, common_steps)) in
    next_unkept c.args.moment c.each.place c.args.entries.now c.each.last c.index-entries-place.result c.args.text.now.items c.each.text.items
    within c.each.invariant c.index-entries-place.is (c.in_err-push_entry.ensures.unkept (search rules)) given can
