use Rattle.std.proofs.Common.{◌≡◌, ◌<◌, ◌≤◌, Bool, List, length, refl, sym, ap, subst, ◌∙◌, arith, rules}
use Rattle.std.proofs.lemmas.Bool.{and_parts}
use Rattle.std.proofs.lemmas.Grind.{common_steps}
use Rattle.later_replies.proofs.RunLemmas.{bounded_all, passed_all, passed_length}
use Rattle.later_replies.specs.Runs.{IsBounded, IsPassed, counted_then}
use Rattle.m2m_value.specs.Spelling.{capped}
use Rattle.accepted_requests.specs.Entries.{LaterEntryData}
use Rattle.accepted_requests.specs.Sizes.{results_size}
use Rattle.journaled_later.proofs.RunLemmas.{recorded_next, recorded_none}
use Rattle.journaled_later.proofs.running.pass_all.Goals as goal

pub pass-requires : goal.pass-requires
pass-requires g c = λ runs. (and_parts _ _ (sym c.is_to_run-is_run.ensures ∙ runs)).0

pub each-init : goal.each-init
each-init g c =
    recorded_none c.args.reading _ c.results_size-kept.result c.args.entries.now.items c.args.entity.now c.args.lines.now.items
    (c.results_size-kept.ensures ∙ ap (λ (l : List LaterEntryData). capped (results_size l)) c.deref.ensures.value)

pub each-preserved : goal.each-preserved
each-preserved g c =
    let so = c.each.invariant in
    let same = passed_length c.args.reading _ c.each.place c.each.kept c.args.entries.now.items c.each.entries.items c.args.entity.now c.each.entity so.passed in
    let within : c.each.place < length c.args.entries.now.items = first_of (omega arith, search rules, grind (arith, common_steps)) in
    let there : c.each.place < length c.each.entries.items = first_of (omega arith, search rules, grind (arith, common_steps)) in
    let r = c.index_mut-entry.result.now in
    let q = c.pass.new.entry in
    recorded_next c.args.reading _ c.each.place c.each.kept c.in_ok-kept.kept c.args.entries.now.items c.each.entries.items _ r q c.args.entity.now c.each.entity c.pass.new.entity
    c.args.lines.now.items c.each.lines.items c.pass.new.lines.items within there so c.index_mut-entry.ensures.value
    (subst (λ (b : Bool). IsPassed c.args.reading (λ e. b) r c.each.entity q c.pass.new.entity) c.is_to_run-is_run.ensures c.in_ok-kept.ensures.passed)
    (subst (λ (b : Bool). IsBounded b c.each.kept r q) c.is_to_run-is_run.ensures c.in_ok-kept.ensures.bounded)
    (subst (λ (b : Bool). c.in_ok-kept.kept ≡ counted_then b c.each.kept q) c.is_to_run-is_run.ensures c.in_ok-kept.ensures.kept)
    c.in_ok-kept.ensures.records refl

pub returns-clause-passed : goal.returns-clause-passed
returns-clause-passed g c =
    let so = c.each.invariant in
    let same = passed_length c.args.reading _ c.each.place c.each.kept c.args.entries.now.items c.each.entries.items c.args.entity.now c.each.entity so.passed in
    let past : length c.args.entries.now.items ≤ c.each.place = first_of (omega arith, search rules, grind (arith, common_steps)) in
    passed_all c.args.reading _ c.each.place c.each.kept c.args.entries.now.items c.each.entries.items c.args.entity.now c.each.entity past so.passed

pub returns-clause-bounded : goal.returns-clause-bounded
returns-clause-bounded g c =
    let so = c.each.invariant in
    let same = passed_length c.args.reading _ c.each.place c.each.kept c.args.entries.now.items c.each.entries.items c.args.entity.now c.each.entity so.passed in
    let past : length c.args.entries.now.items ≤ c.each.place = first_of (omega arith, search rules, grind (arith, common_steps)) in
    bounded_all c.args.reading _ c.each.place c.each.kept c.args.entries.now.items c.each.entries.items c.args.entity.now c.each.entity past so.passed

pub returns-clause-records : goal.returns-clause-records
returns-clause-records g c = λ given. c.each.invariant.records given
