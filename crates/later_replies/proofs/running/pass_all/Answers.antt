use Rattle.std.proofs.Common.{◌≡◌, ◌<◌, ◌≤◌, Bool, List, length, refl, sym, ap, subst, ◌∙◌, arith, rules}
use Rattle.std.proofs.lemmas.Bool.{and_parts}
use Rattle.std.proofs.lemmas.Grind.{common_steps}
use Rattle.later_replies.proofs.RunLemmas.{bounded_all, passed_all, passed_length, passed_next, passed_none}
use Rattle.later_replies.specs.Runs.{IsBounded, IsPassed, counted_then}
use Rattle.m2m_value.specs.Spelling.{capped}
use Rattle.accepted_requests.specs.Entries.{LaterEntryData}
use Rattle.accepted_requests.specs.Sizes.{results_size}
use Rattle.later_replies.proofs.running.pass_all.Goals as goal

pub pass-kept-requires : goal.pass-kept-requires
pass-kept-requires g c = λ runs. (and_parts _ _ (sym c.is_to_run-is_run.ensures ∙ runs)).0

pub each-init : goal.each-init
each-init g c = passed_none c.args.reading _ c.results_size-kept.result c.args.entries.now.items c.args.entity.now (c.results_size-kept.ensures ∙ ap (λ (l : List LaterEntryData). capped (results_size l)) c.deref.ensures.value)

pub each-preserved : goal.each-preserved
each-preserved g c =
    let same = passed_length c.args.reading _ c.each.place c.each.kept c.args.entries.now.items c.each.entries.items c.args.entity.now c.each.entity c.each.invariant in
    let within : c.each.place < length c.args.entries.now.items = first_of (omega arith, search rules, grind (arith, common_steps)) in
    let r = c.index_mut-entry.result.now in
    let q = c.pass-kept.new.entry in
    passed_next c.args.reading _ c.each.place c.each.kept c.pass-kept.result c.args.entries.now.items c.each.entries.items _ r q c.args.entity.now c.each.entity c.pass-kept.new.entity
    within c.each.invariant c.index_mut-entry.ensures.value
    (subst (λ (b : Bool). IsPassed c.args.reading (λ e. b) r c.each.entity q c.pass-kept.new.entity) c.is_to_run-is_run.ensures c.pass-kept.ensures.passed)
    (subst (λ (b : Bool). IsBounded b c.each.kept r q) c.is_to_run-is_run.ensures c.pass-kept.ensures.bounded)
    (subst (λ (b : Bool). c.pass-kept.result ≡ counted_then b c.each.kept q) c.is_to_run-is_run.ensures c.pass-kept.ensures.kept) refl

pub returns-clause-passed : goal.returns-clause-passed
returns-clause-passed g c =
    let same = passed_length c.args.reading _ c.each.place c.each.kept c.args.entries.now.items c.each.entries.items c.args.entity.now c.each.entity c.each.invariant in
    let past : length c.args.entries.now.items ≤ c.each.place = first_of (omega arith, search rules, grind (arith, common_steps)) in
    passed_all c.args.reading _ c.each.place c.each.kept c.args.entries.now.items c.each.entries.items c.args.entity.now c.each.entity past c.each.invariant

pub returns-clause-bounded : goal.returns-clause-bounded
returns-clause-bounded g c =
    let same = passed_length c.args.reading _ c.each.place c.each.kept c.args.entries.now.items c.each.entries.items c.args.entity.now c.each.entity c.each.invariant in
    let past : length c.args.entries.now.items ≤ c.each.place = first_of (omega arith, search rules, grind (arith, common_steps)) in
    bounded_all c.args.reading _ c.each.place c.each.kept c.args.entries.now.items c.each.entries.items c.args.entity.now c.each.entity past c.each.invariant
