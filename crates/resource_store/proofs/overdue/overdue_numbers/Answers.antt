use Rattle.std.proofs.Common.{◌≡◌, ◌++◌, ◌+◌, ℕ, Bool, List, [], drop, get_or, not, sym, ap, ◌∙◌, arith, append-nil}
use Rattle.std.proofs.lemmas.List.{drop_all, drop_more}
use Rattle.std.specs.List.{filter}
use Rattle.m2m_value.proofs.Begins.{on_err}
use Rattle.resource_model.specs.Resource.{ResourceData}
use Rattle.tree_model.specs.Tree.{has, live, numbers_of, overdue_numbers}
use Rattle.resource_store.proofs.KnownLemmas.{knows}
use Rattle.resource_store.proofs.NextLemmas.{over_some, over_turn, picked_at}
use Rattle.resource_store.proofs.overdue.overdue_numbers.Goals as goal

pub loop-number-init : goal.loop-number-init
loop-number-init c =
    let goes : ResourceData → Bool = λ r. not (has r.number (live c.args.moment c.args.store.now)) in
    ap (λ (ns : List ℕ). ns ++ picked_at goes c.args.store.now c.numbers-number-items.result.now) c.new-overdue.ensures.items
    ∙ ap (λ (rs : List ResourceData). numbers_of (filter goes rs)) c.numbers-number-items.ensures

pub loop-number-preserved : goal.loop-number-preserved
loop-number-preserved c =
    let goes : ResourceData → Bool = λ r. not (has r.number (live c.args.moment c.args.store.now)) in
    let ns : List ℕ = c.numbers-number-items.result.now in
    let rest : List ℕ = drop (c.loop-number.number-index + 1) ns in
    let split = drop_more ns c.loop-number.number-index 0 (omega (arith, c.loop-number-test.true)) in
    over_turn goes c.args.store.now (get_or ns c.loop-number.number-index 0) (drop c.loop-number.number-index ns) rest c.loop-number.overdue.items c.push_if_overdue.new.overdue.items (overdue_numbers c.args.moment c.args.store.now) split c.loop-number.invariant c.in_ok-push_if_overdue.ensures.ok

pub returns-in_err-push_if_overdue-clause-memory : goal.returns-in_err-push_if_overdue-clause-memory
returns-in_err-push_if_overdue-clause-memory c =
    let goes : ResourceData → Bool = λ r. not (has r.number (live c.args.moment c.args.store.now)) in
    let ns : List ℕ = c.numbers-number-items.result.now in
    let rest : List ℕ = drop (c.loop-number.number-index + 1) ns in
    let split = drop_more ns c.loop-number.number-index 0 (omega (arith, c.loop-number-test.true)) in
    on_err c.from_residual.result _ (over_some goes c.args.store.now (get_or ns c.loop-number.number-index 0) (drop c.loop-number.number-index ns) rest c.loop-number.overdue.items (overdue_numbers c.args.moment c.args.store.now) split c.loop-number.invariant c.in_err-push_if_overdue.ensures.memory)

pub returns-clause-value : goal.returns-clause-value
returns-clause-value c =
    let goes : ResourceData → Bool = λ r. not (has r.number (live c.args.moment c.args.store.now)) in
    let ns : List ℕ = c.numbers-number-items.result.now in
    let none : drop c.loop-number.number-index ns ≡ [] = drop_all c.loop-number.number-index ns (omega (arith, c.loop-number-test.false)) in
    sym (append-nil c.loop-number.overdue.items)
    ∙ ap (λ (ms : List ℕ). c.loop-number.overdue.items ++ picked_at goes c.args.store.now ms) (sym none)
    ∙ c.loop-number.invariant

pub push_if_overdue-requires : goal.push_if_overdue-requires
push_if_overdue-requires c = λ tree r found.
    let ns : List ℕ = c.numbers-number-items.result.now in
    let split = drop_more ns c.loop-number.number-index 0 (omega (arith, c.loop-number-test.true)) in
    knows c.args.store.now c.args.moment tree ns c.loop-number.overdue.items (drop (c.loop-number.number-index + 1) ns) c.loop-number.number-index (get_or ns c.loop-number.number-index 0) r c.numbers-number-items.ensures split c.loop-number.invariant found
