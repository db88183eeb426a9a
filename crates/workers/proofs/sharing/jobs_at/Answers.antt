use Rattle.std.proofs.Common.{◌≡◌, ◌∷◌, ◌++◌, [], refl, sym, ap, ◌∙◌, subst, map, append-nil, length, rules, arith}
use Rattle.std.specs.List.{All}
use Rattle.std.proofs.lemmas.List.Elements.{All-nil, All-same, All-push}
use Rattle.std.specs.Vec.Iter.{into_iter_items}
use Rattle.turn_desk.specs.Seats.{known_to}
use Rattle.workers.specs.Jobs.{known_to_all, bench_of, IsSeatedAt, AreSeated}
use Rattle.workers.specs.Shares.{AddUpTo, HasNone}
use Rattle.workers.proofs.SharesLemmas.{on_self, on_split, add_alone, jobs_more, nothing_left}
use Rattle.workers.proofs.JobsLemmas.{benches_more, fresh_more}
use Rattle.workers.proofs.sharing.jobs_at.Goals as goal

pub loop-bench-init : goal.loop-bench-init
loop-bench-init g c =
    let made = c.in-Ok.ensures in
    let none = sym made.items in
    let gives = c.into_iter-bench-iterator.ensures.into_iter_gives in
    let start = made.len in
    let room = made.capacity in
    let many = gives.1 in (
      c.requires,
      subst (AreSeated g.O.Object.step c.args.desk.now.table.shared.table_id) none (All-nil _),
      on_self _,
      refl,
      subst (λ l. map bench_of l ++ into_iter_items c.into_iter-bench-iterator.result ≡ c.args.benches.items) none gives.0,
      subst (λ l. All HasNone (known_to_all l)) none (All-nil HasNone),
      subst (λ l. AddUpTo (known_to c.args.seat) (known_to c.args.seat ∷ known_to_all l)) none (add_alone _ c.requires.1.whole),
      omega arith,
      search rules,
    )

pub split_job-kept-requires : goal.split_job-kept-requires
split_job-kept-requires g c = c.loop-bench.invariant.0

pub loop-bench-preserved : goal.loop-bench-preserved
loop-bench-preserved g c =
    let at = c.loop-bench in
    let halves = c.split_job-kept.ensures in
    let pushed = c.push_reserved.ensures in
    let one = pushed.len in
    let room = pushed.capacity in
    let steps = c.in-Some.ensures.steps in
    let gone = steps.1 in
    let was = at.invariant.7 in (
      halves.seat,
      All-same (IsSeatedAt g.O.Object.step c.args.desk.now.table.shared.table_id) _ _ pushed.items
          (All-push (IsSeatedAt g.O.Object.step c.args.desk.now.table.shared.table_id) _ _ at.invariant.1 halves.job),
      on_split at.invariant.2 halves.first,
      ap (λ v. v.own) halves.first ∙ at.invariant.3,
      benches_more at.jobs.items c.split_job-kept.result.1 pushed.items halves.bench steps.0 at.invariant.4,
      fresh_more at.jobs.items c.split_job-kept.result.1 (known_to at.mine) pushed.items halves.second at.invariant.5,
      jobs_more _ _ _ _ pushed.items at.invariant.6 halves.first halves.second,
      omega arith,
      let len = at.invariant.8 in
          let short = ap length steps.0 in
          omega arith,
    )

pub returns-clause-benches : goal.returns-clause-benches
returns-clause-benches g c =
    let at = c.loop-bench in
    let none = c.in-None.ensures.steps in
    let empty : into_iter_items at.bench-iterator ≡ [] = nothing_left _ (sym at.invariant.8 ∙ none.0) in
    sym (append-nil (map bench_of at.jobs.items)) ∙ sym (ap (λ l. map bench_of at.jobs.items ++ l) empty) ∙ at.invariant.4
