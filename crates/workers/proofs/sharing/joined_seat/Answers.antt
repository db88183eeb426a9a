use Rattle.std.proofs.Common.{◌≡◌, ◌∷◌, ◌++◌, [], length, rules, sym, ap, subst, ◌∙◌, append-nil, arith}
use Rattle.std.specs.List.{All}
use Rattle.std.specs.Vec.Iter.{into_iter_items}
use Rattle.std.proofs.lemmas.List.Elements.{All-head, All-tail}
use Rattle.turn_desk.specs.Seats.{known_to}
use Rattle.workers.specs.Jobs.{known_to_all, IsSeatedAt, AreSeated, IsClosedAt}
use Rattle.workers.specs.Shares.{AddUpTo, all_own}
use Rattle.workers.proofs.SharesLemmas.{on_self, on_on, on_joined, add_join, nothing_left, Sees, sees_joined, sees_all, own_joined}
use Rattle.workers.proofs.sharing.joined_seat.Goals as goal

pub loop-job-init : goal.loop-job-init
loop-job-init g c =
    let items = c.into_iter-job-iterator.ensures.into_iter_gives.0 in (
      c.requires.seat,
      subst (AreSeated g.O.Object.step c.args.desk.now.table.shared.table_id) (sym items) c.requires.jobs,
      subst (All IsClosedAt) (sym items) c.requires.closed,
      subst (λ l. Sees (known_to c.args.seat) (known_to_all l) (known_to_all c.args.jobs.items)) (sym items) (λ seen on all. all),
      ap (λ l. (known_to c.args.seat).own ++ all_own (known_to_all l)) items,
      on_self _,
      λ others v a. subst (λ l. AddUpTo v (known_to c.args.seat ∷ (known_to_all l ++ others))) (sym items) a,
      search rules,
    )

pub join-requires-clause-first : goal.join-requires-clause-first
join-requires-clause-first g c = c.loop-job.invariant.0

pub join-requires-clause-second : goal.join-requires-clause-second
join-requires-clause-second g c =
    let all = subst (AreSeated g.O.Object.step c.args.desk.now.table.shared.table_id) c.in-Some.ensures.steps.0 c.loop-job.invariant.1 in
    All-head (IsSeatedAt g.O.Object.step c.args.desk.now.table.shared.table_id) _ _ all

pub loop-job-preserved : goal.loop-job-preserved
loop-job-preserved g c =
    let at = c.loop-job in
    let steps = c.in-Some.ensures.steps.0 in
    let all = subst (AreSeated g.O.Object.step c.args.desk.now.table.shared.table_id) steps at.invariant.1 in
    let j = c.in-Ok.ensures.joined in (
      c.in-Ok.ensures.seat,
      All-tail (IsSeatedAt g.O.Object.step c.args.desk.now.table.shared.table_id) _ _ all,
      All-tail IsClosedAt _ _ (subst (All IsClosedAt) steps at.invariant.2),
      sees_joined (known_to_all (into_iter_items c.next.new.self)) (known_to_all c.args.jobs.items) j (subst (λ l. Sees (known_to at.all) (known_to_all l) (known_to_all c.args.jobs.items)) steps at.invariant.3),
      own_joined (known_to_all (into_iter_items c.next.new.self)) j (sym (ap (λ l. (known_to at.all).own ++ all_own (known_to_all l)) steps) ∙ at.invariant.4),
      on_on _ _ _ at.invariant.5 (on_joined _ _ _ j),
      λ others v a. add_join v _ _ _ _ j (subst (λ l. AddUpTo v (known_to at.all ∷ (known_to_all l ++ others))) steps (at.invariant.6 others v a)),
      let was = at.invariant.7 in
          let gone = c.in-Some.ensures.steps.1 in
          let short = ap length steps in
          omega arith,
    )

pub returns-clause-seen : goal.returns-clause-seen
returns-clause-seen g c =
    let at = c.loop-job in
    let none = c.in-None.ensures.steps in
    let empty : into_iter_items at.job-iterator ≡ [] = nothing_left _ (sym at.invariant.7 ∙ none.0) in
    sees_all (known_to at.all) (known_to_all c.args.jobs.items) (subst (λ l. Sees (known_to at.all) (known_to_all l) (known_to_all c.args.jobs.items)) empty at.invariant.3)

pub returns-clause-own : goal.returns-clause-own
returns-clause-own g c =
    let at = c.loop-job in
    let none = c.in-None.ensures.steps in
    let empty : into_iter_items at.job-iterator ≡ [] = nothing_left _ (sym at.invariant.7 ∙ none.0) in
    sym (append-nil (known_to at.all).own)
    ∙ sym (ap (λ l. (known_to at.all).own ++ all_own (known_to_all l)) empty) ∙ at.invariant.4

pub returns-clause-parts : goal.returns-clause-parts
returns-clause-parts g c =
    let at = c.loop-job in
    let none = c.in-None.ensures.steps in
    let empty : into_iter_items at.job-iterator ≡ [] = nothing_left _ (sym at.invariant.7 ∙ none.0) in
    λ others v a. subst (λ l. AddUpTo v (known_to at.all ∷ (known_to_all l ++ others))) empty (at.invariant.6 others v a)
