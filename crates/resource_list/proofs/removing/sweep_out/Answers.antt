use Rattle.std.proofs.Common.{◌≡◌, ◌<◌, List, take, drop, length, sym, ap, ◌∙◌, subst, arith}
use Rattle.resource_model.specs.Resource.{ResourceData}
use Rattle.resource_list.specs.Removal.{picks_of}
use Rattle.tree_model.specs.Tree.{stays, AreAscending}
use Rattle.tree_model.proofs.GrowthLemmas.{ascending_from_tree}
use Rattle.resource_list.proofs.RemovalLemmas.{picked_stays}
use Rattle.resource_list.proofs.SweepLemmas.{ascending_front, swept_start, swept_keep, swept_skip}
use Rattle.resource_list.proofs.removing.sweep_out.Goals as goal
use Rattle.resource_list.proofs.removing.sweep_out.Goals.{then-does_stay, else-does_stay}

pub does_stay-requires-clause-order : goal.does_stay-requires-clause-order
does_stay-requires-clause-order c =
    subst (λ (nodes : List ResourceData). AreAscending (take c.loop-at.stayed nodes)) (sym c.deref.ensures.value)
    (ascending_front (take c.loop-at.stayed c.loop-at.resources.items) (drop c.loop-at.at c.loop-at.resources.items) c.loop-at.invariant.order)

pub loop-at-init : goal.loop-at-init
loop-at-init c = swept_start (picks_of c.args.removal c.args.resources.now.items) c.args.resources.now.items (ascending_from_tree c.args.resources.now.items c.requires.tree)

pub loop-at-preserved : goal.loop-at-preserved
loop-at-preserved c =
    let all = c.args.resources.now.items in
    let inside : c.loop-at.at < length c.loop-at.resources.items = omega (arith, c.loop-at.invariant.len, c.loop-at-test.true, c.len-at-end.ensures) in
    let seen : c.does_stay.result ≡ stays (picks_of c.args.removal (take c.loop-at.stayed c.loop-at.resources.items)) (take c.loop-at.stayed c.loop-at.resources.items) c.index.result.now =
    c.does_stay.ensures ∙ ap (λ (nodes : List ResourceData). stays (picks_of c.args.removal (take c.loop-at.stayed nodes)) (take c.loop-at.stayed nodes) c.index.result.now) c.deref.ensures.value in
    let test : c.does_stay.result ≡ stays (picks_of c.args.removal all) (take c.loop-at.stayed c.loop-at.resources.items) c.index.result.now =
    seen ∙ picked_stays c.args.removal all c.loop-at.resources.items c.loop-at.stayed c.loop-at.at c.index.result.now c.requires.tree c.loop-at.invariant in
    elim c.if-does_stay.branch [
      | then-does_stay w ↦ rw (w.resources-is, w.stayed-is) (swept_keep (picks_of c.args.removal all) all c.loop-at.resources.items c.loop-at.stayed c.loop-at.at c.index.result.now w.swap.new.self.items c.loop-at.invariant inside c.index.ensures (sym test ∙ w.if-does_stay.true) (w.swap.ensures.by_index.3 c.index.result.now))
      | else-does_stay w ↦ rw (w.resources-is, w.stayed-is) (swept_skip (picks_of c.args.removal all) all c.loop-at.resources.items c.loop-at.stayed c.loop-at.at c.index.result.now c.loop-at.invariant inside c.index.ensures (sym test ∙ w.if-does_stay.false))
    ]
