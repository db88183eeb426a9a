use Rattle.std.proofs.Common.{◌≡◌, ℕ, ◌+◌, List, [], ◌∷◌, drop, sym, ap, ◌∙◌, arith}
use Rattle.std.specs.Prelude.{slice_index}
use Rattle.std.proofs.lemmas.List.{drop_all, drop_more}
use Rattle.announce_copy.specs.Copies.{copies_of_all}
use Rattle.subscription_match.specs.Notices.{notes_of_all}
use Rattle.tree_model.specs.Changes.{removal_changes}
use Rattle.entity_model.proofs.UnnoticedLemmas.{next_unsent, next_untold}
use Rattle.entity_model.proofs.sweeping.are_unnoticed.Goals as goal

pub loop-number-preserved : goal.loop-number-preserved
loop-number-preserved g c =
    let l = c.loop-number in
    let nodes = g.T.Tree.nodes c.args.tree.now in
    let gone : List ℕ = c.args.gone.now in
    let number : ℕ = slice_index gone l.number-index in
    let rest : List ℕ = drop (l.number-index + 1) gone in
    let split : drop l.number-index gone ≡ number ∷ rest = drop_more gone l.number-index 0 (omega (arith, c.loop-number-test.true)) in
    let unnoticed = c.goes_unnoticed.ensures.unnoticed c.if-not-goes_unnoticed.false in
    record {
      told = λ home going.
          sym (next_untold home nodes going number rest unnoticed)
          ∙ ap (λ (ns : List ℕ). notes_of_all home nodes going (removal_changes nodes ns)) (sym split)
          ∙ l.invariant.told home going;
      sent = λ home.
          sym (next_unsent home nodes number rest unnoticed)
          ∙ ap (λ (ns : List ℕ). copies_of_all home nodes (removal_changes nodes ns)) (sym split)
          ∙ l.invariant.sent home;
      container = c.goes_unnoticed.ensures.container;
    }

pub returns-clause-told : goal.returns-clause-told
returns-clause-told g c t home going =
    let l = c.loop-number in
    let nodes = g.T.Tree.nodes c.args.tree.now in
    let gone : List ℕ = c.args.gone.now in
    let done : drop l.number-index gone ≡ [] = drop_all l.number-index gone (omega (arith, c.loop-number-test.false)) in
    sym (l.invariant.told home going)
    ∙ ap (λ (ns : List ℕ). notes_of_all home nodes going (removal_changes nodes ns)) done

pub returns-clause-sent : goal.returns-clause-sent
returns-clause-sent g c t home =
    let l = c.loop-number in
    let nodes = g.T.Tree.nodes c.args.tree.now in
    let gone : List ℕ = c.args.gone.now in
    let done : drop l.number-index gone ≡ [] = drop_all l.number-index gone (omega (arith, c.loop-number-test.false)) in
    sym (l.invariant.sent home)
    ∙ ap (λ (ns : List ℕ). copies_of_all home nodes (removal_changes nodes ns)) done
