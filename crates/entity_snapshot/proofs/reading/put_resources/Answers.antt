use Rattle.std.proofs.Common.{◌≡◌, ◌-◌, ℕ, List, length, take, drop, sym, subst, arith}
use Rattle.std.proofs.lemmas.List.{take_rest}
use Rattle.entity_lines.proofs.WrittenLemmas.{said_of_none}
use Rattle.entity_snapshot.proofs.ResourcesLemmas.{put_more, put_none, put_there}
use Rattle.entity_snapshot.proofs.reading.put_resources.Goals as goal
use Rattle.entity_snapshot.specs.Reading.{FitsNone, ReadsResources}

pub loop-done-init : goal.loop-done-init
loop-done-init g c = subst (ReadsResources c.args.text.now c.args.from 0 c.args.from) (sym c.requires.none) (put_none c.args.text.now c.args.from c.requires.within)

pub returns-in_default-clause-fault : goal.returns-in_default-clause-fault
returns-in_default-clause-fault g c = (
  c.loop-done.at,
  record {
    done = c.loop-done.done;
    nodes = g.T.Tree.nodes c.loop-done.tree;
    few = c.loop-done-test.true;
    read = c.loop-done.invariant;
    none = subst (λ (l : List ℕ). FitsNone l (g.T.Tree.nodes c.loop-done.tree)) (take_rest c.args.text.now c.loop-done.at) (said_of_none _ (FitsNone (take (length c.args.text.now - c.loop-done.at) (drop c.loop-done.at c.args.text.now)) (g.T.Tree.nodes c.loop-done.tree)) c.in_default.not-Some c.in_ok-len.ensures.none);
  },
  c.line_number.ensures,
)

pub loop-done-preserved : goal.loop-done-preserved
loop-done-preserved g c =
    let before = g.T.Tree.nodes c.loop-done.tree in
    let after = g.T.Tree.nodes c.put_first.new.tree in
    let puts = put_there c.args.text.now c.loop-done.at _ c.in-Some.len before after c.in-Some.is c.in_ok-len.ensures.put in
    put_more c.args.text.now c.args.from c.loop-done.done c.loop-done.at c.in-Some.len before after c.loop-done.invariant puts

pub returns-clause-read : goal.returns-clause-read
returns-clause-read g c =
    let all : c.loop-done.done ≡ c.args.count = omega (arith, c.loop-done-test.false) in
    subst (λ n. ReadsResources c.args.text.now c.args.from n c.loop-done.at (g.T.Tree.nodes c.loop-done.tree)) all c.loop-done.invariant
