use Rattle.std.proofs.Common.{◌≡◌, ℕ, true, false, ap, sym, ◌∙◌, map, take}
use Rattle.std.proofs.lemmas.Result.{IfOk-weaker}
use Rattle.tree_model.specs.Tree.{has}
use Rattle.tree_model.proofs.TreeLemmas.{at_number, has_from_at}
use Rattle.retrieve_discover.specs.Findings.{address, all_found}
use Rattle.retrieve_discover.proofs.PathLemmas.{found_itself}
use Rattle.retrieve_discover.proofs.discovering.from_target.Goals as goal

pub from_resource-requires-clause-target : goal.from_resource-requires-clause-target
from_resource-requires-clause-target g c = found_itself (g.T.Tree.nodes c.args.wanted.now.tree.now) c.args.target c.in-Some.resource.now (sym c.in-Some.ensures.value)

pub returns-in-Some : goal.returns-in-Some
returns-in-Some g c =
    let w = c.args.wanted.now in
    let nodes = g.T.Tree.nodes w.tree.now in
    let r = c.in-Some.resource.now in
    let same : r.number ≡ c.args.target = at_number c.args.target nodes r (sym c.in-Some.ensures.value) in
    let found = λ (n : ℕ). take w.limit (map (address w.by_id nodes) (all_found w.asker.now.home nodes w.asker.now.originator w.filter.now n)) in
    IfOk-weaker c.from_resource.result (λ v. v.items ≡ found r.number) (λ v. v.items ≡ found c.args.target) (λ v is. is ∙ ap found same) c.from_resource.ensures

pub returns-in-None : goal.returns-in-None
returns-in-None g c =
    let none : has c.args.target (g.T.Tree.nodes c.args.wanted.now.tree.now) ≡ false = has_from_at c.args.target (g.T.Tree.nodes c.args.wanted.now.tree.now) (sym c.in-None.ensures.value) in
    let never : true ≡ false = sym c.requires.resource ∙ none in
    cc
