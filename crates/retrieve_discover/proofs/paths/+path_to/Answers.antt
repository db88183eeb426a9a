use Rattle.std.proofs.Common.{◌≡◌, ◌<◌, Some, None, ap, sym, ◌∙◌, rules}
use Rattle.std.proofs.lemmas.Result.{IfOk-weaker}
use Rattle.addressing.specs.Names.{structured_of}
use Rattle.tree_model.specs.Tree.{at}
use Rattle.retrieve_discover.proofs.PathLemmas.{found_itself, parent_smaller, path_child, structured-root}
use Rattle.retrieve_discover.proofs.paths.+path_to.Goals as goal

pub path_to-requires : goal.path_to-requires
path_to-requires g t c κs within =
    let nodes = g.T.Tree.nodes c.args.tree.now in
    let r = c.args.resource.now in
    let p = c.in-Some.parent.now in
    let above : at r.parent nodes ≡ Some p = ap (λ n. at n nodes) (sym c.parent.ensures.value) ∙ sym c.in-Some.ensures.value in
    let less : p.number < r.number = parent_smaller nodes r p c.requires.tree c.requires.resource above in
    let found : at p.number nodes ≡ Some p = found_itself nodes r.parent p above in
    search rules

pub returns-in_ok-go_down-in-Some-clause-value : goal.returns-in_ok-go_down-in-Some-clause-value
returns-in_ok-go_down-in-Some-clause-value g t c =
    let nodes = g.T.Tree.nodes c.args.tree.now in
    let r = c.args.resource.now in
    let p = c.in-Some.parent.now in
    let above : at r.parent nodes ≡ Some p = ap (λ n. at n nodes) (sym c.parent.ensures.value) ∙ sym c.in-Some.ensures.value in
    path_child nodes r p c.in_ok-path-in-Some.path.items c.go_down.new.path.items c.requires.tree c.requires.resource above c.in_ok-path-in-Some.ensures.value c.in_ok-go_down-in-Some.ensures.path

pub returns-in-None-clause-value : goal.returns-in-None-clause-value
returns-in-None-clause-value g t c =
    let nodes = g.T.Tree.nodes c.args.tree.now in
    let r = c.args.resource.now in
    let none : at r.parent nodes ≡ None = ap (λ n. at n nodes) (sym c.parent.ensures.value) ∙ sym c.in-None.ensures.value in
    let is : c.entries.result.now ≡ structured_of r.number nodes = c.entries.ensures ∙ c.name.ensures.value ∙ sym (structured-root nodes r c.requires.tree c.requires.resource none) in
    IfOk-weaker c.from_slice.result (λ p. p.items ≡ c.entries.result.now) (λ p. p.items ≡ structured_of r.number nodes) (λ p same. same ∙ is) c.from_slice.ensures.items
