use Rattle.std.proofs.Common.{◌≡◌, ℕ, ap, ◌∙◌, map, take}
use Rattle.std.proofs.lemmas.List.{take-map}
use Rattle.std.proofs.lemmas.Result.{IfOk-weaker}
use Rattle.retrieve_discover.specs.Findings.{address, all_found, found, most_of}
use Rattle.retrieve_discover.proofs.discovering.addresses_for.Goals as goal

pub returns : goal.returns
returns g c =
    let nodes = g.T.Tree.nodes c.args.tree.now in
    let a = c.args.asker.now in
    let show = address c.args.by_id nodes in
    let all = all_found a.home nodes a.originator c.args.asked.now c.args.target in
    let same = ap (λ (n : ℕ). take n (map show all)) (c.limit.ensures ∙ ap most_of c.filter.ensures) ∙ take-map show _ all in
    IfOk-weaker c.from_target.result (λ v. v.items ≡ take c.limit.result (map show all)) (λ v. v.items ≡ map show (found a.home nodes a.originator c.args.asked.now c.args.target)) (λ v is. is ∙ same) c.from_target.ensures
