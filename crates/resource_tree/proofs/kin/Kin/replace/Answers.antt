use Rattle.std.proofs.Common.{refl, sym, ◌∙◌}
use Rattle.resource_tree.proofs.IndexLemmas.{kin_still, kin-replaced, sums_forgotten}
use Rattle.resource_tree.proofs.kin.Kin.replace.Goals as goal

pub returns-then-is : goal.returns-then-is
returns-then-is c =
    let nodes = c.args.list.now in
    let r = c.args.resource.now in
    let kin = c.args.self.now in
    kin-replaced nodes r c.requires.stood kin _ c.requires.kin refl refl refl refl (sums_forgotten nodes r c.requires.stood kin.sums c.forget_sum.new.sums c.parent.result c.parent.ensures.value c.requires.kin.sums c.forget_sum.ensures)

pub returns-else-is : goal.returns-else-is
returns-else-is c = kin_still c.args.list.now c.args.resource.now c.requires.stood c.args.self.now c.requires.kin (sym c.is.ensures ∙ c.if-is.false)
