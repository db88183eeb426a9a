use Rattle.std.proofs.Common.{◌≡◌, ℕ, List, Option, IfOk, subst, map, ◌∙◌, sym, Global, Vec}
use Rattle.std.specs.Option.{option_copied}
use Rattle.attribute_rules.specs.declared.faults.AttrFault.{AttrFault}
use Rattle.refusal_reasons.specs.Causes.{causes}
use Rattle.refusal_reasons.specs.Texts.{alternatives, told_of}
use Rattle.refusal_reasons.specs.declared.cause.Cause.{Cause}
use Rattle.refusal_reasons.proofs.telling.reason_of.Goals as goal

pub returns : goal.returns
returns c =
    subst (λ (fault : Option AttrFault). IfOk c.told_of.result (λ (text : Vec ℕ Global). text.items
    ≡ alternatives (map (told_of fault) (causes c.args.home.now c.args.request c.args.code))))
    (c.as_ref.ensures.value ∙ c.in_ok-fault.ensures)
    (subst (λ (cs : List Cause). IfOk c.told_of.result (λ (text : Vec ℕ Global). text.items
    ≡ alternatives (map (told_of (option_copied c.as_ref.result)) cs)))
    (c.deref.ensures.value ∙ c.in_ok-causes.ensures) c.told_of.ensures)
