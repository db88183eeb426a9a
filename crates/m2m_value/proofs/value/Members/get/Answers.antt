use Rattle.std.proofs.Common.{get_or, Some, sym, ap, ◌∙◌}
use Rattle.m2m_value.specs.Data.{Entry}
use Rattle.m2m_value.proofs.Lookup.{member_of-present, member_of-gap}
use Rattle.m2m_value.proofs.value.Members.get.Goals as goal

pub returns-in-Ok : goal.returns-in-Ok
returns-in-Ok c =
    let e : Entry = c.index.result.now in
    let at = c.in-Ok.ensures.found in
    let here = member_of-present c.args.key.now c.args.self.now c.in-Ok.place e c.in-Ok.ensures.sorted at.0 (at.1 e) in
    ap (λ (d : Entry). Some d.1) (c.index.ensures ∙ ap (λ es. get_or es c.in-Ok.place e) c.self.view_is) ∙ sym here

pub returns-in-Err : goal.returns-in-Err
returns-in-Err c = sym (member_of-gap c.args.key.now c.args.self.now _ c.in-Err.ensures.absent)
