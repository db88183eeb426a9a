use Rattle.std.proofs.Common.{get_or, set, Some, sym, ap, ◌∙◌, subst}
use Rattle.m2m_value.specs.Data.{Data, Entry, null}
use Rattle.m2m_value.specs.Node.{AreSorted}
use Rattle.m2m_value.proofs.Lookup.{member_of-present, member_of-gap, put-place, put_sorted}
use Rattle.m2m_value.proofs.value.Members.take.Goals as goal

pub returns-in-Ok-clause-value : goal.returns-in-Ok-clause-value
returns-in-Ok-clause-value c =
    let e : Entry = c.index_mut.result.now in
    let at = c.in-Ok.ensures.found in
    let here = member_of-present c.args.key.now c.args.self.now c.in-Ok.place e c.in-Ok.ensures.sorted at.0 (at.1 e) in
    ap Some c.replace.ensures.value ∙ ap (λ (d : Entry). Some d.1) (c.index_mut.ensures.value ∙ ap (λ es. get_or es c.in-Ok.place e) c.self.view_is) ∙ sym here

pub returns-in-Ok-clause-taken : goal.returns-in-Ok-clause-taken
returns-in-Ok-clause-taken c =
    let e : Entry = c.index_mut.result.now in
    let place = c.in-Ok.place in
    let same = c.index_mut.ensures.value ∙ ap (λ es. get_or es place e) c.self.view_is in
    ap (λ (d : Data). set c.self.inside.entries.items place (e.0, d)) (c.replace.ensures.after ∙ c.null.ensures)
    ∙ ap (λ es. set es place (e.0, null)) c.self.view_is
    ∙ ap (λ (d : Entry). set c.args.self.now place (d.0, null)) same
    ∙ sym (put-place c.args.self.now c.args.key.now null place e c.in-Ok.ensures.sorted c.in-Ok.ensures.found)

pub invariant_of-self : goal.invariant_of-self
invariant_of-self c = subst AreSorted (sym (returns-in-Ok-clause-taken c)) (put_sorted c.args.self.now c.args.key.now null c.in-Ok.ensures.sorted)

pub returns-in-Err-clause-value : goal.returns-in-Err-clause-value
returns-in-Err-clause-value c = sym (member_of-gap c.args.key.now c.args.self.now _ c.in-Err.ensures.absent)
