use Rattle.std.proofs.Common.{IsSome, true≢false, get_or, set, sym, ap, ◌∙◌, subst}
use Rattle.std.specs.List.{insert}
use Rattle.m2m_value.specs.Data.{Entry}
use Rattle.m2m_value.specs.Node.{AreSorted, HaveTextKeys}
use Rattle.m2m_value.specs.View.{IsPlaceOf, IsGapFor}
use Rattle.m2m_value.proofs.Lookup.{member_of-gap, put-place, put-gap, put_sorted, put_texts}
use Rattle.m2m_value.proofs.value.Members.put.Goals as goal

-- the key was there, and its value is written over
pub returns-in-Ok-clause-ok : goal.returns-in-Ok-clause-ok
returns-in-Ok-clause-ok c =
    let e : Entry = c.index_mut.result.now in
    let place = c.in-Ok.place in
    let same = c.index_mut.ensures.value ∙ ap (λ es. get_or es place e) c.self.view_is in
    ap (λ es. set es place (e.0, c.args.value)) c.self.view_is ∙ ap (λ (d : Entry). set c.args.self.now place (d.0, c.args.value)) same
    ∙ sym (put-place c.args.self.now c.args.key c.args.value place e c.in-Ok.ensures.sorted (subst (λ key. IsPlaceOf key c.args.self.now place) c.entries.ensures c.in-Ok.ensures.found))

pub invariant_of-self : goal.invariant_of-self
invariant_of-self c = subst AreSorted (sym (returns-in-Ok-clause-ok c)) (put_sorted c.args.self.now c.args.key c.args.value c.in-Ok.ensures.sorted)

pub returns-in-Ok-clause-texts : goal.returns-in-Ok-clause-texts
returns-in-Ok-clause-texts c texts utf8 = subst HaveTextKeys (sym (returns-in-Ok-clause-ok c)) (put_texts c.args.self.now c.args.key c.args.value texts utf8)

-- the entry goes in the gap
pub returns-in_ok-insert-in-Err-clause-ok : goal.returns-in_ok-insert-in-Err-clause-ok
returns-in_ok-insert-in-Err-clause-ok c =
    let place = c.in-Err.place in
    let e : Entry = (c.args.key, c.args.value) in
    c.in_ok-insert-in-Err.ensures.items ∙ ap (λ es. insert es place e) c.self.view_is ∙ sym (put-gap c.args.self.now c.args.key c.args.value place (subst (λ key. IsGapFor key c.args.self.now place) c.entries.ensures c.in-Err.ensures.absent))

pub invariant_of-self-in-Err : goal.invariant_of-self-in-Err
invariant_of-self-in-Err c = subst AreSorted (sym (returns-in_ok-insert-in-Err-clause-ok c)) (put_sorted c.args.self.now c.args.key c.args.value c.in-Err.ensures.sorted)

pub returns-in_ok-insert-in-Err-clause-texts : goal.returns-in_ok-insert-in-Err-clause-texts
returns-in_ok-insert-in-Err-clause-texts c texts utf8 = subst HaveTextKeys (sym (returns-in_ok-insert-in-Err-clause-ok c)) (put_texts c.args.self.now c.args.key c.args.value texts utf8)

-- a key that is there takes no memory
pub returns-in_err-insert-in-Err-clause-succeeds : goal.returns-in_err-insert-in-Err-clause-succeeds
returns-in_err-insert-in-Err-clause-succeeds c there =
    let gap = subst (λ key. IsGapFor key c.args.self.now c.in-Err.place) c.entries.ensures c.in-Err.ensures.absent in
    absurd (true≢false (sym (subst IsSome (member_of-gap c.args.key c.args.self.now c.in-Err.place gap) there)))
