use Rattle.std.proofs.Common.{Ok, Err, sym, rules}
use Rattle.std.proofs.lemmas.Fn.{always_returns_same}
use Rattle.std.specs.Cmp.Lexicographic.{slice_cmp}
use Rattle.std.specs.Ordering.{nat_cmp}
use Rattle.m2m_names.specs.Attributes.{attr_short}
use Rattle.m2m_names.proofs.AttributeLemmas.{found_by_halving}
use Rattle.m2m_names.proofs.attributes.Attr.find.Goals as goal

pub returns-in-Ok : goal.returns-in-Ok
returns-in-Ok c =
    let equal = c.in-Ok.ensures.position (λ a. slice_cmp nat_cmp (attr_short a) c.args.text.now) (always_returns_same _ _ _ (λ a r g called. search rules)) in
    sym (found_by_halving c.args.text.now (Ok c.in-Ok.place) equal _)

pub returns-in-Err : goal.returns-in-Err
returns-in-Err c =
    let parted = c.in-Err.ensures.position (λ a. slice_cmp nat_cmp (attr_short a) c.args.text.now) (always_returns_same _ _ _ (λ a r g called. search rules)) in
    sym (found_by_halving c.args.text.now (Err c.in-Err.field-0) parted)
