use Rattle.std.proofs.Common.{IfOk, IfErr, sym, ◌∙◌, subst, rules}
use Rattle.std.proofs.lemmas.Fn.{always_returns_same}
use Rattle.m2m_value.specs.Node.{AreSorted}
use Rattle.m2m_value.specs.View.{IsPlaceOf, IsGapFor}
use Rattle.m2m_value.proofs.Lookup.{compared, searched}
use Rattle.m2m_value.proofs.value.Members.place_of.Goals as goal

pub returns : goal.returns
returns c =
    let facts = c.binary_search_by.ensures in
    let by_key = facts.position (λ e. compared e.0 c.args.key.now) (always_returns_same _ _ _ (λ a r g called. search rules)) in
    let is = c.deref.ensures.value ∙ c.self.view_is in
    let sorted : AreSorted c.args.self.now = subst AreSorted c.self.view_is c.self.invariant in
    let found = searched c.deref.result.now (subst AreSorted (sym is) sorted) c.args.key.now c.binary_search_by.result facts.bound by_key in
    record {
      found = subst (λ es. IfOk c.binary_search_by.result (IsPlaceOf c.args.key.now es)) is found.0;
      absent = subst (λ es. IfErr c.binary_search_by.result (IsGapFor c.args.key.now es)) is found.1;
      sorted = sorted;
    }
