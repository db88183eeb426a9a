use Rattle.std.proofs.Common.{Some, sym, ap, ◌∙◌}
use Rattle.m2m_value.specs.View.{as_list}
use Rattle.m2m_value.proofs.Levels.{elements-elements_of}
use Rattle.m2m_value.proofs.value.Val.into_list.Goals as goal

pub returns-in-List-clause-list : goal.returns-in-List-clause-list
returns-in-List-clause-list c = ap as_list (sym c.in-List.ensures.top) ∙ ap Some (elements-elements_of c.in-List.items)

-- the list that other values have too
pub returns-in_ok-into_items-in-Shared-clause-list : goal.returns-in_ok-into_items-in-Shared-clause-list
returns-in_ok-into_items-in-Shared-clause-list c =
    ap as_list (sym c.in-Shared.ensures.top) ∙ ap Some (elements-elements_of c.in-Shared.shared ∙ sym c.in_ok-into_items-in-Shared.ensures)
