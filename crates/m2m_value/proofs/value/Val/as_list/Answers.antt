use Rattle.std.proofs.Common.{Some, sym, ap, ◌∙◌}
use Rattle.m2m_value.specs.Node.{data_of}
use Rattle.m2m_value.specs.View.{as_list}
use Rattle.m2m_value.proofs.Levels.{elements-elements_of}
use Rattle.m2m_value.proofs.value.Val.as_list.Goals as goal

-- the list that other values have too
pub returns-in-Shared : goal.returns-in-Shared
returns-in-Shared c =
    ap Some (c.items.ensures ∙ sym (elements-elements_of c.in-Shared.shared)) ∙ ap as_list (ap data_of (sym c.in-Shared.is) ∙ c.self.view_is)

pub returns-in-List : goal.returns-in-List
returns-in-List c = ap Some (sym (elements-elements_of c.in-List.items)) ∙ ap as_list (ap data_of (sym c.in-List.is) ∙ c.self.view_is)
