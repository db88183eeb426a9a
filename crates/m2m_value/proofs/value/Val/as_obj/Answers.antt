use Rattle.std.proofs.Common.{Some, sym, ap, ◌∙◌}
use Rattle.m2m_value.specs.Node.{data_of}
use Rattle.m2m_value.specs.View.{as_object}
use Rattle.m2m_value.proofs.Levels.{entries-pairs_of}
use Rattle.m2m_value.proofs.value.Val.as_obj.Goals as goal

pub returns-in-Obj-clause-value : goal.returns-in-Obj-clause-value
returns-in-Obj-clause-value c = ap Some (sym (entries-pairs_of c.in-Obj.members)) ∙ ap as_object (ap data_of (sym c.in-Obj.is) ∙ c.self.view_is)
