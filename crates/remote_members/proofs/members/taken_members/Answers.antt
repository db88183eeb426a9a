use Rattle.std.proofs.Common.{Some, sym, ap, ◌∙◌}
use Rattle.m2m_value.specs.View.{as_object}
use Rattle.m2m_value.proofs.Levels.{entries-pairs_of}
use Rattle.remote_members.proofs.members.taken_members.Goals as goal

pub returns-in-Obj : goal.returns-in-Obj
returns-in-Obj c = ap Some (sym (entries-pairs_of c.in-Obj.members)) ∙ ap as_object c.in-Obj.ensures.top
