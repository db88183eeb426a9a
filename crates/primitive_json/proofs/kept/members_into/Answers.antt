use Rattle.std.proofs.Common.{sym, ap, ◌∙◌}
use Rattle.m2m_value.proofs.Levels.{entries-pairs_of}
use Rattle.filter_criteria.specs.Values.{members_in}
use Rattle.primitive_json.proofs.kept.members_into.Goals as goal

pub returns-in-Obj : goal.returns-in-Obj
returns-in-Obj c = sym (entries-pairs_of c.in-Obj.members) ∙ ap members_in c.in-Obj.ensures.top
