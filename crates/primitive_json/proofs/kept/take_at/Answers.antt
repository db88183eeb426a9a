use Rattle.std.proofs.Common.{◌∙◌}
use Rattle.primitive_json.specs.Members.{name_of_member}
use Rattle.primitive_json.proofs.KeptLemmas.{taken_other}
use Rattle.primitive_json.proofs.kept.take_at.Goals as goal

pub returns-clause-others : goal.returns-clause-others
returns-clause-others c = λ key apart.
    taken_other c.take.result c.as_bytes.result.now (name_of_member c.args.member) key c.args.members.now c.take.new.self
    (c.as_bytes.ensures.value ∙ c.name.ensures) c.take.ensures.taken c.take.ensures.absent apart
