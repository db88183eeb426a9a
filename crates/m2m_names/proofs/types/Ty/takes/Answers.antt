use Rattle.std.proofs.Common.{◌↔◌, IsTrue, rules}
use Rattle.std.proofs.lemmas.Bool.Decides.{same_from_decides}
use Rattle.m2m_names.specs.Types.{Takes, does_take}
use Rattle.m2m_names.proofs.TypeLemmas.{does_take-Takes}
use Rattle.m2m_names.proofs.types.Ty.takes.Goals as goal

pub returns-clause-value : goal.returns-clause-value
returns-clause-value c =
    let fact : IsTrue c.contains.result ↔ Takes c.args.self c.args.child = search rules in
    same_from_decides c.contains.result (does_take c.args.self c.args.child) fact (does_take-Takes c.args.self c.args.child)
