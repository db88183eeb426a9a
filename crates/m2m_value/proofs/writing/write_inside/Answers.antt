use Rattle.std.proofs.Common.{◌≡◌, flat_map, rules}
use Rattle.m2m_value.specs.Spelling.{escaped}
use Rattle.m2m_value.proofs.writing.write_inside.Goals as goal

pub returns-then-all_plain-clause-ok : goal.returns-then-all_plain-clause-ok
returns-then-all_plain-clause-ok c =
    let same : flat_map escaped c.args.text.now ≡ c.args.text.now = search rules in
    rw same (search rules)
