use Rattle.std.proofs.Common.{◌≡◌, ◌≤◌, Ok, subst}
use Rattle.m2m_value.specs.Data.{Data, depth}
use Rattle.m2m_value.specs.Reading.{reading, reading_depth}
use Rattle.m2m_value.specs.Spelling.{text_of}
use Rattle.entity_lines.specs.Heads.{head_data}
use Rattle.entity_lines.proofs.WrittenLemmas.{head_depth, head_spells}
use Rattle.entity_lines.proofs.heads.push_head.Goals as goal

pub returns-clause-spells : goal.returns-clause-spells
returns-clause-spells c =
    let home = c.args.home.now in
    let head = c.args.head in
    let back = subst (λ (d : Data). depth d ≤ reading_depth → reading (text_of d) ≡ Ok d) c.in_ok-value.ensures c.in_ok-push_value.ensures.reads_back in
    head_spells home head (back (head_depth home head))
