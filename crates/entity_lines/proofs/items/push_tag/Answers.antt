use Rattle.std.proofs.Common.{rules, ◌≡◌, ◌≤◌, Ok}
use Rattle.m2m_value.specs.Data.{depth}
use Rattle.m2m_value.specs.Reading.{reading, reading_depth}
use Rattle.m2m_value.specs.Spelling.{text_of}
use Rattle.m2m_value.specs.Shapes.{largest_count}
use Rattle.entity_lines.specs.Items.{IsReadableDest, tag_data}
use Rattle.entity_lines.proofs.WrittenLemmas.{said_of_none, tag_depth, tag_read}
use Rattle.entity_lines.proofs.items.push_tag.Goals as goal

pub returns-in_default-clause-unkept : goal.returns-in_default-clause-unkept
returns-in_default-clause-unkept c = λ fault.
    said_of_none _ (c.args.item.now.number ≤ largest_count → ¬ IsReadableDest c.args.item.now.note.dest) c.in_default.not-Some c.in_ok-value.ensures.none

pub returns-clause-spells : goal.returns-clause-spells
returns-clause-spells c =
    let item = c.args.item.now in
    let back : depth (tag_data item) ≤ reading_depth → reading (text_of (tag_data item)) ≡ Ok (tag_data item) = search rules in
    tag_read item (back (tag_depth item))
