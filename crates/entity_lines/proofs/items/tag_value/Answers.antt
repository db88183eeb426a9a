use Rattle.std.proofs.Common.{sym, subst}
use Rattle.primitive_json.specs.declared.note.NoteParts.{NoteParts}
use Rattle.entity_lines.specs.Items.{IsReadableDest}
use Rattle.entity_lines.proofs.WrittenLemmas.{said_of_none}
use Rattle.entity_lines.proofs.items.tag_value.Goals as goal

pub returns-in_default-clause-none : goal.returns-in_default-clause-none
returns-in_default-clause-none c = λ small kept.
    said_of_none _ (¬ IsReadableDest c.parts-parts.result.now.dest) c.in_default.not-Some c.in_ok-dest.ensures.none
    (subst (λ (n : NoteParts). IsReadableDest n.dest) (sym c.parts-parts.ensures.same) kept)
