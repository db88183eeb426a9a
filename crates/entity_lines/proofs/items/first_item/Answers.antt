use Rattle.std.proofs.Common.{◌≡◌, ℕ, List, Some, take, sym, ap, ◌∙◌, subst}
use Rattle.primitive_json.specs.Notes.{IsSoundDest}
use Rattle.journal_lines.specs.Lines.{first_line}
use Rattle.entity_lines.specs.Items.{tag_spelled}
use Rattle.entity_lines.proofs.SpelledLemmas.{tag_there}
use Rattle.entity_lines.proofs.items.first_item.Goals as goal

pub returns-in_default-clause-only : goal.returns-in_default-clause-only
returns-in_default-clause-only c = λ item read sound.
    let text = c.args.text.now in
    let tag = tag_there item text read in
    let line : take c.line_len-end.result text ≡ first_line text = ap (λ n. take n text) c.line_len-end.ensures.value in
    let only = c.in_ok-tag.ensures.only tag.0 (ap tag_spelled line ∙ tag.1) (subst IsSoundDest (sym tag.2) sound) in
    absurd (c.in_default.not-Some tag.0 only)
