use Rattle.std.proofs.Common.{◌≡◌, nat_le, true, sym, ap, ◌∙◌}
use Rattle.std.specs.Option.{option_map_or}
use Rattle.m2m_value.specs.Data.{depth}
use Rattle.primitive_json.specs.declared.request.RequestParts.{RequestParts}
use Rattle.journal_lines.specs.Keeping.{is_of_kinds}
use Rattle.journal_lines.proofs.PrimitiveLemmas.{kept_then}
use Rattle.journal_lines.proofs.keeping.can_be_kept.Goals as goal

pub returns-then-is_of_kinds : goal.returns-then-is_of_kinds
returns-then-is_of_kinds c =
    let is : is_of_kinds c.args.request.now ≡ true = sym c.is_of_kinds.ensures ∙ c.if-is_of_kinds.true in
    c.is_shallow_content.ensures
    ∙ ap (λ (r : RequestParts). option_map_or (λ d. nat_le (depth d) 126) r.pc true) c.parts.ensures.same
    ∙ kept_then c.args.request.now is
