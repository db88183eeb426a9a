use Rattle.std.proofs.Common.{sym, ap, ◌∙◌}
use Rattle.std.specs.Str.{is_utf8}
use Rattle.std.proofs.lemmas.Str.{IsUtf8-from_is_utf8}
use Rattle.http_target.proofs.target.said_by_target.Goals as goal

pub returns-then-is_utf8-clause-utf8 : goal.returns-then-is_utf8-clause-utf8
returns-then-is_utf8-clause-utf8 c =
    IsUtf8-from_is_utf8 c.in_ok-to.to
    (ap is_utf8 (sym c.entries-then-is_filled.ensures) ∙ sym c.is_utf8.ensures ∙ c.if-is_utf8.true)
