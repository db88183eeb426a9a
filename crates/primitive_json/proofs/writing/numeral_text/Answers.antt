use Rattle.std.proofs.Common.{ℕ, Vec, Global, sym, ap, ◌∙◌, subst}
use Rattle.std.specs.Str.{IsUtf8}
use Rattle.std.proofs.lemmas.Str.{IsUtf8-string_bytes}
use Rattle.primitive_json.proofs.writing.numeral_text.Goals as goal

pub returns-clause-utf8 : goal.returns-clause-utf8
returns-clause-utf8 c =
    subst IsUtf8 (sym (c.of.ensures ∙ ap (λ (v : Vec ℕ Global). v.items) c.into_bytes.ensures.value)) (IsUtf8-string_bytes c.in_ok-numeral.numeral)
