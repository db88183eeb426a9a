use Rattle.std.proofs.Common.{◌≡◌, ◌++◌, rules, sym, subst}
use Rattle.std.proofs.lemmas.Str.{IsUtf8-append}
use Rattle.std.specs.Fmt.{decimal}
use Rattle.std.specs.Str.{IsUtf8}
use Rattle.resource_model.proofs.resource.numbered.Goals as goal

pub returns-clause-utf8 : goal.returns-clause-utf8
returns-clause-utf8 c =
    let is : c.in_ok-from_parts.field-0 ≡ c.args.word.now ++ c.args.mark.now ++ decimal c.args.number = search rules in
    let of_digits : IsUtf8 (decimal c.args.number) = subst IsUtf8 c.format.ensures.text c.format.utf8 in
    subst IsUtf8 (sym is) (IsUtf8-append (c.args.word.now ++ c.args.mark.now) (decimal c.args.number) (IsUtf8-append c.args.word.now c.args.mark.now c.utf8.word c.utf8.mark) of_digits)
