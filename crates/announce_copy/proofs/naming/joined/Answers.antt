use Rattle.std.proofs.Common.{◌≡◌, ◌++◌, rules, sym, subst}
use Rattle.std.proofs.lemmas.Str.{IsUtf8-append}
use Rattle.std.specs.Str.{IsUtf8}
use Rattle.announce_copy.proofs.naming.joined.Goals as goal

pub returns-clause-utf8 : goal.returns-clause-utf8
returns-clause-utf8 c =
    let first = c.args.first.now in
    let second = c.args.second.now in
    let is : c.of.result ≡ first ++ second = search rules in
    subst IsUtf8 (sym is) (IsUtf8-append first second c.requires.first c.requires.second)
