use Rattle.std.proofs.Common.{◌≡◌, ◌++◌, rules, sym, subst, codes}
use Rattle.std.proofs.lemmas.Result.{IfOk-weaker}
use Rattle.std.proofs.lemmas.Str.{IsUtf8-append}
use Rattle.std.specs.Str.{IsUtf8}
use Rattle.tree_model.proofs.ShownLemmas.{slash_utf8}
use Rattle.tree_model.proofs.showing.own_cse_id.Goals as goal

pub returns-clause-utf8 : goal.returns-clause-utf8
returns-clause-utf8 c =
    let csi = c.args.home.now.csi in
    let text = IsUtf8-append (codes "/") csi slash_utf8 (subst IsUtf8 c.csi.ensures.value c.csi.ensures.utf8) in
    IfOk-weaker c.from_parts.result (λ t. t ≡ codes "/" ++ csi) IsUtf8 (λ t is. subst IsUtf8 (sym is) text) (search rules)
