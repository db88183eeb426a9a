use Rattle.std.proofs.Common.{◌++◌, sym, subst, codes, ap, ◌∙◌}
use Rattle.std.proofs.lemmas.Result.{IfOk-weaker}
use Rattle.std.proofs.lemmas.Str.{IsUtf8-append}
use Rattle.std.specs.Str.{IsUtf8}
use Rattle.tree_model.proofs.ShownLemmas.{slash_utf8}
use Rattle.subscription_match.proofs.naming.reference_of.Goals as goal

pub returns-clause-utf8 : goal.returns-clause-utf8
returns-clause-utf8 c =
    let own = c.in_ok-own.own in
    let id = c.in_ok-id.id in
    let front = IsUtf8-append own (codes "/") c.in_ok-own.ensures.utf8 slash_utf8 in
    let text = IsUtf8-append (own ++ codes "/") id front c.in_ok-id.ensures.utf8 in
    let parts = ap (λ x. (x ++ codes "/") ++ c.entries-2.result.now) c.entries.ensures ∙ ap (λ y. (own ++ codes "/") ++ y) c.entries-2.ensures in
    IfOk-weaker c.from_parts.result _ IsUtf8 (λ t is. subst IsUtf8 (sym (is ∙ parts)) text) c.from_parts.ensures
