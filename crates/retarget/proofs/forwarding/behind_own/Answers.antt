use Rattle.std.proofs.Common.{◌≡◌, ◌++◌, codes, rules, subst, sym}
use Rattle.std.specs.Str.{IsUtf8}
use Rattle.policy_eval.specs.Originators.{own_lead}
use Rattle.retarget.proofs.RouteLemmas.{behind_own_utf8}
use Rattle.retarget.proofs.forwarding.behind_own.Goals as goal

pub returns-clause-utf8 : goal.returns-clause-utf8
returns-clause-utf8 c =
    let is : c.of.result ≡ codes "/" ++ (own_lead c.args.home.now ++ c.args.originator.now) = search rules in
    subst IsUtf8 (sym is)
    (behind_own_utf8 c.args.home.now c.args.originator.now (subst IsUtf8 c.csi.ensures.value c.csi.ensures.utf8) c.requires)
