use Rattle.std.proofs.Common.{◌≡◌, ◌+◌, ◌∷◌, List, drop, sym, ap, ◌∙◌, arith}
use Rattle.std.proofs.lemmas.List.{drop_more}
use Rattle.m2m_names.specs.declared.attributes.Attr.TheVariants.{Pv}
use Rattle.m2m_value.specs.Data.{Data}
use Rattle.policy_eval.specs.Rights.{with_rules}
use Rattle.policy_eval.specs.Rules.{rules_by}
use Rattle.known_rights.proofs.KnownLemmas.{one_id_more}
use Rattle.known_rights.proofs.granting.bits_by_ids.Goals as goal

pub loop-id-preserved : goal.loop-id-preserved
loop-id-preserved g c =
    let l = c.loop-id in
    let home = c.args.asker.now.home in
    let o = c.args.asker.now.originator in
    let nodes = g.T.Tree.nodes c.args.tree.now in
    let ids : List Data = c.args.ids.now in
    let id : Data = c.id-item.result in
    let rest : List Data = drop (l.id-index + 1) ids in
    let split : drop l.id-index ids ≡ id ∷ rest =
    drop_more ids l.id-index id (omega (arith, c.loop-id-test.true))
    ∙ ap (λ (x : Data). x ∷ rest) (sym c.id-item.is) in
    record {
      bits =
          ap (λ bits. with_rules home o bits (rules_by Pv nodes rest)) c.with_id-bits.ensures.bits
          ∙ one_id_more home o nodes l.bits id rest
          ∙ ap (λ (ds : List Data). with_rules home o l.bits (rules_by Pv nodes ds)) (sym split)
          ∙ l.invariant.bits;
      known = c.with_id-bits.ensures.known;
    }
