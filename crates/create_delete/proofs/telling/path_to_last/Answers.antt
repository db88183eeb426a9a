use Rattle.std.proofs.Common.{◌≡◌, [], ◌∷◌, ◌++◌, IsUtf8, codes, ap, ◌∙◌, subst}
use Rattle.std.proofs.lemmas.Result.{IfOk-weaker}
use Rattle.addressing.specs.Names.{structured_of}
use Rattle.entity_model.specs.Entity.{EntityData}
use Rattle.entity_model.specs.Sound.{IsSoundEntity}
use Rattle.create_delete.proofs.TellingLemmas.{path_of_last, path_is_text}
use Rattle.create_delete.proofs.telling.path_to_last.Goals as goal

pub returns-clause-value : goal.returns-clause-value
returns-clause-value g c =
    let e = c.args.entity.now in
    let r = c.args.resource.now in
    let above = c.in_ok-above.above in
    let sound : IsSoundEntity e = subst IsSoundEntity c.entity.view_is c.entity.invariant in
    let up : above ≡ structured_of r.parent e.nodes =
    c.in_ok-above.ensures ∙ ap (λ n. structured_of n (g.T.Tree.nodes c.entity.inside.tree)) c.parent.ensures.value ∙ ap (λ (x : EntityData). structured_of r.parent x.nodes) c.entity.view_is in
    let parts = ap (λ x. (x ++ codes "/") ++ c.entries-2.result.now) c.entries.ensures ∙ ap (λ y. (above ++ codes "/") ++ y) (c.entries-2.ensures ∙ c.name.ensures.value) in
    IfOk-weaker c.from_parts.result _ (λ t. t ≡ structured_of r.number (e.nodes ++ r ∷ []))
    (λ t is. path_of_last e r above t sound c.requires up (is ∙ parts)) c.from_parts.ensures

pub returns-clause-utf8 : goal.returns-clause-utf8
returns-clause-utf8 g c =
    let e = c.args.entity.now in
    let r = c.args.resource.now in
    let above = c.in_ok-above.above in
    let sound : IsSoundEntity e = subst IsSoundEntity c.entity.view_is c.entity.invariant in
    let up : above ≡ structured_of r.parent e.nodes =
    c.in_ok-above.ensures ∙ ap (λ n. structured_of n (g.T.Tree.nodes c.entity.inside.tree)) c.parent.ensures.value ∙ ap (λ (x : EntityData). structured_of r.parent x.nodes) c.entity.view_is in
    let parts = ap (λ x. (x ++ codes "/") ++ c.entries-2.result.now) c.entries.ensures ∙ ap (λ y. (above ++ codes "/") ++ y) (c.entries-2.ensures ∙ c.name.ensures.value) in
    IfOk-weaker c.from_parts.result _ IsUtf8
    (λ t is. path_is_text e r above c.name.result.now t sound c.requires c.name.ensures.utf8 c.name.ensures.value up (is ∙ parts)) c.from_parts.ensures
