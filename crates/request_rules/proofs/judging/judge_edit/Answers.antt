use Rattle.std.proofs.Common.{◌≡◌, ◌∙◌, List, Some, sym, ap, subst}
use Rattle.m2m_value.specs.Data.{Entry}
use Rattle.resource_model.specs.Resource.{ResourceData}
use Rattle.request_rules.specs.Groups.{group_rows, membership_edited}
use Rattle.request_rules.specs.Judged.{AreLinksOf, IsUpdateBy, IsUpdateOf}
use Rattle.request_rules.specs.Requests.{content_for}
use Rattle.request_rules.specs.declared.allowed.AllowedUpdate.{AllowedUpdate}
use Rattle.request_rules.proofs.EditingLemmas.{edit_refused}
use Rattle.request_rules.proofs.JudgedLemmas.{judges_further}
use Rattle.request_rules.proofs.judging.judge_edit.Goals as goal

pub returns : goal.returns
returns g c =
    let e = c.args.entity.now in
    let request = c.args.request.now in
    let target = c.args.target.now in
    let named = c.in-Some.named.now in
    let names : content_for request target.ty ≡ Some named = ap (content_for request) (sym c.ty.ensures) ∙ sym c.in-Some.ensures in
    judges_further c.judge_edits.result _ _ (IsUpdateBy e target named) (IsUpdateOf e request target.number)
    (edit_refused e c.args.originator.now request target named names)
    (λ (update : AllowedUpdate) (by : IsUpdateBy e target named update). record {
      sound = c.requires.sound;
      target = c.requires.stands ∙ ap Some (sym by.target);
      named = ap (λ (r : ResourceData). content_for request r.ty) by.target ∙ names ∙ ap Some (sym by.named);
      members = by.members ∙ ap (λ (r : ResourceData). group_rows e (membership_edited r named)) (sym by.target) ∙ ap (λ (es : List Entry). group_rows e (membership_edited update.target.now es)) (sym by.named);
      links = subst (λ (es : List Entry). AreLinksOf e es update.links) (sym by.named) by.links;
    })
    c.judge_edits.ensures
