use Rattle.std.proofs.Common.{◌∙◌, List, Some, sym, ap, subst}
use Rattle.m2m_names.specs.declared.types.Ty.{Ty}
use Rattle.m2m_value.specs.Data.{Entry}
use Rattle.request_rules.specs.Creation.{name_for, size_named}
use Rattle.request_rules.specs.Groups.{group_rows, membership_by}
use Rattle.request_rules.specs.Judged.{AreLinksOf, IsCreateBy, IsCreateOf}
use Rattle.request_rules.specs.Requests.{content_for, expiry_for}
use Rattle.request_rules.specs.declared.allowed.AllowedCreate.{AllowedCreate}
use Rattle.request_rules.proofs.CreatingLemmas.{creation_refused}
use Rattle.request_rules.proofs.JudgedLemmas.{judges_further}
use Rattle.request_rules.proofs.judging.judge_child.Goals as goal

pub returns : goal.returns
returns g c =
    let e = c.args.entity.now in
    let request = c.args.request.now in
    let parent = c.args.parent.now in
    let ty = c.args.ty in
    let named = c.in-Some.named.now in
    judges_further c.judge_named.result _ _ (IsCreateBy e ty parent named) (IsCreateOf e request parent.number)
    (creation_refused e c.args.originator.now request parent ty named c.requires.child (sym c.in-Some.ensures))
    (λ (create : AllowedCreate) (by : IsCreateBy e ty parent named create). record {
      sound = c.requires.sound;
      parent = c.requires.stands ∙ ap Some (sym by.parent);
      ty = c.requires.child ∙ ap Some (sym by.ty);
      named = ap (content_for request) by.ty ∙ sym c.in-Some.ensures ∙ ap Some (sym by.named);
      name = by.name ∙ ap (λ (t : Ty). name_for t e.next named) (sym by.ty) ∙ ap (λ (es : List Entry). name_for create.ty e.next es) (sym by.named);
      utf8 = by.utf8;
      expiry = by.expiry ∙ ap (λ (es : List Entry). expiry_for es) (sym by.named);
      last = by.last;
      size = by.size ∙ ap (λ (es : List Entry). size_named es) (sym by.named);
      members = by.members ∙ ap (λ (t : Ty). group_rows e (membership_by t named)) (sym by.ty) ∙ ap (λ (es : List Entry). group_rows e (membership_by create.ty es)) (sym by.named);
      links = subst (λ (es : List Entry). AreLinksOf e es create.links) (sym by.named) by.links;
    })
    c.judge_named.ensures
