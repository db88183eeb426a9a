use Rattle.std.proofs.Common.{◌≡◌, ◌++◌, ◌∷◌, [], true, ap, subst, ◌∙◌, rules}
use Rattle.m2m_value.proofs.Begins.{begins_with_itself, on_err}
use Rattle.m2m_value.specs.Sound.{IsSound}
use Rattle.m2m_value.specs.Spelling.{text_of}
use Rattle.primitive_json.specs.Writing.{written_request}
use Rattle.primitive_json.specs.declared.request.RequestParts.{RequestParts}
use Rattle.journal_lines.specs.Keeping.{is_of_kinds}
use Rattle.journal_lines.proofs.PrimitiveLemmas.{primitive_sound, primitive_written}
use Rattle.journal_lines.proofs.primitive.push_primitive.Goals as goal

pub returns-clause-written : goal.returns-clause-written
returns-clause-written c =
    let p = c.parts-parts.result.now in
    let kept : is_of_kinds p ≡ true = ap is_of_kinds c.parts-parts.ensures.same ∙ c.requires in
    let first : c.push.new.self.items ≡ c.args.text.now.items ++ 123 ∷ [] = search rules in
    let last : c.push-2.new.self.items ≡ c.push_type.new.text.items ++ 125 ∷ [] = search rules in
    primitive_written p c.args.text.now.items _ _ _ _ _ _ kept first c.in_ok-push_front.ensures.written c.in_ok-push_back.ensures.written c.in_ok-push_target.ensures.written c.in_ok-push_type.ensures.written last
    ∙ ap (λ (r : RequestParts). c.args.text.now.items ++ text_of (written_request r)) c.parts-parts.ensures.same

pub returns-clause-sound : goal.returns-clause-sound
returns-clause-sound c =
    let p = c.parts-parts.result.now in
    let kept : is_of_kinds p ≡ true = ap is_of_kinds c.parts-parts.ensures.same ∙ c.requires in
    subst (λ (r : RequestParts). IsSound (written_request r)) c.parts-parts.ensures.same
    (primitive_sound p kept c.parts-parts.ensures.sound.to c.in_ok-push_front.ensures.sound c.in_ok-push_back.ensures.sound c.in_ok-push_type.ensures.sound)

pub returns-in_err-push-clause-err : goal.returns-in_err-push-clause-err
returns-in_err-push-clause-err c = on_err c.from_residual.result _ (begins_with_itself _ _ c.in_err-push.ensures.items)
