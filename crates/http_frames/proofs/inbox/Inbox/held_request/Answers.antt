use Rattle.std.proofs.Common.{◌≡◌, ℕ, Bool, List, sym, subst, ◌∙◌}
use Rattle.http_frames.specs.declared.frame.Side.TheVariants.{Request}
use Rattle.http_frames.specs.Inbox.{IfHeld, Intake, TakesNext}
use Rattle.http_frames.specs.Stream.{HasNoFrame}
use Rattle.http_frames.proofs.AnswerLemmas.{held_answers}
use Rattle.http_frames.proofs.inbox.Inbox.held_request.Goals as goal

same_intake : (held now : List ℕ) (was is : Bool) → now ≡ held → is ≡ was
    → ◌≡◌ {A = Intake} (record { held = now; refused = is }) (record { held = held; refused = was })
same_intake held now was is same same_refused = cc

pub returns-clause-next : goal.returns-clause-next
returns-clause-next c =
    let held = c.take_held-held.ensures in
    let refused = c.is_refused-self-inside in
    let inside = c.self.inside in
    λ left. subst (λ (i : Intake). IfHeld c.take_held-held.result
    (λ next. TakesNext Request left left i (record { held = c.take_held-held.new.held; refused = refused.result }) next)) c.self.view_is
    (held_answers Request left inside.held c.take_held-held.new.held inside.refused refused.result c.take_held-held.result
    c.if-self.false refused.ensures.answer (held.message left) held.kept (λ e. held.no_frame e left) held.other)

pub returns-clause-none : goal.returns-clause-none
returns-clause-none c =
    let held = c.take_held-held.ensures in
    let refused = c.is_refused-self-inside in
    let inside = c.self.inside in
    λ e. (
      same_intake inside.held c.take_held-held.new.held inside.refused refused.result (held.none e).0
          (refused.ensures.none e ∙ sym c.if-self.false)
          ∙ c.self.view_is,
      subst (λ (i : Intake). HasNoFrame Request i.held) c.self.view_is (held.none e).1,
    )
