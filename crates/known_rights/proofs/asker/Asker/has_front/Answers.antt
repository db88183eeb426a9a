use Rattle.std.specs.Prelude.{codes, nat_eq}
use Rattle.std.proofs.Common.{◌≡◌, ◌&&◌, false, sym, ap, ◌∙◌}
use Rattle.std.specs.List.{starts_with}
use Rattle.policy_eval.specs.Originators.{is_front}
use Rattle.known_rights.specs.Askers.{AskerData, asker_of}
use Rattle.known_rights.proofs.AskerLemmas.{front_without}
use Rattle.known_rights.proofs.asker.Asker.has_front.Goals as goal

pub returns-then-self : goal.returns-then-self
returns-then-self c =
    let i = c.self.inside in
    let text = c.args.text.now in
    let no : starts_with nat_eq text (codes "/") ≡ false = rw c.as_slice.ensures at (sym c.starts_with.ensures.value ∙ c.if-starts_with.false) in
    (rw c.deref-then-self.ensures.value at c.starts_with-then-self.ensures.value)
    ∙ sym (front_without (asker_of i.home.now i.originator.now) i.form.items i.own.items text i.is_own c.self.invariant no ∙ ap (λ b. b && starts_with nat_eq i.own.items text) c.if-self.true)
    ∙ ap (λ (a : AskerData). is_front a.home a.originator text) c.self.view_is

pub returns-else-self : goal.returns-else-self
returns-else-self c =
    let i = c.self.inside in
    let text = c.args.text.now in
    let no : starts_with nat_eq text (codes "/") ≡ false = rw c.as_slice.ensures at (sym c.starts_with.ensures.value ∙ c.if-starts_with.false) in
    c.if-self.false
    ∙ sym (front_without (asker_of i.home.now i.originator.now) i.form.items i.own.items text i.is_own c.self.invariant no ∙ ap (λ b. b && starts_with nat_eq i.own.items text) c.if-self.false)
    ∙ ap (λ (a : AskerData). is_front a.home a.originator text) c.self.view_is
