use Rattle.std.specs.Prelude.{nat_eq}
use Rattle.std.proofs.Common.{◌≡◌, ◌≢◌, ℕ, ◌≤◌, List, [], length, false, true, sym, ap, ◌∙◌, subst, arith}
use Rattle.std.proofs.lemmas.Bool.{eqb-true, both_ways}
use Rattle.std.proofs.lemmas.List.{nil_from_length}
use Rattle.m2m_value.proofs.Begins.{on_err}
use Rattle.tree_model.specs.Tree.{overdue_numbers}
use Rattle.tree_model.proofs.GrowthLemmas.{tree_from_well_formed}
use Rattle.entity_model.specs.Entity.{EntityData, expired, expired_told, last_reading}
use Rattle.entity_model.specs.Expiry.{is_some_due}
use Rattle.entity_model.specs.Sound.{IsSoundEntity}
use Rattle.entity_model.proofs.SoundLemmas.{sound_expired}
use Rattle.entity_model.proofs.SweepingLemmas.{none_told, some_due}
use Rattle.entity_model.proofs.sweeping.expire_to.Goals as goal

none_left : (xs : List ℕ) → true ≡ nat_eq (length xs) 0 → xs ≡ []
none_left xs is = nil_from_length xs (eqb-true (length xs) 0 (sym is))

some_left : (xs : List ℕ) → false ≡ nat_eq (length xs) 0 → xs ≢ []
some_left xs is none = both_ways (nat_eq (length xs) 0) (sym is) (ap (λ (ns : List ℕ). nat_eq (length ns) 0) none)

-- where something is overdue at the moment, something is due then
due_at : (e : EntityData) (moment : ℕ) → IsSoundEntity e → overdue_numbers moment e.nodes ≢ [] → is_some_due e.nodes moment ≡ true
due_at e moment sound some = some_due moment e.nodes (tree_from_well_formed e.nodes sound.tree) some

-- where nothing is, the expiry tells nothing
told_none : (e : EntityData) (moment : ℕ) → IsSoundEntity e → e.last ≤ moment → moment ≤ last_reading → overdue_numbers moment e.nodes ≡ [] → expired moment e ≡ expired_told moment e
told_none e moment sound later last none = sym (none_told moment e (sound_expired moment e later last sound) none)

pub returns-in_err-gone-clause-memory : goal.returns-in_err-gone-clause-memory
returns-in_err-gone-clause-memory g c =
    let before : EntityData = record { home = c.entity.inside.home; nodes = g.T.Tree.nodes c.entity.inside.tree; next = c.entity.inside.next; last = c.entity.inside.last; items = c.entity.inside.outbox.items; numbered = c.entity.inside.outbox.count } in
    on_err c.from_residual.result _
    (subst (λ (e : EntityData). is_some_due e.nodes c.args.moment ≡ true) c.entity.view_is
    (due_at before c.args.moment c.entity.invariant c.in_err-gone.ensures.memory))

pub returns-then-is_empty-clause-ok : goal.returns-then-is_empty-clause-ok
returns-then-is_empty-clause-ok g c =
    let none : c.entries.result.now ≡ [] = none_left c.entries.result.now c.if-is_empty.ensures in
    let before : EntityData = record { home = c.entity.inside.home; nodes = g.T.Tree.nodes c.entity.inside.tree; next = c.entity.inside.next; last = c.entity.inside.last; items = c.entity.inside.outbox.items; numbered = c.entity.inside.outbox.count } in
    let later : before.last ≤ c.args.moment = omega (arith, c.requires.later, ap (λ (e : EntityData). e.last) c.entity.view_is) in
    c.pass.ensures
    ∙ subst (λ (e : EntityData). expired c.args.moment e ≡ expired_told c.args.moment e) c.entity.view_is
    (told_none before c.args.moment c.entity.invariant later c.requires.last (sym c.in_ok-gone.ensures.value ∙ sym c.entries.ensures ∙ none))

pub returns-clause-memory : goal.returns-clause-memory
returns-clause-memory g c =
    let before : EntityData = record { home = c.entity.inside.home; nodes = g.T.Tree.nodes c.entity.inside.tree; next = c.entity.inside.next; last = c.entity.inside.last; items = c.entity.inside.outbox.items; numbered = c.entity.inside.outbox.count } in
    let is : c.entries.result.now ≡ overdue_numbers c.args.moment before.nodes = c.entries.ensures ∙ c.in_ok-gone.ensures.value in
    on_err c.expire_and_tell.result _
    (subst (λ (e : EntityData). is_some_due e.nodes c.args.moment ≡ true) c.entity.view_is
    (due_at before c.args.moment c.entity.invariant (λ none. some_left c.entries.result.now c.if-is_empty.ensures (is ∙ none))))
