-- An entity is the same one behind every step.
use Rattle.std.proofs.Common.{List, ap, arith, inl, inr, refl, subst, sym, take, ℕ, ◌∙◌, ◌≡◌, ◌⊎◌}
use Rattle.primitive_json.specs.declared.reply.ReplyParts.{ReplyParts}
use Rattle.primitive_json.specs.declared.request.RequestParts.{RequestParts}
use Rattle.entity_model.specs.Entity.{EntityData, swept}
use Rattle.entity_model.specs.Places.{Effect}
use Rattle.cse_machine.proofs.CameLemmas.{Came, answered_here, kept, onward_still, replied, went_on}
use Rattle.cse_machine.proofs.CutLemmas.{IsLeftShort, first_undone, left_short, some_done, undone}
use Rattle.cse_machine.proofs.KeptLemmas.{IsKept}
use Rattle.cse_machine.proofs.MemberLemmas.{IsSame, members_kept, same_still}
use Rattle.cse_machine.proofs.OutcomeLemmas.{same_reply}
use Rattle.cse_machine.proofs.WayLemmas.{member_addresses}
use Rattle.cse_machine.specs.Answer.{EventEffect}
use Rattle.cse_machine.specs.Step.{IsSameEntity, IsUnswept, Step}
use Rattle.cse_machine.specs.declared.event.Event.{Event}
use Rattle.cse_machine.specs.declared.event.Event.TheVariants.{Ask, Take, Tick}
use Rattle.cse_machine.specs.declared.event.Outcome.{Outcome}
use Rattle.cse_machine.specs.declared.event.Outcome.TheVariants.{Done, Forward, Item, Starved, Ticked}

-- ---- where memory runs out

-- in the expiry, nothing has changed
unswept_same : (reading : ℕ) (before after : EntityData) (done : ℕ) → IsUnswept reading before done after → IsSameEntity reading before after
unswept_same reading before after done unswept = record {
  home = ap (λ (e : EntityData). e.home) unswept.same;
  last = inr (record { none = refl; same = unswept.same; due = unswept.due });
  next = omega (arith, ap (λ (e : EntityData). e.next) unswept.same);
}

-- where no member is done, a step leaves what isn't due of the entity; or all of it, where the
-- expiry ran out of memory
abbrev pub IsLeftAlone : ℕ → EntityData → EntityData → Type 0
IsLeftAlone reading before after = (after ≡ swept reading before) ⊎ IsUnswept reading before 0 after

none_unswept : (reading : ℕ) (before after : EntityData) (done : ℕ) → IsUnswept reading before done after → IsLeftAlone reading before after
none_unswept reading before after done unswept = inr (record { none = refl; same = unswept.same; due = unswept.due })

pub starved_alone : (reading : ℕ) (event : Event) (before after : EntityData) → Step reading event before (Starved 0) after → IsLeftAlone reading before after
starved_alone reading (Ask request) before after step = elim step [
  | inl short ↦ (let e = swept reading before in inl (first_undone e request after (left_short e request 0 after short)))
  | inr unswept ↦ none_unswept reading before after 0 unswept
]
starved_alone reading Take before after step = none_unswept reading before after 0 step
starved_alone reading Tick before after step = none_unswept reading before after 0 step

-- ---- steps

-- what holds of the effect of a request, holds of its step
pub done_holds : (P : Effect → Type 0) (reading : ℕ) (request : RequestParts) (before after : EntityData) (reply : ReplyParts) → Came (swept reading before) request P → Step reading (Ask request) before (Done reply) after → P (record { reply = reply; after = after })
done_holds P reading request before after reply came step = by came
  where
    e : EntityData
    e = swept reading before

    by : Came (swept reading before) request P → P (record { reply = reply; after = after })
    by (replied effect is holds) =
        let said = same_reply reply effect.reply (step.0 ∙ ap (λ (x : EventEffect). x.outcome) is) in
        let left = step.1 ∙ ap (λ (x : EventEffect). x.after) is in
        subst (λ (r : ReplyParts). P (record { reply = r; after = after })) (sym said)
        (subst (λ (x : EntityData). P (record { reply = effect.reply; after = x })) (sym left) holds)
    by (went_on way) = absurd (answered_here (swept reading before) request reply step.0 way)

-- what holds of the entity that a request leaves
pub done_keeps : (reading : ℕ) (request : RequestParts) (before after : EntityData) (reply : ReplyParts) → Step reading (Ask request) before (Done reply) after → IsKept (swept reading before) (record { reply = reply; after = after })
done_keeps reading request before after reply step =
    done_holds (IsKept (swept reading before)) reading request before after reply (kept (swept reading before) request) step

-- what goes on changes nothing
pub onward_leaves : (reading : ℕ) (request : RequestParts) (before after : EntityData) (poa : List ℕ) (onward : RequestParts) → Step reading (Ask request) before (Forward poa onward) after → after ≡ swept reading before
onward_leaves reading request before after poa onward step =
    step.1 ∙ onward_still (swept reading before) request poa onward step.0

-- an entity is the same one behind the expiry
swept_same : (reading : ℕ) (before after : EntityData) → IsSame (swept reading before) after → IsSameEntity reading before after
swept_same reading before after left = record { home = left.home; last = inl left.last; next = left.next }

short_same : (reading : ℕ) (request : RequestParts) (done : ℕ) (before after : EntityData) → IsLeftShort (swept reading before) request done after → IsSameEntity reading before after
short_same reading request done before after (undone none same) =
    swept_same reading before after (subst (IsSame (swept reading before)) (sym same) (same_still (swept reading before)))
short_same reading request done before after (some_done fan left) =
    let e = swept reading before in
    let addresses = take done (member_addresses e request fan.place fan.group) in
    swept_same reading before after (subst (IsSame e) (sym left) (members_kept addresses e request))

same_starved : (reading : ℕ) (event : Event) (before after : EntityData) (done : ℕ) → Step reading event before (Starved done) after → IsSameEntity reading before after
same_starved reading (Ask request) before after done step = elim step [
  | inl short ↦ short_same reading request done before after (left_short (swept reading before) request done after short)
  | inr unswept ↦ unswept_same reading before after done unswept
]
same_starved reading Take before after done step = unswept_same reading before after done step
same_starved reading Tick before after done step = unswept_same reading before after done step

-- an entity stays the same one
pub same_entity : (reading : ℕ) (event : Event) (outcome : Outcome) (before after : EntityData) → Step reading event before outcome after → IsSameEntity reading before after
same_entity reading (Ask request) (Done reply) before after step =
    let left = done_keeps reading request before after reply step in
    record { home = left.home; last = inl left.last; next = left.next }
same_entity reading (Ask request) (Forward poa onward) before after step =
    let left = onward_leaves reading request before after poa onward step in
    swept_same reading before after (subst (IsSame (swept reading before)) (sym left) (same_still (swept reading before)))
same_entity reading (Ask request) (Starved done) before after step = same_starved reading (Ask request) before after done step
same_entity reading (Ask request) (Item given) before after step = absurd step
same_entity reading (Ask request) Ticked before after step = absurd step
same_entity reading Take (Done reply) before after step = absurd step
same_entity reading Take (Forward poa onward) before after step = absurd step
same_entity reading Take Ticked before after step = absurd step
same_entity reading Tick (Done reply) before after step = absurd step
same_entity reading Tick (Forward poa onward) before after step = absurd step
same_entity reading Tick (Item given) before after step = absurd step
same_entity reading Take (Item given) before after step = record { home = ap (λ (e : EntityData). e.home) step.1; last = inl (ap (λ (e : EntityData). e.last) step.1); next = omega (arith, ap (λ (e : EntityData). e.next) step.1) }
same_entity reading Take (Starved done) before after step = same_starved reading Take before after done step
same_entity reading Tick Ticked before after step = record { home = ap (λ (e : EntityData). e.home) step; last = inl (ap (λ (e : EntityData). e.last) step); next = omega (arith, ap (λ (e : EntityData). e.next) step) }
same_entity reading Tick (Starved done) before after step = same_starved reading Tick before after done step
