-- Streams that were lent to a connection, and how it ended.
use Rattle.std.proofs.Common.{◌≡◌, ◌≢◌, ◌↔◌, ◌⊎◌, ℕ, Bool, List, ◌∷◌, [], Option, get_or, inl, inr, sym, ap, subst, ◌∙◌}
use Rattle.m2m_io.specs.declared.status.Status.{Status}
use Rattle.m2m_io.specs.declared.status.Status.TheVariants.{ReadFault, WriteFault, Memory}
use Rattle.cse_server.specs.Outside.{EndsByFault, LinkTold, Outside, SinkTold, outside}
use Rattle.turn_desk.specs.Entries.{Marked}
use Rattle.cse_machine.specs.declared.event.Event.{Event}
use Rattle.cse_machine.specs.declared.event.Outcome.{Outcome}
use Rattle.desk_replies.specs.Rule.{ReplyRule}
use Rattle.cse_server.specs.Connection.{Serves}
use Rattle.resource_model.specs.Home.{HomeData}
use Rattle.entity_model.specs.Entity.{EntityData}
use Rattle.cse_cli.specs.Run.{ServesEntityAt}
use Rattle.cse_server.specs.declared.connection.Ended.{Ended}
use Rattle.cse_server.specs.declared.connection.Ended.TheVariants.{ReadFault as EndedReading, WriteFault as EndedWriting}

-- ---- names of the two references that a connection holds

pub first_name : (a b c d : ℕ) → a ∷ b ∷ [] ≡ c ∷ d ∷ [] → c ≡ a
first_name a b c d e = sym (ap (λ (l : List ℕ). get_or l 0 0) e)

pub second_name : (a b c d : ℕ) → a ∷ b ∷ [] ≡ c ∷ d ∷ [] → d ≡ b
second_name a b c d e = sym (ap (λ (l : List ℕ). get_or l 1 0) e)

-- what was lent ends as what stands behind the reference that was kept
pub after_lent : {X : Type 0} (P : X → Type 0) (a b : ℕ) (x y : X) → a ≡ b → (a ≡ b → x ≡ y) → P y → P x
after_lent P a b x y same lent h = subst P (sym (lent same)) h

-- the same of two that were lent
pub after_both : {X Y : Type 0} (P : X → Y → Type 0) (a b c d : ℕ) (x x' : X) (y y' : Y) → a ≡ b → (a ≡ b → x ≡ x') → c ≡ d → (c ≡ d → y ≡ y') → P x' y' → P x y
after_both P a b c d x x' y y' same lent same' lent' h =
    after_lent (λ i. P i y) a b x x' same lent (after_lent (λ o. P x' o) c d y y' same' lent' h)

-- ---- how it ended

pub neither : {A B : Type 0} → (A → ⊥) → (B → ⊥) → A ↔ B
neither never other = (λ a. absurd (never a), λ b. absurd (other b))

pub both : {A B : Type 0} → A → B → A ↔ B
both a b = (λ _. b, λ _. a)

-- items that are sent end by no other status than want of memory
pub ends_otherwise : (fault whole status : Status) → (status ≡ whole) ⊎ (status ≡ Memory) → whole ≢ fault → Memory ≢ fault → status ≢ fault
ends_otherwise fault whole status either first second is = elim either [
  | inl same ↦ first (sym same ∙ is)
  | inr starved ↦ second (sym starved ∙ is)
]

-- a fault of reading is the status of a connection that ended by it, and of writing likewise
pub reads_of : {status : Status} (ended : Ended) (before now : ℕ) → (status ≡ ReadFault ↔ ended ≡ EndedReading)
    → EndsByFault EndedReading ended before now → EndsByFault ReadFault status before now
reads_of ended before now is h = record {
  count = h.count;
  cause = λ e. h.cause (is.0 e);
  steady = λ other. h.steady (λ e. other (is.1 e));
}

pub writes_of : {status : Status} (ended : Ended) (before now : ℕ) → (status ≡ WriteFault ↔ ended ≡ EndedWriting)
    → EndsByFault EndedWriting ended before now → EndsByFault WriteFault status before now
writes_of ended before now is h = record {
  count = h.count;
  cause = λ e. h.cause (is.0 e);
  steady = λ other. h.steady (λ e. other (is.1 e));
}

-- ---- the same connection, by other names

pub serves_same : {S : Type 0} (rule : ReplyRule) (grown : S → List (Marked Event Outcome) → S → Type 0) (seat before after : S)
    (left0 left1 : Option (List ℕ)) (old0 old1 : SinkTold) (given : Option (List ℕ)) (link : LinkTold) (new : Outside) (ended : Ended)
    → seat ≡ before → left0 ≡ left1 → old0 ≡ old1
    → Serves rule grown seat after (outside left0 old0 given link) new ended → Serves rule grown before after (outside left1 old1 given link) new ended
serves_same {S = S} rule grown seat before after left0 left1 old0 old1 given link new ended b l o h =
    subst (λ (s : S). Serves rule grown s after (outside left1 old1 given link) new ended) b
    (subst (λ (v : Option (List ℕ)). Serves rule grown seat after (outside v old1 given link) new ended) l
    (subst (λ (v : SinkTold). Serves rule grown seat after (outside left0 v given link) new ended) o h))

-- the entity that served is this one
pub streams_served : (later : Bool) (home : HomeData) {entity opened : EntityData} (old new : Outside) (status : Status)
    → entity ≡ opened → ServesEntityAt later home entity old new status → ServesEntityAt later home opened old new status
streams_served later home old new status is run = subst (λ (e : EntityData). ServesEntityAt later home e old new status) is run
