-- An object that was served at a desk of its own, and the status of that.
use Rattle.std.proofs.Common.{◌≡◌, ◌⊎◌, ℕ, List, Some, inl, inr, refl, sym, ap, ◌∙◌, ⊎_elim}
use Rattle.m2m_io.specs.declared.status.Status.{Status}
use Rattle.m2m_io.specs.declared.status.Status.TheVariants.{Done, ReadFault}
use Rattle.atomic_table.specs.Seated.{TableId}
use Rattle.turn_desk.specs.declared.shared.DeskSeat.{DeskSeat}
use Rattle.turn_desk.specs.declared.view.View.{View}
use Rattle.turn_desk.specs.Seats.{known_to}
use Rattle.turn_desk.specs.Shared.{Leaves, newcomer, OwnsAll}
use Rattle.workers.specs.Shares.{HasComeBack}
use Rattle.workers.specs.Serving.{GainsByServing}
use Rattle.cse_cli.proofs.ServeLemmas.{whole_again}
use Rattle.kept_object.specs.State.{KeptData}
use Rattle.journaled_cli.specs.Run.{LeavesServed, status_of}

-- at a desk of this object, of which the first seat was lent and has come back
pub leaves_served : {X E R C B A : Type 0} {step : ℕ → E → X → R → X → Type 0} {desk : TableId}
    {attends : DeskSeat X E R → C → B → DeskSeat X E R → A → B → Type 0} {does : DeskSeat X E R → B → DeskSeat X E R → B → Type 0}
    {benches : List B} {old new : B} {object : X} {lent back : DeskSeat X E R}
    (left : X) → HasComeBack step desk (known_to lent) back → known_to lent ≡ newcomer object
    → GainsByServing attends does benches old new lent back
    → ((opening : X) → (known_to back).opening ≡ Some opening → Leaves step opening (known_to back).seen left) → OwnsAll (known_to back)
    → LeavesServed step attends does benches object old new left
leaves_served {X = X} {E = E} {R = R} {object = object} {lent = lent} {back = back} left came first served leaves all = record {
  served = record {
    lent = lent;
    back = back;
    first = first;
    served = served;
    all = all;
    left = left;
    leaves = leaves object (came.on.opening ∙ ap (λ (v : View X E R). v.opening) first);
  };
  left_is = refl;
}

-- what is known where the first seat has come back
pub ruleset left_served = (whole_again, leaves_served)

-- the status of an entity that is kept
pub kept_status : {X F : Type 0} (left now : KeptData X F) (status result : Status) → left ≡ now → result ≡ status_of now.journal.is_failed status
    → (status ≡ Done) ⊎ (status ≡ ReadFault)
    → (result ≡ status_of left.journal.is_failed Done) ⊎ (result ≡ status_of left.journal.is_failed ReadFault)
kept_status {X = X} {F = F} left now status result same is which =
    let at : result ≡ status_of left.journal.is_failed status =
    is ∙ ap (λ (k : KeptData X F). status_of k.journal.is_failed status) (sym same) in
    ⊎_elim (λ done. inl (at ∙ ap (status_of left.journal.is_failed) done)) (λ fault. inr (at ∙ ap (status_of left.journal.is_failed) fault)) which
