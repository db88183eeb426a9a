-- A server, from its words to its door.
use Rattle.std.proofs.Common.{◌≡◌, ℕ, List, ◌∷◌, [], ◌++◌, ◌*◌, Option, Some, refl, ap, subst, ◌∙◌, inl, inr, arith}
use Rattle.m2m_io.specs.Told.{Tells, TellsStill}
use Rattle.m2m_io.specs.declared.status.Status.{Status}
use Rattle.m2m_io.specs.declared.status.Status.TheVariants.{ReadFault, Memory}
use Rattle.command_words.specs.Command.{Serving}
use Rattle.atomic_table.specs.Seated.{TableId}
use Rattle.turn_desk.specs.declared.shared.DeskSeat.{DeskSeat}
use Rattle.turn_desk.specs.declared.view.View.{View}
use Rattle.turn_desk.specs.Seats.{known_to}
use Rattle.turn_desk.specs.Shared.{Leaves, newcomer, IsWhole, OwnsAll}
use Rattle.workers.specs.Gate.{DoorTold}
use Rattle.workers.specs.Shares.{HasPartOf, HasComeBack}
use Rattle.workers.specs.Serving.{GainsByServing}
use Rattle.resource_model.specs.Home.{HomeData}
use Rattle.entity_model.specs.Entity.{EntityData}
use Rattle.entity_model.specs.Opening.{opening}
use Rattle.cse_server.specs.declared.bench.Bench.{Bench}
use Rattle.cse_cli.specs.Serve.{FailsToOpen, OpensServer, ServesObject, ServesOpen}

whole-part : {X E R : Type 0} (object : X) (lent back : View X E R) → lent ≡ newcomer object → HasPartOf lent back
    → IsWhole back
whole-part {X = X} {E = E} {R = R} object lent back first part =
    let h : back.share * 1 ≡ 1 * back.whole = subst (λ (v : View X E R). HasPartOf v back) first part in omega (arith, h)

-- the first seat of a desk has come back, and has the whole of it
pub whole_again : {X E R : Type 0} {step : ℕ → E → X → R → X → Type 0} {desk : TableId} {object : X} {lent : View X E R}
    {back : DeskSeat X E R} → HasComeBack step desk lent back → lent ≡ newcomer object → IsWhole (known_to back)
whole_again {object = object} {lent = lent} {back = back} came first = whole-part object lent (known_to back) first came.part

-- at a desk of this object, of which the first seat was lent and has come back
pub serves_object : {X E R C B A : Type 0} {step : ℕ → E → X → R → X → Type 0} {desk : TableId}
    {attends : DeskSeat X E R → C → B → DeskSeat X E R → A → B → Type 0} {does : DeskSeat X E R → B → DeskSeat X E R → B → Type 0}
    {benches : List B} {old new : B} {object : X} {lent back : DeskSeat X E R}
    (left : X) → HasComeBack step desk (known_to lent) back → known_to lent ≡ newcomer object
    → GainsByServing attends does benches old new lent back
    → ((opening : X) → (known_to back).opening ≡ Some opening → Leaves step opening (known_to back).seen left) → OwnsAll (known_to back)
    → ServesObject step attends does benches object old new
serves_object {X = X} {E = E} {R = R} {object = object} {lent = lent} {back = back} left came first served leaves all = record {
  lent = lent;
  back = back;
  first = first;
  served = served;
  all = all;
  left = left;
  leaves = leaves object (came.on.opening ∙ ap (λ (v : View X E R). v.opening) first);
}

-- what is known where the first seat has come back
pub ruleset comes_back = (whole_again, serves_object)

-- ---- the door and the first bench

module _ {C L : Type 0} {served : EntityData → Bench C L → Bench C L → Type 0} {home : HomeData} {clock : C → Option (List ℕ)} where
  -- the clock gave a reading, and memory ran out
  pub opens_starved : {serving : Serving} {before after : C} {carrier : L} {start : DoorTold} (reading : ℕ)
      → Tells (λ given. given ++ reading ∷ []) (clock before) (clock after)
      → OpensServer served serving home clock (record { clock = before; link = carrier }) (record { clock = after; link = carrier }) start start Memory
  opens_starved {after = after} {carrier = carrier} reading given = record {
    reading = reading;
    between = record { clock = after; link = carrier };
    given = given;
    link_is = refl;
    serves = inl (refl, refl, refl);
  }

  -- it gave one, and the door failed to open
  pub opens_none : {serving : Serving} {before after : C} {carrier : L} {start now : DoorTold} (reading : ℕ)
      → Tells (λ given. given ++ reading ∷ []) (clock before) (clock after)
      → FailsToOpen start now
      → OpensServer served serving home clock (record { clock = before; link = carrier }) (record { clock = after; link = carrier }) start now ReadFault
  opens_none {after = after} {carrier = carrier} reading given fails = record {
    reading = reading;
    between = record { clock = after; link = carrier };
    given = given;
    link_is = refl;
    serves = inr (inl (refl, fails, refl));
  }

  -- it gave one, the door was opened and served by the entity of this home, and what was left was sent
  pub opens_open : {serving : Serving} {before after : C} {carrier : L} {left : Bench C L} {start between now : DoorTold} {status : Status}
      {entity : EntityData} (reading : ℕ) → entity ≡ opening home reading
      → Tells (λ given. given ++ reading ∷ []) (clock before) (clock after)
      → Tells (λ _. Some serving.listen) start.opened between.opened → TellsStill start.given between.given
      → TellsStill start.ended between.ended → between.faults ≡ start.faults
      → ServesOpen (served entity (record { clock = after; link = carrier }) left)
      (left ≡ record { clock = after; link = carrier }) serving.accept between now status
      → OpensServer served serving home clock (record { clock = before; link = carrier }) left start now status
  opens_open {serving = serving} {after = after} {carrier = carrier} {left = left} {between = between} {now = now} {status = status} reading is given opened gave ended steady serves = record {
    reading = reading;
    between = record { clock = after; link = carrier };
    given = given;
    link_is = refl;
    serves = inr (inr (record {
      between = between;
      opens = record { opened = opened; given = gave; ended = ended; steady = steady };
      serves = subst (λ (e : EntityData). ServesOpen (served e (record { clock = after; link = carrier }) left)
          (left ≡ record { clock = after; link = carrier }) serving.accept between now status) is serves;
    }));
  }
