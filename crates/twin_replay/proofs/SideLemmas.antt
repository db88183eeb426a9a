-- What came of a request for which there was memory.
use Rattle.std.proofs.Common.{◌≡◌, Result, Ok, Err, OnOk, true}
use Rattle.cse_machine.specs.History.{IsDone}
use Rattle.cse_machine.specs.declared.event.Outcome.{Outcome}
use Rattle.cse_machine.specs.declared.event.Outcome.TheVariants.{Done, Forward, Item, Ticked, Starved}
use Rattle.twin_replay.specs.Sides.{has_memory}

pub done_of : (outcome : Outcome) → has_memory outcome ≡ true → IsDone outcome
done_of (Done reply) is = tt
done_of (Forward poa onward) is = tt
done_of (Item given) is = tt
done_of Ticked is = tt
done_of (Starved done) is = cc

-- what a result says that is well, said otherwise
pub on_ok : {A E P Q : Type 0} (result : Result A E) → (P → Q) → OnOk result P → OnOk result Q
on_ok (Ok value) other said = other said
on_ok (Err e) other said = tt
