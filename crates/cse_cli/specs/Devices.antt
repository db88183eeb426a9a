-- The devices that a command works with.
use Rattle.std.specs.Prelude.{ℕ, List, Option}
use Rattle.cse_server.specs.Outside.{LinkTold, Outside, outside, sink_told}
use Rattle.cse_server.specs.declared.bench.Bench.{Bench}
use Rattle.workers.specs.Gate.{DoorTold}

-- the two streams, a bench and a door; what clocks and links tell; and what these tell, and how
-- often the streams have failed
pub record Devices (S O C L D : Type 0) : Type 0 where
  pub input : S
  pub out : O
  pub bench : Bench C L
  pub door : D
  pub clock_tells : C → Option (List ℕ)
  pub link_tells : L → LinkTold
  pub told : Outside
  pub read_faults : ℕ
  pub write_faults : ℕ
  pub door_told : DoorTold

module _ {S O C L D : Type 0} where
  -- The devices of the program, with what each of them tells by these functions.
  abbrev pub devices_by : (S → Option (List ℕ)) → (S → ℕ) → (O → Option (List ℕ))
      → (O → Option ℕ) → (O → ℕ) → (C → Option (List ℕ)) → (L → LinkTold) → (D → DoorTold)
      → S → O → Bench C L → D → Devices S O C L D
  devices_by left read_faults written puts write_faults readings link_tells door_told =
      λ input out bench door. record {
        input = input;
        out = out;
        bench = bench;
        door = door;
        clock_tells = readings;
        link_tells = link_tells;
        told = outside (left input) (sink_told (written out) (puts out)) (readings bench.clock)
            (link_tells bench.link);
        read_faults = read_faults input;
        write_faults = write_faults out;
        door_told = door_told door;
      }
