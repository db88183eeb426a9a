-- What a target says: its address, and its query (TS-0009, 6.2.2).
use Rattle.std.specs.Prelude.{ℕ, List, [], ◌∷◌, Result, Ok, Err, if◌then◌else◌}
use Rattle.std.specs.Option.{option_map_or}
use Rattle.m2m_names.specs.declared.operations.Op.{Op}
use Rattle.http_frames.specs.declared.frame.Start.{Start}
use Rattle.http_frames.specs.declared.frame.Start.TheVariants.{Ask, Answer}
use Rattle.http_target.specs.Chain.{and_then}
use Rattle.http_target.specs.Queries.{Pair, decoded_pairs, nothing_said, pair_said}
use Rattle.http_target.specs.Targets.{PathAndQuery, TargetValues, target_parts, target_values}
use Rattle.http_target.specs.Targets.{is_target}
use Rattle.http_target.specs.declared.fault.BindFault.{BindFault}
use Rattle.http_target.specs.declared.fault.BindFault.TheVariants as bind
use Rattle.http_target.specs.declared.query.Query.{Query}

-- what the path and the query of a target say
abbrev pub said_by_target : PathAndQuery → Result TargetValues BindFault
said_by_target parts =
    if is_target (target_values parts) then Ok (target_values parts) else Err bind.Target

-- What the target of a start line says: its address and query, else the fault of the target.
abbrev pub target_of : Start → Result TargetValues BindFault
target_of (Ask name target minor) =
    option_map_or said_by_target (target_parts target) (Err bind.Target)
target_of (Answer status minor) = Err bind.Target

-- what the pairs say behind what was said, one after another, or the fault of the first that is bad
abbrev pub said_by : Op → List Pair → Query → Result Query BindFault
said_by op [] q = Ok q
said_by op (pair ∷ pairs) q = and_then (pair_said op pair q) (said_by op pairs)

-- what a query says on an operation
abbrev pub query_said : Op → List ℕ → Result Query BindFault
query_said op query = said_by op (decoded_pairs query) nothing_said
