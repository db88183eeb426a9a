-- What a request says before it is answered.
use Rattle.std.specs.Prelude.{◌≡◌, ℕ, List, Bool, false, Some, option_map}
use Rattle.std.specs.Option.{option_map_or}
use Rattle.primitive_json.specs.declared.request.RequestParts.{RequestParts}
use Rattle.resource_model.specs.Home.{HomeData}
use Rattle.addressing.specs.Addresses.{address_of}
use Rattle.accepted_requests.specs.Effects.{owns}
use Rattle.accepted_requests.specs.Entries.{LaterRequestsData}
use Rattle.accepted_requests.specs.Names.{entry_at, is_here, number_in}
use Rattle.accepted_requests.specs.declared.asked.Asked.{Asked}

-- The accepted request that a text names, if it names one, is this originator's own.
abbrev pub names_own : HomeData → List ℕ → LaterRequestsData → List ℕ → Bool
names_own home who requests to = option_map_or (owns home who) (entry_at home to requests) false

-- It says who asks, where the address leads, and whose the accepted request is that it names.
pub record IsAskedAs (home : HomeData) (who : List ℕ) (requests : LaterRequestsData)
    (request : RequestParts) (asked : Asked) : Type 0 where
  pub originator : option_map (λ o. o.now) asked.originator ≡ Some who
  pub here : asked.is_here ≡ is_here (address_of home request.to)
  pub number : asked.number ≡ number_in (address_of home request.to)
  pub own : asked.is_own ≡ names_own home who requests request.to
