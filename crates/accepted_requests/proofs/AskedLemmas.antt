-- Whether an accepted request is the originator's own.
use Rattle.std.specs.Prelude.{false}
use Rattle.std.proofs.Common.{◌≡◌, ℕ, Bool, List, Option, Some, None, ap, ◌∙◌}
use Rattle.std.specs.Option.{option_map_or}
use Rattle.std.proofs.lemmas.Option.{same_Some}
use Rattle.resource_model.specs.Home.{HomeData}
use Rattle.policy_eval.specs.Originators.{is_same}
use Rattle.accepted_requests.specs.Entries.{LaterEntryData}

-- one that is kept, or none, is an originator's own
abbrev pub owned_by : HomeData → Option LaterEntryData → List ℕ → Bool
owned_by home found who = option_map_or (λ (e : LaterEntryData). is_same home e.originator who) found false

-- this originator is the one that is said
pub owned_as : (home : HomeData) (found : Option LaterEntryData) (o who : List ℕ) (own : Bool) → own ≡ owned_by home found o → Some o ≡ Some who → own ≡ owned_by home found who
owned_as home found o who own is said = is ∙ ap (owned_by home found) (same_Some o who said)

-- none is said
pub none_said : (P : Type 0) (who : List ℕ) → None ≡ Some who → P
none_said P who said = cc
