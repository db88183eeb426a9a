-- What it says that a discovery finds a resource.
use Rattle.std.proofs.Common.{◌≡◌, ℕ, List, true}
use Rattle.std.proofs.lemmas.Bool.{and_parts}
use Rattle.filter_criteria.specs.declared.filter.FilterParts.{FilterParts}
use Rattle.resource_model.specs.Home.{HomeData}
use Rattle.resource_model.specs.Resource.{ResourceData}
use Rattle.policy_eval.specs.Rights.{grants, discovery_bit}
use Rattle.retrieve_discover.specs.Conditions.{meets}
use Rattle.retrieve_discover.specs.Findings.{is_found}

-- the originator may discover it, and it meets the conditions
pub record IsFoundFor (home : HomeData) (nodes : List ResourceData) (originator : List ℕ) (f : FilterParts) (r : ResourceData) : Type 0 where
  pub granted : grants home nodes originator discovery_bit r.number ≡ true
  pub meets : meets nodes f r ≡ true

pub found_parts : (home : HomeData) (nodes : List ResourceData) (originator : List ℕ) (f : FilterParts) (r : ResourceData) → is_found home nodes originator f r ≡ true → IsFoundFor home nodes originator f r
found_parts home nodes originator f r found =
    let parts = and_parts (grants home nodes originator discovery_bit r.number) (meets nodes f r) found in
    record { granted = parts.0; meets = parts.1 }
