use Rattle.retrieve_laws.proofs.GuardLemmas.{discovered_refused, found_granted, referred_granted, retrieved_refused, shown_granted}
use Rattle.retrieve_laws.proofs.rights.nothing_is_shown_or_found_without_a_grant.Goals as goal

pub returns : goal.returns
returns c = record {
  retrieved = retrieved_refused;
  shown = shown_granted;
  referred = referred_granted;
  discovered = discovered_refused;
  found = found_granted;
}
