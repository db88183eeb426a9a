use Rattle.service_laws.proofs.GuardedLemmas.{serves_guarded}
use Rattle.service_laws.proofs.laws.a_connection_shows_and_changes_by_grant_alone.Goals as goal

pub returns : goal.returns
returns c = serves_guarded
