use Rattle.sight_laws.proofs.Terms.{Create, Update}
use Rattle.sight_laws.proofs.LawLemmas.{refusal_seen}
use Rattle.sight_laws.proofs.PlacesLemmas.{create_refused, update_refused}
use Rattle.sight_laws.proofs.laws.a_refusal_is_seen.Goals as goal

pub returns-clause-created : goal.returns-clause-created
returns-clause-created c = λ e o request n. refusal_seen Create e o request n (create_refused e o request)

pub returns-clause-updated : goal.returns-clause-updated
returns-clause-updated c = λ e o request n. refusal_seen Update e o request n (update_refused e o request)
