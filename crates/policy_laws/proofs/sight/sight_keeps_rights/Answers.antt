use Rattle.policy_laws.proofs.SeenLemmas.{seen_shows, at-seen, child-seen, ae_id-seen, grants-seen, relinks-seen, fan_grants-seen}
use Rattle.policy_laws.proofs.sight.sight_keeps_rights.Goals as goal

pub returns-clause-shown : goal.returns-clause-shown
returns-clause-shown c = seen_shows

pub returns-clause-found : goal.returns-clause-found
returns-clause-found c = at-seen

pub returns-clause-children : goal.returns-clause-children
returns-clause-children c = child-seen

pub returns-clause-entities : goal.returns-clause-entities
returns-clause-entities c = ae_id-seen

pub returns-clause-rights : goal.returns-clause-rights
returns-clause-rights c = grants-seen

pub returns-clause-links : goal.returns-clause-links
returns-clause-links c = relinks-seen

pub returns-clause-fans : goal.returns-clause-fans
returns-clause-fans c = fan_grants-seen
