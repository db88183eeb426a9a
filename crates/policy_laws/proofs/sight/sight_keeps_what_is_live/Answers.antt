use Rattle.policy_laws.proofs.DueLemmas.{due-seen, is_due-seen, live-seen, grants-live, relinks-live, fan_grants-live, retrieved-live}
use Rattle.policy_laws.proofs.RetrievedLemmas.{attributes-live}
use Rattle.policy_laws.proofs.sight.sight_keeps_what_is_live.Goals as goal

pub returns-clause-due : goal.returns-clause-due
returns-clause-due c = λ home nodes o r well found. due-seen home nodes o well r found

pub returns-clause-picks : goal.returns-clause-picks
returns-clause-picks c = λ home nodes o moment r well found. is_due-seen home nodes o well moment r found

pub returns-clause-live : goal.returns-clause-live
returns-clause-live c = λ home nodes o moment well. live-seen home nodes o well moment

pub returns-clause-rights : goal.returns-clause-rights
returns-clause-rights c = λ home nodes o moment bit n well. grants-live home nodes o well moment bit n

pub returns-clause-links : goal.returns-clause-links
returns-clause-links c = λ home nodes o moment n well. relinks-live home nodes o well moment n

pub returns-clause-fans : goal.returns-clause-fans
returns-clause-fans c = λ home nodes o moment bit n well. fan_grants-live home nodes o well moment bit n

pub returns-clause-retrieved : goal.returns-clause-retrieved
returns-clause-retrieved c = λ home nodes o moment n well right. retrieved-live home nodes o well moment n right

pub returns-clause-attributes : goal.returns-clause-attributes
returns-clause-attributes c = λ home nodes o moment n r well found right. attributes-live home nodes o well moment n r found right
