use Rattle.turn_desk.proofs.GrowthLemmas.{Grew-runs}
use Rattle.turn_desk.proofs.laws.an_owner_sees_a_run.Goals as goal

-- where every entry is own, the own ones are all
pub returns-clause-mine : goal.returns-clause-mine
returns-clause-mine g c = λ before after mine grew. Grew-runs g.O.Object.step grew
