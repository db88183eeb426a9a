use Rattle.std.proofs.Common.{◌≡◌, ◌≤◌, ap, sym, ◌∙◌, subst, arith}
use Rattle.m2m_value.specs.Shapes.{largest_count}
use Rattle.entity_model.specs.Entity.{EntityData}
use Rattle.entity_model.specs.Sound.{IsSoundEntity}
use Rattle.entity_snapshot.proofs.writing.head_of.Goals as goal

pub returns-clause-sound : goal.returns-clause-sound
returns-clause-sound g c = subst IsSoundEntity c.entity.view_is c.entity.invariant

pub returns-clause-most : goal.returns-clause-most
returns-clause-most g c = subst (λ n. n ≤ largest_count) (ap (λ (e : EntityData). e.numbered) c.entity.view_is) (subst (λ n. n ≤ largest_count) c.count.ensures.value c.count.ensures.bound)
