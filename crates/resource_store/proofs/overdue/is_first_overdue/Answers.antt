use Rattle.std.proofs.Common.{false, Option, ap, ◌∙◌}
use Rattle.std.specs.Option.{option_map_or}
use Rattle.resource_model.specs.Resource.{ResourceData}
use Rattle.resource_store.specs.Overdue.{is_first}
use Rattle.resource_store.proofs.overdue.is_first_overdue.Goals as goal

pub returns-in-Some : goal.returns-in-Some
returns-in-Some c =
    c.is_first.ensures ∙ ap (λ (o : Option ResourceData). option_map_or (is_first c.args.moment c.args.store.now) o false) c.in-Some.ensures.value

pub returns-in-None : goal.returns-in-None
returns-in-None c =
    ap (λ (o : Option ResourceData). option_map_or (is_first c.args.moment c.args.store.now) o false) c.in-None.ensures.value
