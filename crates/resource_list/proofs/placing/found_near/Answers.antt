use Rattle.std.proofs.Common.{refl, sym, ◌∙◌}
use Rattle.std.specs.List.{slice_get}
use Rattle.resource_list.proofs.PlaceLemmas.{near_found}
use Rattle.resource_list.proofs.placing.found_near.Goals as goal

pub returns-then-is_number_at : goal.returns-then-is_number_at
returns-then-is_number_at c =
    c.at_place.ensures ∙ near_found c.args.resources.now c.args.near c.args.number (slice_get c.args.resources.now c.args.near) c.requires refl (sym c.is_number_at.ensures ∙ c.if-is_number_at.true)
