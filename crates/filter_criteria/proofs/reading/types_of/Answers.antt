use Rattle.std.proofs.Common.{take, [], ◌∷◌, ◌++◌, sym, ap, ◌∙◌}
use Rattle.std.specs.List.{filter_map}
use Rattle.filter_criteria.specs.Values.{read_type_number}
use Rattle.filter_criteria.proofs.Lists.{filter_map-more}
use Rattle.filter_criteria.proofs.reading.types_of.Goals as goal

pub loop-part-preserved : goal.loop-part-preserved
loop-part-preserved c =
    let part = c.part-item.result in
    record {
      value = c.in_ok-push_type_number.ensures.items
          ∙ ap (λ ns. ns ++ filter_map read_type_number (part ∷ [])) c.loop-part.invariant.value
          ∙ ap (λ d. filter_map read_type_number (take c.loop-part.part-index c.alternatives-parts.result.now) ++ filter_map read_type_number (d ∷ [])) c.part-item.is
          ∙ sym (filter_map-more read_type_number c.alternatives-parts.result.now c.loop-part.part-index part c.loop-part-test.true);
      counts = c.in_ok-push_type_number.ensures.counts c.loop-part.invariant.counts;
    }
