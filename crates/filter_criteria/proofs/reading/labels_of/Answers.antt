use Rattle.std.proofs.Common.{◌≡◌, ◌∷◌, ◌++◌, sym, ap, ◌∙◌, arith}
use Rattle.std.proofs.lemmas.Grind.{common_steps}
use Rattle.std.specs.List.{filter_map}
use Rattle.std.specs.Vec.Iter.{into_iter_items}
use Rattle.filter_criteria.specs.Conditions.{label_of}
use Rattle.filter_criteria.proofs.Lists.{filter_map-next}
use Rattle.filter_criteria.proofs.reading.labels_of.Goals as goal

pub loop-part-preserved : goal.loop-part-preserved
loop-part-preserved c =
    let l = c.loop-part in
    let rest = into_iter_items c.next.new.self in
    let step : into_iter_items l.part-iterator ≡ c.in-Some.part ∷ rest = grind (arith, common_steps) in
    record {
      value =
          ap (λ ls. ls ++ filter_map label_of rest) c.in_ok-push_label.ensures.items
          ∙ filter_map-next label_of l.texts.items c.in-Some.part rest
          ∙ ap (λ ds. l.texts.items ++ filter_map label_of ds) (sym step) ∙ l.invariant.value;
      utf8 = c.in_ok-push_label.ensures.utf8 l.invariant.utf8;
    }
