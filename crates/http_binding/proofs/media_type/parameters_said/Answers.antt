use Rattle.std.proofs.Common.{rules, tests}
use Rattle.std.proofs.lemmas.Iterator.Splits.{YieldsList-from_slice_split}
use Rattle.std.proofs.lemmas.Iterator.Consumers.{fold_from_yields_List}
use Rattle.http_binding.specs.MediaTypes.{next_said}
use Rattle.http_binding.proofs.media_type.parameters_said.Goals as goal

pub returns : goal.returns
returns c =
    fold_from_yields_List _ next_said _ _ c.fold.ensures.ran
    (YieldsList-from_slice_split _ _ c.args.text.now c.split.ensures.rest c.split.ensures.done c.split.ensures.closure (λ x b q k. search (rules, tests)))
    (λ a x b q k. search (rules, tests))
