use Rattle.std.proofs.Common.{◌∙◌}
use Rattle.ws_binding.proofs.HearLemmas.{id_is_rqi}
use Rattle.ws_binding.proofs.payload.hear_value.Goals as goal

pub asking-requires-clause-same : goal.asking-requires-clause-same
asking-requires-clause-same c = c.in_ok-id.ensures.value ∙ id_is_rqi c.args.value c.in-Ok.request c.in-Ok.ensures.value
