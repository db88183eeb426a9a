use Rattle.std.specs.Prelude.{not}
use Rattle.std.proofs.Common.{◌==◌, rules}
use Rattle.std.proofs.lemmas.Fn.{filter_same}
use Rattle.accepted_requests.specs.Entries.{LaterEntryData}
use Rattle.accepted_requests.proofs.list.take_out.Goals as goal

pub returns : goal.returns
returns c = filter_same _ (λ (e : LaterEntryData). not (e.number == c.args.number)) _ (λ x b f' k. search rules) _ _ c.retain.ensures.filtered
