use Rattle.std.proofs.Common.{rules}
use Rattle.std.proofs.lemmas.Fn.{filter_same}
use Rattle.accepted_requests.specs.Entries.{still_stands}
use Rattle.accepted_requests.proofs.list.keep_standing.Goals as goal

pub returns : goal.returns
returns c = filter_same _ (still_stands c.args.moment) _ (λ x b f' k. search rules) _ _ c.retain.ensures.filtered
