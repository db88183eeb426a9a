use Rattle.http_target.proofs.UriLemmas.{targets_are_of_uris}
use Rattle.http_target.proofs.laws.targets_are_of_uris.Goals as goal

pub returns : goal.returns
returns c = targets_are_of_uris
