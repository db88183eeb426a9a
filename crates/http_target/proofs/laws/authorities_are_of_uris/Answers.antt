use Rattle.http_target.proofs.AuthorityLemmas.{authorities_are_of_uris}
use Rattle.http_target.proofs.laws.authorities_are_of_uris.Goals as goal

pub returns : goal.returns
returns c = authorities_are_of_uris
