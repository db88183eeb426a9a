use Rattle.http_client_binding.proofs.AddressLemmas.{address_back}
use Rattle.http_client_binding.proofs.laws.an_address_is_read_back.Goals as goal

pub returns : goal.returns
returns c = address_back
