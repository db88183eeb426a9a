use Rattle.retrieve_laws.proofs.Terms.{default_home}
use Rattle.retrieve_laws.proofs.NamedLemmas.{one_address}
use Rattle.retrieve_laws.proofs.OwnLemmas.{own_addresses}
use Rattle.retrieve_laws.proofs.RightLemmas.{discovered_by_right, retrieved_by_right}
use Rattle.retrieve_laws.proofs.rights.others_are_shown_and_found_by_right.Goals as goal

pub returns : goal.returns
returns c = record {
  retrieved = λ home nodes o request n own. retrieved_by_right home nodes o own request n;
  discovered = λ home nodes o request n own. discovered_by_right home nodes o own request n;
  addresses = λ nodes address r s own. one_address default_home nodes own address r s;
  own = λ home nodes is tree base. own_addresses home nodes is tree base;
}
