use Rattle.std.proofs.Common.{◌≡◌}
use Rattle.std.specs.Str.{bytes_eq}
use Rattle.std.proofs.lemmas.Slice.Eq.{bytes_eq-Decides}
use Rattle.m2m_names.proofs.LookupLemmas.{none_at, found_at}
use Rattle.primitive_json.specs.Members.{name_of_member, member_named, all_members}
use Rattle.primitive_json.proofs.FaultLemmas.{named_again}
use Rattle.primitive_json.proofs.member.Member.named.Goals as goal

pub returns-clause-found : goal.returns-clause-found
returns-clause-found c =
    found_at (λ member. bytes_eq (name_of_member member) c.args.name.now) all_members (λ member. name_of_member member ≡ c.args.name.now)
    (λ member. (bytes_eq-Decides (name_of_member member) c.args.name.now).0) c.find.result c.find.ensures

pub returns-clause-none : goal.returns-clause-none
returns-clause-none c = none_at name_of_member member_named named_again c.args.name.now c.find.result c.find.ensures
