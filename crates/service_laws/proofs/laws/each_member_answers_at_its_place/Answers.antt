use Rattle.service_laws.proofs.MemberLemmas.{each_member}
use Rattle.service_laws.proofs.laws.each_member_answers_at_its_place.Goals as goal

pub returns : goal.returns
returns c = each_member
