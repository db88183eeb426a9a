use Rattle.change_laws.proofs.MemberLemmas.{creation_keeps_members, update_keeps_members}
use Rattle.change_laws.proofs.groups.a_group_keeps_its_members_once.Goals as goal

pub returns-clause-created : goal.returns-clause-created
returns-clause-created c = creation_keeps_members

pub returns-clause-updated : goal.returns-clause-updated
returns-clause-updated c = update_keeps_members
