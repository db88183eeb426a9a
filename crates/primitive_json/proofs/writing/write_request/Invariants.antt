use Rattle.std.proofs.Common.{◌≡◌, map, take}
use Rattle.primitive_json.specs.Members.{all_members}
use Rattle.filter_criteria.specs.Values.{present}
use Rattle.primitive_json.specs.Writing.{written_member}
use Rattle.primitive_json.proofs.writing.write_request.Given as goal

abbrev pub invariant-loop-member : goal.invariant-loop-member
invariant-loop-member l = l.entries.items ≡ present (map (written_member l.parts) (take l.member-index all_members))
