use Rattle.filter_criteria.specs.Values.{members_in}
use Rattle.primitive_json.proofs.KeptLemmas.{request_read}
use Rattle.primitive_json.proofs.reading.read_request.Goals as goal

pub returns : goal.returns
returns c = request_read (members_in c.args.value.now) _ _ _ c.in_ok-plain.ensures.value c.in_ok-kept.ensures c.in_ok-request_with.ensures.value
