use Rattle.primitive_json.proofs.RoundTrip.{request_back, request_of_kinds}
use Rattle.primitive_json.proofs.laws.requests_are_read_back.Goals as goal

pub returns-clause-kinds : goal.returns-clause-kinds
returns-clause-kinds c = request_of_kinds

pub returns-clause-back : goal.returns-clause-back
returns-clause-back c = request_back

pub returns-clause-readings : goal.returns-clause-readings
returns-clause-readings c = λ d r is short. request_back r (request_of_kinds d r is) short
