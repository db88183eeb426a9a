use Rattle.http_binding.proofs.LawLemmas.{originator_utf8, id_utf8, expiry_sound, query_sound}
use Rattle.http_binding.proofs.request.to_request_in.Goals as goal

pub request_of-requires-clause-originator : goal.request_of-requires-clause-originator
request_of-requires-clause-originator c = originator_utf8 _ c.args.frame.now.lines _ c.in_ok-caller.ensures

pub request_of-requires-clause-id : goal.request_of-requires-clause-id
request_of-requires-clause-id c = id_utf8 _ c.args.frame.now.lines _ c.in_ok-caller.ensures

pub request_of-requires-clause-expiry : goal.request_of-requires-clause-expiry
request_of-requires-clause-expiry c = expiry_sound _ c.args.frame.now.lines _ c.in_ok-caller.ensures

pub request_of-requires-clause-filter : goal.request_of-requires-clause-filter
request_of-requires-clause-filter c = query_sound _ c.in_ok-target.target.query.now _ c.in_ok-query.ensures
