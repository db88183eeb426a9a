use Rattle.std.proofs.Common.{sym, ◌∙◌}
use Rattle.std.proofs.lemmas.Option.{same_Some}
use Rattle.http_binding.proofs.LawLemmas.{echo_is_id}
use Rattle.cse_server.proofs.RequestLemmas.{binds, no_id}
use Rattle.cse_server.proofs.replying.id_of.Goals as goal

pub unreachable-requires : goal.unreachable-requires
unreachable-requires c =
    let is = echo_is_id c.args.frame.now c.args.request.now (binds c.args.frame.now c.args.request.now c.requires) in
    no_id _ c.echo_id.result _ (c.echo_id.ensures.value ∙ is) c.in_default.not-Some

pub returns-clause-id : goal.returns-clause-id
returns-clause-id c =
    let is = echo_is_id c.args.frame.now c.args.request.now (binds c.args.frame.now c.args.request.now c.requires) in
    sym (same_Some _ _ (c.in-Some.ensures.value ∙ is))
