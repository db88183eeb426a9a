use Rattle.std.proofs.Common.{Some, ap}
use Rattle.m2m_names.specs.declared.codes.Rsc.TheVariants as status
use Rattle.m2m_value.specs.Data.{Data}
use Rattle.entity_model.specs.Places.{reply_to}
use Rattle.request_rules.proofs.OrderLemmas.{told_as}
use Rattle.accepted_requests.proofs.answering.told_number.Goals as goal

pub returns : goal.returns
returns c =
    told_as c.reply_to.result _ _ (ap (λ (d : Data). reply_to c.args.request.now status.Accepted (Some d)) c.in_ok-content.ensures) c.reply_to.ensures
