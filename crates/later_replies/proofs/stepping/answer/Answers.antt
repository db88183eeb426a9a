use Rattle.std.proofs.Common.{sym, ap, ◌∙◌, subst}
use Rattle.m2m_names.specs.declared.codes.Rsc.{Rsc}
use Rattle.primitive_json.specs.declared.reply.ReplyParts.{ReplyParts}
use Rattle.group_fanout.specs.Rights.{claimed_originator}
use Rattle.later_replies.specs.Effects.{GivesLater, is_heard, later_effect}
use Rattle.later_replies.specs.Step.{is_heard_outcome}
use Rattle.later_replies.proofs.StepLemmas.{answered_reply, other_stands}
use Rattle.later_replies.proofs.stepping.answer.Goals as goal

pub returns-in-Done : goal.returns-in-Done
returns-in-Done c = λ home asked.
    let before = c.args.requests.now in
    let after = c.answer.new.self in
    let request = c.args.request.now in
    let reply = c.in-Done.reply in
    let status = ap (λ (r : ReplyParts). r.rsc) c.parts.ensures.same in
    let given = c.answer.ensures home (claimed_originator home request) (λ heard. asked (ap is_heard_outcome c.in-Done.is ∙ ap is_heard (sym status) ∙ heard)) in
    answered_reply home before after c.args.moment request c.args.told c.outcome_of.result reply c.in-Done.is
    (c.outcome_of.ensures before after (later_effect home before c.args.moment request reply.rsc)
    (subst (λ (s : Rsc). GivesLater c.answer.result before after (later_effect home before c.args.moment request s)) status given))

pub returns-in_default : goal.returns-in_default
returns-in_default c = λ home asked.
    other_stands home c.args.requests.now c.args.moment c.args.request.now c.args.told c.in_default.not-Done
