use Rattle.std.proofs.Common.{◌≡◌, OnOk, Result, Ok, Err, refl, sym, subst, ◌∙◌}
use Rattle.primitive_json.specs.declared.reply.ReplyParts.{ReplyParts}
use Rattle.entity_model.specs.Entity.{EntityData}
use Rattle.entity_model.specs.Places.{ComesTo}
use Rattle.cse_machine.proofs.OutcomeLemmas.{poll_absent, poll_there}
use Rattle.cse_machine.proofs.machine.reach_poll.Goals as goal

-- at the poll point of a channel its operation is done
pub returns-then-is_there-clause-gives : goal.returns-then-is_there-clause-gives
returns-then-is_there-clause-gives g c =
    let is =
    poll_there c.args.entity.now c.args.request.now c.args.channel
    (sym c.is_there.ensures ∙ c.if-is_there.true) in
    subst (ComesTo c.operate_poll.result c.operate_poll.new.entity) (sym is) c.operate_poll.ensures.gives

-- a refusal leaves the entity as it is
stays : {E : Type 0} (result : Result ReplyParts E) (e : EntityData) → OnOk result (e ≡ e)
stays (Ok reply) e = refl
stays (Err fault) e = tt

-- and where there is none, it names nothing
pub returns-else-is_there-clause-gives : goal.returns-else-is_there-clause-gives
returns-else-is_there-clause-gives g c =
    let is =
    poll_absent c.args.entity.now c.args.request.now c.args.channel
    (sym c.is_there.ensures ∙ c.if-is_there.false) in
    subst (ComesTo c.refuse.result c.args.entity.now) (sym is) (record { reply = c.refuse.ensures; after = stays c.refuse.result c.args.entity.now })
