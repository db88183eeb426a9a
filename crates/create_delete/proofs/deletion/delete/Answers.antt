use Rattle.std.proofs.Common.{◌≡◌, OnOk, Result, Ok, Err, refl, sym, subst}
use Rattle.m2m_names.specs.declared.operations.Op.TheVariants.{Delete}
use Rattle.primitive_json.specs.declared.reply.ReplyParts.{ReplyParts}
use Rattle.entity_model.specs.Entity.{EntityData}
use Rattle.entity_model.specs.Places.{ComesTo}
use Rattle.create_delete.proofs.EffectLemmas.{told_refused_at}
use Rattle.create_delete.proofs.deletion.delete.Goals as goal

-- a refusal leaves the entity as it is
stays : {E : Type 0} (result : Result ReplyParts E) (e : EntityData) → OnOk result (e ≡ e)
stays (Ok reply) e = refl
stays (Err fault) e = tt

-- what is refused gives that
pub returns-in-Some-clause-gives : goal.returns-in-Some-clause-gives
returns-in-Some-clause-gives g c =
    let e = c.args.entity.now in
    let is = told_refused_at Delete e c.args.originator.now c.args.request.now c.args.target c.in-Some.fault (sym c.in-Some.ensures.fault) in
    subst (ComesTo c.refuse.result e) (sym is) (record { reply = c.refuse.ensures; after = stays c.refuse.result e })
