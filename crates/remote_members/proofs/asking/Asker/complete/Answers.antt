use Rattle.std.proofs.Common.{◌≡◌, [], false, sym, ap, ◌∙◌}
use Rattle.std.proofs.lemmas.Result.{err_from_is_err_and}
use Rattle.group_fanout.specs.Fan.{requests_to}
use Rattle.primitive_json.specs.declared.reply.ReplyParts.{ReplyParts}
use Rattle.remote_members.specs.Remote.{told_of_members}
use Rattle.remote_members.specs.Wide.{tells_of_away}
use Rattle.remote_members.proofs.AskLemmas.{none_asked, not_some}
use Rattle.remote_members.proofs.RemoteLemmas.{some_told, stays_whole}
use Rattle.remote_members.proofs.WideLemmas.{completes, kept_is, members_complete}
use Rattle.remote_members.proofs.asking.Asker.complete.Goals as goal

pub returns-in_err-tells_of_away-clause-asks : goal.returns-in_err-tells_of_away-clause-asks
returns-in_err-tells_of_away-clause-asks g c = λ request kept.
    let failed = err_from_is_err_and c.from_residual.result c.from_residual.ensures.1 in
    rw failed.1 (none_asked g.D.Desk.grown g.met.D.Desk.grown_by_nothing c.args.seat.now _ _ _ _ _ tt)

-- it tells of no member away
pub returns-then-not-branch-clause-asks : goal.returns-then-not-branch-clause-asks
returns-then-not-branch-clause-asks g c = λ request kept.
    let tells : tells_of_away c.args.self.now.home.now c.args.reply ≡ false = sym c.in_ok-tells_of_away.ensures ∙ c.if-not-branch.true in
    let whole = stays_whole c.args.self.now.home.now c.args.reply tells in
    none_asked g.D.Desk.grown g.met.D.Desk.grown_by_nothing c.args.seat.now _ _ _ _ _ (ap (requests_to request) whole.0, sym (whole.1 []))

-- no copy of the request was kept
pub returns-in_default-clause-asks : goal.returns-in_default-clause-asks
returns-in_default-clause-asks g c = λ request kept.
    none_asked g.D.Desk.grown g.met.D.Desk.grown_by_nothing c.args.seat.now _ _ _ _ _ tt

-- memory ran out for what it tells of members
pub returns-in_err-entries-clause-asks : goal.returns-in_err-entries-clause-asks
returns-in_err-entries-clause-asks g c = λ request kept.
    let failed = err_from_is_err_and c.from_residual-in_err-entries.result c.from_residual-in_err-entries.ensures.1 in
    rw failed.1 (none_asked g.D.Desk.grown g.met.D.Desk.grown_by_nothing c.args.seat.now _ _ _ _ _ tt)

-- one that tells of members away tells of members
pub unreachable-requires : goal.unreachable-requires
unreachable-requires g c =
    let home = c.args.self.now.home.now in
    let parts = c.into_parts-rsc.result in
    let same = c.into_parts-rsc.ensures.same in
    let some = sym c.in_ok-tells_of_away.ensures ∙ c.if-not-branch.false in
    let none = rw (not_some c.in_ok-entries.field-0 c.in_default-2.not-Some) at c.in_ok-entries.ensures in
    some_told home c.args.reply some (ap (λ (r : ReplyParts). told_of_members r.pc) (sym same) ∙ sym none)

-- memory ran out at a member
pub returns-in_err-told-clause-asks : goal.returns-in_err-told-clause-asks
returns-in_err-told-clause-asks g c = λ request kept.
    let failed = err_from_is_err_and c.from_residual-in_err-told.result c.from_residual-in_err-told.ensures.1 in
    let tells = rw c.in-Some-2.is at c.in_ok-entries.ensures in
    rw failed.1 (members_complete g.D.Desk.grown (λ told. told.items) c.args.seat.now c.tell_members.new.seat _ _ _ _ c.args.self.now.home.now c.in-Some.request request
    c.into_parts-rsc.result c.args.reply c.in-Some-2.entries.items c.tell_members.result _ (kept_is c.args.kept c.in-Some.request request c.in-Some.is kept)
    c.into_parts-rsc.ensures.same (sym tells) c.tell_members.ensures.asks tt)

-- it ran out for the content
pub returns-in_err-content-clause-asks : goal.returns-in_err-content-clause-asks
returns-in_err-content-clause-asks g c = λ request kept.
    let failed = err_from_is_err_and c.from_residual-in_err-content.result c.from_residual-in_err-content.ensures.1 in
    let tells = rw c.in-Some-2.is at c.in_ok-entries.ensures in
    rw failed.1 (members_complete g.D.Desk.grown (λ told. told.items) c.args.seat.now c.tell_members.new.seat _ _ _ _ c.args.self.now.home.now c.in-Some.request request
    c.into_parts-rsc.result c.args.reply c.in-Some-2.entries.items c.tell_members.result _ (kept_is c.args.kept c.in-Some.request request c.in-Some.is kept)
    c.into_parts-rsc.ensures.same (sym tells) c.tell_members.ensures.asks tt)

-- it is completed
pub returns-clause-asks : goal.returns-clause-asks
returns-clause-asks g c = λ request kept.
    let home = c.args.self.now.home.now in
    let parts = c.into_parts-rsc.result in
    let tells = rw c.in-Some-2.is at c.in_ok-entries.ensures in
    let asks = c.in_ok-told.ensures.asks in
    members_complete g.D.Desk.grown (λ told. told.items) c.args.seat.now c.tell_members.new.seat _ _ _ _ home c.in-Some.request request
    parts c.args.reply c.in-Some-2.entries.items _ _ (kept_is c.args.kept c.in-Some.request request c.in-Some.is kept)
    c.into_parts-rsc.ensures.same (sym tells) asks (
      asks.given_all.0,
      c.of.ensures ∙ completes home parts c.in-Some-2.entries.items c.in_ok-told.told.items c.in_ok-content.content asks.asked.replies
          (sym tells) asks.given_all.1 c.in_ok-content.ensures,
    )
