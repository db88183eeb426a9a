use Rattle.std.proofs.Common.{◌≡◌, ℕ, ◌∷◌, ◌+◌, List, IsUtf8, subst}
use Rattle.std.specs.List.{AllByRecursion}
use Rattle.std.specs.Vec.Iter.{into_iter_items}
use Rattle.group_fanout.proofs.FanLemmas.{IsAskedSoFar, asked_cut_more, asked_more, asks_still}
use Rattle.group_fanout.proofs.fanning.ask_all.Goals as goal

-- one more is done, where there is no memory to tell of it
pub returns-in-Err-clause-cut : goal.returns-in-Err-clause-cut
returns-in-Err-clause-cut g c =
    let so =
    subst (λ (xs : List (List ℕ)). IsAskedSoFar c.args.entity.now c.args.request.now c.args.addresses.items xs c.loop-address.done c.loop-address.entity c.loop-address.replies.items)
    c.in-Some.ensures.steps.0 c.loop-address.invariant.so in
    asked_cut_more c.args.entity.now c.args.request.now c.args.addresses.items (into_iter_items c.next.new.self) c.loop-address.done c.loop-address.entity c.ask_member.new.entity
    c.loop-address.replies.items c.in-Some.address c.in-Ok.reply so c.in-Ok.ensures.gives.reply c.in-Ok.ensures.gives.after

-- one more is done, and told of
pub loop-address-preserved : goal.loop-address-preserved
loop-address-preserved g c =
    let rest = into_iter_items c.next.new.self in
    let so =
    subst (λ (xs : List (List ℕ)). IsAskedSoFar c.args.entity.now c.args.request.now c.args.addresses.items xs c.loop-address.done c.loop-address.entity c.loop-address.replies.items)
    c.in-Some.ensures.steps.0 c.loop-address.invariant.so in
    let more =
    asked_more c.args.entity.now c.args.request.now c.args.addresses.items rest c.loop-address.done c.loop-address.entity c.ask_member.new.entity
    c.loop-address.replies.items c.add_reply.new.replies.items c.in-Some.address c.in-Ok.reply so c.in-Ok.ensures.gives.reply c.in-Ok.ensures.gives.after c.in_default-add_reply.ensures in
    let texts = subst (AllByRecursion IsUtf8) c.in-Some.ensures.steps.0 c.loop-address.invariant.texts in
    record {
      so = more;
      texts = texts.1;
      claimed =
          asks_still c.args.entity.now c.args.request.now c.args.addresses.items rest (c.loop-address.done + 1) c.ask_member.new.entity c.add_reply.new.replies.items
          c.args.originator.now more c.requires.claimed;
    }
