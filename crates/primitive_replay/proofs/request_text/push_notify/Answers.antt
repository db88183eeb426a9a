use Rattle.std.proofs.Common.{◌≡◌, ◌++◌, ◌∷◌, [], rules}
use Rattle.primitive_replay.proofs.RequestLemmas.{notify_written}
use Rattle.primitive_replay.proofs.request_text.push_notify.Goals as goal

pub returns : goal.returns
returns c =
    let first : c.push.new.self.items ≡ c.args.text.now.items ++ 123 ∷ [] = search rules in
    let last : c.push-2.new.self.items ≡ c.push_target.new.text.items ++ 125 ∷ [] = search rules in
    notify_written c.args.parts _ c.args.text.now.items _ _ _ _ _ c.requires.notify c.in_ok-rqet.ensures first c.in_ok-push_front.ensures c.in_ok-push_back.ensures c.in_ok-push_target.ensures last
