use Rattle.std.proofs.Common.{◌≡◌, ℕ, List, [], get_or, Option, None, subst}
use Rattle.notify_outbox.specs.Queues.{Puts}
use Rattle.notify_outbox.specs.declared.queues.Queue.{Queue}
use Rattle.notify_outbox.proofs.QueueLemmas.{puts_last}
use Rattle.notify_outbox.proofs.queues.put.Goals as goal

nothing : Queue
nothing = record { channel = None; items = [] }

pub returns-in-Some-clause-put : goal.returns-in-Some-clause-put
returns-in-Some-clause-put c =
    let same : (get_or c.args.queues.now.items c.in-Some.place nothing).channel ≡ c.args.channel = subst (λ (qs : List Queue). (get_or qs c.in-Some.place nothing).channel ≡ c.args.channel) c.deref.ensures.value (c.in-Some.ensures.1 nothing) in
    subst (λ (channel : Option ℕ). Puts channel c.args.node c.args.queues.now.items c.put_at.new.queues.items) same (c.put_at.ensures.put nothing)

pub returns-in-None-clause-put : goal.returns-in-None-clause-put
returns-in-None-clause-put c = puts_last c.args.queues.now.items c.push.new.queues.items c.args.channel c.args.node c.push.ensures.items
