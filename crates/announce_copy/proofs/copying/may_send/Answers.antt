use Rattle.std.proofs.Common.{sym, ◌∙◌}
use Rattle.announce_copy.proofs.BelowLemmas.{unsent_creation, unsent_deletion, unsent_update}
use Rattle.announce_copy.proofs.copying.may_send.Goals as goal

pub returns-in-Created : goal.returns-in-Created
returns-in-Created c none home nodes =
    rw c.in-Created.is (unsent_creation home nodes c.in-Created.new.now (sym c.lists_peers.ensures ∙ none))

pub returns-else-lists_peers : goal.returns-else-lists_peers
returns-else-lists_peers c none home nodes =
    rw c.in-Updated.is (
    unsent_update home nodes c.in-Updated.before.now c.in-Updated.after.now c.in-Updated.named.now
    (sym c.lists_peers-in-Updated.ensures ∙ c.if-lists_peers.false)
    (sym c.lists_peers-else-lists_peers.ensures ∙ none))

pub returns-in-Deleted : goal.returns-in-Deleted
returns-in-Deleted c none home nodes =
    rw c.in-Deleted.is (unsent_deletion home nodes c.in-Deleted.gone.now (sym c.lists_peers-in-Deleted.ensures ∙ none))
