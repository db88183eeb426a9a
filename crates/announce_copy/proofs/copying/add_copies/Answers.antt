use Rattle.announce_copy.proofs.copying.add_copies.Goals as goal

pub returns-in_ok-new-in-Updated-clause-value : goal.returns-in_ok-new-in-Updated-clause-value
returns-in_ok-new-in-Updated-clause-value g c =
    let sent = rw (c.in_ok-old-in-Updated.ensures.value, c.in_ok-new-in-Updated.ensures.value) at c.add_changed.ensures.value in
    rw c.in-Updated.is sent
