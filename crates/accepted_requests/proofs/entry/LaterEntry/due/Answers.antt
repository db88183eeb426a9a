use Rattle.std.proofs.Common.{◌≡◌, ◌+◌, min, ap, arith, ◌∙◌}
use Rattle.m2m_names.specs.Stamps.{last_moment}
use Rattle.accepted_requests.specs.Entries.{due_of, entry_time}
use Rattle.accepted_requests.proofs.entry.LaterEntry.due.Goals as goal

pub returns-clause-value : goal.returns-clause-value
returns-clause-value c =
    let bounded : c.min.result + entry_time ≡ min (c.self.inside.accepted + entry_time) last_moment = omega (arith, c.min.ensures) in
    bounded ∙ ap due_of c.self.view_is

pub returns-clause-moment : goal.returns-clause-moment
returns-clause-moment c = omega (arith, c.min.ensures)
