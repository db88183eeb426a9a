use Rattle.m2m_io.proofs.ClockLemmas.{told_readings-next}
use Rattle.m2m_io.proofs.clock.MemClockClock.now.Goals as goal

pub returns-clause-told : goal.returns-clause-told
returns-clause-told c =
    rw (c.next_reading-reading.ensures, c.saturating_add-self-inside.ensures, ← c.self.view_is)
    (told_readings-next c.self.inside.readings.items c.self.inside.made)
