-- The reading at which a new journal begins.
use Rattle.std.proofs.Common.{◌≡◌, ℕ, ◌<◌, ◌^◌, min, max, ap, arith}
use Rattle.resource_model.specs.Home.{HomeData}
use Rattle.entity_model.specs.Entity.{EntityData, blank, cut, event_moment}
use Rattle.entity_model.specs.Opening.{opening, opening_nodes}
use Rattle.journal_lines.specs.Lines.{moment_bound}

pub moment_first : (reading : ℕ) → event_moment 0 reading ≡ cut reading
moment_first reading = omega arith

pub moment_short : (reading : ℕ) → event_moment 0 reading < moment_bound
moment_short reading = omega arith

cut_again : (reading : ℕ) → cut (cut reading) ≡ cut reading
cut_again reading = omega arith

pub opening_again : (home : HomeData) (reading : ℕ) → opening home (cut reading) ≡ opening home reading
opening_again home reading =
    ap (λ m. record (blank home) { nodes = opening_nodes home m; next = 3; last = m }) (cut_again reading)
