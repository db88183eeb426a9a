-- What a link tells while requests are carried over it.
use Rattle.std.specs.Prelude.{◌≡◌, ◌≤◌, ℕ, Bool, true, false, not, List, Option, is_some}
use Rattle.std.specs.List.{list_any}
use Rattle.std.specs.Option.{option_map_or}
use Rattle.m2m_io.specs.Counts.{Rose}
use Rattle.m2m_io.specs.Link.{Carrying, Exchange, TellsCarried}

-- what a link tells: the exchanges that it made; and how often it has failed
pub record LinkTold : Type 0 where
  pub exchanges : Option (List Exchange)
  pub faults : ℕ

abbrev pub link_told : Option (List Exchange) → ℕ → LinkTold
link_told exchanges faults = record { exchanges = exchanges; faults = faults }

-- the exchange that was made for a request failed: there is no answer
abbrev pub has_failed : Carrying → Bool
has_failed carrying = option_map_or (λ exchange. not (is_some exchange.answer)) carrying.made false

-- Requests were carried over a link, one after another: it tells the exchanges that were made, and
-- its count of faults didn't fall, and rose where one of them failed, and only there.
pub record Carries (carried : List Carrying) (before now : LinkTold) : Type 0 where
  pub told : TellsCarried carried before.exchanges now.exchanges
  pub count : before.faults ≤ now.faults
  pub cause : list_any has_failed carried ≡ true → Rose before.faults now.faults
  pub steady : list_any has_failed carried ≡ false → now.faults ≡ before.faults
