-- Rows that say how many notifications are left to subscriptions, each by its number.
use Rattle.std.specs.Prelude.{ℕ, ◌==◌, List, filter, Bool, not}
use Rattle.std.specs.Map.{keys_of}

-- none is left
abbrev pub has_none : ℕ × ℕ → Bool
has_none row = row.1 == 0

-- the rows by which some are left
abbrev pub some_left : List (ℕ × ℕ) → List (ℕ × ℕ)
some_left rows = filter (λ row. not (has_none row)) rows

-- the numbers of those to which none is left
abbrev pub spent_numbers : List (ℕ × ℕ) → List ℕ
spent_numbers rows = keys_of (filter has_none rows)
