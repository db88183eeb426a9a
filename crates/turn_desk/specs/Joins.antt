-- Runs that are joined: the proofs that the desk of one owner brings for the laws of a desk.
use Rattle.std.proofs.Common.{ℕ, List, [], ◌∷◌, ◌++◌, refl, sym, subst}
use Rattle.std.proofs.lemmas.List.{map-append}
use Rattle.std.proofs.lemmas.List.Elements.{All-append, All-nil}
use Rattle.turn_desk.specs.Entries.{Entry, Marked, IsOwn, all_entries, Runs}
use Rattle.turn_desk.specs.Growth.{IsOwnRun}

-- a run and then a run from where it ended are one run
pub Runs-append : {E O X : Type 0} (step : ℕ → E → X → O → X
    → Type 0) (es fs : List (Entry E O)) (before between after : X)
    → Runs step before es between → Runs step between fs after → Runs step before (es ++ fs) after
Runs-append step [] fs before between after first then = subst
    (λ b. Runs step b fs after) first then
Runs-append step (e ∷ es) fs before between after first then =
    (first.0, first.1, Runs-append step es fs first.0 between after first.2 then)

-- no entry at all is a run from an object to itself
pub IsOwnRun-nothing : {E O X : Type 0} (step : ℕ → E → X → O → X → Type 0) (before : X)
    → IsOwnRun step before [] before
IsOwnRun-nothing step before = record { all_own = All-nil IsOwn; run = refl }

-- own entries that are a run, and then more of them, are a run
pub IsOwnRun-append : {E O X : Type 0} (step : ℕ → E → X → O → X
    → Type 0) (before between after : X) (more then : List (Marked E O))
    → IsOwnRun step before more between → IsOwnRun step between then after
    → IsOwnRun step before (more ++ then) after
IsOwnRun-append step before between after more then first second = record {
  all_own = All-append IsOwn more then first.all_own second.all_own;
  run = subst (λ es. Runs step before es after) (sym (map-append (λ m. m.entry) more then))
      (Runs-append step (all_entries more)
      (all_entries then) before between after first.run second.run);
}
