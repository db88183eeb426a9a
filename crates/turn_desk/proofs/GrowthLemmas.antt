-- Runs and growth of lists of entries that are joined.
use Rattle.std.proofs.Common.{◌≡◌, ℕ, true, List, [], ◌∷◌, ◌++◌, map, refl, ap, sym, subst, ◌∙◌}
use Rattle.std.specs.List.{filter, All}
use Rattle.std.proofs.lemmas.List.{map-append}
use Rattle.std.proofs.lemmas.List.Elements.{filter-append, All-head, All-tail}
use Rattle.turn_desk.specs.Entries.{Entry, Marked, as_own, as_others, IsOwn, all_entries, own_entries, Runs}
use Rattle.turn_desk.specs.Growth.{Asks, Grew, AsksAll, IsOwnRun}

-- the own entries of two lists are those of the first and then those of the second
pub own_entries-append : {E O : Type 0} (xs ys : List (Marked E O)) → own_entries (xs ++ ys) ≡ own_entries xs ++ own_entries ys
own_entries-append xs ys =
    rw (filter-append (λ m. m.own) xs ys) (map-append (λ m. m.entry) (filter (λ m. m.own) xs) (filter (λ m. m.own) ys))

-- of others' entries none is own
pub own_entries-others : {E O : Type 0} (es : List (Entry E O)) → own_entries (map as_others es) ≡ []
own_entries-others [] = refl
own_entries-others (e ∷ es) = own_entries-others es

-- of others' entries and then one own, the one is own
pub own_entries-asked : {E O : Type 0} (others : List (Entry E O)) (e : Entry E O)
    → own_entries (map as_others others ++ as_own e ∷ []) ≡ e ∷ []
own_entries-asked others e =
    own_entries-append (map as_others others) (as_own e ∷ []) ∙ ap (λ es. es ++ e ∷ []) (own_entries-others others)

-- where every entry is own, the own ones are all
pub own_entries-all : {E O : Type 0} (xs : List (Marked E O)) → All IsOwn xs → own_entries xs ≡ all_entries xs
own_entries-all [] own = refl
own_entries-all (x ∷ xs) own =
    let it : x.own ≡ true = All-head IsOwn x xs own in
    rw it (ap (λ es. x.entry ∷ es) (own_entries-all xs (All-tail IsOwn x xs own)))

-- what an owner's seat grew by on its own is a run
pub Grew-runs : {X E O : Type 0} (step : ℕ → E → X → O → X → Type 0) {before after : X} {mine : List (Entry E O)}
    → Grew (IsOwnRun step) before mine after → Runs step before mine after
Grew-runs step {before = before} {after = after} g =
    subst (λ es. Runs step before es after) (sym (own_entries-all g.more g.grew.all_own) ∙ g.mine_only) g.grew.run

-- What growth by nothing and growth in a row give of the own entries, from the two laws of a desk.
module _ {S E O : Type 0} (grown : S → List (Marked E O) → S → Type 0) where
  -- an answer is growth by that one own entry
  pub Grew-asked : {before : S} {answer : Entry E O} {after : S} → Asks grown before answer after → Grew grown before (answer ∷ []) after
  Grew-asked {answer = answer} a = record {
    more = map as_others a.others ++ as_own answer ∷ [];
    grew = a.grew;
    mine_only = own_entries-asked a.others answer;
  }

  module _ (nothing : (seat : S) → grown seat [] seat) where
    -- a seat that did not ask yet
    pub Grew-nothing : (seat : S) → Grew grown seat [] seat
    Grew-nothing seat = record { more = []; grew = nothing seat; mine_only = refl }

    -- a seat that did not ask yet, as lists
    pub AsksAll-nothing : (seat : S) → AsksAll grown seat [] [] [] seat
    AsksAll-nothing seat = record { mine = []; grew = Grew-nothing seat; readings_are = refl; events_are = refl; outcomes_are = refl }

  module _ (on : (before between after : S) (more then : List (Marked E O)) → grown before more between → grown between then after → grown before (more ++ then) after) where
    -- two growths in a row
    pub Grew-append : {before between after : S} {es fs : List (Entry E O)}
        → Grew grown before es between → Grew grown between fs after → Grew grown before (es ++ fs) after
    Grew-append {before = before} {between = between} {after = after} first then = record {
      more = first.more ++ then.more;
      grew = on before between after first.more then.more first.grew then.grew;
      mine_only = own_entries-append first.more then.more ∙ rw (first.mine_only, then.mine_only) refl;
    }

    -- growth, and then one question
    pub Grew-ask : {before between after : S} {es : List (Entry E O)} {answer : Entry E O}
        → Grew grown before es between → Asks grown between answer after → Grew grown before (es ++ answer ∷ []) after
    Grew-ask first then = Grew-append first (Grew-asked then)

    -- all that was asked, and then all that was asked after it
    pub AsksAll-append : {before between after : S} {rs rs' : List ℕ} {es es' : List E} {os os' : List O}
        → AsksAll grown before rs es os between → AsksAll grown between rs' es' os' after
        → AsksAll grown before (rs ++ rs') (es ++ es') (os ++ os') after
    AsksAll-append first then = record {
      mine = first.mine ++ then.mine;
      grew = Grew-append first.grew then.grew;
      readings_are = map-append (λ e. e.reading) first.mine then.mine ∙ rw (first.readings_are, then.readings_are) refl;
      events_are = map-append (λ e. e.event) first.mine then.mine ∙ rw (first.events_are, then.events_are) refl;
      outcomes_are = map-append (λ e. e.outcome) first.mine then.mine ∙ rw (first.outcomes_are, then.outcomes_are) refl;
    }

    -- all that was asked so far, and then one question
    pub AsksAll-ask : {before between after : S} {rs : List ℕ} {es : List E} {os : List O} {answer : Entry E O}
        → AsksAll grown before rs es os between → Asks grown between answer after
        → AsksAll grown before (rs ++ answer.reading ∷ []) (es ++ answer.event ∷ []) (os ++ answer.outcome ∷ []) after
    AsksAll-ask {answer = answer} first then =
        AsksAll-append first (record {
          mine = answer ∷ [];
          grew = Grew-asked then;
          readings_are = refl;
          events_are = refl;
          outcomes_are = refl;
        })
