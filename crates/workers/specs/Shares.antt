-- Seats that were split off one seat, and are joined into it again.
use Rattle.std.specs.Prelude.{◌≡◌, ◌<◌, ◌*◌, ℕ, List, [], ◌∷◌, ◌++◌, ⊤}
use Rattle.std.specs.List.{All}
use Rattle.atomic_table.specs.Seated.{TableId}
use Rattle.turn_desk.specs.declared.shared.DeskSeat.{DeskSeat}
use Rattle.turn_desk.specs.declared.view.View.{View}
use Rattle.turn_desk.specs.Seats.{IsSeated, known_to}
use Rattle.turn_desk.specs.Entries.{Marked}
use Rattle.turn_desk.specs.Shared.{Begins, Weighed, total, Grows}

-- the one list has a member for each of the other, and these are so
abbrev pub Pairwise : {A B : Type 0} → (A → B → Type 0) → List A → List B → Type 0
Pairwise P [] [] = ⊤
Pairwise P [] (y ∷ ys) = ⊥
Pairwise P (x ∷ xs) [] = ⊥
Pairwise P (x ∷ xs) (y ∷ ys) = P x y × Pairwise P xs ys

module _ {X E R : Type 0} where
  -- A seat went on from another: what it has seen begins with what that one had seen, and its own
  -- entries with that one's own.
  pub record HasGoneOn (before after : View X E R) : Type 0 where
    pub opening : after.opening ≡ before.opening
    pub seen : Begins after.seen before.seen
    pub own : Begins after.own before.own

  -- both have the same part of the desk: the fractions are equal
  abbrev pub HasPartOf : View X E R → View X E R → Type 0
  HasPartOf before after = after.share * before.whole ≡ before.share * after.whole

  -- The parts of these seats add up to the part of this one: so many of a number of equal shares.
  pub record AddUpTo (v : View X E R) (views : List (View X E R)) : Type 0 where
    pub weights : List ℕ
    pub number : ℕ
    pub positive : 0 < number
    pub weighed : Weighed number views weights
    pub all : v.share * number ≡ total (λ n. n) weights * v.whole

  -- whatever part these seats add up to, those do
  abbrev pub PassesOn : List (View X E R) → List (View X E R) → Type 0
  PassesOn views others = (v : View X E R) → AddUpTo v views → AddUpTo v others

  -- The seat asked, and others did.
  abbrev pub HasGrown : View X E R → View X E R → Type 0
  HasGrown before after = (more : List (Marked E R)) × Grows before more after

  -- seat by seat, they asked, and others did
  abbrev pub HaveGrown : List (View X E R) → List (View X E R) → Type 0
  HaveGrown before after = Pairwise HasGrown before after

  -- The seat has no entries of its own.
  abbrev pub HasNone : View X E R → Type 0
  HasNone v = v.own ≡ []

  -- The seat has seen all that these seats have.
  abbrev pub HasSeenAll : View X E R → List (View X E R) → Type 0
  HasSeenAll v views = All (λ w. Begins v.seen w.seen) views

  -- The own entries of these seats, one seat after another.
  abbrev pub all_own : List (View X E R) → List ℕ
  all_own [] = []
  all_own (v ∷ views) = v.own ++ all_own views

  -- A seat has come of this one and of those that were split off it: it is of this desk and stands
  -- between two questions, went on from this one, and has the parts of all.
  pub record IsJoinedOf (step : ℕ → E → X → R → X → Type 0) (desk : TableId)
      (kept : View X E R) (others : List (View X E R)) (seat : DeskSeat X E R) : Type 0 where
    pub seated : IsSeated step desk seat
    pub on : HasGoneOn kept (known_to seat)
    pub parts : PassesOn (kept ∷ others) (known_to seat ∷ [])

  -- A seat has come back to who lent one that knew this: it is of this desk and stands between two
  -- questions, went on from that one, and has the part again that it had.
  pub record HasComeBack (step : ℕ → E → X → R → X → Type 0) (desk : TableId)
      (lent : View X E R) (back : DeskSeat X E R) : Type 0 where
    pub seated : IsSeated step desk back
    pub on : HasGoneOn lent (known_to back)
    pub part : HasPartOf lent (known_to back)
