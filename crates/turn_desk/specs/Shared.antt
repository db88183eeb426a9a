-- The rule of a desk that several seats share: what holds between any two of its steps.
use Rattle.std.specs.Prelude.{◌≡◌, ◌≢◌, ◌⊎◌, ℕ, suc, ◌+◌, ◌*◌, ◌^◌, ◌<◌, ◌≤◌, nat_eq, nat_lt, Bool}
use Rattle.std.specs.Prelude.{true, false, List, [], ◌∷◌, ◌++◌, length, slice_index, Option, Some}
use Rattle.std.specs.Prelude.{None, if◌then◌else◌}
use mathlib.Core.Option.{some}
use lib.ListN.{get_elem?}
use Rattle.std.specs.declared.snapshot.Snapshot.{Snapshot}
use Rattle.atomic_table.specs.Table.{State, Me}
use Rattle.turn_desk.specs.Entries.{Entry, Marked, Runs, all_entries}
use Rattle.turn_desk.specs.declared.view.View.{View}
use Rattle.turn_desk.specs.declared.view.Held.{Held}

-- the list begins with this one
abbrev pub Begins : {A : Type 0} → List A → List A → Type 0
Begins {A = A} log seen = (more : List A) × (log ≡ seen ++ more)

-- one of them begins the other
abbrev pub AreInLine : {A : Type 0} → List A → List A → Type 0
AreInLine xs ys = Begins xs ys ⊎ Begins ys xs

-- the longer of two lists; the first, where they are equally long
abbrev pub longer : {A : Type 0} → List A → List A → List A
longer xs ys = if nat_lt (length xs) (length ys) then ys else xs

-- how often a place stands in a list of places
abbrev pub times : ℕ → List ℕ → ℕ
times k [] = 0
times k (place ∷ places) = (if nat_eq place k then 1 else 0) + times k places

-- the sum over a list
abbrev pub total : {A : Type 0} → (A → ℕ) → List A → ℕ
total f [] = 0
total f (x ∷ xs) = f x + total f xs

-- the places of a seat's own entries among these, which stand behind so many others
abbrev pub own_places : {E R : Type 0} → ℕ → List (Marked E R) → List ℕ
own_places n [] = []
own_places n (m ∷ ms) = if m.own then n ∷ own_places (suc n) ms else own_places (suc n) ms

module _ {X E R : Type 0} where
  -- the steps of the object, from the one that the desk was made with, leave this one
  abbrev pub Leaves : (ℕ → E → X → R → X → Type 0) → X → List (Entry E R) → X → Type 0
  Leaves step opening log object = Runs step opening log object

  -- What a view has to do with the log, and with the ticket that is drawn next.
  pub record Fits (opening : X) (log : List (Entry E R)) (next : ℕ) (v : View X E R) : Type 0 where
    pub opened : v.share ≢ 0 → v.opening ≡ Some opening
    pub spent : v.share ≡ 0 → (v.own ≡ []) × (v.turn ≡ false)
    pub seen : Begins log v.seen
    pub left : Begins log v.left
    pub right : Begins log v.right
    pub placed : (k : ℕ) → times k v.own ≢ 0 → k < length v.seen
    pub drawn : (t : ℕ) → v.ticket ≡ Some t → (length log ≤ t) × (t < next)
    pub turned : v.turn ≡ true → (v.ticket ≡ Some (length log)) × (v.seen ≡ log)
    pub whole : 0 < v.whole

  -- the object is in the slot, and no seat has it
  abbrev pub IsAtHome : List (mathlib.Core.Option.Option (Held X E R)) → X → Type 0
  IsAtHome homes object = (held : Held X E R) × (get_elem? homes 0 ≡ some (some held))
      × (held.object ≡ Some object)

  -- some seat takes a turn
  abbrev pub IsTaken : List (View X E R) → Type 0
  IsTaken views = (id : ℕ) × (v : View X E R) × (get_elem? views id ≡ some v) × (v.turn ≡ true)

  -- no ticket is drawn twice
  abbrev pub AreApart : List (View X E R) → Type 0
  AreApart views = (i j t : ℕ) (v w : View X E R) → get_elem? views i ≡ some v
      → get_elem? views j ≡ some w
      → v.ticket ≡ Some t → w.ticket ≡ Some t → i ≡ j

  -- Each place of the log is one seat's own, and no other place is.
  abbrev pub AreOwned : ℕ → List (View X E R) → Type 0
  AreOwned served views = (k : ℕ)
      → total (λ v. times k v.own) views ≡ (if nat_lt k served then 1 else 0)

  -- each seat's part is so many of this number of equal shares
  abbrev pub Weighed : ℕ → List (View X E R) → List ℕ → Type 0
  Weighed number [] [] = Unit {0}
  Weighed number [] (n ∷ ns) = ⊥
  Weighed number (v ∷ vs) [] = ⊥
  Weighed number (v ∷ vs) (n ∷ ns) = (v.share * number ≡ n * v.whole) × Weighed number vs ns

  -- the parts of the seats add up to the whole
  pub record AddUp (views : List (View X E R)) : Type 0 where
    pub weights : List ℕ
    pub number : ℕ
    pub positive : 0 < number
    pub all : total (λ n. n) weights ≡ number
    pub weighed : Weighed number views weights

  -- There is one log, which the words count and which leaves the object in the slot.
  pub record Kept (step : ℕ → E → X → R → X
      → Type 0) (opening : X) (s : State (Held X E R) (View X E R)) : Type 0 where
    pub log : List (Entry E R)
    pub next : ℕ
    pub object : X
    pub words : s.words ≡ next ∷ length log ∷ []
    pub served : length log ≤ next
    pub small : next < 2 ^ 64
    pub leaves : Leaves step opening log object
    pub place : IsAtHome s.homes object ⊎ IsTaken s.views
    pub fit : (id : ℕ) (v : View X E R) → get_elem? s.views id ≡ some v → Fits opening log next v
    pub apart : AreApart s.views
    pub owned : AreOwned (length log) s.views
    pub parts : AddUp s.views

  -- ---- what a seat knows

  -- the first seat, which has the whole desk
  abbrev pub newcomer : X → View X E R
  newcomer opening = record {
    opening = Some opening;
    seen = [];
    own = [];
    share = 1;
    whole = 1;
    ticket = None;
    turn = false;
    left = [];
    right = [];
  }

  -- a seat that was joined into another
  abbrev pub spent : View X E R
  spent = record {
    opening = None;
    seen = [];
    own = [];
    share = 0;
    whole = 1;
    ticket = None;
    turn = false;
    left = [];
    right = [];
  }

  -- each half of a seat's part
  abbrev pub halved : View X E R → View X E R
  halved v = record v { whole = v.whole * 2 }

  -- the other half, in a seat that has asked nothing yet
  abbrev pub sibling : View X E R → View X E R
  sibling v = record v { own = []; whole = v.whole * 2 }

  -- both seats in one, which is yet to be told that one of them saw no less than the other
  abbrev pub joined_view : View X E R → View X E R → View X E R
  joined_view v w = record {
    opening = v.opening;
    seen = longer v.seen w.seen;
    own = v.own ++ w.own;
    share = v.share * w.whole + w.share * v.whole;
    whole = v.whole * w.whole;
    ticket = None;
    turn = false;
    left = v.seen;
    right = w.seen;
  }

  -- ---- what a step does to a seat

  -- What is known of a seat once it has drawn the ticket.
  abbrev pub with_ticket : ℕ → View X E R → View X E R
  with_ticket t v = record v { ticket = Some t }

  -- where the ticket word was this one, the seat has the ticket
  abbrev pub Draws : ℕ → Me (Held X E R) (View X E R) → ℕ → Me (Held X E R) (View X E R) → Type 0
  Draws t before found after =
      (found ≡ t → after ≡ (with_ticket t before.0, before.1)) × (found ≢ t → after ≡ before)

  -- The seat has the turn: it has seen the log whole, and has the object that the log leaves.
  pub record TakesTurn (step : ℕ → E → X → R → X
      → Type 0) (before after : Me (Held X E R) (View X E R)) : Type 0 where
    pub others : List (Entry E R)
    pub held : Held X E R
    pub object : X
    pub view : after.0 ≡ record before.0 { seen = before.0.seen ++ others; turn = true }
    pub hand : after.1 ≡ (0, held) ∷ []
    pub there : held.object ≡ Some object
    pub leaves : (opening : X) → before.0.opening ≡ Some opening
        → Leaves step opening (before.0.seen ++ others) object

  -- where the seat's ticket is served, it has the turn
  abbrev pub Looks : (ℕ → E → X → R → X → Type 0) → Me (Held X E R) (View X E R) → ℕ
      → Me (Held X E R) (View X E R) → Type 0
  Looks step before found after =
      (before.0.ticket ≡ Some found → TakesTurn step before after)
      × (before.0.ticket ≢ Some found → after ≡ before)

  -- the seat after a turn: it has seen one more entry, which is its own
  abbrev pub with_entry : Entry E R → View X E R → View X E R
  with_entry e v = record v {
    seen = v.seen ++ e ∷ [];
    own = v.own ++ length v.seen ∷ [];
    ticket = None;
    turn = false;
  }

  -- the entry that lies in the slot is the seat's last
  abbrev pub Passes : Me (Held X E R) (View X E R) → Me (Held X E R) (View X E R) → Type 0
  Passes before after = (held : Held X E R) × (e : Snapshot (Entry E R))
      × (before.1 ≡ (0, held) ∷ []) × (held.entry ≡ Some e)
      × (after ≡ (with_entry e.value before.0, []))

  -- Two seats that were joined have seen one log, which is a history of the object, and no entry is
  -- own to both.
  pub record TellsOneLog (step : ℕ → E → X → R → X
      → Type 0) (before after : Me (Held X E R) (View X E R)) : Type 0 where
    pub view : after ≡ (record before.0 { left = []; right = [] }, before.1)
    pub line : AreInLine before.0.left before.0.right
    pub once : (k : ℕ) → times k before.0.own ≤ 1
    pub legal : (opening : X) → before.0.opening ≡ Some opening
        → (object : X) × Leaves step opening before.0.seen object

  -- the object lies in the slot that the seat has
  abbrev pub HasObject : Me (Held X E R) (View X E R) → X → Type 0
  HasObject me object = (held : Held X E R) × (me.1 ≡ (0, held) ∷ []) × (held.object ≡ Some object)

  -- the object took the step that the entry tells, and lies in the slot with the entry
  pub record HasStepped (step : ℕ → E → X → R → X
      → Type 0) (before : X) (e : Entry E R) (me : Me (Held X E R) (View X E R)) : Type 0 where
    pub object : X
    pub told : Snapshot (Entry E R)
    pub steps : step e.reading e.event before e.outcome object
    pub hand : me.1 ≡ (0, record { object = Some object; entry = Some told }) ∷ []
    pub tells : told.value ≡ e

  -- The seat has a part of the desk and stands between two questions; what it has seen is a history
  -- of the object.
  pub record IsIdle (step : ℕ → E → X → R → X
      → Type 0) (me : Me (Held X E R) (View X E R)) : Type 0 where
    pub opening : X
    pub object : X
    pub opened : me.0.opening ≡ Some opening
    pub legal : Leaves step opening me.0.seen object
    pub part : me.0.share ≢ 0
    pub whole : 0 < me.0.whole
    pub ticket : me.0.ticket ≡ None
    pub turn : me.0.turn ≡ false
    pub left : me.0.left ≡ []
    pub right : me.0.right ≡ []
    pub hand : me.1 ≡ []

  -- One seat has what two had: it has both parts and the entries that are own to either, and has
  -- seen what the one of them has that saw more, which begins with what the other saw. No entry was
  -- own to both.
  pub record AreJoined (v w both : View X E R) : Type 0 where
    pub opening : both.opening ≡ v.opening
    pub seen : both.seen ≡ longer v.seen w.seen
    pub line : AreInLine v.seen w.seen
    pub own : both.own ≡ v.own ++ w.own
    pub once : (k : ℕ) → times k both.own ≤ 1
    pub share : both.share ≡ v.share * w.whole + w.share * v.whole
    pub whole : both.whole ≡ v.whole * w.whole

  -- two seats have the same part
  abbrev pub SamePart : View X E R → View X E R → Type 0
  SamePart v w = (w.share ≡ v.share) × (w.whole ≡ v.whole)

  -- The seat has the whole desk.
  abbrev pub IsWhole : View X E R → Type 0
  IsWhole v = v.share ≡ v.whole

  -- every entry that it has seen is its own
  abbrev pub OwnsAll : View X E R → Type 0
  OwnsAll v = (k : ℕ) → times k v.own ≡ (if nat_lt k (length v.seen) then 1 else 0)

  -- the seat waits with this ticket
  pub record IsWaiting (me : Me (Held X E R) (View X E R)) (ticket : ℕ) : Type 0 where
    pub drawn : me.0.ticket ≡ Some ticket
    pub turn : me.0.turn ≡ false
    pub part : me.0.share ≢ 0
    pub hand : me.1 ≡ []

  -- The seat's ticket is served. It has the slot, in which the object lies as this entry leaves it,
  -- with the entry.
  pub record IsServed (step : ℕ → E → X → R → X
      → Type 0) (me : Me (Held X E R) (View X E R)) (ticket : ℕ) (e : Entry E R) : Type 0 where
    pub object : X
    pub told : Snapshot (Entry E R)
    pub drawn : me.0.ticket ≡ Some ticket
    pub small : ticket + 1 < 2 ^ 64
    pub turn : me.0.turn ≡ true
    pub part : me.0.share ≢ 0
    pub hand : me.1 ≡ (0, record { object = Some object; entry = Some told }) ∷ []
    pub tells : told.value ≡ e
    pub leaves : (opening : X) → me.0.opening ≡ Some opening
        → Leaves step opening (me.0.seen ++ e ∷ []) object

  -- ---- how a seat grows

  -- the seat has seen these entries more, and those of them that are its own joined its own ones
  pub record Grows (before : View X E R) (more : List (Marked E R))
      (after : View X E R) : Type 0 where
    pub seen : after.seen ≡ before.seen ++ all_entries more
    pub own : after.own ≡ before.own ++ own_places (length before.seen) more
    pub opening : after.opening ≡ before.opening
    pub share : after.share ≡ before.share
    pub whole : after.whole ≡ before.whole

  -- one slot alone, in which an object lies that took no turn yet
  abbrev pub HasOnly : List (Held X E R) → Type 0
  HasOnly slots = (object : X) × (slots ≡ (record { object = Some object; entry = None }) ∷ [])
