-- Texts that leave together: which of them were put, and which wait.
use Rattle.std.specs.Prelude.{◌≡◌, ◌≢◌, ◌≤◌, ◌<◌, ◌⊎◌, ℕ, List, [], ◌∷◌, ◌++◌, length}
use Rattle.std.specs.List.{flat_map}
use Rattle.cse_server.specs.Outside.{Puts, PutsPart, SinkTold}

-- where so many bytes wait, they are put
abbrev pub much : ℕ
much = 16384

-- These bytes were written by so many puts at most.
pub record PutsWithin (text : List ℕ) (most : ℕ) (old new : SinkTold) : Type 0 where
  pub puts : ℕ
  pub few : puts ≤ most
  pub said : Puts text puts old new

-- ---- what is said of some things, a text of each

-- The texts of these were written, in order, some of them by each put.
abbrev pub WritesAll : {A : Type 0} → (A → List ℕ) → List A → SinkTold → SinkTold → Type 0
WritesAll say all old new = PutsWithin (flat_map say all) (length all) old new

-- The texts of all these but the last one were written, and that one's isn't begun.
pub record WritesAllButLast {A : Type 0} (say : A → List ℕ) (all : List A) (old new : SinkTold)
    : Type 0 where
  pub whole : List A
  pub last : A
  pub all_are : all ≡ whole ++ last ∷ []
  pub said : WritesAll say whole old new

-- The texts of some of these were written, and of those of the others, which aren't much but for
-- the last one, a part, by one put more.
pub record WritesPart {A : Type 0} (say : A → List ℕ) (all : List A) (old new : SinkTold)
    : Type 0 where
  pub whole : List A
  pub late : List A
  pub last : A
  pub all_are : all ≡ whole ++ (late ++ last ∷ [])
  pub few : length (flat_map say late) < much
  pub between : SinkTold
  pub before : WritesAll say whole old between
  pub part : PutsPart (flat_map say (late ++ last ∷ [])) between new

-- The texts of a front of these were written, in order, and those of the others wait, which aren't
-- much.
pub record KeepsBack {A : Type 0} (say : A → List ℕ) (all : List A) (waiting : List ℕ)
    (old new : SinkTold) : Type 0 where
  pub whole : List A
  pub kept : List A
  pub all_are : all ≡ whole ++ kept
  pub waits : waiting ≡ flat_map say kept
  pub few : length waiting < much
  pub said : WritesAll say whole old new

-- The same of all these but the last one, whose text isn't begun.
pub record KeepsBackAllButLast {A : Type 0} (say : A → List ℕ) (all : List A) (waiting : List ℕ)
    (old new : SinkTold) : Type 0 where
  pub before : List A
  pub last : A
  pub all_are : all ≡ before ++ last ∷ []
  pub keeps : KeepsBack say before waiting old new

-- Of the texts of all these but the last one a part was written, and that one's isn't begun.
pub record WritesPartBeforeLast {A : Type 0} (say : A → List ℕ) (all : List A) (old new : SinkTold)
    : Type 0 where
  pub before : List A
  pub last : A
  pub all_are : all ≡ before ++ last ∷ []
  pub part : WritesPart say before old new

-- ---- what comes of bytes that wait

-- All bytes that wait were put, if there were some, and nothing waits then.
abbrev pub PutsAll : List ℕ → List ℕ → SinkTold → SinkTold → Type 0
PutsAll before now old new =
    (now ≡ []) × (((before ≡ []) × (new ≡ old)) ⊎ ((before ≢ []) × Puts before 1 old new))

-- Bytes that wait do so still, and aren't much, or all of them were put.
abbrev pub PutsMuch : List ℕ → List ℕ → SinkTold → SinkTold → Type 0
PutsMuch before now old new =
    ((now ≡ before) × (length before < much) × (new ≡ old)) ⊎ ((now ≡ []) × Puts before 1 old new)

-- What comes of bytes that wait where it ends so: all of them were put, or one put wrote a part of
-- them, and it ends by that fault; but nothing where a put had failed already.
abbrev pub PutsLast : {E : Type 0} → E → E → E → List ℕ → SinkTold → SinkTold → Type 0
PutsLast fault ended now waiting old new =
    ((ended ≡ fault) × (now ≡ fault) × (new ≡ old))
    ⊎ ((ended ≢ fault) × (((now ≡ ended) × PutsAll waiting [] old new)
    ⊎ ((now ≡ fault) × (waiting ≢ []) × PutsPart waiting old new)))
