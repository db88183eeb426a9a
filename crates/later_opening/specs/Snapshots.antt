-- A file whose journal makes a CSE that answers later at once.
use Rattle.std.specs.Prelude.{◌≡◌, ℕ, ◌<◌, ◌≤◌, ◌==◌, ◌&&◌, Bool, true, List, [], ◌∷◌, ◌++◌}
use Rattle.std.specs.Prelude.{flat_map, Option, Some, None, is_some, if◌then◌else◌}
use Rattle.std.specs.List.{list_all}
use Rattle.std.specs.Option.{option_map_or}
use Rattle.m2m_value.specs.Shapes.{largest_count}
use Rattle.primitive_json.specs.declared.reply.ReplyParts.{ReplyParts}
use Rattle.resource_model.specs.Home.{HomeData}
use Rattle.entity_model.specs.Entity.{EntityData}
use Rattle.accepted_requests.specs.Entries.{LaterEntryData, LaterRequestsData, no_entries}
use Rattle.later_replies.specs.Entries.{LaterData}
use Rattle.journal_file.specs.Gates.{KeepsText, at_rest}
use Rattle.entity_snapshot.specs.Snapshots.{HasSnapshot, SpellsEntity}
use Rattle.later_lines.specs.Keeping.{accepted_value, before_run, ran_value}
use Rattle.later_lines.specs.Words.{IsReadBack, word_lines}
use Rattle.later_lines.specs.declared.word.Word.TheVariants.{Accepted, Given, Ran}
use Rattle.later_opening.specs.Acts.{deeds_in}
use Rattle.later_opening.specs.Journals.{MakesLater, SpellsActs}
use Rattle.later_opening.specs.Making.{requests_of}
use Rattle.later_opening.specs.Numbers.{AreNumbered, WereAcceptedBy}
use Rattle.later_opening.specs.declared.act.Act.{Act}

-- ---- the lines that make accepted requests

-- the lines of a result, where there is one
abbrev pub result_lines : ℕ → Option ReplyParts → List ℕ
result_lines n None = []
result_lines n (Some reply) = word_lines (Ran n reply)

-- those of an accepted request: that it was accepted, and its result
abbrev pub entry_lines : LaterEntryData → List ℕ
entry_lines e = word_lines (Accepted (before_run e)) ++ result_lines e.number e.reply

-- the number of the last of some accepted requests, or else this one
abbrev pub last_of : ℕ → List LaterEntryData → ℕ
last_of n [] = n
last_of n (e ∷ entries) = last_of e.number entries

-- the lines of the number that was given last, where the last of them doesn't have it
abbrev pub given_lines : ℕ → ℕ → List ℕ
given_lines last given = if given == last then [] else word_lines (Given given)

-- the lines of accepted requests, in order, and of the number that was given last
abbrev pub requests_lines : LaterRequestsData → List ℕ
requests_lines requests =
    flat_map entry_lines requests.entries
    ++ given_lines (last_of 0 requests.entries) requests.given

-- ---- a snapshot

-- The bytes are a snapshot of this CSE, at rest: that of the entity inside, and behind it the lines
-- of its accepted requests, and nothing else. They are a journal that makes this CSE.
pub record IsLaterSnapshot (d : LaterData) (bytes : List ℕ) : Type 0 where
  pub text : List ℕ
  pub front : List ℕ
  pub spells : SpellsEntity d.inner front
  pub lines : text ≡ front ++ requests_lines d.requests
  pub makes : MakesLater d.inner.home text d
  pub rest : bytes ≡ at_rest text

-- The bytes keep a journal of this home, which makes this CSE.
pub record KeepsMakingLater (home : HomeData) (d : LaterData) (bytes : List ℕ) : Type 0 where
  pub text : List ℕ
  pub makes : MakesLater home text d
  pub keeps : KeepsText text bytes

-- ---- which have one

-- The accepted request and its result are read back from what is written of them.
abbrev pub is_readable : LaterEntryData → Bool
is_readable e =
    is_some (accepted_value e)
    && option_map_or (λ reply. is_some (ran_value e.number reply)) e.reply true

-- A CSE can keep accepted requests at this moment: each is read back, none was accepted later than
-- that, and their numbers rise.
pub record CanBeKeptAt (moment : ℕ) (requests : LaterRequestsData) : Type 0 where
  pub each : list_all is_readable requests.entries ≡ true
  pub earlier : WereAcceptedBy moment requests
  pub numbered : AreNumbered requests
  pub given : requests.given ≤ largest_count

-- A CSE has a snapshot: the entity inside has one, and its accepted requests can be kept.
pub record HasLaterSnapshot (d : LaterData) : Type 0 where
  pub inner : HasSnapshot d.inner
  pub requests : CanBeKeptAt d.inner.last d.requests

-- ---- what is appended

-- The lines of words were appended, which make these accepted requests of an entity by which none
-- was accepted.
pub record AppendsWords (e : EntityData) (requests : LaterRequestsData) (old new : List ℕ) : Type 0
  where
    pub acts : List Act
    pub lines : List ℕ
    pub appended : new ≡ old ++ lines
    pub spells : SpellsActs e no_entries acts lines
    pub none : deeds_in acts ≡ []
    pub made : requests_of acts no_entries ≡ requests

-- The lines of the result of an accepted request were appended, where it has one.
abbrev pub AppendsResultOf : ℕ → Option ReplyParts → List ℕ → List ℕ → Type 0
AppendsResultOf n None old new = new ≡ old
AppendsResultOf n (Some reply) old new =
    (new ≡ old ++ word_lines (Ran n reply)) × IsReadBack (Ran n reply)

abbrev pub AppendsResult : LaterEntryData → List ℕ → List ℕ → Type 0
AppendsResult e old new = AppendsResultOf e.number e.reply old new

-- The lines of an accepted request were appended, whose number is above the last one's.
pub record AppendsEntry (moment last : ℕ) (e : LaterEntryData) (old new : List ℕ) : Type 0 where
  pub between : List ℕ
  pub above : last < e.number
  pub earlier : e.accepted ≤ moment
  pub accepted : between ≡ old ++ word_lines (Accepted (before_run e))
  pub reads_back : IsReadBack (Accepted (before_run e))
  pub result : AppendsResult e between new
