-- What acts make of a CSE that answers later.
use Rattle.std.specs.Prelude.{ℕ, ◌==◌, nat_le, nat_lt, Bool, true, ◌&&◌, List, [], ◌∷◌, ◌++◌}
use Rattle.std.specs.Prelude.{Some, if◌then◌else◌}
use Rattle.primitive_json.specs.declared.reply.ReplyParts.{ReplyParts}
use Rattle.entity_model.specs.Entity.{EntityData}
use Rattle.accepted_requests.specs.Entries.{LaterEntryData, LaterRequestsData, does_wait}
use Rattle.accepted_requests.specs.Entries.{no_entries, still_standing, without}
use Rattle.later_replies.specs.Entries.{LaterData}
use Rattle.journal_opening.specs.Journals.{made_by, made_of}
use Rattle.later_lines.specs.declared.word.Word.{Word as LaterWord}
use Rattle.later_lines.specs.declared.word.Word.TheVariants.{Accepted, Ran, Gone, Due, Given}
use Rattle.later_opening.specs.Acts.{deeds_in}
use Rattle.later_opening.specs.declared.act.Act.{Act}
use Rattle.later_opening.specs.declared.act.Act.TheVariants.{Deed, Word}

-- ---- what a word does to the accepted requests

-- the accepted request with its result
abbrev pub with_result : ReplyParts → LaterEntryData → LaterEntryData
with_result reply e = record e { reply = Some reply }

-- It waits under this number.
abbrev pub waits_as : ℕ → LaterEntryData → Bool
waits_as n e = e.number == n && does_wait e

-- the first that waits under a number got this result
abbrev pub ran_in : ℕ → ReplyParts → List LaterEntryData → List LaterEntryData
ran_in n reply [] = []
ran_in n reply (e ∷ entries) =
    if waits_as n e then with_result reply e ∷ entries else e ∷ ran_in n reply entries

-- this one was accepted, under the number that was given last
abbrev pub with_entry : LaterEntryData → LaterRequestsData → LaterRequestsData
with_entry e requests = record { entries = requests.entries ++ e ∷ []; given = e.number }

abbrev pub by_word : LaterWord → LaterRequestsData → LaterRequestsData
by_word (Accepted e) requests = with_entry e requests
by_word (Ran n reply) requests = record requests { entries = ran_in n reply requests.entries }
by_word (Gone n) requests = without n requests
by_word (Due at) requests = still_standing at requests
by_word (Given n) requests = record requests { given = n }

-- The word fits where the entity inside has this moment: numbers rise, and nothing was accepted
-- later than that.
abbrev pub fits : LaterWord → ℕ → LaterRequestsData → Bool
fits (Accepted e) last requests = nat_lt requests.given e.number && nat_le e.accepted last
fits (Ran n reply) last requests = true
fits (Gone n) last requests = true
fits (Due at) last requests = true
fits (Given n) last requests = nat_le requests.given n

-- ---- what an act does

-- the entity inside behind an act: a deed is done, and a word leaves it as it is
abbrev pub inner_after : Act → EntityData → EntityData
inner_after (Deed dated) e = made_by dated e
inner_after (Word word) e = e

-- the accepted requests behind an act: a deed leaves them as they are
abbrev pub requests_after : Act → LaterRequestsData → LaterRequestsData
requests_after (Deed dated) requests = requests
requests_after (Word word) requests = by_word word requests

-- an act fits where the entity inside has this moment: each deed does
abbrev pub act_fits : Act → ℕ → LaterRequestsData → Bool
act_fits (Deed dated) last requests = true
act_fits (Word word) last requests = fits word last requests

-- ---- what acts make, one after another

-- the accepted requests behind acts
abbrev pub requests_of : List Act → LaterRequestsData → LaterRequestsData
requests_of [] requests = requests
requests_of (act ∷ acts) requests = requests_of acts (requests_after act requests)

-- The CSE that acts make of an entity, by which no request was accepted yet: the deeds among them
-- make the entity inside.
abbrev pub made_of_acts : List Act → EntityData → LaterData
made_of_acts acts base =
    record { inner = made_of (deeds_in acts) base; requests = requests_of acts no_entries }

-- a CSE that answers later, by its entity and its accepted requests
abbrev pub later_of : EntityData → LaterRequestsData → LaterData
later_of inner requests = record { inner = inner; requests = requests }
