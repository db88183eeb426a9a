-- Which accepted requests and which replies can be kept: those that are read back from what is
-- written of them.
use Rattle.std.specs.Prelude.{◌≡◌, ◌≤◌, ◌++◌, ℕ, List, nat_le, pos, Bool, true, ◌&&◌, is_none}
use Rattle.std.specs.Prelude.{Option, Some, None, Ok}
use Rattle.std.specs.Prelude.{if◌then◌else◌}
use Rattle.std.specs.Option.{option_map_or}
use Rattle.m2m_names.specs.Name.{is_originator}
use Rattle.m2m_value.specs.Data.{Data, depth, number}
use Rattle.m2m_value.specs.Reading.{reading, reading_depth}
use Rattle.m2m_value.specs.Shapes.{largest_count}
use Rattle.m2m_value.specs.Spelling.{text_of}
use Rattle.primitive_json.specs.Bounds.{is_request_id}
use Rattle.primitive_json.specs.Form.{has_form}
use Rattle.primitive_json.specs.declared.reply.ReplyParts.{ReplyParts}
use Rattle.primitive_json.specs.declared.request.RequestParts.{RequestParts}
use Rattle.accepted_requests.specs.Entries.{LaterEntryData}
use Rattle.journal_lines.specs.Keeping.{can_be_kept}
use Rattle.journal_lines.specs.Lines.{ended}
use Rattle.later_lines.specs.Words.{is_moment, value_of, word_mark}
use Rattle.later_lines.specs.declared.word.Word.TheVariants.{Accepted, Ran}

-- the request without its filter
abbrev pub unfiltered : RequestParts → RequestParts
unfiltered request = record request { fc = None }

-- Its parameters are of their kinds, and it is as it is run: nothing says how its reply is wanted.
-- It may have a filter.
abbrev pub is_request_kept : RequestParts → Bool
is_request_kept request =
    has_form request && can_be_kept (unfiltered request) && is_none request.rt

-- as it stood before it was run
abbrev pub before_run : LaterEntryData → LaterEntryData
before_run e = record e { reply = None }

-- what is written of it is no deeper than a text is read
abbrev pub is_shallow : Data → Bool
is_shallow d = nat_le (depth d) reading_depth

abbrev pub shallow_only : Data → Option Data
shallow_only d = if is_shallow d then Some d else None

-- The accepted request can be kept.
abbrev pub is_entry_kept : LaterEntryData → Bool
is_entry_kept e =
    is_request_kept e.request && is_originator e.originator && nat_le e.number largest_count
    && is_moment e.accepted

abbrev pub accepted_value : LaterEntryData → Option Data
accepted_value e =
    if is_entry_kept e then shallow_only (value_of (Accepted e)) else None

-- The reply of a run can be kept.
abbrev pub is_reply_kept : ReplyParts → Bool
is_reply_kept reply = option_map_or is_request_id reply.rqi true

abbrev pub ran_value : ℕ → ReplyParts → Option Data
ran_value n reply =
    if is_reply_kept reply && nat_le n largest_count then shallow_only (value_of (Ran n reply))
    else None

-- a number or a moment that a number in JSON has
abbrev pub count_value : ℕ → Option Data
count_value n = if nat_le n largest_count then Some (number (pos n)) else None

-- The value can be kept, and the lines of the word that has this name and this value were appended;
-- the text of the value is read as it, where it is no deeper than a text is read.
pub record IsWritten (name : List ℕ) (kept : Option Data) (old new : List ℕ) : Type 0 where
  pub value : Data
  pub kept_is : kept ≡ Some value
  pub lines : new ≡ old ++ (word_mark ++ (ended name ++ ended (text_of value)))
  pub reads_back : depth value ≤ reading_depth → reading (text_of value) ≡ Ok value
