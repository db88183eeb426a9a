-- The words on accepted requests, as lines, and how they are read.
use Rattle.std.specs.Prelude.{◌≡◌, ℕ, ◌+◌, nat_eq, nat_le, ◌&&◌, Bool, pos, List, [], ◌∷◌, ◌++◌}
use Rattle.std.specs.Prelude.{drop, codes, bytes_eq, Option, Some, None, option_and_then}
use Rattle.std.specs.Prelude.{option_map, if◌then◌else◌}
use Rattle.std.specs.List.{starts_with}
use Rattle.std.specs.Result.{result_ok}
use Rattle.m2m_names.specs.Name.{is_originator}
use Rattle.m2m_names.specs.Stamps.{last_moment}
use Rattle.m2m_value.specs.Data.{Data, Entry, number, object, pairs_of, text}
use Rattle.m2m_value.specs.Reading.{reading}
use Rattle.m2m_value.specs.Shapes.{as_count}
use Rattle.m2m_value.specs.Spelling.{text_of}
use Rattle.m2m_value.specs.View.{as_text, member_of}
use Rattle.filter_criteria.specs.Values.{members_in, where_it}
use Rattle.primitive_json.specs.Reading.{read_reply, read_request}
use Rattle.primitive_json.specs.Writing.{written_reply, written_request}
use Rattle.primitive_json.specs.declared.reply.ReplyParts.{ReplyParts}
use Rattle.primitive_json.specs.declared.request.RequestParts.{RequestParts}
use Rattle.accepted_requests.specs.Entries.{LaterEntryData, accepted_entry}
use Rattle.journal_lines.specs.Lines.{behind_line, dated_len, ended, first_line, has_line}
use Rattle.later_lines.specs.declared.word.Word.{Word}
use Rattle.later_lines.specs.declared.word.Word.TheVariants.{Accepted, Ran, Gone, Due, Given}

-- ---- what is written

-- what stands in front of a word: `@`, a number, and `:`. It is no mark of a deed.
abbrev pub word_mark : List ℕ
word_mark = codes "@3:"

-- the name of a word
abbrev pub name_of : Word → List ℕ
name_of (Accepted e) = codes "accepted"
name_of (Ran n reply) = codes "ran"
name_of (Gone n) = codes "gone"
name_of (Due at) = codes "due"
name_of (Given n) = codes "given"

-- the members of an accepted request: the moment of its acceptance, its number, its originator in
-- the short form, and the request as a primitive (TS-0004, 8.2.2)
abbrev pub accepted_members : LaterEntryData → List Entry
accepted_members e =
    (codes "ct", number (pos e.accepted)) ∷ (codes "number", number (pos e.number))
    ∷ (codes "org", text e.originator) ∷ (codes "req", written_request e.request) ∷ []

-- those of a run: the number, and the reply as a primitive
abbrev pub ran_members : ℕ → ReplyParts → List Entry
ran_members n reply =
    (codes "number", number (pos n)) ∷ (codes "rsp", written_reply reply) ∷ []

-- the value of a word
abbrev pub value_of : Word → Data
value_of (Accepted e) = object (pairs_of (accepted_members e))
value_of (Ran n reply) = object (pairs_of (ran_members n reply))
value_of (Gone n) = number (pos n)
value_of (Due at) = number (pos at)
value_of (Given n) = number (pos n)

-- the lines of a word: the mark with its name, and its value
abbrev pub word_lines : Word → List ℕ
word_lines word = word_mark ++ (ended (name_of word) ++ ended (text_of (value_of word)))

-- ---- what is read

-- the count of a name
abbrev pub count_at : List ℕ → Data → Option ℕ
count_at name d = option_and_then as_count (member_of name (members_in d))

-- a moment that a timestamp has
abbrev pub is_moment : ℕ → Bool
is_moment at = nat_le at last_moment

abbrev pub moment_in : Data → Option ℕ
moment_in d = where_it is_moment (count_at (codes "ct") d)

-- a number
abbrev pub number_in : Data → Option ℕ
number_in d = count_at (codes "number") d

-- an originator
abbrev pub originator_in : Data → Option (List ℕ)
originator_in d =
    where_it is_originator (option_and_then as_text (member_of (codes "org") (members_in d)))

-- the request and the reply that are primitives
abbrev pub request_in : Data → Option RequestParts
request_in d =
    option_and_then (λ v. result_ok (read_request v)) (member_of (codes "req") (members_in d))

abbrev pub reply_in : Data → Option ReplyParts
reply_in d = option_and_then (λ v. result_ok (read_reply v)) (member_of (codes "rsp") (members_in d))

-- the accepted request that a value says, by its parts
abbrev pub entry_by : Option ℕ → Option ℕ → Option (List ℕ) → Option RequestParts
    → Option LaterEntryData
entry_by at n who request =
    option_and_then (λ m. option_and_then (λ k. option_and_then (λ o.
    option_map (λ r. accepted_entry k o r m) request) who) n) at

abbrev pub entry_in : Data → Option LaterEntryData
entry_in d = entry_by (moment_in d) (number_in d) (originator_in d) (request_in d)

-- the run that a value says, by its parts
abbrev pub ran_by : Option ℕ → Option ReplyParts → Option Word
ran_by n reply = option_and_then (λ k. option_map (Ran k) reply) n

abbrev pub ran_in : Data → Option Word
ran_in d = ran_by (number_in d) (reply_in d)

-- the acceptance that a value says
abbrev pub accepted_in : Data → Option Word
accepted_in d = option_map Accepted (entry_in d)

-- the word of a name that has a number alone
abbrev pub counted_word : List ℕ → ℕ → Option Word
counted_word name n =
    if bytes_eq name (codes "gone") then Some (Gone n) else
    if bytes_eq name (codes "due") then Some (Due n) else
    if bytes_eq name (codes "given") then Some (Given n) else None

-- the word of a name and a value
abbrev pub word_of : List ℕ → Data → Option Word
word_of name d =
    if bytes_eq name (codes "accepted") then accepted_in d else
    if bytes_eq name (codes "ran") then ran_in d else
    option_and_then (counted_word name) (as_count d)

-- that of two lines
abbrev pub word_in : List ℕ → List ℕ → Option Word
word_in name line = option_and_then (word_of name) (result_ok (reading line))

-- that of the first two lines of a text, without the mark
abbrev pub first_named : List ℕ → Option Word
first_named lines =
    if has_line lines && has_line (behind_line lines)
    then word_in (first_line lines) (first_line (behind_line lines)) else None

abbrev pub named_len : List ℕ → ℕ
named_len lines = dated_len lines

-- the word whose lines stand at the front of a text, and how many bytes they have
abbrev pub first_word : List ℕ → Option Word
first_word lines =
    if starts_with nat_eq lines word_mark then first_named (drop 3 lines) else None

abbrev pub word_len : List ℕ → ℕ
word_len lines = 3 + named_len (drop 3 lines)

-- ---- what holds of both

-- The word is read from its lines.
abbrev pub IsReadBack : Word → Type 0
IsReadBack word = word_in (name_of word) (text_of (value_of word)) ≡ Some word
