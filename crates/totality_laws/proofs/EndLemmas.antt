-- What is read takes bytes, and only so much is heard.
use Rattle.std.proofs.Common.{◌≡◌, ℕ, ◌+◌, ◌<◌, ◌≤◌, ◌∷◌, ◌++◌, ◌||◌, Bool, true, false, not, List, [], Some, None, inl, inr, length, length-append, sym, ap, ◌∙◌, arith, IsTrue}
use Rattle.std.proofs.lemmas.Bool.{and_parts, cases_Bool, true≢false, not-true}
use Rattle.std.proofs.lemmas.Bool.Decides.{nat_tests}
use Rattle.std.specs.Prelude.{nat_le}
use Rattle.std.specs.Str.Lines.{lines}
use Rattle.http_frames.proofs.LookLemmas.{head_some}
use Rattle.http_frames.specs.declared.frame.Frame.{Frame}
use Rattle.cse_server.specs.Closing.{closes, most_frames}
use Rattle.cse_server.specs.Talk.{ends_at_close}
use Rattle.primitive_replay.specs.Lines.{line_at, line_read, most_lines}
use Rattle.primitive_replay.specs.Stream.{AreLines}
use Rattle.primitive_replay.specs.declared.line.Line.{Line}
use Rattle.totality_laws.specs.Ends.{FewLinesAreHeard, FewMessagesAreHeard, LinesTakeBytes, MessagesTakeBytes}

-- ---- bytes

pub message_takes : MessagesTakeBytes
message_takes side stream frame rest b =
    let some : 0 < length b.is_frame.head = head_some side b.is_frame.head frame.start frame.lines b.is_frame.head_is.is_head in
    let whole : length b.bytes ≡ length b.is_frame.head + length b.is_frame.carried = ap length b.is_frame.bytes_are ∙ length-append b.is_frame.head b.is_frame.carried in
    let all : length stream ≡ length b.bytes + length rest = ap length b.stream_is ∙ length-append b.bytes rest in
    omega (arith, some, whole, all)

-- a text that no byte was taken from has as many lines as before
none_taken : (front bytes text rest : List ℕ) → bytes ≡ front ++ rest → lines bytes ≡ text ∷ lines rest → 0 < length front
none_taken [] bytes text rest are is =
    let more : length (lines rest) ≡ length (text ∷ lines rest) = ap (λ (xs : List ℕ). length (lines xs)) (sym are) ∙ ap length is in
    omega (arith, more)
none_taken (b ∷ front) bytes text rest are is = omega arith

pub line_takes : LinesTakeBytes
line_takes bytes text rest b =
    let some : 0 < length b.front = none_taken b.front bytes text rest b.bytes_are b.texts_are in
    let all : length bytes ≡ length b.front + length rest = ap length b.bytes_are ∙ length-append b.front rest in
    omega (arith, some, all)

-- ---- messages

right_open : (a b : Bool) → (a || b) ≡ false → b ≡ false
right_open true b e = absurd (true≢false e)
right_open false b e = e

-- what doesn't close isn't the last that may be heard
goes_on : (place : ℕ) (frame : Frame) → closes place frame ≡ false → place < most_frames
goes_on place frame stays =
    let here : nat_le most_frames place ≡ false = right_open _ (nat_le most_frames place) stays in
    grind (arith, nat_tests, here)

few_from : (heard : List Frame) (place : ℕ) → place ≤ most_frames → IsTrue (ends_at_close heard place) → place + length heard ≤ most_frames + 1
few_from [] place within ends = omega (arith, within)
few_from (frame ∷ []) place within ends = omega (arith, within)
few_from (frame ∷ next ∷ frames) place within ends =
    let parts = and_parts (not (closes place frame)) (ends_at_close (next ∷ frames) (place + 1)) ends in
    let less : place < most_frames = goes_on place frame (not-true _ parts.0) in
    let later : place + 1 + length (next ∷ frames) ≤ most_frames + 1 = few_from (next ∷ frames) (place + 1) (omega (arith, less)) parts.1 in
    omega (arith, later)

pub few_messages : FewMessagesAreHeard
few_messages heard ends =
    let few : 1 + length heard ≤ most_frames + 1 = few_from heard 1 (omega arith) ends in
    omega (arith, few)

-- ---- lines

-- what is a line is among the first so many
within_limit : (place : ℕ) (text : List ℕ) (line : Line) → line_at line_read place text ≡ Some line → place ≤ most_lines
within_limit place text line is = elim (cases_Bool (nat_le place most_lines)) [
  | inl t ↦ grind (arith, nat_tests, t)
  | inr f ↦ absurd (let none : None ≡ Some line = rw f at is in cc)
]

lines_from : (place : ℕ) (texts : List (List ℕ)) (heard : List Line) → AreLines place texts heard → place ≤ most_lines + 1 → place + length heard ≤ most_lines + 1
lines_from place [] [] are within = omega (arith, within)
lines_from place [] (line ∷ heard) are within = absurd are
lines_from place (text ∷ texts) [] are within = omega (arith, within)
lines_from place (text ∷ texts) (line ∷ heard) are within =
    let here : place ≤ most_lines = within_limit place text line are.0 in
    let later : place + 1 + length heard ≤ most_lines + 1 = lines_from (place + 1) texts heard are.1 (omega (arith, here)) in
    omega (arith, later)

pub few_lines : FewLinesAreHeard
few_lines bytes heard rest b =
    let few : 1 + length heard ≤ most_lines + 1 = lines_from 1 b.texts heard b.each (omega arith) in
    omega (arith, few)
