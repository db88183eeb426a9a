-- When a connection ends behind a reply (RFC 9112, section 9.6).
use Rattle.std.specs.Prelude.{ℕ, ◌==◌, nat_le, Bool, ◌&&◌, ◌||◌, List, length, take, drop}
use Rattle.std.specs.List.{list_all, list_any, slice_split}
use Rattle.httparse.specs.Grammar.{is_ows, skip_ows}
use Rattle.http_frames.specs.declared.frame.Frame.{Frame}
use Rattle.http_frames.specs.Body.{minor_of}
use Rattle.http_frames.specs.Lines.{Line, is_same_name}
use Rattle.http_binding.specs.Headers.{close_option, connection_field}

-- the option `close`, whatever its case, and white space (RFC 9110, section 5.6.3)
abbrev pub is_close_word : List ℕ → Bool
is_close_word text =
    is_same_name (take (length close_option) text) close_option
    && list_all is_ows (drop (length close_option) text)

-- an element of a list: the option `close` with white space around it
abbrev pub is_close : List ℕ → Bool
is_close element = is_close_word (skip_ows element)

-- the list, whose elements stand between commas, has the option (RFC 9110, sections 5.6.1 and
-- 7.6.1)
abbrev pub lists_close : List ℕ → Bool
lists_close value = list_any is_close (slice_split (λ b. b == 44) value)

-- a line `Connection` that has it
abbrev pub asks_by : Line → Bool
asks_by line = is_same_name line.0 connection_field && lists_close line.1

-- one of the lines has it
abbrev pub asks_to_close : List Line → Bool
asks_to_close lines = list_any asks_by lines

-- the most frames that a connection has
abbrev pub most_frames : ℕ
most_frames = 10000

-- The connection closes behind the reply to the frame at this place, from 1: to one that asks for
-- it, to one of HTTP/1.0, and to the last one that it may have.
abbrev pub closes : ℕ → Frame → Bool
closes place frame =
    asks_to_close frame.lines || (minor_of frame.start == 0) || nat_le most_frames place
