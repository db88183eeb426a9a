-- How long a body is, and how it stands on the stream (RFC 9112, section 6).
use Rattle.std.specs.Prelude.{◌≡◌, ◌≤◌, ◌+◌, ◌*◌, ◌==◌, ℕ, ◌&&◌, List, [], ◌∷◌}
use Rattle.std.specs.Prelude.{length, codes, ⊤}
use Rattle.std.specs.Prelude.{if◌then◌else◌}
use Rattle.std.specs.Str.Parse.{digits_value}
use Rattle.m2m_names.specs.Name.{is_numeral}
use Rattle.http_frames.specs.declared.frame.Start.{Start}
use Rattle.http_frames.specs.declared.frame.Start.TheVariants.{Ask, Answer}
use Rattle.http_frames.specs.Chunks.{chunk_line_limit, IsChunked}
use Rattle.http_frames.specs.Lines.{Line, is_same_name, values_named}

-- What the head says of the body: it has so many bytes, or it comes in chunks, or no message has
-- such a head.
pub data Framing : Type 0 where
  counted : ℕ → Framing
  chunked : Framing
  refused : Framing

-- the fields that say how a body stands on the stream, as they are written; names are compared
-- without regard to case
abbrev pub transfer_field : List ℕ
transfer_field = codes "Transfer-Encoding"

abbrev pub length_field : List ℕ
length_field = codes "Content-Length"

-- from the values of Content-Length (RFC 9110, section 8.6): no line is an empty body, one is 1 to
-- 18 digits, and a second one is refused
abbrev pub framing_of_lengths : List (List ℕ) → Framing
framing_of_lengths [] = counted 0
framing_of_lengths (value ∷ []) =
    if is_numeral value then counted (digits_value 10 value) else refused
framing_of_lengths (value ∷ next ∷ more) = refused

-- the last digit of the version of HTTP (RFC 9112, section 2.3)
abbrev pub minor_of : Start → ℕ
minor_of (Ask method target minor) = minor
minor_of (Answer status minor) = minor

-- chunks alone are served, in HTTP/1.1 alone; the name is compared without regard to case (RFC
-- 9112, sections 6.1 and 7)
abbrev pub framing_of_coding : ℕ → List ℕ → Framing
framing_of_coding minor coding =
    if (minor == 1) && is_same_name coding (codes "chunked") then chunked else refused

-- from the values of Transfer-Encoding and of Content-Length: at most one line of the two (RFC
-- 9112, section 6.3)
abbrev pub framing_of_values : ℕ → List (List ℕ) → List (List ℕ) → Framing
framing_of_values minor [] lengths = framing_of_lengths lengths
framing_of_values minor (coding ∷ []) [] = framing_of_coding minor coding
framing_of_values minor (coding ∷ []) (value ∷ lengths) = refused
framing_of_values minor (coding ∷ next ∷ codings) lengths = refused

-- what the head says of the body (RFC 9112, section 6.3)
abbrev pub framing_of : Start → List Line → Framing
framing_of start lines =
    framing_of_values (minor_of start) (values_named transfer_field lines)
    (values_named length_field lines)

-- These bytes of the stream carry this body, of at most so many bytes.
abbrev pub CarriesBody : ℕ → Framing → List ℕ → List ℕ → Type 0
CarriesBody limit (counted n) carried body = (carried ≡ body) × (length body ≡ n) × (n ≤ limit)
CarriesBody limit chunked carried body = IsChunked carried body × (length body ≤ limit)
CarriesBody limit refused carried body = ⊥

-- A message may have such a head: it announces chunks, or no more than so many bytes.
abbrev pub AnnouncesBody : ℕ → Framing → Type 0
AnnouncesBody limit (counted n) = n ≤ limit
AnnouncesBody limit chunked = ⊤
AnnouncesBody limit refused = ⊥

-- so many bytes of the stream carry a body of so many at most: each byte in a chunk of its own,
-- with the longest line and its CR LF, and then the longest last line and CR LF
abbrev pub carried_limit : ℕ → ℕ
carried_limit limit = limit * (chunk_line_limit + 3) + (chunk_line_limit + 2)
