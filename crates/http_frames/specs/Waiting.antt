-- When more bytes have to be read, and where the last read began.
use Rattle.std.specs.Prelude.{◌≡◌, ◌-◌, ◌<◌, ◌≤◌, ◌⊎◌, ℕ, List, ◌++◌, length, All}
use Rattle.httparse.specs.Grammar.{MayBecomeRequest, MayBecomeResponse}
use Rattle.httparse.specs.Grammar.{ChunkLine, IsChunkLine, print_chunk_line, chunk_size}
use Rattle.http_frames.specs.declared.frame.Side.{Side}
use Rattle.http_frames.specs.declared.frame.Side.TheVariants.{Request, Reply}
use Rattle.http_frames.specs.declared.frame.Start.{Start}
use Rattle.http_frames.specs.Lines.{Line}
use Rattle.http_frames.specs.Body.{framing_of, counted, chunked, AnnouncesBody}
use Rattle.http_frames.specs.Chunks.{Announces, Chunk, IsChunk, chunks_text, chunks_body}
use Rattle.http_frames.specs.Chunks.{LacksLine, LacksPart}
use Rattle.http_frames.specs.Frame.{head_limit, body_limit, IsHead, IsLimitedHead}
use Rattle.http_frames.specs.Spans.{HasNoHead}
use Rattle.http_frames.specs.Stream.{HasNoFrame}

-- a read gives at most so many bytes
abbrev pub piece_limit : ℕ
piece_limit = 4096

-- Some bytes can follow that make these a head; or these end inside the target of a request, of
-- which it is judged at its end only whether it is UTF-8.
abbrev pub MayBecomeHead : Side → List ℕ → Type 0
MayBecomeHead Request bytes = MayBecomeRequest bytes
MayBecomeHead Reply bytes = MayBecomeResponse bytes

-- The bytes are fewer than a head may have, and no head is whole, but they may become one.
pub record LackHead (side : Side) (bytes : List ℕ) : Type 0 where
  pub few : length bytes < head_limit
  pub none : HasNoHead side bytes
  pub may : MayBecomeHead side bytes

-- The bytes are a head within the limits and a part of the body that its lines announce.
pub record LackBody (side : Side) (bytes : List ℕ) : Type 0 where
  pub head : List ℕ
  pub part : List ℕ
  pub start : Start
  pub lines : List Line
  pub announced : ℕ
  pub bytes_are : bytes ≡ head ++ part
  pub head_is : IsLimitedHead side head start lines
  pub framing : framing_of start lines ≡ counted announced
  pub body_fits : announced ≤ body_limit side
  pub lacks : length part < announced

-- The bytes are a head within the limits that announces chunks, whole chunks, and a front of the
-- next or of the end of the body, which stays within its limit.
pub record LackChunk (side : Side) (bytes : List ℕ) : Type 0 where
  pub head : List ℕ
  pub part : List ℕ
  pub start : Start
  pub lines : List Line
  pub chunks : List Chunk
  pub bytes_are : bytes ≡ head ++ (chunks_text chunks ++ part)
  pub head_is : IsLimitedHead side head start lines
  pub framing : framing_of start lines ≡ chunked
  pub each : All IsChunk chunks
  pub body_fits : length (chunks_body chunks) ≤ body_limit side
  pub lacks : LacksLine part ⊎ LacksPart (body_limit side - length (chunks_body chunks)) part

-- These bytes have no message at their front, and by the grammar of a head or by the framing of a
-- body they may still become one. What the lines of a head say is judged once it is whole.
abbrev pub IsUnsettled : Side → List ℕ → Type 0
IsUnsettled side bytes =
    HasNoFrame side bytes
    × (LackHead side bytes ⊎ (LackBody side bytes ⊎ LackChunk side bytes))

-- Some reads gave all that stands behind the first bytes: neither the first read nor the last
-- began where anything was settled, and the last gave a piece.
pub record EndsInRead (side : Side) (first all : List ℕ) : Type 0 where
  pub opens : IsUnsettled side first
  pub earlier : List ℕ
  pub piece : List ℕ
  pub all_is : all ≡ (first ++ earlier) ++ piece
  pub unsettled : IsUnsettled side (first ++ earlier)
  pub small : length piece ≤ piece_limit

-- Nothing was read behind the first bytes, and the source is as it was; or each read was needed.
abbrev pub ReadsAsNeeded : {S : Type 0} → Side → List ℕ → List ℕ → S → S → Type 0
ReadsAsNeeded side first all src now = ((all ≡ first) × (now ≡ src)) ⊎ EndsInRead side first all

-- As long as there are fewer bytes than these, nothing is settled.
pub record StaysUnsettled (side : Side) (bytes : List ℕ) (need : ℕ) : Type 0 where
  pub stays : (more : List ℕ) → length (bytes ++ more) < need → IsUnsettled side (bytes ++ more)

-- The last read began where fewer bytes than these were there.
pub record EndsBelow (need : ℕ) (first all : List ℕ) : Type 0 where
  pub earlier : List ℕ
  pub piece : List ℕ
  pub all_is : all ≡ (first ++ earlier) ++ piece
  pub below : length (first ++ earlier) < need
  pub small : length piece ≤ piece_limit

-- Bytes that begin with a whole head are unsettled only where a message may have that head: it is
-- within the limits, and announces a body that is.
abbrev pub WholeHeadsAreJudged : Type 0
WholeHeadsAreJudged =
    (side : Side) (head rest : List ℕ) (start : Start) (lines : List Line)
    → IsHead side head start lines → IsUnsettled side (head ++ rest)
    → IsLimitedHead side head start lines
    × AnnouncesBody (body_limit side) (framing_of start lines)

-- Where a chunk is wanted, bytes that begin with a whole chunk line are waited for only where that
-- line is within the limit, and says that no more bytes follow than the body may still have.
abbrev pub WholeLinesAreJudged : Type 0
WholeLinesAreJudged =
    (most : ℕ) (line : ChunkLine) (rest : List ℕ) → IsChunkLine line
    → LacksLine (print_chunk_line line ++ rest) ⊎ LacksPart most (print_chunk_line line ++ rest)
    → Announces line (chunk_size line) × (chunk_size line ≤ most)
