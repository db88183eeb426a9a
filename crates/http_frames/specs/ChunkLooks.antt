-- What a look at the front of chunks says of the bytes, and how far chunks were walked.
use Rattle.std.specs.Prelude.{◌≡◌, ℕ, ◌+◌, ◌<◌, ◌≤◌, ◌⊎◌, List, ◌++◌, length, take, drop, All}
use Rattle.httparse.specs.Ascii.{crlf_bytes}
use Rattle.httparse.specs.Grammar.{ChunkLine, print_chunk_line}
use Rattle.http_frames.specs.declared.chunks.ChunkLook.{ChunkLook}
use Rattle.http_frames.specs.declared.chunks.ChunkLook.TheVariants as look
use Rattle.http_frames.specs.declared.chunks.Stop.{Stop}
use Rattle.http_frames.specs.declared.chunks.Stop.TheVariants as stop
use Rattle.http_frames.specs.declared.chunks.EndLook.{EndLook}
use Rattle.http_frames.specs.declared.chunks.EndLook.TheVariants as end
use Rattle.http_frames.specs.Chunks.{Announces, Chunk, IsChunk, chunks_text, chunks_body}
use Rattle.http_frames.specs.Chunks.{chunk_line_limit, LacksLine, LacksEnd, LacksPart}

-- ---- n bytes and CR LF

-- So many bytes and CR LF stand at the front.
pub record HasEnd (text : List ℕ) (n : ℕ) : Type 0 where
  pub text_is : text ≡ take n text ++ (crlf_bytes ++ drop (n + 2) text)
  pub within : n + 2 ≤ length text

-- So many bytes and CR LF don't stand there before so many bytes are there, and until then they
-- may.
pub record WaitsForEnd (text : List ℕ) (n need : ℕ) : Type 0 where
  pub more_wanted : length text < need
  pub most : need ≤ n + 2
  pub lacks : (more : List ℕ) → length (text ++ more) < need → LacksEnd n (text ++ more)

-- Whatever follows, so many bytes and CR LF don't stand there.
pub record ExcludesEnd (text : List ℕ) (n : ℕ) : Type 0 where
  pub none : (more part rest : List ℕ) → length part ≡ n
      → ¬ (text ++ more ≡ part ++ (crlf_bytes ++ rest))

-- what a look for so many bytes and CR LF answers
abbrev pub IsEndLook : List ℕ → ℕ → EndLook → Type 0
IsEndLook text n end.Whole = HasEnd text n
IsEndLook text n (end.Short need) = WaitsForEnd text n need
IsEndLook text n end.Never = ExcludesEnd text n

-- ---- a chunk, or the end of the body

-- A chunk line stands at the front, which ends there and says that so many bytes follow.
pub record IsLineAt (text : List ℕ) (start size : ℕ) : Type 0 where
  pub line : ChunkLine
  pub announces : Announces line size
  pub start_is : start ≡ length (print_chunk_line line)
  pub text_is : text ≡ print_chunk_line line ++ drop start text
  pub within : start ≤ length text

-- The text begins with a chunk that has at most so many bytes of the body; or, where it has none,
-- with the end of the body.
pub record GoesOn (most : ℕ) (text : List ℕ) : Type 0 where
  pub line : ChunkLine
  pub part : List ℕ
  pub rest : List ℕ
  pub announces : Announces line (length part)
  pub fits : length part ≤ most
  pub text_is : text ≡ print_chunk_line line ++ (part ++ (crlf_bytes ++ rest))

-- A chunk line ends there, and so many bytes and CR LF stand behind it.
pub record GoesOnBy (text : List ℕ) (start size : ℕ) : Type 0 where
  pub at : IsLineAt text start size
  pub ends : HasEnd (drop start text) size

-- No whole chunk goes on there before so many bytes are there, and until then one may.
pub record WaitsForChunk (most : ℕ) (text : List ℕ) (need : ℕ) : Type 0 where
  pub more_wanted : length text < need
  pub most_wanted : need ≤ chunk_line_limit + most + 2
  pub none : (more : List ℕ) → length (text ++ more) < need → ¬ (GoesOn most (text ++ more))
  pub lacks : (more : List ℕ) → length (text ++ more) < need
      → LacksLine (text ++ more) ⊎ LacksPart most (text ++ more)

-- Whatever follows, it doesn't.
pub record ExcludesChunk (most : ℕ) (text : List ℕ) : Type 0 where
  pub none : (more : List ℕ) → ¬ (GoesOn most (text ++ more))

-- what stands there where no chunk does and at most so many bytes of the body may come: the end of
-- the body, or neither
abbrev pub IsStop : ℕ → List ℕ → Stop → Type 0
IsStop most text (stop.End start) = GoesOnBy text start 0
IsStop most text (stop.Short need) = WaitsForChunk most text need
IsStop most text stop.Never = ExcludesChunk most text

-- what a look at the front answers
abbrev pub IsChunkLook : ℕ → List ℕ → ChunkLook → Type 0
IsChunkLook most text (look.Chunk start size) =
    GoesOnBy text start size × (size ≤ most) × (0 < size)
IsChunkLook most text (look.Rest rest) = IsStop most text rest

-- ---- chunks that were walked

-- Whole chunks stand at the front of the bytes, up to a place, with this part of the body.
pub record AreChunksAt (bytes : List ℕ) (at : ℕ) (body : List ℕ) : Type 0 where
  pub chunks : List Chunk
  pub each : All IsChunk chunks
  pub bytes_are : bytes ≡ chunks_text chunks ++ drop at bytes
  pub at_is : at ≡ length (chunks_text chunks)
  pub body_is : body ≡ chunks_body chunks
