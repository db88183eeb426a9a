-- Chunked bodies (RFC 9112, section 7.1).
use Rattle.std.specs.Prelude.{◌≡◌, ◌<◌, ◌≤◌, ◌⊎◌, ℕ, List, [], ◌∷◌, ◌++◌, length, All}
use Rattle.std.specs.List.{flat_map}
use Rattle.httparse.specs.Ascii.{carriage_return, crlf_bytes}
use Rattle.httparse.specs.Grammar.{ChunkLine, IsChunkLine, print_chunk_line, chunk_size}
use Rattle.httparse.specs.Grammar.{HasNoChunkLine, MayBecomeChunkLine}

-- a chunk line has at most so many bytes, its CR LF counted
abbrev pub chunk_line_limit : ℕ
chunk_line_limit = 256

-- A chunk line within the limit says that so many bytes follow.
pub record Announces (line : ChunkLine) (n : ℕ) : Type 0 where
  pub valid : IsChunkLine line
  pub fits : length (print_chunk_line line) ≤ chunk_line_limit
  pub size : chunk_size line ≡ n

-- a line, and a part of the body
pub record Chunk : Type 0 where
  pub line : ChunkLine
  pub part : List ℕ

-- the bytes of a chunk: its line, its part of the body, and CR LF
abbrev pub chunk_text : Chunk → List ℕ
chunk_text chunk = print_chunk_line chunk.line ++ (chunk.part ++ crlf_bytes)

-- A chunk has some part of the body, as long as its line says.
abbrev pub IsChunk : Chunk → Type 0
IsChunk chunk = Announces chunk.line (length chunk.part) × (0 < length chunk.part)

-- the bytes of chunks one after another
abbrev pub chunks_text : List Chunk → List ℕ
chunks_text chunks = flat_map chunk_text chunks

-- the part of the body that chunks have
abbrev pub chunks_body : List Chunk → List ℕ
chunks_body chunks = flat_map (λ chunk. chunk.part) chunks

-- The bytes are chunks one after another, a last chunk line, and CR LF, with no trailer fields; and
-- the body is the parts that the chunks have.
pub record IsChunked (carried body : List ℕ) : Type 0 where
  pub chunks : List Chunk
  pub last : ChunkLine
  pub each : All IsChunk chunks
  pub ends : Announces last 0
  pub carried_is : carried ≡ chunks_text chunks ++ (print_chunk_line last ++ crlf_bytes)
  pub body_is : body ≡ chunks_body chunks

-- The bytes are fewer than a chunk line may have, and none is whole, but they may become one.
pub record LacksLine (text : List ℕ) : Type 0 where
  pub few : length text < chunk_line_limit
  pub none : HasNoChunkLine text
  pub may : MayBecomeChunkLine text

-- Behind a chunk line that says that n bytes follow, there are no more than these, or these and the
-- CR of the CR LF behind them.
abbrev pub LacksEnd : ℕ → List ℕ → Type 0
LacksEnd n part =
    (length part ≤ n)
    ⊎ ((data_of : List ℕ) × (length data_of ≡ n) × (part ≡ data_of ++ carriage_return ∷ []))

-- The bytes are a chunk line that says that no more than so many bytes follow, and a front of what
-- has to follow.
pub record LacksPart (most : ℕ) (text : List ℕ) : Type 0 where
  pub line : ChunkLine
  pub announced : ℕ
  pub part : List ℕ
  pub announces : Announces line announced
  pub fits : announced ≤ most
  pub text_is : text ≡ print_chunk_line line ++ part
  pub lacks : LacksEnd announced part
