-- How much room is kept: so much at most.
use Rattle.std.specs.Prelude.{ℕ, ◌+◌, ◌*◌}
use Rattle.http_frames.specs.Frame.{head_limit, lines_limit}
use Rattle.http_frames.specs.Waiting.{piece_limit}

-- so many bytes at most in front of those held, and so many behind: what the longest head and a
-- piece need
abbrev pub room_limit : ℕ
room_limit = head_limit + piece_limit

-- a buffer that is kept has room for so many bytes at most
abbrev pub buffer_limit : ℕ
buffer_limit = 256

-- so many buffers are kept at most: those of the lines, a method, a target and a body
abbrev pub buffers_limit : ℕ
buffers_limit = 2 * lines_limit + 3
