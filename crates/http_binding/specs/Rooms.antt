-- The room in which replies are written.
use Rattle.std.specs.Prelude.{ℕ}

-- so many bytes stand before a content until its head is made
abbrev pub head_room : ℕ
head_room = 384

-- a buffer that is kept from one reply to the next has room for so many bytes at most
abbrev pub kept_limit : ℕ
kept_limit = 4096
