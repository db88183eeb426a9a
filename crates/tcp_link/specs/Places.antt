-- Hosts and ports, as they stand in URLs.
use Rattle.std.specs.Prelude.{ℕ}

-- the port of an http URL that names none (RFC 9110, section 4.2.1)
abbrev pub usual_port : ℕ
usual_port = 80
