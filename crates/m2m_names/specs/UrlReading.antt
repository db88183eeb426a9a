-- Reading a URL from left to right.
use Rattle.std.specs.Prelude.{ℕ, ◌+◌, ◌&&◌, ◌==◌, nat_le, List, [], ◌∷◌, length, take, drop, Option}
use Rattle.std.specs.Prelude.{Some, None, if◌then◌else◌}
use Rattle.std.specs.Char.{is_ascii_digit}
use Rattle.std.specs.List.{prefix_len}
use Rattle.std.specs.Str.{bytes_eq}
use Rattle.std.specs.Str.Parse.{digits_value}
use Rattle.m2m_names.specs.Name.{is_length}
use Rattle.m2m_names.specs.Steps.{◌>>=◌}
use Rattle.m2m_names.specs.Urls.{scheme, front_len, is_host_byte, host_limit, is_path}
use Rattle.m2m_names.specs.Urls.{port_digits_limit, is_port_value, point_limit}

-- the bytes after the scheme
abbrev pub past_scheme : List ℕ → Option (List ℕ)
past_scheme bytes =
    if bytes_eq (take front_len bytes) scheme then Some (drop front_len bytes) else None

-- the length of a host, and the bytes after it
unfoldable pub host_at : List ℕ → Option (ℕ × List ℕ)
host_at bytes =
    let n = prefix_len is_host_byte bytes in
    if is_length host_limit n then Some (n, drop n bytes) else None

-- the length of the digits of a port, and the bytes after them
unfoldable pub port_digits_at : List ℕ → Option (ℕ × List ℕ)
port_digits_at bytes =
    let n = prefix_len is_ascii_digit bytes in
    if is_length port_digits_limit n && is_port_value (digits_value 10 (take n bytes))
    then Some (n, drop n bytes) else None

-- the length of a port with its colon, or 0 where there is none, and the bytes after it
unfoldable pub port_at : List ℕ → Option (ℕ × List ℕ)
port_at [] = Some (0, [])
port_at (b ∷ bytes) =
    if b == 58
    then (port_digits_at bytes >>= λ port. Some (1 + port.0, port.1))
    else Some (0, b ∷ bytes)

-- where the host and port of a URL end
unfoldable pub host_end_at : List ℕ → Option ℕ
host_end_at bytes = do
  rest ← past_scheme bytes
  host ← host_at rest
  port ← port_at host.1
  if is_path port.1 && nat_le (length bytes) point_limit
      then Some (front_len + host.0 + port.0)
      else None
