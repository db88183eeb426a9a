-- The URLs of points of access and of notification targets, after RFC 3986: the scheme `http`, a
-- host and perhaps a port, no user information and no fragment. What stands behind is any text of
-- printable ASCII.
use Rattle.std.specs.Prelude.{◌≡◌, ℕ, ◌+◌, ◌≤◌, Bool, true, not, ◌&&◌, ◌||◌, ◌==◌, List}
use Rattle.std.specs.Prelude.{[], ◌∷◌, ◌++◌, length, codes, IsTrue}
use Rattle.std.specs.Char.{is_ascii_alphanumeric, is_ascii_graphic}
use Rattle.std.specs.Int.{is_in_range}
use Rattle.std.specs.List.{list_all}
use Rattle.std.specs.Str.Parse.{digits_value}
use Rattle.m2m_names.specs.Name.{is_decimal, is_filled}

-- a letter, a digit, `.` or `-`
abbrev pub is_host_byte : ℕ → Bool
is_host_byte b = is_ascii_alphanumeric b || (b == 46) || (b == 45)

-- a byte behind host and port: a printable ASCII character that is neither a space nor `#`
abbrev pub is_rest_byte : ℕ → Bool
is_rest_byte b = is_ascii_graphic b && not (b == 35)

-- the scheme with its slashes, and how many bytes they have
abbrev pub scheme : List ℕ
scheme = codes "http://"

abbrev pub front_len : ℕ
front_len = 7

-- how many bytes a host may have
abbrev pub host_limit : ℕ
host_limit = 253

-- 1 to 253 bytes of a host
abbrev pub is_host : List ℕ → Bool
is_host bytes = is_filled host_limit bytes && list_all is_host_byte bytes

-- the number of a port: 1 to 65,535
abbrev pub largest_port : ℕ
largest_port = 65_535

-- The number is that of a port.
abbrev pub is_port_value : ℕ → Bool
is_port_value n = is_in_range 1 largest_port n

-- how many digits it may have
abbrev pub port_digits_limit : ℕ
port_digits_limit = 5

-- 1 to 5 digits of such a number
abbrev pub is_port_number : List ℕ → Bool
is_port_number digits =
    is_decimal port_digits_limit digits && is_port_value (digits_value 10 digits)

-- nothing, or `:` and the number of a port
abbrev pub is_port : List ℕ → Bool
is_port [] = true
is_port (b ∷ digits) = (b == 58) && is_port_number digits

-- nothing, or `/` and any bytes of a path
abbrev pub is_path : List ℕ → Bool
is_path [] = true
is_path (b ∷ bytes) = (b == 47) && list_all is_rest_byte bytes

-- the most bytes that an address or a URL has (the profile's)
abbrev pub point_limit : ℕ
point_limit = 512

-- the text is a URL whose host and port end at that place
pub record IsUrl (text : List ℕ) (host_end : ℕ) : Type 0 where
  pub host : List ℕ
  pub port : List ℕ
  pub path : List ℕ
  pub host_is : IsTrue (is_host host)
  pub port_is : IsTrue (is_port port)
  pub path_is : IsTrue (is_path path)
  pub bytes : text ≡ scheme ++ host ++ port ++ path
  pub ends : host_end ≡ front_len + length host + length port
  pub short : length text ≤ point_limit
