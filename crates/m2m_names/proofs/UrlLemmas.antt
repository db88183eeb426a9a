-- What is read is a URL, and each URL is read.
use Rattle.std.proofs.Common.{◌≡◌, Bool, true, false, ◌&&◌, ℕ, ◌+◌, ◌≤◌, ◌∙◌, sym, ap, refl, cond, List, [], ◌∷◌, ◌++◌, length, take, drop, Some, arith, IsTrue, ◌==◌, nat_le, append_assoc, length-append, suc}
use Rattle.std.specs.Char.{is_ascii_digit}
use Rattle.std.specs.List.{list_all, prefix_len}
use Rattle.std.specs.Str.{bytes_eq}
use Rattle.std.specs.Str.Parse.{digits_value}
use Rattle.std.proofs.lemmas.Bool.{and_from, eqb-true, leb-true, le-leb, lt-ltb}
use Rattle.std.proofs.lemmas.List.{take-append-drop}
use Rattle.std.proofs.lemmas.List.Folds.{length-prefix_len}
use Rattle.std.proofs.lemmas.Option.{cond_some, same_Some}
use Rattle.std.proofs.lemmas.Slice.Eq.{bytes_eq-Decides}
use Rattle.std.proofs.Math.Seq.{drop-append_seam, take-append_seam}
use Rattle.m2m_names.specs.Name.{is_filled, is_length, is_numeral}
use Rattle.m2m_names.specs.Steps.{◌>>=◌}
use Rattle.m2m_names.specs.Urls.{scheme, is_host_byte, is_rest_byte, is_host, is_port_value, is_port_number, is_port, is_path, IsUrl}
use Rattle.m2m_names.specs.UrlReading.{past_scheme, host_at, port_digits_at, port_at, host_end_at}
use Rattle.m2m_names.proofs.StepLemmas.{bind_some, bind_again}

both_of : (a b : Bool) → (a && b) ≡ true → (a ≡ true) × (b ≡ true)
both_of true b e = (refl, e)
both_of false b e = let h : false ≡ true = e in cc

-- ---- the longest front of bytes of a kind

front_step : (p : ℕ → Bool) (x : ℕ) (xs : List ℕ) (b : Bool) → p x ≡ b → list_all p (take (prefix_len p xs) xs) ≡ true → list_all p (take (cond b (1 + prefix_len p xs) 0) (x ∷ xs)) ≡ true
front_step p x xs true is rest = let one : 1 + prefix_len p xs ≡ suc (prefix_len p xs) = omega arith in rw (one, is) rest
front_step p x xs false is rest = refl

-- its bytes are all of the kind
front_passes : (p : ℕ → Bool) (xs : List ℕ) → list_all p (take (prefix_len p xs) xs) ≡ true
front_passes p [] = refl
front_passes p (x ∷ xs) = front_step p x xs (p x) refl (front_passes p xs)

-- the bytes don't begin with one of the kind
abbrev pub Stops : (ℕ → Bool) → List ℕ → Type 0
Stops p [] = Unit {0}
Stops p (x ∷ xs) = p x ≡ false

-- bytes of the kind, and no more after them, are the longest front
pub front_is : (p : ℕ → Bool) (xs rest : List ℕ) → list_all p xs ≡ true → Stops p rest → prefix_len p (xs ++ rest) ≡ length xs
front_is p [] [] all stops = refl
front_is p [] (x ∷ rest) all stops = rw stops refl
front_is p (x ∷ xs) rest all stops =
    let h = both_of (p x) (list_all p xs) all in
    rw (h.0, front_is p xs rest h.1 stops) (omega arith)

-- ---- host

-- a part was read, and what is left
pub record TakesPart (P : List ℕ → Type 0) (bytes : List ℕ) (x : ℕ × List ℕ) : Type 0 where
  pub part : List ℕ
  pub is : P part
  pub joined : bytes ≡ part ++ x.1
  pub len : length part ≡ x.0

host_takes : (bytes : List ℕ) (x : ℕ × List ℕ) → host_at bytes ≡ Some x → TakesPart (λ h. IsTrue (is_host h)) bytes x
unfolding host_at
host_takes bytes x e =
    let n = prefix_len is_host_byte bytes in
    let h = cond_some (is_length 253 n) (n, drop n bytes) x e in
    let size : length (take n bytes) ≡ n = length-prefix_len is_host_byte bytes in
    let same_len : n ≡ x.0 = ap (λ (y : ℕ × List ℕ). y.0) h.1 in
    let same_rest : drop n bytes ≡ x.1 = ap (λ (y : ℕ × List ℕ). y.1) h.1 in
    record {
      part = take n bytes;
      is = rw (size, h.0) (front_passes is_host_byte bytes);
      joined = sym (take-append-drop n bytes) ∙ ap (λ r. take n bytes ++ r) same_rest;
      len = size ∙ same_len;
    }

host_again : (host rest : List ℕ) → is_host host ≡ true → Stops is_host_byte rest → host_at (host ++ rest) ≡ Some (length host, rest)
unfolding host_at
host_again host rest is stops =
    let h = both_of (is_length 253 (length host)) (list_all is_host_byte host) is in
    rw (front_is is_host_byte host rest h.1 stops, h.0, drop-append_seam host rest) refl

-- ---- port

digits_take : (bytes : List ℕ) (x : ℕ × List ℕ) → port_digits_at bytes ≡ Some x → TakesPart (λ d. IsTrue (is_port_number d)) bytes x
unfolding port_digits_at
digits_take bytes x e =
    let n = prefix_len is_ascii_digit bytes in
    let h = cond_some (is_length 5 n && is_port_value (digits_value 10 (take n bytes))) (n, drop n bytes) x e in
    let ranges = both_of (is_length 5 n) (is_port_value (digits_value 10 (take n bytes))) h.0 in
    let size : length (take n bytes) ≡ n = length-prefix_len is_ascii_digit bytes in
    let same_len : n ≡ x.0 = ap (λ (y : ℕ × List ℕ). y.0) h.1 in
    let same_rest : drop n bytes ≡ x.1 = ap (λ (y : ℕ × List ℕ). y.1) h.1 in
    record {
      part = take n bytes;
      is = rw (size, ranges.0, front_passes is_ascii_digit bytes) ranges.1;
      joined = sym (take-append-drop n bytes) ∙ ap (λ r. take n bytes ++ r) same_rest;
      len = size ∙ same_len;
    }

-- they are a numeral, which has up to 18
pub port_numeral : (bytes : List ℕ) (n : ℕ) → n ≡ prefix_len is_ascii_digit bytes → 1 ≤ n → n ≤ 5 → is_numeral (take n bytes) ≡ true
port_numeral bytes n is some short =
    let size : length (take (prefix_len is_ascii_digit bytes) bytes) ≡ prefix_len is_ascii_digit bytes = length-prefix_len is_ascii_digit bytes in
    let filled : is_filled 18 (take n bytes) ≡ true =
    rw (is, size) (and_from _ _ (lt-ltb 0 (prefix_len is_ascii_digit bytes) (omega (arith, is, some))) (le-leb (prefix_len is_ascii_digit bytes) 18 (omega (arith, is, short)))) in
    and_from _ _ filled (ap (λ k. list_all is_ascii_digit (take k bytes)) is ∙ front_passes is_ascii_digit bytes)

digits_again : (digits rest : List ℕ) → is_port_number digits ≡ true → Stops is_ascii_digit rest → port_digits_at (digits ++ rest) ≡ Some (length digits, rest)
unfolding port_digits_at
digits_again digits rest is stops =
    let h = both_of (is_length 5 (length digits) && list_all is_ascii_digit digits) _ is in
    let k = both_of (is_length 5 (length digits)) (list_all is_ascii_digit digits) h.0 in
    rw (front_is is_ascii_digit digits rest k.1 stops, k.0, take-append_seam digits rest, h.1, drop-append_seam digits rest) refl

port_step : (b : ℕ) (bytes : List ℕ) (x : ℕ × List ℕ) (colon : Bool) → (b == 58) ≡ colon → cond colon (port_digits_at bytes >>= λ port. Some (1 + port.0, port.1)) (Some (0, b ∷ bytes)) ≡ Some x → TakesPart (λ p. IsTrue (is_port p)) (b ∷ bytes) x
port_step b bytes x true is e =
    let d = bind_some (port_digits_at bytes) _ x e in
    let h = digits_take bytes d.0 d.1 in
    let same = same_Some _ x d.2 in
    let same_len : 1 + d.0.0 ≡ x.0 = ap (λ (y : ℕ × List ℕ). y.0) same in
    let same_rest : d.0.1 ≡ x.1 = ap (λ (y : ℕ × List ℕ). y.1) same in
    record {
      part = b ∷ h.part;
      is = rw is h.is;
      joined = ap (λ r. b ∷ r) (h.joined ∙ ap (λ r. h.part ++ r) same_rest);
      len = omega (arith, h.len, same_len);
    }
port_step b bytes x false is e =
    let same = same_Some _ x e in
    record {
      part = [];
      is = refl;
      joined = ap (λ (y : ℕ × List ℕ). y.1) same;
      len = ap (λ (y : ℕ × List ℕ). y.0) same;
    }

port_takes : (bytes : List ℕ) (x : ℕ × List ℕ) → port_at bytes ≡ Some x → TakesPart (λ p. IsTrue (is_port p)) bytes x
unfolding port_at
port_takes [] x e =
    let same = same_Some _ x e in
    record {
      part = [];
      is = refl;
      joined = ap (λ (y : ℕ × List ℕ). y.1) same;
      len = ap (λ (y : ℕ × List ℕ). y.0) same;
    }
port_takes (b ∷ bytes) x e = port_step b bytes x (b == 58) refl e

-- a path doesn't begin with a digit, nor does a port with a path after it with a byte of a host
slash : (b : ℕ) (bytes : List ℕ) → is_path (b ∷ bytes) ≡ true → b ≡ 47
slash b bytes is = eqb-true b 47 (both_of (b == 47) (list_all is_rest_byte bytes) is).0

path_stops_digits : (path : List ℕ) → is_path path ≡ true → Stops is_ascii_digit path
path_stops_digits [] is = tt
path_stops_digits (b ∷ bytes) is = ap is_ascii_digit (slash b bytes is)

path_stops_host : (path : List ℕ) → is_path path ≡ true → Stops is_host_byte path
path_stops_host [] is = tt
path_stops_host (b ∷ bytes) is = ap is_host_byte (slash b bytes is)

colon : (b : ℕ) (digits : List ℕ) → is_port (b ∷ digits) ≡ true → b ≡ 58
colon b digits is = eqb-true b 58 (both_of (b == 58) (is_port_number digits) is).0

port_stops_host : (port path : List ℕ) → is_port port ≡ true → is_path path ≡ true → Stops is_host_byte (port ++ path)
port_stops_host [] path port_is path_is = path_stops_host path path_is
port_stops_host (b ∷ digits) path port_is path_is = ap is_host_byte (colon b digits port_is)

no_colon : (path : List ℕ) → is_path path ≡ true → port_at path ≡ Some (0, path)
unfolding port_at
no_colon [] is = refl
no_colon (b ∷ bytes) is = ap (λ c. cond (c == 58) (port_digits_at bytes >>= λ port. Some (1 + port.0, port.1)) (Some (0, b ∷ bytes))) (slash b bytes is)

port_again : (port path : List ℕ) → is_port port ≡ true → is_path path ≡ true → port_at (port ++ path) ≡ Some (length port, path)
unfolding port_at
port_again [] path port_is path_is = no_colon path path_is
port_again (b ∷ digits) path port_is path_is =
    let h = both_of (b == 58) (is_port_number digits) port_is in
    let read = digits_again digits path h.1 (path_stops_digits path path_is) in
    let one : 1 + length digits ≡ suc (length digits) = omega arith in
    rw (h.0, read, one) refl

-- ---- the whole

scheme_takes : (text rest : List ℕ) → past_scheme text ≡ Some rest → text ≡ scheme ++ rest
scheme_takes text rest e =
    let h = cond_some (bytes_eq (take 7 text) scheme) (drop 7 text) rest e in
    let front : take 7 text ≡ scheme = (bytes_eq-Decides (take 7 text) scheme).0 h.0 in
    sym (take-append-drop 7 text) ∙ ap (λ f. f ++ drop 7 text) front ∙ ap (λ r. scheme ++ r) h.1

-- what is read is a URL
pub url_found : (text : List ℕ) (place : ℕ) → host_end_at text ≡ Some place → IsUrl text place
unfolding host_end_at
url_found text place e =
    let rest = bind_some (past_scheme text) _ place e in
    let host = bind_some (host_at rest.0) _ place rest.2 in
    let port = bind_some (port_at host.0.1) _ place host.2 in
    let h = host_takes rest.0 host.0 host.1 in
    let p = port_takes host.0.1 port.0 port.1 in
    let ends = cond_some (is_path port.0.1 && nat_le (length text) 512) (7 + host.0.0 + port.0.0) place port.2 in
    let tests = both_of (is_path port.0.1) (nat_le (length text) 512) ends.0 in
    let parts = h.joined ∙ ap (λ r. h.part ++ r) p.joined ∙ sym (append_assoc h.part p.part port.0.1) in
    record {
      host = h.part;
      port = p.part;
      path = port.0.1;
      host_is = h.is;
      port_is = p.is;
      path_is = tests.0;
      bytes = scheme_takes text rest.0 rest.1 ∙ ap (λ r. scheme ++ r) parts;
      ends = omega (arith, ends.1, h.len, p.len);
      short = leb-true (length text) 512 tests.1;
    }

-- and each URL is read
pub url_only : (text : List ℕ) (place : ℕ) → IsUrl text place → host_end_at text ≡ Some place
unfolding host_end_at
url_only text place u =
    let rest = u.host ++ (u.port ++ u.path) in
    let grouped : text ≡ scheme ++ rest = u.bytes ∙ ap (λ r. scheme ++ r) (append_assoc u.host u.port u.path) in
    let stops = port_stops_host u.port u.path u.port_is u.path_is in
    let short : nat_le (length text) 512 ≡ true = le-leb (length text) 512 u.short in
    bind_again (past_scheme text) _ rest _ (ap past_scheme grouped)
    (bind_again (host_at rest) _ (length u.host, u.port ++ u.path) _ (host_again u.host (u.port ++ u.path) u.host_is stops)
    (bind_again (port_at (u.port ++ u.path)) _ (length u.port, u.path) _ (port_again u.port u.path u.port_is u.path_is)
    (rw (u.path_is, short, u.ends) refl)))

-- the host and port lie in the text
pub url_within : (text : List ℕ) (place : ℕ) → IsUrl text place → place ≤ length text
url_within text place u =
    let size = ap length u.bytes in
    omega (arith, u.ends, size, length-append (u.host ++ u.port) u.path, length-append u.host u.port)
