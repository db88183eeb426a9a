-- The bytes of a URL.
use Rattle.std.proofs.Common.{◌≡◌, ℕ, ◌+◌, Bool, true, ◌==◌, not, List, [], ◌∷◌, ◌++◌, codes, IsTrue, refl, sym, subst, arith}
use Rattle.std.specs.Int.{is_in_range}
use Rattle.std.specs.List.{list_all}
use Rattle.std.specs.Str.Parse.{digits_value}
use Rattle.std.proofs.lemmas.Bool.{and_parts}
use Rattle.std.proofs.lemmas.Bool.Decides.{nat_tests}
use Rattle.std.proofs.lemmas.List.Elements.{All-nil, All-cons, All-append, All-drop, All-take, All-weaker}
use Rattle.std.proofs.lemmas.List.Sums.{AllPass-from_list_all}
use Rattle.httparse.specs.Grammar.{AllPass}
use Rattle.http_uri.specs.ByteClasses.{slash, index_of}
use Rattle.m2m_names.specs.Name.{is_filled, is_decimal}
use Rattle.m2m_names.specs.Urls.{is_host_byte, is_rest_byte, is_port_number, is_port, is_path, port_digits_limit}
use Rattle.std.specs.Char.{is_ascii_digit, is_ascii_graphic}
use Rattle.primitive_json.specs.Notes.{IsSomeUrl}
use Rattle.http_client_binding.specs.TargetWriting.{behind_scheme, host_of}
use Rattle.m2m_names.proofs.NameLemmas.{decimal_parts}

-- each byte is printable
host_graphic : (b : ℕ) → is_host_byte b ≡ true → IsTrue (is_ascii_graphic b)
host_graphic b h = grind (arith, nat_tests)

digit_graphic : (b : ℕ) → is_ascii_digit b ≡ true → IsTrue (is_ascii_graphic b)
digit_graphic b h = grind (arith, nat_tests)

path_graphic : (b : ℕ) → is_rest_byte b ≡ true → IsTrue (is_ascii_graphic b)
path_graphic b h = (and_parts (is_in_range 33 126 b) (not (b == 35)) h).0

all_graphic : (test : ℕ → Bool) → ((b : ℕ) → test b ≡ true → IsTrue (is_ascii_graphic b)) → (bs : List ℕ) → list_all test bs ≡ true → AllPass is_ascii_graphic bs
all_graphic test f bs h =
    All-weaker (λ b. test b ≡ true) (λ b. IsTrue (is_ascii_graphic b)) f bs (AllPass-from_list_all test bs h)

one_graphic : (mark b : ℕ) → IsTrue (is_ascii_graphic mark) → (b == mark) ≡ true → IsTrue (is_ascii_graphic b)
one_graphic mark b h is = let same : b ≡ mark = grind (arith, nat_tests) in subst (λ c. IsTrue (is_ascii_graphic c)) (sym same) h

port_passes : (port : List ℕ) → IsTrue (is_port port) → AllPass is_ascii_graphic port
port_passes [] h = All-nil (λ b. IsTrue (is_ascii_graphic b))
port_passes (b ∷ digits) h =
    let parts = and_parts (b == 58) (is_port_number digits) h in
    let inner = and_parts (is_decimal port_digits_limit digits) (is_in_range 1 65_535 (digits_value 10 digits)) parts.1 in
    let all = (decimal_parts port_digits_limit digits inner.0).digits in
    All-cons (λ c. IsTrue (is_ascii_graphic c)) b digits (one_graphic 58 b refl parts.0) (all_graphic is_ascii_digit digit_graphic digits all)

path_passes : (path : List ℕ) → IsTrue (is_path path) → AllPass is_ascii_graphic path
path_passes [] h = All-nil (λ b. IsTrue (is_ascii_graphic b))
path_passes (b ∷ bytes) h =
    let parts = and_parts (b == 47) (list_all is_rest_byte bytes) h in
    All-cons (λ c. IsTrue (is_ascii_graphic c)) b bytes (one_graphic 47 b refl parts.0) (all_graphic is_rest_byte path_graphic bytes parts.1)

url_graphic : (text : List ℕ) → IsSomeUrl text → AllPass is_ascii_graphic text
url_graphic text h =
    let u = h.1 in
    let P : ℕ → Type 0 = λ b. IsTrue (is_ascii_graphic b) in
    let host = (and_parts (is_filled 253 u.host) (list_all is_host_byte u.host) u.host_is).1 in
    let front = All-append P (codes "http://") u.host (AllPass-from_list_all is_ascii_graphic (codes "http://") refl) (all_graphic is_host_byte host_graphic u.host host) in
    let ported = All-append P (codes "http://" ++ u.host) u.port front (port_passes u.port u.port_is) in
    subst (AllPass is_ascii_graphic) (sym u.bytes) (All-append P (codes "http://" ++ u.host ++ u.port) u.path ported (path_passes u.path u.path_is))

-- and so is each of the host
pub host_passes : (url : List ℕ) → IsSomeUrl url → AllPass is_ascii_graphic (host_of url)
host_passes url h =
    let P : ℕ → Type 0 = λ b. IsTrue (is_ascii_graphic b) in
    All-take P (index_of slash (behind_scheme url)) (behind_scheme url) (All-drop P 7 url (url_graphic url h))
