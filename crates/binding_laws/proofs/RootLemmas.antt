-- The target of a request to another CSE is one of the grammar, whatever path the URL has.
use Rattle.binding_laws.proofs.Words.{◌≡◌, ℕ, ◌-◌, ◌==◌, true, not, List, [], ◌∷◌, ◌++◌, length, take, IsTrue, refl, sym, subst, arith, append_assoc, length-append, digits_value, list_all}
use Rattle.binding_laws.proofs.Terms.{IsTarget, index_of, is_decimal, is_filled, query_pairs, query_part, query_text, slash, target_text}
use Rattle.binding_laws.proofs.Facts.{All-weaker, AllPass-from_list_all, all_weaker, and_from, and_parts, cond_both, list_all-from_AllPass, nat_tests}
use Rattle.std.specs.Char.{is_ascii_digit, is_ascii_graphic}
use Rattle.std.specs.Prelude.{slice_index}
use Rattle.std.proofs.lemmas.Bool.{eqb-true}
use Rattle.std.proofs.lemmas.List.Elements.{All-append, All-drop, All-take}
use Rattle.std.proofs.lemmas.Str.{IsUtf8-append}
use Rattle.httparse.specs.Grammar.{AllPass, is_uri_byte}
use Rattle.http_uri.specs.ByteClasses.{question_mark, split_once_front}
use Rattle.m2m_names.specs.Urls.{front_len, host_limit, is_host_byte, is_path, is_port, is_port_number, is_port_value, is_rest_byte, port_digits_limit, scheme}
use Rattle.m2m_names.proofs.NameLemmas.{decimal_parts, graphic_is_utf8}
use Rattle.primitive_json.specs.Notes.{IsSomeUrl}
use Rattle.primitive_json.specs.declared.request.RequestParts.{RequestParts}
use Rattle.http_client_binding.specs.TargetWriting.{behind_scheme, path_and_query_of, path_of_address, root_path, without_last_slash}
use Rattle.http_client_binding.specs.declared.target.Aim.TheVariants.{Peer}
use Rattle.binding_laws.proofs.PlainLemmas.{is_part_byte, parts_target}
use Rattle.binding_laws.proofs.TargetLemmas.{all_append, target_with}

-- ---- the bytes of a URL

host_graphic : (b : ℕ) → is_host_byte b ≡ true → is_ascii_graphic b ≡ true
host_graphic b h = grind (arith, nat_tests)

digit_graphic : (b : ℕ) → is_ascii_digit b ≡ true → is_ascii_graphic b ≡ true
digit_graphic b h = grind (arith, nat_tests)

rest_graphic : (b : ℕ) → is_rest_byte b ≡ true → is_ascii_graphic b ≡ true
rest_graphic b h = (and_parts (is_ascii_graphic b) (not (b == 35)) h).0

one_graphic : (mark b : ℕ) → is_ascii_graphic mark ≡ true → (b == mark) ≡ true → is_ascii_graphic b ≡ true
one_graphic mark b h is = subst (λ (c : ℕ). is_ascii_graphic c ≡ true) (sym (eqb-true b mark is)) h

port_graphic : (port : List ℕ) → is_port port ≡ true → list_all is_ascii_graphic port ≡ true
port_graphic [] h = refl
port_graphic (b ∷ digits) h =
    let parts = and_parts (b == 58) (is_port_number digits) h in
    let number = and_parts (is_decimal port_digits_limit digits) (is_port_value (digits_value 10 digits)) parts.1 in
    and_from _ _ (one_graphic 58 b refl parts.0)
    (all_weaker is_ascii_digit is_ascii_graphic digit_graphic digits (decimal_parts port_digits_limit digits number.0).digits)

path_graphic : (path : List ℕ) → is_path path ≡ true → list_all is_ascii_graphic path ≡ true
path_graphic [] h = refl
path_graphic (b ∷ bytes) h =
    let parts = and_parts (b == 47) (list_all is_rest_byte bytes) h in
    and_from _ _ (one_graphic 47 b refl parts.0) (all_weaker is_rest_byte is_ascii_graphic rest_graphic bytes parts.1)

url_graphic : (url : List ℕ) → IsSomeUrl url → list_all is_ascii_graphic url ≡ true
url_graphic url h =
    let u = h.1 in
    let host = (and_parts (is_filled host_limit u.host) (list_all is_host_byte u.host) u.host_is).1 in
    subst (λ (t : List ℕ). list_all is_ascii_graphic t ≡ true) (sym u.bytes)
    (all_append is_ascii_graphic (scheme ++ u.host ++ u.port) u.path
    (all_append is_ascii_graphic (scheme ++ u.host) u.port
    (all_append is_ascii_graphic scheme u.host refl (all_weaker is_host_byte is_ascii_graphic host_graphic u.host host))
    (port_graphic u.port u.port_is))
    (path_graphic u.path u.path_is))

abbrev Graphics : List ℕ → Type 0
Graphics text = AllPass is_ascii_graphic text

shortened : (path : List ℕ) → Graphics path → Graphics (without_last_slash path)
shortened path all =
    cond_both (slice_index path (length path - 1) == slash) (take (length path - 1) path) path Graphics
    (λ is. All-take (λ b. IsTrue (is_ascii_graphic b)) (length path - 1) path all) (λ other. all)

-- and so of its path
root_graphic : (url : List ℕ) → IsSomeUrl url → Graphics (root_path url)
root_graphic url h =
    let P : ℕ → Type 0 = λ b. IsTrue (is_ascii_graphic b) in
    let behind = All-drop P front_len url (AllPass-from_list_all is_ascii_graphic url (url_graphic url h)) in
    let path = All-drop P (index_of slash (behind_scheme url)) (behind_scheme url) behind in
    shortened (split_once_front question_mark (path_and_query_of url))
    (All-take P (index_of question_mark (path_and_query_of url)) (path_and_query_of url) path)

-- ---- the target

graphic_uri : (b : ℕ) → IsTrue (is_ascii_graphic b) → IsTrue (is_uri_byte b)
graphic_uri b h = grind (arith, nat_tests)

-- a target behind printable characters
rooted : (root text : List ℕ) → Graphics root → IsTarget text → IsTarget (root ++ text)
rooted root text all is = (
  omega (arith, is.0, length-append root text),
  All-append (λ b. IsTrue (is_uri_byte b)) root text (All-weaker (λ b. IsTrue (is_ascii_graphic b)) (λ b. IsTrue (is_uri_byte b)) graphic_uri root all) is.1,
  IsUtf8-append root text (graphic_is_utf8 root (list_all-from_AllPass is_ascii_graphic root all)) is.2,
)

-- the target of a request whose address is names with slashes between them is one of the grammar
pub sent_target : (r : RequestParts) (url : List ℕ) → IsSomeUrl url → list_all is_part_byte r.to ≡ true → IsTarget (target_text r url Peer)
sent_target r url is parts =
    subst IsTarget (sym (append_assoc (root_path url) (path_of_address r.to) (query_part (query_text r))))
    (rooted (root_path url) (target_with r.to (query_text r)) (root_graphic url is) (parts_target r.to (query_pairs r) parts))
