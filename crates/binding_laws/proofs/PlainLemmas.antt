-- The target of a request whose address is names with slashes between them.
use Rattle.binding_laws.proofs.Words.{◌≡◌, ℕ, ◌+◌, ◌<◌, ◌==◌, ◌&&◌, ◌||◌, Bool, true, cond, List, [], ◌∷◌, ◌++◌, length, drop, codes, Option, Some, IsTrue, IsUtf8, refl, sym, ap, subst, ◌∙◌, arith, length-append, list_all}
use Rattle.binding_laws.proofs.Terms.{extend_pairs, is_query_byte, is_unreserved, IsTarget, Pair, is_some_text, query_part, path_of_address}
use Rattle.binding_laws.proofs.Facts.{cond_both, nat_tests, All-weaker, AllPass-from_list_all, IsUtf8-from_ascii, IsAscii-from_all, all_weaker}
use Rattle.std.proofs.Common.{nat_lt}
use Rattle.httparse.specs.Grammar.{AllPass, is_uri_byte}
use Rattle.binding_laws.specs.ReadBack.{is_address_byte}
use Rattle.binding_laws.proofs.TargetLemmas.{all_append, all_drop, ascii_parts, form_bytes, is_form_byte, path_begins, path_holds, target_with}

-- a byte of a name, or the slash between two names
abbrev pub is_part_byte : ℕ → Bool
is_part_byte b = is_unreserved b || (b == 47)

part_address : (b : ℕ) → is_part_byte b ≡ true → is_address_byte b ≡ true
part_address b h = grind (arith, nat_tests)

part_ascii : (b : ℕ) → is_part_byte b ≡ true → b < 128
part_ascii b h = grind (arith, nat_tests)

-- such an address is of bytes that stand for themselves in a path
pub parts_address : (to : List ℕ) → list_all is_part_byte to ≡ true → list_all is_address_byte to ≡ true
parts_address to h = all_weaker is_part_byte is_address_byte part_address to h

-- and it is a text
pub parts_utf8 : (to : List ℕ) → list_all is_part_byte to ≡ true → IsUtf8 to
parts_utf8 to h =
    IsUtf8-from_ascii to
    (IsAscii-from_all to
    (All-weaker (λ b. is_part_byte b ≡ true) (λ b. b < 128) part_ascii to (AllPass-from_list_all is_part_byte to h)))

-- ---- its target

-- a byte of a target that is ASCII
abbrev is_plain_byte : ℕ → Bool
is_plain_byte b = is_uri_byte b && nat_lt b 128

part_plain : (b : ℕ) → is_part_byte b ≡ true → is_plain_byte b ≡ true
part_plain b h = grind (arith, nat_tests)

form_plain : (b : ℕ) → is_form_byte b ≡ true → is_plain_byte b ≡ true
form_plain b h = grind (arith, nat_tests)

path_parts : (to : List ℕ) → list_all is_part_byte to ≡ true → list_all is_part_byte (path_of_address to) ≡ true
path_parts to h =
    path_holds (λ (path : List ℕ). list_all is_part_byte path ≡ true) to
    (all_append is_part_byte (codes "/_") (drop 1 to) refl (all_drop is_part_byte to h)) (all_append is_part_byte (codes "/~") to refl h) h

query_plain : (query : List ℕ) → list_all is_form_byte query ≡ true → list_all is_plain_byte (query_part query) ≡ true
query_plain query h =
    cond_both (is_some_text query) _ _ (λ (part : List ℕ). list_all is_plain_byte part ≡ true) (λ some. all_weaker is_form_byte is_plain_byte form_plain query h) (λ none. refl)

-- the target is one of the grammar
pub parts_target : (to : List ℕ) (pairs : List Pair) → list_all is_part_byte to ≡ true → IsTarget (target_with to (extend_pairs [] pairs))
parts_target to pairs h =
    let query = extend_pairs [] pairs in
    let text = target_with to query in
    let begins = path_begins to in
    let plain : list_all is_plain_byte text ≡ true =
    all_append is_plain_byte (path_of_address to) (query_part query)
    (all_weaker is_part_byte is_plain_byte part_plain (path_of_address to) (path_parts to h))
    (query_plain query (form_bytes [] pairs refl)) in
    let ascii = All-weaker (λ b. is_plain_byte b ≡ true) (λ b. b < 128) (λ b h. (ascii_parts is_uri_byte b h).ascii) text (AllPass-from_list_all is_plain_byte text plain) in (
      subst (λ (p : List ℕ). 0 < length (p ++ query_part query)) (sym begins.1) (omega arith),
      AllPass-from_list_all is_uri_byte text (all_weaker is_plain_byte is_uri_byte (λ b h. (ascii_parts is_uri_byte b h).passes) text plain),
      IsUtf8-from_ascii text (IsAscii-from_all text ascii),
    )
