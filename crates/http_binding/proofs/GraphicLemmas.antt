-- Values of printable characters: they are those of lines, and so are numbers in decimal.
use Rattle.std.proofs.Common.{◌≡◌, ◌==◌, ℕ, zero, suc, ◌+◌, ◌/◌, ◌%◌, ◌<◌, ◌≤◌, ◌^◌, Bool, true, false, cond, List, [], ◌∷◌, length, reverse, IsTrue, refl, sym, ap, subst, ltb, arith}
use Rattle.std.specs.Fmt.{digit_glyph, digits_onto, digits, decimal}
use Rattle.std.specs.Char.{is_ascii_digit, is_ascii_graphic}
use Rattle.std.specs.Int.{IsInRange}
use Rattle.std.specs.List.{list_all}
use Rattle.std.specs.Str.Parse.{AllDigits}
use Rattle.std.proofs.lemmas.Bool.{and_parts, and_from, le-leb, lt-ltb, ltb-true, cond-false}
use Rattle.std.proofs.lemmas.Bool.Decides.{nat_tests}
use Rattle.std.proofs.lemmas.Fmt.{decimal_is_IsNumeral, length-decimal-le}
use Rattle.std.proofs.lemmas.List.{reverse-reverse}
use Rattle.std.proofs.lemmas.List.Elements.{All-nil, All-cons, All-head, All-weaker}
use Rattle.std.proofs.lemmas.List.Sums.{AllPass-from_list_all, list_all-from_AllPass}
use Rattle.std.proofs.lemmas.Str.Parse.{digit_from_value}
use Rattle.httparse.specs.Grammar.{AllPass, IsToken, is_token, is_token_byte, is_value_byte, is_ows, skip_ows, trim_ows}
use Rattle.httparse.proofs.TrimLemmas.{AllPass-reverse}
use Rattle.m2m_names.specs.Name.{is_numeral}
use Rattle.http_frames.specs.Text.{IsLine}

abbrev pub Graphic : ℕ → Type 0
Graphic b = IsTrue (is_ascii_graphic b)

-- a printable character but space may stand in a value, and is no white space
graphic_value : (b : ℕ) → Graphic b → IsTrue (is_value_byte b)
graphic_value b h = grind (arith, nat_tests, h)

graphic_apart : (b : ℕ) → Graphic b → is_ows b ≡ false
graphic_apart b h = grind (arith, nat_tests, h)

skip_nothing : (value : List ℕ) → AllPass is_ascii_graphic value → skip_ows value ≡ value
skip_nothing [] all = refl
skip_nothing (b ∷ value) all = cond-false _ _ _ (graphic_apart b (All-head Graphic b value all))

trim_nothing : (value : List ℕ) → AllPass is_ascii_graphic value → trim_ows value ≡ value
unfolding trim_ows
trim_nothing value all =
    let front = skip_nothing value all in
    let back = skip_nothing (reverse value) (AllPass-reverse is_ascii_graphic value all) in
    rw (front, back, reverse-reverse)

pub token_is : (name : List ℕ) → IsTrue (is_token name) → IsToken name
token_is name token =
    let parts = and_parts (ltb 0 (length name)) (list_all is_token_byte name) token in
    (ltb-true 0 (length name) parts.0, AllPass-from_list_all is_token_byte name parts.1)

pub line_is : (name value : List ℕ) → IsTrue (is_token name) → AllPass is_ascii_graphic value → IsLine (name, value)
line_is name value token all = (
  token_is name token,
  All-weaker Graphic (λ b. IsTrue (is_value_byte b)) graphic_value value all,
  trim_nothing value all,
)

-- ---- numbers

near_graphic : (low high c : ℕ) → IsInRange low high c → 33 ≤ low → high ≤ 126 → Graphic c
near_graphic low high c h from to = and_from _ _ (le-leb 33 c (omega (arith, h.0))) (le-leb c 126 (omega (arith, h.1)))

pub digit_graphic : (c : ℕ) → IsInRange 48 57 c → Graphic c
digit_graphic c h = near_graphic 48 57 c h (omega arith) (omega arith)

glyph_graphic : (d : ℕ) → d < 10 → Graphic (digit_glyph false d)
glyph_graphic d small =
    subst Graphic (sym (ap (λ b. cond b (48 + d) (87 + d)) (lt-ltb d 10 small))) (digit_graphic (48 + d) (omega arith, omega arith))

onto_graphic : (k n : ℕ) (acc : List ℕ) → AllPass is_ascii_graphic acc → AllPass is_ascii_graphic (digits_onto k 10 false n acc)
onto_graphic zero n acc all = all
onto_graphic (suc k) n acc all =
    let more = All-cons Graphic (digit_glyph false (n % 10)) acc (glyph_graphic (n % 10) (omega arith)) all in
    either (n / 10 == 0) _ _ more (onto_graphic k (n / 10) _ more)
  where
    either : (b : Bool) (xs ys : List ℕ) → AllPass is_ascii_graphic xs → AllPass is_ascii_graphic ys → AllPass is_ascii_graphic (cond b xs ys)
    either true xs ys p q = p
    either false xs ys p q = q

-- what is written of any number
pub decimal_graphic : (n : ℕ) → AllPass is_ascii_graphic (decimal n)
unfolding digits
decimal_graphic n = onto_graphic 64 n [] (All-nil Graphic)

-- what holds of each digit holds of each byte of a numeral
digits_pass : (test : ℕ → Bool) → ((c : ℕ) → IsInRange 48 57 c → IsTrue (test c)) → (ds : List ℕ) → AllDigits 10 ds → AllPass test ds
digits_pass test f [] all = All-nil (λ c. IsTrue (test c))
digits_pass test f (c ∷ ds) all = All-cons (λ c. IsTrue (test c)) c ds (f c (digit_from_value c all.0)) (digits_pass test f ds all.1)

digit_is : (c : ℕ) → IsInRange 48 57 c → IsTrue (is_ascii_digit c)
digit_is c h = and_from _ _ (le-leb 48 c h.0) (le-leb c 57 h.1)

-- a length of seven digits at most is a value of Content-Length, and is worth what it is
pub length_is : (n : ℕ) → n < 10 ^ 7 → is_numeral (decimal n) ≡ true
length_is n small =
    let numeral = (decimal_is_IsNumeral n (omega arith)).0 in
    and_from _ _
    (and_from _ _ (lt-ltb 0 (length (decimal n)) (omega (arith, numeral.0))) (le-leb (length (decimal n)) 18 (omega (arith, length-decimal-le 7 n (omega arith) small (omega arith)))))
    (list_all-from_AllPass is_ascii_digit (decimal n) (digits_pass is_ascii_digit digit_is (decimal n) numeral.1))
