-- The number that the four digits of a status code write.
use Rattle.std.proofs.Common.{◌≡◌, ◌==◌, ◌^◌, ◌<◌, ◌≤◌, ℕ, List, length, true, arith}
use Rattle.std.proofs.lemmas.Bool.{and_parts}
use Rattle.std.proofs.lemmas.Bool.Decides.{nat_tests}
use Rattle.std.proofs.lemmas.Str.Parse.{digits_value_short}
use Rattle.std.specs.Char.{is_ascii_digit}
use Rattle.std.specs.List.{list_all}
use Rattle.std.specs.Str.Parse.{digits_value}
use Rattle.m2m_names.proofs.NumeralLemmas.{own}
use Rattle.http_client_binding.specs.ReplyReading.{is_code_text}

at_most_four : (text : List ℕ) → (length text == 4) ≡ true → length text ≤ 4
at_most_four text h = grind (arith, nat_tests)

pub code_short : (text : List ℕ) → is_code_text text ≡ true → digits_value 10 text < 10 ^ 4
code_short text h =
    let parts = and_parts (length text == 4) (list_all is_ascii_digit text) h in
    digits_value_short own text 4 parts.1 (at_most_four text parts.0)
