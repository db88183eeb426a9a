-- What the lines of a head say of how the body is coded.
use Rattle.std.proofs.Common.{◌≡◌, ◌≢◌, ◌==◌, ℕ, Bool, true, false, ◌&&◌, List, codes, sym, arith}
use Rattle.std.specs.Prelude.{if◌then◌else◌}
use Rattle.std.proofs.lemmas.Bool.Decides.{nat_tests}
use Rattle.http_frames.specs.Lines.{is_same_name}
use Rattle.http_frames.specs.Body.{chunked, refused, framing_of_coding}

-- ---- what a head says of the body

-- another version
pub coding_refused : (minor : ℕ) (value : List ℕ) → minor ≢ 1 → framing_of_coding minor value ≡ refused
coding_refused minor value other =
    let no : (minor == 1) ≡ false = grind (arith, nat_tests) in
    λ i. if (no i && is_same_name value (codes "chunked")) then chunked else refused

-- that version: by whether the coding is the one that is served
pub coding_is : (minor : ℕ) (value : List ℕ) (same : Bool) → minor ≡ 1 → same ≡ is_same_name value (codes "chunked")
    → framing_of_coding minor value ≡ (if same then chunked else refused)
coding_is minor value same one is =
    let yes : (minor == 1) ≡ true = grind (arith, nat_tests) in
    λ i. if (yes i && sym is i) then chunked else refused
