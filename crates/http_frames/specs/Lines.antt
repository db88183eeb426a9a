-- Header lines by their name (RFC 9110, section 5).
use Rattle.std.specs.Prelude.{◌≡◌, ◌≤◌, ℕ, Bool, List, [], ◌∷◌, length, map, bytes_eq}
use Rattle.std.specs.Prelude.{if◌then◌else◌, ⊤}
use Rattle.std.specs.Char.{to_ascii_lowercase}
use Rattle.http_frames.specs.declared.lines.Found.{Found}
use Rattle.http_frames.specs.declared.lines.Found.TheVariants.{Absent, One, Repeated}

-- a name, and a value without the white space around it
abbrev pub Line : Type 0
Line = List ℕ × List ℕ

-- field names are compared without regard to case (RFC 9110, section 5.1)
unfoldable pub is_same_name : List ℕ → List ℕ → Bool
is_same_name a b = bytes_eq (map to_ascii_lowercase a) (map to_ascii_lowercase b)

-- the values of the lines with this name, in order (RFC 9110, section 5.2)
abbrev pub values_named : List ℕ → List Line → List (List ℕ)
values_named name [] = []
values_named name (line ∷ lines) =
    if is_same_name line.0 name then line.1 ∷ values_named name lines else values_named name lines

-- What is found is what there is: no value, the only one, or more than one.
abbrev pub IsFound : {T : Type 0} → (T → List ℕ) → Found T → List (List ℕ) → Type 0
IsFound view Absent values = values ≡ []
IsFound view (One value) values = values ≡ view value ∷ []
IsFound view Repeated values = 2 ≤ length values

-- what is found with one more value behind what was found
abbrev pub found_with : {T : Type 0} → Found T → T → Found T
found_with Absent value = One value
found_with (One first) value = Repeated
found_with Repeated value = Repeated

-- What is found, with what its value stands for in place of the value.
abbrev pub found_as : {T : Type 0} → (T → List ℕ) → Found T → Found (List ℕ)
found_as view Absent = Absent
found_as view (One value) = One (view value)
found_as view Repeated = Repeated

-- what is found once one more line comes behind what was found
abbrev pub found_with_line : Found (List ℕ) → List ℕ → Line → Found (List ℕ)
found_with_line found name line =
    if is_same_name line.0 name then found_with found line.1 else found

-- P of the value, if there is just one
abbrev pub IfOne : {T : Type 0} → Found T → (T → Type 0) → Type 0
IfOne Absent P = ⊤
IfOne (One value) P = P value
IfOne Repeated P = ⊤
