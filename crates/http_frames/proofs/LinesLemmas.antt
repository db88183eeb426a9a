-- A scan of lines by name: what was found so far and what the rest has is what all have.
use Rattle.std.proofs.Common.{◌≡◌, ℕ, ◌≤◌, Bool, true, false, cond, List, [], ◌∷◌, length, drop, get_or, ◌+◌, ◌<◌, refl, sym, ap, subst, ◌∙◌, arith}
use Rattle.std.specs.Prelude.{bytes_eq, map, IsTrue, ◌↔◌}
use Rattle.std.specs.Char.{to_ascii_lowercase}
use Rattle.std.proofs.lemmas.List.{at_drop_more, at_drop_all}
use Rattle.std.proofs.lemmas.Slice.Eq.{bytes_eq-Decides}
use Rattle.std.proofs.lemmas.Bool.Decides.{same_from_decides}
use Rattle.http_frames.specs.declared.lines.Found.{Found}
use Rattle.http_frames.specs.declared.lines.Found.TheVariants.{Absent, One, Repeated}
use Rattle.http_frames.specs.Lines.{Line, is_same_name, values_named, IfOne, IsFound, found_as, found_with_line, found_with}

-- what is found once these values come behind what was found so far
abbrev pub found_behind : Found (List ℕ) → List (List ℕ) → Found (List ℕ)
found_behind found [] = found
found_behind found (value ∷ values) = found_behind (found_with found value) values

pub found_as-with : {T : Type 0} (view : T → List ℕ) (found : Found T) (value : T)
    → found_as view (found_with found value) ≡ found_with (found_as view found) (view value)
found_as-with view Absent value = refl
found_as-with view (One first) value = refl
found_as-with view Repeated value = refl

repeated_stays : (values : List (List ℕ)) → found_behind Repeated values ≡ Repeated
repeated_stays [] = refl
repeated_stays (value ∷ values) = repeated_stays values

IsFound-behind : (values : List (List ℕ)) → IsFound (λ v. v) (found_behind Absent values) values
IsFound-behind [] = refl
IsFound-behind (value ∷ []) = refl
IsFound-behind (value ∷ next ∷ more) =
    let many : 2 ≤ length (value ∷ next ∷ more) = omega arith in
    subst (λ (found : Found (List ℕ)). IsFound (λ v. v) found (value ∷ next ∷ more)) (sym (repeated_stays more)) many

pub IsFound-all : {T : Type 0} (view : T → List ℕ) (found : Found T) (values : List (List ℕ))
    → found_as view found ≡ found_behind Absent values → IsFound view found values
IsFound-all view Absent values e =
    subst (λ (found : Found (List ℕ)). IsFound (λ v. v) found values) (sym e) (IsFound-behind values)
IsFound-all view (One value) values e =
    subst (λ (found : Found (List ℕ)). IsFound (λ v. v) found values) (sym e) (IsFound-behind values)
IsFound-all view Repeated values e =
    subst (λ (found : Found (List ℕ)). IsFound (λ v. v) found values) (sym e) (IsFound-behind values)

-- the names are the same just where their small letters are
pub is_same_name_from : (b : Bool) (x y : List ℕ)
    → IsTrue b ↔ (map to_ascii_lowercase x ≡ map to_ascii_lowercase y) → b ≡ is_same_name x y
unfolding is_same_name
is_same_name_from b x y e = same_from_decides b _ (e.0, e.1) (bytes_eq-Decides (map to_ascii_lowercase x) (map to_ascii_lowercase y))

-- names that are spelled alike are the same
pub same_name-alike : (x y : List ℕ) → bytes_eq x y ≡ true → is_same_name x y ≡ true
unfolding is_same_name
same_name-alike x y alike = (bytes_eq-Decides _ _).1 (ap (map to_ascii_lowercase) ((bytes_eq-Decides x y).0 alike))

-- the values from a place on: that of the line there, if it has the name, and those behind it
values_named_more : (name : List ℕ) (lines : List Line) (i : ℕ) (line : Line) → i < length lines
    → line ≡ get_or lines i line → values_named name (drop i lines)
    ≡ cond (is_same_name line.0 name) (line.1 ∷ values_named name (drop (i + 1) lines)) (values_named name (drop (i + 1) lines))
values_named_more name lines i line inside is =
    at_drop_more (values_named name) lines i line inside
    ∙ ap (λ (l : Line). cond (is_same_name l.0 name) (l.1 ∷ values_named name (drop (i + 1) lines))
    (values_named name (drop (i + 1) lines))) (sym is)

-- so far the found values and those of the lines from a place on are all there are
abbrev pub ScansTo : {T : Type 0} → (T → List ℕ) → List ℕ → List Line → ℕ → Found T → Type 0
ScansTo view name lines i found =
    found_behind (found_as view found) (values_named name (drop i lines)) ≡ found_behind Absent (values_named name lines)

-- one more line, which has the name
pub ScansTo-same : {T : Type 0} (view : T → List ℕ) (name : List ℕ) (lines : List Line) (i : ℕ) (found next : Found T)
    (line : Line) (value : T) → i < length lines → line ≡ get_or lines i line → is_same_name line.0 name ≡ true
    → view value ≡ line.1 → next ≡ found_with found value → ScansTo view name lines i found
    → ScansTo view name lines (i + 1) next
ScansTo-same view name lines i found next line value inside is same shown e so_far =
    let rest = values_named name (drop (i + 1) lines) in
    let more = values_named_more name lines i line inside is ∙ ap (λ b. cond b (line.1 ∷ rest) rest) same in
    ap (λ (f : Found _). found_behind (found_as view f) rest) e
    ∙ ap (λ f. found_behind f rest) (found_as-with view found value)
    ∙ ap (λ v. found_behind (found_with (found_as view found) v) rest) shown
    ∙ sym (ap (found_behind (found_as view found)) more) ∙ so_far

-- one more line, which has another name
pub ScansTo-other : {T : Type 0} (view : T → List ℕ) (name : List ℕ) (lines : List Line) (i : ℕ) (found next : Found T)
    (line : Line) → i < length lines → line ≡ get_or lines i line → is_same_name line.0 name ≡ false
    → next ≡ found → ScansTo view name lines i found → ScansTo view name lines (i + 1) next
ScansTo-other view name lines i found next line inside is other e so_far =
    let rest = values_named name (drop (i + 1) lines) in
    let more = values_named_more name lines i line inside is ∙ ap (λ b. cond b (line.1 ∷ rest) rest) other in
    ap (λ (f : Found _). found_behind (found_as view f) rest) e
    ∙ sym (ap (found_behind (found_as view found)) more) ∙ so_far

-- what is found with one more line, which has the name or another
pub line_same : {T : Type 0} (view : T → List ℕ) (found next : Found T) (value : T) (name : List ℕ) (line : Line)
    → is_same_name line.0 name ≡ true → next ≡ found_with found value → view value ≡ line.1
    → found_as view next ≡ found_with_line (found_as view found) name line
line_same view found next value name line same e shown =
    ap (found_as view) e ∙ found_as-with view found value ∙ ap (λ v. found_with (found_as view found) v) shown
    ∙ sym (ap (λ b. cond b (found_with (found_as view found) line.1) (found_as view found)) same)

pub line_other : {T : Type 0} (view : T → List ℕ) (found next : Found T) (name : List ℕ) (line : Line)
    → is_same_name line.0 name ≡ false → next ≡ found → found_as view next ≡ found_with_line (found_as view found) name line
line_other view found next name line other e =
    ap (found_as view) e ∙ sym (ap (λ b. cond b (found_with (found_as view found) line.1) (found_as view found)) other)

-- one more line, whatever name it has
next_by : {T : Type 0} (view : T → List ℕ) (name : List ℕ) (lines : List Line) (i : ℕ) (found next : Found T) (line : Line)
    (same : Bool) → i < length lines → line ≡ get_or lines i line → is_same_name line.0 name ≡ same
    → found_as view next ≡ cond same (found_with (found_as view found) line.1) (found_as view found)
    → ScansTo view name lines i found → ScansTo view name lines (i + 1) next
next_by view name lines i found next line true inside is same e so_far =
    let rest = values_named name (drop (i + 1) lines) in
    let more = values_named_more name lines i line inside is ∙ ap (λ b. cond b (line.1 ∷ rest) rest) same in
    ap (λ (f : Found _). found_behind f rest) e ∙ sym (ap (found_behind (found_as view found)) more) ∙ so_far
next_by view name lines i found next line false inside is same e so_far =
    let rest = values_named name (drop (i + 1) lines) in
    let more = values_named_more name lines i line inside is ∙ ap (λ b. cond b (line.1 ∷ rest) rest) same in
    ap (λ (f : Found _). found_behind f rest) e ∙ sym (ap (found_behind (found_as view found)) more) ∙ so_far

pub ScansTo-next : {T : Type 0} (view : T → List ℕ) (name : List ℕ) (lines : List Line) (i : ℕ) (found next : Found T)
    (line : Line) → i < length lines → line ≡ get_or lines i line → found_as view next ≡ found_with_line (found_as view found) name line
    → ScansTo view name lines i found → ScansTo view name lines (i + 1) next
ScansTo-next view name lines i found next line inside is e so_far =
    next_by view name lines i found next line (is_same_name line.0 name) inside is refl e so_far

-- no line is left
pub ScansTo-end : {T : Type 0} (view : T → List ℕ) (name : List ℕ) (lines : List Line) (i : ℕ) (found : Found T)
    → length lines ≤ i → ScansTo view name lines i found → IsFound view found (values_named name lines)
ScansTo-end view name lines i found past so_far =
    IsFound-all view found (values_named name lines)
    (sym (at_drop_all (λ ls. found_behind (found_as view found) (values_named name ls)) lines i past) ∙ so_far)

-- one more value is within, and so is what was found
pub IfOne-with : {T : Type 0} (P : T → Type 0) (found next : Found T) (value : T) → next ≡ found_with found value
    → P value → IfOne next P
IfOne-with P Absent next value e here = subst (λ (f : Found _). IfOne f P) (sym e) here
IfOne-with P (One first) next value e here = subst (λ (f : Found _). IfOne f P) (sym e) tt
IfOne-with P Repeated next value e here = subst (λ (f : Found _). IfOne f P) (sym e) tt
