-- Where lines end, and what the lines of a text are.
use Rattle.std.proofs.Common.{◌≡◌, ◌≢◌, ℕ, ◌+◌, ◌-◌, ◌<◌, ◌≤◌, Bool, true, false, None, Some, List, [], ◌∷◌, ◌++◌, length, take, drop, refl, sym, ap, ◌∙◌, inl, inr, arith, length-append}
use Rattle.std.proofs.lemmas.List.{take-append-le, drop-append-le, get_or_append_left, get_or-append_right, length-take}
use Rattle.std.proofs.lemmas.List.Sums.{position_or_len_is, fails_before_first, passes_at_first, prefix_len-le-length}
use Rattle.std.proofs.lemmas.List.Splits.{slice_split_first, slice_split_none, length-slice_split}
use Rattle.std.proofs.lemmas.Bool.{cases_lt}
use Rattle.std.proofs.lemmas.Bool.Decides.{nat_tests}
use Rattle.std.specs.List.{All, slice_split, before_first, after_first}
use Rattle.std.specs.Str.Lines.{lines, lines_of_parts, strip_carriage_return}
use Rattle.memchr.specs.Find.{IsFirstByte, is_byte}
use Rattle.primitive_replay.specs.Front.{is_end, end_of, HasNoEnd}

-- ---- ends

pub end-within : (xs : List ℕ) → end_of xs ≤ length xs
end-within xs = prefix_len-le-length _ xs

-- an end that is found stays the first
pub end_found : (xs more : List ℕ) → end_of xs < length xs → end_of (xs ++ more) ≡ end_of xs
end_found xs more found =
    position_or_len_is is_end (xs ++ more) (end_of xs) 0
    (omega (arith, length-append xs more))
    (λ k h. let within : k < length xs = omega arith in rw get_or_append_left (fails_before_first is_end xs k 0 h))
    (λ _. rw get_or_append_left (passes_at_first is_end xs 0 found))

unpassed : (b : Bool) → (b ≡ true → ⊥) → b ≡ false
unpassed true h = absurd (h refl)
unpassed false h = refl

-- the place that a search gives is the first, and where it gives none there is none
pub end_searched : (bytes : List ℕ) (end : ℕ) → IsFirstByte (is_byte 10) bytes (Some end) → end ≡ end_of bytes
end_searched bytes end found =
    sym (position_or_len_is is_end bytes end 0 (omega (arith, found.0.high)) (λ k below. unpassed _ (found.0.before k (omega arith) below)) (λ _. found.1))

pub none_searched : (bytes : List ℕ) → IsFirstByte (is_byte 10) bytes None → length bytes ≡ end_of bytes
none_searched bytes none =
    sym (position_or_len_is is_end bytes (length bytes) 0 (omega arith) (λ k below. unpassed _ (none k (omega arith) below)) (λ past. absurd (omega arith)))

-- where none is found, the first is that of what follows
pub end_missing : (xs more : List ℕ) → HasNoEnd xs → end_of (xs ++ more) ≡ length xs + end_of more
end_missing xs more missing =
    let bound : end_of more ≤ length more = end-within more in
    position_or_len_is is_end (xs ++ more) (length xs + end_of more) 0
    (omega (arith, length-append xs more))
    (λ k h. elim (cases_lt k (length xs)) [
      | inl within ↦ rw get_or_append_left (fails_before_first is_end xs k 0 (omega (arith, missing)))
      | inr past ↦ rw (get_or-append_right xs more (length xs) k 0 refl past) (fails_before_first is_end more (k - length xs) 0 (omega arith))
    ])
    (λ h.
    let same : length xs + end_of more - length xs ≡ end_of more = omega arith in
    rw (get_or-append_right xs more (length xs) (length xs + end_of more) 0 refl (omega arith), same)
    (passes_at_first is_end more 0 (omega (arith, length-append xs more))))

-- ---- lines

parts_first : (x : List ℕ) (parts : List (List ℕ)) → 0 < length parts → lines_of_parts (x ∷ parts) ≡ strip_carriage_return x ∷ lines_of_parts parts
parts_first x [] some = absurd (omega arith)
parts_first x (y ∷ more) some = refl

one_part : (xs : List ℕ) → xs ≢ [] → lines_of_parts (xs ∷ []) ≡ xs ∷ []
one_part [] some = absurd (some refl)
one_part (x ∷ xs) some = grind (arith, nat_tests)

none_passes : (xs : List ℕ) → HasNoEnd xs → All (λ x. is_end x ≡ false) xs
none_passes xs none = λ k d h. fails_before_first is_end xs k d (omega (arith, none))

-- a text in which a line ends
pub lines_first : (bytes : List ℕ) → end_of bytes < length bytes
    → lines bytes ≡ strip_carriage_return (take (end_of bytes) bytes) ∷ lines (drop (end_of bytes + 1) bytes)
lines_first bytes found =
    ap lines_of_parts (slice_split_first is_end bytes 0 found)
    ∙ parts_first (before_first is_end bytes) (slice_split is_end (after_first is_end bytes)) (omega (arith, length-slice_split is_end (after_first is_end bytes)))

-- a text in which none does, and that isn't empty
pub lines_alone : (bytes : List ℕ) → HasNoEnd bytes → bytes ≢ [] → lines bytes ≡ bytes ∷ []
lines_alone bytes none some = ap lines_of_parts (slice_split_none is_end bytes (none_passes bytes none)) ∙ one_part bytes some

-- a text in which a line ends, with more behind it
pub lines_first_of : (held left : List ℕ) → end_of held < length held
    → lines (held ++ left) ≡ strip_carriage_return (take (end_of held) held) ∷ lines (drop (end_of held + 1) held ++ left)
lines_first_of held left found =
    let same = end_found held left found in
    let there : end_of (held ++ left) < length (held ++ left) = omega (arith, length-append held left) in
    let front : end_of held ≤ length held = omega arith in
    let back : end_of held + 1 ≤ length held = omega arith in
    lines_first (held ++ left) there ∙ rw (same, take-append-le (end_of held) held left front, drop-append-le (end_of held + 1) held left back) refl

-- what loses one CR is hardly shorter
pub strip-long : (text : List ℕ) → length text ≤ length (strip_carriage_return text) + 1
strip-long text = grind (arith, length-take)

-- The first line of a text that begins with so many bytes in which none ends is hardly shorter than
-- these.
pub first_is_long : (held left : List ℕ) → HasNoEnd held → 0 < length held
    → (text : List ℕ) × (later : List (List ℕ)) × (lines (held ++ left) ≡ text ∷ later) × (length held ≤ length text + 1)
first_is_long held left none some =
    let bytes : List ℕ = held ++ left in
    let size = length-append held left in
    let far = end_missing held left none in
    elim (cases_lt (end_of (held ++ left)) (length (held ++ left))) [
      | inl found ↦ (
        strip_carriage_return (take (end_of (held ++ left)) (held ++ left)),
        lines (drop (end_of (held ++ left) + 1) (held ++ left)),
        lines_first (held ++ left) found,
        omega (arith, strip-long (take (end_of (held ++ left)) (held ++ left)), length-take (end_of (held ++ left)) (held ++ left), far),
      )
      | inr past ↦ (
        held ++ left,
        [],
        lines_alone (held ++ left) (omega (arith, past, end-within (held ++ left))) (λ e. absurd (omega (arith, ap length e))),
        omega arith,
      )
    ]
