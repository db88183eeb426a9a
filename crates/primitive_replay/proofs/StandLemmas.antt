-- What stands at the front of a stream, by what is held of it.
use Rattle.std.proofs.Common.{◌≡◌, ◌≢◌, ℕ, ◌+◌, ◌<◌, List, [], ◌∷◌, ◌++◌, length, take, drop, Option, None, Some, IfSome, sym, ap, ◌∙◌, subst, arith, append_assoc, append-nil, take-append-drop}
use Rattle.std.proofs.lemmas.List.{drop_all}
use Rattle.std.specs.Io.KnownBytes.{IsAtEnd, Keeps, prepend_known}
use Rattle.std.specs.Str.Lines.{lines, strip_carriage_return}
use Rattle.primitive_replay.specs.Front.{end_of, HasNoEnd, short_limit}
use Rattle.primitive_replay.specs.Lines.{line_at}
use Rattle.primitive_replay.specs.Stream.{BeginsWithTexts, BeginsBadly, LeadsOver, TakesOff}
use Rattle.primitive_replay.proofs.LineLemmas.{lines_first_of, lines_alone, first_is_long}
use Rattle.primitive_replay.proofs.LimitLemmas.{line_at_long}

-- ---- a line that ends

whole_stands : (held left : List ℕ) → end_of held < length held
    → BeginsWithTexts (held ++ left) (strip_carriage_return (take (end_of held) held) ∷ []) (drop (end_of held + 1) held ++ left)
whole_stands held left found = record {
  front = take (end_of held + 1) held;
  bytes_are = ap (λ v. v ++ left) (sym (take-append-drop (end_of held + 1) held))
      ∙ append_assoc (take (end_of held + 1) held) (drop (end_of held + 1) held) left;
  texts_are = lines_first_of held left found;
}

whole_over : (old : Option (List ℕ)) (held now : List ℕ) (left : Option (List ℕ))
    → Keeps old (prepend_known held left) → end_of held < length held → now ≡ drop (end_of held + 1) held
    → LeadsOver (strip_carriage_return (take (end_of held) held) ∷ []) old (prepend_known now left)
whole_over None held now left kept found behind = tt
whole_over (Some xs) held now None kept found behind = absurd kept
whole_over (Some xs) held now (Some ys) kept found behind =
    subst (λ (v : List ℕ). BeginsWithTexts v (strip_carriage_return (take (end_of held) held) ∷ []) (now ++ ys)) kept
    (subst (λ (v : List ℕ). BeginsWithTexts (held ++ ys) (strip_carriage_return (take (end_of held) held) ∷ []) (v ++ ys)) (sym behind) (whole_stands held ys found))

pub whole_leads : {L : Type 0} (form : List ℕ → Option L) (place : ℕ) (old : Option (List ℕ)) (held now : List ℕ) (left : Option (List ℕ)) (line : L)
    → Keeps old (prepend_known held left) → end_of held < length held
    → line_at form place (strip_carriage_return (take (end_of held) held)) ≡ Some line → now ≡ drop (end_of held + 1) held
    → TakesOff form place line old (prepend_known now left)
whole_leads form place old held now left line kept found is behind = record {
  text = strip_carriage_return (take (end_of held) held);
  is = is;
  stream = whole_over old held now left kept found behind;
}

pub whole_bad : {L : Type 0} (form : List ℕ → Option L) (place : ℕ) (old : Option (List ℕ)) (held : List ℕ) (left : Option (List ℕ))
    → Keeps old (prepend_known held left) → end_of held < length held
    → line_at form place (strip_carriage_return (take (end_of held) held)) ≡ None
    → IfSome old (BeginsBadly form place)
whole_bad form place None held left kept found bad = tt
whole_bad form place (Some xs) held None kept found bad = absurd kept
whole_bad form place (Some xs) held (Some ys) kept found bad =
    subst (λ (v : List ℕ). BeginsBadly form place v) kept (record {
      text = strip_carriage_return (take (end_of held) held);
      later = lines (drop (end_of held + 1) held ++ ys);
      texts_are = lines_first_of held ys found;
      bad = bad;
    })

-- ---- the last line, without an end

last_lines : (held left : List ℕ) → HasNoEnd held → held ≢ [] → left ≡ [] → lines (held ++ left) ≡ held ∷ []
last_lines held left none some end = ap lines (ap (λ v. held ++ v) end ∙ append-nil held) ∙ lines_alone held none some

last_stands : (held left : List ℕ) → HasNoEnd held → held ≢ [] → left ≡ []
    → BeginsWithTexts (held ++ left) (held ∷ []) []
last_stands held left none some end = record {
  front = held;
  bytes_are = ap (λ v. held ++ v) end;
  texts_are = last_lines held left none some end;
}

nothing_behind : (held now left : List ℕ) → now ≡ drop (length held) held → left ≡ [] → now ++ left ≡ []
nothing_behind held now left behind end = ap (λ v. v ++ left) (behind ∙ drop_all (length held) held (omega arith)) ∙ end

last_over : (old : Option (List ℕ)) (held now : List ℕ) (left : Option (List ℕ))
    → Keeps old (prepend_known held left) → HasNoEnd held → held ≢ [] → IsAtEnd left → now ≡ drop (length held) held
    → LeadsOver (held ∷ []) old (prepend_known now left)
last_over None held now left kept none some end behind = tt
last_over (Some xs) held now None kept none some end behind = absurd kept
last_over (Some xs) held now (Some ys) kept none some end behind =
    subst (λ (v : List ℕ). BeginsWithTexts v (held ∷ []) (now ++ ys)) kept
    (subst (λ (v : List ℕ). BeginsWithTexts (held ++ ys) (held ∷ []) v) (sym (nothing_behind held now ys behind end))
    (last_stands held ys none some end))

pub last_leads : {L : Type 0} (form : List ℕ → Option L) (place : ℕ) (old : Option (List ℕ)) (held now : List ℕ) (left : Option (List ℕ)) (line : L)
    → Keeps old (prepend_known held left) → HasNoEnd held → held ≢ [] → IsAtEnd left
    → line_at form place held ≡ Some line → now ≡ drop (length held) held
    → TakesOff form place line old (prepend_known now left)
last_leads form place old held now left line kept none some end is behind = record {
  text = held;
  is = is;
  stream = last_over old held now left kept none some end behind;
}

pub last_bad : {L : Type 0} (form : List ℕ → Option L) (place : ℕ) (old : Option (List ℕ)) (held : List ℕ) (left : Option (List ℕ))
    → Keeps old (prepend_known held left) → HasNoEnd held → held ≢ [] → IsAtEnd left → line_at form place held ≡ None
    → IfSome old (BeginsBadly form place)
last_bad form place None held left kept none some end bad = tt
last_bad form place (Some xs) held None kept none some end bad = absurd kept
last_bad form place (Some xs) held (Some ys) kept none some end bad =
    subst (λ (v : List ℕ). BeginsBadly form place v) kept (record {
      text = held;
      later = [];
      texts_are = last_lines held ys none some end;
      bad = bad;
    })

-- ---- a line that is too long

pub long_bad : {L : Type 0} (form : List ℕ → Option L) (place : ℕ) (old : Option (List ℕ)) (held : List ℕ) (left : Option (List ℕ))
    → Keeps old (prepend_known held left) → HasNoEnd held → short_limit < length held
    → IfSome old (BeginsBadly form place)
long_bad form place None held left kept none long = tt
long_bad form place (Some xs) held None kept none long = absurd kept
long_bad form place (Some xs) held (Some ys) kept none long =
    let first = first_is_long held ys none (omega (arith, long)) in
    subst (λ (v : List ℕ). BeginsBadly form place v) kept (record {
      text = first.0;
      later = first.1;
      texts_are = first.2;
      bad = line_at_long form place first.0 (omega (arith, long, first.3));
    })
