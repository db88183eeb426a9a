-- What spells a header or a deed is read as it, and what is read is spelled so.
use Rattle.std.proofs.Common.{◌≡◌, ℕ, ◌+◌, ◌==◌, nat_eq, nat_le, ◌<◌, ◌≤◌, nat_lt, List, [], ◌∷◌, ◌++◌, length, take, drop, Bool, true, false, not, ◌&&◌, cond, if◌then◌else◌, Option, Some, None, is_some, option_and_then, option_map, Result, Ok, Err, inl, inr, refl, sym, ap, ◌∙◌, subst, arith, append_assoc, length-append}
use Rattle.std.proofs.lemmas.Bool.{and_parts, cases_Bool, eqb-true, leb-true}
use Rattle.std.proofs.lemmas.Bool.Decides.{Decides-eqb, nat_tests}
use Rattle.std.proofs.lemmas.Slice.Eq.{starts_is}
use Rattle.std.specs.Char.{is_ascii_digit}
use Rattle.std.specs.List.{list_all, starts_with}
use Rattle.std.specs.Str.Parse.{digits_value}
use Rattle.m2m_names.specs.Ids.{number_spelled}
use Rattle.m2m_names.specs.Name.{is_filled, is_numeral, numeral_limit}
use Rattle.resource_model.specs.Home.{HomeData}
use Rattle.journal_lines.proofs.EndLemmas.{behind_then, first_then, front_whole, has_then, line_then, split_line}
use Rattle.journal_lines.specs.Header.{first_header, header_spelled}
use Rattle.journal_lines.specs.Lines.{begins_unmarked, behind_line, dated_len, deed_at, deed_in, deed_len, deed_mark, deed_of, moment_of, ended, first_dated, first_deed, first_line, has_line, line_len}
use Rattle.journal_lines.specs.Spelled.{BeginsWithDated, BeginsWithDeed, BeginsWithHeader, SpellsDated, SpellsDeed, SpellsHeader, has_no_end}
use Rattle.journal_lines.specs.declared.deed.Dated.{Dated}
use Rattle.journal_lines.specs.declared.header.HeaderFault.{HeaderFault}
use Rattle.journal_lines.specs.declared.header.HeaderFault.TheVariants.{NoHeader}

-- ---- two lines

module _ (stamp word behind : List ℕ) (stamp_whole : has_no_end stamp ≡ true) (word_whole : has_no_end word ≡ true) where
  abbrev lines_text : List ℕ
  lines_text = (ended stamp ++ ended word) ++ behind

  abbrev second_text : List ℕ
  second_text = word ++ 10 ∷ behind

  apart : lines_text ≡ stamp ++ 10 ∷ second_text
  apart =
      append_assoc (ended stamp) (ended word) behind
      ∙ append_assoc stamp (10 ∷ []) (ended word ++ behind)
      ∙ ap (λ (l : List ℕ). stamp ++ 10 ∷ l) (append_assoc word (10 ∷ []) behind)

  of_apart : first_dated (stamp ++ 10 ∷ second_text) ≡ deed_in stamp word
  of_apart =
      rw (
        has_then stamp second_text stamp_whole,
        behind_then stamp second_text stamp_whole,
        has_then word behind word_whole,
        first_then stamp second_text stamp_whole,
        first_then word behind word_whole,
      )
      refl

  len_apart : dated_len (stamp ++ 10 ∷ second_text) ≡ length stamp + 1 + (length word + 1)
  len_apart =
      rw (
        behind_then stamp second_text stamp_whole,
        line_then stamp second_text stamp_whole,
        line_then word behind word_whole,
      ) refl

  len_whole : length (ended stamp ++ ended word) ≡ length stamp + 1 + (length word + 1)
  len_whole = omega (
    arith,
    length-append (ended stamp) (ended word),
    length-append stamp (10 ∷ []),
    length-append word (10 ∷ []),
  )

  pub two_read : (first_dated lines_text ≡ deed_in stamp word) × (dated_len lines_text ≡ length (ended stamp ++ ended word))
  two_read = (ap first_dated apart ∙ of_apart, ap dated_len apart ∙ len_apart ∙ sym len_whole)

pub dated_read : (dated : Dated) (front back : List ℕ) → SpellsDated dated front
    → (first_dated (front ++ back) ≡ Some dated) × (dated_len (front ++ back) ≡ length front)
dated_read dated front back spells =
    let read = two_read spells.stamp spells.word back spells.stamp_whole spells.word_whole in (
      ap (λ (l : List ℕ). first_dated (l ++ back)) spells.split ∙ read.0 ∙ spells.means,
      ap (λ (l : List ℕ). dated_len (l ++ back)) spells.split ∙ read.1 ∙ ap length (sym spells.split),
    )

none_some : {A B : Type 0} (x : A) → None ≡ Some x → B
none_some x e = absurd cc

-- both lines end in a text at whose front a deed is read
module _ (text : List ℕ) (dated : Dated) where
  abbrev stamp_of : List ℕ
  stamp_of = first_line text

  abbrev word_of : List ℕ
  word_of = first_line (behind_line text)

  abbrev left : List ℕ
  left = behind_line (behind_line text)

  two_lines : has_line text ≡ true → has_line (behind_line text) ≡ true → text ≡ (ended stamp_of ++ ended word_of) ++ left
  two_lines one two =
      split_line text one
      ∙ ap (λ (l : List ℕ). stamp_of ++ 10 ∷ l) (split_line (behind_line text) two)
      ∙ sym (
      append_assoc (ended stamp_of) (ended word_of) left
      ∙ append_assoc stamp_of (10 ∷ []) (ended word_of ++ left)
      ∙ ap (λ (l : List ℕ). stamp_of ++ 10 ∷ l) (append_assoc word_of (10 ∷ []) left))

  begins_then : has_line text && has_line (behind_line text) ≡ true → deed_in stamp_of word_of ≡ Some dated → BeginsWithDated dated text
  begins_then both means =
      let ends = and_parts (has_line text) (has_line (behind_line text)) both in
      let split = two_lines ends.0 ends.1 in
      let whole_stamp = front_whole text in
      let whole_word = front_whole (behind_line text) in
      record {
        front = ended stamp_of ++ ended word_of;
        back = left;
        split = split;
        spells = record {
          stamp = stamp_of;
          word = word_of;
          split = refl;
          stamp_whole = whole_stamp;
          word_whole = whole_word;
          means = means;
        };
        len = sym (ap dated_len split ∙ (two_read stamp_of word_of left whole_stamp whole_word).1);
      }

  pub dated_begins : first_dated text ≡ Some dated → BeginsWithDated dated text
  dated_begins read = elim (cases_Bool (has_line text && has_line (behind_line text))) [
    | inl both ↦ begins_then both (sym (ap (λ b. if b then deed_in stamp_of word_of else None) both) ∙ read)
    | inr none ↦ none_some dated (sym (ap (λ b. if b then deed_in stamp_of word_of else None) none) ∙ read)
  ]

-- ---- behind the mark

pub deed_read : (dated : Dated) (front back : List ℕ) → SpellsDeed dated front
    → (first_deed (front ++ back) ≡ Some dated) × (deed_len (front ++ back) ≡ length front)
deed_read dated front back spells =
    let read = dated_read dated spells.lines back spells.spells in (
      ap (λ (l : List ℕ). first_deed (l ++ back)) spells.split ∙ read.0,
      ap (λ (l : List ℕ). deed_len (l ++ back)) spells.split ∙ ap (λ (n : ℕ). 3 + n) read.1 ∙ sym (ap length spells.split ∙ length-append deed_mark spells.lines),
    )

module _ (text : List ℕ) (dated : Dated) where
  marked : starts_with nat_eq text deed_mark ≡ true → text ≡ deed_mark ++ drop 3 text
  marked is = (starts_is Decides-eqb text deed_mark (starts_with nat_eq text deed_mark) refl).0 is

  begins_marked : starts_with nat_eq text deed_mark ≡ true → BeginsWithDated dated (drop 3 text) → BeginsWithDeed dated text
  begins_marked is begins = record {
    front = deed_mark ++ begins.front;
    back = begins.back;
    split = marked is ∙ ap (λ (l : List ℕ). deed_mark ++ l) begins.split ∙ sym (append_assoc deed_mark begins.front begins.back);
    spells = record { lines = begins.front; split = refl; spells = begins.spells };
    len = length-append deed_mark begins.front ∙ ap (λ (n : ℕ). 3 + n) begins.len;
  }

  pub deed_begins : first_deed text ≡ Some dated → BeginsWithDeed dated text
  deed_begins read = elim (cases_Bool (starts_with nat_eq text deed_mark)) [
    | inl is ↦ begins_marked is (dated_begins (drop 3 text) dated (sym (ap (λ b. if b then first_dated (drop 3 text) else None) is) ∙ read))
    | inr none ↦ none_some dated (sym (ap (λ b. if b then first_dated (drop 3 text) else None) none) ∙ read)
  ]

-- ---- without the mark

and_none : (b : Bool) → (b && false) ≡ false
and_none true = refl
and_none false = refl

-- a digit isn't the last byte of the mark
no_colon : (d : ℕ) → is_ascii_digit d ≡ true → nat_eq 58 d ≡ false
no_colon d digit =
    let few : d ≤ 57 = leb-true d 57 (and_parts (nat_le 48 d) (nat_le d 57) digit).1 in
    grind (arith, nat_tests)

-- what has digits and then the end of a line behind `@` doesn't begin with the mark
no_mark : (digits rest : List ℕ) → list_all is_ascii_digit digits ≡ true → starts_with nat_eq (64 ∷ digits ++ 10 ∷ rest) deed_mark ≡ false
no_mark [] rest all = refl
no_mark (c ∷ []) rest all = and_none (nat_eq 50 c)
no_mark (c ∷ d ∷ digits) rest all =
    let digit = and_parts (is_ascii_digit d) _ (and_parts (is_ascii_digit c) _ all).1 in
    rw (no_colon d digit.0) (and_none (nat_eq 50 c))

none_deed : (text : List ℕ) → starts_with nat_eq text deed_mark ≡ false → first_deed text ≡ None
none_deed text none = ap (λ b. if b then first_dated (drop 3 text) else None) none

-- the line of a moment is `@` and digits
module _ (word : List ℕ) (dated : Dated) where
  abbrev moment_then : Option ℕ → Option Dated
  moment_then o = option_and_then (λ moment. option_map (deed_at moment) (deed_of word)) o

  some_there : (o : Option ℕ) → moment_then o ≡ Some dated → is_some o ≡ true
  some_there None means = none_some dated means
  some_there (Some moment) means = refl

  digits_of : (digits : List ℕ) → moment_then (number_spelled digits) ≡ Some dated → list_all is_ascii_digit digits ≡ true
  digits_of digits means = elim (cases_Bool (is_numeral digits)) [
    | inl is ↦ (and_parts (is_filled numeral_limit digits) (list_all is_ascii_digit digits) is).1
    | inr other ↦ none_some dated (sym (ap (λ b. moment_then (if b then Some (digits_value 10 digits) else None)) other) ∙ means)
  ]

pub stamp_is : (stamp word : List ℕ) (dated : Dated) → deed_in stamp word ≡ Some dated
    → (digits : List ℕ) × (stamp ≡ 64 ∷ digits) × (list_all is_ascii_digit digits ≡ true)
stamp_is [] word dated means = none_some dated means
stamp_is (b ∷ digits) word dated means = elim (cases_Bool (b == 64)) [
  | inl is ↦ (
    digits,
    ap (λ (c : ℕ). c ∷ digits) (eqb-true b 64 is),
    digits_of word dated digits (sym (ap (λ t. moment_then word dated (if t then number_spelled digits else None)) is) ∙ means),
  )
  | inr other ↦ none_some dated (sym (ap (λ t. moment_then word dated (if t then number_spelled digits else None)) other) ∙ means)
]

pub unmarked_told : (dated : Dated) (front back : List ℕ) → SpellsDated dated front
    → (first_deed (front ++ back) ≡ None) × (begins_unmarked (front ++ back) ≡ true)
unmarked_told dated front back spells =
    let stamp = spells.stamp in
    let rest : List ℕ = spells.word ++ 10 ∷ back in
    let digits = stamp_is stamp spells.word dated spells.means in
    let at : front ++ back ≡ stamp ++ 10 ∷ rest = ap (λ (l : List ℕ). l ++ back) spells.split ∙ apart stamp spells.word back spells.stamp_whole spells.word_whole in
    let shape : front ++ back ≡ 64 ∷ digits.0 ++ 10 ∷ rest = at ∙ ap (λ (l : List ℕ). l ++ 10 ∷ rest) digits.1 in (
      none_deed (front ++ back) (ap (λ (l : List ℕ). starts_with nat_eq l deed_mark) shape ∙ no_mark digits.0 rest digits.2),
      ap begins_unmarked at
          ∙ ap (λ (l : List ℕ). is_some (moment_of l)) (first_then stamp rest spells.stamp_whole)
          ∙ some_there spells.word dated (moment_of stamp) spells.means,
    )

-- ---- the first line

pub header_read : (home : HomeData) (opened : ℕ) (front back : List ℕ) → SpellsHeader home opened front
    → (first_header home (front ++ back) ≡ Ok opened) × (line_len (front ++ back) + 1 ≡ length front)
header_read home opened front back spells =
    let line = spells.line in
    let apart : front ++ back ≡ spells.line ++ 10 ∷ back = ap (λ (l : List ℕ). l ++ back) spells.split ∙ append_assoc spells.line (10 ∷ []) back in
    let size : length front ≡ length spells.line + 1 = ap length spells.split ∙ length-append spells.line (10 ∷ []) in (
      ap (first_header home) apart
          ∙ ap (λ b. if b then header_spelled home (first_line (line ++ 10 ∷ back)) else Err NoHeader) (has_then line back spells.whole)
          ∙ ap (header_spelled home) (first_then line back spells.whole)
          ∙ spells.means,
      omega (arith, ap line_len apart, line_then line back spells.whole, size),
    )

err_ok : {A : Type 0} {B : Type 0} (fault : HeaderFault) (x : B) → Err fault ≡ Ok x → A
err_ok fault x e = absurd cc

module _ (home : HomeData) (opened : ℕ) (text : List ℕ) where
  header_then : has_line text ≡ true → header_spelled home (first_line text) ≡ Ok opened → BeginsWithHeader home opened text
  header_then has means =
      let split = split_line text has in
      let line = first_line text in
      let back = behind_line text in
      let whole = front_whole text in
      record {
        front = ended line;
        back = back;
        split = split ∙ sym (append_assoc line (10 ∷ []) back);
        spells = record { line = line; split = refl; whole = whole; means = means };
        len = omega (arith, length-append (first_line text) (10 ∷ []), ap line_len split, line_then (first_line text) (behind_line text) whole);
      }

  pub header_begins : first_header home text ≡ Ok opened → BeginsWithHeader home opened text
  header_begins read = elim (cases_Bool (has_line text)) [
    | inl has ↦ header_then has (sym (ap (λ b. if b then header_spelled home (first_line text) else Err NoHeader) has) ∙ read)
    | inr none ↦ err_ok NoHeader opened (sym (ap (λ b. if b then header_spelled home (first_line text) else Err NoHeader) none) ∙ read)
  ]
