-- What spells a word is read as it, and what is read is spelled so.
use Rattle.std.proofs.Common.{◌≡◌, ℕ, ◌+◌, nat_eq, List, [], ◌∷◌, ◌++◌, length, drop, true, ◌&&◌, if◌then◌else◌, Some, None, inl, inr, refl, sym, ap, ◌∙◌, arith, append_assoc, length-append}
use Rattle.std.proofs.lemmas.Bool.{and_parts, cases_Bool}
use Rattle.std.proofs.lemmas.Bool.Decides.{Decides-eqb}
use Rattle.std.proofs.lemmas.Slice.Eq.{starts_is}
use Rattle.std.specs.List.{starts_with}
use Rattle.m2m_value.specs.Spelling.{text_of}
use Rattle.journal_lines.proofs.EndLemmas.{behind_then, first_then, front_whole, has_then, inner_whole, line_then, split_line}
use Rattle.journal_lines.proofs.InnerLemmas.{inner_text}
use Rattle.journal_lines.specs.Lines.{behind_line, ended, first_deed, first_line, has_line}
use Rattle.journal_lines.specs.Spelled.{has_no_end}
use Rattle.later_lines.specs.Spelled.{BeginsWithWord, SpellsWord}
use Rattle.later_lines.specs.Words.{IsReadBack, first_named, first_word, name_of, named_len, value_of, word_in, word_len, word_lines, word_mark}
use Rattle.later_lines.specs.declared.word.Word.{Word}
use Rattle.later_lines.specs.declared.word.Word.TheVariants.{Accepted, Ran, Gone, Due, Given}

-- ---- two lines

module _ (name value behind : List ℕ) (name_whole : has_no_end name ≡ true) (value_whole : has_no_end value ≡ true) where
  abbrev lines_text : List ℕ
  lines_text = (ended name ++ ended value) ++ behind

  abbrev second_text : List ℕ
  second_text = value ++ 10 ∷ behind

  apart : lines_text ≡ name ++ 10 ∷ second_text
  apart =
      append_assoc (ended name) (ended value) behind
      ∙ append_assoc name (10 ∷ []) (ended value ++ behind)
      ∙ ap (λ (l : List ℕ). name ++ 10 ∷ l) (append_assoc value (10 ∷ []) behind)

  of_apart : first_named (name ++ 10 ∷ second_text) ≡ word_in name value
  of_apart =
      rw (
        has_then name second_text name_whole,
        behind_then name second_text name_whole,
        has_then value behind value_whole,
        first_then name second_text name_whole,
        first_then value behind value_whole,
      )
      refl

  len_apart : named_len (name ++ 10 ∷ second_text) ≡ length name + 1 + (length value + 1)
  len_apart =
      rw (
        behind_then name second_text name_whole,
        line_then name second_text name_whole,
        line_then value behind value_whole,
      ) refl

  len_whole : length (ended name ++ ended value) ≡ length name + 1 + (length value + 1)
  len_whole = omega (
    arith,
    length-append (ended name) (ended value),
    length-append name (10 ∷ []),
    length-append value (10 ∷ []),
  )

  pub two_read : (first_named lines_text ≡ word_in name value) × (named_len lines_text ≡ length (ended name ++ ended value))
  two_read = (ap first_named apart ∙ of_apart, ap named_len apart ∙ len_apart ∙ sym len_whole)

-- ---- behind the mark

pub word_read : (word : Word) (front back : List ℕ) → SpellsWord word front
    → (first_word (front ++ back) ≡ Some word) × (word_len (front ++ back) ≡ length front)
word_read word front back spells =
    let lines = ended spells.name ++ ended spells.value in
    let read = two_read spells.name spells.value back spells.name_whole spells.value_whole in (
      ap (λ (l : List ℕ). first_word (l ++ back)) spells.split ∙ read.0 ∙ spells.means,
      ap (λ (l : List ℕ). word_len (l ++ back)) spells.split ∙ ap (λ (n : ℕ). 3 + n) read.1 ∙ sym (ap length spells.split ∙ length-append word_mark lines),
    )

none_some : {A B : Type 0} (x : A) → None ≡ Some x → B
none_some x e = absurd cc

-- both lines end in a text at whose front a word is read
module _ (text : List ℕ) (word : Word) where
  abbrev name_there : List ℕ
  name_there = first_line text

  abbrev value_there : List ℕ
  value_there = first_line (behind_line text)

  abbrev left : List ℕ
  left = behind_line (behind_line text)

  pub record BeginsNamed : Type 0 where
    pub split : text ≡ (ended name_there ++ ended value_there) ++ left
    pub len : length (ended name_there ++ ended value_there) ≡ named_len text
    pub means : word_in name_there value_there ≡ Some word

  two_lines : has_line text ≡ true → has_line (behind_line text) ≡ true → text ≡ (ended name_there ++ ended value_there) ++ left
  two_lines one two =
      split_line text one
      ∙ ap (λ (l : List ℕ). name_there ++ 10 ∷ l) (split_line (behind_line text) two)
      ∙ sym (
      append_assoc (ended name_there) (ended value_there) left
      ∙ append_assoc name_there (10 ∷ []) (ended value_there ++ left)
      ∙ ap (λ (l : List ℕ). name_there ++ 10 ∷ l) (append_assoc value_there (10 ∷ []) left))

  begins_then : has_line text && has_line (behind_line text) ≡ true → word_in name_there value_there ≡ Some word → BeginsNamed
  begins_then both means =
      let ends = and_parts (has_line text) (has_line (behind_line text)) both in
      let split = two_lines ends.0 ends.1 in
      record {
        split = split;
        len = sym (ap named_len split ∙ (two_read name_there value_there left (front_whole text) (front_whole (behind_line text))).1);
        means = means;
      }

  pub named_begins : first_named text ≡ Some word → BeginsNamed
  named_begins read = elim (cases_Bool (has_line text && has_line (behind_line text))) [
    | inl both ↦ begins_then both (sym (ap (λ b. if b then word_in name_there value_there else None) both) ∙ read)
    | inr none ↦ none_some word (sym (ap (λ b. if b then word_in name_there value_there else None) none) ∙ read)
  ]

module _ (text : List ℕ) (word : Word) where
  marked : starts_with nat_eq text word_mark ≡ true → text ≡ word_mark ++ drop 3 text
  marked is = (starts_is Decides-eqb text word_mark (starts_with nat_eq text word_mark) refl).0 is

  begins_marked : starts_with nat_eq text word_mark ≡ true → BeginsNamed (drop 3 text) word → BeginsWithWord word text
  begins_marked is begins =
      let name = first_line (drop 3 text) in
      let value = first_line (behind_line (drop 3 text)) in
      let lines = ended name ++ ended value in
      record {
        front = word_mark ++ lines;
        back = behind_line (behind_line (drop 3 text));
        split = marked is ∙ ap (λ (l : List ℕ). word_mark ++ l) begins.split ∙ sym (append_assoc word_mark lines (behind_line (behind_line (drop 3 text))));
        spells = record {
          name = name;
          value = value;
          split = refl;
          name_whole = front_whole (drop 3 text);
          value_whole = front_whole (behind_line (drop 3 text));
          means = begins.means;
        };
        len = length-append word_mark lines ∙ ap (λ (n : ℕ). 3 + n) begins.len;
      }

  pub word_begins : first_word text ≡ Some word → BeginsWithWord word text
  word_begins read = elim (cases_Bool (starts_with nat_eq text word_mark)) [
    | inl is ↦ begins_marked is (named_begins (drop 3 text) word (sym (ap (λ b. if b then first_named (drop 3 text) else None) is) ∙ read))
    | inr none ↦ none_some word (sym (ap (λ b. if b then first_named (drop 3 text) else None) none) ∙ read)
  ]

-- ---- what is written

name_whole : (word : Word) → has_no_end (name_of word) ≡ true
name_whole (Accepted e) = refl
name_whole (Ran n reply) = refl
name_whole (Gone n) = refl
name_whole (Due at) = refl
name_whole (Given n) = refl

pub words_spelled : (word : Word) → IsReadBack word → SpellsWord word (word_lines word)
words_spelled word back = record {
  name = name_of word;
  value = text_of (value_of word);
  split = refl;
  name_whole = name_whole word;
  value_whole = inner_whole (text_of (value_of word)) (inner_text (value_of word));
  means = back;
}

pub words_back : (word : Word) (behind : List ℕ) → IsReadBack word
    → (first_word (word_lines word ++ behind) ≡ Some word) × (word_len (word_lines word ++ behind) ≡ length (word_lines word))
words_back word behind back = word_read word (word_lines word) behind (words_spelled word back)

-- ---- no deed

-- the mark of a word begins none
other_mark : (lines : List ℕ) → first_deed (word_mark ++ lines) ≡ None
other_mark lines = refl

pub no_deed : (word : Word) (front back : List ℕ) → SpellsWord word front → first_deed (front ++ back) ≡ None
no_deed word front back spells =
    let lines = ended spells.name ++ ended spells.value in
    ap (λ (l : List ℕ). first_deed (l ++ back)) spells.split ∙ other_mark (lines ++ back)
