-- The lines of a deed are read back as it.
use Rattle.std.proofs.Common.{◌≡◌, ℕ, ◌^◌, ◌<◌, List, ◌++◌, length, true, ◌&&◌, if◌then◌else◌, Option, Some, None, option_map, option_and_then, Ok, IfSome, is_none, decimal, refl, ap, ◌∙◌, arith, lt-ltb, le-leb}
use Rattle.std.proofs.lemmas.Bool.{and_parts, leb-true, ltb-true}
use Rattle.std.proofs.lemmas.Fmt.{digits_decimal, digits_value-decimal, decimal_nonempty, length-decimal-le}
use Rattle.std.specs.Char.{is_ascii_digit}
use Rattle.std.specs.List.{list_all}
use Rattle.std.specs.Option.{option_map_or}
use Rattle.std.specs.Result.{result_ok}
use Rattle.std.specs.Str.Parse.{digits_value}
use Rattle.m2m_names.proofs.NumeralLemmas.{own}
use Rattle.m2m_names.specs.Name.{is_filled, is_numeral, is_originator}
use Rattle.m2m_value.specs.Reading.{reading}
use Rattle.m2m_value.specs.Sound.{IsSound}
use Rattle.m2m_value.specs.Spelling.{text_of}
use Rattle.m2m_value.proofs.RoundTrip.{reading-text_of}
use Rattle.primitive_json.proofs.RoundTrip.{request_back}
use Rattle.primitive_json.specs.Form.{has_form, has_no_more}
use Rattle.primitive_json.specs.Kinds.{number_spelled, target_limit}
use Rattle.primitive_json.specs.Reading.{read_request}
use Rattle.primitive_json.specs.Laws.{HasShortExpiry, IsOfKinds, IsShortWhen, IsWhenOfKind}
use Rattle.primitive_json.specs.Writing.{written_request}
use Rattle.primitive_json.specs.declared.request.RequestParts.{RequestParts}
use Rattle.primitive_json.specs.declared.request.When.{When}
use Rattle.primitive_json.specs.declared.request.When.TheVariants.{At, Millis}
use Rattle.filter_criteria.specs.Laws.{IsFilterOfKinds}
use Rattle.filter_criteria.specs.declared.filter.FilterParts.{FilterParts}
use Rattle.journal_lines.specs.Keeping.{can_be_kept, is_of_kinds, is_shallow, is_short_when}
use Rattle.journal_lines.specs.Lines.{IsReadBack, dated_lines, deed_at, deed_in, deed_len, deed_of, first_deed, is_inner, lines_of, moment_bound, moment_line, moment_of, word_of}
use Rattle.journal_lines.specs.declared.deed.Deed.{Deed}
use Rattle.journal_lines.specs.declared.deed.Deed.TheVariants.{Ask, Take, Tick}
use Rattle.journal_lines.specs.Spelled.{SpellsDated, SpellsDeed}
use Rattle.journal_lines.proofs.EndLemmas.{inner_whole}
use Rattle.journal_lines.proofs.InnerLemmas.{inner_decimal, inner_text}
use Rattle.journal_lines.proofs.SpelledLemmas.{deed_read}

-- ---- words

pub inner_word : (deed : Deed) → list_all is_inner (word_of deed) ≡ true
inner_word (Ask request) = inner_text (written_request request)
inner_word Take = refl
inner_word Tick = refl

pub inner_moment : (moment : ℕ) → list_all is_inner (moment_line moment) ≡ true
inner_moment moment = inner_decimal moment

filled : (n : ℕ) → n < 10 ^ 18 → is_filled 18 (decimal n) ≡ true
filled n short =
    let small : n < 2 ^ 64 = omega (arith, short) in
    rw (lt-ltb _ _ (decimal_nonempty n small), le-leb _ _ (length-decimal-le 18 n (omega arith) short small)) refl

numeral : (n : ℕ) → n < 10 ^ 18 → is_numeral (decimal n) ≡ true
numeral n short =
    let small : n < 2 ^ 64 = omega (arith, short) in
    let all : list_all is_ascii_digit (decimal n) ≡ true = digits_decimal own n small in
    rw (filled n short, all) refl

spelled : (n : ℕ) → n < 10 ^ 18 → number_spelled (decimal n) ≡ Some n
spelled n short =
    let small : n < 2 ^ 64 = omega (arith, short) in
    ap (λ b. if b then Some (digits_value 10 (decimal n)) else None) (numeral n short)
    ∙ ap Some (digits_value-decimal own n small)

moment_back : (n : ℕ) → n < moment_bound → moment_of (moment_line n) ≡ Some n
moment_back n short = spelled n short

-- ---- deeds

deed_back : (moment : ℕ) (deed : Deed) → moment < moment_bound → IsReadBack deed
    → deed_in (moment_line moment) (word_of deed) ≡ Some (deed_at moment deed)
deed_back moment deed short back =
    ap (λ m. option_and_then (λ n. option_map (deed_at n) (deed_of (word_of deed))) m) (moment_back moment short)
    ∙ ap (option_map (deed_at moment)) back

pub dated_spelled : (moment : ℕ) (deed : Deed) → moment < moment_bound → IsReadBack deed → SpellsDated (deed_at moment deed) (dated_lines moment deed)
dated_spelled moment deed short back = record {
  stamp = moment_line moment;
  word = word_of deed;
  split = refl;
  stamp_whole = inner_whole (moment_line moment) (inner_moment moment);
  word_whole = inner_whole (word_of deed) (inner_word deed);
  means = deed_back moment deed short back;
}

pub deeds_spelled : (moment : ℕ) (deed : Deed) → moment < moment_bound → IsReadBack deed → SpellsDeed (deed_at moment deed) (lines_of moment deed)
deeds_spelled moment deed short back = record {
  lines = dated_lines moment deed;
  split = refl;
  spells = dated_spelled moment deed short back;
}

pub deeds_back : (moment : ℕ) (deed : Deed) (behind : List ℕ) → moment < moment_bound → IsReadBack deed
    → (first_deed (lines_of moment deed ++ behind) ≡ Some (deed_at moment deed)) × (deed_len (lines_of moment deed ++ behind) ≡ length (lines_of moment deed))
deeds_back moment deed behind short back = deed_read (deed_at moment deed) (lines_of moment deed) behind (deeds_spelled moment deed short back)

-- ---- requests that can be kept

when_kind : (when : When) → is_short_when when ≡ true → IsWhenOfKind when × IsShortWhen when
when_kind (At at) short = (leb-true _ _ short, tt)
when_kind (Millis n) short = (tt, ltb-true _ _ short)

expiry_kind : (o : Option When) → option_map_or is_short_when o true ≡ true → IfSome o IsWhenOfKind × IfSome o IsShortWhen
expiry_kind None short = (tt, tt)
expiry_kind (Some when) short = when_kind when short

originator_kind : (o : Option (List ℕ)) → option_map_or is_originator o true ≡ true → IfSome o (λ s. is_originator s ≡ true)
originator_kind None graphic = tt
originator_kind (Some s) graphic = graphic

no_filter : (o : Option FilterParts) → is_none o ≡ true → IfSome o IsFilterOfKinds
no_filter None none = tt
no_filter (Some f) none = absurd cc

-- each is of its kinds, and says by few digits when it expires
pub kept_kinds : (r : RequestParts) → is_of_kinds r ≡ true → IsOfKinds r × HasShortExpiry r
kept_kinds r kept =
    let o1 = option_map_or is_originator r.fr true in
    let o2 = option_map_or is_short_when r.rqet true in
    let f = and_parts (has_form r && has_no_more r && is_filled target_limit r.to && o1 && o2) (is_none r.fc) kept in
    let e = and_parts (has_form r && has_no_more r && is_filled target_limit r.to && o1) o2 f.0 in
    let d = and_parts (has_form r && has_no_more r && is_filled target_limit r.to) o1 e.0 in
    let c = and_parts (has_form r && has_no_more r) (is_filled target_limit r.to) d.0 in
    let b = and_parts (has_form r) (has_no_more r) c.0 in
    let when = expiry_kind r.rqet e.1 in
    (record { form = b.0; no_more = b.1; to = c.1; fr = originator_kind r.fr d.1; rqet = when.0; fc = no_filter r.fc f.1 }, when.1)

-- what is written of one that can be kept is read as it, where its text is read as its value
pub kept_back : (r : RequestParts) → is_of_kinds r ≡ true
    → reading (text_of (written_request r)) ≡ Ok (written_request r) → IsReadBack (Ask r)
kept_back r kept back =
    let kinds = kept_kinds r kept in
    ap (λ d. option_map Ask (option_and_then (λ v. result_ok (read_request v)) (result_ok d))) back
    ∙ ap (λ d. option_map Ask (result_ok d)) (request_back r kinds.0 kinds.1)

-- one that can be kept is read back, where what is written of it is sound
pub kept_reads : (r : RequestParts) → can_be_kept r ≡ true → IsSound (written_request r) → IsReadBack (Ask r)
kept_reads r can sound =
    let parts = and_parts (is_of_kinds r) (is_shallow r) can in
    kept_back r parts.0 (reading-text_of (written_request r) sound (leb-true _ _ parts.1))
