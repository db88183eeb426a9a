-- The line of a header is read back as it.
use Rattle.std.proofs.Common.{◌≡◌, ◌≢◌, ℕ, ◌+◌, ◌^◌, ◌<◌, ◌≤◌, nat_lt, ℤ, pos, negsuc, int_le, List, [], ◌∷◌, ◌++◌, Bool, true, false, not, ◌&&◌, cond, if◌then◌else◌, Option, Some, None, Result, Ok, Err, ok_or, codes, IsUtf8, unwrap_or, option_and_then, refl, sym, ap, ◌∙◌, subst, arith, append_assoc, lt-ltb}
use Rattle.std.proofs.lemmas.Bool.{and_parts, leb-true, false_from_ne_true}
use Rattle.std.specs.Option.{option_map_or}
use Rattle.std.specs.Result.{result_ok}
use Rattle.m2m_names.specs.Ids.{count_bound}
use Rattle.m2m_value.proofs.RoundTrip.{reading-text_of}
use Rattle.m2m_value.specs.Data.{Data, Entry, depth, number, object, pairs_of, text}
use Rattle.m2m_value.specs.Node.{AreSorted, HaveTextKeys}
use Rattle.m2m_value.specs.Reading.{reading, reading_depth}
use Rattle.m2m_value.specs.Same.{same, same-Decides}
use Rattle.m2m_value.specs.Sound.{IsSound}
use Rattle.m2m_value.specs.Spelling.{text_of}
use Rattle.m2m_value.specs.View.{as_number, member_of, text_or_empty}
use Rattle.filter_criteria.specs.Values.{NamedValue, members_in}
use Rattle.filter_criteria.proofs.Present.{present_sorted, present_texts}
use Rattle.resource_model.proofs.HomeLemmas.{home_parts}
use Rattle.resource_model.specs.Home.{HomeData, IsHome, is_cse_type}
use Rattle.journal_lines.proofs.InnerLemmas.{inner_text}
use Rattle.journal_lines.proofs.EndLemmas.{behind_then, first_then, has_then, inner_whole}
use Rattle.journal_lines.proofs.SpelledLemmas.{header_read}
use Rattle.journal_lines.specs.Spelled.{SpellsHeader, has_no_end}
use Rattle.journal_lines.specs.Header.{first_header, format, format_name, header_data, header_in, header_members, header_of, header_spelled, home_data, home_members, home_name, is_of_home, opened_name}
use Rattle.journal_lines.specs.Lines.{behind_line, first_line, has_line, moment_bound}
use Rattle.journal_lines.specs.declared.header.HeaderFault.{HeaderFault}
use Rattle.journal_lines.specs.declared.header.HeaderFault.TheVariants.{NoHeader, OtherHome}
use lib.Signed.{mag}

-- ---- the objects keep what an object keeps

abbrev home_rows : HomeData → List NamedValue
home_rows home =
    (codes "admin", Some (text home.admin)) ∷ (codes "base", Some (text home.base)) ∷ (codes "csi", Some (text home.csi))
    ∷ (codes "cst", Some (number home.cst)) ∷ (codes "sp", Some (text home.sp)) ∷ []

pub home_sorted : (home : HomeData) → AreSorted (home_members home)
home_sorted home = present_sorted (home_rows home) refl

pub home_texts : (home : HomeData) → HaveTextKeys (home_members home)
home_texts home = present_texts (home_rows home) refl

abbrev header_rows : HomeData → ℕ → List NamedValue
header_rows home opened =
    (format_name, Some (number (pos format))) ∷ (home_name, Some (home_data home)) ∷ (opened_name, Some (number (pos opened))) ∷ []

pub header_sorted : (home : HomeData) (opened : ℕ) → AreSorted (header_members home opened)
header_sorted home opened = present_sorted (header_rows home opened) refl

pub header_texts : (home : HomeData) (opened : ℕ) → HaveTextKeys (header_members home opened)
header_texts home opened = present_texts (header_rows home opened) refl

-- ---- the value of a header is read from its text

small_type : (z : ℤ) → is_cse_type z ≡ true → mag z < count_bound
small_type (pos n) is = let few : n ≤ 3 = leb-true n 3 (and_parts _ _ is).1 in omega (arith, few)
small_type (negsuc n) is = absurd cc

home_sound : (home : HomeData) → IsHome home → IsSound (home_data home)
home_sound home is =
    (home_sorted home, home_texts home, (is.admin, (is.base, (is.csi, (small_type home.cst (home_parts home is).cst, (is.sp, tt))))))

header_sound : (home : HomeData) (opened : ℕ) → IsHome home → opened < moment_bound → IsSound (header_data home opened)
header_sound home opened is short =
    let small : opened < count_bound = omega (arith, short) in
    (header_sorted home opened, header_texts home opened, (omega arith, (home_sound home is, (small, tt))))

is_read : (home : HomeData) (opened : ℕ) → IsHome home → opened < moment_bound
    → reading (text_of (header_data home opened)) ≡ Ok (header_data home opened)
is_read home opened is short = reading-text_of (header_data home opened) (header_sound home opened is short) (omega arith)

-- ---- the header is read from its value

own_home : (home : HomeData) → same (home_data home) (home_data home) ≡ true
own_home home = (same-Decides (home_data home) (home_data home)).1 refl

-- what is said to who asks, whose home that is or isn't
abbrev told_by : ℕ → Bool → Bool → Result ℕ HeaderFault
told_by opened own short = if not own then Err OtherHome else ok_or (if short then Some opened else None) NoHeader

says_by : (who home : HomeData) (opened : ℕ) → header_in who (header_data home opened)
    ≡ told_by opened (same (home_data who) (home_data home)) (nat_lt opened moment_bound)
says_by who home opened = refl

says_own : (home : HomeData) (opened : ℕ) → opened < moment_bound → header_in home (header_data home opened) ≡ Ok opened
says_own home opened short =
    says_by home home opened
    ∙ ap (λ own. told_by opened own (nat_lt opened moment_bound)) (own_home home)
    ∙ ap (told_by opened true) (lt-ltb _ _ short)

-- a home by its parts, and the parts of an object of one
abbrev made : List ℕ → List ℕ → List ℕ → ℤ → List ℕ → HomeData
made sp csi base cst admin = record { sp = sp; csi = csi; base = base; cst = cst; admin = admin }

abbrev text_under : List ℕ → Data → List ℕ
text_under key d = text_or_empty (member_of key (members_in d))

abbrev number_under : List ℕ → Data → ℤ
number_under key d = unwrap_or (option_and_then as_number (member_of key (members_in d))) (pos 0)

parts_same : (sp sp1 csi csi1 base base1 admin admin1 : List ℕ) (cst cst1 : ℤ) → sp ≡ sp1 → csi ≡ csi1 → base ≡ base1 → cst ≡ cst1 → admin ≡ admin1
    → made sp csi base cst admin ≡ made sp1 csi1 base1 cst1 admin1
parts_same sp sp1 csi csi1 base base1 admin admin1 cst cst1 a b c d e =
    ap (λ (t : List ℕ). made t csi base cst admin) a
    ∙ ap (λ (t : List ℕ). made sp1 t base cst admin) b
    ∙ ap (λ (t : List ℕ). made sp1 csi1 t cst admin) c
    ∙ ap (λ (n : ℤ). made sp1 csi1 base1 n admin) d
    ∙ ap (λ (t : List ℕ). made sp1 csi1 base1 cst1 t) e

home_of : (home other : HomeData) → home_data home ≡ home_data other → other ≡ home
home_of home other e =
    sym (parts_same home.sp other.sp home.csi other.csi home.base other.base home.admin other.admin home.cst other.cst
    (ap (text_under (codes "sp")) e) (ap (text_under (codes "csi")) e) (ap (text_under (codes "base")) e)
    (ap (number_under (codes "cst")) e) (ap (text_under (codes "admin")) e))

says_other : (home other : HomeData) (opened : ℕ) → other ≢ home → header_in home (header_data other opened) ≡ Err OtherHome
says_other home other opened differ =
    let no : same (home_data home) (home_data other) ≡ false =
    false_from_ne_true (same (home_data home) (home_data other)) (λ yes. differ (home_of home other ((same-Decides (home_data home) (home_data other)).0 yes))) in
    says_by home other opened ∙ ap (λ own. told_by opened own (nat_lt opened moment_bound)) no

-- ---- the header is read from its line

spelled_by : (home : HomeData) (opened : ℕ) (who : HomeData) → IsHome home → opened < moment_bound
    → header_spelled who (text_of (header_data home opened)) ≡ header_in who (header_data home opened)
spelled_by home opened who is short = ap (λ d. option_map_or (header_in who) (result_ok d) (Err NoHeader)) (is_read home opened is short)

line_whole : (home : HomeData) (opened : ℕ) → has_no_end (text_of (header_data home opened)) ≡ true
line_whole home opened = inner_whole (text_of (header_data home opened)) (inner_text (header_data home opened))

pub headers_spelled : (home : HomeData) (opened : ℕ) → IsHome home → opened < moment_bound → SpellsHeader home opened (header_of home opened)
headers_spelled home opened is short = record {
  line = text_of (header_data home opened);
  split = refl;
  whole = line_whole home opened;
  means = spelled_by home opened home is short ∙ says_own home opened short;
}

pub headers_back : (home : HomeData) (opened : ℕ) (behind : List ℕ) → IsHome home → opened < moment_bound
    → (first_header home (header_of home opened ++ behind) ≡ Ok opened) × (behind_line (header_of home opened ++ behind) ≡ behind)
headers_back home opened behind is short =
    let line = text_of (header_data home opened) in (
      (header_read home opened (header_of home opened) behind (headers_spelled home opened is short)).0,
      ap behind_line (append_assoc line (10 ∷ []) behind) ∙ behind_then line behind (line_whole home opened),
    )

pub others_told : (home other : HomeData) (opened : ℕ) (behind : List ℕ) → IsHome other → opened < moment_bound → other ≢ home
    → first_header home (header_of other opened ++ behind) ≡ Err OtherHome
others_told home other opened behind is short differ =
    let line = text_of (header_data other opened) in
    let whole = line_whole other opened in
    ap (first_header home) (append_assoc line (10 ∷ []) behind)
    ∙ ap (λ b. if b then header_spelled home (first_line (line ++ 10 ∷ behind)) else Err NoHeader) (has_then line behind whole)
    ∙ ap (header_spelled home) (first_then line behind whole)
    ∙ spelled_by other opened home is short ∙ says_other home other opened differ
