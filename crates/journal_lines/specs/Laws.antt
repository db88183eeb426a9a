-- What is written of a deed and of a header is read back as it, whatever stands behind it.
use Rattle.std.specs.Prelude.{◌≡◌, ◌≢◌, ℕ, ◌+◌, ◌<◌, true, IsTrue, List, ◌++◌, length, Some, None}
use Rattle.std.specs.Prelude.{Ok, Err}
use Rattle.std.specs.List.{list_all}
use Rattle.resource_model.specs.Home.{HomeData, IsHome}
use Rattle.journal_lines.specs.Header.{first_header, header_of}
use Rattle.journal_lines.specs.Lines.{IsReadBack, begins_unmarked, dated_len, dated_lines, deed_at}
use Rattle.journal_lines.specs.Lines.{deed_len, first_dated, first_deed, is_inner, lines_of}
use Rattle.journal_lines.specs.Lines.{behind_line, line_len, moment_bound, moment_line, word_of}
use Rattle.journal_lines.specs.Spelled.{BeginsWithDated, BeginsWithDeed, BeginsWithHeader}
use Rattle.journal_lines.specs.Spelled.{SpellsDated, SpellsDeed, SpellsHeader}
use Rattle.journal_lines.specs.declared.deed.Dated.{Dated}
use Rattle.journal_lines.specs.declared.deed.Deed.{Deed}
use Rattle.journal_lines.specs.declared.header.HeaderFault.TheVariants.{OtherHome}

-- no byte below 32 stands inside the lines of a deed
abbrev pub LinesHaveOneEnd : Type 0
LinesHaveOneEnd = (moment : ℕ) (deed : Deed) → moment < moment_bound
    → IsTrue (list_all is_inner (moment_line moment)) × IsTrue (list_all is_inner (word_of deed))

-- The lines of a deed that is read from its word are read as it, at its moment.
abbrev pub DeedsAreReadBack : Type 0
DeedsAreReadBack = (moment : ℕ) (deed : Deed) (behind : List ℕ) → moment < moment_bound
    → IsReadBack deed
    → (first_deed (lines_of moment deed ++ behind) ≡ Some (deed_at moment deed))
    × (deed_len (lines_of moment deed ++ behind) ≡ length (lines_of moment deed))

-- The line of a header is read as it by who asks for its home.
abbrev pub HeadersAreReadBack : Type 0
HeadersAreReadBack = (home : HomeData) (opened : ℕ) (behind : List ℕ) → IsHome home
    → opened < moment_bound
    → (first_header home (header_of home opened ++ behind) ≡ Ok opened)
    × (behind_line (header_of home opened ++ behind) ≡ behind)

-- Who asks for another home is told so.
abbrev pub OtherHomesAreTold : Type 0
OtherHomesAreTold = (home other : HomeData) (opened : ℕ) (behind : List ℕ) → IsHome other
    → opened < moment_bound → other ≢ home
    → first_header home (header_of other opened ++ behind) ≡ Err OtherHome

-- What spells a header is read as it, whatever stands behind it; and what is read as a header is
-- spelled so.
pub record HeadersAreReadAsSpelled : Type 0 where
  pub read : (home : HomeData) (opened : ℕ) (front back : List ℕ) → SpellsHeader home opened front
      → (first_header home (front ++ back) ≡ Ok opened)
      × (line_len (front ++ back) + 1 ≡ length front)
  pub spelled : (home : HomeData) (opened : ℕ) (text : List ℕ)
      → first_header home text ≡ Ok opened → BeginsWithHeader home opened text

-- What spells a deed at a moment is read as it, whatever stands behind it; and what is read as one
-- is spelled so.
pub record DatedAreReadAsSpelled : Type 0 where
  pub read : (dated : Dated) (front back : List ℕ) → SpellsDated dated front
      → (first_dated (front ++ back) ≡ Some dated) × (dated_len (front ++ back) ≡ length front)
  pub spelled : (dated : Dated) (text : List ℕ) → first_dated text ≡ Some dated
      → BeginsWithDated dated text

-- So is a deed of a journal.
pub record DeedsAreReadAsSpelled : Type 0 where
  pub read : (dated : Dated) (front back : List ℕ) → SpellsDeed dated front
      → (first_deed (front ++ back) ≡ Some dated) × (deed_len (front ++ back) ≡ length front)
  pub spelled : (dated : Dated) (text : List ℕ) → first_deed text ≡ Some dated
      → BeginsWithDeed dated text

-- Two lines without the mark, as a deed of a journal of the format 1 has them, are no deed of a
-- journal, whatever stands behind them; and they are told as such.
abbrev pub UnmarkedAreNoDeeds : Type 0
UnmarkedAreNoDeeds = (dated : Dated) (front back : List ℕ) → SpellsDated dated front
    → (first_deed (front ++ back) ≡ None) × (begins_unmarked (front ++ back) ≡ true)

-- What is written of a header, of a deed at a moment, and of a deed of a journal spells it.
abbrev pub HeadersAreSpelled : Type 0
HeadersAreSpelled = (home : HomeData) (opened : ℕ) → IsHome home → opened < moment_bound
    → SpellsHeader home opened (header_of home opened)

abbrev pub DatedAreSpelled : Type 0
DatedAreSpelled = (moment : ℕ) (deed : Deed) → moment < moment_bound → IsReadBack deed
    → SpellsDated (deed_at moment deed) (dated_lines moment deed)

abbrev pub DeedsAreSpelled : Type 0
DeedsAreSpelled = (moment : ℕ) (deed : Deed) → moment < moment_bound → IsReadBack deed
    → SpellsDeed (deed_at moment deed) (lines_of moment deed)
