-- How far the lines of a journal are played.
use Rattle.std.proofs.Common.{◌≡◌, ℕ, ◌+◌, ◌-◌, ◌<◌, ◌≤◌, Bool, true, false, if◌then◌else◌, List, [], ◌∷◌, ◌++◌, length, take, drop, Option, Some, None, IfSome, Ok, Err, ⊎_elim, ◌⊎◌, inl, inr, refl, sym, ap, ◌∙◌, subst, arith, append_assoc, length-append, length-drop, take-append-drop}
use Rattle.std.proofs.lemmas.Bool.{cases_Bool}
use Rattle.std.proofs.lemmas.List.{append-nil, drop-drop, drop_at, length-take-le, take_at, take_rest}
use Rattle.resource_model.specs.Home.{HomeData}
use Rattle.entity_model.specs.Entity.{EntityData}
use Rattle.entity_model.specs.Opening.{opening}
use Rattle.journal_file.specs.Gates.{is_shut}
use Rattle.journal_lines.proofs.SpelledLemmas.{deed_begins, header_begins}
use Rattle.journal_lines.specs.Header.{first_header}
use Rattle.journal_lines.specs.Lines.{begins_unmarked, deed_len, first_deed, line_len}
use Rattle.journal_lines.specs.Spelled.{SpellsDeeds, SpellsHeader}
use Rattle.journal_lines.specs.declared.deed.Dated.{Dated}
use Rattle.journal_opening.proofs.JournalLemmas.{made_join, spells_join}
use Rattle.journal_opening.specs.Journals.{IsJournalOf, SpellsOpening, made_by, made_of}
use Rattle.journal_lines.specs.declared.header.HeaderFault.{HeaderFault}
use Rattle.journal_lines.specs.declared.header.HeaderFault.TheVariants as header
use Rattle.entity_snapshot.specs.Opening.{IsUnopened}
use Rattle.entity_snapshot.specs.Reading.{line_number}
use Rattle.entity_snapshot.specs.Snapshots.{SpellsEntity}
use Rattle.entity_snapshot.specs.declared.fault.SnapshotFault.{SnapshotFault}
use Rattle.entity_snapshot.specs.declared.fault.SnapshotFault.TheVariants as snapshot
use Rattle.journal_opening.specs.Opening.{BeginsAs, HaltsBeginning, IsOfMachine, IsRefused, OpensAs, StopsAt, opening_fault, snapshot_fault}
use Rattle.journal_opening.specs.Playing.{HaltsAt, HaltsPlaying, Plays, PlaysFirst, ReadsUpTo, begins_later, fault_at}
use Rattle.journal_opening.specs.declared.fault.OpeningFault.{OpeningFault}
use Rattle.journal_opening.specs.declared.fault.OpeningFault.TheVariants.{NoHeader, OtherFormat, OtherHome, BadSnapshot, Unsound, BadLine, OldDeed, LaterWord, Failed, OutOfMemory}

-- ---- deeds, one after another

reads_none : (bytes : List ℕ) (from : ℕ) → from ≤ length bytes → ReadsUpTo bytes from from []
reads_none bytes from within = record {
  lines = [];
  split = refl;
  len = omega arith;
  within = within;
  spells = refl;
}

reads_more : (bytes : List ℕ) (from at : ℕ) (deeds : List Dated) (dated : Dated) → ReadsUpTo bytes from at deeds → first_deed (drop at bytes) ≡ Some dated
    → ReadsUpTo bytes from (at + deed_len (drop at bytes)) (deeds ++ dated ∷ [])
reads_more bytes from at deeds dated reads found =
    let begins = deed_begins (drop at bytes) dated found in
    let n = deed_len (drop at bytes) in
    let left : drop (at + n) bytes ≡ begins.back =
    sym (drop-drop n at bytes) ∙ ap (λ (l : List ℕ). drop n l) begins.split ∙ drop_at begins.front begins.back n begins.len in
    let long = length-drop at bytes in
    let size = ap length begins.split ∙ length-append begins.front begins.back in
    record {
      lines = reads.lines ++ begins.front;
      split =
          reads.split
          ∙ ap (λ (l : List ℕ). reads.lines ++ l) begins.split
          ∙ sym (append_assoc reads.lines begins.front begins.back)
          ∙ ap (λ (l : List ℕ). (reads.lines ++ begins.front) ++ l) (sym left);
      len = omega (arith, reads.len, begins.len, length-append reads.lines begins.front);
      within = omega (arith, reads.within, long, size, begins.len);
      spells = spells_join deeds dated reads.lines begins.front reads.spells begins.spells;
    }

pub plays_none : (bytes : List ℕ) (from : ℕ) (e : EntityData) → from ≤ length bytes → Plays bytes from from e e
plays_none bytes from e within = record { deeds = []; reads = reads_none bytes from within; made = refl }

pub plays_more : (bytes : List ℕ) (from at len : ℕ) (before mid after : EntityData) → Plays bytes from at before mid
    → PlaysFirst (drop at bytes) len mid after → Plays bytes from (at + len) before after
plays_more bytes from at len before mid after plays first = record {
  deeds = plays.deeds ++ first.dated ∷ [];
  reads = subst (λ n. ReadsUpTo bytes from (at + n) (plays.deeds ++ first.dated ∷ [])) (sym first.size) (reads_more bytes from at plays.deeds first.dated plays.reads first.found);
  made = first.made ∙ ap (made_by first.dated) plays.made ∙ sym (made_join plays.deeds first.dated before);
}

-- a deed is read at a place
pub some_first : (bytes : List ℕ) (at : ℕ) (found : Option ℕ) (len : ℕ) (mid after : EntityData) → found ≡ Some len
    → IfSome found (λ n. PlaysFirst (take (length bytes - at) (drop at bytes)) n mid after) → PlaysFirst (drop at bytes) len mid after
some_first bytes at found len mid after is said =
    let there : List ℕ = take (length bytes - at) (drop at bytes) in
    subst (λ l. PlaysFirst l len mid after) (take_rest bytes at) (subst (λ o. IfSome o (λ n. PlaysFirst there n mid after)) is said)

-- the lines of a deed are there, and they fit
pub plays_some : (bytes : List ℕ) (at len : ℕ) (mid after : EntityData) → at ≤ length bytes → PlaysFirst (drop at bytes) len mid after
    → (0 < len) × (at + len ≤ length bytes)
plays_some bytes at len mid after within first =
    (omega (arith, first.size), omega (arith, within, first.within, length-drop at bytes))

-- what counts has two bytes at least
counting : (bytes : List ℕ) → is_shut bytes ≡ false → 2 ≤ length bytes
counting [] counts = absurd cc
counting (b ∷ []) counts = absurd cc
counting (b ∷ c ∷ bytes) counts = omega arith

pub counts_within : (bytes : List ℕ) (at : ℕ) → is_shut (drop at bytes) ≡ false → at < length bytes
counts_within bytes at counts = omega (arith, counting (drop at bytes) counts, length-drop at bytes)

pub plays_within : (bytes : List ℕ) (from at : ℕ) (before after : EntityData) → Plays bytes from at before after → at ≤ length bytes
plays_within bytes from at before after plays = plays.reads.within

pub halts_at : (bytes : List ℕ) (from at : ℕ) (before after : EntityData) → Plays bytes from at before after → is_shut (drop at bytes) ≡ false
    → first_deed (drop at bytes) ≡ None → HaltsAt bytes from at
halts_at bytes from at before after plays counts none = record { deeds = plays.deeds; reads = plays.reads; counts = counts; none = none }

-- it is told as what stands there
pub halts_by : (bytes : List ℕ) (from at : ℕ) (fault : OpeningFault) → HaltsAt bytes from at → fault ≡ fault_at bytes at → HaltsPlaying bytes from fault
halts_by bytes from at fault halts is =
    let number = line_number bytes at in
    let by : Bool → Bool → OpeningFault = λ b c. if b then OldDeed number else if c then LaterWord number else BadLine number in
    elim (cases_Bool (begins_unmarked (drop at bytes))) [
      | inl old ↦
          let same : fault_at bytes at ≡ OldDeed number = ap (λ (b : Bool). by b (begins_later (drop at bytes))) old in
          subst (HaltsPlaying bytes from) (sym (is ∙ same)) (at, halts, sym same)
      | inr none ↦ elim (cases_Bool (begins_later (drop at bytes))) [
        | inl later ↦
            let same : fault_at bytes at ≡ LaterWord number = ap (λ (b : Bool). by b (begins_later (drop at bytes))) none ∙ ap (by false) later in
            subst (HaltsPlaying bytes from) (sym (is ∙ same)) (at, halts, sym same)
        | inr other ↦
            let same : fault_at bytes at ≡ BadLine number = ap (λ (b : Bool). by b (begins_later (drop at bytes))) none ∙ ap (by false) other in
            subst (HaltsPlaying bytes from) (sym (is ∙ same)) (at, halts, sym same)
      ]
    ]

-- ---- behind the header

-- so many bytes at the front are the header
pub header_first : (home : HomeData) (opened : ℕ) (bytes : List ℕ) (len : ℕ) → first_header home bytes ≡ Ok opened → len ≡ line_len bytes + 1 → len ≤ length bytes
    → BeginsAs home bytes len (opening home opened)
header_first home opened bytes len found size within =
    let begins = header_begins home opened bytes found in
    let front : take len bytes ≡ begins.front =
    ap (λ (l : List ℕ). take len l) begins.split ∙ take_at begins.front begins.back len (begins.len ∙ sym size) in
    record {
      opens = inl (record { opened = opened; header = subst (SpellsHeader home opened) (sym front) begins.spells; opens = refl });
      within = within;
    }

-- so many bytes at the front are a snapshot
pub snapshot_first : (home : HomeData) (base : EntityData) (bytes : List ℕ) (len : ℕ) → base.home ≡ home → SpellsEntity base (take len bytes) → len ≤ length bytes
    → BeginsAs home bytes len base
snapshot_first home base bytes len own spells within = record { opens = inr (record { own = own; spells = spells }); within = within }

-- ---- why nothing begins

told_so : {P : Type 0} (fault other : HeaderFault) → (fault ≡ other → ⊥) → (fault ≡ other) ⊎ P → P
told_so fault other differ told = ⊎_elim (λ same. absurd (differ same)) (λ p. p) told

-- a fault of the first line that isn't the want of a header
pub halts_by_header : (home : HomeData) (bytes : List ℕ) (fault : HeaderFault) → (fault ≡ header.OutOfMemory) ⊎ (first_header home bytes ≡ Err fault)
    → (fault ≡ header.NoHeader → ⊥) → HaltsBeginning home bytes (opening_fault fault)
halts_by_header home bytes header.NoHeader told other = absurd (other refl)
halts_by_header home bytes header.OtherFormat told other = inl (told_so header.OtherFormat header.OutOfMemory (λ same. cc) told)
halts_by_header home bytes header.OtherHome told other = inl (told_so header.OtherHome header.OutOfMemory (λ same. cc) told)
halts_by_header home bytes header.OutOfMemory told other = tt

-- a fault of what stands there in place of a header
pub halts_by_snapshot : (home : HomeData) (bytes : List ℕ) (fault : SnapshotFault) → first_header home bytes ≡ Err header.NoHeader → IsUnopened home bytes fault
    → HaltsBeginning home bytes (snapshot_fault fault)
halts_by_snapshot home bytes snapshot.NoHeader none by = (none, by)
halts_by_snapshot home bytes snapshot.OtherFormat none by = inr (none, by)
halts_by_snapshot home bytes snapshot.OtherHome none by = inr (none, by)
halts_by_snapshot home bytes (snapshot.BadLine number) none by = (none, by)
halts_by_snapshot home bytes snapshot.Unsound none by = (none, by)
halts_by_snapshot home bytes snapshot.OutOfMemory none by = tt

-- no header is there where it says so
pub told_none : (home : HomeData) (bytes : List ℕ) → (header.NoHeader ≡ header.OutOfMemory) ⊎ (first_header home bytes ≡ Err header.NoHeader) → first_header home bytes ≡ Err header.NoHeader
told_none home bytes told = told_so header.NoHeader header.OutOfMemory (λ same. cc) told

-- a text up to a place is what stands in front of another place, and then what stands between the two
module _ (home : HomeData) (bytes : List ℕ) (from at : ℕ) (base : EntityData) (begins : BeginsAs home bytes from base) where
  pub journal_at : (deeds : List Dated) → ReadsUpTo bytes from at deeds → IsJournalOf home base deeds (take at bytes)
  journal_at deeds reads =
      let whole : bytes ≡ (take from bytes ++ reads.lines) ++ drop at bytes =
      sym (take-append-drop from bytes)
      ∙ ap (λ (l : List ℕ). take from bytes ++ l) reads.split
      ∙ sym (append_assoc (take from bytes) reads.lines (drop at bytes)) in
      let size : length (take from bytes ++ reads.lines) ≡ at =
      omega (arith, length-append (take from bytes) reads.lines, length-take-le from bytes begins.within, reads.len) in
      record {
        front = take from bytes;
        lines = reads.lines;
        split = ap (λ (l : List ℕ). take at l) whole ∙ take_at (take from bytes ++ reads.lines) (drop at bytes) at size;
        opens = begins.opens;
        spells = reads.spells;
      }

  pub opens_as : (e : EntityData) → Plays bytes from at base e → is_shut (drop at bytes) ≡ true → OpensAs home bytes at e
  opens_as e plays shut = record {
    makes = record { base = base; deeds = plays.deeds; journal = journal_at plays.deeds plays.reads; made = plays.made };
    within = plays.reads.within;
    shut = shut;
  }

  pub stops_at : HaltsAt bytes from at → StopsAt home bytes at
  stops_at halts = record {
    base = base;
    deeds = halts.deeds;
    journal = journal_at halts.deeds halts.reads;
    within = halts.reads.within;
    counts = halts.counts;
    none = halts.none;
  }

-- ---- faults

pub refused_first : (home : HomeData) (bytes : List ℕ) (fault : OpeningFault) → HaltsBeginning home bytes fault → IsRefused home bytes fault
refused_first home bytes NoHeader said = said
refused_first home bytes OtherFormat said = said
refused_first home bytes OtherHome said = said
refused_first home bytes (BadSnapshot number) said = said
refused_first home bytes Unsound said = said
refused_first home bytes (BadLine number) said = absurd said
refused_first home bytes (OldDeed number) said = absurd said
refused_first home bytes (LaterWord number) said = absurd said
refused_first home bytes Failed said = tt
refused_first home bytes OutOfMemory said = tt

pub refused_then : (home : HomeData) (bytes : List ℕ) (from : ℕ) (base : EntityData) (fault : OpeningFault) → BeginsAs home bytes from base → HaltsPlaying bytes from fault
    → IsRefused home bytes fault
refused_then home bytes from base NoHeader begins said = absurd said
refused_then home bytes from base OtherFormat begins said = absurd said
refused_then home bytes from base OtherHome begins said = absurd said
refused_then home bytes from base (BadSnapshot number) begins said = absurd said
refused_then home bytes from base Unsound begins said = absurd said
refused_then home bytes from base (BadLine number) begins (at, halts, is) = (at, stops_at home bytes from at base begins halts, is)
refused_then home bytes from base (OldDeed number) begins (at, halts, is) = (at, stops_at home bytes from at base begins halts, is)
refused_then home bytes from base (LaterWord number) begins (at, halts, is) = (at, stops_at home bytes from at base begins halts, is)
refused_then home bytes from base Failed begins said = tt
refused_then home bytes from base OutOfMemory begins said = tt

pub refused_by_machine : (home : HomeData) (bytes : List ℕ) (fault : OpeningFault) → IsOfMachine fault → IsRefused home bytes fault
refused_by_machine home bytes NoHeader said = absurd said
refused_by_machine home bytes OtherFormat said = absurd said
refused_by_machine home bytes OtherHome said = absurd said
refused_by_machine home bytes (BadSnapshot number) said = absurd said
refused_by_machine home bytes Unsound said = absurd said
refused_by_machine home bytes (BadLine number) said = absurd said
refused_by_machine home bytes (OldDeed number) said = absurd said
refused_by_machine home bytes (LaterWord number) said = absurd said
refused_by_machine home bytes Failed said = tt
refused_by_machine home bytes OutOfMemory said = tt

pub never_failed_first : (home : HomeData) (bytes : List ℕ) → HaltsBeginning home bytes Failed → ⊥
never_failed_first home bytes said = said

pub never_failed_then : (bytes : List ℕ) (from : ℕ) → HaltsPlaying bytes from Failed → ⊥
never_failed_then bytes from said = said
