-- Bytes are read as one journal alone.
use Rattle.std.proofs.Common.{◌≡◌, ℕ, ◌+◌, ◌≤◌, List, [], ◌∷◌, ◌++◌, length, take, drop, Bool, true, false, Option, Some, None, Result, Ok, Err, inl, inr, refl, sym, ap, ◌∙◌, subst, arith, append_assoc, length-append, take-append-drop, true≢false}
use Rattle.std.proofs.lemmas.List.{drop_at, length-take-le, take_at}
use Rattle.resource_model.specs.Home.{HomeData}
use Rattle.entity_model.specs.Entity.{EntityData}
use Rattle.entity_model.specs.Opening.{opening}
use Rattle.journal_file.specs.Gates.{KeepsText, is_shut}
use Rattle.journal_lines.proofs.SpelledLemmas.{deed_read, header_read}
use Rattle.journal_lines.specs.Header.{first_header}
use Rattle.journal_lines.specs.Lines.{deed_len, first_deed, line_len}
use Rattle.journal_lines.specs.Spelled.{SpellsDeed, SpellsDeeds}
use Rattle.journal_lines.specs.declared.deed.Dated.{Dated}
use Rattle.journal_lines.specs.declared.header.HeaderFault.{HeaderFault}
use Rattle.journal_lines.specs.declared.header.HeaderFault.TheVariants as header
use Rattle.entity_lines.specs.Heads.{first_head}
use Rattle.entity_snapshot.specs.Snapshots.{entity_head}
use Rattle.entity_snapshot.proofs.HeadLemmas.{no_header}
use Rattle.entity_snapshot.proofs.SnapshotLemmas.{head_there, one_entity}
use Rattle.journal_opening.specs.Journals.{IsJournalOf, Makes, SpellsFirst, SpellsOpening, SpellsSnapshot, made_of}
use Rattle.journal_opening.specs.Laws.{JournalsOpenAsTheirDeeds}
use Rattle.entity_snapshot.proofs.RefusalLemmas.{none_refused}
use Rattle.entity_snapshot.specs.declared.fault.SnapshotFault.{SnapshotFault}
use Rattle.entity_snapshot.specs.declared.fault.SnapshotFault.TheVariants as snapshot
use Rattle.journal_opening.specs.Opening.{IsNoSnapshot, IsOfMachine, IsRefused, OpensAs, StopsAt}
use Rattle.journal_opening.specs.declared.fault.OpeningFault.{OpeningFault}
use Rattle.journal_opening.specs.declared.fault.OpeningFault.TheVariants.{NoHeader, OtherFormat, OtherHome, BadSnapshot, Unsound, BadLine, OldDeed, LaterWord, Failed, OutOfMemory}

-- ---- a deed stands behind an open gate

pub none_some : {A B : Type 0} (x : A) → None ≡ Some x → B
none_some x e = absurd cc

pub open_front : (dated : Dated) (front back : List ℕ) → SpellsDeed dated front → is_shut (front ++ back) ≡ false
open_front dated front back spells = ap (λ (l : List ℕ). is_shut (l ++ back)) spells.split

pub not_shut : {B : Type 0} (dated : Dated) (front back bytes : List ℕ) → SpellsDeed dated front → bytes ≡ front ++ back → is_shut bytes ≡ true → B
not_shut dated front back bytes spells is shut = absurd (true≢false (sym shut ∙ ap is_shut is ∙ open_front dated front back spells))

-- ---- one deed

pub some_same : {A : Type 0} (x y : A) → Some x ≡ Some y → x ≡ y
some_same x y e = cc

-- fronts of one length
module _ (front front1 rest rest1 : List ℕ) (whole : front ++ rest ≡ front1 ++ rest1) (size : length front1 ≡ length front) where
  pub fronts_same : front1 ≡ front
  fronts_same =
      sym (take_at front1 rest1 (length front) size) ∙ ap (λ (l : List ℕ). take (length front) l) (sym whole) ∙ take_at front rest (length front) refl

  pub rests_same : rest1 ≡ rest
  rests_same =
      sym (drop_at front1 rest1 (length front) size) ∙ ap (λ (l : List ℕ). drop (length front) l) (sym whole) ∙ drop_at front rest (length front) refl

pub record SameFront (dated other : Dated) (front front1 rest rest1 : List ℕ) : Type 0 where
  pub deed : other ≡ dated
  pub fronts : front1 ≡ front
  pub rests : rest1 ≡ rest

pub same_front : (dated other : Dated) (front front1 rest rest1 : List ℕ) → SpellsDeed dated front → SpellsDeed other front1
    → front ++ rest ≡ front1 ++ rest1 → SameFront dated other front front1 rest rest1
same_front dated other front front1 rest rest1 spells spells1 whole =
    let one = deed_read dated front rest spells in
    let two = deed_read other front1 rest1 spells1 in
    let size : length front1 ≡ length front = sym two.1 ∙ ap deed_len (sym whole) ∙ one.1 in
    record {
      deed = some_same other dated (sym two.0 ∙ ap first_deed (sym whole) ∙ one.0);
      fronts = fronts_same front front1 rest rest1 whole size;
      rests = rests_same front front1 rest rest1 whole size;
    }

-- ---- all deeds

-- the bytes of a list of lines that begins with those of a deed
pub joined : (lines front back behind : List ℕ) → lines ≡ front ++ back → lines ++ behind ≡ front ++ (back ++ behind)
joined lines front back behind split = ap (λ (l : List ℕ). l ++ behind) split ∙ append_assoc front back behind

same_deeds : (deeds others : List Dated) (lines more behind rest : List ℕ) → SpellsDeeds deeds lines → SpellsDeeds others more
    → lines ++ behind ≡ more ++ rest → is_shut behind ≡ true → is_shut rest ≡ true → (others ≡ deeds) × (more ≡ lines)
same_deeds [] [] lines more behind rest none none1 whole shut shut1 = (refl, none1 ∙ sym none)
same_deeds [] (e ∷ others) lines more behind rest none (front, back, split, one, left) whole shut shut1 =
    not_shut e front (back ++ rest) behind one (ap (λ (l : List ℕ). l ++ behind) (sym none) ∙ whole ∙ joined more front back rest split) shut
same_deeds (d ∷ deeds) [] lines more behind rest (front, back, split, one, left) none whole shut shut1 =
    not_shut d front (back ++ behind) rest one (ap (λ (l : List ℕ). l ++ rest) (sym none) ∙ sym whole ∙ joined lines front back behind split) shut1
same_deeds (d ∷ deeds) (e ∷ others) lines more behind rest (front, back, split, one, left) (front1, back1, split1, one1, left1) whole shut shut1 =
    let same = same_front d e front front1 (back ++ behind) (back1 ++ rest) one one1 (sym (joined lines front back behind split) ∙ whole ∙ joined more front1 back1 rest split1) in
    let on = same_deeds deeds others back back1 behind rest left left1 (sym same.rests) shut shut1 in (
      ap (λ x. x ∷ others) same.deed ∙ ap (λ (l : List Dated). d ∷ l) on.0,
      split1 ∙ ap (λ (l : List ℕ). l ++ back1) same.fronts ∙ ap (λ (l : List ℕ). front ++ l) on.1 ∙ sym split,
    )

-- deeds up to what counts for nothing have no place among them at which no deed begins
never_stuck : (deeds others : List Dated) (lines more behind rest : List ℕ) → SpellsDeeds deeds lines → SpellsDeeds others more
    → lines ++ behind ≡ more ++ rest → is_shut behind ≡ true → is_shut rest ≡ false → first_deed rest ≡ None → ⊥
never_stuck [] [] lines more behind rest none none1 whole shut counts never =
    let same : behind ≡ rest = ap (λ (l : List ℕ). l ++ behind) (sym none) ∙ whole ∙ ap (λ (l : List ℕ). l ++ rest) none1 in
    true≢false (sym shut ∙ ap is_shut same ∙ counts)
never_stuck [] (e ∷ others) lines more behind rest none (front, back, split, one, left) whole shut counts never =
    not_shut e front (back ++ rest) behind one (ap (λ (l : List ℕ). l ++ behind) (sym none) ∙ whole ∙ joined more front back rest split) shut
never_stuck (d ∷ deeds) [] lines more behind rest (front, back, split, one, left) none whole shut counts never =
    let is : rest ≡ front ++ (back ++ behind) = ap (λ (l : List ℕ). l ++ rest) (sym none) ∙ sym whole ∙ joined lines front back behind split in
    none_some d (sym never ∙ ap first_deed is ∙ (deed_read d front (back ++ behind) one).0)
never_stuck (d ∷ deeds) (e ∷ others) lines more behind rest (front, back, split, one, left) (front1, back1, split1, one1, left1) whole shut counts never =
    let same = same_front d e front front1 (back ++ behind) (back1 ++ rest) one one1 (sym (joined lines front back behind split) ∙ whole ∙ joined more front1 back1 rest split1) in
    never_stuck deeds others back back1 behind rest left left1 (sym same.rests) shut counts never

-- ---- the first line

ok_same : {A : Type 0} {E : Type 0} (x y : A) → (r : Result A E) → r ≡ Ok x → r ≡ Ok y → y ≡ x
ok_same x y r one two = cc

pub record SameOpening (base other : EntityData) (front front1 rest rest1 : List ℕ) : Type 0 where
  pub bases : other ≡ base
  pub fronts : front1 ≡ front
  pub rests : rest1 ≡ rest

same_first : (home : HomeData) (base other : EntityData) (front front1 rest rest1 : List ℕ) → SpellsFirst home base front → SpellsFirst home other front1
    → front ++ rest ≡ front1 ++ rest1 → SameOpening base other front front1 rest rest1
same_first home base other front front1 rest rest1 opens opens1 whole =
    let one = header_read home opens.opened front rest opens.header in
    let two = header_read home opens1.opened front1 rest1 opens1.header in
    let size : length front1 ≡ length front = sym two.1 ∙ ap (λ (l : List ℕ). line_len l + 1) (sym whole) ∙ one.1 in
    let at : opens1.opened ≡ opens.opened = ok_same opens.opened opens1.opened (first_header home (front ++ rest)) one.0 (ap (first_header home) whole ∙ two.0) in
    record {
      bases = opens1.opens ∙ ap (opening home) at ∙ sym opens.opens;
      fronts = fronts_same front front1 rest rest1 whole size;
      rests = rests_same front front1 rest rest1 whole size;
    }

same_snapshot : (home : HomeData) (base other : EntityData) (front front1 rest rest1 : List ℕ) → SpellsSnapshot home base front → SpellsSnapshot home other front1
    → front ++ rest ≡ front1 ++ rest1 → SameOpening base other front front1 rest rest1
same_snapshot home base other front front1 rest rest1 kept kept1 whole =
    let same = one_entity base other front front1 rest rest1 kept.spells kept1.spells (kept.own ∙ sym kept1.own) whole in
    record {
      bases = sym same.0;
      fronts = sym same.1;
      rests = rests_same front front1 rest rest1 whole (ap length (sym same.1));
    }

-- the head of a snapshot at the front of a text
head_of_home : (home : HomeData) (base : EntityData) (front rest : List ℕ) → SpellsSnapshot home base front → first_head home (front ++ rest) ≡ Ok (entity_head base)
head_of_home home base front rest kept = ap (λ (h : HomeData). first_head h (front ++ rest)) (sym kept.own) ∙ head_there base front rest kept.spells

-- no text begins with both
never_both : (home : HomeData) (base other : EntityData) (front front1 rest rest1 : List ℕ) → SpellsFirst home base front → SpellsSnapshot home other front1
    → front ++ rest ≡ front1 ++ rest1 → ⊥
never_both home base other front front1 rest rest1 opens kept whole =
    let one = (header_read home opens.opened front rest opens.header).0 in
    let none = no_header home (entity_head other) (front1 ++ rest1) (head_of_home home other front1 rest1 kept) in
    let both : Ok opens.opened ≡ Err header.NoHeader = sym one ∙ ap (first_header home) whole ∙ none in
    cc

pub same_opening : (home : HomeData) (base other : EntityData) (front front1 rest rest1 : List ℕ) → SpellsOpening home base front → SpellsOpening home other front1
    → front ++ rest ≡ front1 ++ rest1 → SameOpening base other front front1 rest rest1
same_opening home base other front front1 rest rest1 (inl opens) (inl opens1) whole = same_first home base other front front1 rest rest1 opens opens1 whole
same_opening home base other front front1 rest rest1 (inr kept) (inr kept1) whole = same_snapshot home base other front front1 rest rest1 kept kept1 whole
same_opening home base other front front1 rest rest1 (inl opens) (inr kept1) whole = absurd (never_both home base other front front1 rest rest1 opens kept1 whole)
same_opening home base other front front1 rest rest1 (inr kept) (inl opens1) whole = absurd (never_both home other base front1 front rest1 rest opens1 kept (sym whole))

-- ---- why a text that says with which entity a journal begins isn't refused

ok_never_err : {A E : Type 0} (r : Result A E) (x : A) (fault : E) → r ≡ Ok x → r ≡ Err fault → ⊥
ok_never_err r x fault ok err = cc

err_alike : {A E : Type 0} (r : Result A E) (one other : E) → r ≡ Err one → r ≡ Err other → one ≡ other
err_alike r one other first second = cc

-- a header that is refused would be none
pub none_refused_first : (home : HomeData) (base : EntityData) (front rest : List ℕ) (fault : HeaderFault) → SpellsOpening home base front → first_header home (front ++ rest) ≡ Err fault
    → fault ≡ header.NoHeader
none_refused_first home base front rest fault (inl opens) err =
    absurd (ok_never_err (first_header home (front ++ rest)) opens.opened fault (header_read home opens.opened front rest opens.header).0 err)
none_refused_first home base front rest fault (inr kept) err =
    err_alike (first_header home (front ++ rest)) fault header.NoHeader err (no_header home (entity_head base) (front ++ rest) (head_of_home home base front rest kept))

-- a snapshot that is refused would be one for which there is no memory
pub none_refused_behind : (home : HomeData) (base : EntityData) (front rest : List ℕ) (fault : SnapshotFault) → SpellsOpening home base front → IsNoSnapshot home (front ++ rest) fault
    → fault ≡ snapshot.OutOfMemory
none_refused_behind home base front rest fault (inl opens) none =
    absurd (ok_never_err (first_header home (front ++ rest)) opens.opened header.NoHeader (header_read home opens.opened front rest opens.header).0 none.0)
none_refused_behind home base front rest fault (inr kept) none = none_refused home (front ++ rest) base front rest kept.spells kept.own refl fault none.1

-- ---- a file that keeps a journal

module _ (home : HomeData) (base : EntityData) (deeds : List Dated) (text bytes : List ℕ) (journal : IsJournalOf home base deeds text) (keeps : KeepsText text bytes) where
  -- the bytes, behind the first line
  apart : bytes ≡ journal.front ++ (journal.lines ++ keeps.behind)
  apart = keeps.split ∙ joined text journal.front journal.lines keeps.behind journal.split

  -- the same of a journal that is read from them, up to a place
  module _ (other : EntityData) (others : List Dated) (place : ℕ) (read : IsJournalOf home other others (take place bytes)) where
    abbrev left : List ℕ
    left = drop place bytes

    apart_at : bytes ≡ read.front ++ (read.lines ++ left)
    apart_at = sym (take-append-drop place bytes) ∙ joined (take place bytes) read.front read.lines left read.split

    first_same : SameOpening base other journal.front read.front (journal.lines ++ keeps.behind) (read.lines ++ left)
    first_same = same_opening home base other journal.front read.front (journal.lines ++ keeps.behind) (read.lines ++ left) journal.opens read.opens (sym apart ∙ apart_at)

    all_same : is_shut left ≡ true → (others ≡ deeds) × (read.lines ≡ journal.lines)
    all_same shut = same_deeds deeds others journal.lines read.lines keeps.behind left journal.spells read.spells (sym first_same.rests) keeps.shut shut

    text_same : is_shut left ≡ true → take place bytes ≡ text
    text_same shut =
        read.split
        ∙ ap (λ (l : List ℕ). l ++ read.lines) first_same.fronts
        ∙ ap (λ (l : List ℕ). journal.front ++ l) (all_same shut).1
        ∙ sym journal.split

    made_same : is_shut left ≡ true → made_of others other ≡ made_of deeds base
    made_same shut = ap (λ ds. made_of ds other) (all_same shut).0 ∙ ap (made_of deeds) first_same.bases

    none_stuck : is_shut left ≡ false → first_deed left ≡ None → ⊥
    none_stuck counts never = never_stuck deeds others journal.lines read.lines keeps.behind left journal.spells read.spells (sym first_same.rests) keeps.shut counts never

  first_there : (fault : HeaderFault) → first_header home bytes ≡ Err fault → fault ≡ header.NoHeader
  first_there fault err =
      none_refused_first home base journal.front (journal.lines ++ keeps.behind) fault journal.opens (ap (first_header home) (sym apart) ∙ err)

  snapshot_there : (fault : SnapshotFault) → IsNoSnapshot home bytes fault → fault ≡ snapshot.OutOfMemory
  snapshot_there fault none =
      none_refused_behind home base journal.front (journal.lines ++ keeps.behind) fault journal.opens
      (subst (λ (l : List ℕ). IsNoSnapshot home l fault) apart none)

  -- what is opened is the text
  pub text_opened : (len : ℕ) (e : EntityData) → OpensAs home bytes len e → take len bytes ≡ text
  text_opened len e read = text_same read.makes.base read.makes.deeds len read.makes.journal read.shut

  opened : (len : ℕ) (e : EntityData) → OpensAs home bytes len e → (len ≡ length text) × (e ≡ made_of deeds base)
  opened len e read = (
    sym (length-take-le len bytes read.within) ∙ ap length (text_opened len e read),
    read.makes.made ∙ made_same read.makes.base read.makes.deeds len read.makes.journal read.shut,
  )

  refused : (fault : OpeningFault) → IsRefused home bytes fault → IsOfMachine fault
  refused NoHeader none = (let is : snapshot.NoHeader ≡ snapshot.OutOfMemory = snapshot_there snapshot.NoHeader none in cc)
  refused OtherFormat (inl err) = (let is : header.OtherFormat ≡ header.NoHeader = first_there header.OtherFormat err in cc)
  refused OtherFormat (inr none) = (let is : snapshot.OtherFormat ≡ snapshot.OutOfMemory = snapshot_there snapshot.OtherFormat none in cc)
  refused OtherHome (inl err) = (let is : header.OtherHome ≡ header.NoHeader = first_there header.OtherHome err in cc)
  refused OtherHome (inr none) = (let is : snapshot.OtherHome ≡ snapshot.OutOfMemory = snapshot_there snapshot.OtherHome none in cc)
  refused (BadSnapshot number) none = (let is : snapshot.BadLine number ≡ snapshot.OutOfMemory = snapshot_there (snapshot.BadLine number) none in cc)
  refused Unsound none = (let is : snapshot.Unsound ≡ snapshot.OutOfMemory = snapshot_there snapshot.Unsound none in cc)
  refused (BadLine number) (place, stops, is) = none_stuck stops.base stops.deeds place stops.journal stops.counts stops.none
  refused (OldDeed number) (place, stops, is) = none_stuck stops.base stops.deeds place stops.journal stops.counts stops.none
  refused (LaterWord number) (place, stops, is) = none_stuck stops.base stops.deeds place stops.journal stops.counts stops.none
  refused Failed said = tt
  refused OutOfMemory said = tt

  pub journal_opens : JournalsOpenAsTheirDeeds home base deeds text bytes
  journal_opens = record { opens = opened; refuses = refused }
