-- Bytes are read as the journal of one CSE that answers later alone.
use Rattle.std.proofs.Common.{◌≡◌, ℕ, List, [], ◌∷◌, ◌++◌, length, take, drop, true, false, Some, None, Err, if◌then◌else◌, inl, inr, refl, sym, ap, ◌∙◌, subst, take-append-drop, true≢false}
use Rattle.std.proofs.lemmas.List.{length-take-le}
use Rattle.filter_criteria.specs.Values.{where_it}
use Rattle.resource_model.specs.Home.{HomeData}
use Rattle.entity_model.specs.Entity.{EntityData}
use Rattle.accepted_requests.specs.Entries.{LaterRequestsData, no_entries}
use Rattle.later_replies.specs.Entries.{LaterData}
use Rattle.journal_file.specs.Gates.{KeepsText, is_shut}
use Rattle.journal_lines.specs.Header.{first_header}
use Rattle.journal_lines.specs.declared.header.HeaderFault.{HeaderFault}
use Rattle.journal_lines.specs.declared.header.HeaderFault.TheVariants as header
use Rattle.entity_snapshot.specs.declared.fault.SnapshotFault.{SnapshotFault}
use Rattle.entity_snapshot.specs.declared.fault.SnapshotFault.TheVariants as snapshot
use Rattle.journal_opening.proofs.ReadingLemmas.{SameOpening, joined, none_refused_behind, none_refused_first, none_some, same_opening}
use Rattle.journal_opening.specs.Journals.{made_of}
use Rattle.journal_opening.specs.Opening.{IsNoSnapshot, IsOfMachine}
use Rattle.journal_opening.specs.declared.fault.OpeningFault.{OpeningFault}
use Rattle.journal_opening.specs.declared.fault.OpeningFault.TheVariants.{NoHeader, OtherFormat, OtherHome, BadSnapshot, Unsound, BadLine, OldDeed, LaterWord, Failed, OutOfMemory}
use Rattle.later_opening.proofs.ActLemmas.{act_not_shut, act_read, inner_first, same_act}
use Rattle.later_opening.specs.Acts.{deeds_in, first_act}
use Rattle.later_opening.specs.Journals.{IsLaterJournalOf, SpellsActs}
use Rattle.later_opening.specs.Laws.{JournalsOpenAsTheirActs}
use Rattle.later_opening.specs.Making.{act_fits, inner_after, made_of_acts, requests_after, requests_of}
use Rattle.later_opening.specs.Opening.{IsRefusedLater, OpensLaterAs}
use Rattle.later_opening.specs.Playing.{first_fitting}
use Rattle.later_opening.specs.declared.act.Act.{Act}

-- ---- all acts

pub same_acts : (acts others : List Act) (e : EntityData) (q : LaterRequestsData) (lines more behind rest : List ℕ) → SpellsActs e q acts lines → SpellsActs e q others more
    → lines ++ behind ≡ more ++ rest → is_shut behind ≡ true → is_shut rest ≡ true → (others ≡ acts) × (more ≡ lines)
same_acts [] [] e q lines more behind rest none none1 whole shut shut1 = (refl, none1 ∙ sym none)
same_acts [] (b ∷ others) e q lines more behind rest none (front, back, split, one, fit, left) whole shut shut1 =
    act_not_shut b front (back ++ rest) behind one (ap (λ (l : List ℕ). l ++ behind) (sym none) ∙ whole ∙ joined more front back rest split) shut
same_acts (a ∷ acts) [] e q lines more behind rest (front, back, split, one, fit, left) none whole shut shut1 =
    act_not_shut a front (back ++ behind) rest one (ap (λ (l : List ℕ). l ++ rest) (sym none) ∙ sym whole ∙ joined lines front back behind split) shut1
same_acts (a ∷ acts) (b ∷ others) e q lines more behind rest (front, back, split, one, fit, left) (front1, back1, split1, one1, fit1, left1) whole shut shut1 =
    let same = same_act a b front front1 (back ++ behind) (back1 ++ rest) one one1 (sym (joined lines front back behind split) ∙ whole ∙ joined more front1 back1 rest split1) in
    let alike : SpellsActs (inner_after a e) (requests_after a q) others back1 =
    subst (λ (x : Act). SpellsActs (inner_after x e) (requests_after x q) others back1) same.acts left1 in
    let on = same_acts acts others (inner_after a e) (requests_after a q) back back1 behind rest left alike (sym same.rests) shut shut1 in (
      ap (λ x. x ∷ others) same.acts ∙ ap (λ (l : List Act). a ∷ l) on.0,
      split1 ∙ ap (λ (l : List ℕ). l ++ back1) same.fronts ∙ ap (λ (l : List ℕ). front ++ l) on.1 ∙ sym split,
    )

-- an act that fits is read where it stands
fitting_read : (a : Act) (last : ℕ) (q : LaterRequestsData) (bytes : List ℕ) → first_act bytes ≡ Some a → act_fits a last q ≡ true → first_fitting last q bytes ≡ Some a
fitting_read a last q bytes read fit =
    ap (where_it (λ (x : Act). act_fits x last q)) read ∙ ap (λ b. if b then Some a else None) fit

-- acts up to what counts for nothing have no place among them at which no act begins that fits
acts_never_stuck : (acts others : List Act) (e : EntityData) (q : LaterRequestsData) (lines more behind rest : List ℕ) → SpellsActs e q acts lines → SpellsActs e q others more
    → lines ++ behind ≡ more ++ rest → is_shut behind ≡ true → is_shut rest ≡ false
    → first_fitting (made_of (deeds_in others) e).last (requests_of others q) rest ≡ None → ⊥
acts_never_stuck [] [] e q lines more behind rest none none1 whole shut counts never =
    let same : behind ≡ rest = ap (λ (l : List ℕ). l ++ behind) (sym none) ∙ whole ∙ ap (λ (l : List ℕ). l ++ rest) none1 in
    true≢false (sym shut ∙ ap is_shut same ∙ counts)
acts_never_stuck [] (b ∷ others) e q lines more behind rest none (front, back, split, one, fit, left) whole shut counts never =
    act_not_shut b front (back ++ rest) behind one (ap (λ (l : List ℕ). l ++ behind) (sym none) ∙ whole ∙ joined more front back rest split) shut
acts_never_stuck (a ∷ acts) [] e q lines more behind rest (front, back, split, one, fit, left) none whole shut counts never =
    let is : rest ≡ front ++ (back ++ behind) = ap (λ (l : List ℕ). l ++ rest) (sym none) ∙ sym whole ∙ joined lines front back behind split in
    none_some a (sym never ∙ fitting_read a e.last q rest (ap first_act is ∙ (act_read a front (back ++ behind) one).0) fit)
acts_never_stuck (a ∷ acts) (b ∷ others) e q lines more behind rest (front, back, split, one, fit, left) (front1, back1, split1, one1, fit1, left1) whole shut counts never =
    let same = same_act a b front front1 (back ++ behind) (back1 ++ rest) one one1 (sym (joined lines front back behind split) ∙ whole ∙ joined more front1 back1 rest split1) in
    let alike : SpellsActs (inner_after a e) (requests_after a q) others back1 =
    subst (λ (x : Act). SpellsActs (inner_after x e) (requests_after x q) others back1) same.acts left1 in
    let P : Act → Type 0 = λ (x : Act). first_fitting (made_of (deeds_in others) (inner_after x e)).last (requests_of others (requests_after x q)) rest ≡ None in
    let stuck : P b = subst (λ (d : EntityData). first_fitting d.last (requests_of others (requests_after b q)) rest ≡ None) (inner_first b others e) never in
    acts_never_stuck acts others (inner_after a e) (requests_after a q) back back1 behind rest left alike (sym same.rests) shut counts (subst P same.acts stuck)

-- ---- a file that keeps such a journal

module _ (home : HomeData) (base : EntityData) (acts : List Act) (text bytes : List ℕ) (journal : IsLaterJournalOf home base acts text) (keeps : KeepsText text bytes) where
  -- the bytes, behind what says with which entity it begins
  apart : bytes ≡ journal.front ++ (journal.lines ++ keeps.behind)
  apart = keeps.split ∙ joined text journal.front journal.lines keeps.behind journal.split

  -- the same of a journal that is read from them, up to a place
  module _ (other : EntityData) (others : List Act) (place : ℕ) (read : IsLaterJournalOf home other others (take place bytes)) where
    abbrev left : List ℕ
    left = drop place bytes

    apart_at : bytes ≡ read.front ++ (read.lines ++ left)
    apart_at = sym (take-append-drop place bytes) ∙ joined (take place bytes) read.front read.lines left read.split

    first_same : SameOpening base other journal.front read.front (journal.lines ++ keeps.behind) (read.lines ++ left)
    first_same = same_opening home base other journal.front read.front (journal.lines ++ keeps.behind) (read.lines ++ left) journal.opens read.opens (sym apart ∙ apart_at)

    read_alike : SpellsActs base no_entries others read.lines
    read_alike = subst (λ (e : EntityData). SpellsActs e no_entries others read.lines) first_same.bases read.spells

    all_same : is_shut left ≡ true → (others ≡ acts) × (read.lines ≡ journal.lines)
    all_same shut = same_acts acts others base no_entries journal.lines read.lines keeps.behind left journal.spells read_alike (sym first_same.rests) keeps.shut shut

    text_same : is_shut left ≡ true → take place bytes ≡ text
    text_same shut =
        read.split
        ∙ ap (λ (l : List ℕ). l ++ read.lines) first_same.fronts
        ∙ ap (λ (l : List ℕ). journal.front ++ l) (all_same shut).1
        ∙ sym journal.split

    made_same : is_shut left ≡ true → made_of_acts others other ≡ made_of_acts acts base
    made_same shut = ap (λ (l : List Act). made_of_acts l other) (all_same shut).0 ∙ ap (made_of_acts acts) first_same.bases

    none_stuck : is_shut left ≡ false → first_fitting (made_of (deeds_in others) other).last (requests_of others no_entries) left ≡ None → ⊥
    none_stuck counts never =
        acts_never_stuck acts others base no_entries journal.lines read.lines keeps.behind left journal.spells read_alike (sym first_same.rests) keeps.shut counts
        (subst (λ (e : EntityData). first_fitting (made_of (deeds_in others) e).last (requests_of others no_entries) left ≡ None) first_same.bases never)

  first_there : (fault : HeaderFault) → first_header home bytes ≡ Err fault → fault ≡ header.NoHeader
  first_there fault err =
      none_refused_first home base journal.front (journal.lines ++ keeps.behind) fault journal.opens (ap (first_header home) (sym apart) ∙ err)

  snapshot_there : (fault : SnapshotFault) → IsNoSnapshot home bytes fault → fault ≡ snapshot.OutOfMemory
  snapshot_there fault none =
      none_refused_behind home base journal.front (journal.lines ++ keeps.behind) fault journal.opens
      (subst (λ (l : List ℕ). IsNoSnapshot home l fault) apart none)

  -- what is opened is the text
  pub text_opened_later : (len : ℕ) (d : LaterData) → OpensLaterAs home bytes len d → take len bytes ≡ text
  text_opened_later len d read = text_same read.makes.base read.makes.acts len read.makes.journal read.shut

  opened : (len : ℕ) (d : LaterData) → OpensLaterAs home bytes len d → (len ≡ length text) × (d ≡ made_of_acts acts base)
  opened len d read = (
    sym (length-take-le len bytes read.within) ∙ ap length (text_opened_later len d read),
    read.makes.made ∙ made_same read.makes.base read.makes.acts len read.makes.journal read.shut,
  )

  refused : (fault : OpeningFault) → IsRefusedLater home bytes fault → IsOfMachine fault
  refused NoHeader none = (let is : snapshot.NoHeader ≡ snapshot.OutOfMemory = snapshot_there snapshot.NoHeader none in cc)
  refused OtherFormat (inl err) = (let is : header.OtherFormat ≡ header.NoHeader = first_there header.OtherFormat err in cc)
  refused OtherFormat (inr none) = (let is : snapshot.OtherFormat ≡ snapshot.OutOfMemory = snapshot_there snapshot.OtherFormat none in cc)
  refused OtherHome (inl err) = (let is : header.OtherHome ≡ header.NoHeader = first_there header.OtherHome err in cc)
  refused OtherHome (inr none) = (let is : snapshot.OtherHome ≡ snapshot.OutOfMemory = snapshot_there snapshot.OtherHome none in cc)
  refused (BadSnapshot number) none = (let is : snapshot.BadLine number ≡ snapshot.OutOfMemory = snapshot_there (snapshot.BadLine number) none in cc)
  refused Unsound none = (let is : snapshot.Unsound ≡ snapshot.OutOfMemory = snapshot_there snapshot.Unsound none in cc)
  refused (BadLine number) (place, stops, is) = none_stuck stops.base stops.acts place stops.journal stops.counts stops.none
  refused (OldDeed number) (place, stops, is) = none_stuck stops.base stops.acts place stops.journal stops.counts stops.none
  refused (LaterWord number) (place, stops, is) = none_stuck stops.base stops.acts place stops.journal stops.counts stops.none
  refused Failed said = tt
  refused OutOfMemory said = tt

  pub later_journal_opens : JournalsOpenAsTheirActs home base acts text bytes
  later_journal_opens = record { opens = opened; refuses = refused }
