-- How far the acts of a journal are played.
use Rattle.std.proofs.Common.{◌≡◌, ℕ, ◌+◌, ◌-◌, ◌<◌, ◌≤◌, Bool, true, false, if◌then◌else◌, List, [], ◌∷◌, ◌++◌, length, take, drop, Option, Some, None, IfNone, IfSome, inl, inr, refl, sym, ap, ◌∙◌, subst, arith, append_assoc, length-append, length-drop, take-append-drop}
use Rattle.std.proofs.lemmas.Bool.{cases_Bool}
use Rattle.std.proofs.lemmas.List.{drop-drop, drop_at, length-take-le, take_at, take_rest}
use Rattle.filter_criteria.specs.Values.{where_it}
use Rattle.resource_model.specs.Home.{HomeData}
use Rattle.entity_model.specs.Entity.{EntityData}
use Rattle.accepted_requests.specs.Entries.{LaterRequestsData, no_entries}
use Rattle.journal_file.specs.Gates.{is_shut}
use Rattle.journal_lines.specs.Lines.{begins_unmarked}
use Rattle.entity_snapshot.specs.Reading.{line_number}
use Rattle.journal_opening.specs.Journals.{made_of}
use Rattle.journal_opening.specs.Opening.{BeginsAs, HaltsBeginning, IsOfMachine}
use Rattle.journal_opening.specs.Playing.{begins_later, fault_at}
use Rattle.journal_opening.specs.declared.fault.OpeningFault.{OpeningFault}
use Rattle.journal_opening.specs.declared.fault.OpeningFault.TheVariants.{NoHeader, OtherFormat, OtherHome, BadSnapshot, Unsound, BadLine, OldDeed, LaterWord, Failed, OutOfMemory}
use Rattle.later_opening.proofs.ActLemmas.{act_begins, inner_join, requests_join, spells_acts_join}
use Rattle.later_opening.specs.Acts.{deeds_in, first_act, len_of}
use Rattle.later_opening.specs.Journals.{IsLaterJournalOf}
use Rattle.later_opening.specs.Making.{act_fits, inner_after, later_of, requests_after, requests_of}
use Rattle.later_opening.specs.Opening.{IsRefusedLater, OpensLaterAs, StopsLaterAt}
use Rattle.later_opening.specs.Playing.{HaltsActsAt, HaltsPlayingActs, PlaysActs, PlaysFirstAct, ReadsActs, first_fitting}
use Rattle.later_opening.specs.declared.act.Act.{Act}
use Rattle.later_opening.specs.declared.act.Act.TheVariants.{Deed, Word}

none_some : {A B : Type 0} (x : A) → None ≡ Some x → B
none_some x e = absurd cc

some_same : {A : Type 0} (x y : A) → Some x ≡ Some y → x ≡ y
some_same x y e = cc

-- what holds where nothing is there
pub none_said : {A : Type 0} (o : Option A) (P : Type 0) → ((a : A) → o ≡ Some a → ⊥) → IfNone o P → P
none_said None P other said = said
none_said (Some a) P other said = absurd (other a refl)

-- ---- an act that fits

pub record Fitting (last : ℕ) (q : LaterRequestsData) (text : List ℕ) (act : Act) : Type 0 where
  pub read : first_act text ≡ Some act
  pub fits : act_fits act last q ≡ true

fitting_by : (last : ℕ) (q : LaterRequestsData) (text : List ℕ) (act : Act) (found : Option Act) → first_act text ≡ found → where_it (λ (a : Act). act_fits a last q) found ≡ Some act → Fitting last q text act
fitting_by last q text act None is read = none_some act read
fitting_by last q text act (Some a) is read = elim (cases_Bool (act_fits a last q)) [
  | inl t ↦ (
      let same : a ≡ act = some_same a act (sym (ap (λ b. if b then Some a else None) t) ∙ read) in
      subst (Fitting last q text) same (record { read = is; fits = t }))
  | inr f ↦ none_some act (sym (ap (λ b. if b then Some a else None) f) ∙ read)
]

pub fitting : (last : ℕ) (q : LaterRequestsData) (text : List ℕ) (act : Act) → first_fitting last q text ≡ Some act → Fitting last q text act
fitting last q text act read = fitting_by last q text act (first_act text) refl read

-- ---- acts, one after another

reads_none : (bytes : List ℕ) (from : ℕ) (base : EntityData) → from ≤ length bytes → ReadsActs bytes from from base []
reads_none bytes from base within = record {
  lines = [];
  split = refl;
  len = omega arith;
  within = within;
  spells = refl;
}

reads_more : (bytes : List ℕ) (from at : ℕ) (base : EntityData) (acts : List Act) (act : Act) → ReadsActs bytes from at base acts
    → first_fitting (made_of (deeds_in acts) base).last (requests_of acts no_entries) (drop at bytes) ≡ Some act
    → ReadsActs bytes from (at + len_of act (drop at bytes)) base (acts ++ act ∷ [])
reads_more bytes from at base acts act reads found =
    let fit = fitting (made_of (deeds_in acts) base).last (requests_of acts no_entries) (drop at bytes) act found in
    let begins = act_begins (drop at bytes) act fit.read in
    let n = len_of act (drop at bytes) in
    let left : drop (at + n) bytes ≡ begins.back =
    sym (drop-drop n at bytes) ∙ ap (λ (l : List ℕ). drop n l) begins.split ∙ drop_at begins.front begins.back n begins.len in
    let long = length-drop at bytes in
    let size = ap length begins.split ∙ length-append begins.front begins.back in
    record {
      lines = reads.lines ++ begins.front;
      split =
          reads.split
          ∙ ap (λ (l : List ℕ). reads.lines ++ l) begins.split
          ∙ sym (append_assoc reads.lines begins.front begins.back)
          ∙ ap (λ (l : List ℕ). (reads.lines ++ begins.front) ++ l) (sym left);
      len = omega (arith, reads.len, begins.len, length-append reads.lines begins.front);
      within = omega (arith, reads.within, long, size, begins.len);
      spells = spells_acts_join base no_entries acts act reads.lines begins.front reads.spells begins.spells fit.fits;
    }

pub plays_none : (bytes : List ℕ) (from : ℕ) (e : EntityData) (q : LaterRequestsData) → q ≡ no_entries → from ≤ length bytes → PlaysActs bytes from from e e q
plays_none bytes from e q none within = record { acts = []; reads = reads_none bytes from e within; inner = refl; requests_are = none }

pub plays_more : (bytes : List ℕ) (from at len : ℕ) (before mid after : EntityData) (q r : LaterRequestsData) → PlaysActs bytes from at before mid q
    → PlaysFirstAct (drop at bytes) len mid q after r → PlaysActs bytes from (at + len) before after r
plays_more bytes from at len before mid after q r plays first =
    let found : first_fitting (made_of (deeds_in plays.acts) before).last (requests_of plays.acts no_entries) (drop at bytes) ≡ Some first.act =
    ap (λ (e : EntityData). first_fitting e.last (requests_of plays.acts no_entries) (drop at bytes)) (sym plays.inner)
    ∙ ap (λ (x : LaterRequestsData). first_fitting mid.last x (drop at bytes)) (sym plays.requests_are)
    ∙ first.found in
    record {
      acts = plays.acts ++ first.act ∷ [];
      reads = subst (λ n. ReadsActs bytes from (at + n) before (plays.acts ++ first.act ∷ [])) (sym first.size) (reads_more bytes from at before plays.acts first.act plays.reads found);
      inner = first.inner ∙ ap (inner_after first.act) plays.inner ∙ sym (inner_join plays.acts first.act before);
      requests_are = first.requests_are ∙ ap (requests_after first.act) plays.requests_are ∙ sym (requests_join plays.acts first.act no_entries);
    }

-- an act is read at a place
pub some_first : (bytes : List ℕ) (at : ℕ) (found : Option ℕ) (len : ℕ) (mid : EntityData) (q : LaterRequestsData) (after : EntityData) (r : LaterRequestsData) → found ≡ Some len
    → IfSome found (λ n. PlaysFirstAct (take (length bytes - at) (drop at bytes)) n mid q after r) → PlaysFirstAct (drop at bytes) len mid q after r
some_first bytes at found len mid q after r is said =
    let there : List ℕ = take (length bytes - at) (drop at bytes) in
    subst (λ l. PlaysFirstAct l len mid q after r) (take_rest bytes at) (subst (λ o. IfSome o (λ n. PlaysFirstAct there n mid q after r)) is said)

some_len : (act : Act) (text : List ℕ) → 0 < len_of act text
some_len (Deed dated) text = omega arith
some_len (Word word) text = omega arith

-- the lines of an act are there, and they fit in
pub plays_some : (bytes : List ℕ) (at len : ℕ) (mid : EntityData) (q : LaterRequestsData) (after : EntityData) (r : LaterRequestsData) → at ≤ length bytes → PlaysFirstAct (drop at bytes) len mid q after r
    → (0 < len) × (at + len ≤ length bytes)
plays_some bytes at len mid q after r within first =
    (omega (arith, first.size, some_len first.act (drop at bytes)), omega (arith, within, first.within, length-drop at bytes))

pub acts_within : (bytes : List ℕ) (from at : ℕ) (before after : EntityData) (q : LaterRequestsData) → PlaysActs bytes from at before after q → at ≤ length bytes
acts_within bytes from at before after q plays = plays.reads.within

pub halts_at : (bytes : List ℕ) (from at : ℕ) (before after : EntityData) (q : LaterRequestsData) → PlaysActs bytes from at before after q → is_shut (drop at bytes) ≡ false
    → first_fitting after.last q (drop at bytes) ≡ None → HaltsActsAt before bytes from at
halts_at bytes from at before after q plays counts none = record {
  acts = plays.acts;
  reads = plays.reads;
  counts = counts;
  none =
      ap (λ (e : EntityData). first_fitting e.last (requests_of plays.acts no_entries) (drop at bytes)) (sym plays.inner)
      ∙ ap (λ (x : LaterRequestsData). first_fitting after.last x (drop at bytes)) (sym plays.requests_are)
      ∙ none;
}

-- it is told as what stands there
pub halts_by : (base : EntityData) (bytes : List ℕ) (from at : ℕ) (fault : OpeningFault) → HaltsActsAt base bytes from at → fault ≡ fault_at bytes at → HaltsPlayingActs base bytes from fault
halts_by base bytes from at fault halts is =
    let number = line_number bytes at in
    let by : Bool → Bool → OpeningFault = λ b c. if b then OldDeed number else if c then LaterWord number else BadLine number in
    elim (cases_Bool (begins_unmarked (drop at bytes))) [
      | inl old ↦
          let same : fault_at bytes at ≡ OldDeed number = ap (λ b. by b (begins_later (drop at bytes))) old in
          subst (HaltsPlayingActs base bytes from) (sym (is ∙ same)) (at, halts, sym same)
      | inr none ↦ elim (cases_Bool (begins_later (drop at bytes))) [
        | inl later ↦
            let same : fault_at bytes at ≡ LaterWord number = ap (λ b. by b (begins_later (drop at bytes))) none ∙ ap (by false) later in
            subst (HaltsPlayingActs base bytes from) (sym (is ∙ same)) (at, halts, sym same)
        | inr other ↦
            let same : fault_at bytes at ≡ BadLine number = ap (λ b. by b (begins_later (drop at bytes))) none ∙ ap (by false) other in
            subst (HaltsPlayingActs base bytes from) (sym (is ∙ same)) (at, halts, sym same)
      ]
    ]

-- ---- a text up to a place

module _ (home : HomeData) (bytes : List ℕ) (from at : ℕ) (base : EntityData) (begins : BeginsAs home bytes from base) where
  journal_at : (acts : List Act) → ReadsActs bytes from at base acts → IsLaterJournalOf home base acts (take at bytes)
  journal_at acts reads =
      let whole : bytes ≡ (take from bytes ++ reads.lines) ++ drop at bytes =
      sym (take-append-drop from bytes)
      ∙ ap (λ (l : List ℕ). take from bytes ++ l) reads.split
      ∙ sym (append_assoc (take from bytes) reads.lines (drop at bytes)) in
      let size : length (take from bytes ++ reads.lines) ≡ at =
      omega (arith, length-append (take from bytes) reads.lines, length-take-le from bytes begins.within, reads.len) in
      record {
        front = take from bytes;
        lines = reads.lines;
        split = ap (λ (l : List ℕ). take at l) whole ∙ take_at (take from bytes ++ reads.lines) (drop at bytes) at size;
        opens = begins.opens;
        spells = reads.spells;
      }

  pub opens_later : (e : EntityData) (q : LaterRequestsData) → PlaysActs bytes from at base e q → is_shut (drop at bytes) ≡ true → OpensLaterAs home bytes at (later_of e q)
  opens_later e q plays shut = record {
    makes = record {
      base = base;
      acts = plays.acts;
      journal = journal_at plays.acts plays.reads;
      made = ap (λ (x : EntityData). later_of x q) plays.inner ∙ ap (later_of (made_of (deeds_in plays.acts) base)) plays.requests_are;
    };
    within = plays.reads.within;
    shut = shut;
  }

  stops_at : HaltsActsAt base bytes from at → StopsLaterAt home bytes at
  stops_at halts = record {
    base = base;
    acts = halts.acts;
    journal = journal_at halts.acts halts.reads;
    within = halts.reads.within;
    counts = halts.counts;
    none = halts.none;
  }

-- ---- faults

pub refused_first : (home : HomeData) (bytes : List ℕ) (fault : OpeningFault) → HaltsBeginning home bytes fault → IsRefusedLater home bytes fault
refused_first home bytes NoHeader said = said
refused_first home bytes OtherFormat said = said
refused_first home bytes OtherHome said = said
refused_first home bytes (BadSnapshot number) said = said
refused_first home bytes Unsound said = said
refused_first home bytes (BadLine number) said = absurd said
refused_first home bytes (OldDeed number) said = absurd said
refused_first home bytes (LaterWord number) said = absurd said
refused_first home bytes Failed said = tt
refused_first home bytes OutOfMemory said = tt

pub refused_then : (home : HomeData) (bytes : List ℕ) (from : ℕ) (base : EntityData) (fault : OpeningFault) → BeginsAs home bytes from base → HaltsPlayingActs base bytes from fault
    → IsRefusedLater home bytes fault
refused_then home bytes from base NoHeader begins said = absurd said
refused_then home bytes from base OtherFormat begins said = absurd said
refused_then home bytes from base OtherHome begins said = absurd said
refused_then home bytes from base (BadSnapshot number) begins said = absurd said
refused_then home bytes from base Unsound begins said = absurd said
refused_then home bytes from base (BadLine number) begins (at, halts, is) = (at, stops_at home bytes from at base begins halts, is)
refused_then home bytes from base (OldDeed number) begins (at, halts, is) = (at, stops_at home bytes from at base begins halts, is)
refused_then home bytes from base (LaterWord number) begins (at, halts, is) = (at, stops_at home bytes from at base begins halts, is)
refused_then home bytes from base Failed begins said = tt
refused_then home bytes from base OutOfMemory begins said = tt

pub refused_by_machine : (home : HomeData) (bytes : List ℕ) (fault : OpeningFault) → IsOfMachine fault → IsRefusedLater home bytes fault
refused_by_machine home bytes NoHeader said = absurd said
refused_by_machine home bytes OtherFormat said = absurd said
refused_by_machine home bytes OtherHome said = absurd said
refused_by_machine home bytes (BadSnapshot number) said = absurd said
refused_by_machine home bytes Unsound said = absurd said
refused_by_machine home bytes (BadLine number) said = absurd said
refused_by_machine home bytes (OldDeed number) said = absurd said
refused_by_machine home bytes (LaterWord number) said = absurd said
refused_by_machine home bytes Failed said = tt
refused_by_machine home bytes OutOfMemory said = tt
