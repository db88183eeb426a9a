-- What spells an act is read as it, and what is read is spelled so.
use Rattle.std.proofs.Common.{◌≡◌, ℕ, ◌+◌, List, [], ◌∷◌, ◌++◌, length, true, false, Option, Some, None, option_map, map, refl, sym, ap, ◌∙◌, subst, append_assoc, true≢false}
use Rattle.std.proofs.lemmas.List.{append-nil}
use Rattle.entity_model.specs.Entity.{EntityData}
use Rattle.journal_file.specs.Gates.{is_batch, is_shut}
use Rattle.journal_lines.proofs.SpelledLemmas.{deed_begins, deed_read}
use Rattle.journal_lines.specs.Lines.{first_deed}
use Rattle.journal_lines.specs.Spelled.{SpellsDeeds}
use Rattle.journal_lines.specs.declared.deed.Dated.{Dated}
use Rattle.journal_opening.proofs.ReadingLemmas.{fronts_same, none_some, open_front, rests_same, some_same}
use Rattle.journal_opening.specs.Journals.{made_of}
use Rattle.later_lines.proofs.SpelledLemmas.{no_deed, word_begins, word_read}
use Rattle.later_lines.specs.Words.{first_word}
use Rattle.later_lines.specs.declared.word.Word.{Word as LaterWord}
use Rattle.accepted_requests.specs.Entries.{LaterRequestsData}
use Rattle.later_opening.specs.Acts.{BeginsWithAct, SpellsAct, deed_or_word, deeds_in, first_act, len_of}
use Rattle.later_opening.specs.Journals.{SpellsActs}
use Rattle.later_opening.specs.Making.{act_fits, inner_after, requests_after, requests_of}
use Rattle.later_opening.specs.declared.act.Act.{Act}
use Rattle.later_opening.specs.declared.act.Act.TheVariants.{Deed, Word}

-- ---- one act

pub act_read : (act : Act) (front back : List ℕ) → SpellsAct act front
    → (first_act (front ++ back) ≡ Some act) × (len_of act (front ++ back) ≡ length front)
act_read (Deed dated) front back spells =
    let read = deed_read dated front back spells in
    (ap (deed_or_word (front ++ back)) read.0, read.1)
act_read (Word word) front back spells =
    let read = word_read word front back spells in
    (ap (deed_or_word (front ++ back)) (no_deed word front back spells) ∙ ap (option_map Word) read.0, read.1)

begins_worded : (text : List ℕ) (act : Act) (found : Option LaterWord) → first_word text ≡ found → option_map Word found ≡ Some act → BeginsWithAct act text
begins_worded text act None is read = none_some act read
begins_worded text act (Some word) is read =
    let begins = word_begins text word is in
    subst (λ (a : Act). BeginsWithAct a text) (some_same (Word word) act read)
    (record { front = begins.front; back = begins.back; split = begins.split; spells = begins.spells; len = begins.len })

begins_by : (text : List ℕ) (act : Act) (found : Option Dated) → first_deed text ≡ found → deed_or_word text found ≡ Some act → BeginsWithAct act text
begins_by text act (Some dated) is read =
    let begins = deed_begins text dated is in
    subst (λ (a : Act). BeginsWithAct a text) (some_same (Deed dated) act read)
    (record { front = begins.front; back = begins.back; split = begins.split; spells = begins.spells; len = begins.len })
begins_by text act None is read = begins_worded text act (first_word text) refl read

pub act_begins : (text : List ℕ) (act : Act) → first_act text ≡ Some act → BeginsWithAct act text
act_begins text act read = begins_by text act (first_deed text) refl read

-- ---- an act stands behind an open gate

act_front : (act : Act) (front back : List ℕ) → SpellsAct act front → is_shut (front ++ back) ≡ false
act_front (Deed dated) front back spells = open_front dated front back spells
act_front (Word word) front back spells = ap (λ (l : List ℕ). is_shut (l ++ back)) spells.split

pub act_not_shut : {B : Type 0} (act : Act) (front back bytes : List ℕ) → SpellsAct act front → bytes ≡ front ++ back → is_shut bytes ≡ true → B
act_not_shut act front back bytes spells is shut = absurd (true≢false (sym shut ∙ ap is_shut is ∙ act_front act front back spells))

-- its lines are a batch
pub act_is_batch : (act : Act) (front : List ℕ) → SpellsAct act front → is_batch front ≡ true
act_is_batch (Deed dated) front spells = ap is_batch spells.split
act_is_batch (Word word) front spells = ap is_batch spells.split

pub record SameAct (act other : Act) (front front1 rest rest1 : List ℕ) : Type 0 where
  pub acts : other ≡ act
  pub fronts : front1 ≡ front
  pub rests : rest1 ≡ rest

pub same_act : (act other : Act) (front front1 rest rest1 : List ℕ) → SpellsAct act front → SpellsAct other front1
    → front ++ rest ≡ front1 ++ rest1 → SameAct act other front front1 rest rest1
same_act act other front front1 rest rest1 spells spells1 whole =
    let one = act_read act front rest spells in
    let two = act_read other front1 rest1 spells1 in
    let same : other ≡ act = some_same other act (sym two.0 ∙ ap first_act (sym whole) ∙ one.0) in
    let size : length front1 ≡ length front = sym two.1 ∙ ap (len_of other) (sym whole) ∙ ap (λ (a : Act). len_of a (front ++ rest)) same ∙ one.1 in
    record {
      acts = same;
      fronts = fronts_same front front1 rest rest1 whole size;
      rests = rests_same front front1 rest rest1 whole size;
    }

-- ---- many acts

pub deeds_join : (acts : List Act) (act : Act) → deeds_in (acts ++ act ∷ []) ≡ deeds_in acts ++ deeds_in (act ∷ [])
deeds_join [] act = refl
deeds_join (Deed dated ∷ acts) act = ap (λ (ds : List Dated). dated ∷ ds) (deeds_join acts act)
deeds_join (Word word ∷ acts) act = deeds_join acts act

-- what acts make of the entity inside
pub inner_first : (act : Act) (acts : List Act) (e : EntityData) → made_of (deeds_in (act ∷ acts)) e ≡ made_of (deeds_in acts) (inner_after act e)
inner_first (Deed dated) acts e = refl
inner_first (Word word) acts e = refl

pub inner_join : (acts : List Act) (act : Act) (e : EntityData) → made_of (deeds_in (acts ++ act ∷ [])) e ≡ inner_after act (made_of (deeds_in acts) e)
inner_join [] (Deed dated) e = refl
inner_join [] (Word word) e = refl
inner_join (first ∷ acts) act e =
    inner_first first (acts ++ act ∷ []) e ∙ inner_join acts act (inner_after first e) ∙ ap (inner_after act) (sym (inner_first first acts e))

pub requests_join : (acts : List Act) (act : Act) (q : LaterRequestsData) → requests_of (acts ++ act ∷ []) q ≡ requests_after act (requests_of acts q)
requests_join [] act q = refl
requests_join (first ∷ acts) act q = requests_join acts act (requests_after first q)

-- the lines of one act more, which fits
pub spells_acts_join : (e : EntityData) (q : LaterRequestsData) (acts : List Act) (act : Act) (lines front : List ℕ) → SpellsActs e q acts lines → SpellsAct act front
    → act_fits act (made_of (deeds_in acts) e).last (requests_of acts q) ≡ true → SpellsActs e q (acts ++ act ∷ []) (lines ++ front)
spells_acts_join e q [] act lines front none one fits =
    (front, [], ap (λ (l : List ℕ). l ++ front) none ∙ sym (append-nil front), one, fits, refl)
spells_acts_join e q (first ∷ acts) act lines front (head, back, split, one, fit, rest) more fits = (
  head,
  back ++ front,
  ap (λ (l : List ℕ). l ++ front) split ∙ append_assoc head back front,
  one,
  fit,
  spells_acts_join (inner_after first e) (requests_after first q) acts act back front rest more
      (subst (λ (d : EntityData). act_fits act d.last (requests_of acts (requests_after first q)) ≡ true) (inner_first first acts e) fits),
)

-- many acts more
pub spells_acts_append : (e : EntityData) (q : LaterRequestsData) (acts more : List Act) (lines then : List ℕ) → SpellsActs e q acts lines
    → SpellsActs (made_of (deeds_in acts) e) (requests_of acts q) more then → SpellsActs e q (acts ++ more) (lines ++ then)
spells_acts_append e q [] more lines then none rest = subst (λ (l : List ℕ). SpellsActs e q more (l ++ then)) (sym none) rest
spells_acts_append e q (first ∷ acts) more lines then (head, back, split, one, fit, rest) on = (
  head,
  back ++ then,
  ap (λ (l : List ℕ). l ++ then) split ∙ append_assoc head back then,
  one,
  fit,
  spells_acts_append (inner_after first e) (requests_after first q) acts more back then rest
      (subst (λ (d : EntityData). SpellsActs d (requests_of acts (requests_after first q)) more then) (inner_first first acts e) on),
)

-- ---- the deeds among acts are a text of their own

pub record OwnLines (acts : List Act) : Type 0 where
  pub lines : List ℕ
  pub spells : SpellsDeeds (deeds_in acts) lines

pub own_lines : (e : EntityData) (q : LaterRequestsData) (acts : List Act) (lines : List ℕ) → SpellsActs e q acts lines → OwnLines acts
own_lines e q [] lines none = record { lines = []; spells = refl }
own_lines e q (Deed dated ∷ acts) lines (head, back, split, one, fit, rest) =
    let own = own_lines (inner_after (Deed dated) e) q acts back rest in
    record { lines = head ++ own.lines; spells = (head, own.lines, refl, one, own.spells) }
own_lines e q (Word word ∷ acts) lines (head, back, split, one, fit, rest) =
    let own = own_lines e (requests_after (Word word) q) acts back rest in
    record { lines = own.lines; spells = own.spells }

-- deeds alone are acts, whatever was accepted
pub deeds_are_acts : (deeds : List Dated) (e : EntityData) (q : LaterRequestsData) (lines : List ℕ) → SpellsDeeds deeds lines → SpellsActs e q (map Deed deeds) lines
deeds_are_acts [] e q lines none = none
deeds_are_acts (dated ∷ deeds) e q lines (head, back, split, one, rest) =
    (head, back, split, one, refl, deeds_are_acts deeds (inner_after (Deed dated) e) q back rest)

pub deeds_of_deeds : (deeds : List Dated) → deeds_in (map Deed deeds) ≡ deeds
deeds_of_deeds [] = refl
deeds_of_deeds (dated ∷ deeds) = ap (λ (ds : List Dated). dated ∷ ds) (deeds_of_deeds deeds)

pub requests_of_deeds : (deeds : List Dated) (q : LaterRequestsData) → requests_of (map Deed deeds) q ≡ q
requests_of_deeds [] q = refl
requests_of_deeds (dated ∷ deeds) q = requests_of_deeds deeds q
