-- What is written down keeps the CSE.
use Rattle.std.proofs.Common.{◌≡◌, inl, inr, ℕ, ◌+◌, ◌<◌, ◌≤◌, nat_le, nat_lt, true, false, List, [], ◌∷◌, ◌++◌, map, Option, None, refl, sym, ◌∙◌, ap, subst, arith, append_assoc, true≢false, lt-ltb, le-leb}
use Rattle.std.proofs.lemmas.Bool.{and_from}
use Rattle.std.proofs.lemmas.List.{append-nil}
use Rattle.primitive_json.specs.declared.reply.ReplyParts.{ReplyParts}
use Rattle.resource_model.specs.Home.{HomeData}
use Rattle.entity_model.proofs.TellingLemmas.{swept_still}
use Rattle.entity_model.specs.Entity.{EntityData, cut, event_moment, last_reading, swept}
use Rattle.journal_events.specs.Kept.{ChangesTheMomentAlone}
use Rattle.journal_file.specs.Gates.{is_batch, is_shut}
use Rattle.journal_lines.proofs.LineLemmas.{deeds_spelled}
use Rattle.journal_lines.specs.Lines.{deed_at, lines_of}
use Rattle.journal_lines.specs.Spelled.{SpellsDeed, SpellsDeeds}
use Rattle.journal_lines.specs.declared.deed.Dated.{Dated}
use Rattle.journal_lines.specs.declared.deed.Deed.TheVariants.{Tick}
use Rattle.journal_opening.proofs.ReadingLemmas.{SameOpening, joined, open_front, same_front, same_opening}
use Rattle.journal_opening.specs.Journals.{Makes, made_of}
use Rattle.journaled_entity.proofs.KeepLemmas.{swept_made, tick_read, unchanged}
use Rattle.journaled_entity.specs.Keeping.{KeepsEntity}
use Rattle.kept_object.specs.Records.{IsBatchOrNone, IsKeptAtRest, Records}
use Rattle.accepted_requests.specs.Entries.{LaterEntryData, LaterRequestsData, does_wait, no_entries, still_standing, without}
use Rattle.later_replies.specs.Entries.{LaterData}
use Rattle.later_lines.proofs.SpelledLemmas.{words_spelled}
use Rattle.later_lines.specs.Keeping.{before_run}
use Rattle.later_lines.specs.Words.{IsReadBack, word_lines}
use Rattle.later_lines.specs.declared.word.Word.{Word as LaterWord}
use Rattle.later_lines.specs.declared.word.Word.TheVariants.{Accepted, Ran, Gone, Due}
use Rattle.later_opening.proofs.ActLemmas.{deeds_are_acts, deeds_of_deeds, inner_join, own_lines, requests_join, requests_of_deeds, spells_acts_append, spells_acts_join}
use Rattle.later_opening.proofs.NumberLemmas.{made_numbered, ran_among}
use Rattle.later_opening.specs.Acts.{deeds_in}
use Rattle.later_opening.specs.Journals.{IsLaterJournalOf, SpellsActs}
use Rattle.later_opening.specs.Making.{by_word, fits, later_of, made_of_acts, requests_of, with_entry, with_result}
use Rattle.later_opening.specs.Numbers.{AreNumbered}
use Rattle.later_opening.specs.Snapshots.{IsLaterSnapshot}
use Rattle.later_opening.specs.declared.act.Act.{Act}
use Rattle.later_opening.specs.declared.act.Act.TheVariants.{Deed, Word}
use Rattle.journaled_later.specs.Keeping.{IsAtEarlier, KeepsLater}
use Rattle.journaled_later.specs.Recorded.{AppendsAcceptance, RecordsLater, with_one}

-- ---- one after another

join_batch : (xs ys : List ℕ) → is_batch xs ≡ true → is_batch (xs ++ ys) ≡ true
join_batch [] ys batch = absurd (true≢false (sym batch))
join_batch (x ∷ []) ys batch = absurd (true≢false (sym batch))
join_batch (x ∷ y ∷ xs) ys batch = batch

batch_then : (xs ys : List ℕ) → IsBatchOrNone xs → IsBatchOrNone ys → IsBatchOrNone (xs ++ ys)
batch_then xs ys (inl none) then = subst (λ (l : List ℕ). IsBatchOrNone (l ++ ys)) (sym none) then
batch_then xs ys (inr batch) then = inr (join_batch xs ys batch)

module _ {X : Type 0} (keeps : X → List ℕ → Type 0) where
  pub records_none : (x : X) (lines : List ℕ) → Records keeps x lines x lines
  records_none x lines = record {
    more = [];
    appended = sym (append-nil lines);
    batch = inl refl;
    played = λ text kept. subst (keeps x) (sym (append-nil text)) kept;
  }

  pub records_then : (x y z : X) (lines mid now : List ℕ) → Records keeps x lines y mid → Records keeps y mid z now → Records keeps x lines z now
  records_then x y z lines mid now first then = record {
    more = first.more ++ then.more;
    appended = then.appended ∙ ap (λ (l : List ℕ). l ++ then.more) first.appended ∙ append_assoc lines first.more then.more;
    batch = batch_then first.more then.more first.batch then.batch;
    played = λ text kept. subst (keeps z) (append_assoc text first.more then.more) (then.played (text ++ first.more) (first.played text kept));
  }

-- ---- what the entity inside has written down

some_deed : {B : Type 0} (dated : Dated) (front back : List ℕ) → SpellsDeed dated front → [] ≡ front ++ back → B
some_deed dated front back spells is = absurd (true≢false (ap is_shut is ∙ open_front dated front back spells))

-- deeds that begin with others go on with deeds
pub record GoesOn (deeds others : List Dated) (more : List ℕ) : Type 0 where
  pub then : List Dated
  pub are : others ≡ deeds ++ then
  pub spells : SpellsDeeds then more

goes_on : (deeds others : List Dated) (lines all more : List ℕ) → SpellsDeeds deeds lines → SpellsDeeds others all → all ≡ lines ++ more → GoesOn deeds others more
goes_on [] others lines all more none spells is = record {
  then = others;
  are = refl;
  spells = subst (SpellsDeeds others) (is ∙ ap (λ (l : List ℕ). l ++ more) none) spells;
}
goes_on (d ∷ deeds) [] lines all more (front, back, split, one, left) none is =
    some_deed d front (back ++ more) one (sym none ∙ is ∙ joined lines front back more split)
goes_on (d ∷ deeds) (e ∷ others) lines all more (front, back, split, one, left) (front1, back1, split1, one1, left1) is =
    let same = same_front d e front front1 (back ++ more) back1 one one1 (sym (joined lines front back more split) ∙ sym is ∙ split1) in
    let on = goes_on deeds others back back1 more left left1 same.rests in
    record {
      then = on.then;
      are = ap (λ x. x ∷ others) same.deed ∙ ap (λ (l : List Dated). d ∷ l) on.are;
      spells = on.spells;
    }

deeds_both : (xs ys : List Act) → deeds_in (xs ++ ys) ≡ deeds_in xs ++ deeds_in ys
deeds_both [] ys = refl
deeds_both (Deed dated ∷ xs) ys = ap (λ (ds : List Dated). dated ∷ ds) (deeds_both xs ys)
deeds_both (Word word ∷ xs) ys = deeds_both xs ys

requests_both : (xs ys : List Act) (q : LaterRequestsData) → requests_of (xs ++ ys) q ≡ requests_of ys (requests_of xs q)
requests_both [] ys q = refl
requests_both (x ∷ xs) ys q = requests_both xs ys (requests_of (x ∷ []) q)

-- a text that keeps a CSE has the deeds of a text in it that keeps the entity inside
module _ (inner : EntityData) (q : LaterRequestsData) (text : List ℕ) (kept : KeepsLater (later_of inner q) text) where
  abbrev base : EntityData
  base = kept.makes.base

  abbrev acts : List Act
  acts = kept.makes.acts

  abbrev journal : IsLaterJournalOf inner.home kept.makes.base kept.makes.acts text
  journal = kept.makes.journal

  abbrev own : List ℕ
  own = (own_lines base no_entries acts journal.lines journal.spells).lines

  own_spells : SpellsDeeds (deeds_in acts) own
  own_spells = (own_lines base no_entries acts journal.lines journal.spells).spells

  made_inner : kept.made.inner ≡ made_of (deeds_in acts) base
  made_inner = ap (λ (d : LaterData). d.inner) kept.makes.made

  made_requests : requests_of acts no_entries ≡ q
  made_requests = sym (ap (λ (d : LaterData). d.requests) kept.makes.made) ∙ kept.same.requests

  keeps_own : KeepsEntity inner (journal.front ++ own)
  keeps_own = record {
    made = made_of (deeds_in acts) base;
    makes = record {
      base = base;
      deeds = deeds_in acts;
      journal = record { front = journal.front; lines = own; split = refl; opens = journal.opens; spells = own_spells };
      made = refl;
    };
    same = subst (λ (e : EntityData). ChangesTheMomentAlone e inner) made_inner kept.same.inner;
  }

  -- and goes on with those that the entity inside has written down
  module _ (after : EntityData) (more : List ℕ) (home : after.home ≡ inner.home) (then : KeepsEntity after ((journal.front ++ own) ++ more)) where
    abbrev makes_then : Makes inner.home ((journal.front ++ own) ++ more) then.made
    makes_then = subst (λ (h : HomeData). Makes h ((journal.front ++ own) ++ more) then.made) home then.makes

    whole : journal.front ++ (own ++ more) ≡ makes_then.journal.front ++ makes_then.journal.lines
    whole = sym (append_assoc journal.front own more) ∙ makes_then.journal.split

    same : SameOpening base makes_then.base journal.front makes_then.journal.front (own ++ more) makes_then.journal.lines
    same = same_opening inner.home base makes_then.base journal.front makes_then.journal.front (own ++ more) makes_then.journal.lines journal.opens makes_then.journal.opens whole

    abbrev on : GoesOn (deeds_in acts) makes_then.deeds more
    on = goes_on (deeds_in acts) makes_then.deeds own makes_then.journal.lines more own_spells makes_then.journal.spells same.rests

    abbrev now : List Act
    now = acts ++ map Deed on.then

    now_deeds : deeds_in now ≡ makes_then.deeds
    now_deeds = deeds_both acts (map Deed on.then) ∙ ap (λ (ds : List Dated). deeds_in acts ++ ds) (deeds_of_deeds on.then) ∙ sym on.are

    now_inner : made_of (deeds_in now) base ≡ then.made
    now_inner = ap (λ (ds : List Dated). made_of ds base) now_deeds ∙ ap (made_of makes_then.deeds) (sym same.bases) ∙ sym makes_then.made

    now_requests : requests_of now no_entries ≡ q
    now_requests = requests_both acts (map Deed on.then) no_entries ∙ requests_of_deeds on.then (requests_of acts no_entries) ∙ made_requests

    journal_now : IsLaterJournalOf inner.home base now (text ++ more)
    journal_now = record {
      front = journal.front;
      lines = journal.lines ++ more;
      split = ap (λ (l : List ℕ). l ++ more) journal.split ∙ append_assoc journal.front journal.lines more;
      opens = journal.opens;
      spells = spells_acts_append base no_entries acts (map Deed on.then) journal.lines more journal.spells
          (deeds_are_acts on.then (made_of (deeds_in acts) base) (requests_of acts no_entries) more on.spells);
    }

    keeps_then : KeepsLater (later_of after q) (text ++ more)
    keeps_then = record {
      made = made_of_acts now base;
      makes = record {
        base = base;
        acts = now;
        journal = subst (λ (h : HomeData). IsLaterJournalOf h base now (text ++ more)) (sym home) journal_now;
        made = refl;
      };
      same = record {
        inner = subst (λ (e : EntityData). ChangesTheMomentAlone e after) (sym now_inner) then.same;
        requests = now_requests;
      };
    }

-- a step of the entity inside
pub inner_recorded : (before after : EntityData) (q : LaterRequestsData) (lines now : List ℕ) → after.home ≡ before.home → Records KeepsEntity before lines after now
    → RecordsLater before q lines after q now
inner_recorded before after q lines now home inside = record {
  more = inside.more;
  appended = inside.appended;
  batch = inside.batch;
  played = λ text kept.
      keeps_then before q text kept after inside.more home
      (inside.played (kept.makes.journal.front ++ own before q text kept) (keeps_own before q text kept));
}

-- ---- words

-- a word that fits what is made, and does this to the accepted requests
pub word_recorded : (inner : EntityData) (q r : LaterRequestsData) (word : LaterWord) (lines now : List ℕ) → IsReadBack word → now ≡ lines ++ word_lines word
    → ((made : LaterData) → IsAtEarlier made (later_of inner q) → AreNumbered q → fits word made.inner.last q ≡ true)
    → (AreNumbered q → by_word word q ≡ r)
    → RecordsLater inner q lines inner r now
word_recorded inner q r word lines now back is fit does = record {
  more = word_lines word;
  appended = is;
  batch = inr refl;
  played = λ text kept.
      let m = kept.makes in
      let numbered : AreNumbered q = subst AreNumbered kept.same.requests (made_numbered inner.home text kept.made m).0 in
      let there : requests_of m.acts no_entries ≡ q = made_requests inner q text kept in
      let inside : kept.made.inner ≡ made_of (deeds_in m.acts) m.base = made_inner inner q text kept in
      let fits_there : fits word (made_of (deeds_in m.acts) m.base).last (requests_of m.acts no_entries) ≡ true =
      ap (λ (e : EntityData). fits word e.last (requests_of m.acts no_entries)) (sym inside) ∙ ap (fits word kept.made.inner.last) there ∙ fit kept.made kept.same numbered in
      record {
        made = made_of_acts (m.acts ++ Word word ∷ []) m.base;
        makes = record {
          base = m.base;
          acts = m.acts ++ Word word ∷ [];
          journal = record {
            front = m.journal.front;
            lines = m.journal.lines ++ word_lines word;
            split = ap (λ (l : List ℕ). l ++ word_lines word) m.journal.split ∙ append_assoc m.journal.front m.journal.lines (word_lines word);
            opens = m.journal.opens;
            spells = spells_acts_join m.base no_entries m.acts (Word word) m.journal.lines (word_lines word) m.journal.spells (words_spelled word back) fits_there;
          };
          made = refl;
        };
        same = record {
          inner = subst (λ (e : EntityData). ChangesTheMomentAlone e inner) (inside ∙ sym (inner_join m.acts (Word word) m.base)) kept.same.inner;
          requests = requests_join m.acts (Word word) no_entries ∙ ap (by_word word) there ∙ does numbered;
        };
      };
}

-- the result of a run
pub ran_recorded : (inner : EntityData) (front : List LaterEntryData) (e : LaterEntryData) (back : List LaterEntryData) (given : ℕ) (reply : ReplyParts) (lines now : List ℕ)
    → does_wait e ≡ true → IsReadBack (Ran e.number reply) → now ≡ lines ++ word_lines (Ran e.number reply)
    → RecordsLater inner (with_one front e back given) lines inner (with_one front (with_result reply e) back given) now
ran_recorded inner front e back given reply lines now waits readable is =
    word_recorded inner (with_one front e back given) (with_one front (with_result reply e) back given) (Ran e.number reply) lines now readable is
    (λ made same numbered. refl)
    (λ numbered. ap (λ (l : List LaterEntryData). record { entries = l; given = given }) (ran_among reply front e back given numbered waits))

-- those that were due went
pub due_recorded : (inner : EntityData) (q : LaterRequestsData) (moment : ℕ) (lines now : List ℕ) → IsReadBack (Due moment) → now ≡ lines ++ word_lines (Due moment)
    → RecordsLater inner q lines inner (still_standing moment q) now
due_recorded inner q moment lines now readable is =
    word_recorded inner q (still_standing moment q) (Due moment) lines now readable is (λ made same numbered. refl) (λ numbered. refl)

-- one was deleted
pub gone_recorded : (inner : EntityData) (q : LaterRequestsData) (n : ℕ) (lines now : List ℕ) → IsReadBack (Gone n) → now ≡ lines ++ word_lines (Gone n)
    → RecordsLater inner q lines inner (without n q) now
gone_recorded inner q n lines now readable is =
    word_recorded inner q (without n q) (Gone n) lines now readable is (λ made same numbered. refl) (λ numbered. refl)

-- ---- an acceptance

last_there : (last : ℕ) → last ≤ last_reading → event_moment last 0 ≡ last
last_there last within = omega (arith, within)

module _ (inner : EntityData) (q : LaterRequestsData) (e : LaterEntryData) (lines now : List ℕ) (appends : AppendsAcceptance inner e lines now) (above : q.given < e.number) (waits : e.reply ≡ None) where
  abbrev at : ℕ
  at = event_moment inner.last 0

  at_is : at ≡ inner.last
  at_is = last_there inner.last appends.sound.last

  fresh : before_run e ≡ e
  fresh = sym (ap (λ (r : Option ReplyParts). record e { reply = r }) waits)

  abbrev tick : List ℕ
  tick = lines_of at Tick

  abbrev own_lines_of : List ℕ
  own_lines_of = word_lines (Accepted (before_run e))

  -- the expiry at the moment of the entity takes nothing
  swept_none : swept at inner ≡ inner
  swept_none = swept_still at inner appends.sound (let early : cut at ≤ inner.last = omega (arith, at_is) in early)

  played : (text : List ℕ) → KeepsLater (later_of inner q) text → KeepsLater (later_of inner (with_entry e q)) (text ++ (tick ++ own_lines_of))
  played text kept =
      let m = kept.makes in
      let there : requests_of m.acts no_entries ≡ q = made_requests inner q text kept in
      let inside : kept.made.inner ≡ made_of (deeds_in m.acts) m.base = made_inner inner q text kept in
      let ticked : Act = Deed (deed_at at Tick) in
      let acts1 = m.acts ++ ticked ∷ [] in
      let acts2 = acts1 ++ Word (Accepted (before_run e)) ∷ [] in
      let spells1 : SpellsActs m.base no_entries acts1 (m.journal.lines ++ tick) =
      spells_acts_join m.base no_entries m.acts ticked m.journal.lines tick m.journal.spells (deeds_spelled at Tick appends.small tick_read) refl in
      let swept_there : made_of (deeds_in acts1) m.base ≡ swept at kept.made.inner = inner_join m.acts ticked m.base ∙ ap (swept at) (sym inside) in
      let is_inner : swept at kept.made.inner ≡ inner =
      swept_made 0 at kept.made.inner inner appends.sound.last refl kept.same.inner ∙ swept_none in
      let alike1 : made_of (deeds_in acts1) m.base ≡ inner = swept_there ∙ is_inner in
      let requests1 : requests_of acts1 no_entries ≡ q = requests_join m.acts ticked no_entries ∙ there in
      let fit : fits (Accepted (before_run e)) (made_of (deeds_in acts1) m.base).last (requests_of acts1 no_entries) ≡ true =
      ap (λ (d : EntityData). fits (Accepted (before_run e)) d.last (requests_of acts1 no_entries)) alike1
      ∙ ap (fits (Accepted (before_run e)) inner.last) requests1
      ∙ and_from (nat_lt q.given e.number) (nat_le e.accepted inner.last) (lt-ltb q.given e.number above)
      (le-leb e.accepted inner.last (let le : e.accepted ≤ at = appends.accepted.earlier in omega (arith, le, at_is))) in
      record {
        made = made_of_acts acts2 m.base;
        makes = record {
          base = m.base;
          acts = acts2;
          journal = record {
            front = m.journal.front;
            lines = (m.journal.lines ++ tick) ++ own_lines_of;
            split =
                ap (λ (l : List ℕ). l ++ (tick ++ own_lines_of)) m.journal.split
                ∙ append_assoc m.journal.front m.journal.lines (tick ++ own_lines_of)
                ∙ ap (λ (l : List ℕ). m.journal.front ++ l) (sym (append_assoc m.journal.lines tick own_lines_of));
            opens = m.journal.opens;
            spells = spells_acts_join m.base no_entries acts1 (Word (Accepted (before_run e))) (m.journal.lines ++ tick) own_lines_of spells1
                (words_spelled (Accepted (before_run e)) appends.accepted.reads_back) fit;
          };
          made = refl;
        };
        same = record {
          inner = subst (λ (x : EntityData). ChangesTheMomentAlone x inner) (sym (inner_join acts1 (Word (Accepted (before_run e))) m.base ∙ alike1)) (unchanged inner);
          requests = requests_join acts1 (Word (Accepted (before_run e))) no_entries ∙ ap (by_word (Accepted (before_run e))) requests1 ∙ ap (λ (x : LaterEntryData). with_entry x q) fresh;
        };
      }

  pub accepted_recorded : RecordsLater inner q lines inner (with_entry e q) now
  accepted_recorded = record {
    more = tick ++ own_lines_of;
    appended = appends.accepted.appended ∙ append_assoc lines tick own_lines_of;
    batch = inr refl;
    played = played;
  }

-- ---- a snapshot

pub snapshot_keeps : (d : LaterData) (bytes : List ℕ) → IsLaterSnapshot d bytes → IsKeptAtRest KeepsLater d bytes
snapshot_keeps d bytes is = record {
  text = is.text;
  rest = is.rest;
  keeps_it = record { made = d; makes = is.makes; same = record { inner = unchanged d.inner; requests = refl } };
}
