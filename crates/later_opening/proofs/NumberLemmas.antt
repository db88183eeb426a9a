-- Numbers of accepted requests rise, and none was accepted later than the entity's moment.
use Rattle.std.proofs.Common.{◌≡◌, ℕ, ◌+◌, ◌<◌, ◌≤◌, ◌==◌, Bool, true, false, List, [], ◌∷◌, ◌++◌, filter, inl, inr, refl, sym, ap, subst, arith}
use Rattle.std.proofs.lemmas.Bool.{and_parts, cases_Bool, eq-eqb, eqb-true, leb-true, ltb-true}
use Rattle.std.specs.List.{AllByRecursion}
use Rattle.primitive_json.specs.declared.reply.ReplyParts.{ReplyParts}
use Rattle.primitive_json.specs.declared.request.RequestParts.{RequestParts}
use Rattle.resource_model.specs.Home.{HomeData}
use Rattle.entity_model.specs.Entity.{EntityData, event_moment, swept}
use Rattle.cse_machine.specs.Answer.{effect_of}
use Rattle.cse_machine.proofs.KeptLemmas.{IsKept}
use Rattle.cse_machine.proofs.CameLemmas.{Came, kept, left_by, replied, went_on}
use Rattle.accepted_requests.specs.Entries.{LaterEntryData, LaterRequestsData, does_wait, no_entries}
use Rattle.journal_lines.specs.declared.deed.Dated.{Dated}
use Rattle.journal_lines.specs.declared.deed.Deed.{Deed as PlainDeed}
use Rattle.journal_lines.specs.declared.deed.Deed.TheVariants as deeds
use Rattle.journal_opening.specs.Journals.{done_at, made_by, made_of}
use Rattle.later_replies.specs.Entries.{LaterData}
use Rattle.later_opening.proofs.ActLemmas.{inner_first}
use Rattle.later_lines.specs.declared.word.Word.{Word as LaterWord}
use Rattle.later_lines.specs.declared.word.Word.TheVariants.{Accepted, Ran, Gone, Due, Given}
use Rattle.later_opening.specs.Acts.{deeds_in}
use Rattle.later_opening.specs.Journals.{MakesLater, SpellsActs}
use Rattle.later_opening.specs.Making.{act_fits, by_word, fits, inner_after, ran_in, requests_after, requests_of, waits_as, with_result}
use Rattle.later_opening.specs.Numbers.{AreNumbered, RiseTo, WereAcceptedBy}
use Rattle.later_opening.specs.declared.act.Act.{Act}
use Rattle.later_opening.specs.declared.act.Act.TheVariants.{Deed, Word}

-- ---- numbers

rise_from : (past lo given : ℕ) (es : List LaterEntryData) → past ≤ lo → RiseTo lo given es → RiseTo past given es
rise_from past lo given [] le rise = let up : lo ≤ given = rise in omega (arith, le, up)
rise_from past lo given (e ∷ es) le rise = let up : lo < e.number = rise.0 in (omega (arith, le, up), rise.1)

rise_given : (past given more : ℕ) (es : List LaterEntryData) → given ≤ more → RiseTo past given es → RiseTo past more es
rise_given past given more [] le rise = let up : past ≤ given = rise in omega (arith, le, up)
rise_given past given more (e ∷ es) le rise = (rise.0, rise_given e.number given more es le rise.1)

pub rise_filter : (p : LaterEntryData → Bool) (past given : ℕ) (es : List LaterEntryData) → RiseTo past given es → RiseTo past given (filter p es)
rise_filter p past given [] rise = rise
rise_filter p past given (e ∷ es) rise = elim (cases_Bool (p e)) [
  | inl t ↦ rw t (rise.0, rise_filter p e.number given es rise.1)
  | inr f ↦ rw f (
      let up : past < e.number = rise.0 in
      rise_from past e.number given (filter p es) (omega (arith, up)) (rise_filter p e.number given es rise.1))
]

pub rise_more : (past given : ℕ) (es : List LaterEntryData) (e : LaterEntryData) → given < e.number → RiseTo past given es → RiseTo past e.number (es ++ e ∷ [])
rise_more past given [] e up rise = (let le : past ≤ given = rise in omega (arith, up, le), omega arith)
rise_more past given (x ∷ es) e up rise = (rise.0, rise_more x.number given es e up rise.1)

rise_ran : (n : ℕ) (reply : ReplyParts) (past given : ℕ) (es : List LaterEntryData) → RiseTo past given es → RiseTo past given (ran_in n reply es)
rise_ran n reply past given [] rise = rise
rise_ran n reply past given (e ∷ es) rise = elim (cases_Bool (waits_as n e)) [
  | inl t ↦ rw t rise
  | inr f ↦ rw f (rise.0, rise_ran n reply e.number given es rise.1)
]

word_rises : (word : LaterWord) (last : ℕ) (q : LaterRequestsData) → fits word last q ≡ true → AreNumbered q → AreNumbered (by_word word q)
word_rises (Accepted e) last q fit rise = rise_more 0 q.given q.entries e (ltb-true q.given e.number (and_parts _ _ fit).0) rise
word_rises (Ran n reply) last q fit rise = rise_ran n reply 0 q.given q.entries rise
word_rises (Gone n) last q fit rise = rise_filter _ 0 q.given q.entries rise
word_rises (Due at) last q fit rise = rise_filter _ 0 q.given q.entries rise
word_rises (Given n) last q fit rise = rise_given 0 q.given n q.entries (leb-true q.given n fit) rise

act_rises : (act : Act) (last : ℕ) (q : LaterRequestsData) → act_fits act last q ≡ true → AreNumbered q → AreNumbered (requests_after act q)
act_rises (Deed dated) last q fit rise = rise
act_rises (Word word) last q fit rise = word_rises word last q fit rise

pub acts_rise : (e : EntityData) (q : LaterRequestsData) (acts : List Act) (lines : List ℕ) → SpellsActs e q acts lines → AreNumbered q → AreNumbered (requests_of acts q)
acts_rise e q [] lines none rise = rise
acts_rise e q (act ∷ acts) lines (head, back, split, one, fit, rest) rise =
    acts_rise (inner_after act e) (requests_after act q) acts back rest (act_rises act e.last q fit rise)

-- ---- moments

abbrev Earlier : ℕ → LaterEntryData → Type 0
Earlier moment e = e.accepted ≤ moment

by_then : (moment later : ℕ) (es : List LaterEntryData) → moment ≤ later → AllByRecursion (Earlier moment) es → AllByRecursion (Earlier later) es
by_then moment later [] le all = tt
by_then moment later (e ∷ es) le all = (let up : e.accepted ≤ moment = all.0 in omega (arith, le, up), by_then moment later es le all.1)

by_filter : (p : LaterEntryData → Bool) (moment : ℕ) (es : List LaterEntryData) → AllByRecursion (Earlier moment) es → AllByRecursion (Earlier moment) (filter p es)
by_filter p moment [] all = tt
by_filter p moment (e ∷ es) all = elim (cases_Bool (p e)) [
  | inl t ↦ rw t (all.0, by_filter p moment es all.1)
  | inr f ↦ rw f (by_filter p moment es all.1)
]

by_ran : (n : ℕ) (reply : ReplyParts) (moment : ℕ) (es : List LaterEntryData) → AllByRecursion (Earlier moment) es → AllByRecursion (Earlier moment) (ran_in n reply es)
by_ran n reply moment [] all = tt
by_ran n reply moment (e ∷ es) all = elim (cases_Bool (waits_as n e)) [
  | inl t ↦ rw t all
  | inr f ↦ rw f (all.0, by_ran n reply moment es all.1)
]

by_more : (moment : ℕ) (es : List LaterEntryData) (e : LaterEntryData) → e.accepted ≤ moment → AllByRecursion (Earlier moment) es → AllByRecursion (Earlier moment) (es ++ e ∷ [])
by_more moment [] e le all = (le, tt)
by_more moment (x ∷ es) e le all = (all.0, by_more moment es e le all.1)

word_by : (word : LaterWord) (last : ℕ) (q : LaterRequestsData) → fits word last q ≡ true → WereAcceptedBy last q → WereAcceptedBy last (by_word word q)
word_by (Accepted e) last q fit all = by_more last q.entries e (leb-true e.accepted last (and_parts _ _ fit).1) all
word_by (Ran n reply) last q fit all = by_ran n reply last q.entries all
word_by (Gone n) last q fit all = by_filter _ last q.entries all
word_by (Due at) last q fit all = by_filter _ last q.entries all
word_by (Given n) last q fit all = all

-- what a request leaves has the moment of its event
kept_last : (e : EntityData) (request : RequestParts) → Came e request (IsKept e) → Came e request (λ x. x.after.last ≡ e.last)
kept_last e request (replied effect is holds) = replied effect is holds.last
kept_last e request (went_on way) = went_on way

asked_last : (e : EntityData) (request : RequestParts) → (effect_of e request).after.last ≡ e.last
asked_last e request = left_by e request (λ x. x.last ≡ e.last) refl (kept_last e request (kept e request))

deed_last : (moment : ℕ) (deed : PlainDeed) (e : EntityData) → (done_at moment deed e).last ≡ event_moment e.last moment
deed_last moment (deeds.Ask request) e = asked_last (swept moment e) request
deed_last moment deeds.Take e = refl
deed_last moment deeds.Tick e = refl

pub made_later : (dated : Dated) (e : EntityData) → e.last ≤ (made_by dated e).last
made_later dated e = omega (arith, deed_last dated.moment dated.deed e)

act_by : (act : Act) (e : EntityData) (q : LaterRequestsData) → act_fits act e.last q ≡ true → WereAcceptedBy e.last q → WereAcceptedBy (inner_after act e).last (requests_after act q)
act_by (Deed dated) e q fit all = by_then e.last (made_by dated e).last q.entries (made_later dated e) all
act_by (Word word) e q fit all = word_by word e.last q fit all

pub acts_by : (e : EntityData) (q : LaterRequestsData) (acts : List Act) (lines : List ℕ) → SpellsActs e q acts lines → WereAcceptedBy e.last q
    → WereAcceptedBy (made_of (deeds_in acts) e).last (requests_of acts q)
acts_by e q [] lines none all = all
acts_by e q (act ∷ acts) lines (head, back, split, one, fit, rest) all =
    subst (λ (d : EntityData). WereAcceptedBy d.last (requests_of acts (requests_after act q))) (sym (inner_first act acts e))
    (acts_by (inner_after act e) (requests_after act q) acts back rest (act_by act e q fit all))

-- ---- what a journal makes

pub made_numbered : (home : HomeData) (text : List ℕ) (d : LaterData) → MakesLater home text d → AreNumbered d.requests × WereAcceptedBy d.inner.last d.requests
made_numbered home text d makes =
    let j = makes.journal in
    let none : AreNumbered no_entries = omega arith in
    let P : LaterData → Type 0 = λ (x : LaterData). AreNumbered x.requests × WereAcceptedBy x.inner.last x.requests in
    subst P (sym makes.made)
    (acts_rise makes.base no_entries makes.acts j.lines j.spells none, acts_by makes.base no_entries makes.acts j.lines j.spells tt)

-- ---- a result among others

ran_first : (n : ℕ) (reply : ReplyParts) (e : LaterEntryData) (back : List LaterEntryData) → e.number ≡ n → does_wait e ≡ true
    → ran_in n reply (e ∷ back) ≡ with_result reply e ∷ back
ran_first n reply e back is waits = rw (eq-eqb e.number n is, waits) refl

-- numbers above don't wait under this one
not_waiting : (n : ℕ) (e : LaterEntryData) → e.number < n → waits_as n e ≡ false
not_waiting n e below = elim (cases_Bool (e.number == n)) [
  | inl t ↦ (let same : e.number ≡ n = eqb-true e.number n t in absurd (omega (arith, same, below)))
  | inr f ↦ rw f refl
]

below_all : (past given : ℕ) (front : List LaterEntryData) (e : LaterEntryData) (back : List LaterEntryData) → RiseTo past given (front ++ e ∷ back) → AllByRecursion (λ (x : LaterEntryData). x.number < e.number) front
below_all past given [] e back rise = tt
below_all past given (x ∷ front) e back rise = (first_below x.number given front e back rise.1, below_all x.number given front e back rise.1)
  where
    first_below : (past1 given1 : ℕ) (front1 : List LaterEntryData) (e1 : LaterEntryData) (back1 : List LaterEntryData) → RiseTo past1 given1 (front1 ++ e1 ∷ back1) → past1 < e1.number
    first_below past1 given1 [] e1 back1 rise1 = rise1.0
    first_below past1 given1 (y ∷ front1) e1 back1 rise1 =
        let up : past1 < y.number = rise1.0 in
        let more : y.number < e1.number = first_below y.number given1 front1 e1 back1 rise1.1 in
        omega (arith, up, more)

ran_behind : (reply : ReplyParts) (front : List LaterEntryData) (e : LaterEntryData) (back : List LaterEntryData) → AllByRecursion (λ (x : LaterEntryData). x.number < e.number) front → does_wait e ≡ true
    → ran_in e.number reply (front ++ e ∷ back) ≡ front ++ with_result reply e ∷ back
ran_behind reply [] e back below waits = ran_first e.number reply e back refl waits
ran_behind reply (x ∷ front) e back below waits =
    rw (not_waiting e.number x below.0) (ap (λ (l : List LaterEntryData). x ∷ l) (ran_behind reply front e back below.1 waits))

-- where numbers rise, the one that waits under its number gets the result
pub ran_among : (reply : ReplyParts) (front : List LaterEntryData) (e : LaterEntryData) (back : List LaterEntryData) (given : ℕ) → RiseTo 0 given (front ++ e ∷ back) → does_wait e ≡ true
    → ran_in e.number reply (front ++ e ∷ back) ≡ front ++ with_result reply e ∷ back
ran_among reply front e back given rise waits = ran_behind reply front e back (below_all 0 given front e back rise) waits
