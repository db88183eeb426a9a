-- What becomes of the accepted requests as a request is answered.
use Rattle.std.proofs.Common.{◌≡◌, ◌⊎◌, inl, inr, ℕ, ◌+◌, ◌<◌, ◌≤◌, ◌==◌, Bool, true, not, List, [], ◌∷◌, ◌++◌, length, take, get_or, filter, find, Option, Some, None, refl, sym, ◌∙◌, ap, subst, arith, length-append}
use Rattle.std.specs.Prelude.{is_ok, option_and_then}
use Rattle.std.proofs.lemmas.Bool.{cases_Bool, eqb-true, or_right}
use Rattle.std.proofs.lemmas.List.{take_at}
use Rattle.m2m_names.specs.declared.codes.Rsc.TheVariants.{NonBlocking, NotFound}
use Rattle.primitive_json.specs.declared.request.RequestParts.{RequestParts}
use Rattle.resource_model.specs.Home.{HomeData}
use Rattle.addressing.specs.Addresses.{address_of}
use Rattle.addressing.specs.Short.{short_of}
use Rattle.group_fanout.specs.Rights.{asking, claimed_originator}
use Rattle.cse_machine.specs.declared.event.Event.TheVariants.{Ask, Take, Tick as Expire}
use Rattle.cse_machine.specs.declared.event.Outcome.{Outcome}
use Rattle.cse_machine.specs.declared.event.Outcome.TheVariants.{Starved}
use Rattle.entity_model.specs.Entity.{EntityData, event_moment}
use Rattle.entity_model.specs.Sound.{IsSoundEntity}
use Rattle.accepted_requests.specs.Asked.{IsAskedAs}
use Rattle.accepted_requests.specs.Names.{number_in}
use Rattle.accepted_requests.specs.declared.asked.Asked.{Asked}
use Rattle.journal_lines.specs.Lines.{lines_of, moment_bound}
use Rattle.journal_lines.specs.declared.deed.Deed.TheVariants.{Tick}
use Rattle.journal_events.specs.Steps.{KeptEntityStep}
use Rattle.journal_events.specs.declared.event.KeptEvent.{KeptEvent}
use Rattle.journal_events.specs.declared.event.KeptEvent.TheVariants as events
use Rattle.journal_events.specs.declared.event.KeptOutcome.{KeptOutcome}
use Rattle.journal_events.specs.declared.event.KeptOutcome.TheVariants as outcomes
use Rattle.journaled_entity.proofs.KeepLemmas.{passed_over}
use Rattle.journaled_entity.proofs.SendingLemmas.{only_expires}
use Rattle.journaled_entity.specs.Keeping.{KeepsEntity}
use Rattle.kept_object.specs.Records.{Records}
use Rattle.later_replies.proofs.HeardLemmas.{heard_asked}
use Rattle.later_replies.specs.Effects.{LaterEffect, is_status}
use Rattle.later_replies.specs.Entries.{LaterEntryData, LaterRequestsData, accepted_entry, numbered, without}
use Rattle.later_replies.specs.Step.{IsAnsweredBy, asked_effect, is_heard_outcome}
use Rattle.later_opening.specs.Making.{later_of}
use Rattle.std.proofs.Math.Seq.{get_or-append_seam}
use Rattle.journaled_later.proofs.RecordLemmas.{accepted_recorded, gone_recorded, inner_recorded, records_none, records_then}
use Rattle.journaled_later.proofs.RunLemmas.{of_step}
use Rattle.journaled_later.specs.Keeping.{KeepsLater}
use Rattle.journaled_later.specs.Recorded.{AppendsAcceptance, AppendsAccepted, AppendsGone, HasOneMore, IsWrittenOrBack, RecordsLater, SaysAsked}
use Rattle.journaled_later.specs.Steps.{IsTakenKept, request_of}
use Rattle.later_replies.proofs.AnswerLemmas.{comes_holds, comes_to}
use Rattle.later_replies.specs.Answered.{IsOwnAsked}

-- ---- finding

some_same : {A : Type 0} (x y : A) → Some x ≡ Some y → x ≡ y
some_same x y e = cc

none_some : {A B : Type 0} (x : A) → None ≡ Some x → B
none_some x e = absurd cc

same_request : (r s : RequestParts) → Ask r ≡ Ask s → r ≡ s
same_request r s is = cc

found_passes : (n : ℕ) (es : List LaterEntryData) (x : LaterEntryData) → find (λ (e : LaterEntryData). e.number == n) es ≡ Some x → x.number ≡ n
found_passes n [] x found = none_some x found
found_passes n (e ∷ es) x found = elim (cases_Bool (e.number == n)) [
  | inl t ↦ (
      let is : e ≡ x = some_same e x (rw t at found) in
      sym (ap (λ (y : LaterEntryData). y.number) is) ∙ eqb-true e.number n t)
  | inr f ↦ found_passes n es x (rw f at found)
]

-- the accepted request that an address names has the number that it names
names_number : (q : LaterRequestsData) (x : LaterEntryData) (named : Option ℕ) → option_and_then (λ n. numbered n q) named ≡ Some x → named ≡ Some x.number
names_number q x None found = none_some x found
names_number q x (Some n) found = ap Some (sym (found_passes n q.entries x found))

-- ---- what becomes of them

-- the accepted request that the request names went
pub record HasOneLess (home : HomeData) (request : RequestParts) (told : Outcome) (standing after : LaterRequestsData) : Type 0 where
  pub number : ℕ
  pub after_is : after ≡ without number standing
  pub named : number_in (address_of home request.to) ≡ Some number
  pub heard : is_heard_outcome told ≡ true

abbrev pub Changes : HomeData → RequestParts → Outcome → LaterRequestsData → LaterRequestsData → Type 0
Changes home request told standing after = (after ≡ standing) ⊎ (HasOneMore standing after ⊎ HasOneLess home request told standing after)

one_less : (home : HomeData) (request : RequestParts) (told outcome : Outcome) (standing after : LaterRequestsData) → (own : IsOwnAsked home standing (Ask request) told outcome after)
    → HasOneLess home request told standing (without own.at.named.number standing)
one_less home request told outcome standing after own =
    let asked : own.at.request ≡ request = sym (same_request request own.at.request own.at.asks) in
    record {
      number = own.at.named.number;
      after_is = refl;
      named = ap (λ (r : RequestParts). number_in (address_of home r.to)) (sym asked)
          ∙ names_number standing own.at.named (number_in (address_of home own.at.request.to)) own.at.names;
      heard = ap is_heard_outcome own.at.refused ∙ or_right (is_status own.at.reply.rsc NonBlocking) (is_status own.at.reply.rsc NotFound) own.at.status;
    }

pub changes : (home : HomeData) (standing after : LaterRequestsData) (moment : ℕ) (request : RequestParts) (told outcome : Outcome) → IsAnsweredBy (asked_effect home standing moment request told) standing told outcome after
    → Changes home request told standing after
changes home standing after moment request told outcome answered =
    comes_holds (Changes home request told standing) home standing moment (Ask request) told outcome after
    (inl refl)
    (λ up. inr (inl (record {
      entry = accepted_entry (standing.given + 1) (claimed_originator home up.asked.request) up.asked.request moment;
      after_is = refl;
      above = omega arith;
      waits = refl;
    })))
    (λ own deletes. inr (inr (one_less home request told outcome standing after own)))
    (comes_to home standing moment (Ask request) told outcome after answered)

-- where something changed, memory may have run out instead
pub starved_instead : (effect : Option LaterEffect) (standing after : LaterRequestsData) (told outcome : Outcome) → (after ≡ standing → ⊥) → IsAnsweredBy effect standing told outcome after
    → IsAnsweredBy effect standing told (Starved 0) standing
starved_instead None standing after told outcome other answered = absurd (other answered.1)
starved_instead (Some effect) standing after told outcome other answered = inr (refl, refl)

-- ---- how many there are

pub more_than : (standing after : LaterRequestsData) → (more : HasOneMore standing after) → length after.entries ≡ length standing.entries + 1
more_than standing after more = ap (λ (q : LaterRequestsData). length q.entries) more.after_is ∙ length-append standing.entries (more.entry ∷ [])

filter_few : (p : LaterEntryData → Bool) (es : List LaterEntryData) → length (filter p es) ≤ length es
filter_few p [] = omega arith
filter_few p (e ∷ es) = elim (cases_Bool (p e)) [
  | inl t ↦ rw t (omega (arith, filter_few p es))
  | inr f ↦ rw f (omega (arith, filter_few p es))
]

all_kept : (p : LaterEntryData → Bool) (es : List LaterEntryData) → length es ≤ length (filter p es) → filter p es ≡ es
all_kept p [] many = refl
all_kept p (e ∷ es) many = elim (cases_Bool (p e)) [
  | inl t ↦ (let rest : length (e ∷ es) ≤ length (e ∷ filter p es) = rw t at many in rw t (ap (λ (l : List LaterEntryData). e ∷ l) (all_kept p es (omega (arith, rest)))))
  | inr f ↦ (let rest : length (e ∷ es) ≤ length (filter p es) = rw f at many in absurd (omega (arith, rest, filter_few p es)))
]

pub less_than : (n : ℕ) (q : LaterRequestsData) → length (without n q).entries ≤ length q.entries
less_than n q = filter_few (λ (e : LaterEntryData). not (e.number == n)) q.entries

-- none went where there are as many
pub none_less : (n : ℕ) (q : LaterRequestsData) → length q.entries ≤ length (without n q).entries → without n q ≡ q
none_less n q many = ap (λ (l : List LaterEntryData). record q { entries = l }) (all_kept (λ (e : LaterEntryData). not (e.number == n)) q.entries many)

-- the last one is taken back
pub taken_back : (standing after back : LaterRequestsData) → (more : HasOneMore standing after) → back.entries ≡ take (length standing.entries) after.entries → back.given ≡ standing.given → back ≡ standing
taken_back standing after back more entries given =
    let front : back.entries ≡ standing.entries =
    entries ∙ ap (λ (q : LaterRequestsData). take (length standing.entries) q.entries) more.after_is ∙ take_at standing.entries (more.entry ∷ []) (length standing.entries) refl in
    let E : List LaterEntryData → ℕ → LaterRequestsData = λ es n. record { entries = es; given = n } in
    ap (λ (l : List LaterEntryData). E l back.given) front ∙ ap (E standing.entries) given

-- ---- what is written down of it

-- the last one is the one that was accepted
pub last_there : (standing after : LaterRequestsData) (more : HasOneMore standing after) (place : ℕ) (any : LaterEntryData) → place ≡ length standing.entries
    → get_or after.entries place any ≡ more.entry
last_there standing after more place any is =
    ap (λ (q : LaterRequestsData). get_or q.entries place any) more.after_is
    ∙ ap (λ (n : ℕ). get_or (standing.entries ++ more.entry ∷ []) n any) is
    ∙ get_or-append_seam standing.entries more.entry [] any

pub accepted_written : (inner : EntityData) (standing after : LaterRequestsData) (entry : LaterEntryData) (lines now : List ℕ) (more : HasOneMore standing after) → entry ≡ more.entry
    → AppendsAcceptance inner entry lines now → RecordsLater inner standing lines inner after now
accepted_written inner standing after entry lines now more is appends =
    subst (λ (q : LaterRequestsData). RecordsLater inner standing lines inner q now) (sym more.after_is)
    (accepted_recorded inner standing more.entry lines now (subst (λ (e : LaterEntryData). AppendsAcceptance inner e lines now) is appends) more.above more.waits)

pub nothing_written : (inner : EntityData) (standing back : LaterRequestsData) (lines now : List ℕ) → back ≡ standing → now ≡ lines → RecordsLater inner standing lines inner back now
nothing_written inner standing back lines now same alike =
    subst (λ (l : List ℕ). RecordsLater inner standing lines inner back l) (sym alike)
    (subst (λ (q : LaterRequestsData). RecordsLater inner standing lines inner q lines) (sym same) (records_none KeepsLater (later_of inner standing) lines))

pub gone_written : (home : HomeData) (request : RequestParts) (told : Outcome) (inner : EntityData) (standing after : LaterRequestsData) (named : Option ℕ) (lines now : List ℕ)
    → (less : HasOneLess home request told standing after) → named ≡ number_in (address_of home request.to) → AppendsGone named lines now → RecordsLater inner standing lines inner after now
gone_written home request told inner standing after named lines now less says gone =
    let same : gone.number ≡ less.number = some_same gone.number less.number (sym gone.is ∙ says ∙ less.named) in
    let is : after ≡ without gone.number standing = less.after_is ∙ ap (λ (n : ℕ). without n standing) (sym same) in
    subst (λ (q : LaterRequestsData). RecordsLater inner standing lines inner q now) (sym is) (gone_recorded inner standing gone.number lines now gone.reads_back gone.appended)

-- where there are as many, nothing changed
pub as_many : (home : HomeData) (request : RequestParts) (told : Outcome) (standing after : LaterRequestsData) → Changes home request told standing after
    → length after.entries ≡ length standing.entries → after ≡ standing
as_many home request told standing after (inl same) many = same
as_many home request told standing after (inr (inl more)) many = absurd (omega (arith, more_than standing after more, many))
as_many home request told standing after (inr (inr less)) many =
    let few = ap (λ (q : LaterRequestsData). length q.entries) less.after_is in
    less.after_is ∙ none_less less.number standing (omega (arith, few, many))

-- where there are more, one was accepted
pub some_more : (home : HomeData) (request : RequestParts) (told : Outcome) (standing after : LaterRequestsData) → Changes home request told standing after
    → length standing.entries < length after.entries → HasOneMore standing after
some_more home request told standing after (inl same) more = absurd (omega (arith, more, ap (λ (q : LaterRequestsData). length q.entries) same))
some_more home request told standing after (inr (inl it)) more = it
some_more home request told standing after (inr (inr less)) more =
    absurd (omega (arith, more, ap (λ (q : LaterRequestsData). length q.entries) less.after_is, less_than less.number standing))

-- and where there are fewer, one went
pub some_less : (home : HomeData) (request : RequestParts) (told : Outcome) (standing after : LaterRequestsData) → Changes home request told standing after
    → length after.entries < length standing.entries → HasOneLess home request told standing after
some_less home request told standing after (inl same) less = absurd (omega (arith, less, ap (λ (q : LaterRequestsData). length q.entries) same))
some_less home request told standing after (inr (inl more)) less = absurd (omega (arith, less, more_than standing after more))
some_less home request told standing after (inr (inr it)) less = it

-- one that was accepted isn't there before
pub other_then : (standing after : LaterRequestsData) → HasOneMore standing after → after ≡ standing → ⊥
other_then standing after more same = omega (arith, more_than standing after more, ap (λ (q : LaterRequestsData). length q.entries) same)

-- what is told where an acceptance was written down, or taken back
pub told_then : (effect : Option LaterEffect) (standing after left : LaterRequestsData) (told outcome out : Outcome) → HasOneMore standing after → IsAnsweredBy effect standing told outcome after
    → IsWrittenOrBack standing after outcome left out → IsAnsweredBy effect standing told out left
told_then effect standing after left told outcome out more answered (inl (same, stays)) =
    subst (λ (o : Outcome). IsAnsweredBy effect standing told o left) (sym same)
    (subst (λ (q : LaterRequestsData). IsAnsweredBy effect standing told outcome q) (sym stays) answered)
told_then effect standing after left told outcome out more answered (inr (starved, back)) =
    subst (λ (o : Outcome). IsAnsweredBy effect standing told o left) (sym starved)
    (subst (λ (q : LaterRequestsData). IsAnsweredBy effect standing told (Starved 0) q) (sym back)
    (starved_instead effect standing after told outcome (other_then standing after more) answered))

-- ---- what is put for an acceptance

pub acceptance_put : (inner : EntityData) (entry : LaterEntryData) (moment : ℕ) (old mid new : List ℕ) → moment ≡ event_moment inner.last 0 → moment < moment_bound → IsSoundEntity inner
    → mid ≡ old ++ lines_of moment Tick → AppendsAccepted moment entry mid new → AppendsAcceptance inner entry old new
acceptance_put inner entry moment old mid new is small sound ticked accepted =
    let P : ℕ → Type 0 = λ m. (m < moment_bound) × AppendsAccepted m entry (old ++ lines_of m Tick) new in
    let there : P (event_moment inner.last 0) = subst P is (small, subst (λ (l : List ℕ). AppendsAccepted moment entry l new) ticked accepted) in
    record { sound = sound; small = there.0; accepted = there.1 }

-- lines that were put are cut away
pub cut_back : (old mid then new : List ℕ) (more : List ℕ) (len : ℕ) → length old ≡ len → mid ≡ old ++ more → then ≡ mid → new ≡ take len then → new ≡ old
cut_back old mid then new more len size put stays cut =
    cut ∙ ap (λ (l : List ℕ). take len l) (stays ∙ put) ∙ take_at old more len size

-- ---- a whole event

-- it asks this request
pub asks_it : (event : KeptEvent) (request : RequestParts) → request_of event ≡ Some request → event ≡ events.OfMachine (Ask request)
asks_it (events.OfMachine (Ask asked)) request is = ap (λ (r : RequestParts). events.OfMachine (Ask r)) (some_same asked request is)
asks_it (events.OfMachine Take) request is = none_some request is
asks_it (events.OfMachine Expire) request is = none_some request is
asks_it events.Next request is = none_some request is
asks_it (events.Sent number) request is = none_some request is

-- one that asks nothing leaves the accepted requests
pub others_taken : (reading moment : ℕ) (event : KeptEvent) (before : EntityData) (standing : LaterRequestsData) (outcome : KeptOutcome) (after : EntityData) → request_of event ≡ None
    → KeptEntityStep reading event before outcome after → IsTakenKept reading moment event before standing outcome after standing
others_taken reading moment (events.OfMachine (Ask asked)) before standing outcome after is step = none_some asked (sym is)
others_taken reading moment (events.OfMachine Take) before standing (outcomes.OfMachine came) after is step = record { told = came; step = step; answered = (refl, refl) }
others_taken reading moment (events.OfMachine Take) before standing (outcomes.Next given) after is step = absurd step
others_taken reading moment (events.OfMachine Take) before standing outcomes.Taken after is step = absurd step
others_taken reading moment (events.OfMachine Expire) before standing (outcomes.OfMachine came) after is step = record { told = came; step = step; answered = (refl, refl) }
others_taken reading moment (events.OfMachine Expire) before standing (outcomes.Next given) after is step = absurd step
others_taken reading moment (events.OfMachine Expire) before standing outcomes.Taken after is step = absurd step
others_taken reading moment events.Next before standing outcome after is step = (step, refl)
others_taken reading moment (events.Sent number) before standing outcome after is step = (step, refl)

-- one that asks is answered beside the step of the entity inside
pub asked_taken : (reading moment : ℕ) (event : KeptEvent) (request : RequestParts) (before after : EntityData) (standing left : LaterRequestsData) (told out : Outcome)
    → event ≡ events.OfMachine (Ask request) → KeptEntityStep reading event before (outcomes.OfMachine told) after
    → IsAnsweredBy (asked_effect before.home standing moment request told) standing told out left
    → IsTakenKept reading moment event before standing (outcomes.OfMachine out) after left
asked_taken reading moment event request before after standing left told out is step answered =
    subst (λ (e : KeptEvent). IsTakenKept reading moment e before standing (outcomes.OfMachine out) after left) (sym is)
    (record {
      told = told;
      step = subst (λ (e : KeptEvent). KeptEntityStep reading e before (outcomes.OfMachine told) after) is step;
      answered = answered;
    })

-- one that isn't done is one for which memory ran out
pub over_taken : (reading moment : ℕ) (request : RequestParts) (before after : EntityData) (standing : LaterRequestsData) (ticked : KeptOutcome)
    → KeptEntityStep reading (events.OfMachine Expire) before ticked after
    → IsTakenKept reading moment (events.OfMachine (Ask request)) before standing (outcomes.OfMachine (Starved 0)) after standing
over_taken reading moment request before after standing ticked step =
    let one = of_step reading Expire before ticked after step in
    record {
      told = Starved 0;
      step = passed_over reading (Starved 0) before after request (only_expires reading one.came before after one.step);
      answered = (refl, refl);
    }

-- and comes to an outcome of the machine
pub asked_of_machine : {B : Type 0} (reading : ℕ) (event : KeptEvent) (request : RequestParts) (before after : EntityData) (outcome : KeptOutcome) → event ≡ events.OfMachine (Ask request)
    → KeptEntityStep reading event before outcome after → ((came : Outcome) → outcome ≡ outcomes.OfMachine came → ⊥) → B
asked_of_machine reading event request before after outcome is step none =
    let one = of_step reading (Ask request) before outcome after (subst (λ (e : KeptEvent). KeptEntityStep reading e before outcome after) is step) in
    absurd (none one.came one.is)

-- what it says holds where the entity inside may be answered for
pub says_asked : (reading : ℕ) (event : KeptEvent) (request : RequestParts) (inside before after : EntityData) (standing : LaterRequestsData) (told : Outcome) (asked : Asked)
    → inside ≡ before → event ≡ events.OfMachine (Ask request) → KeptEntityStep reading event before (outcomes.OfMachine told) after
    → (is_ok (address_of inside.home request.to) ≡ true → short_of inside.home (asking request) ≡ Some (claimed_originator inside.home request)
    → IsAskedAs inside.home (claimed_originator inside.home request) standing request asked)
    → SaysAsked before.home standing request told asked
says_asked reading event request inside before after standing told asked same is step said = λ heard.
    let P : EntityData → Type 0 = λ (e : EntityData). is_ok (address_of e.home request.to) ≡ true → short_of e.home (asking request) ≡ Some (claimed_originator e.home request)
    → IsAskedAs e.home (claimed_originator e.home request) standing request asked in
    let says : P before = subst P same said in
    heard_asked (IsAskedAs before.home (claimed_originator before.home request) standing request asked) reading request before after told
    (subst (λ (e : KeptEvent). KeptEntityStep reading e before (outcomes.OfMachine told) after) is step) says heard

-- what is written down of both
pub asked_recorded : (before after : EntityData) (standing left : LaterRequestsData) (lines mid now : List ℕ) → after.home ≡ before.home → Records KeepsEntity before lines after mid
    → RecordsLater after standing mid after left now → RecordsLater before standing lines after left now
asked_recorded before after standing left lines mid now home inside then =
    records_then KeepsLater (later_of before standing) (later_of after standing) (later_of after left) lines mid now (inner_recorded before after standing lines mid home inside) then
