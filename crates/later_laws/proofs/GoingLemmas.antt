-- What is run, kept, shown and taken away in a turn.
use Rattle.std.specs.Prelude.{filter, map, not, Contains}
use Rattle.std.proofs.Common.{◌≡◌, ◌⊎◌, ⊎_elim, ℕ, zero, suc, ◌+◌, ◌==◌, Bool, true, false, List, [], ◌∷◌, Some, None, inl, inr, refl, sym, ap, subst, ◌∙◌, arith}
use Rattle.std.proofs.lemmas.Bool.{cases_Bool, eqb-true, true≢false}
use Rattle.std.proofs.lemmas.List.Elements.{Contains-append_left, Contains-push_cases}
use Rattle.m2m_names.specs.declared.codes.Rsc.TheVariants.{Accepted, NoPrivilege, NotAcceptable}
use Rattle.m2m_names.specs.declared.operations.Op.{Op}
use Rattle.m2m_names.specs.declared.operations.Op.TheVariants.{Create, Retrieve, Update, Delete, Notify}
use Rattle.primitive_json.specs.declared.reply.ReplyParts.{ReplyParts}
use Rattle.resource_model.specs.Home.{HomeData}
use Rattle.turn_desk.specs.declared.entry.Entry.{Entry}
use Rattle.entity_model.specs.Places.{refusal, reply_to}
use Rattle.group_fanout.specs.Rights.{claimed_originator}
use Rattle.cse_machine.specs.declared.event.Event.{Event}
use Rattle.cse_machine.specs.declared.event.Outcome.{Outcome}
use Rattle.cse_machine.specs.declared.event.Outcome.TheVariants.{Done, Forward, Item, Ticked, Starved}
use Rattle.later_replies.specs.Effects.{is_own, own_effect}
use Rattle.later_replies.specs.Entries.{LaterData, LaterEntryData, LaterRequestsData, accepted_entry, still_standing, still_stands, without}
use Rattle.accepted_requests.specs.Form.{uri_content}
use Rattle.later_replies.specs.Runs.{is_to_run}
use Rattle.later_laws.specs.Laws.{IsLeftAs}
use Rattle.later_laws.specs.Turns.{AreLeft, IsTurn, Ran, Turn, as_ran}
use Rattle.later_laws.proofs.TurnLemmas.{turn_comes}
use Rattle.later_replies.specs.Answered.{ComesTo, IsDeletedByOwn, IsOwnAsked, IsTakenUp, NamesAccepted, ShowsOwn, TellsNumber}
use Rattle.later_replies.proofs.AnswerLemmas.{comes_holds}

-- ---- elements

pub contains_first : {X : Type 0} (x : X) (xs : List X) → Contains (x ∷ xs) x
contains_first x xs = (0, omega arith, refl)

pub contains_behind : {X : Type 0} (y : X) (xs : List X) (x : X) → Contains xs x → Contains (y ∷ xs) x
contains_behind y xs x (k, within, is) = (suc k, omega (arith, within), is)

pub contains_one_of : {X : Type 0} (y : X) (xs : List X) (x : X) → Contains (y ∷ xs) x → (y ≡ x) ⊎ Contains xs x
contains_one_of y xs x (zero, within, is) = inl is
contains_one_of y xs x (suc k, within, is) = inr (k, omega (arith, within), is)

pub contains_none : {X : Type 0} (x : X) → Contains [] x → ⊥
contains_none x (k, within, is) = omega (arith, within)

first_or_behind : {X : Type 0} (y : X) (xs zs : List X) (x : X) → (Contains xs x → Contains zs x) → Contains (y ∷ xs) x → Contains (y ∷ zs) x
first_or_behind y xs zs x on has =
    ⊎_elim (λ same. subst (λ z. Contains (y ∷ zs) z) same (contains_first y zs)) (λ behind. contains_behind y zs x (on behind)) (contains_one_of y xs x has)

pub contains_filtered : {X : Type 0} (p : X → Bool) (xs : List X) (x : X) → p x ≡ true → Contains xs x → Contains (filter p xs) x
contains_filtered p [] x passes has = absurd (contains_none x has)
contains_filtered p (y ∷ xs) x passes has = elim (cases_Bool (p y)) [
  | inl t ↦ rw t (first_or_behind y xs (filter p xs) x (contains_filtered p xs x passes) has)
  | inr f ↦ rw f (⊎_elim (λ same. absurd (true≢false (sym passes ∙ ap p (sym same) ∙ f))) (contains_filtered p xs x passes) (contains_one_of y xs x has))
]

pub contains_of_filtered : {X : Type 0} (p : X → Bool) (xs : List X) (x : X) → Contains (filter p xs) x → Contains xs x
contains_of_filtered p [] x has = has
contains_of_filtered p (y ∷ xs) x has = by (contains_of_filtered p xs x) (cases_Bool (p y))
  where
    by : (Contains (filter p xs) x → Contains xs x) → (p y ≡ true) ⊎ (p y ≡ false) → Contains (y ∷ xs) x
    by rest (inl t) = let there : Contains (y ∷ filter p xs) x = rw t at has in first_or_behind y (filter p xs) xs x rest there
    by rest (inr f) = let there : Contains (filter p xs) x = rw f at has in contains_behind y xs x (rest there)

-- an element of a mapped list, and where it is from
pub record IsFrom {A B : Type 0} (f : A → B) (xs : List A) (y : B) : Type 0 where
  pub from : A
  pub has : Contains xs from
  pub is : f from ≡ y

pub from_mapped : {A B : Type 0} (f : A → B) (xs : List A) (y : B) → Contains (map f xs) y → IsFrom f xs y
from_mapped f [] y has = absurd (contains_none y has)
from_mapped f (x ∷ xs) y has = ⊎_elim
    (λ same. record { from = x; has = contains_first x xs; is = same })
    (λ behind. let rest = from_mapped f xs y behind in record { from = rest.from; has = contains_behind x xs rest.from rest.has; is = rest.is })
    (contains_one_of (f x) (map f xs) y has)

pub contains_mapped : {A B : Type 0} (f : A → B) (xs : List A) (x : A) → Contains xs x → Contains (map f xs) (f x)
contains_mapped f [] x has = absurd (contains_none x has)
contains_mapped {B = B} f (y ∷ ys) x has =
    ⊎_elim (λ same. subst (λ (z : B). Contains (f y ∷ map f ys) z) (ap f same) (contains_first (f y) (map f ys)))
    (λ behind. contains_behind (f y) (map f ys) (f x) (contains_mapped f ys x behind)) (contains_one_of y ys x has)

-- ---- what is run, and what isn't

-- the two ways of an entry with the runs
abbrev IsLeftBy : (LaterEntryData → Bool) → LaterEntryData → List Ran → List Ran → List LaterEntryData → List LaterEntryData → Type 0
IsLeftBy runs e ran later left rest =
    ((runs e ≡ true) × (r : Ran) × (r.entry ≡ e) × (ran ≡ r ∷ later) × (left ≡ as_ran r ∷ rest))
    ⊎ ((runs e ≡ false) × (ran ≡ later) × (left ≡ e ∷ rest))

pub not_run_stays : (runs : LaterEntryData → Bool) (es : List LaterEntryData) (ran : List Ran) (left : List LaterEntryData) (x : LaterEntryData) → AreLeft runs es ran left → Contains es x → runs x ≡ false → Contains left x
not_run_stays runs [] ran left x are has never = absurd (contains_none x has)
not_run_stays runs (e ∷ es) ran left x are has never = by_case (λ behind. not_run_stays runs es are.0 are.1 x are.2 behind never) are.3
  where
    by_case : (Contains es x → Contains are.1 x) → IsLeftBy runs e ran are.0 left are.1 → Contains left x
    by_case rest (inl c) = ⊎_elim
        (λ same. absurd (true≢false (sym c.0 ∙ ap runs same ∙ never)))
        (λ behind. subst (λ l. Contains l x) (sym c.4) (contains_behind (as_ran c.1) are.1 x (rest behind)))
        (contains_one_of e es x has)
    by_case rest (inr c) = subst (λ l. Contains l x) (sym c.2) (first_or_behind e es are.1 x rest has)

pub ran_stands : (runs : LaterEntryData → Bool) (es : List LaterEntryData) (ran : List Ran) (left : List LaterEntryData) (r : Ran) → AreLeft runs es ran left → Contains ran r → Contains left (as_ran r)
ran_stands runs [] ran left r are has = absurd (contains_none r (subst (λ l. Contains l r) are.0 has))
ran_stands runs (e ∷ es) ran left r are has = by_case (λ behind. ran_stands runs es are.0 are.1 r are.2 behind) are.3
  where
    by_case : (Contains are.0 r → Contains are.1 (as_ran r)) → IsLeftBy runs e ran are.0 left are.1 → Contains left (as_ran r)
    by_case rest (inl c) =
        subst (λ l. Contains l (as_ran r)) (sym c.4)
        (⊎_elim
        (λ same. subst (λ (q : Ran). Contains (as_ran c.1 ∷ are.1) (as_ran q)) same (contains_first (as_ran c.1) are.1))
        (λ behind. contains_behind (as_ran c.1) are.1 (as_ran r) (rest behind))
        (contains_one_of c.1 are.0 r (subst (λ l. Contains l r) c.3 has)))
    by_case rest (inr c) =
        subst (λ l. Contains l (as_ran r)) (sym c.2)
        (contains_behind e are.1 (as_ran r) (rest (subst (λ l. Contains l r) c.1 has)))

-- ---- what is left

-- the runs' results, or as they were
pub left_is : (runs : LaterEntryData → Bool) (es : List LaterEntryData) (ran : List Ran) (left : List LaterEntryData) (y : LaterEntryData) → AreLeft runs es ran left → Contains left y → Contains es y ⊎ Contains (map as_ran ran) y
left_is runs [] ran left y are has = absurd (contains_none y (subst (λ l. Contains l y) are.1 has))
left_is runs (e ∷ es) ran left y are has = by_case (λ behind. left_is runs es are.0 are.1 y are.2 behind) are.3
  where
    by_case : (Contains are.1 y → Contains es y ⊎ Contains (map as_ran are.0) y) → IsLeftBy runs e ran are.0 left are.1 → Contains (e ∷ es) y ⊎ Contains (map as_ran ran) y
    by_case rest (inl c) = subst (λ (l : List Ran). Contains (e ∷ es) y ⊎ Contains (map as_ran l) y) (sym c.3)
        (⊎_elim
        (λ same. inr (subst (λ z. Contains (map as_ran (c.1 ∷ are.0)) z) same (contains_first (as_ran c.1) (map as_ran are.0))))
        (λ behind. ⊎_elim (λ it. inl (contains_behind e es y it)) (λ it. inr (contains_behind (as_ran c.1) (map as_ran are.0) y it)) (rest behind))
        (contains_one_of (as_ran c.1) are.1 y (subst (λ l. Contains l y) c.4 has)))
    by_case rest (inr c) = subst (λ (l : List Ran). Contains (e ∷ es) y ⊎ Contains (map as_ran l) y) (sym c.1)
        (⊎_elim
        (λ same. inl (subst (λ z. Contains (e ∷ es) z) same (contains_first e es)))
        (λ behind. ⊎_elim (λ it. inl (contains_behind e es y it)) (λ it. inr it) (rest behind))
        (contains_one_of e are.1 y (subst (λ l. Contains l y) c.2 has)))

-- ---- what comes

-- what is kept was kept, or is accepted
abbrev WasOrIsAccepted : HomeData → LaterRequestsData → ℕ → Event → Outcome → Outcome → LaterRequestsData → LaterEntryData → Type 0
WasOrIsAccepted home requests moment event told outcome after x =
    Contains requests.entries x
    ⊎ ((up : IsTakenUp home requests moment event told outcome after)
    × (x ≡ accepted_entry (requests.given + 1) (claimed_originator home up.asked.request) up.asked.request moment))

module _ (before after : LaterData) (e : Entry Event Outcome) (t : Turn) (x : LaterEntryData) (is : IsTurn before e t after) where
  abbrev standing : LaterRequestsData
  standing = still_standing is.moment is.left

  pub acceptance_adds : Contains after.requests.entries x → WasOrIsAccepted before.inner.home (still_standing is.moment is.left) is.moment e.event t.told e.outcome after.requests x
  acceptance_adds has =
      comes_holds (λ (r : LaterRequestsData). Contains r.entries x → WasOrIsAccepted before.inner.home standing is.moment e.event t.told e.outcome after.requests x)
      before.inner.home standing is.moment e.event t.told e.outcome after.requests
      (λ there. inl there)
      (λ up there. ⊎_elim (λ was. inl was) (λ new. inr (up, sym new)) (Contains-push_cases standing.entries (accepted_entry (standing.given + 1) (claimed_originator before.inner.home up.asked.request) up.asked.request is.moment) x there))
      (λ o deletes there. inl (contains_of_filtered (λ (y : LaterEntryData). not (y.number == o.at.named.number)) standing.entries x there))
      (turn_comes before after e t is) has

-- ---- what goes

-- the accepted request is still there, or its originator deletes it
abbrev StaysOrIsDeleted : HomeData → LaterRequestsData → Event → LaterEntryData → List LaterEntryData → Type 0
StaysOrIsDeleted home requests event x entries = Contains entries x ⊎ IsDeletedByOwn home requests event x.number

deleted_or_there : (home : HomeData) (event : Event) (told outcome : Outcome) (requests after : LaterRequestsData) (x : LaterEntryData) → (o : IsOwnAsked home requests event told outcome after) → o.at.request.op ≡ Delete → Contains requests.entries x → StaysOrIsDeleted home requests event x (without o.at.named.number requests).entries
deleted_or_there home event told outcome requests after x o deletes has = elim (cases_Bool (x.number == o.at.named.number)) [
  | inl same ↦ inr (record { request = o.at.request; asks = o.at.asks; deletes = deletes; named = o.at.named; names = o.at.names; own = o.own; is_number = sym (eqb-true x.number o.at.named.number same) })
  | inr other ↦ inl (contains_filtered (λ (e : LaterEntryData). not (e.number == o.at.named.number)) requests.entries x (ap not other) has)
]

-- of what the runs leave
module _ (before after : LaterData) (e : Entry Event Outcome) (t : Turn) (x : LaterEntryData) (is : IsTurn before e t after) where
  pub stands_or_deleted : Contains is.left.entries x → still_stands is.moment x ≡ true → StaysOrIsDeleted before.inner.home (still_standing is.moment is.left) e.event x after.requests.entries
  stands_or_deleted has stands =
      let there : Contains (still_standing is.moment is.left).entries x = contains_filtered (still_stands is.moment) is.left.entries x stands has in
      comes_holds (λ (r : LaterRequestsData). StaysOrIsDeleted before.inner.home (still_standing is.moment is.left) e.event x r.entries)
      before.inner.home (still_standing is.moment is.left) is.moment e.event t.told e.outcome after.requests
      (inl there)
      (λ up. inl (Contains-append_left (still_standing is.moment is.left).entries (accepted_entry (is.left.given + 1) (claimed_originator before.inner.home up.asked.request) up.asked.request is.moment ∷ []) x there))
      (λ o deletes. deleted_or_there before.inner.home e.event t.told e.outcome (still_standing is.moment is.left) after.requests x o deletes there)
      (turn_comes before after e t is)

-- as a turn leaves it
pub record Left (before : LaterData) (e : Entry Event Outcome) (t : Turn) (runs : Bool) (x : LaterEntryData) (entries : List LaterEntryData) : Type 0 where
  pub left : LaterEntryData
  pub has : Contains entries left
  pub kept : IsLeftAs t runs x left
  pub number : left.number ≡ x.number
  pub accepted : left.accepted ≡ x.accepted

pub left_as : (before after : LaterData) (e : Entry Event Outcome) (t : Turn) (x : LaterEntryData) (is : IsTurn before e t after) → Contains before.requests.entries x → Left before e t (is_to_run is.moment e.event x) x is.left.entries
left_as before after e t x is has = by (cases_Bool (is_to_run is.moment e.event x))
  where
    by : (is_to_run is.moment e.event x ≡ true) ⊎ (is_to_run is.moment e.event x ≡ false) → Left before e t (is_to_run is.moment e.event x) x is.left.entries
    by (inr never) = record {
      left = x;
      has = not_run_stays (is_to_run is.moment e.event) before.requests.entries t.ran is.left.entries x is.are_left has never;
      kept = record { same = λ n. refl; ran = λ it. absurd (true≢false (sym it ∙ never)) };
      number = refl;
      accepted = refl;
    }
    by (inl it) =
        let ran : Contains (map (λ (r : Ran). r.entry) t.ran) x = subst (λ (l : List LaterEntryData). Contains l x) (sym is.ran) (contains_filtered (is_to_run is.moment e.event) before.requests.entries x it has) in
        let r = from_mapped (λ (q : Ran). q.entry) t.ran x ran in
        record {
          left = as_ran r.from;
          has = ran_stands (is_to_run is.moment e.event) before.requests.entries t.ran is.left.entries r.from is.are_left r.has;
          kept = record { same = λ n. absurd (true≢false (sym it ∙ n)); ran = λ w. (r.from, r.has, r.is, refl) };
          number = ap (λ (y : LaterEntryData). y.number) r.is;
          accepted = ap (λ (y : LaterEntryData). y.accepted) r.is;
        }

-- an accepted request is kept as the turn leaves it, or is deleted
abbrev KeptOrDeleted : HomeData → LaterRequestsData → Event → Turn → Bool → LaterEntryData → List LaterEntryData → Type 0
KeptOrDeleted home requests event t runs x entries =
    ((left : LaterEntryData) × Contains entries left × IsLeftAs t runs x left) ⊎ IsDeletedByOwn home requests event x.number

pub goes_when_due_or_by_own : (before after : LaterData) (e : Entry Event Outcome) (t : Turn) (x : LaterEntryData) (is : IsTurn before e t after) → Contains before.requests.entries x → still_stands is.moment x ≡ true → KeptOrDeleted before.inner.home (still_standing is.moment is.left) e.event t (is_to_run is.moment e.event x) x after.requests.entries
goes_when_due_or_by_own before after e t x is has stands =
    let l = left_as before after e t x is has in
    let same : still_stands is.moment l.left ≡ still_stands is.moment x = stands_alike is.moment l.left x l.accepted in
    ⊎_elim (λ kept. inl (l.left, kept, l.kept))
    (λ deleted. inr (subst (λ (n : ℕ). IsDeletedByOwn before.inner.home (still_standing is.moment is.left) e.event n) l.number deleted))
    (stands_or_deleted before after e t l.left is l.has (same ∙ stands))
  where
    stands_alike : (moment : ℕ) (y z : LaterEntryData) → y.accepted ≡ z.accepted → still_stands moment y ≡ still_stands moment z
    stands_alike moment y z same = rw same refl

-- ---- what is shown

-- the reply of an outcome, where it is one
abbrev reply_in : ReplyParts → Outcome → ReplyParts
reply_in other (Done reply) = reply
reply_in other (Forward poa onward) = other
reply_in other (Item given) = other
reply_in other Ticked = other
reply_in other (Starved done) = other

abbrev is_done : Outcome → Bool
is_done (Done reply) = true
is_done (Forward poa onward) = false
is_done (Item given) = false
is_done Ticked = false
is_done (Starved done) = false

same_reply : (outcome : Outcome) (reply shown : ReplyParts) → outcome ≡ Done reply → outcome ≡ Done shown → reply ≡ shown
same_reply outcome reply shown is so = ap (reply_in reply) (sym is ∙ so)

-- nothing, or its originator's own
own_shown : (home : HomeData) (requests : LaterRequestsData) (event : Event) (told : Outcome) (reply : ReplyParts) (at : NamesAccepted home requests event told) (op : Op) → is_own home at.request at.named ≡ true → at.request.op ≡ op → reply ≡ (own_effect op requests at.request at.named).reply → (reply.pc ≡ None) ⊎ ShowsOwn home requests event told reply
own_shown home requests event told reply at Create own is shows = inl (ap (λ (r : ReplyParts). r.pc) shows)
own_shown home requests event told reply at Retrieve own is shows = inr (record { at = at; own = own; retrieves = is; shows = shows })
own_shown home requests event told reply at Update own is shows = inl (ap (λ (r : ReplyParts). r.pc) shows)
own_shown home requests event told reply at Delete own is shows = inl (ap (λ (r : ReplyParts). r.pc) shows)
own_shown home requests event told reply at Notify own is shows = inl (ap (λ (r : ReplyParts). r.pc) shows)

module _ (home : HomeData) (requests : LaterRequestsData) (moment : ℕ) (event : Event) (told outcome : Outcome) (after : LaterRequestsData) (reply : ReplyParts) (is : outcome ≡ Done reply) where
  abbrev ShownAlone : Type 0
  ShownAlone = (told ≡ Done reply) ⊎ ((reply.pc ≡ None) ⊎ (TellsNumber home requests event told reply ⊎ ShowsOwn home requests event told reply))

  pub own_alone : ComesTo home requests moment event told outcome after → ShownAlone
  own_alone (inl c) = inl (sym c.comes ∙ is)
  own_alone (inr (inl c)) = absurd (true≢false (ap is_done (sym is ∙ c.comes)))
  own_alone (inr (inr (inl c))) = inr (inl (ap (λ (r : ReplyParts). r.pc) (same_reply outcome reply (refusal c.asked.request NotAcceptable) is c.comes)))
  own_alone (inr (inr (inr (inl c)))) = inr (inr (inl (record { asked = c.asked; shows = same_reply outcome reply (reply_to c.asked.request Accepted (Some (uri_content (requests.given + 1)))) is c.comes })))
  own_alone (inr (inr (inr (inr (inl c))))) = inr (inl (ap (λ (r : ReplyParts). r.pc) (same_reply outcome reply (refusal c.at.request NoPrivilege) is c.comes)))
  own_alone (inr (inr (inr (inr (inr c))))) = ⊎_elim (λ none. inr (inl none)) (λ own. inr (inr (inr own)))
      (own_shown home requests event told reply c.at c.at.request.op c.own refl (same_reply outcome reply (own_effect c.at.request.op requests c.at.request c.at.named).reply is c.comes))
