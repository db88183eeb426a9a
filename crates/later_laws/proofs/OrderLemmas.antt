-- Accepted requests are run in order, and none twice.
use Rattle.std.specs.Prelude.{filter, nat_lt}
use Rattle.std.specs.List.{AllByRecursion}
use Rattle.std.proofs.Common.{◌≡◌, ◌⊎◌, ℕ, ◌<◌, ◌≤◌, Bool, true, false, List, [], ◌∷◌, ◌++◌, inl, inr, refl, sym, ap, subst, ◌∙◌, arith}
use Rattle.std.proofs.lemmas.Bool.{cases_Bool, true≢false, ltb-true, ltb-false, lt-ltb, le-ltb}
use Rattle.later_replies.specs.Entries.{LaterEntryData, does_wait}
use Rattle.later_replies.specs.Runs.{is_to_run, runs_all, with_outcome}
use Rattle.cse_machine.specs.declared.event.Event.{Event}
use Rattle.cse_machine.specs.declared.event.Outcome.{Outcome}
use Rattle.later_laws.specs.Turns.{AreLeft, Ran, as_ran}
use Rattle.later_replies.specs.Sound.{Rises, WaitsSince, last_from, numbers_of}

-- ---- each of a list

pub each_weaker : {A : Type 0} (P Q : A → Type 0) → ((x : A) → P x → Q x) → (xs : List A) → AllByRecursion P xs → AllByRecursion Q xs
each_weaker P Q f [] all = tt
each_weaker P Q f (x ∷ xs) all = (f x all.0, each_weaker P Q f xs all.1)

pub each_of : {A : Type 0} (P : A → Type 0) → ((x : A) → P x) → (xs : List A) → AllByRecursion P xs
each_of P f [] = tt
each_of P f (x ∷ xs) = (f x, each_of P f xs)

pub each_filter : {A : Type 0} (P : A → Type 0) (p : A → Bool) (xs : List A) → AllByRecursion P xs → AllByRecursion P (filter p xs)
each_filter P p [] all = tt
each_filter P p (x ∷ xs) all = elim (cases_Bool (p x)) [
  | inl t ↦ rw t (all.0, each_filter P p xs all.1)
  | inr f ↦ rw f (each_filter P p xs all.1)
]

pub each_snoc : {A : Type 0} (P : A → Type 0) (xs : List A) (y : A) → AllByRecursion P xs → P y → AllByRecursion P (xs ++ y ∷ [])
each_snoc P [] y all then = (then, tt)
each_snoc P (x ∷ xs) y all then = (all.0, each_snoc P xs y all.1 then)

-- ---- numbers that rise

pub rises_past : (lo : ℕ) (ns : List ℕ) → Rises lo ns → lo ≤ last_from lo ns
rises_past lo [] rises = omega arith
rises_past lo (n ∷ ns) rises =
    let lt : lo < n = rises.0 in
    let more : n ≤ last_from n ns = rises_past n ns rises.1 in
    omega (arith, lt, more)

pub rises_from : (past lo : ℕ) (ns : List ℕ) → past ≤ lo → Rises lo ns → Rises past ns
rises_from past lo [] le rises = tt
rises_from past lo (n ∷ ns) le rises = let lt : lo < n = rises.0 in (omega (arith, le, lt), rises.1)

pub rises_append : (past : ℕ) (ns ms : List ℕ) → Rises past ns → Rises (last_from past ns) ms → Rises past (ns ++ ms)
rises_append past [] ms first then = then
rises_append past (n ∷ ns) ms first then = (first.0, rises_append n ns ms first.1 then)

pub last_append : (past : ℕ) (ns ms : List ℕ) → last_from past (ns ++ ms) ≡ last_from (last_from past ns) ms
last_append past [] ms = refl
last_append past (n ∷ ns) ms = last_append n ns ms

pub rises_above : (past : ℕ) (es : List LaterEntryData) → Rises past (numbers_of es) → AllByRecursion (λ (e : LaterEntryData). past < e.number) es
rises_above past [] rises = tt
rises_above past (e ∷ es) rises =
    let lt : past < e.number = rises.0 in
    (lt, each_weaker (λ (x : LaterEntryData). e.number < x.number) (λ (x : LaterEntryData). past < x.number) (λ x h. omega (arith, lt, h)) es (rises_above e.number es rises.1))

-- those that are picked rise too, from where they are above
pub rises_filter : (p : LaterEntryData → Bool) (past lo : ℕ) (es : List LaterEntryData) → Rises lo (numbers_of es) → AllByRecursion (λ (e : LaterEntryData). p e ≡ true → past < e.number) es → Rises past (numbers_of (filter p es))
rises_filter p past lo [] rises above = tt
rises_filter p past lo (e ∷ es) rises above = elim (cases_Bool (p e)) [
  | inl t ↦ rw t (above.0 t, rises_filter p e.number e.number es rises.1 (each_weaker (λ (x : LaterEntryData). e.number < x.number) (λ (x : LaterEntryData). p x ≡ true → e.number < x.number) (λ x h picked. h) es (rises_above e.number es rises.1)))
  | inr f ↦ rw f (rises_filter p past e.number es rises.1 above.1)
]

pub last_filter : (p : LaterEntryData → Bool) (past lo given : ℕ) (es : List LaterEntryData) → Rises lo (numbers_of es) → past ≤ given → last_from lo (numbers_of es) ≤ given → last_from past (numbers_of (filter p es)) ≤ given
last_filter p past lo given [] rises le last = le
last_filter p past lo given (e ∷ es) rises le last = elim (cases_Bool (p e)) [
  | inl t ↦ rw t (last_filter p e.number e.number given es rises.1 within last)
  | inr f ↦ rw f (last_filter p past e.number given es rises.1 le last)
]
  where
    within : e.number ≤ given
    within =
        let more : e.number ≤ last_from e.number (numbers_of es) = rises_past e.number (numbers_of es) rises.1 in
        let most : last_from e.number (numbers_of es) ≤ given = last in
        omega (arith, more, most)

pub rises_kept : (p : LaterEntryData → Bool) (lo : ℕ) (es : List LaterEntryData) → Rises lo (numbers_of es) → Rises lo (numbers_of (filter p es))
rises_kept p lo es rises = rises_filter p lo lo es rises (each_weaker (λ (x : LaterEntryData). lo < x.number) (λ (x : LaterEntryData). p x ≡ true → lo < x.number) (λ x h picked. h) es (rises_above lo es rises))

numbers_append : (es fs : List LaterEntryData) → numbers_of (es ++ fs) ≡ numbers_of es ++ numbers_of fs
numbers_append [] fs = refl
numbers_append (e ∷ es) fs = ap (λ (ns : List ℕ). e.number ∷ ns) (numbers_append es fs)

pub rises_more : (es : List LaterEntryData) (e : LaterEntryData) → Rises 0 (numbers_of es) → last_from 0 (numbers_of es) < e.number → Rises 0 (numbers_of (es ++ e ∷ []))
rises_more es e rises lt =
    subst (Rises 0) (sym (numbers_append es (e ∷ []))) (rises_append 0 (numbers_of es) (e.number ∷ []) rises (lt, tt))

pub last_more : (es : List LaterEntryData) (e : LaterEntryData) → last_from 0 (numbers_of (es ++ e ∷ [])) ≡ e.number
last_more es e = ap (last_from 0) (numbers_append es (e ∷ [])) ∙ last_append 0 (numbers_of es) (e.number ∷ [])

-- ---- what the runs leave

-- an entry is run exactly where it waits
abbrev pub AgreesToRun : (LaterEntryData → Bool) → LaterEntryData → Type 0
AgreesToRun runs e = runs e ≡ does_wait e

pub left_numbers : (runs : LaterEntryData → Bool) (es : List LaterEntryData) (ran : List Ran) (left : List LaterEntryData) → AreLeft runs es ran left → numbers_of left ≡ numbers_of es
left_numbers runs [] ran left are = ap numbers_of are.1
left_numbers runs (e ∷ es) ran left are = by_case (left_numbers runs es are.0 are.1 are.2) are.3
  where
    by_case : (numbers_of are.1 ≡ numbers_of es) → ((runs e ≡ true) × (r : Ran) × (r.entry ≡ e) × (ran ≡ r ∷ are.0) × (left ≡ as_ran r ∷ are.1)) ⊎ ((runs e ≡ false) × (ran ≡ are.0) × (left ≡ e ∷ are.1)) → numbers_of left ≡ e.number ∷ numbers_of es
    by_case rest (inl c) =
        ap numbers_of c.4 ∙ ap (λ (x : LaterEntryData). x.number ∷ numbers_of are.1) c.2 ∙ ap (λ (ns : List ℕ). e.number ∷ ns) rest
    by_case rest (inr c) = ap numbers_of c.2 ∙ ap (λ (ns : List ℕ). e.number ∷ ns) rest

pub none_waits : (runs : LaterEntryData → Bool) (es : List LaterEntryData) (ran : List Ran) (left : List LaterEntryData) → AllByRecursion (AgreesToRun runs) es → AreLeft runs es ran left → AllByRecursion (λ (x : LaterEntryData). does_wait x ≡ false) left
none_waits runs [] ran left agree are = subst (AllByRecursion (λ (x : LaterEntryData). does_wait x ≡ false)) (sym are.1) tt
none_waits runs (e ∷ es) ran left agree are = by_case (none_waits runs es are.0 are.1 agree.1 are.2) are.3
  where
    by_case : AllByRecursion (λ (x : LaterEntryData). does_wait x ≡ false) are.1 → ((runs e ≡ true) × (r : Ran) × (r.entry ≡ e) × (ran ≡ r ∷ are.0) × (left ≡ as_ran r ∷ are.1)) ⊎ ((runs e ≡ false) × (ran ≡ are.0) × (left ≡ e ∷ are.1)) → AllByRecursion (λ (x : LaterEntryData). does_wait x ≡ false) left
    by_case rest (inl c) =
        let all : AllByRecursion (λ (x : LaterEntryData). does_wait x ≡ false) (as_ran c.1 ∷ are.1) = (refl, rest) in
        subst (AllByRecursion (λ (x : LaterEntryData). does_wait x ≡ false)) (sym c.4) all
    by_case rest (inr c) =
        let all : AllByRecursion (λ (x : LaterEntryData). does_wait x ≡ false) (e ∷ are.1) = (sym agree.0 ∙ c.0, rest) in
        subst (AllByRecursion (λ (x : LaterEntryData). does_wait x ≡ false)) (sym c.2) all

-- what a result changes nothing of stays so
pub each_left : (P : LaterEntryData → Type 0) → ((e : LaterEntryData) (outcome : Outcome) → P e → P (with_outcome e outcome)) → (runs : LaterEntryData → Bool) (es : List LaterEntryData) (ran : List Ran) (left : List LaterEntryData) → AreLeft runs es ran left → AllByRecursion P es → AllByRecursion P left
each_left P f runs [] ran left are all = subst (AllByRecursion P) (sym are.1) tt
each_left P f runs (e ∷ es) ran left are all = by_case (each_left P f runs es are.0 are.1 are.2 all.1) are.3
  where
    by_case : AllByRecursion P are.1 → ((runs e ≡ true) × (r : Ran) × (r.entry ≡ e) × (ran ≡ r ∷ are.0) × (left ≡ as_ran r ∷ are.1)) ⊎ ((runs e ≡ false) × (ran ≡ are.0) × (left ≡ e ∷ are.1)) → AllByRecursion P left
    by_case rest (inl c) =
        let all_of : AllByRecursion P (as_ran c.1 ∷ are.1) = (f c.1.entry c.1.outcome (subst P (sym c.2) all.0), rest) in
        subst (AllByRecursion P) (sym c.4) all_of
    by_case rest (inr c) =
        let all_of : AllByRecursion P (e ∷ are.1) = (all.0, rest) in
        subst (AllByRecursion P) (sym c.2) all_of

-- where nothing is run, all is as it was
pub record LeavesAll (es : List LaterEntryData) (ran : List Ran) (left : List LaterEntryData) : Type 0 where
  pub none : ran ≡ []
  pub all : left ≡ es

pub none_run : (runs : LaterEntryData → Bool) (es : List LaterEntryData) (ran : List Ran) (left : List LaterEntryData) → AllByRecursion (λ (x : LaterEntryData). runs x ≡ false) es → AreLeft runs es ran left → LeavesAll es ran left
none_run runs [] ran left never are = record { none = are.0; all = are.1 }
none_run runs (e ∷ es) ran left never are = by_case (none_run runs es are.0 are.1 never.1 are.2) are.3
  where
    by_case : LeavesAll es are.0 are.1 → ((runs e ≡ true) × (r : Ran) × (r.entry ≡ e) × (ran ≡ r ∷ are.0) × (left ≡ as_ran r ∷ are.1)) ⊎ ((runs e ≡ false) × (ran ≡ are.0) × (left ≡ e ∷ are.1)) → LeavesAll (e ∷ es) ran left
    by_case rest (inl c) = absurd (true≢false (sym c.0 ∙ never.0))
    by_case rest (inr c) = record { none = c.1 ∙ rest.none; all = c.2 ∙ ap (λ (l : List LaterEntryData). e ∷ l) rest.all }

-- ---- all or none

-- An event runs whatever waits, or nothing, and then its moment is that of the last event.
abbrev pub RunsAllOrNone : (LaterEntryData → Bool) → ℕ → ℕ → List LaterEntryData → Type 0
RunsAllOrNone runs moment last es =
    AllByRecursion (AgreesToRun runs) es
    ⊎ (AllByRecursion (λ (x : LaterEntryData). runs x ≡ false) es × (moment ≡ last))

later_agrees : (event : Event) (moment last : ℕ) → last < moment → (x : LaterEntryData) → WaitsSince last x → AgreesToRun (is_to_run moment event) x
later_agrees event moment last lt x since = elim (cases_Bool (does_wait x)) [
  | inl w ↦ (
      let at : x.accepted ≡ last = since w in
      let early : x.accepted < moment = omega (arith, at, lt) in
      let b : nat_lt x.accepted moment ≡ true = lt-ltb x.accepted moment early in
      elim (cases_Bool (runs_all event)) [
        | inl t ↦ rw (w, t) refl
        | inr f ↦ rw (w, f, b) refl
      ])
  | inr n ↦ rw n refl
]

all_agrees : (event : Event) (moment : ℕ) → runs_all event ≡ true → (x : LaterEntryData) → AgreesToRun (is_to_run moment event) x
all_agrees event moment all x = elim (cases_Bool (does_wait x)) [
  | inl w ↦ rw (w, all) refl
  | inr n ↦ rw n refl
]

never_runs : (event : Event) (moment last : ℕ) → runs_all event ≡ false → moment ≡ last → (x : LaterEntryData) → WaitsSince last x → is_to_run moment event x ≡ false
never_runs event moment last none same x since = elim (cases_Bool (does_wait x)) [
  | inl w ↦ (
      let at : x.accepted ≡ last = since w in
      let late : moment ≤ x.accepted = omega (arith, at, same) in
      let b : nat_lt x.accepted moment ≡ false = le-ltb x.accepted moment late in
      rw (w, none, b) refl)
  | inr n ↦ rw n refl
]

pub all_or_none : (event : Event) (moment last : ℕ) (es : List LaterEntryData) → last ≤ moment → AllByRecursion (WaitsSince last) es → RunsAllOrNone (is_to_run moment event) moment last es
all_or_none event moment last es le since = elim (cases_Bool (runs_all event)) [
  | inl t ↦ inl (each_of (AgreesToRun (is_to_run moment event)) (all_agrees event moment t) es)
  | inr f ↦ elim (cases_Bool (nat_lt last moment)) [
    | inl lt ↦ inl (each_weaker (WaitsSince last) (AgreesToRun (is_to_run moment event)) (later_agrees event moment last (ltb-true last moment lt)) es since)
    | inr ge ↦ (
        let past : moment ≤ last = ltb-false last moment ge in
        let same : moment ≡ last = omega (arith, le, past) in
        inr (each_weaker (WaitsSince last) (λ (x : LaterEntryData). is_to_run moment event x ≡ false) (never_runs event moment last f same) es since, same))
  ]
]
