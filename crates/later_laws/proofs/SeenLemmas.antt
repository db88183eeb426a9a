-- What is seen of accepted requests, and what comes of a request by that.
use Rattle.std.specs.Prelude.{filter, find, map, not, nat_lt, min, is_some, length, unwrap_or, option_and_then, if◌then◌else◌}
use Rattle.std.specs.List.{AllByRecursion}
use Rattle.std.specs.Option.{option_map}
use Rattle.std.proofs.Common.{◌≡◌, ◌⊎◌, ℕ, ◌+◌, ◌==◌, ◌&&◌, ◌||◌, Bool, true, false, List, [], ◌∷◌, ◌++◌, Option, Some, None, inl, inr, refl, sym, ap, subst, ◌∙◌}
use Rattle.std.proofs.lemmas.Bool.{cases_Bool, true≢false}
use Rattle.std.proofs.lemmas.List.{length-map, map-append}
use Rattle.m2m_names.specs.Stamps.{last_moment}
use Rattle.m2m_names.specs.declared.codes.Rsc.{Rsc}
use Rattle.m2m_names.specs.declared.codes.Rsc.TheVariants.{Accepted, NonBlocking, NotFound}
use Rattle.m2m_names.specs.declared.operations.Op.{Op}
use Rattle.m2m_names.specs.declared.operations.Op.TheVariants.{Create, Retrieve, Update, Delete, Notify}
use Rattle.m2m_value.specs.Shapes.{largest_count}
use Rattle.primitive_json.specs.declared.request.RequestParts.{RequestParts}
use Rattle.resource_model.specs.Home.{HomeData}
use Rattle.addressing.specs.Addresses.{address_of}
use Rattle.entity_model.specs.Places.{reply_to}
use Rattle.accepted_requests.specs.Effects.{LaterEffect, acceptance_by, is_acceptable, is_full, is_status, later_effect_by, most_entries, originator_effect, own_effect, owns, taken_up, taken_up_if_room, wants_later}
use Rattle.accepted_requests.specs.Entries.{LaterEntryData, LaterRequestsData, accepted_entry, entry_time, numbered, still_stands}
use Rattle.accepted_requests.specs.Form.{uri_content}
use Rattle.accepted_requests.specs.Names.{entry_at, is_here, number_in}
use Rattle.later_laws.specs.Sights.{SeenEntry, seen_entry}
use Rattle.later_laws.specs.Turns.{AreLeft, Ran, as_ran}

-- ---- lists

abbrev head_of : {A : Type 0} → A → List A → A
head_of other [] = other
head_of other (x ∷ xs) = x

abbrev rest_of : {A : Type 0} → List A → List A
rest_of [] = []
rest_of (x ∷ xs) = xs

abbrev has_some : {A : Type 0} → List A → Bool
has_some [] = false
has_some (x ∷ xs) = true

pub same_head : {A : Type 0} (x y : A) (xs ys : List A) → x ∷ xs ≡ y ∷ ys → x ≡ y
same_head x y xs ys e = ap (head_of x) e

pub same_tail : {A : Type 0} (x y : A) (xs ys : List A) → x ∷ xs ≡ y ∷ ys → xs ≡ ys
same_tail x y xs ys e = ap rest_of e

pub none_is_some : {A : Type 0} (y : A) (ys : List A) → [] ≡ y ∷ ys → ⊥
none_is_some y ys e = true≢false (sym (ap has_some e))

-- ---- entries

module _ (home : HomeData) (o : List ℕ) where
  abbrev pub see : LaterEntryData → SeenEntry
  see e = seen_entry home o e

  own_as : (b c : Bool) (x y : LaterEntryData) → (if b then Some x else None) ≡ (if c then Some y else None) → b ≡ true → x ≡ y
  own_as true true x y same is = ap (λ (f : Option LaterEntryData). unwrap_or f x) same
  own_as true false x y same is = absurd (true≢false (ap (λ (f : Option LaterEntryData). is_some f) same))
  own_as false c x y same is = absurd (true≢false (sym is))

  -- its own is seen whole
  pub own_seen : (x y : LaterEntryData) → see x ≡ see y → owns home o x ≡ true → x ≡ y
  own_seen x y same own = own_as (owns home o x) (owns home o y) x y (ap (λ (s : SeenEntry). s.own) same) own

  some_own : (b : Bool) (x : LaterEntryData) → is_some (if b then Some x else None) ≡ b
  some_own true x = refl
  some_own false x = refl

  -- and others' isn't taken for it
  pub same_owned : (x y : LaterEntryData) → see x ≡ see y → owns home o x ≡ owns home o y
  same_owned x y same =
      sym (some_own (owns home o x) x) ∙ ap (λ (s : SeenEntry). is_some s.own) same ∙ some_own (owns home o y) y

  -- ---- some of them

  seen_filter : (p : LaterEntryData → Bool) (q : SeenEntry → Bool) → ((x : LaterEntryData) → p x ≡ q (see x)) → (xs : List LaterEntryData) → map see (filter p xs) ≡ filter q (map see xs)
  seen_filter p q alike [] = refl
  seen_filter p q alike (x ∷ xs) = elim (cases_Bool (p x)) [
    | inl t ↦ (let u : q (see x) ≡ true = sym (alike x) ∙ t in rw (t, u) (ap (λ (l : List SeenEntry). see x ∷ l) (seen_filter p q alike xs)))
    | inr f ↦ (let u : q (see x) ≡ false = sym (alike x) ∙ f in rw (f, u) (seen_filter p q alike xs))
  ]

  filter_seen : (p : LaterEntryData → Bool) (q : SeenEntry → Bool) → ((x : LaterEntryData) → p x ≡ q (see x)) → (xs ys : List LaterEntryData) → map see xs ≡ map see ys → map see (filter p xs) ≡ map see (filter p ys)
  filter_seen p q alike xs ys same = seen_filter p q alike xs ∙ ap (filter q) same ∙ sym (seen_filter p q alike ys)

  pub standing_seen : (moment : ℕ) (xs ys : List LaterEntryData) → map see xs ≡ map see ys → map see (filter (still_stands moment) xs) ≡ map see (filter (still_stands moment) ys)
  standing_seen moment xs ys same = filter_seen (still_stands moment) (λ (s : SeenEntry). nat_lt moment (min (s.accepted + entry_time) last_moment)) (λ x. refl) xs ys same

  without_seen : (n : ℕ) (xs ys : List LaterEntryData) → map see xs ≡ map see ys → map see (filter (λ (e : LaterEntryData). not (e.number == n)) xs) ≡ map see (filter (λ (e : LaterEntryData). not (e.number == n)) ys)
  without_seen n xs ys same = filter_seen (λ (e : LaterEntryData). not (e.number == n)) (λ (s : SeenEntry). not (s.number == n)) (λ x. refl) xs ys same

  -- ---- one of them

  -- both are there and seen alike, or neither is
  abbrev FoundAlike : Option LaterEntryData → Option LaterEntryData → Type 0
  FoundAlike None None = Unit {0}
  FoundAlike None (Some y) = ⊥
  FoundAlike (Some x) None = ⊥
  FoundAlike (Some x) (Some y) = see x ≡ see y

  find_seen : (n : ℕ) (xs ys : List LaterEntryData) → map see xs ≡ map see ys → FoundAlike (find (λ (e : LaterEntryData). e.number == n) xs) (find (λ (e : LaterEntryData). e.number == n) ys)
  find_seen n [] [] same = tt
  find_seen n [] (y ∷ ys) same = absurd (none_is_some (see y) (map see ys) same)
  find_seen n (x ∷ xs) [] same = absurd (none_is_some (see x) (map see xs) (sym same))
  find_seen n (x ∷ xs) (y ∷ ys) same =
      let first : see x ≡ see y = same_head (see x) (see y) (map see xs) (map see ys) same in
      let number : x.number ≡ y.number = ap (λ (s : SeenEntry). s.number) first in
      elim (cases_Bool (x.number == n)) [
        | inl t ↦ (let u : (y.number == n) ≡ true = ap (λ (k : ℕ). k == n) (sym number) ∙ t in rw (t, u) first)
        | inr f ↦ (let u : (y.number == n) ≡ false = ap (λ (k : ℕ). k == n) (sym number) ∙ f in rw (f, u) (find_seen n xs ys (same_tail (see x) (see y) (map see xs) (map see ys) same)))
      ]

  module _ (st ot : LaterRequestsData) (same : map see st.entries ≡ map see ot.entries) (given : st.given ≡ ot.given) (request : RequestParts) (moment : ℕ) where
    numbered_seen : (named : Option ℕ) → FoundAlike (option_and_then (λ n. numbered n st) named) (option_and_then (λ n. numbered n ot) named)
    numbered_seen None = tt
    numbered_seen (Some n) = find_seen n st.entries ot.entries same

    found_seen : FoundAlike (entry_at home request.to st) (entry_at home request.to ot)
    found_seen = numbered_seen (number_in (address_of home request.to))

    -- ---- effects

    -- what is seen of an effect
    abbrev EffectsAlike : LaterEffect → LaterEffect → Type 0
    EffectsAlike e f = (e.reply ≡ f.reply) × (map see e.requests.entries ≡ map see f.requests.entries) × (e.requests.given ≡ f.requests.given)

    abbrev pub ComeAlike : Option LaterEffect → Option LaterEffect → Type 0
    ComeAlike None None = Unit {0}
    ComeAlike None (Some f) = ⊥
    ComeAlike (Some e) None = ⊥
    ComeAlike (Some e) (Some f) = EffectsAlike e f

    length_seen : length st.entries ≡ length ot.entries
    length_seen = sym (length-map st.entries see) ∙ ap length same ∙ length-map ot.entries see

    full_seen : is_full st ≡ is_full ot
    full_seen =
        ap (λ (n : ℕ). not (nat_lt n most_entries) || not (nat_lt st.given largest_count)) length_seen
        ∙ ap (λ (g : ℕ). not (nat_lt (length ot.entries) most_entries) || not (nat_lt g largest_count)) given

    taken_seen : EffectsAlike (taken_up st o request moment) (taken_up ot o request moment)
    taken_seen = (
      ap (λ (g : ℕ). reply_to request Accepted (Some (uri_content (g + 1)))) given,
      map-append see st.entries (accepted_entry (st.given + 1) o request moment ∷ [])
          ∙ ap (λ (l : List SeenEntry). l ++ see (accepted_entry (st.given + 1) o request moment) ∷ []) same
          ∙ ap (λ (g : ℕ). map see ot.entries ++ see (accepted_entry (g + 1) o request moment) ∷ []) given
          ∙ sym (map-append see ot.entries (accepted_entry (ot.given + 1) o request moment ∷ [])),
      ap (λ (g : ℕ). g + 1) given,
    )

    room_seen : EffectsAlike (taken_up_if_room st o request moment) (taken_up_if_room ot o request moment)
    room_seen = elim (cases_Bool (is_full st)) [
      | inl t ↦ (let u : is_full ot ≡ true = sym full_seen ∙ t in rw (t, u) (refl, same, given))
      | inr f ↦ (let u : is_full ot ≡ false = sym full_seen ∙ f in rw (f, u) taken_seen)
    ]

    own_alike : (op : Op) (x : LaterEntryData) → EffectsAlike (own_effect op st request x) (own_effect op ot request x)
    own_alike Create x = (refl, same, given)
    own_alike Retrieve x = (refl, same, given)
    own_alike Update x = (refl, same, given)
    own_alike Delete x = (refl, without_seen x.number st.entries ot.entries same, given)
    own_alike Notify x = (refl, same, given)

    asked_alike : (x y : LaterEntryData) → see x ≡ see y → EffectsAlike (originator_effect home o st request x) (originator_effect home o ot request y)
    asked_alike x y seen = elim (cases_Bool (owns home o x)) [
      | inl t ↦ (
          let u : owns home o y ≡ true = sym (same_owned x y seen) ∙ t in
          rw (t, u) (subst (λ (z : LaterEntryData). EffectsAlike (own_effect request.op st request x) (own_effect request.op ot request z)) (own_seen x y seen t) (own_alike request.op x)))
      | inr f ↦ (let u : owns home o y ≡ false = sym (same_owned x y seen) ∙ f in rw (f, u) (refl, same, given))
    ]

    naming_alike : (a b : Option LaterEntryData) → FoundAlike a b → ComeAlike (option_map (originator_effect home o st request) a) (option_map (originator_effect home o ot request) b)
    naming_alike None None seen = tt
    naming_alike None (Some y) seen = absurd seen
    naming_alike (Some x) None seen = absurd seen
    naming_alike (Some x) (Some y) seen = asked_alike x y seen

    some_alike : (a b : Option LaterEntryData) → FoundAlike a b → is_some a ≡ is_some b
    some_alike None None seen = refl
    some_alike None (Some y) seen = absurd seen
    some_alike (Some x) None seen = absurd seen
    some_alike (Some x) (Some y) seen = refl

    acceptable_alike : is_acceptable home st request ≡ is_acceptable home ot request
    acceptable_alike =
        ap (λ (b : Bool). wants_later request && is_here (address_of home request.to) && not b) (some_alike (entry_at home request.to st) (entry_at home request.to ot) found_seen)

    acceptance_alike : ComeAlike (acceptance_by home o st moment request) (acceptance_by home o ot moment request)
    acceptance_alike = elim (cases_Bool (is_acceptable home st request)) [
      | inl t ↦ (let u : is_acceptable home ot request ≡ true = sym acceptable_alike ∙ t in rw (t, u) room_seen)
      | inr f ↦ (let u : is_acceptable home ot request ≡ false = sym acceptable_alike ∙ f in rw (f, u) tt)
    ]

    -- by what is seen alone
    pub effects_alike : (status : Rsc) → ComeAlike (later_effect_by home o st moment request status) (later_effect_by home o ot moment request status)
    effects_alike status = elim (cases_Bool (is_status status NonBlocking)) [
      | inl t ↦ rw t acceptance_alike
      | inr f ↦ elim (cases_Bool (is_status status NotFound)) [
        | inl t ↦ rw (f, t) (naming_alike (entry_at home request.to st) (entry_at home request.to ot) found_seen)
        | inr g ↦ rw (f, g) tt
      ]
    ]

  -- ---- what is run

  module _ (p : LaterEntryData → Bool) where
    -- if the entry is picked, it is its own
    abbrev pub PickedOwn : LaterEntryData → Type 0
    PickedOwn e = p e ≡ true → owns home o e ≡ true

    -- what is picked of one is picked of the other
    same_picked : (x y : LaterEntryData) → PickedOwn x → see x ≡ see y → p x ≡ true → x ≡ y
    same_picked x y own seen is = own_seen x y seen (own is)

    pub picked_alike : (xs ys : List LaterEntryData) → map see xs ≡ map see ys → AllByRecursion PickedOwn xs → AllByRecursion PickedOwn ys → filter p xs ≡ filter p ys
    picked_alike [] [] same own owns_too = refl
    picked_alike [] (y ∷ ys) same own owns_too = absurd (none_is_some (see y) (map see ys) same)
    picked_alike (x ∷ xs) [] same own owns_too = absurd (none_is_some (see x) (map see xs) (sym same))
    picked_alike (x ∷ xs) (y ∷ ys) same own owns_too =
        by (picked_alike xs ys (same_tail (see x) (see y) (map see xs) (map see ys) same) own.1 owns_too.1) (cases_Bool (p x)) (cases_Bool (p y))
      where
        first : see x ≡ see y
        first = same_head (see x) (see y) (map see xs) (map see ys) same

        by : (filter p xs ≡ filter p ys) → (p x ≡ true) ⊎ (p x ≡ false) → (p y ≡ true) ⊎ (p y ≡ false) → filter p (x ∷ xs) ≡ filter p (y ∷ ys)
        by rest (inl t) (inl u) = rw (t, u) (ap (λ (e : LaterEntryData). e ∷ filter p xs) (same_picked x y own.0 first t) ∙ ap (λ (l : List LaterEntryData). y ∷ l) rest)
        by rest (inl t) (inr g) = absurd (true≢false (sym t ∙ ap p (same_picked x y own.0 first t) ∙ g))
        by rest (inr f) (inl u) = absurd (true≢false (sym u ∙ ap p (same_picked y x owns_too.0 (sym first) u) ∙ f))
        by rest (inr f) (inr g) = rw (f, g) rest

    -- the two ways of an entry with the runs
    abbrev IsLeftBy : LaterEntryData → List Ran → List Ran → List LaterEntryData → List LaterEntryData → Type 0
    IsLeftBy e ran later left rest =
        ((p e ≡ true) × (r : Ran) × (r.entry ≡ e) × (ran ≡ r ∷ later) × (left ≡ as_ran r ∷ rest))
        ⊎ ((p e ≡ false) × (ran ≡ later) × (left ≡ e ∷ rest))

    -- where the runs are the same, what they leave is seen alike
    pub left_alike : (xs ys : List LaterEntryData) (ran nar : List Ran) (left other : List LaterEntryData) → map see xs ≡ map see ys → AllByRecursion PickedOwn xs → AllByRecursion PickedOwn ys → ran ≡ nar → AreLeft p xs ran left → AreLeft p ys nar other → map see left ≡ map see other
    left_alike [] [] ran nar left other same own owns_too runs are too = ap (map see) (are.1 ∙ sym too.1)
    left_alike [] (y ∷ ys) ran nar left other same own owns_too runs are too = absurd (none_is_some (see y) (map see ys) same)
    left_alike (x ∷ xs) [] ran nar left other same own owns_too runs are too = absurd (none_is_some (see x) (map see xs) (sym same))
    left_alike (x ∷ xs) (y ∷ ys) ran nar left other same own owns_too runs are too =
        by (λ later. left_alike xs ys are.0 too.0 are.1 too.1 (same_tail (see x) (see y) (map see xs) (map see ys) same) own.1 owns_too.1 later are.2 too.2) are.3 too.3
      where
        first : see x ≡ see y
        first = same_head (see x) (see y) (map see xs) (map see ys) same

        by : (are.0 ≡ too.0 → map see are.1 ≡ map see too.1) → IsLeftBy x ran are.0 left are.1 → IsLeftBy y nar too.0 other too.1 → map see left ≡ map see other
        by rest (inl c) (inl d) =
            let both : c.1 ∷ are.0 ≡ d.1 ∷ too.0 = sym c.3 ∙ runs ∙ d.3 in
            let ran_too : c.1 ≡ d.1 = same_head c.1 d.1 are.0 too.0 both in
            ap (map see) c.4
            ∙ ap (λ (r : Ran). see (as_ran r) ∷ map see are.1) ran_too
            ∙ ap (λ (l : List SeenEntry). see (as_ran d.1) ∷ l) (rest (same_tail c.1 d.1 are.0 too.0 both))
            ∙ sym (ap (map see) d.4)
        by rest (inl c) (inr d) = absurd (true≢false (sym c.0 ∙ ap p (same_picked x y own.0 first c.0) ∙ d.0))
        by rest (inr c) (inl d) = absurd (true≢false (sym d.0 ∙ ap p (same_picked y x owns_too.0 (sym first) d.0) ∙ c.0))
        by rest (inr c) (inr d) =
            ap (map see) c.2
            ∙ ap (λ (s : SeenEntry). s ∷ map see are.1) first
            ∙ ap (λ (l : List SeenEntry). see y ∷ l) (rest (sym c.1 ∙ runs ∙ d.1))
            ∙ sym (ap (map see) d.2)
