-- Two lists of subscriptions as one, in order of creation.
use Rattle.std.specs.Prelude.{nat_lt, slice_get, filter, drop, option_map, IfSome, MatchOption}
use Rattle.std.proofs.Common.{◌≡◌, ℕ, zero, suc, ◌+◌, ◌<◌, ◌==◌, Bor, List, [], ◌∷◌, ◌++◌, Bool, true, false, not, ◌||◌, Option, Some, None, refl, sym, ap, ◌∙◌, subst, inl, inr, arith}
use Rattle.std.proofs.lemmas.Bool.{cases_Bool, and_parts, eqb-true, ltb-true, le-ltb, both_ways}
use Rattle.std.proofs.lemmas.List.Elements.{filter_map-append}
use Rattle.std.specs.List.{filter_map, list_any, AllByRecursion}
use Rattle.m2m_names.specs.declared.types.Ty.TheVariants.{Subscription}
use Rattle.resource_model.specs.Resource.{ResourceData, is_ty}
use Rattle.tree_model.specs.Tree.{is_kin, is_tree}
use Rattle.tree_model.proofs.OrderLemmas.{are_above, ascend, tree_ascends, above_filter}
use Rattle.tree_model.proofs.StepLemmas.{dropped_none, dropped_some}
use Rattle.tree_model.specs.Changes.{ChangeData, created, updated, deleted}
use Rattle.resource_model.specs.Home.{HomeData}
use Rattle.subscription_match.specs.Matching.{AreHeard, above_of, does_hear, event_for, heard_above, is_deaf, is_sub_of, is_sub_of_either, own_of}
use Rattle.subscription_match.specs.Notices.{told, told_as, told_to_all}
use Rattle.subscription_match.proofs.HeardLemmas.{deaf_so}
use Rattle.subscription_match.specs.Watching.{by_number, comes_next, subs_under, unless_same}

-- ---- which of two lists goes on

one_goes_on : (r s : ResourceData) (rs ss : List ResourceData) → nat_lt s.number r.number ≡ false → by_number (r ∷ rs) (s ∷ ss) ≡ r ∷ by_number rs (s ∷ ss)
one_goes_on r s rs ss later = rw later refl

other_goes_on : (r s : ResourceData) (rs ss : List ResourceData) → nat_lt s.number r.number ≡ true → by_number (r ∷ rs) (s ∷ ss) ≡ s ∷ by_number (r ∷ rs) ss
other_goes_on r s rs ss less = rw less refl

not_true : (b : Bool) → not b ≡ true → b ≡ false
not_true true h = sym h
not_true false h = refl

not_false : (b : Bool) → not b ≡ false → b ≡ true
not_false true h = refl
not_false false h = sym h

front_one : (r : ResourceData) (rs ss : List ResourceData) (o : Option ResourceData) → slice_get ss 0 ≡ o → comes_next (Some r) o ≡ true → by_number (r ∷ rs) ss ≡ r ∷ by_number rs ss
front_one r rs [] o is first = refl
front_one r rs (s ∷ ss) o is first =
    let here : comes_next (Some r) (Some s) ≡ true = ap (comes_next (Some r)) is ∙ first in
    one_goes_on r s rs ss (not_true (nat_lt s.number r.number) here)

front_other : (s : ResourceData) (rs ss : List ResourceData) (o : Option ResourceData) → slice_get rs 0 ≡ o → comes_next o (Some s) ≡ false → by_number rs (s ∷ ss) ≡ s ∷ by_number rs ss
front_other s [] ss o is later = refl
front_other s (r ∷ rs) ss o is later =
    let here : comes_next (Some r) (Some s) ≡ false = ap (λ (x : Option ResourceData). comes_next x (Some s)) is ∙ later in
    other_goes_on r s rs ss (not_false (nat_lt s.number r.number) here)

-- where nothing is in front, the other list is empty
no_front : (ss : List ResourceData) → comes_next None (slice_get ss 0) ≡ true → ss ≡ []
no_front [] first = refl
no_front (s ∷ ss) first = absurd (both_ways _ refl first)

pub none_left : (rs : List ResourceData) (k : ℕ) (o : Option (Bor ResourceData)) → option_map (λ r. r.now) o ≡ slice_get rs k → o ≡ None → drop k rs ≡ []
none_left rs k o found none = dropped_none rs k (sym found ∙ ap (option_map (λ r. r.now)) none)

pub some_left : (rs : List ResourceData) (k : ℕ) (o : Option (Bor ResourceData)) (r : Bor ResourceData) → option_map (λ r. r.now) o ≡ slice_get rs k → o ≡ Some r → drop k rs ≡ r.now ∷ drop (k + 1) rs
some_left rs k o r found some = dropped_some rs k r.now (sym found ∙ ap (option_map (λ r. r.now)) some)

pub head_dropped : (rs : List ResourceData) (k : ℕ) → slice_get (drop k rs) 0 ≡ slice_get rs k
head_dropped [] zero = refl
head_dropped [] (suc k) = refl
head_dropped (r ∷ rs) zero = refl
head_dropped (r ∷ rs) (suc k) = head_dropped rs k

-- what was asked of the first of each
pub firsts : (rs ss : List ResourceData) (one other : Option ResourceData) (b want : Bool) → one ≡ slice_get rs 0 → other ≡ slice_get ss 0 → b ≡ comes_next one other → b ≡ want → comes_next (slice_get rs 0) (slice_get ss 0) ≡ want
firsts rs ss one other b want own above asked is =
    ap (λ (o : Option ResourceData). comes_next o (slice_get ss 0)) (sym own)
    ∙ ap (comes_next one) (sym above) ∙ sym asked ∙ is

-- what is taken is the first of a list, of which the rest is left
abbrev pub Takes : List ResourceData → Option (Bor ResourceData) → List ResourceData → Type 0
Takes left o rest = MatchOption o ((left ≡ []) × (rest ≡ [])) (λ r. left ≡ r.now ∷ rest)

-- what the one list gives is the next, where its first comes next
pub one_gives : (rs ss rest left : List ResourceData) (o : Option (Bor ResourceData)) → by_number rs ss ≡ left → comes_next (slice_get rs 0) (slice_get ss 0) ≡ true → Takes rs o rest → Takes left o (by_number rest ss)
one_gives rs ss rest left None view first ends =
    let empty : ss ≡ [] = no_front ss (subst (λ (xs : List ResourceData). comes_next (slice_get xs 0) (slice_get ss 0) ≡ true) ends.0 first) in
    (sym view ∙ ap (λ (xs : List ResourceData). by_number xs ss) ends.0 ∙ empty, ap (λ (xs : List ResourceData). by_number xs ss) ends.1 ∙ empty)
one_gives rs ss rest left (Some r) view first is =
    let here : comes_next (Some r.now) (slice_get ss 0) ≡ true = subst (λ (xs : List ResourceData). comes_next (slice_get xs 0) (slice_get ss 0) ≡ true) is first in
    sym view ∙ ap (λ (xs : List ResourceData). by_number xs ss) is ∙ front_one r.now rest ss (slice_get ss 0) refl here

-- what the other gives is the next, where the first of the one doesn't come next
pub other_gives : (rs ss rest left : List ResourceData) (o : Option (Bor ResourceData)) → by_number rs ss ≡ left → comes_next (slice_get rs 0) (slice_get ss 0) ≡ false → Takes ss o rest → Takes left o (by_number rs rest)
other_gives rs ss rest left None view later ends =
    let here : comes_next (slice_get rs 0) None ≡ false = subst (λ (xs : List ResourceData). comes_next (slice_get rs 0) (slice_get xs 0) ≡ false) ends.0 later in
    absurd (both_ways _ here refl)
other_gives rs ss rest left (Some s) view later is =
    let here : comes_next (slice_get rs 0) (Some s.now) ≡ false = subst (λ (xs : List ResourceData). comes_next (slice_get rs 0) (slice_get xs 0) ≡ false) is later in
    sym view ∙ ap (by_number rs) is ∙ front_other s.now rs rest (slice_get rs 0) refl here

-- ---- where a subscription stands

none_under : (nodes : List ResourceData) → subs_under None nodes ≡ []
none_under [] = refl
none_under (r ∷ nodes) = none_under nodes

-- under no resource stands none
pub no_place : (o : Option (Bor ResourceData)) (parent : Option ℕ) (nodes : List ResourceData) (k : ℕ) → parent ≡ None → o ≡ None → option_map (λ r. r.now) o ≡ slice_get (subs_under parent nodes) k
no_place o parent nodes k is none =
    ap (option_map (λ r. r.now)) none
    ∙ ap (λ (rs : List ResourceData). slice_get rs k) (sym (none_under nodes))
    ∙ ap (λ (p : Option ℕ). slice_get (subs_under p nodes) k) (sym is)

-- ---- both lists together

skips_above : (r : ResourceData) (rs ss : List ResourceData) → are_above r.number ss ≡ true → by_number (r ∷ rs) ss ≡ r ∷ by_number rs ss
skips_above r rs [] above = refl
skips_above r rs (s ∷ ss) above =
    let parts = and_parts (nat_lt r.number s.number) (are_above r.number ss) above in
    let less : r.number < s.number = ltb-true r.number s.number parts.0 in
    one_goes_on r s rs ss (le-ltb s.number r.number (omega arith))

takes_below : (s : ResourceData) (rs ss : List ResourceData) → are_above s.number rs ≡ true → by_number rs (s ∷ ss) ≡ s ∷ by_number rs ss
takes_below s [] ss above = refl
takes_below s (r ∷ rs) ss above =
    other_goes_on r s rs ss (and_parts (nat_lt s.number r.number) (are_above s.number rs) above).0

-- what passes one of two tests, which nothing passes both of
merged : (p q : ResourceData → Bool) → ((r : ResourceData) → p r ≡ true → q r ≡ false) → (nodes : List ResourceData) → ascend nodes ≡ true → by_number (filter p nodes) (filter q nodes) ≡ filter (λ r. p r || q r) nodes
merged p q apart [] order = refl
merged p q apart (r ∷ nodes) order =
    let parts = and_parts (are_above r.number nodes) (ascend nodes) order in
    let rest = merged p q apart nodes parts.1 in
    elim (cases_Bool (p r)) [
      | inl t ↦ (let f = apart r t in
          rw (t, f) (skips_above r (filter p nodes) (filter q nodes) (above_filter q r.number nodes parts.0) ∙ ap (λ (xs : List ResourceData). r ∷ xs) rest))
      | inr f ↦ elim (cases_Bool (q r)) [
        | inl t ↦ rw (f, t) (takes_below r (filter p nodes) (filter q nodes) (above_filter p r.number nodes parts.0) ∙ ap (λ (xs : List ResourceData). r ∷ xs) rest)
        | inr g ↦ rw (f, g) rest
      ]
    ]

same_filter : (p q : ResourceData → Bool) → ((r : ResourceData) → p r ≡ q r) → (rs : List ResourceData) → filter p rs ≡ filter q rs
same_filter p q same [] = refl
same_filter p q same (r ∷ rs) = elim (cases_Bool (q r)) [
  | inl t ↦ rw (same r ∙ t, t) (ap (λ (xs : List ResourceData). r ∷ xs) (same_filter p q same rs))
  | inr f ↦ rw (same r ∙ f, f) (same_filter p q same rs)
]

other : (n m : ℕ) (r : ResourceData) → r.parent ≡ n → (n == m) ≡ false → is_kin Subscription m r ≡ false
other n m r is f = rw (subst (λ (x : ℕ). (x == m) ≡ false) (sym is) f) refl

apart : (own above : Option ℕ) (r : ResourceData) → is_sub_of own r ≡ true → is_sub_of (unless_same own above) r ≡ false
apart own None r under = refl
apart None (Some m) r under = absurd (both_ways _ refl under)
apart (Some n) (Some m) r under = elim (cases_Bool (n == m)) [
  | inl t ↦ rw t refl
  | inr f ↦ rw f (other n m r (eqb-true r.parent n (and_parts (r.parent == n) (is_ty r.ty Subscription) under).0) f)
]

either_same : (own above : Option ℕ) (r : ResourceData) → (is_sub_of own r || is_sub_of (unless_same own above) r) ≡ is_sub_of_either own above r
either_same own None r = refl
either_same None (Some m) r = refl
either_same (Some n) (Some m) r = elim (cases_Bool (n == m)) [
  | inl t ↦ rw t (subst (λ (x : ℕ). (is_kin Subscription n r || false) ≡ (is_kin Subscription n r || is_kin Subscription x r)) (eqb-true n m t) (twice (is_kin Subscription n r)))
  | inr f ↦ rw f refl
]
  where
    twice : (b : Bool) → (b || false) ≡ (b || b)
    twice true = refl
    twice false = refl

-- the two lists together are the subscriptions under either resource
watched : (own above : Option ℕ) (nodes : List ResourceData) → is_tree nodes ≡ true → filter (is_sub_of_either own above) nodes ≡ by_number (subs_under own nodes) (subs_under (unless_same own above) nodes)
watched own above nodes tree =
    sym (merged (is_sub_of own) (is_sub_of (unless_same own above)) (apart own above) nodes (tree_ascends nodes tree)
    ∙ same_filter _ _ (either_same own above) nodes)

none_either : (nodes : List ResourceData) → filter (is_sub_of_either None None) nodes ≡ []
none_either [] = refl
none_either (r ∷ nodes) = none_either nodes

-- the same, where a tree is known of only where a resource is given
pub watched_by : (own above : Option ℕ) (nodes : List ResourceData) → IfSome own (λ _. is_tree nodes ≡ true) → IfSome (unless_same own above) (λ _. is_tree nodes ≡ true) → filter (is_sub_of_either own above) nodes ≡ by_number (subs_under own nodes) (subs_under (unless_same own above) nodes)
watched_by (Some n) above nodes tree other = watched (Some n) above nodes tree
watched_by None (Some m) nodes one tree = watched None (Some m) nodes tree
watched_by None None nodes one other =
    none_either nodes ∙ sym (ap (λ (rs : List ResourceData). by_number rs (subs_under None nodes)) (none_under nodes) ∙ none_under nodes)

-- ---- what is under neither is told nothing

-- what gives nothing at all that fails a test gives the same of what passes it
pub narrowed : {Y : Type 0} (h : ResourceData → Option Y) (p : ResourceData → Bool) → ((r : ResourceData) → p r ≡ false → h r ≡ None) → (rs : List ResourceData) → filter_map h (filter p rs) ≡ filter_map h rs
narrowed h p none [] = refl
narrowed {Y = Y} h p none (r ∷ rs) =
    let split : filter_map h (r ∷ rs) ≡ filter_map h (r ∷ []) ++ filter_map h rs = filter_map-append h (r ∷ []) rs in
    elim (cases_Bool (p r)) [
      | inl t ↦ rw t (filter_map-append h (r ∷ []) (filter p rs) ∙ ap (λ (ys : List Y). filter_map h (r ∷ []) ++ ys) (narrowed h p none rs) ∙ sym split)
      | inr f ↦ rw f (narrowed h p none rs ∙ sym (rw (none r f) refl))
    ]

neither : (a b : Bool) → (a || b) ≡ false → (a ≡ false) × (b ≡ false)
neither true b h = absurd (both_ways _ h refl)
neither false b h = (refl, h)

event_elsewhere : (going : List ℕ) (change : ChangeData) (r : ResourceData) → is_sub_of_either (own_of change) (above_of change) r ≡ false → event_for going change r ≡ None
event_elsewhere going (created new) r elsewhere =
    let above : is_sub_of (Some new.parent) r ≡ false = (neither (is_sub_of None r) (is_sub_of (Some new.parent) r) elsewhere).1 in
    rw above refl
event_elsewhere going (updated before after named) r elsewhere =
    let own : is_sub_of (Some after.number) r ≡ false = (neither (is_sub_of (Some after.number) r) (is_sub_of None r) elsewhere).0 in
    rw own refl
event_elsewhere going (deleted gone) r elsewhere =
    let both = neither (is_sub_of (Some gone.number) r) (is_sub_of (Some gone.parent) r) elsewhere in
    let own : is_sub_of (Some gone.number) r ≡ false = both.0 in
    let above : is_sub_of (Some gone.parent) r ≡ false = both.1 in
    rw (own, above) refl

-- those under the changed resource and its parent are told all that is told of a change
pub told_there : (home : HomeData) (nodes rs : List ResourceData) (going : List ℕ) (change : ChangeData) → rs ≡ filter (is_sub_of_either (own_of change) (above_of change)) nodes → filter_map (told home nodes going change) rs ≡ told_to_all home nodes going change
told_there home nodes rs going change is =
    ap (filter_map (told home nodes going change)) is
    ∙ narrowed (told home nodes going change) (is_sub_of_either (own_of change) (above_of change))
    (λ r elsewhere. ap (option_map (told_as home nodes change r)) (event_elsewhere going change r elsewhere)) nodes

-- what gives nothing of those of a list that fail a test gives the same of those that pass it
narrowed_each : {Y : Type 0} (h : ResourceData → Option Y) (p : ResourceData → Bool) (rs : List ResourceData) → AllByRecursion (λ r. p r ≡ false → h r ≡ None) rs → filter_map h (filter p rs) ≡ filter_map h rs
narrowed_each h p [] each = refl
narrowed_each {Y = Y} h p (r ∷ rs) each =
    let split : filter_map h (r ∷ rs) ≡ filter_map h (r ∷ []) ++ filter_map h rs = filter_map-append h (r ∷ []) rs in
    elim (cases_Bool (p r)) [
      | inl t ↦ rw t (filter_map-append h (r ∷ []) (filter p rs) ∙ ap (λ (ys : List Y). filter_map h (r ∷ []) ++ ys) (narrowed_each h p rs each.1) ∙ sym split)
      | inr f ↦ rw f (narrowed_each h p rs each.1 ∙ sym (rw (each.0 f) refl))
    ]

-- one under a resource of whose children's deletions nobody is told, and not under the child, is
-- told nothing
module _ (home : HomeData) (nodes : List ResourceData) (going : List ℕ) (gone : ResourceData) where
  no_event : (r : ResourceData) → is_sub_of (Some gone.number) r ≡ false → is_sub_of (Some gone.parent) r ≡ true → does_hear going r ≡ false → event_for going (deleted gone) r ≡ None
  no_event r own under deaf = rw (own, under, deaf) refl

  apart_from : (r : ResourceData) → is_sub_of (Some gone.number) r ≡ false → is_sub_of (Some gone.parent) r ≡ false → event_for going (deleted gone) r ≡ None
  apart_from r own above = rw (own, above) refl

  unheard : (r : ResourceData) → is_sub_of (Some gone.parent) r ≡ true → does_hear going r ≡ false → is_sub_of_either (Some gone.number) None r ≡ false → told home nodes going (deleted gone) r ≡ None
  unheard r under deaf elsewhere =
      let own : is_sub_of (Some gone.number) r ≡ false = (neither (is_sub_of (Some gone.number) r) (is_sub_of None r) elsewhere).0 in
      ap (option_map (told_as home nodes (deleted gone) r)) (no_event r own under deaf)

  unheard_each : (rs : List ResourceData) → list_any (does_hear going) (filter (is_sub_of (Some gone.parent)) rs) ≡ false → AllByRecursion (λ r. is_sub_of_either (Some gone.number) None r ≡ false → told home nodes going (deleted gone) r ≡ None) rs
  unheard_each [] none = tt
  unheard_each (r ∷ rs) none = elim (cases_Bool (is_sub_of (Some gone.parent) r)) [
    | inl t ↦
        let parts = neither (does_hear going r) (list_any (does_hear going) (filter (is_sub_of (Some gone.parent)) rs)) (rw t at none) in
        (unheard r t parts.0, unheard_each rs parts.1)
    | inr f ↦ (unlike r f, unheard_each rs (rw f at none))
  ]
    where
      unlike : (s : ResourceData) → is_sub_of (Some gone.parent) s ≡ false → is_sub_of_either (Some gone.number) None s ≡ false → told home nodes going (deleted gone) s ≡ None
      unlike s f elsewhere =
          let own : is_sub_of (Some gone.number) s ≡ false = (neither (is_sub_of (Some gone.number) s) (is_sub_of None s) elsewhere).0 in
          ap (option_map (told_as home nodes (deleted gone) s)) (apart_from s own f)

-- those under the changed resource, and those under its parent where it isn't noted that none of them
-- is told, are told all that is told of a change
pub told_heard : (home : HomeData) (nodes rs : List ResourceData) (going : List ℕ) (rows : List (ℕ × Bool)) (change : ChangeData) → AreHeard going nodes rows → rs ≡ filter (is_sub_of_either (own_of change) (heard_above rows change)) nodes → filter_map (told home nodes going change) rs ≡ told_to_all home nodes going change
told_heard home nodes rs going rows (created new) so is = told_there home nodes rs going (created new) is
told_heard home nodes rs going rows (updated before after named) so is = told_there home nodes rs going (updated before after named) is
told_heard home nodes rs going rows (deleted gone) so is = elim (cases_Bool (is_deaf rows gone.parent)) [
  | inl t ↦
      let alone : rs ≡ filter (is_sub_of_either (Some gone.number) None) nodes = is ∙ ap (λ (o : Option ℕ). filter (is_sub_of_either (Some gone.number) o) nodes) (deaf t) in
      ap (filter_map (told home nodes going (deleted gone))) alone
      ∙ narrowed_each (told home nodes going (deleted gone)) (is_sub_of_either (Some gone.number) None) nodes (unheard_each home nodes going gone nodes (deaf_so going nodes rows gone.parent so t))
  | inr f ↦ told_there home nodes rs going (deleted gone) (is ∙ ap (λ (o : Option ℕ). filter (is_sub_of_either (Some gone.number) o) nodes) (sought f))
]
  where
    deaf : is_deaf rows gone.parent ≡ true → heard_above rows (deleted gone) ≡ None
    deaf t = rw t refl

    sought : is_deaf rows gone.parent ≡ false → heard_above rows (deleted gone) ≡ Some gone.parent
    sought f = rw f refl
