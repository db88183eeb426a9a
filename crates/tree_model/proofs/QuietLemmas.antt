-- A moment before which nothing is due: under an append, a replacement and a removal.
use Rattle.std.specs.Prelude.{nat_le}
use Rattle.std.proofs.Common.{◌≡◌, ℕ, ◌+◌, ◌<◌, ◌≤◌, ◌≢◌, min, List, [], ◌∷◌, ◌++◌, length, take, get_or, Bool, true, false, cond, Option, Some, None, option_map, Result, Ok, Err, inl, inr, refl, sym, ap, ◌∙◌, subst, arith}
use Rattle.std.proofs.lemmas.Bool.{cases_Bool, cases_eq, and_parts, and_from, leb-true, le-leb, lt-leb, ne_eqb, eq-eqb}
use Rattle.std.proofs.lemmas.List.{take_more}
use Rattle.std.proofs.lemmas.List.Folds.{list_all-append}
use Rattle.std.proofs.lemmas.Option.{same_Some}
use Rattle.std.specs.List.{list_all, list_any}
use Rattle.std.specs.Option.{option_map_or, option_or}
use Rattle.std.specs.Result.{OnOk, OnErr}
use Rattle.m2m_names.specs.declared.attributes.Attr.TheVariants.{Mia}
use Rattle.m2m_names.specs.declared.types.Ty.TheVariants.{CseBase, ContentInstance}
use Rattle.resource_model.specs.Attributes.{count_at}
use Rattle.resource_model.specs.Resource.{ResourceData, is_ty, has_number}
use Rattle.tree_model.specs.Tree.{at, has, replaced, without, is_spared, age_of, age_end, lowered_age, lesser, due, due_under, is_due, live, is_quiet, are_quiet, may_stand, is_tree, standing}
use Rattle.tree_model.proofs.GrowthLemmas.{IsNext, next_fits, growth, below_has, below_lacks, next_above_parent, stands, at-without}
use Rattle.tree_model.proofs.KeptLemmas.{is_tree-replaced, is_tree-without}
use Rattle.tree_model.proofs.LiveLemmas.{due-without, without_none}
use Rattle.tree_model.proofs.TreeLemmas.{at_has, at_none, at-append, at-replaced, at-replaced_other}
use Rattle.m2m_names.proofs.ListLemmas.{all_weaker}
use Rattle.m2m_names.proofs.LookupLemmas.{option_or-None}
use Rattle.m2m_names.specs.declared.types.Ty.{Ty}

-- ---- each, and all

-- what holds of each resource that a number finds holds of all
pub all_by_number : (q : ResourceData → Bool) (nodes : List ResourceData) → is_tree nodes ≡ true → ((r : ResourceData) → at r.number nodes ≡ Some r → q r ≡ true) → list_all q nodes ≡ true
all_by_number q = growth may_stand (λ nodes. ((r : ResourceData) → at r.number nodes ≡ Some r → q r ≡ true) → list_all q nodes ≡ true) (λ each. refl) (λ before r grew next holds each.
    let fact = next_fits before r next in
    let old : (s : ResourceData) → at s.number before ≡ Some s → q s ≡ true = λ s found. each s (at-append s.number before (r ∷ []) ∙ ap (λ (o : Option ResourceData). option_or o (at s.number (r ∷ []))) found) in
    let free : at r.number before ≡ None = at_none r.number before (below_lacks r.number before fact.number) in
    let here : at r.number (r ∷ []) ≡ Some r = rw (eq-eqb r.number r.number refl) refl in
    let new : q r ≡ true = each r (at-append r.number before (r ∷ []) ∙ ap (λ (o : Option ResourceData). option_or o (at r.number (r ∷ []))) free ∙ here) in
    list_all-append q before (r ∷ []) ∙ and_from _ _ (holds old) (and_from _ _ new refl))

-- what holds of all holds of the one that a number finds
pub number_passes : (q : ResourceData → Bool) (n : ℕ) (nodes : List ResourceData) (r : ResourceData) → list_all q nodes ≡ true → at n nodes ≡ Some r → q r ≡ true
number_passes q n [] r all found = cc
number_passes q n (s ∷ nodes) r all found =
    let parts = and_parts (q s) (list_all q nodes) all in
    elim (cases_Bool (has_number n s)) [
      | inl t ↦ ap q (sym (same_Some s r (rw t at found))) ∙ parts.0
      | inr f ↦ number_passes q n nodes r parts.1 (rw f at found)
    ]

-- ---- when a resource is due, by its type

-- the CSEBase never is, an instance may be by its age, and any other is when it expires
pub data DueCase (ty : Ty) : Type 0 where
  due_never : is_ty ty CseBase ≡ true → DueCase ty
  due_by_age : is_ty ty CseBase ≡ false → is_ty ty ContentInstance ≡ true → DueCase ty
  due_by_expiry : is_ty ty CseBase ≡ false → is_ty ty ContentInstance ≡ false → DueCase ty

pub due_case : (ty : Ty) → DueCase ty
due_case ty = elim (cases_Bool (is_ty ty CseBase)) [
  | inl t ↦ due_never t
  | inr f ↦ elim (cases_Bool (is_ty ty ContentInstance)) [
    | inl u ↦ due_by_age f u
    | inr v ↦ due_by_expiry f v
  ]
]

-- what isn't an instance is due whatever it stands under
pub due_plain : (o p : Option ResourceData) (s : ResourceData) → is_ty s.ty ContentInstance ≡ false → due_under o s ≡ due_under p s
due_plain o p s plain = rw plain refl

-- ---- moments

-- a due moment isn't before this one
abbrev pub from : ℕ → Option ℕ → Bool
from until due = option_map_or (λ at. nat_le until at) due true

earlier_from : (early late : ℕ) (due : Option ℕ) → early ≤ late → from late due ≡ true → from early due ≡ true
earlier_from early late None le later = refl
earlier_from early late (Some at) le later = le-leb early at (let l : late ≤ at = leb-true late at later in omega arith)

pub lesser_least : (n : ℕ) (o : Option ℕ) → lesser n o ≤ n
lesser_least n None = omega arith
lesser_least n (Some m) = omega arith

lesser_from : (n : ℕ) (o : Option ℕ) → from (lesser n o) o ≡ true
lesser_from n None = refl
lesser_from n (Some m) = le-leb (min n m) m (omega arith)

-- a moment that is earlier serves too
pub quiet_earlier : (among nodes : List ResourceData) (early late : ℕ) → early ≤ late → list_all (is_quiet among late) nodes ≡ true → list_all (is_quiet among early) nodes ≡ true
quiet_earlier among nodes early late le all = all_weaker (is_quiet among late) (is_quiet among early) (λ r later. earlier_from early late (due among r) le later) nodes all

-- one more
pub quiet_more : (among front : List ResourceData) (until : ℕ) (r : ResourceData) → list_all (is_quiet among until) front ≡ true → list_all (is_quiet among (lesser until (due among r))) (front ++ r ∷ []) ≡ true
quiet_more among front until r all =
    list_all-append _ front (r ∷ [])
    ∙ and_from _ _ (quiet_earlier among front (lesser until (due among r)) until (lesser_least until (due among r)) all) (and_from _ _ (lesser_from until (due among r)) refl)

-- one more of those that are gone over
pub quiet_turn : (among : List ResourceData) (i until next : ℕ) (end : Option ℕ) (r : ResourceData) → i < length among → r ≡ get_or among i r → next ≡ lesser until end → end ≡ due among r → list_all (is_quiet among until) (take i among) ≡ true → list_all (is_quiet among next) (take (i + 1) among) ≡ true
quiet_turn among i until next end r within read is when all =
    let front : take (i + 1) among ≡ take i among ++ r ∷ [] = take_more among i r within ∙ ap (λ (s : ResourceData). take i among ++ s ∷ []) (sym read) in
    ap (λ n. list_all (is_quiet among n) (take (i + 1) among)) (is ∙ ap (lesser until) when)
    ∙ ap (list_all (is_quiet among (lesser until (due among r)))) front
    ∙ quiet_more among (take i among) until r all

-- before the moment nothing is due
quiet_none : (among nodes : List ResourceData) (until moment : ℕ) → moment < until → list_all (is_quiet among until) nodes ≡ true → list_any (is_due among moment) nodes ≡ false
quiet_none among [] until moment before all = refl
quiet_none among (r ∷ nodes) until moment before all =
    let parts = and_parts (is_quiet among until r) _ all in
    rw (not_due (due among r) parts.0) (quiet_none among nodes until moment before parts.1)
  where
    not_due : (o : Option ℕ) → from until o ≡ true → option_map_or (λ at. nat_le at moment) o false ≡ false
    not_due None later = refl
    not_due (Some at) later = lt-leb at moment (let l : until ≤ at = leb-true until at later in omega arith)

pub quiet_live : (nodes : List ResourceData) (until moment : ℕ) → is_tree nodes ≡ true → are_quiet until nodes ≡ true → moment < until → live moment nodes ≡ nodes
quiet_live nodes until moment tree quiet before = without_none (is_due nodes moment) nodes tree (quiet_none nodes nodes until moment before quiet)

-- ---- an append

-- a parent that isn't the new one is read as before
pub due-append : (nodes : List ResourceData) (r s : ResourceData) → s.parent < r.number → due (nodes ++ r ∷ []) s ≡ due nodes s
due-append nodes r s before =
    let apart : has_number s.parent r ≡ false = ne_eqb r.number s.parent (λ e. omega arith) in
    let same : at s.parent (nodes ++ r ∷ []) ≡ at s.parent nodes = at-append s.parent nodes (r ∷ []) ∙ rw apart (option_or-None (at s.parent nodes)) in
    ap (λ (o : Option ResourceData). due_under o s) same

pub quiet-append : (nodes : List ResourceData) (r : ResourceData) (until : ℕ) → is_tree nodes ≡ true → IsNext nodes r → are_quiet until nodes ≡ true → are_quiet (lesser until (due nodes r)) (nodes ++ r ∷ []) ≡ true
quiet-append nodes r until tree next quiet =
    let early = lesser until (due nodes r) in
    let all : list_all (is_quiet nodes early) nodes ≡ true = quiet_earlier nodes nodes early until (lesser_least until (due nodes r)) quiet in
    let old : list_all (is_quiet (nodes ++ r ∷ []) early) nodes ≡ true = all_by_number (is_quiet (nodes ++ r ∷ []) early) nodes tree (λ s found.
    let above : s.parent < s.number = (stands nodes tree s.number s found).above in
    let below : s.number < r.number = below_has r.number s.number nodes next.number (at_has s.number nodes s found) in
    ap (from early) (due-append nodes r s (omega arith)) ∙ number_passes (is_quiet nodes early) s.number nodes s all found) in
    let new : is_quiet (nodes ++ r ∷ []) early r ≡ true = ap (from early) (due-append nodes r r (next_above_parent nodes r next)) ∙ lesser_from until (due nodes r) in
    list_all-append _ nodes (r ∷ []) ∙ and_from _ _ old (and_from _ _ new refl)

-- whether it had room or not
pub quiet_pushed : {T E : Type 0} (result : Result T E) (nodes after : List ResourceData) (r : ResourceData) (until : ℕ) → OnOk result (after ≡ nodes ++ r ∷ []) → OnErr result (after ≡ nodes) → is_tree nodes ≡ true → IsNext nodes r → are_quiet until nodes ≡ true → are_quiet (lesser until (due nodes r)) after ≡ true
quiet_pushed (Ok _) nodes after r until ok err tree next quiet = ap (are_quiet (lesser until (due nodes r))) ok ∙ quiet-append nodes r until tree next quiet
quiet_pushed (Err _) nodes after r until ok err tree next quiet = ap (are_quiet (lesser until (due nodes r))) err ∙ quiet_earlier nodes nodes _ until (lesser_least until (due nodes r)) quiet

-- ---- a replacement

-- what stands below another resource is due as before, and what stands below the new one as that
-- says
pub due-replaced_other : (nodes : List ResourceData) (r s : ResourceData) → s.parent ≢ r.number → due (replaced r nodes) s ≡ due nodes s
due-replaced_other nodes r s apart = ap (λ (o : Option ResourceData). due_under o s) (at-replaced_other s.parent r nodes apart)

-- an instance whose container allows another age is due when it expires, or at that age, which is no
-- earlier where that isn't lower
lowered_from : (until et ct : ℕ) (old age : Option ℕ) → from until (lowered_age old age) ≡ true → until ≤ lesser et (option_map (λ a. ct + a) old) → until ≤ lesser et (option_map (λ a. ct + a) age)
lowered_from until et ct None None young end = end
lowered_from until et ct None (Some age) young end = (let least : until ≤ age = leb-true until age young in omega arith)
lowered_from until et ct (Some old) None young end = omega arith
lowered_from until et ct (Some old) (Some age) young end = elim (cases_Bool (nat_le old age)) [
  | inl t ↦ (let less : old ≤ age = leb-true old age t in omega arith)
  | inr f ↦ (let least : until ≤ age = leb-true until age (rw f at young) in omega arith)
]

aged_from : (until : ℕ) (o : Option ResourceData) (r s : ResourceData) → from until (lowered_age (age_of o) (count_at Mia r.attrs)) ≡ true → from until (due_under o s) ≡ true → from until (due_under (Some r) s) ≡ true
aged_from until o r s young old = elim (due_case s.ty) [
  | due_never t ↦ rw t refl
  | due_by_age f u ↦
      let end : until ≤ lesser s.et (age_end o s) = leb-true until (lesser s.et (age_end o s)) (rw (f, u) at old) in
      rw (f, u) (le-leb until _ (lowered_from until s.et s.ct (age_of o) (count_at Mia r.attrs) young end))
  | due_by_expiry f v ↦ rw (f, v) (rw (f, v) at old)
]

-- the age that the new one allows, where instances are due earlier by it
abbrev pub age_after : List ResourceData → ResourceData → Option ℕ
age_after nodes r = lowered_age (age_of (at r.number nodes)) (count_at Mia r.attrs)

-- the moment before which nothing is due once a resource has taken its place
abbrev pub quiet_after : List ResourceData → ResourceData → ℕ → ℕ
quiet_after nodes r until = lesser (lesser until (due nodes r)) (age_after nodes r)

-- the resource whose place it takes
record Stood (nodes : List ResourceData) (r : ResourceData) : Type 0 where
  there : has r.number nodes ≡ true
  parent : r.parent < r.number

stood_by : (nodes : List ResourceData) (r : ResourceData) (o : Option ResourceData) → is_tree nodes ≡ true → at r.number nodes ≡ o → option_map standing o ≡ Some (standing r) → Stood nodes r
stood_by nodes r None tree is stood = cc
stood_by nodes r (Some s) tree is stood =
    let above : s.parent < r.number = (stands nodes tree r.number s is).above in
    let same : s.parent ≡ r.parent = ap (λ x. x.2) (same_Some (standing s) (standing r) stood) in
    record { there = at_has r.number nodes s is; parent = omega arith }

replaced_each : (nodes : List ResourceData) (r s : ResourceData) (early : ℕ) → Stood nodes r → list_all (is_quiet nodes early) nodes ≡ true → from early (due nodes r) ≡ true → from early (age_after nodes r) ≡ true → at s.number (replaced r nodes) ≡ Some s → is_quiet (replaced r nodes) early s ≡ true
replaced_each nodes r s early stood all own young found = elim (cases_eq s.number r.number) [
  | inl same ↦
      let is : r ≡ s = same_Some r s (sym (at-replaced r nodes stood.there) ∙ ap (λ (n : ℕ). at n (replaced r nodes)) (sym same) ∙ found) in
      let up : at r.parent (replaced r nodes) ≡ at r.parent nodes = at-replaced_other r.parent r nodes (λ e. let less : r.parent < r.number = stood.parent in omega arith) in
      subst (λ (x : ResourceData). is_quiet (replaced r nodes) early x ≡ true) is (ap (λ (o : Option ResourceData). from early (due_under o r)) up ∙ own)
  | inr apart ↦
      let before : at s.number nodes ≡ Some s = sym (at-replaced_other s.number r nodes apart) ∙ found in
      let held : from early (due_under (at s.parent nodes) s) ≡ true = number_passes (is_quiet nodes early) s.number nodes s all before in
      elim (cases_eq s.parent r.number) [
        | inl under ↦
            let up : at s.parent (replaced r nodes) ≡ Some r = ap (λ (n : ℕ). at n (replaced r nodes)) under ∙ at-replaced r nodes stood.there in
            let aged : from early (lowered_age (age_of (at s.parent nodes)) (count_at Mia r.attrs)) ≡ true = ap (λ (n : ℕ). from early (lowered_age (age_of (at n nodes)) (count_at Mia r.attrs))) under ∙ young in
            ap (λ (o : Option ResourceData). from early (due_under o s)) up ∙ aged_from early (at s.parent nodes) r s aged held
        | inr other ↦ ap (λ (o : Option ResourceData). from early (due_under o s)) (at-replaced_other s.parent r nodes other) ∙ held
      ]
]

pub quiet-replaced : (nodes : List ResourceData) (r : ResourceData) (until : ℕ) → is_tree nodes ≡ true → option_map standing (at r.number nodes) ≡ Some (standing r) → are_quiet until nodes ≡ true → are_quiet (quiet_after nodes r until) (replaced r nodes) ≡ true
quiet-replaced nodes r until tree stood quiet =
    let own = lesser until (due nodes r) in
    let first : own ≤ until = lesser_least until (due nodes r) in
    let second : lesser own (age_after nodes r) ≤ own = lesser_least own (age_after nodes r) in
    all_by_number (is_quiet (replaced r nodes) (quiet_after nodes r until)) (replaced r nodes) (is_tree-replaced r nodes stood ∙ tree) (λ s found.
    replaced_each nodes r s (quiet_after nodes r until) (stood_by nodes r (at r.number nodes) tree refl stood)
    (quiet_earlier nodes nodes (quiet_after nodes r until) until (omega (arith, first, second)) quiet)
    (earlier_from (quiet_after nodes r until) own (due nodes r) second (lesser_from until (due nodes r)))
    (lesser_from own (age_after nodes r)) found)

-- ---- a removal

found_spared : (spared : Bool) (o : Option ResourceData) (s : ResourceData) → cond spared o None ≡ Some s → (spared ≡ true) × (o ≡ Some s)
found_spared true o s found = (refl, found)
found_spared false o s found = cc

pub quiet-without : (p : ResourceData → Bool) (nodes : List ResourceData) (until : ℕ) → is_tree nodes ≡ true → are_quiet until nodes ≡ true → are_quiet until (without p nodes) ≡ true
quiet-without p nodes until tree quiet = all_by_number (is_quiet (without p nodes) until) (without p nodes) (is_tree-without p nodes tree) (λ s found.
    let left = found_spared (is_spared p nodes s.number) (at s.number nodes) s (sym (at-without p s.number nodes tree) ∙ found) in
    ap (from until) (due-without p nodes s tree left.1 left.0) ∙ number_passes (is_quiet nodes until) s.number nodes s quiet left.1)
