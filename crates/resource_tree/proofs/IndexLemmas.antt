-- The queues and sums of a list that grows at its end, and of what stays of a list.
use Rattle.std.specs.Prelude.{nat_eq, nat_lt}
use Rattle.std.proofs.Common.{◌≡◌, ◌==◌, ℕ, ◌+◌, ◌-◌, List, [], ◌∷◌, ◌++◌, length, find, Bool, true, false, cond, pos, ◌&&◌, Option, Some, None, option_map, sum_by, inl, inr, refl, sym, ap, ◌∙◌, subst, arith, zero-add}
use Rattle.std.proofs.lemmas.Bool.{cases_Bool, and_parts, or_parts, eq-eqb, eqb-true}
use Rattle.std.proofs.lemmas.List.{append-nil, map-append}
use Rattle.std.proofs.lemmas.List.Elements.{filter-append}
use Rattle.std.proofs.lemmas.List.Sums.{sum_by-cons}
use Rattle.std.proofs.lemmas.Option.{same_Some}
use Rattle.std.specs.HashMap.{HashMap, get}
use Rattle.std.specs.List.{filter, list_all, slice_get}
use Rattle.std.specs.Option.{option_map_or}
use Rattle.m2m_names.specs.declared.attributes.Attr.{Attr}
use Rattle.m2m_names.specs.declared.attributes.Attr.TheVariants.{Exc, St}
use Rattle.m2m_names.specs.declared.types.Ty.{Ty}
use Rattle.m2m_names.specs.declared.types.Ty.TheVariants.{ContentInstance, PollingChannel, Subscription}
use Rattle.m2m_value.specs.Data.{Data, number as whole_number}
use Rattle.resource_model.specs.Resource.{ResourceData, has_number, is_ty}
use Rattle.tree_model.specs.Tree.{are_below, at, children_of, has, instance_size, is_kin, is_tree, is_under, may_stand, numbers_of, replaced, recounted, recounted_at, resource_number, restamped, restamped_at, sizes_of, standing, without, is_spared}
use Rattle.tree_model.proofs.ChangeLemmas.{sum-replaced, unpicked-replaced}
use Rattle.resource_store.proofs.LeafLemmas.{missing_others, others}
use Rattle.tree_model.proofs.GrowthLemmas.{below_lacks, has-without, next_fits, without-spared}
use Rattle.tree_model.proofs.OrderLemmas.{above_lacks, ascend, ascend_parts, tree_ascends}
use Rattle.tree_model.proofs.MarkLemmas.{marked, IsAside, exc_aside, st_aside, stood_marked}
use Rattle.tree_model.proofs.TreeLemmas.{at_none, at_number}
use Rattle.resource_store.proofs.SizeLemmas.{size_kept}
use Rattle.resource_store.specs.KinRows.{row_of, row_size}
use Rattle.resource_store.specs.declared.kin_row.KinRow.{KinRow}
use Rattle.resource_tree.specs.Index.{grown_sum, HasNumbers, HasSums, HasKin}
use Rattle.resource_tree.specs.Queue.{queue_at, without_number}
use Rattle.resource_tree.specs.declared.kin.Kin.{Kin}

-- ---- one more

pub all_low : (n : ℕ) (p : ResourceData → Bool) (nodes : List ResourceData) → are_below n nodes ≡ true → list_all (λ m. nat_lt m n) (numbers_of (filter p nodes)) ≡ true
all_low n p [] below = refl
all_low n p (s ∷ nodes) below =
    let parts = and_parts (nat_lt s.number n) (are_below n nodes) below in
    elim (cases_Bool (p s)) [
      | inl t ↦ rw (t, parts.0) (all_low n p nodes parts.1)
      | inr f ↦ rw f (all_low n p nodes parts.1)
    ]

numbers_push : (p : ResourceData → Bool) (nodes : List ResourceData) (r : ResourceData) → numbers_of (filter p (nodes ++ r ∷ [])) ≡ cond (p r) (numbers_of (filter p nodes) ++ r.number ∷ []) (numbers_of (filter p nodes))
numbers_push p nodes r =
    ap numbers_of (filter-append p nodes (r ∷ []))
    ∙ map-append (λ (s : ResourceData). s.number) (filter p nodes) (filter p (r ∷ []))
    ∙ elim (cases_Bool (p r)) [
      | inl t ↦ rw t refl
      | inr f ↦ rw f (append-nil (numbers_of (filter p nodes)))
    ]

module _ {S : Type 0} (nodes : List ResourceData) (r : ResourceData) (m n : HashMap ℕ (List ℕ) S) where
  -- one more of each parent that has it
  abbrev pub Adds : Type 0
  Adds = (p : ℕ) → queue_at n p ≡ cond (nat_eq r.parent p) (queue_at m p ++ r.number ∷ []) (queue_at m p)

  abbrev adds_by : List ℕ → Bool → List ℕ
  adds_by numbers b = cond b (numbers ++ r.number ∷ []) numbers

  pub child_added : HasNumbers is_under nodes m → Adds → HasNumbers is_under (nodes ++ r ∷ []) n
  child_added has added p = added p ∙ ap (λ numbers. adds_by numbers (nat_eq r.parent p)) (has p) ∙ sym (numbers_push (is_under p) nodes r)

  -- one more of each parent that has it, where it is one of these
  abbrev pub AddsIf : Bool → Type 0
  AddsIf is_one = (p : ℕ) → queue_at n p ≡ cond (nat_eq r.parent p && is_one) (queue_at m p ++ r.number ∷ []) (queue_at m p)

  pub kin_added : (ty : Ty) (is_one : Bool) → is_one ≡ is_ty r.ty ty → HasNumbers (is_kin ty) nodes m → AddsIf is_one → HasNumbers (is_kin ty) (nodes ++ r ∷ []) n
  kin_added ty is_one is has_now added p =
      added p ∙ ap (λ numbers. adds_by numbers (nat_eq r.parent p && is_one)) (has_now p)
      ∙ ap (λ x. adds_by (numbers_of (filter (is_kin ty p) nodes)) (nat_eq r.parent p && x)) is
      ∙ sym (numbers_push (is_kin ty p) nodes r)

-- ---- one less

lacks_same : (n : ℕ) (p : ResourceData → Bool) (xs : List ResourceData) → has n xs ≡ false → without_number n (numbers_of (filter p xs)) ≡ numbers_of (filter p xs)
lacks_same n p [] lacks = refl
lacks_same n p (x ∷ xs) lacks =
    let parts = or_parts (has_number n x) (has n xs) lacks in
    elim (cases_Bool (p x)) [
      | inl t ↦ rw (t, parts.0) (ap (λ (ms : List ℕ). x.number ∷ ms) (lacks_same n p xs parts.1))
      | inr f ↦ rw f (lacks_same n p xs parts.1)
    ]

gone_numbers : (p : ResourceData → Bool) (xs ys : List ResourceData) (r : ResourceData) → has r.number xs ≡ false → has r.number ys ≡ false → without_number r.number (numbers_of (filter p (xs ++ r ∷ ys))) ≡ numbers_of (filter p (xs ++ ys))
gone_numbers p [] ys r none lacks = elim (cases_Bool (p r)) [
  | inl t ↦ rw (t, eq-eqb r.number r.number refl) (lacks_same r.number p ys lacks)
  | inr f ↦ rw f (lacks_same r.number p ys lacks)
]
gone_numbers p (x ∷ xs) ys r none lacks =
    let parts = or_parts (has_number r.number x) (has r.number xs) none in
    elim (cases_Bool (p x)) [
      | inl t ↦ rw (t, parts.0) (ap (λ (ms : List ℕ). x.number ∷ ms) (gone_numbers p xs ys r parts.1 lacks))
      | inr f ↦ rw f (gone_numbers p xs ys r parts.1 lacks)
    ]

skipped : (p : ResourceData → Bool) (xs ys : List ResourceData) (r : ResourceData) → p r ≡ false → filter p (xs ++ r ∷ ys) ≡ filter p (xs ++ ys)
skipped p xs ys r out = filter-append p xs (r ∷ ys) ∙ rw out (sym (filter-append p xs ys))

-- what a test picks for a parent has it
abbrev PicksUnder : (ℕ → ResourceData → Bool) → Type 0
PicksUnder picks = (p : ℕ) (r : ResourceData) → nat_eq r.parent p ≡ false → picks p r ≡ false

pub under_picks : (p : ℕ) (r : ResourceData) → nat_eq r.parent p ≡ false → is_under p r ≡ false
under_picks p r out = out

pub kin_picks : (ty : Ty) (p : ℕ) (r : ResourceData) → nat_eq r.parent p ≡ false → is_kin ty p r ≡ false
kin_picks ty p r out = ap (λ b. b && is_ty r.ty ty) out

module _ {S : Type 0} (r : ResourceData) (m n : HashMap ℕ (List ℕ) S) where
  -- one less of each parent that had it
  abbrev pub Takes : Type 0
  Takes = (p : ℕ) → queue_at n p ≡ cond (nat_eq r.parent p) (without_number r.number (queue_at m p)) (queue_at m p)

  pub taken : (picks : ℕ → ResourceData → Bool) (xs ys : List ResourceData) → PicksUnder picks → has r.number xs ≡ false → has r.number ys ≡ false → HasNumbers picks (xs ++ r ∷ ys) m → Takes → HasNumbers picks (xs ++ ys) n
  taken picks xs ys under none lacks has takes p = elim (cases_Bool (nat_eq r.parent p)) [
    | inl t ↦
        takes p ∙ ap (λ b. cond b (without_number r.number (queue_at m p)) (queue_at m p)) t
        ∙ ap (without_number r.number) (has p)
        ∙ gone_numbers (picks p) xs ys r none lacks
    | inr f ↦
        takes p ∙ ap (λ b. cond b (without_number r.number (queue_at m p)) (queue_at m p)) f
        ∙ has p ∙ ap numbers_of (skipped (picks p) xs ys r (under p r f))
  ]

module _ {S : Type 0} (r : ResourceData) (m n : HashMap ℕ (List ℕ) S) where
  -- the same of those of a type, where it is of that type
  pub kin_less : (ty : Ty) (xs ys : List ResourceData) → has r.number xs ≡ false → has r.number ys ≡ false → HasNumbers (is_kin ty) (xs ++ r ∷ ys) m → ((p : ℕ) → queue_at n p ≡ cond (nat_eq r.parent p && is_ty r.ty ty) (without_number r.number (queue_at m p)) (queue_at m p)) → HasNumbers (is_kin ty) (xs ++ ys) n
  kin_less ty xs ys none lacks has takes p = elim (cases_Bool (is_kin ty p r)) [
    | inl t ↦
        takes p ∙ ap (λ b. cond b (without_number r.number (queue_at m p)) (queue_at m p)) t
        ∙ ap (without_number r.number) (has p)
        ∙ gone_numbers (is_kin ty p) xs ys r none lacks
    | inr f ↦
        takes p ∙ ap (λ b. cond b (without_number r.number (queue_at m p)) (queue_at m p)) f
        ∙ has p ∙ ap numbers_of (skipped (is_kin ty p) xs ys r f)
  ]

-- ---- the sums

sizes-cons : (p : ℕ) (x : ResourceData) (xs : List ResourceData) → sizes_of p (x ∷ xs) ≡ cond (is_kin ContentInstance p x) (instance_size x) 0 + sizes_of p xs
sizes-cons p x xs = elim (cases_Bool (is_kin ContentInstance p x)) [
  | inl t ↦ rw t (sum_by-cons instance_size x (filter (is_kin ContentInstance p) xs))
  | inr f ↦ rw f (sym (zero-add (sizes_of p xs)))
]

-- an instance of another container has no size for this one, and neither has what is no instance
size_under : (p : ℕ) (r : ResourceData) → cond (is_kin ContentInstance p r) (instance_size r) 0 ≡ cond (nat_eq r.parent p) (row_size r) 0
size_under p r = by (nat_eq r.parent p) (is_ty r.ty ContentInstance)
  where
    by : (a b : Bool) → cond (a && b) (instance_size r) 0 ≡ cond a (cond b (instance_size r) 0) 0
    by true true = refl
    by true false = refl
    by false true = refl
    by false false = refl

split_first : (a b k c : ℕ) → a ≡ k + b → k ≡ c → a ≡ b + c
split_first a b k c whole same = omega arith

split_later : (a b a' b' k c : ℕ) → a ≡ k + a' → b ≡ k + b' → a' ≡ b' + c → a ≡ b + c
split_later a b a' b' k c left right later = omega arith

sizes-split : (p : ℕ) (xs ys : List ResourceData) (r : ResourceData) → sizes_of p (xs ++ r ∷ ys) ≡ sizes_of p (xs ++ ys) + cond (nat_eq r.parent p) (row_size r) 0
sizes-split p [] ys r = split_first (sizes_of p (r ∷ ys)) (sizes_of p ys) (cond (is_kin ContentInstance p r) (instance_size r) 0) (cond (nat_eq r.parent p) (row_size r) 0) (sizes-cons p r ys) (size_under p r)
sizes-split p (x ∷ xs) ys r =
    split_later (sizes_of p (x ∷ (xs ++ r ∷ ys))) (sizes_of p (x ∷ (xs ++ ys))) (sizes_of p (xs ++ r ∷ ys)) (sizes_of p (xs ++ ys)) (cond (is_kin ContentInstance p x) (instance_size x) 0) (cond (nat_eq r.parent p) (row_size r) 0)
    (sizes-cons p x (xs ++ r ∷ ys)) (sizes-cons p x (xs ++ ys)) (sizes-split p xs ys r)

module _ {S : Type 0} (r : ResourceData) (m n : HashMap ℕ ℕ S) where
  -- one size less of its container
  sums_taken : (xs ys : List ResourceData) → HasSums (xs ++ r ∷ ys) m → ((p s : ℕ) → get nat_eq n p ≡ Some s → option_map (λ t. t - cond (nat_eq r.parent p) (row_size r) 0) (get nat_eq m p) ≡ Some s) → HasSums (xs ++ ys) n
  sums_taken xs ys has_it takes p s e = by (get nat_eq m p) refl (takes p s e)
    where
      by : (o : Option ℕ) → get nat_eq m p ≡ o → option_map (λ t. t - cond (nat_eq r.parent p) (row_size r) 0) o ≡ Some s → s ≡ sizes_of p (xs ++ ys)
      by None before after = absurd (let none : None ≡ Some s = after in cc)
      by (Some t) before after =
          let was : t ≡ sizes_of p (xs ++ r ∷ ys) = has_it p t before in
          let is : t - cond (nat_eq r.parent p) (row_size r) 0 ≡ s = same_Some (t - cond (nat_eq r.parent p) (row_size r) 0) s after in
          let split = sizes-split p xs ys r in
          omega (arith, was, is, split)

-- what is none of a type isn't taken from these, and what is one is
pub none_taken : {X : Type 0} (a b : Bool) (x y : X) → b ≡ false → cond (a && b) x y ≡ y
none_taken true b x y none = ap (λ c. cond c x y) none
none_taken false b x y none = refl

pub one_taken : {X : Type 0} (a b : Bool) (x y : X) → b ≡ true → cond (a && b) x y ≡ cond a x y
one_taken true b x y one = ap (λ c. cond c x y) one
one_taken false b x y one = refl

pub nothing_less : (o : Option ℕ) (s : ℕ) → o ≡ Some s → option_map (λ t. t - 0) o ≡ Some s
nothing_less (Some t) s same =
    let is : t ≡ s = same_Some t s same in
    let less : t - 0 ≡ s = omega (arith, is) in
    ap Some less
nothing_less None s same = cc

-- a sum that isn't forgotten is that of another container
pub kept_elsewhere : (o after : Option ℕ) (a b : Bool) (size s : ℕ) → after ≡ cond a None o → after ≡ Some s → option_map (λ t. t - cond (a && b) size 0) o ≡ Some s
kept_elsewhere o after true b size s forgets is = absurd (let wrong : None ≡ Some s = sym forgets ∙ is in cc)
kept_elsewhere o after false b size s forgets is = nothing_less o s (sym forgets ∙ is)

-- what is put, where it is forgotten at once
pub put_forgotten : (b : Bool) (v o mid after : Option ℕ) (s : ℕ) → mid ≡ o → after ≡ cond b None mid → after ≡ Some s → cond b v o ≡ Some s
put_forgotten true v o mid after s same forgets is = absurd (let wrong : None ≡ Some s = sym forgets ∙ is in cc)
put_forgotten false v o mid after s same forgets is = sym same ∙ sym forgets ∙ is

-- a sum that is put is the one that has grown
pub grown_put : (o : ℕ → Option ℕ) (container p : ℕ) (is_first : Bool) (size sum s : ℕ) → grown_sum is_first size (o container) ≡ Some sum → cond (nat_eq container p) (Some sum) (o p) ≡ Some s → cond (nat_eq container p) (grown_sum is_first size (o p)) (o p) ≡ Some s
grown_put o container p is_first size sum s grown put = elim (cases_Bool (nat_eq container p)) [
  | inl t ↦
      let same : sum ≡ s = same_Some sum s (rw t at put) in
      rw t (ap (λ q. grown_sum is_first size (o q)) (sym (eqb-true container p t)) ∙ grown ∙ ap Some same)
  | inr f ↦ rw f (rw f at put)
]

pub no_sizes : (p : ℕ) (nodes : List ResourceData) → length (numbers_of (filter (is_kin ContentInstance p) nodes)) ≡ 0 → sizes_of p nodes ≡ 0
no_sizes p nodes none = by (filter (is_kin ContentInstance p) nodes) none
  where
    by : (xs : List ResourceData) → length (numbers_of xs) ≡ 0 → sum_by instance_size xs ≡ 0
    by [] none = refl
    by (x ∷ xs) some = absurd (omega arith)

-- a container without instances has no sizes
pub first_sizes : {S : Type 0} (nodes : List ResourceData) (m : HashMap ℕ (List ℕ) S) (p q count : ℕ) → HasNumbers (is_kin ContentInstance) nodes m → count ≡ length (queue_at m p) → p ≡ q → (count == 0) ≡ true → sizes_of q nodes ≡ 0
first_sizes nodes m p q count has_it counts same none =
    let zero_is : count ≡ 0 = eqb-true count 0 none in
    no_sizes q nodes (sym (ap length (ap (λ x. queue_at m x) same ∙ has_it q)) ∙ sym counts ∙ zero_is)

-- one size more of its container
pub sums_grown : {S : Type 0} (nodes : List ResourceData) (r : ResourceData) (m n : HashMap ℕ ℕ S) (is_first : Bool) → HasSums nodes m → (is_first ≡ true → sizes_of r.parent nodes ≡ 0) → ((p s : ℕ) → get nat_eq n p ≡ Some s → cond (is_ty r.ty ContentInstance && nat_eq r.parent p) (grown_sum is_first (instance_size r) (get nat_eq m p)) (get nat_eq m p) ≡ Some s) → HasSums (nodes ++ r ∷ []) n
sums_grown nodes r m n is_first has_it first adds p s e =
    let split : sizes_of p (nodes ++ r ∷ []) ≡ sizes_of p nodes + cond (nat_eq r.parent p) (row_size r) 0 = sizes-split p nodes [] r ∙ ap (λ (xs : List ResourceData). sizes_of p xs + cond (nat_eq r.parent p) (row_size r) 0) (append-nil nodes) in
    by (is_ty r.ty ContentInstance) (nat_eq r.parent p) refl refl (adds p s e) split
  where
    grown : (o : Option ℕ) → get nat_eq m p ≡ o → nat_eq r.parent p ≡ true → grown_sum is_first (instance_size r) o ≡ Some s → s ≡ sizes_of p nodes + instance_size r
    grown (Some t) was under is =
        let old : t ≡ sizes_of p nodes = has_it p t was in
        let new : t + instance_size r ≡ s = same_Some (t + instance_size r) s is in
        omega (arith, old, new)
    grown None was under is = elim (cases_Bool is_first) [
      | inl t ↦
          let none : sizes_of p nodes ≡ 0 = ap (λ q. sizes_of q nodes) (sym (eqb-true r.parent p under)) ∙ first t in
          let new : instance_size r ≡ s = same_Some (instance_size r) s (rw t at is) in
          omega (arith, none, new)
      | inr f ↦ absurd (let wrong : None ≡ Some s = rw f at is in cc)
    ]

    by : (a b : Bool) → is_ty r.ty ContentInstance ≡ a → nat_eq r.parent p ≡ b → cond (is_ty r.ty ContentInstance && nat_eq r.parent p) (grown_sum is_first (instance_size r) (get nat_eq m p)) (get nat_eq m p) ≡ Some s → sizes_of p (nodes ++ r ∷ []) ≡ sizes_of p nodes + cond (nat_eq r.parent p) (row_size r) 0 → s ≡ sizes_of p (nodes ++ r ∷ [])
    by true true kind under says split =
        let size : row_size r ≡ instance_size r = ap (λ b. cond b (instance_size r) 0) kind in
        let more : sizes_of p (nodes ++ r ∷ []) ≡ sizes_of p nodes + row_size r = split ∙ ap (λ b. sizes_of p nodes + cond b (row_size r) 0) under in
        let is = grown (get nat_eq m p) refl under (rw (kind, under) at says) in
        omega (arith, size, more, is)
    by true false kind other says split =
        let is : s ≡ sizes_of p nodes = has_it p s (rw (kind, other) at says) in
        let more : sizes_of p (nodes ++ r ∷ []) ≡ sizes_of p nodes + 0 = split ∙ ap (λ b. sizes_of p nodes + cond b (row_size r) 0) other in
        omega (arith, more, is)
    by false b kind under says split =
        let size : row_size r ≡ 0 = ap (λ b. cond b (instance_size r) 0) kind in
        let is : s ≡ sizes_of p nodes = has_it p s (rw kind at says) in
        omega (arith, size, is, split, none_of (nat_eq r.parent p) (row_size r) size)
      where
        none_of : (c : Bool) (k : ℕ) → k ≡ 0 → cond c k 0 ≡ 0
        none_of true k zero_is = zero_is
        none_of false k zero_is = refl

-- ---- what stays

-- what a removal leaves of a tree is what stands there still
pub left_kept : (p : ResourceData → Bool) (nodes : List ResourceData) → is_tree nodes ≡ true → without p nodes ≡ filter (λ r. has r.number (without p nodes)) nodes
left_kept p nodes tree = without-spared p nodes tree ∙ sym (all_there nodes (λ r there. has-without p r.number nodes tree ∙ ap (λ b. b && is_spared p nodes r.number) there))
  where
    filter_same : (q s : ResourceData → Bool) (rs : List ResourceData) → ((r : ResourceData) → has r.number rs ≡ true → q r ≡ s r) → filter q rs ≡ filter s rs
    filter_same q s [] same = refl
    filter_same q s (r ∷ rs) same =
        let here : q r ≡ s r = same r (rw (eq-eqb r.number r.number refl) refl) in
        let later : filter q rs ≡ filter s rs = filter_same q s rs (λ x there. same x (wider r x rs there)) in
        elim (cases_Bool (s r)) [
          | inl t ↦ rw (here ∙ t, t) (ap (λ (ss : List ResourceData). r ∷ ss) later)
          | inr f ↦ rw (here ∙ f, f) later
        ]
      where
        wider : (r x : ResourceData) (rs : List ResourceData) → has x.number rs ≡ true → has x.number (r ∷ rs) ≡ true
        wider r x rs there = elim (cases_Bool (has_number x.number r)) [
          | inl t ↦ rw t refl
          | inr f ↦ rw f there
        ]

    all_there : (rs : List ResourceData) → ((r : ResourceData) → has r.number rs ≡ true → has r.number (without p nodes) ≡ is_spared p nodes r.number) → filter (λ r. has r.number (without p nodes)) rs ≡ filter (λ r. is_spared p nodes r.number) rs
    all_there rs same = filter_same (λ r. has r.number (without p nodes)) (λ r. is_spared p nodes r.number) rs same

-- ---- what a step gives and takes

adds_from : {S : Type 0} (nodes : List ResourceData) (r : ResourceData) (m n : HashMap ℕ (List ℕ) S) (a b : ℕ) → a ≡ r.number → b ≡ r.parent → ((p : ℕ) → queue_at n p ≡ cond (nat_eq b p) (queue_at m p ++ a ∷ []) (queue_at m p)) → Adds nodes r m n
adds_from nodes r m n a b ea eb h p =
    h p ∙ ap (λ x. cond (nat_eq x p) (queue_at m p ++ a ∷ []) (queue_at m p)) eb
    ∙ ap (λ x. cond (nat_eq r.parent p) (queue_at m p ++ x ∷ []) (queue_at m p)) ea

adds_if_from : {S : Type 0} (nodes : List ResourceData) (r : ResourceData) (m n : HashMap ℕ (List ℕ) S) (a b : ℕ) (is_one : Bool) → a ≡ r.number → b ≡ r.parent → ((p : ℕ) → queue_at n p ≡ cond (nat_eq b p && is_one) (queue_at m p ++ a ∷ []) (queue_at m p)) → AddsIf nodes r m n is_one
adds_if_from nodes r m n a b is_one ea eb h p =
    h p ∙ ap (λ x. cond (nat_eq x p && is_one) (queue_at m p ++ a ∷ []) (queue_at m p)) eb
    ∙ ap (λ x. cond (nat_eq r.parent p && is_one) (queue_at m p ++ x ∷ []) (queue_at m p)) ea

takes_from : {S : Type 0} (r : ResourceData) (m n : HashMap ℕ (List ℕ) S) (a b : ℕ) → a ≡ r.number → b ≡ r.parent → ((p : ℕ) → queue_at n p ≡ cond (nat_eq b p) (without_number a (queue_at m p)) (queue_at m p)) → Takes r m n
takes_from r m n a b ea eb h p =
    h p ∙ ap (λ x. cond (nat_eq x p) (without_number a (queue_at m p)) (queue_at m p)) eb
    ∙ ap (λ x. cond (nat_eq r.parent p) (without_number x (queue_at m p)) (queue_at m p)) ea

-- a resource is taken from its parent, in the queues that have it and from its sum
pub record TakesAll (row : KinRow) (before after : Kin) : Type 0 where
  pub children : (p : ℕ) → queue_at after.children p ≡ cond (nat_eq row.parent p) (without_number row.number (queue_at before.children p)) (queue_at before.children p)
  pub instances : (p : ℕ) → queue_at after.instances p ≡ cond (nat_eq row.parent p && is_ty row.ty ContentInstance) (without_number row.number (queue_at before.instances p)) (queue_at before.instances p)
  pub subs : (p : ℕ) → queue_at after.subs p ≡ cond (nat_eq row.parent p && is_ty row.ty Subscription) (without_number row.number (queue_at before.subs p)) (queue_at before.subs p)
  pub channels : (p : ℕ) → queue_at after.channels p ≡ cond (nat_eq row.parent p && is_ty row.ty PollingChannel) (without_number row.number (queue_at before.channels p)) (queue_at before.channels p)
  pub sums : (p s : ℕ) → get nat_eq after.sums p ≡ Some s → option_map (λ t. t - cond (nat_eq row.parent p && is_ty row.ty ContentInstance) row.size 0) (get nat_eq before.sums p) ≡ Some s

-- what is no instance has no size
size_of_kin : (a b : Bool) (size : ℕ) → cond (a && b) (cond b size 0) 0 ≡ cond a (cond b size 0) 0
size_of_kin true true size = refl
size_of_kin true false size = refl
size_of_kin false b size = refl

-- what stays once one of a list is taken
kin_taken : (xs ys : List ResourceData) (r : ResourceData) (row : KinRow) (before after : Kin) → has r.number xs ≡ false → has r.number ys ≡ false → row ≡ row_of r → HasKin (xs ++ r ∷ ys) before → TakesAll row before after → HasKin (xs ++ ys) after
kin_taken xs ys r row before after none lacks is has_it takes =
    let own : TakesAll (row_of r) before after = subst (λ x. TakesAll x before after) is takes in
    record {
      children = taken r before.children after.children is_under xs ys under_picks none lacks has_it.children own.children;
      types = record {
        instances = kin_less r before.instances after.instances ContentInstance xs ys none lacks has_it.types.instances own.instances;
        subs = kin_less r before.subs after.subs Subscription xs ys none lacks has_it.types.subs own.subs;
        channels = kin_less r before.channels after.channels PollingChannel xs ys none lacks has_it.types.channels own.channels;
      };
      sums = sums_taken r before.sums after.sums xs ys has_it.sums (λ p s e. ap (λ k. option_map (λ t. t - k) (get nat_eq before.sums p)) (sym (size_of_kin (nat_eq r.parent p) (is_ty r.ty ContentInstance) (instance_size r))) ∙ own.sums p s e);
    }

-- ---- one more, and none more

-- the numbers that a parent has are lower than that of what comes next
pub low : {S : Type 0} (picks : ℕ → ResourceData → Bool) (nodes : List ResourceData) (r : ResourceData) (m : HashMap ℕ (List ℕ) S) (n p : ℕ) → HasNumbers picks nodes m → may_stand nodes r ≡ true → n ≡ r.number → list_all (λ k. nat_lt k n) (queue_at m p) ≡ true
low picks nodes r m n p has_now next same =
    let below : are_below n nodes ≡ true = ap (λ k. are_below k nodes) same ∙ (next_fits nodes r next).number in
    ap (list_all (λ k. nat_lt k n)) (has_now p) ∙ all_low n (picks p) nodes below

module _ (nodes : List ResourceData) (r : ResourceData) (next : may_stand nodes r ≡ true) (a b : ℕ) (number : a ≡ r.number) (parent : b ≡ r.parent) where
  lacks : has r.number nodes ≡ false
  lacks = below_lacks r.number nodes (next_fits nodes r next).number

  pub children_grown : {S : Type 0} (m n : HashMap ℕ (List ℕ) S) → HasNumbers is_under nodes m → ((p : ℕ) → queue_at n p ≡ cond (nat_eq b p) (queue_at m p ++ a ∷ []) (queue_at m p)) → HasNumbers is_under (nodes ++ r ∷ []) n
  children_grown m n has_now adds = child_added nodes r m n has_now (adds_from nodes r m n a b number parent adds)

  pub kin_grown : {S : Type 0} (ty : Ty) (is_one : Bool) (m n : HashMap ℕ (List ℕ) S) → is_one ≡ is_ty r.ty ty → HasNumbers (is_kin ty) nodes m → ((p : ℕ) → queue_at n p ≡ cond (nat_eq b p && is_one) (queue_at m p ++ a ∷ []) (queue_at m p)) → HasNumbers (is_kin ty) (nodes ++ r ∷ []) n
  kin_grown ty is_one m n is has_now adds = kin_added nodes r m n ty is_one is has_now (adds_if_from nodes r m n a b is_one number parent adds)

  -- one that was put last is taken back
  pub taken_back : {S : Type 0} (picks : ℕ → ResourceData → Bool) (m n : HashMap ℕ (List ℕ) S) → PicksUnder picks → HasNumbers picks (nodes ++ r ∷ []) m → ((p : ℕ) → queue_at n p ≡ cond (nat_eq b p) (without_number a (queue_at m p)) (queue_at m p)) → HasNumbers picks nodes n
  taken_back picks m n under has_both takes =
      subst (λ (xs : List ResourceData). HasNumbers picks xs n) (append-nil nodes)
      (taken r m n picks nodes [] under lacks refl has_both (takes_from r m n a b number parent takes))

  pub kin_undone : {S : Type 0} (ty : Ty) (is_one : Bool) (l m n : HashMap ℕ (List ℕ) S) → is_one ≡ is_ty r.ty ty → HasNumbers (is_kin ty) nodes l → ((p : ℕ) → queue_at m p ≡ cond (nat_eq b p && is_one) (queue_at l p ++ a ∷ []) (queue_at l p)) → ((p : ℕ) → queue_at n p ≡ cond (nat_eq b p) (without_number a (queue_at m p)) (queue_at m p)) → HasNumbers (is_kin ty) nodes n
  kin_undone ty is_one l m n is has_now adds takes = taken_back (is_kin ty) m n (kin_picks ty) (kin_grown ty is_one l m is has_now adds) takes

-- one that was put last is taken back
pub kin_back : (nodes : List ResourceData) (r : ResourceData) (row : KinRow) (before after : Kin) → may_stand nodes r ≡ true → row ≡ row_of r → HasKin (nodes ++ r ∷ []) before → TakesAll row before after → HasKin nodes after
kin_back nodes r row before after next is has_it takes =
    subst (λ (xs : List ResourceData). HasKin xs after) (append-nil nodes)
    (kin_taken nodes [] r row before after (below_lacks r.number nodes (next_fits nodes r next).number) refl is has_it takes)

-- ---- one that goes alone

-- a list, where one stands in it: what is in front of it, what is behind it, and what is left
splits : (n : ℕ) (nodes : List ResourceData) (r : ResourceData) → ascend nodes ≡ true → at n nodes ≡ Some r → (xs : List ResourceData) × (ys : List ResourceData) × (nodes ≡ xs ++ r ∷ ys) × (has r.number xs ≡ false) × (has r.number ys ≡ false) × (others n nodes ≡ xs ++ ys)
splits n [] r order found = cc
splits n (s ∷ nodes) r order found =
    let parts = ascend_parts s nodes order in
    elim (cases_Bool (has_number n s)) [
      | inl t ↦
          let is : s ≡ r = same_Some s r (rw t at found) in
          let lacks : has s.number nodes ≡ false = above_lacks s.number nodes parts.above in
          let none : at n nodes ≡ None = ap (λ k. at k nodes) (sym (eqb-true s.number n t)) ∙ at_none s.number nodes lacks in
          ([], nodes, ap (λ (x : ResourceData). x ∷ nodes) is, refl, ap (λ (x : ResourceData). has x.number nodes) (sym is) ∙ lacks, rw t (sym (missing_others n nodes none)))
      | inr f ↦
          let later : at n nodes ≡ Some r = rw f at found in
          let rest = splits n nodes r parts.rest later in
          let apart : has_number r.number s ≡ false = ap (λ k. has_number k s) (at_number n nodes r later) ∙ f in
          (s ∷ rest.0, rest.1, ap (λ (rs : List ResourceData). s ∷ rs) rest.2, rw apart rest.3, rest.4, rw f (ap (λ (rs : List ResourceData). s ∷ rs) rest.5))
    ]

pub kin_removed : (nodes : List ResourceData) (n : ℕ) (r : ResourceData) (row : KinRow) (before after : Kin) → is_tree nodes ≡ true → at n nodes ≡ Some r → row ≡ row_of r → HasKin nodes before → TakesAll row before after → HasKin (others n nodes) after
kin_removed nodes n r row before after tree found is has_it takes =
    let parts = splits n nodes r (tree_ascends nodes tree) found in
    subst (λ (rs : List ResourceData). HasKin rs after) (sym parts.5)
    (kin_taken parts.0 parts.1 r row before after parts.3 parts.4 is (subst (λ (rs : List ResourceData). HasKin rs before) parts.2 has_it) takes)

-- so it is by the row that its list told
pub kin_gone : (nodes : List ResourceData) (n : ℕ) (row : KinRow) (before after : Kin) → is_tree nodes ≡ true → Some row ≡ option_map row_of (at n nodes) → HasKin nodes before → TakesAll row before after → HasKin (others n nodes) after
kin_gone nodes n row before after tree told has_it takes = by (at n nodes) refl told
  where
    by : (o : Option ResourceData) → at n nodes ≡ o → Some row ≡ option_map row_of o → HasKin (others n nodes) after
    by None found wrong = cc
    by (Some r) found is = kin_removed nodes n r row before after tree found (same_Some row (row_of r) is) has_it takes

-- where there was no row, nothing goes
pub kin_stays : (nodes : List ResourceData) (n : ℕ) (kin : Kin) → None ≡ option_map row_of (at n nodes) → HasKin nodes kin → HasKin (others n nodes) kin
kin_stays nodes n kin told has_it = by (at n nodes) refl told
  where
    by : (o : Option ResourceData) → at n nodes ≡ o → None ≡ option_map row_of o → HasKin (others n nodes) kin
    by None found is = subst (λ (ns : List ResourceData). HasKin ns kin) (missing_others n nodes found) has_it
    by (Some r) found wrong = cc

-- the parent in a row is that of its resource
pub parent_told : (row : Option KinRow) (o : Option ResourceData) → row ≡ option_map row_of o → option_map_or (λ (k : KinRow). k.parent) row 0 ≡ option_map_or (λ (r : ResourceData). r.parent) o 0
parent_told row None is = ap (λ (k : Option KinRow). option_map_or (λ (x : KinRow). x.parent) k 0) is
parent_told row (Some r) is = ap (λ (k : Option KinRow). option_map_or (λ (x : KinRow). x.parent) k 0) is

-- ---- one in the place of another

module _ (r : ResourceData) (p : ResourceData → Bool) (same : (s : ResourceData) → standing s ≡ standing r → p s ≡ p r) where
  pub numbers-replaced : (nodes : List ResourceData) → option_map standing (at r.number nodes) ≡ Some (standing r) → numbers_of (filter p (replaced r nodes)) ≡ numbers_of (filter p nodes)
  numbers-replaced [] stood = cc
  numbers-replaced (s ∷ nodes) stood = elim (cases_Bool (has_number r.number s)) [
    | inl t ↦
        let is : standing s ≡ standing r = same_Some (standing s) (standing r) (rw t at stood) in
        let number : s.number ≡ r.number = eqb-true s.number r.number t in
        rw t (elim (cases_Bool (p r)) [
          | inl u ↦ rw (u, same s is ∙ u) (ap (λ n. n ∷ numbers_of (filter p nodes)) (sym number))
          | inr v ↦ rw (v, same s is ∙ v) refl
        ])
    | inr f ↦
        let later = numbers-replaced nodes (rw f at stood) in
        rw f (elim (cases_Bool (p s)) [
          | inl u ↦ rw u (ap (λ (ns : List ℕ). s.number ∷ ns) later)
          | inr v ↦ rw v later
        ])
  ]

module _ (nodes : List ResourceData) (r : ResourceData) (stood : option_map standing (at r.number nodes) ≡ Some (standing r)) where
  under_same : (p : ℕ) (s : ResourceData) → standing s ≡ standing r → is_under p s ≡ is_under p r
  under_same p s e = ap (λ (x : Ty × List ℕ × ℕ × Option (List ℕ) × Option (List ℕ)). x.2 == p) e

  kin_same : (ty : Ty) (p : ℕ) (s : ResourceData) → standing s ≡ standing r → is_kin ty p s ≡ is_kin ty p r
  kin_same ty p s e = ap (λ (x : Ty × List ℕ × ℕ × Option (List ℕ) × Option (List ℕ)). (x.2 == p) && is_ty x.0 ty) e

  stood_so : (s : ResourceData) → at r.number nodes ≡ Some s → standing s ≡ standing r
  stood_so s found = same_Some (standing s) (standing r) (ap (option_map standing) (sym found) ∙ stood)

  -- the sums of other containers stay
  sizes-replaced : (p : ℕ) → is_kin ContentInstance p r ≡ false → sizes_of p (replaced r nodes) ≡ sizes_of p nodes
  sizes-replaced p other = ap (λ (xs : List ResourceData). sum_by instance_size xs) (unpicked-replaced (is_kin ContentInstance p) r nodes (λ s found. kin_same ContentInstance p s (stood_so s found)) other)

  pub kin-replaced : (before after : Kin) → HasKin nodes before → after.children ≡ before.children → after.instances ≡ before.instances → after.subs ≡ before.subs → after.channels ≡ before.channels → HasSums (replaced r nodes) after.sums → HasKin (replaced r nodes) after
  kin-replaced before after is children instances subs channels sums = record {
    children = λ p. ap (λ m. queue_at m p) children ∙ is.children p ∙ sym (numbers-replaced r (is_under p) (λ s e. under_same p s e) nodes stood);
    types = record {
      instances = λ p. ap (λ m. queue_at m p) instances ∙ is.types.instances p ∙ sym (numbers-replaced r (is_kin ContentInstance p) (λ s e. kin_same ContentInstance p s e) nodes stood);
      subs = λ p. ap (λ m. queue_at m p) subs ∙ is.types.subs p ∙ sym (numbers-replaced r (is_kin Subscription p) (λ s e. kin_same Subscription p s e) nodes stood);
      channels = λ p. ap (λ m. queue_at m p) channels ∙ is.types.channels p ∙ sym (numbers-replaced r (is_kin PollingChannel p) (λ s e. kin_same PollingChannel p s e) nodes stood);
    };
    sums = sums;
  }

  -- where the sum of its container isn't kept
  pub sums-replaced : {S : Type 0} (m m' : HashMap ℕ ℕ S) → HasSums nodes m → ((p s : ℕ) → get nat_eq m' p ≡ Some s → (get nat_eq m p ≡ Some s) × (is_kin ContentInstance p r ≡ false)) → HasSums (replaced r nodes) m'
  sums-replaced m m' has_it keeps p s e = let kept = keeps p s e in has_it p s kept.0 ∙ sym (sizes-replaced p kept.1)

  pub sums_forgotten : {S : Type 0} (m m' : HashMap ℕ ℕ S) (parent : ℕ) → parent ≡ r.parent → HasSums nodes m → ((p : ℕ) → get nat_eq m' p ≡ cond (nat_eq parent p) None (get nat_eq m p)) → HasSums (replaced r nodes) m'
  sums_forgotten m m' parent same has_it forgets = sums-replaced m m' has_it (λ p s e. elim (cases_Bool (nat_eq parent p)) [
    | inl t ↦ absurd (let wrong : None ≡ Some s = sym (forgets p ∙ ap (λ b. cond b None (get nat_eq m p)) t) ∙ e in cc)
    | inr f ↦ (sym (forgets p ∙ ap (λ b. cond b None (get nat_eq m p)) f) ∙ e, ap (λ b. b && is_ty r.ty ContentInstance) (ap (λ q. nat_eq q p) (sym same) ∙ f))
  ])

  and_false : (a : Bool) → (a && false) ≡ false
  and_false true = refl
  and_false false = refl

  no_instance : is_ty r.ty ContentInstance ≡ false → (p : ℕ) → is_kin ContentInstance p r ≡ false
  no_instance other p = ap (λ b. is_under p r && b) other ∙ and_false (is_under p r)

  pub kin_still : (kin : Kin) → HasKin nodes kin → is_ty r.ty ContentInstance ≡ false → HasKin (replaced r nodes) kin
  kin_still kin is other = kin-replaced kin kin is refl refl refl refl (sums-replaced kin.sums kin.sums is.sums (λ p s e. (e, no_instance other p)))

-- a resource of which such an attribute is set
kin-marked : (a : Attr) (aside : IsAside a) (d : Data) (lt : ℕ) (nodes : List ResourceData) (n : ℕ) (r : ResourceData) → at n nodes ≡ Some r → (kin : Kin) → HasKin nodes kin → HasKin (replaced (marked a d lt r) nodes) kin
kin-marked a aside d lt nodes n r found kin is =
    let own : at r.number nodes ≡ Some r = ap (λ k. at k nodes) (at_number n nodes r found) ∙ found in
    let it : (s : ResourceData) → at r.number nodes ≡ Some s → s ≡ r = λ s there. same_Some s r (sym there ∙ own) in
    kin-replaced nodes (marked a d lt r) (stood_marked a aside d lt nodes n r found) kin kin is refl refl refl refl (λ p s e.
    is.sums p s e
    ∙ sym (sum-replaced (is_kin ContentInstance p) instance_size (marked a d lt r) nodes (λ s there. (ap (is_kin ContentInstance p) (it s there), ap instance_size (it s there) ∙ sym (size_kept a aside d lt r)))))

pub kin-restamped : (nodes : List ResourceData) (n lt st : ℕ) (kin : Kin) → HasKin nodes kin → HasKin (restamped_at n lt st nodes) kin
kin-restamped nodes n lt st kin is = by (at n nodes) refl
  where
    by : (o : Option ResourceData) → at n nodes ≡ o → HasKin (option_map_or (λ r. replaced (restamped lt st r) nodes) o nodes) kin
    by None found = is
    by (Some r) found = kin-marked St st_aside (whole_number (pos st)) lt nodes n r found kin is

pub kin-recounted : (nodes : List ResourceData) (n left : ℕ) (kin : Kin) → HasKin nodes kin → HasKin (recounted_at n left nodes) kin
kin-recounted nodes n left kin is = by (at n nodes) refl
  where
    by : (o : Option ResourceData) → at n nodes ≡ o → HasKin (option_map_or (λ r. replaced (recounted left r) nodes) o nodes) kin
    by None found = is
    by (Some r) found = kin-marked Exc exc_aside (whole_number (pos left)) r.lt nodes n r found kin is

-- a parent without numbers has no children
pub no_children : {S : Type 0} (nodes : List ResourceData) (m : HashMap ℕ (List ℕ) S) (n : ℕ) → HasNumbers is_under nodes m → length (queue_at m n) ≡ 0 → children_of n nodes ≡ []
no_children nodes m n has_it none = by (children_of n nodes) (sym (ap length (has_it n)) ∙ none)
  where
    by : (xs : List ResourceData) → length (numbers_of xs) ≡ 0 → xs ≡ []
    by [] nothing = refl
    by (x ∷ xs) some = absurd (omega arith)

-- the first of a test's is the first that passes it
pub first_passes : (p : ResourceData → Bool) (nodes : List ResourceData) → slice_get (numbers_of (filter p nodes)) 0 ≡ resource_number (find p nodes)
first_passes p [] = refl
first_passes p (s ∷ nodes) = elim (cases_Bool (p s)) [
  | inl t ↦ rw t refl
  | inr f ↦ rw f (first_passes p nodes)
]
