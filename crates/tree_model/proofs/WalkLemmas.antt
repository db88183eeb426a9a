-- What comes after a number, where numbers ascend.
use Rattle.std.specs.Prelude.{nat_lt, unwrap_or, IfSome}
use Rattle.std.proofs.Common.{◌≡◌, ℕ, zero, suc, ◌+◌, ◌<◌, ◌≤◌, List, [], ◌∷◌, length, Bool, true, false, Option, Some, None, Bor, inl, inr, refl, sym, ap, ◌∙◌, arith}
use Rattle.std.proofs.lemmas.Bool.{and_parts, cases_Bool, ltb-true, ltb-false, lt-ltb, le-ltb}
use Rattle.std.proofs.lemmas.Option.{same_Some}
use Rattle.std.specs.Iterator.{YieldsFirstRef, MakesProgress, item_count}
use Rattle.std.specs.List.{filter, slice_get}
use Rattle.resource_model.specs.Resource.{ResourceData}
use Rattle.tree_model.specs.Tree.{number_at, comes_after, all_after, all_behind, next_after, is_tree, may_stand}
use Rattle.tree_model.proofs.GrowthLemmas.{growth, next_fits, next_above_parent}
use Rattle.tree_model.proofs.OrderLemmas.{are_above, ascend, tree_ascends, ascend_filter, above_filter, above_push, number_some, ascend_parts}
use Rattle.m2m_names.proofs.ListLemmas.{all_weaker, filter_whole}

above_lower : (m n : ℕ) (rs : List ResourceData) → m < n → are_above n rs ≡ true → are_above m rs ≡ true
above_lower m n rs less above = all_weaker (λ (r : ResourceData). nat_lt n r.number) (λ (r : ResourceData). nat_lt m r.number) (λ r higher. let here : n < r.number = ltb-true n r.number higher in lt-ltb m r.number (omega arith)) rs above

-- what is above a number all comes after it
pub above_all : (n : ℕ) (rs : List ResourceData) → are_above n rs ≡ true → all_after n rs ≡ rs
above_all n rs above = filter_whole (comes_after n) rs above

-- the first that comes after a number does
next_is_after : (n : ℕ) (rs : List ResourceData) (r : ResourceData) → next_after n rs ≡ Some r → nat_lt n r.number ≡ true
next_is_after n [] r found = cc
next_is_after n (s ∷ rs) r found = elim (cases_Bool (nat_lt n s.number)) [
  | inl t ↦ (let is : s ≡ r = same_Some s r (rw t at found) in ap (λ (x : ResourceData). nat_lt n x.number) (sym is) ∙ t)
  | inr f ↦ next_is_after n rs r (rw f at found)
]

-- where none comes first, none comes
none_after : (n : ℕ) (rs : List ResourceData) → next_after n rs ≡ None → all_after n rs ≡ []
none_after n [] found = refl
none_after n (s ∷ rs) found = elim (cases_Bool (nat_lt n s.number)) [
  | inl t ↦ absurd (let some : Some s ≡ None = rw t at found in cc)
  | inr f ↦ rw f (none_after n rs (rw f at found))
]

-- the first that comes after a number, and then those that come after it
after_split : (n : ℕ) (rs : List ResourceData) (r : ResourceData) → ascend rs ≡ true → next_after n rs ≡ Some r → all_after n rs ≡ r ∷ all_after r.number rs
after_split n [] r order found = cc
after_split n (s ∷ rs) r order found =
    let parts = ascend_parts s rs order in
    elim (cases_Bool (nat_lt n s.number)) [
      | inl t ↦
          let is : s ≡ r = same_Some s r (rw t at found) in
          let less : n < s.number = ltb-true n s.number t in
          let own : nat_lt s.number s.number ≡ false = le-ltb s.number s.number (omega arith) in
          let rest : all_after s.number (s ∷ rs) ≡ rs = rw own (above_all s.number rs parts.above) in
          rw t (ap (λ (ss : List ResourceData). s ∷ ss) (above_all n rs (above_lower n s.number rs less parts.above) ∙ sym rest))
          ∙ ap (λ (x : ResourceData). x ∷ all_after x.number (s ∷ rs)) is
      | inr f ↦
          let later : next_after n rs ≡ Some r = rw f at found in
          let less : n < r.number = ltb-true n r.number (next_is_after n rs r later) in
          let low : s.number ≤ n = ltb-false n s.number f in
          let out : nat_lt r.number s.number ≡ false = le-ltb r.number s.number (omega arith) in
          let rest : all_after r.number (s ∷ rs) ≡ all_after r.number rs = rw out refl in
          rw f (after_split n rs r parts.rest later) ∙ ap (λ (ss : List ResourceData). r ∷ ss) (sym rest)
    ]

-- a step of going over what comes after a number
pub step_some : (n : ℕ) (rs left : List ResourceData) (r : ResourceData) → ascend rs ≡ true → all_after n rs ≡ left → Some r ≡ next_after n rs → left ≡ r ∷ all_after r.number rs
step_some n rs left r order is found = sym is ∙ after_split n rs r order (sym found)

pub step_none : (n : ℕ) (rs left : List ResourceData) → all_after n rs ≡ left → None ≡ next_after n rs → left ≡ []
step_none n rs left is found = sym is ∙ none_after n rs (sym found)

pub none_left : (n : ℕ) (rs : List ResourceData) → None ≡ next_after n rs → all_after n rs ≡ []
none_left n rs found = none_after n rs (sym found)

-- every number of a tree is above 0
above_zero : (nodes : List ResourceData) → is_tree nodes ≡ true → are_above 0 nodes ≡ true
above_zero = growth may_stand (λ nodes. are_above 0 nodes ≡ true) refl (λ before r grew next holds.
    let above : r.parent < r.number = next_above_parent before r (next_fits before r next) in
    above_push 0 before r holds (omega arith))

pub all_after_zero : (nodes : List ResourceData) → is_tree nodes ≡ true → nodes ≡ all_after 0 nodes
all_after_zero nodes tree = sym (above_all 0 nodes (above_zero nodes tree))

place_above : (m : ℕ) (rs : List ResourceData) (k : ℕ) (r : ResourceData) → ascend rs ≡ true → are_above m rs ≡ true → slice_get rs k ≡ Some r → m + k < r.number
place_above m [] k r order above got = cc
place_above m (s ∷ rs) zero r order above got =
    let parts = and_parts (nat_lt m s.number) (are_above m rs) above in
    let less : m < s.number = ltb-true m s.number parts.0 in
    let is : s.number ≡ r.number = ap (λ (x : ResourceData). x.number) (same_Some s r got) in
    omega arith
place_above m (s ∷ rs) (suc k) r order above got =
    let parts = and_parts (nat_lt m s.number) (are_above m rs) above in
    let less : m < s.number = ltb-true m s.number parts.0 in
    let later = ascend_parts s rs order in
    let rest : s.number + k < r.number = place_above s.number rs k r later.rest later.above got in
    omega arith

-- a place is below the number of what stands there
pub place_below : (p : ResourceData → Bool) (nodes : List ResourceData) (k n : ℕ) → is_tree nodes ≡ true → Some n ≡ number_at k (filter p nodes) → k < n
place_below p nodes k n tree is =
    let there = number_some (slice_get (filter p nodes) k) n is in
    let below : 0 + k < there.0.number = place_above 0 (filter p nodes) k there.0 (ascend_filter p nodes (tree_ascends nodes tree)) (above_filter p 0 nodes (above_zero nodes tree)) there.1 in
    let same : there.0.number ≡ n = there.2 in
    omega arith

pub where_some : {X P : Type 0} (o : Option X) → P → IfSome o (λ _. P)
where_some None holds = tt
where_some (Some x) holds = holds

-- what comes behind the last one that was given, where none has a number below 1
pub behind : (last : Option ℕ) (n : ℕ) (rs left : List ResourceData) → rs ≡ all_after 0 rs → n ≡ unwrap_or last 0 → all_behind last rs ≡ left → all_after n rs ≡ left
behind None n rs left whole is held = ap (λ (m : ℕ). all_after m rs) is ∙ sym whole ∙ held
behind (Some m) n rs left whole is held = ap (λ (k : ℕ). all_after k rs) is ∙ held

-- what gives the first of what is left has less left
pub progress : (can : List ResourceData → Type 0) → ((s : List ResourceData) → can s) → (s t : List ResourceData) (r : Option (Bor ResourceData)) → YieldsFirstRef (λ rest. rest) s r t → MakesProgress can (item_count (λ rest. rest)) s r t
progress can always s t None h = record { on = λ f. tt; keeps = tt; rests = λ f. f }
progress can always s t (Some x) h =
    let shorter : length s ≡ suc (length t) = ap length h in
    record { on = λ f. (always t, f, omega arith); keeps = always t; rests = λ f. tt }
