-- A removal in place: what has stayed so far, and what is still to be passed over.
use Rattle.std.proofs.Common.{◌≡◌, ℕ, ◌+◌, ◌<◌, ◌≤◌, List, [], ◌∷◌, ◌++◌, map, length, take, drop, get_or, set, Bool, true, false, inl, inr, refl, sym, ap, ◌∙◌, subst, arith, append_assoc}
use Rattle.std.proofs.lemmas.Bool.{cases_lt}
use Rattle.std.proofs.lemmas.List.{drop_more, map-append, take_more_set, take-set-le, drop-set-lt, set-set, length-set}
use Rattle.std.specs.List.{AllByRecursion}
use Rattle.std.specs.List.Sorted.{IsStrictlySortedBy}
use Rattle.std.specs.Ordering.{nat_cmp}
use Rattle.resource_model.specs.Resource.{ResourceData}
use Rattle.tree_model.specs.Tree.{stays, staying, without, AreAscending}

-- of `all`, the list is at a place; what has stayed stands in front of what is left
pub record IsSwept (picks : ResourceData → Bool) (all now : List ResourceData) (stayed place : ℕ) : Type 0 where
  pub behind : stayed ≤ place
  pub within : place ≤ length now
  pub len : length now ≡ length all
  pub pass : take stayed now ++ staying picks (take stayed now) (drop place now) ≡ without picks all
  pub order : AreAscending (take stayed now ++ drop place now)

all_front : (P : ℕ → Type 0) (xs ys : List ℕ) → AllByRecursion P (xs ++ ys) → AllByRecursion P xs
all_front P [] ys h = tt
all_front P (x ∷ xs) ys h = (h.0, all_front P xs ys h.1)

sorted_front : (xs ys : List ℕ) → IsStrictlySortedBy nat_cmp (xs ++ ys) → IsStrictlySortedBy nat_cmp xs
unfolding IsStrictlySortedBy
sorted_front [] ys h = tt
sorted_front (x ∷ xs) ys h = (all_front _ xs ys h.0, sorted_front xs ys h.1)

all_gap : (P : ℕ → Type 0) (xs : List ℕ) (y : ℕ) (ys : List ℕ) → AllByRecursion P (xs ++ y ∷ ys) → AllByRecursion P (xs ++ ys)
all_gap P [] y ys h = h.1
all_gap P (x ∷ xs) y ys h = (h.0, all_gap P xs y ys h.1)

sorted_gap : (xs : List ℕ) (y : ℕ) (ys : List ℕ) → IsStrictlySortedBy nat_cmp (xs ++ y ∷ ys) → IsStrictlySortedBy nat_cmp (xs ++ ys)
unfolding IsStrictlySortedBy
sorted_gap [] y ys h = h.1
sorted_gap (x ∷ xs) y ys h = (all_gap _ xs y ys h.0, sorted_gap xs y ys h.1)

abbrev numbers : List ResourceData → List ℕ
numbers nodes = map (λ (r : ResourceData). r.number) nodes

pub ascending_front : (xs ys : List ResourceData) → AreAscending (xs ++ ys) → AreAscending xs
ascending_front xs ys h = sorted_front (numbers xs) (numbers ys) (subst (IsStrictlySortedBy nat_cmp) (map-append (λ (r : ResourceData). r.number) xs ys) h)

pub ascending_gap : (xs : List ResourceData) (r : ResourceData) (ys : List ResourceData) → AreAscending (xs ++ r ∷ ys) → AreAscending (xs ++ ys)
ascending_gap xs r ys h =
    subst (IsStrictlySortedBy nat_cmp) (sym (map-append (λ (s : ResourceData). s.number) xs ys))
    (sorted_gap (numbers xs) r.number (numbers ys) (subst (IsStrictlySortedBy nat_cmp) (map-append (λ (s : ResourceData). s.number) xs (r ∷ ys)) h))

pub swept_start : (picks : ResourceData → Bool) (all : List ResourceData) → AreAscending all → IsSwept picks all all 0 0
swept_start picks all sorted = record { behind = omega arith; within = omega arith; len = refl; pass = refl; order = sorted }

module _ (picks : ResourceData → Bool) (all now : List ResourceData) (stayed place : ℕ) (r : ResourceData) where
  pub swept_skip : IsSwept picks all now stayed place → place < length now → r ≡ get_or now place r → stays picks (take stayed now) r ≡ false → IsSwept picks all now stayed (place + 1)
  swept_skip h inside read goes =
      let next : drop place now ≡ r ∷ drop (place + 1) now = drop_more now place r inside ∙ ap (λ (x : ResourceData). x ∷ drop (place + 1) now) (sym read) in
      let behind : stayed ≤ place = h.behind in
      record {
        behind = omega arith;
        within = omega arith;
        len = h.len;
        pass = sym (ap (λ rest. take stayed now ++ staying picks (take stayed now) rest) next ∙ rw goes refl) ∙ h.pass;
        order = ascending_gap (take stayed now) r (drop (place + 1) now) (subst (λ rest. AreAscending (take stayed now ++ rest)) next h.order);
      }

-- one is moved to the end of what has stayed
swapped_take : (xs : List ResourceData) (k i : ℕ) (d : ResourceData) → k ≤ i → i < length xs → take (k + 1) (set (set xs k (get_or xs i d)) i (get_or xs k d)) ≡ take k xs ++ get_or xs i d ∷ []
swapped_take xs k i d le inside = elim (cases_lt k i) [
  | inl before ↦ take-set-le (k + 1) (set xs k (get_or xs i d)) i (get_or xs k d) (omega arith) ∙ take_more_set xs k (get_or xs i d) (omega arith)
  | inr reached ↦
      let same : k ≡ i = omega arith in
      ap (λ j. take (k + 1) (set (set xs k (get_or xs j d)) j (get_or xs k d))) (sym same)
      ∙ ap (take (k + 1)) (set-set xs k (get_or xs k d) (get_or xs k d))
      ∙ take_more_set xs k (get_or xs k d) (omega arith)
      ∙ ap (λ j. take k xs ++ get_or xs j d ∷ []) same
]

swapped_drop : (xs : List ResourceData) (k i : ℕ) (a b : ResourceData) → k ≤ i → drop (i + 1) (set (set xs k a) i b) ≡ drop (i + 1) xs
swapped_drop xs k i a b le = drop-set-lt (i + 1) (set xs k a) i b (omega arith) ∙ drop-set-lt (i + 1) xs k a (omega arith)

pub swept_keep : (picks : ResourceData → Bool) (all now : List ResourceData) (stayed place : ℕ) (r : ResourceData) (after : List ResourceData) → IsSwept picks all now stayed place → place < length now → r ≡ get_or now place r → stays picks (take stayed now) r ≡ true → after ≡ set (set now stayed (get_or now place r)) place (get_or now stayed r) → IsSwept picks all after (stayed + 1) (place + 1)
swept_keep picks all now stayed place r after h inside read stay is =
    let behind : stayed ≤ place = h.behind in
    let next : drop place now ≡ r ∷ drop (place + 1) now = drop_more now place r inside ∙ ap (λ (x : ResourceData). x ∷ drop (place + 1) now) (sym read) in
    let front : take (stayed + 1) after ≡ take stayed now ++ r ∷ [] =
    ap (take (stayed + 1)) is ∙ swapped_take now stayed place r behind inside ∙ ap (λ (x : ResourceData). take stayed now ++ x ∷ []) (sym read) in
    let back : drop (place + 1) after ≡ drop (place + 1) now = ap (drop (place + 1)) is ∙ swapped_drop now stayed place _ _ behind in
    let long : length after ≡ length now = ap length is ∙ length-set (set now stayed (get_or now place r)) place (get_or now stayed r) ∙ length-set now stayed (get_or now place r) in
    let joined : (rest : List ResourceData) → (take stayed now ++ r ∷ []) ++ rest ≡ take stayed now ++ r ∷ rest = λ rest. append_assoc (take stayed now) (r ∷ []) rest in
    let turn : take stayed now ++ staying picks (take stayed now) (drop place now) ≡ take stayed now ++ r ∷ staying picks (take stayed now ++ r ∷ []) (drop (place + 1) now) =
    ap (λ rest. take stayed now ++ staying picks (take stayed now) rest) next ∙ rw stay refl in
    record {
      behind = omega arith;
      within = omega arith;
      len = long ∙ h.len;
      pass =
          ap (λ (f : List ResourceData). f ++ staying picks f (drop (place + 1) after)) front
          ∙ ap (λ (b : List ResourceData). (take stayed now ++ r ∷ []) ++ staying picks (take stayed now ++ r ∷ []) b) back
          ∙ joined _ ∙ sym turn ∙ h.pass;
      order = subst AreAscending (sym (ap (λ (f : List ResourceData). f ++ drop (place + 1) after) front ∙ ap (λ (b : List ResourceData). (take stayed now ++ r ∷ []) ++ b) back ∙ joined (drop (place + 1) now) ∙ ap (λ rest. take stayed now ++ rest) (sym next))) h.order;
    }
