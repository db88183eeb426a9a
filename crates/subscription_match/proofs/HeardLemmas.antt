-- What is noted of the resources of whose children's deletions somebody is told.
use Rattle.std.specs.Prelude.{nat_eq}
use Rattle.std.proofs.Common.{◌≡◌, ℕ, List, [], ◌∷◌, Bool, true, false, not, ◌&&◌, ◌||◌, cond, Option, Some, None, IfSome, filter, inl, inr, refl, sym, ap, ◌∙◌}
use Rattle.std.proofs.lemmas.Bool.{cases_Bool, eqb-true, false≢true}
use Rattle.std.proofs.lemmas.Option.{same_Some}
use Rattle.std.specs.List.{list_any}
use Rattle.std.specs.Option.{option_map_or}
use Rattle.std.specs.Ordering.{is_eq, nat_cmp}
use Rattle.resource_model.specs.Resource.{ResourceData}
use Rattle.tree_model.specs.Changes.{ChangeData, created, updated, deleted}
use Rattle.subscription_match.specs.Matching.{AreHeard, above_of, does_hear, does_hear_under, heard_above, is_deaf, is_heard, is_heard_above, is_sub_of, is_sub_of_either, noted_at}
use Rattle.subscription_match.proofs.SpendingLemmas.{same_number}

-- nothing yet
pub none_noted : (going : List ℕ) (nodes : List ResourceData) (rows : List (ℕ × Bool)) → rows ≡ [] → AreHeard going nodes rows
none_noted going nodes rows is = record {
  says = λ n b found. let none : None ≡ Some b = sym (ap (λ (rs : List (ℕ × Bool)). noted_at rs n) is) ∙ found in cc;
}

-- where it is noted that none hears, none does
pub deaf_so : (going : List ℕ) (nodes : List ResourceData) (rows : List (ℕ × Bool)) (n : ℕ) → AreHeard going nodes rows → is_deaf rows n ≡ true → is_heard going nodes n ≡ false
deaf_so going nodes rows n so deaf = by (noted_at rows n) refl deaf
  where
    by : (o : Option Bool) → noted_at rows n ≡ o → option_map_or not o false ≡ true → is_heard going nodes n ≡ false
    by None found is = absurd (false≢true is)
    by (Some true) found is = absurd (false≢true is)
    by (Some false) found is = sym (so.says n false found)

-- what was found of those that were gone over is so of the resource that loses a child
pub found_so : (going : List ℕ) (nodes : List ResourceData) (rows : List (ℕ × Bool)) (change : ChangeData) (above : Option ℕ) (found : Option Bool) → AreHeard going nodes rows → above ≡ heard_above rows change → IfSome found (λ b. b ≡ is_heard_above going nodes above) → IfSome found (λ b. b ≡ is_heard_above going nodes (above_of change))
found_so going nodes rows change above None so is says = tt
found_so going nodes rows change above (Some b) so is says = says ∙ ap (is_heard_above going nodes) is ∙ same change
  where
    none_under : (rs : List ResourceData) → list_any (does_hear going) (filter (is_sub_of None) rs) ≡ false
    none_under [] = refl
    none_under (r ∷ rs) = none_under rs

    same : (c : ChangeData) → is_heard_above going nodes (heard_above rows c) ≡ is_heard_above going nodes (above_of c)
    same (created r) = refl
    same (updated r s named) = refl
    same (deleted r) = elim (cases_Bool (is_deaf rows r.parent)) [
      | inl t ↦ rw t (none_under nodes ∙ sym (deaf_so going nodes rows r.parent so t))
      | inr f ↦ rw f refl
    ]

-- of those under one of two resources, those under the second are all that may hear under it
among : (p q : ResourceData → Bool) (r : ResourceData) (either those : List ResourceData) (own above : Bool) → p r ≡ (above && q r) → list_any p either ≡ list_any q those → list_any p (cond (own || above) (r ∷ either) either) ≡ list_any q (cond above (r ∷ those) those)
among p q r either those true true is rest = ap (λ b. b || list_any p either) is ∙ ap (λ b. q r || b) rest
among p q r either those false true is rest = ap (λ b. b || list_any p either) is ∙ ap (λ b. q r || b) rest
among p q r either those true false is rest = ap (λ b. b || list_any p either) is ∙ rest
among p q r either those false false is rest = rest

pub heard_among : (going : List ℕ) (own above : Option ℕ) (nodes : List ResourceData) → list_any (does_hear_under going above) (filter (is_sub_of_either own above) nodes) ≡ is_heard_above going nodes above
heard_among going own above [] = refl
heard_among going own above (r ∷ nodes) =
    among (does_hear_under going above) (does_hear going) r (filter (is_sub_of_either own above) nodes) (filter (is_sub_of above) nodes)
    (is_sub_of own r) (is_sub_of above r) refl (heard_among going own above nodes)

-- where none is left, one of those that were taken hears where one under the second of two resources does
heard_of_all : (going : List ℕ) (own above : Option ℕ) (nodes left : List ResourceData) (hears : Bool) → left ≡ [] → (hears || list_any (does_hear_under going above) left) ≡ list_any (does_hear_under going above) (filter (is_sub_of_either own above) nodes) → hears ≡ is_heard_above going nodes above
heard_of_all going own above nodes left hears none is =
    sym (or_false hears) ∙ ap (λ (rs : List ResourceData). hears || list_any (does_hear_under going above) rs) (sym none)
    ∙ is ∙ heard_among going own above nodes
  where
    or_false : (b : Bool) → (b || false) ≡ b
    or_false true = refl
    or_false false = refl

-- what was found of those that were taken is so, where it was sought
pub heard_where_sought : (going : List ℕ) (own above : Option ℕ) (nodes left : List ResourceData) (is_sought hears : Bool) (found : Option Bool) → left ≡ [] → (hears || (is_sought && list_any (does_hear_under going above) left)) ≡ (is_sought && list_any (does_hear_under going above) (filter (is_sub_of_either own above) nodes)) → IfSome found (λ b. (is_sought ≡ true) × (b ≡ hears)) → IfSome found (λ b. b ≡ is_heard_above going nodes above)
heard_where_sought going own above nodes left is_sought hears None none is says = tt
heard_where_sought going own above nodes left true hears (Some b) none is says = says.1 ∙ heard_of_all going own above nodes left hears none is
heard_where_sought going own above nodes left false hears (Some b) none is says = absurd (false≢true says.0)

-- one more
pub one_noted : (going : List ℕ) (nodes : List ResourceData) (old new : List (ℕ × Bool)) (parent : ℕ) (is : Bool) → AreHeard going nodes old → is ≡ is_heard going nodes parent → ((q : ℕ) → noted_at new q ≡ cond (is_eq (nat_cmp parent q)) (Some is) (noted_at old q)) → AreHeard going nodes new
one_noted going nodes old new parent is so now updates = record { says = by }
  where
    by : (n : ℕ) (b : Bool) → noted_at new n ≡ Some b → b ≡ is_heard going nodes n
    by n b found = elim (cases_Bool (nat_eq parent n)) [
      | inl t ↦
          let at_it : noted_at new n ≡ Some is = updates n ∙ rw (same_number parent n ∙ t) refl in
          let same : is ≡ b = same_Some is b (sym at_it ∙ found) in
          sym same ∙ now ∙ ap (is_heard going nodes) (eqb-true parent n t)
      | inr f ↦
          let before : noted_at new n ≡ noted_at old n = updates n ∙ rw (same_number parent n ∙ f) refl in
          so.says n b (sym before ∙ found)
    ]
