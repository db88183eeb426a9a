-- What a removal in place tests, and what it would test of the whole.
use Rattle.std.specs.Prelude.{◌==◌}
use Rattle.std.proofs.Common.{◌≡◌, ℕ, List, ◌++◌, take, drop, Bool, true, false, not, ◌&&◌, ◌||◌, Option, Some, inl, inr, refl, sym, ap, ◌∙◌}
use Rattle.std.proofs.lemmas.Bool.{cases_Bool, or_cases, eqb-true, both_ways, and_right}
use Rattle.std.specs.Option.{option_or}
use Rattle.resource_model.specs.Resource.{ResourceData}
use Rattle.resource_list.specs.Removal.{picks_of}
use Rattle.tree_model.specs.Tree.{at, has, stays, staying, without, is_spared, is_due, is_due_under, is_tree}
use Rattle.resource_list.specs.declared.removing.Removal.{Removal}
use Rattle.resource_list.specs.declared.removing.Removal.TheVariants.{Of, Those, Due}
use Rattle.tree_model.proofs.GrowthLemmas.{zero_lacks, at-without}
use Rattle.resource_list.proofs.SweepLemmas.{IsSwept}
use Rattle.tree_model.proofs.TreeLemmas.{at_none, at-append, has_at}
use Rattle.m2m_names.proofs.StepLemmas.{chosen}

-- what stands among the first of what stays stands so in the whole
found_in_front : (p : ResourceData → Bool) (all front rest : List ResourceData) (n : ℕ) (s : ResourceData) → is_tree all ≡ true → front ++ rest ≡ without p all → at n front ≡ Some s → at n all ≡ Some s
found_in_front p all front rest n s tree is found =
    let here : at n (front ++ rest) ≡ Some s = at-append n front rest ∙ ap (λ (o : Option ResourceData). option_or o (at n rest)) found in
    (chosen (is_spared p all n) (at n all) s (sym (at-without p n all tree) ∙ ap (at n) (sym is) ∙ here)).1

-- the parent of what may stay is read among what stayed
parent_same : (p : ResourceData → Bool) (all front rest : List ResourceData) (r : ResourceData) → is_tree all ≡ true → front ++ rest ≡ without p all → ((r.parent == 0) || has r.parent front) ≡ true → at r.parent front ≡ at r.parent all
parent_same p all front rest r tree is may = elim (cases_Bool (has r.parent front)) [
  | inl there ↦
      let found = has_at r.parent front there in
      found.1 ∙ sym (found_in_front p all front rest r.parent found.0 tree is found.1)
  | inr lacks ↦ elim (or_cases (r.parent == 0) (has r.parent front) may) [
    | inl zero ↦
        let none : has r.parent all ≡ false = ap (λ (m : ℕ). has m all) (eqb-true r.parent 0 zero) ∙ zero_lacks all tree in
        at_none r.parent front lacks ∙ sym (at_none r.parent all none)
    | inr there ↦ absurd (both_ways _ lacks there)
  ]
]

-- a pick is tested among what stayed as among all, where the parent stayed
pub picked_stays : (removal : Removal) (all now : List ResourceData) (stayed place : ℕ) (r : ResourceData) → is_tree all ≡ true → IsSwept (picks_of removal all) all now stayed place → stays (picks_of removal (take stayed now)) (take stayed now) r ≡ stays (picks_of removal all) (take stayed now) r
picked_stays (Of n) all now stayed place r tree h = refl
picked_stays (Those numbers) all now stayed place r tree h = refl
picked_stays (Due moment) all now stayed place r tree h = elim (cases_Bool ((r.parent == 0) || has r.parent (take stayed now))) [
  | inl may ↦
      let same : at r.parent (take stayed now) ≡ at r.parent all = parent_same (is_due all moment) all (take stayed now) (staying (is_due all moment) (take stayed now) (drop place now)) r tree h.pass may in
      ap (λ (o : Option ResourceData). not (is_due_under o moment r) && ((r.parent == 0) || has r.parent (take stayed now))) same
  | inr gone ↦
      ap (λ b. not (is_due (take stayed now) moment r) && b) gone ∙ and_right (not (is_due (take stayed now) moment r)) false refl
      ∙ sym (ap (λ b. not (is_due all moment r) && b) gone ∙ and_right (not (is_due all moment r)) false refl)
]
