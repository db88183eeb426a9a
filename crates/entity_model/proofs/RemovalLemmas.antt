-- Removals: two in a row, and what a removal makes no longer.
use Rattle.std.specs.Prelude.{◌==◌}
use Rattle.std.proofs.Common.{◌≡◌, ℕ, ◌≤◌, List, [], ◌∷◌, ◌++◌, length, Bool, true, false, ◌||◌, inl, inr, refl, ap, arith}
use Rattle.std.proofs.lemmas.Bool.{cases_Bool, or_cases, or_parts, or_from, or_left, or_right, both_ways, false_from_ne_true}
use Rattle.resource_model.specs.Resource.{ResourceData}
use Rattle.tree_model.specs.Tree.{has, stays, staying, without, level_of, is_tree}
use Rattle.tree_model.proofs.ChangeLemmas.{line_none}
use Rattle.tree_model.proofs.TreeLemmas.{Covers, covers_grown, covers_both, stays_parts, stays_from}

-- ---- two removals in a row

-- one of the two picks it
abbrev pub either : (ResourceData → Bool) → (ResourceData → Bool) → ResourceData → Bool
either p q r = p r || q r

-- what stays of both stays of each
stays_each : (p q : ResourceData → Bool) (more less : List ResourceData) (r : ResourceData) → Covers more less → stays (either p q) less r ≡ true → (stays p more r ≡ true) × (stays q less r ≡ true)
stays_each p q more less r covers stayed =
    let parts = stays_parts (either p q) less r stayed in
    let free = or_parts (p r) (q r) parts.unpicked in
    let wide : ((r.parent == 0) || has r.parent more) ≡ true = elim (or_cases (r.parent == 0) _ parts.parent) [
      | inl root ↦ or_left _ _ root
      | inr kept ↦ or_right _ _ (covers r.parent kept)
    ] in
    (stays_from p more r (record { unpicked = free.0; parent = wide }), stays_from q less r (record { unpicked = free.1; parent = parts.parent }))

-- what stays of each stays of both
stays_both : (p q : ResourceData → Bool) (more less : List ResourceData) (r : ResourceData) → stays p more r ≡ true → stays q less r ≡ true → stays (either p q) less r ≡ true
stays_both p q more less r first second =
    let one = stays_parts p more r first in
    let two = stays_parts q less r second in
    stays_from (either p q) less r (record { unpicked = or_from _ _ one.unpicked two.unpicked; parent = two.parent })

staying_twice : (p q : ResourceData → Bool) (more less nodes : List ResourceData) → Covers more less → staying q less (staying p more nodes) ≡ staying (either p q) less nodes
staying_twice p q more less [] covers = refl
staying_twice p q more less (r ∷ nodes) covers = elim (cases_Bool (stays (either p q) less r)) [
  | inl t ↦
      let each = stays_each p q more less r covers t in
      rw (each.0, t, each.1) (ap (λ rest. r ∷ rest) (staying_twice p q (more ++ r ∷ []) (less ++ r ∷ []) nodes (covers_both more less r covers)))
  | inr f ↦ elim (cases_Bool (stays p more r)) [
    | inl u ↦
        let goes : stays q less r ≡ false = false_from_ne_true _ (λ v. both_ways _ f (stays_both p q more less r u v)) in
        rw (u, f, goes) (staying_twice p q (more ++ r ∷ []) less nodes (covers_grown more less r covers))
    | inr v ↦ rw (v, f) (staying_twice p q more less nodes covers)
  ]
]

-- what stays of two removals in a row is what stays of one that takes what either does
pub without_twice : (p q : ResourceData → Bool) (nodes : List ResourceData) → without q (without p nodes) ≡ without (either p q) nodes
without_twice p q nodes = staying_twice p q [] [] nodes (λ n there. there)

-- ---- what a removal makes no longer

pub staying_length : (p : ResourceData → Bool) (stayed nodes : List ResourceData) → length (staying p stayed nodes) ≤ length nodes
staying_length p stayed [] = omega arith
staying_length p stayed (r ∷ nodes) = elim (cases_Bool (stays p stayed r)) [
  | inl t ↦ rw t (omega (arith, staying_length p (stayed ++ r ∷ []) nodes))
  | inr f ↦ rw f (omega (arith, staying_length p stayed nodes))
]

-- a resource that isn't there stands nowhere
pub no_depth : (n : ℕ) (nodes : List ResourceData) → is_tree nodes ≡ true → has n nodes ≡ false → level_of n nodes ≡ 0
no_depth n nodes tree lacks = ap length (line_none n nodes tree lacks)
