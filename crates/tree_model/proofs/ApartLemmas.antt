-- What no two resources of a tree share.
use Rattle.std.proofs.Common.{◌≡◌, ℕ, ◌⊎◌, List, [], ◌∷◌, ◌++◌, Bool, true, false, Option, Some, None, inl, inr, refl, sym, ap, ◌∙◌}
use Rattle.std.proofs.lemmas.Bool.{cases_Bool, or_left, or_right, eqb-true, both_ways}
use Rattle.std.proofs.lemmas.Option.{same_Some}
use Rattle.std.proofs.lemmas.Slice.Eq.{bytes_eq-Decides}
use Rattle.std.specs.List.{list_any}
use Rattle.std.specs.Option.{option_or}
use Rattle.std.specs.Str.{bytes_eq}
use Rattle.resource_model.specs.Resource.{ResourceData, has_number, ae_id, cse_id}
use Rattle.tree_model.specs.Tree.{at, is_child, same_text, may_stand, is_tree}
use Rattle.tree_model.proofs.GrowthLemmas.{growth, next_fits}
use Rattle.tree_model.proofs.TreeLemmas.{at-append, child_parts, child_from}
use Rattle.m2m_value.proofs.Lookup.{bytes_eq_itself}
use Rattle.m2m_names.proofs.LookupLemmas.{option_or-None}

-- the one that a number finds is among all
found_any : (p : ResourceData → Bool) (n : ℕ) (nodes : List ResourceData) (r : ResourceData) → at n nodes ≡ Some r → p r ≡ true → list_any p nodes ≡ true
found_any p n [] r found passes = cc
found_any p n (s ∷ nodes) r found passes = elim (cases_Bool (has_number n s)) [
  | inl t ↦ or_left (p s) (list_any p nodes) (ap p (same_Some s r (rw t at found)) ∙ passes)
  | inr f ↦ or_right (p s) (list_any p nodes) (found_any p n nodes r (rw f at found) passes)
]

-- a number finds what came last, or what it found before
last_or_before : (n : ℕ) (before : List ResourceData) (x r : ResourceData) → at n (before ++ x ∷ []) ≡ Some r → ((x ≡ r) × (x.number ≡ n)) ⊎ (at n before ≡ Some r)
last_or_before n before x r found = elim (cases_Bool (has_number n x)) [
  | inl t ↦ new (at n before) refl (sym (at-append n before (x ∷ []) ∙ rw t refl) ∙ found) t
  | inr f ↦ inr (sym (at-append n before (x ∷ []) ∙ rw f (option_or-None (at n before))) ∙ found)
]
  where
    new : (o : Option ResourceData) → at n before ≡ o → option_or o (Some x) ≡ Some r → has_number n x ≡ true → ((x ≡ r) × (x.number ≡ n)) ⊎ (at n before ≡ Some r)
    new None is value t = inl (same_Some x r value, eqb-true x.number n t)
    new (Some s) is value t = inr (is ∙ value)

-- a relation that no later one has to an earlier one is held by none with another
module _ (shares : ResourceData → ResourceData → Bool) (turned : (r s : ResourceData) → shares r s ≡ true → shares s r ≡ true) (free : (before : List ResourceData) (r : ResourceData) → may_stand before r ≡ true → list_any (λ s. shares s r) before ≡ false) where
  pub apart : (nodes : List ResourceData) → is_tree nodes ≡ true → (m n : ℕ) (r s : ResourceData) → at m nodes ≡ Some r → at n nodes ≡ Some s → shares r s ≡ true → m ≡ n
  apart = growth may_stand (λ nodes. (m n : ℕ) (r s : ResourceData) → at m nodes ≡ Some r → at n nodes ≡ Some s → shares r s ≡ true → m ≡ n) (λ m n r s left. cc) (λ before x grew next holds m n r s left right share.
      elim (last_or_before m before x r left) [
        | inl first ↦ elim (last_or_before n before x s right) [
          | inl second ↦ sym first.1 ∙ second.1
          | inr old ↦ absurd (both_ways _ (free before x next) (found_any (λ y. shares y x) n before s old (turned x s (ap (λ (y : ResourceData). shares y s) first.0 ∙ share))))
        ]
        | inr old ↦ elim (last_or_before n before x s right) [
          | inl second ↦ absurd (both_ways _ (free before x next) (found_any (λ y. shares y x) m before r old (ap (λ (y : ResourceData). shares r y) second.0 ∙ share)))
          | inr older ↦ holds m n r s old older share
        ]
      ])

bytes_same : (xs ys : List ℕ) → bytes_eq xs ys ≡ true → xs ≡ ys
bytes_same xs ys h = (bytes_eq-Decides xs ys).0 h

-- names of siblings differ
child_turned : (r s : ResourceData) → is_child s.parent s.name r ≡ true → is_child r.parent r.name s ≡ true
child_turned r s share =
    let parts = child_parts s.parent s.name r share in
    child_from r.parent r.name s (record { under = sym parts.under; called = sym parts.called })

pub names_apart : (nodes : List ResourceData) (m n : ℕ) (r s : ResourceData) → is_tree nodes ≡ true → at m nodes ≡ Some r → at n nodes ≡ Some s → r.parent ≡ s.parent → r.name ≡ s.name → m ≡ n
names_apart nodes m n r s tree left right parent name =
    apart (λ a b. is_child b.parent b.name a) (λ a b. child_turned a b) (λ before x next. (next_fits before x next).name) nodes tree m n r s left right
    (child_from s.parent s.name r (record { under = parent; called = name }))

-- ids differ
text_turned : (a b : Option (List ℕ)) → same_text a b ≡ true → same_text b a ≡ true
text_turned None None share = cc
text_turned None (Some b) share = cc
text_turned (Some a) None share = cc
text_turned (Some a) (Some b) share = ap (λ (t : List ℕ). bytes_eq b t) (bytes_same a b share) ∙ bytes_eq_itself b

both_have : (a b : Option (List ℕ)) (text : List ℕ) → a ≡ Some text → b ≡ Some text → same_text a b ≡ true
both_have a b text first second = ap (λ (o : Option (List ℕ)). same_text o b) first ∙ ap (same_text (Some text)) second ∙ bytes_eq_itself text

pub ae_ids_apart : (nodes : List ResourceData) (m n : ℕ) (r s : ResourceData) (aei : List ℕ) → is_tree nodes ≡ true → at m nodes ≡ Some r → at n nodes ≡ Some s → ae_id r ≡ Some aei → ae_id s ≡ Some aei → m ≡ n
ae_ids_apart nodes m n r s aei tree left right first second =
    apart (λ a b. same_text (ae_id a) (ae_id b)) (λ a b share. text_turned (ae_id a) (ae_id b) share) (λ before x next. (next_fits before x next).ae) nodes tree m n r s left right (both_have (ae_id r) (ae_id s) aei first second)

pub cse_ids_apart : (nodes : List ResourceData) (m n : ℕ) (r s : ResourceData) (csi : List ℕ) → is_tree nodes ≡ true → at m nodes ≡ Some r → at n nodes ≡ Some s → cse_id r ≡ Some csi → cse_id s ≡ Some csi → m ≡ n
cse_ids_apart nodes m n r s csi tree left right first second =
    apart (λ a b. same_text (cse_id a) (cse_id b)) (λ a b share. text_turned (cse_id a) (cse_id b) share) (λ before x next. (next_fits before x next).cse) nodes tree m n r s left right (both_have (cse_id r) (cse_id s) csi first second)
