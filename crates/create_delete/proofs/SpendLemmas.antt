-- What an operation changes by right, it does also where it is told, and subscriptions that count
-- are lowered.
use Rattle.std.specs.Prelude.{◌==◌, ◌⊎◌}
use Rattle.std.proofs.Common.{◌≡◌, ℕ, ◌-◌, ◌≤◌, List, [], Bool, true, false, not, cond, Option, Some, None, option_map, inl, inr, refl, sym, ap, ◌∙◌, subst, arith}
use Rattle.std.proofs.lemmas.Bool.{cases_Bool, both_ways, eqb-true, false_from_ne_true}
use Rattle.std.proofs.lemmas.Option.{same_Some}
use Rattle.std.specs.Option.{option_map_or}
use Rattle.m2m_names.proofs.TypeLemmas.{same_type}
use Rattle.m2m_names.specs.Types.{does_take}
use Rattle.m2m_names.specs.declared.operations.Op.{Op}
use Rattle.m2m_names.specs.declared.types.Ty.{Ty}
use Rattle.m2m_names.specs.declared.types.Ty.TheVariants.{Subscription}
use Rattle.primitive_json.specs.declared.note.NoteParts.{NoteParts}
use Rattle.resource_model.specs.Resource.{ResourceData}
use Rattle.attribute_rules.specs.Kinds.{are_kinds}
use Rattle.subscription_match.specs.Spending.{count_for, is_spent, left_of, left_to, lowered, nodes_spent}
use Rattle.subscription_match.specs.declared.drafts.DraftParts.{DraftParts}
use Rattle.tree_model.specs.Tree.{at, is_taken, is_tree, without}
use Rattle.tree_model.proofs.GrowthLemmas.{tree_from_well_formed}
use Rattle.tree_model.proofs.QuietLemmas.{number_passes}
use Rattle.tree_model.proofs.TakenLemmas.{all_taken}
use Rattle.tree_model.proofs.TreeLemmas.{at-map, at_number}
use Rattle.entity_model.specs.Entity.{EntityData, with_told}
use Rattle.entity_model.specs.Sound.{IsSoundEntity}
use Rattle.entity_model.proofs.SpentLemmas.{counts_to, lowered_stands, not_none, taken_from}
use Rattle.policy_eval.specs.Rights.{create_bit}
use Rattle.request_rules.specs.Rights.{is_granted}
use Rattle.create_delete.specs.Guard.{ChangesByRight, IsChanged, IsChangedByRight, IsGone, IsLowered, IsNew, IsRemovedByRight, IsSpentBy}
use Rattle.create_delete.proofs.KeptToldLemmas.{KeepsTold}
use Rattle.create_delete.proofs.LeftLemmas.{at_left, left_stood, AreLeaves}

-- ---- what is left to a resource

-- a resource that is spent
record IsSpentNow (drafts : List DraftParts) (r : ResourceData) : Type 0 where
  old : ℕ
  counted : left_to r ≡ Some old
  told : (count_for r.number drafts == 0) ≡ false
  all : old ≤ count_for r.number drafts

spent_now : (drafts : List DraftParts) (r : ResourceData) → is_spent drafts r ≡ true → IsSpentNow drafts r
spent_now drafts r is = by (left_of drafts r) refl is
  where
    by : (o : Option ℕ) → left_of drafts r ≡ o → option_map_or (λ left. left == 0) o false ≡ true → IsSpentNow drafts r
    by None found none = absurd (both_ways _ refl none)
    by (Some left) found some =
        let from = taken_from drafts r left found in
        let none : left ≡ 0 = eqb-true left 0 some in
        let rest : left ≡ from.old - count_for r.number drafts = from.rest in
        record { old = from.old; counted = from.counted; told = from.told; all = omega (arith, none, rest) }

module _ (op : Op) (e : EntityData) (o : List ℕ) (n : ℕ) (drafts : List DraftParts) (requests : List NoteParts) (after : EntityData) (sound : IsSoundEntity after) (keeps : KeepsTold e.nodes drafts after.nodes) (right : ChangesByRight op e o n [] after) where
  abbrev left : List ResourceData
  left = nodes_spent drafts after.nodes

  abbrev told : EntityData
  told = with_told e.nodes drafts requests after

  tree : is_tree after.nodes ≡ true
  tree = tree_from_well_formed after.nodes sound.tree

  kinds : (m : ℕ) (r : ResourceData) → at m after.nodes ≡ Some r → are_kinds r ≡ true
  kinds m r found = number_passes are_kinds m after.nodes r sound.kinds found

  -- nothing stands under a subscription
  leaves : AreLeaves (is_spent drafts) after.nodes
  leaves s up found above = false_from_ne_true _ (λ t.
      let spent = spent_now drafts up t in
      let counts = counts_to up spent.old (kinds s.parent up above) spent.counted in
      let taken : is_taken after.nodes s ≡ true = number_passes (is_taken after.nodes) s.number after.nodes s (all_taken after.nodes sound.tree) found in
      let takes : does_take up.ty s.ty ≡ true = sym (ap (λ (p : Option ResourceData). option_map_or (λ q. does_take q.ty s.ty) p true) above) ∙ taken in
      let ty : up.ty ≡ Subscription = same_type up.ty Subscription (eqb-true _ _ counts.subscription) in
      both_ways _ refl (ap (λ (t : Ty). does_take t s.ty) (sym ty) ∙ takes))

  -- what stands then stood there, and is lowered
  told_stood : (m : ℕ) (s : ResourceData) → at m left ≡ Some s → (x : ResourceData) × (at m after.nodes ≡ Some x) × (s ≡ lowered drafts x)
  told_stood m s found = by (at m (without (is_spent drafts) after.nodes)) refl
    where
      mapped : at m left ≡ option_map (lowered drafts) (at m (without (is_spent drafts) after.nodes))
      mapped = at-map (lowered drafts) (lowered_stands drafts).number m (without (is_spent drafts) after.nodes)

      by : (x : Option ResourceData) → at m (without (is_spent drafts) after.nodes) ≡ x → (y : ResourceData) × (at m after.nodes ≡ Some y) × (s ≡ lowered drafts y)
      by None is = (let both : None ≡ Some s = sym (mapped ∙ ap (option_map (lowered drafts)) is) ∙ found in cc)
      by (Some x) is = (x, left_stood (is_spent drafts) m after.nodes x tree is, sym (same_Some (lowered drafts x) s (sym (mapped ∙ ap (option_map (lowered drafts)) is) ∙ found)))

  untold_same : (x : ResourceData) → (count_for x.number drafts == 0) ≡ true → lowered drafts x ≡ x
  untold_same x zero = rw zero refl

  left_now : (x : ResourceData) → at x.number after.nodes ≡ Some x → at x.number left ≡ option_map (lowered drafts) (cond (not (is_spent drafts x)) (Some x) None)
  left_now x found =
      at-map (lowered drafts) (lowered_stands drafts).number x.number (without (is_spent drafts) after.nodes)
      ∙ ap (option_map (lowered drafts)) (at_left (is_spent drafts) after.nodes tree leaves x found)

  untold_unspent : (x : ResourceData) → (count_for x.number drafts == 0) ≡ true → is_spent drafts x ≡ false
  untold_unspent x zero = rw zero refl

  -- whom nothing is told stays
  untold_stays : (x : ResourceData) → at x.number after.nodes ≡ Some x → (count_for x.number drafts == 0) ≡ true → at x.number left ≡ Some x
  untold_stays x found zero =
      left_now x found
      ∙ ap (λ (b : Bool). option_map (lowered drafts) (cond (not b) (Some x) None)) (untold_unspent x zero)
      ∙ ap Some (untold_same x zero)

  -- what is new is told nothing
  new_untold : (i : ResourceData) → at i.number e.nodes ≡ None → at i.number after.nodes ≡ Some i → (count_for i.number drafts == 0) ≡ true
  new_untold i lacks found = elim (cases_Bool (count_for i.number drafts == 0)) [
    | inl z ↦ z
    | inr some ↦ (let both : None ≡ Some i = sym lacks ∙ keeps i found some in cc)
  ]

  by_right_told : (r s : ResourceData) → IsChangedByRight e o [] after r s → IsChangedByRight e o drafts told r s
  by_right_told r s by = elim by [
    | inl update ↦ inl update
    | inr other ↦ elim other [
      | inl relink ↦ inr (inl relink)
      | inr more ↦ elim more [
        | inl filled ↦ inr (inr (inl (filled.0, (filled.1.0, untold_stays filled.0 filled.1.1 (new_untold filled.0 filled.1.0 filled.1.1)), filled.2, filled.3)))
        | inr counted ↦ absurd (omega (arith, counted.told))
      ]
    ]
  ]

  -- one that is told something is lowered, where it counts
  lowered_as : (x : ResourceData) → at x.number after.nodes ≡ Some x → (count_for x.number drafts == 0) ≡ false → is_spent drafts x ≡ false → (lowered drafts x ≡ x) ⊎ IsLowered drafts x (lowered drafts x)
  lowered_as x found some unspent = by (left_to x) refl some
    where
      by : (l : Option ℕ) → left_to x ≡ l → (count_for x.number drafts == 0) ≡ false → (lowered drafts x ≡ x) ⊎ IsLowered drafts x (lowered drafts x)
      by None is some = inl (rw (some, is) refl)
      by (Some old) is some =
          let counts = counts_to x old (kinds x.number x found) is in
          let told : 1 ≤ count_for x.number drafts = not_none (count_for x.number drafts) some in
          let some_left : 1 ≤ old - count_for x.number drafts = not_none (old - count_for x.number drafts) (rw (some, is) at unspent) in
          inr (record {
            kind = counts.subscription;
            old = old;
            counted = is;
            told = omega arith;
            more = omega arith;
            rest = rw (some, is) refl;
          })

  -- what stands then isn't spent
  is_standing : (b : Bool) (x s : ResourceData) → option_map (lowered drafts) (cond (not b) (Some x) None) ≡ Some s → b ≡ false
  is_standing true x s some = cc
  is_standing false x s some = refl

  created : (r : ResourceData) → IsNew e.nodes left r → (r.parent ≡ n) × (is_granted e o create_bit n ≡ true)
  created r fresh =
      let stood = told_stood r.number r fresh.1 in
      let number : stood.0.number ≡ r.number = at_number r.number after.nodes stood.0 stood.1 in
      let own : at stood.0.number after.nodes ≡ Some stood.0 = ap (λ (m : ℕ). at m after.nodes) number ∙ stood.1 in
      let zero = new_untold stood.0 (ap (λ (m : ℕ). at m e.nodes) number ∙ fresh.0) own in
      let same : r ≡ stood.0 = stood.2 ∙ untold_same stood.0 zero in
      right.created r (fresh.0, stood.1 ∙ ap Some (sym same))

  changed : (r s : ResourceData) → IsChanged e.nodes left r s → IsChangedByRight e o drafts told r s
  changed r s change =
      let stood = told_stood s.number s change.is in
      let x = stood.0 in
      let number : x.number ≡ s.number = at_number s.number after.nodes x stood.1 in
      let own : at x.number after.nodes ≡ Some x = ap (λ (m : ℕ). at m after.nodes) number ∙ stood.1 in
      elim (cases_Bool (count_for x.number drafts == 0)) [
        | inl zero ↦
            let same : s ≡ x = stood.2 ∙ untold_same x zero in
            by_right_told r s (right.changed r s (record { same = change.same; was = change.was; is = stood.1 ∙ ap Some (sym same); differs = change.differs }))
        | inr some ↦
            let was : r ≡ x = same_Some r x (sym change.was ∙ ap (λ (m : ℕ). at m e.nodes) (sym (number ∙ change.same)) ∙ keeps x own some) in
            let stays : is_spent drafts x ≡ false = is_standing (is_spent drafts x) x s (sym (left_now x own) ∙ ap (λ (m : ℕ). at m left) number ∙ change.is) in
            elim (lowered_as x own some stays) [
              | inl still ↦ absurd (change.differs (stood.2 ∙ still ∙ sym was))
              | inr low ↦ inr (inr (inr (subst (λ (y : ResourceData). IsLowered drafts y s) (sym was) (subst (IsLowered drafts x) (sym stood.2) low))))
            ]
      ]

  is_gone : (b : Bool) (x : ResourceData) → option_map (lowered drafts) (cond (not b) (Some x) None) ≡ None → b ≡ true
  is_gone true x none = refl
  is_gone false x none = cc

  -- what goes by right where nothing is told goes by right
  gone_by_right : (r : ResourceData) → IsRemovedByRight op e o n [] r → IsRemovedByRight op e o n drafts r
  gone_by_right r by = elim by [
    | inl delete ↦ inl delete
    | inr other ↦ elim other [
      | inl pushed ↦ inr (inl pushed)
      | inr spent ↦ absurd (omega (arith, spent.told))
    ]
  ]

  removed : (r : ResourceData) → IsGone e.nodes left r → IsRemovedByRight op e o n drafts r
  removed r gone = by (at r.number after.nodes) refl
    where
      by : (x : Option ResourceData) → at r.number after.nodes ≡ x → IsRemovedByRight op e o n drafts r
      by None is = gone_by_right r (right.removed r (gone.0, is))
      by (Some x) is =
          let number : x.number ≡ r.number = at_number r.number after.nodes x is in
          let own : at x.number after.nodes ≡ Some x = ap (λ (m : ℕ). at m after.nodes) number ∙ is in
          let none : option_map (lowered drafts) (cond (not (is_spent drafts x)) (Some x) None) ≡ None = sym (left_now x own) ∙ ap (λ (m : ℕ). at m left) number ∙ gone.1 in
          let spent = spent_now drafts x (is_gone (is_spent drafts x) x none) in
          let was : r ≡ x = same_Some r x (sym gone.0 ∙ ap (λ (m : ℕ). at m e.nodes) (sym number) ∙ keeps x own spent.told) in
          let counts = counts_to x spent.old (kinds x.number x own) spent.counted in
          let some : 1 ≤ count_for x.number drafts = not_none (count_for x.number drafts) spent.told in
          let by_drafts : IsSpentBy drafts x = record { kind = counts.subscription; old = spent.old; counted = spent.counted; told = omega arith; all = spent.all } in
          inr (inr (subst (IsSpentBy drafts) (sym was) by_drafts))

  pub told_right : ChangesByRight op e o n drafts told
  told_right = record { created = created; changed = changed; removed = removed }
