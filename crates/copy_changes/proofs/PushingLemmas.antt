-- What an operation pushes out belongs to it.
use Rattle.std.specs.Prelude.{◌⊎◌, nat_eq}
use Rattle.std.proofs.Common.{◌≡◌, ℕ, List, [], ◌∷◌, Bool, true, false, ◌||◌, Option, Some, None, inl, inr, refl, sym, ap, ◌∙◌, subst}
use Rattle.std.proofs.lemmas.Bool.{cases_Bool, eq-eqb, eqb-true, or_cases, or_left, or_right}
use Rattle.std.proofs.lemmas.Option.{same_Some}
use Rattle.std.specs.List.{AllByRecursion, cons_option, filter_map, list_all, list_any}
use Rattle.attribute_rules.specs.Kinds.{are_kinds}
use Rattle.m2m_names.proofs.TypeLemmas.{same_type}
use Rattle.m2m_names.specs.Types.{does_take}
use Rattle.m2m_names.specs.declared.types.Ty.{Ty}
use Rattle.m2m_names.specs.declared.types.Ty.TheVariants.{ContentInstance}
use Rattle.resource_model.specs.Home.{HomeData}
use Rattle.resource_model.specs.Resource.{ResourceData, has_number, is_ty}
use Rattle.subscription_match.specs.Spending.{nodes_spent}
use Rattle.subscription_match.specs.declared.drafts.DraftParts.{DraftParts}
use Rattle.tree_model.proofs.KeptLemmas.{is_well_formed-without}
use Rattle.tree_model.proofs.TreeLemmas.{at_number}
use Rattle.tree_model.specs.Changes.{those_of}
use Rattle.tree_model.specs.Tree.{at, is_numbered_in, is_spared, is_well_formed, without, without_all}
use Rattle.entity_model.proofs.SoundLemmas.{all_left}
use Rattle.copy_laws.proofs.BothLemmas.{operation_takes}
use Rattle.copy_laws.proofs.OperationLemmas.{operation_stays}
use Rattle.copy_laws.proofs.TextLemmas.{not_both}
use Rattle.copy_laws.specs.Following.{DoesTake, IsOperation, IsTaken, Lead, does_lead}
use Rattle.copy_changes.proofs.BarrenLemmas.{AreBarren, own_picked, picked_unspared}
use Rattle.copy_changes.proofs.SpendingLemmas.{spending_quiet}
use Rattle.copy_changes.specs.Quiet.{PushesOut}

module _ (before middle : List ResourceData) (lead : Lead) (gone : List ℕ) (formed : is_well_formed middle ≡ true) (pushes : PushesOut before middle lead gone) where
  abbrev picks : ResourceData → Bool
  picks r = is_numbered_in gone r

  instances_barren : AreBarren picks middle
  instances_barren c found picked ty =
      let instance : c.ty ≡ ContentInstance = same_type c.ty ContentInstance (eqb-true _ _ (pushes.instances c found picked)) in
      ap (λ (of : Ty). does_take of ty) instance

  -- those of the numbers stand before, and go
  all_taken : (ns : List ℕ) → ((n : ℕ) → list_any (nat_eq n) ns ≡ true → list_any (nat_eq n) gone ≡ true) → AllByRecursion (IsTaken before middle picks) (those_of ns before)
  all_taken [] within = tt
  all_taken (n ∷ ns) within = by (all_taken ns (λ m some. within m (or_right _ _ some))) (at n before) refl
    where
      by : AllByRecursion (IsTaken before middle picks) (those_of ns before) → (o : Option ResourceData) → at n before ≡ o → AllByRecursion (IsTaken before middle picks) (those_of (n ∷ ns) before)
      by rest None is = rw is rest
      by rest (Some g) is =
          let number : g.number ≡ n = at_number n before g is in
          let there : at g.number before ≡ Some g = ap (λ (m : ℕ). at m before) number ∙ is in
          let now = pushes.stays g there in
          let own : now.0.number ≡ g.number = at_number g.number middle now.0 now.1 in
          let picked : picks now.0 ≡ true = ap (λ (m : ℕ). list_any (nat_eq m) gone) own ∙ within g.number (or_left _ _ (eq-eqb g.number n number)) in
          rw is (record { there = there; picked = picked_unspared picks middle formed instances_barren g.number now.0 now.1 picked }, rest)

  any_those : (ns : List ℕ) (r : ResourceData) → at r.number before ≡ Some r → list_any (nat_eq r.number) ns ≡ true → list_any (has_number r.number) (those_of ns before) ≡ true
  any_those [] r found some = (let bad : false ≡ true = some in cc)
  any_those (n ∷ ns) r found some = elim (or_cases (nat_eq r.number n) (list_any (nat_eq r.number) ns) some) [
    | inl own ↦
        let there : at n before ≡ Some r = ap (λ (m : ℕ). at m before) (sym (eqb-true r.number n own)) ∙ found in
        rw there (or_left _ _ (eq-eqb r.number r.number refl))
    | inr later ↦ by (any_those ns r found later) (at n before) refl
  ]
    where
      by : list_any (has_number r.number) (those_of ns before) ≡ true → (o : Option ResourceData) → at n before ≡ o → list_any (has_number r.number) (those_of (n ∷ ns) before) ≡ true
      by rest None is = rw is rest
      by rest (Some g) is = rw is (or_right _ _ rest)

  takes_those : DoesTake before middle picks lead (those_of gone before)
  takes_those = record {
    taken = all_taken gone (λ n some. some);
    all = λ r found unspared.
        let now = pushes.stays r found in
        let own : now.0.number ≡ r.number = at_number r.number middle now.0 now.1 in
        let picked : picks now.0 ≡ true = own_picked picks middle formed instances_barren r.number now.0 now.1 unspared in
        any_those gone r found (ap (λ (m : ℕ). list_any (nat_eq m) gone) (sym own) ∙ picked);
    spares = λ n leads. spared n leads (at n middle) refl;
    there = pushes.there;
  }
    where
      spared : (n : ℕ) → does_lead lead n ≡ true → (o : Option ResourceData) → at n middle ≡ o → is_spared picks middle n ≡ true
      spared n leads None is = absurd (pushes.there n leads is)
      spared n leads (Some s) is = elim (cases_Bool (is_spared picks middle n)) [
        | inl t ↦ t
        | inr f ↦
            let number : s.number ≡ n = at_number n middle s is in
            let there : at s.number middle ≡ Some s = ap (λ (m : ℕ). at m middle) number ∙ is in
            absurd (not_both (picks s) (own_picked picks middle formed instances_barren n s is f) (pushes.others s there (ap (does_lead lead) number ∙ leads)))
      ]

pub told_change : (home : HomeData) (drafts : List DraftParts) (before middle : List ResourceData) (lead : Lead) (gone : List ℕ) → is_well_formed middle ≡ true → list_all are_kinds middle ≡ true → IsOperation home before lead [] middle → PushesOut before middle lead gone → IsOperation home before lead (those_of gone before) (nodes_spent drafts (without_all gone middle))
told_change home drafts before middle lead gone formed kinds op pushes =
    let picks : ResourceData → Bool = λ r. is_numbered_in gone r in
    let left = without picks middle in
    let taking : IsOperation home before lead (those_of gone before) left = operation_takes home before middle picks lead (those_of gone before) formed op (takes_those before middle lead gone formed pushes) in
    operation_stays home before left (nodes_spent drafts left)
    (spending_quiet drafts left (is_well_formed-without picks middle formed) (all_left picks (λ ns r. are_kinds r) middle (λ r is. is) kinds) home taking.left)
    lead (those_of gone before) taking
