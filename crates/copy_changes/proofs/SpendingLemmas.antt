-- Subscriptions that are lowered or spent change nothing for copies.
use Rattle.std.specs.Prelude.{if◌then◌else◌, option_and_then, option_map, pos, ◌⊎◌, ◌==◌}
use Rattle.std.proofs.Common.{◌≡◌, ℕ, zero, suc, ◌<◌, List, [], ◌∷◌, map, Bool, true, false, not, ◌||◌, bytes_eq, cond, Option, Some, None, inl, inr, refl, sym, ap, ◌∙◌, subst, arith}
use Rattle.std.proofs.lemmas.Bool.{cases_Bool, eqb-true}
use Rattle.std.proofs.lemmas.Option.{same_Some}
use Rattle.std.specs.List.{list_all, list_any}
use Rattle.std.specs.Option.{option_map_or, option_or}
use Rattle.attribute_rules.specs.Kinds.{are_kinds, kind_of}
use Rattle.m2m_names.specs.Types.{does_take}
use Rattle.m2m_names.proofs.TypeLemmas.{same_type}
use Rattle.m2m_names.specs.declared.attributes.Attr.TheVariants.{At, Exc}
use Rattle.m2m_names.specs.declared.types.Ty.{Ty}
use Rattle.m2m_names.specs.declared.types.Ty.TheVariants.{AccessControlPolicy, Ae, Container, ContentInstance, CseBase, Group, PollingChannel, RemoteCse, Subscription, AccessControlPolicyAnnc, AeAnnc, ContainerAnnc, ContentInstanceAnnc, GroupAnnc}
use Rattle.m2m_value.specs.Data.{Data, number}
use Rattle.policy_eval.specs.Rules.{is_attr_in}
use Rattle.resource_model.specs.Home.{HomeData}
use Rattle.resource_model.specs.Resource.{ResourceData, has_number, is_ty}
use Rattle.subscription_match.specs.Spending.{is_spent, left_of, lowered, nodes_spent}
use Rattle.subscription_match.specs.declared.drafts.DraftParts.{DraftParts}
use Rattle.tree_model.proofs.GrowthLemmas.{at-without, tree_from_well_formed}
use Rattle.tree_model.proofs.QuietLemmas.{number_passes}
use Rattle.tree_model.proofs.TreeLemmas.{at-map, at_number}
use Rattle.tree_model.specs.Tree.{at, is_spared, is_tree, is_well_formed, recounted, without}
use Rattle.announce_copy.specs.Announced.{announceable_attrs}
use Rattle.announce_copy.specs.Peers.{listed_peers}
use Rattle.copy_laws.proofs.KeptLemmas.{never_announced}
use Rattle.copy_laws.proofs.TextLemmas.{not_both}
use Rattle.copy_laws.specs.Following.{IsAlike, IsKept, IsQuiet}
use Rattle.entity_model.proofs.SpentLemmas.{counts_to, taken_from}
use Rattle.copy_changes.proofs.BarrenLemmas.{AreBarren, own_picked}
use Rattle.copy_changes.proofs.BesideLemmas.{IsBeside, marked_alike, marked_kept}

-- ---- a counter isn't in a copy

uncounted : (ty : Ty) → is_attr_in (announceable_attrs ty) Exc ≡ false
uncounted AccessControlPolicy = refl
uncounted Ae = refl
uncounted Container = refl
uncounted ContentInstance = refl
uncounted CseBase = refl
uncounted Group = refl
uncounted PollingChannel = refl
uncounted RemoteCse = refl
uncounted Subscription = refl
uncounted AccessControlPolicyAnnc = refl
uncounted AeAnnc = refl
uncounted ContainerAnnc = refl
uncounted ContentInstanceAnnc = refl
uncounted GroupAnnc = refl

counter_beside : IsBeside Exc
counter_beside = record { aa = refl; at = refl; lbl = refl; unannounced = uncounted }

lowered_alike : (home : HomeData) (drafts : List DraftParts) (r : ResourceData) → IsAlike home r (lowered drafts r)
lowered_alike home drafts r = by (left_of drafts r)
  where
    by : (o : Option ℕ) → IsAlike home r (option_map_or (λ left. recounted left r) o r)
    by None = record { number = refl; ty = refl; parent = refl; peers = refl; values = λ attr other. refl }
    by (Some left) = marked_alike home Exc counter_beside (number (pos left)) r.lt r

lowered_kept : (drafts : List DraftParts) (r : ResourceData) → IsKept r → IsKept (lowered drafts r)
lowered_kept drafts r kept = by (left_of drafts r)
  where
    by : (o : Option ℕ) → IsKept (option_map_or (λ left. recounted left r) o r)
    by None = kept
    by (Some left) = marked_kept Exc counter_beside (number (pos left)) r.lt r refl kept

-- ---- only subscriptions are spent, and nothing stands under them

takes_nothing : (ty : Ty) → does_take Subscription ty ≡ false
takes_nothing ty = refl

spent_subscription : (drafts : List DraftParts) (r : ResourceData) → are_kinds r ≡ true → is_spent drafts r ≡ true → is_ty r.ty Subscription ≡ true
spent_subscription drafts r kinds spent = by (left_of drafts r) refl
  where
    by : (o : Option ℕ) → left_of drafts r ≡ o → is_ty r.ty Subscription ≡ true
    by None is = (let bad : false ≡ true = sym (ap (λ (o : Option ℕ). option_map_or (λ left. left == 0) o false) is) ∙ spent in cc)
    by (Some left) is = (let from = taken_from drafts r left is in (counts_to r from.old kinds from.counted).subscription)

module _ (drafts : List DraftParts) (nodes : List ResourceData) (formed : is_well_formed nodes ≡ true) (kinds : list_all are_kinds nodes ≡ true) where
  tree_is : is_tree nodes ≡ true
  tree_is = tree_from_well_formed nodes formed

  kind_at : (n : ℕ) (r : ResourceData) → at n nodes ≡ Some r → are_kinds r ≡ true
  kind_at n r found = number_passes are_kinds n nodes r kinds found

  spent_barren : AreBarren (is_spent drafts) nodes
  spent_barren c found spent ty =
      let subscription : c.ty ≡ Subscription = same_type c.ty Subscription (eqb-true _ _ (spent_subscription drafts c (kind_at c.number c found) spent)) in
      ap (λ (of : Ty). does_take of ty) subscription ∙ takes_nothing ty

  -- what stands then was there
  record CameOf (n : ℕ) (s : ResourceData) : Type 0 where
    from : ResourceData
    there : at n nodes ≡ Some from
    is : s ≡ lowered drafts from

  spared_there : (n : ℕ) (r : ResourceData) → at n (without (is_spent drafts) nodes) ≡ Some r → at n nodes ≡ Some r
  spared_there n r found = elim (cases_Bool (is_spared (is_spent drafts) nodes n)) [
    | inl t ↦
        let same : at n (without (is_spent drafts) nodes) ≡ at n nodes = at-without (is_spent drafts) n nodes tree_is ∙ rw t refl in
        sym same ∙ found
    | inr f ↦
        let gone : at n (without (is_spent drafts) nodes) ≡ None = at-without (is_spent drafts) n nodes tree_is ∙ rw f refl in
        let bad : None ≡ Some r = sym gone ∙ found in
        cc
  ]

  at_left : (n : ℕ) → at n (nodes_spent drafts nodes) ≡ option_map (lowered drafts) (at n (without (is_spent drafts) nodes))
  at_left n = at-map (lowered drafts) (λ r. sym (lowered_number r)) n (without (is_spent drafts) nodes)
    where
      lowered_number : (r : ResourceData) → r.number ≡ (lowered drafts r).number
      lowered_number r = by (left_of drafts r)
        where
          by : (o : Option ℕ) → r.number ≡ (option_map_or (λ left. recounted left r) o r).number
          by None = refl
          by (Some k) = refl

  pub spending_quiet : (home : HomeData) → ((r : ResourceData) → at r.number nodes ≡ Some r → IsKept r) → IsQuiet home nodes (nodes_spent drafts nodes)
  spending_quiet home kept = record {
    left = λ s found.
        let was = came s.number s found in
        let same : s ≡ lowered drafts was.from = was.is in
        subst IsKept (sym same) (lowered_kept drafts was.from (kept was.from (own_number s.number was.from was.there)));
    alike = λ s found.
        let was = came s.number s found in
        (was.from, was.there, subst (IsAlike home was.from) (sym was.is) (lowered_alike home drafts was.from));
    lost = λ r found gone. lost_is r found gone;
  }
    where
      own_number : (n : ℕ) (r : ResourceData) → at n nodes ≡ Some r → at r.number nodes ≡ Some r
      own_number n r found = ap (λ (m : ℕ). at m nodes) (at_number n nodes r found) ∙ found

      came : (n : ℕ) (s : ResourceData) → at n (nodes_spent drafts nodes) ≡ Some s → CameOf n s
      came n s found = by (at n (without (is_spent drafts) nodes)) refl
        where
          by : (o : Option ResourceData) → at n (without (is_spent drafts) nodes) ≡ o → CameOf n s
          by None is =
              let bad : None ≡ Some s = sym (at_left n ∙ ap (option_map (lowered drafts)) is) ∙ found in
              cc
          by (Some r) is =
              let now : Some (lowered drafts r) ≡ Some s = sym (at_left n ∙ ap (option_map (lowered drafts)) is) ∙ found in
              record { from = r; there = spared_there n r is; is = sym (same_Some (lowered drafts r) s now) }

      lost_is : (r : ResourceData) → at r.number nodes ≡ Some r → at r.number (nodes_spent drafts nodes) ≡ None → listed_peers r ≡ []
      lost_is r found gone = elim (cases_Bool (is_spared (is_spent drafts) nodes r.number)) [
        | inr unspared ↦
            let spent : is_spent drafts r ≡ true = own_picked (is_spent drafts) nodes formed spent_barren r.number r found unspared in
            let subscription : r.ty ≡ Subscription = same_type r.ty Subscription (eqb-true _ _ (spent_subscription drafts r (kind_at r.number r found) spent)) in
            never_announced r (ap (λ (ty : Ty). kind_of ty At) subscription) (kind_at r.number r found)
        | inl spared ↦
            let stays : at r.number (without (is_spent drafts) nodes) ≡ Some r = at-without (is_spent drafts) r.number nodes tree_is ∙ rw spared found in
            let now : at r.number (nodes_spent drafts nodes) ≡ Some (lowered drafts r) = at_left r.number ∙ ap (option_map (lowered drafts)) stays in
            let bad : None ≡ Some (lowered drafts r) = sym gone ∙ now in
            cc
      ]
