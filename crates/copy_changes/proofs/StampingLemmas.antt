-- A resource that takes the place of one that is as it is for copies, and a container that counts.
use Rattle.std.specs.Prelude.{pos}
use Rattle.std.proofs.Common.{◌≡◌, ℕ, List, Bool, true, false, Option, Some, None, inl, inr, refl, sym, ap, ◌∙◌, subst}
use Rattle.std.proofs.lemmas.Bool.{cases_Bool, eq-eqb, eqb-true}
use Rattle.std.proofs.lemmas.Option.{same_Some}
use Rattle.std.specs.Option.{option_map_or}
use Rattle.m2m_names.specs.declared.attributes.Attr.TheVariants.{St}
use Rattle.m2m_names.specs.declared.types.Ty.{Ty}
use Rattle.m2m_names.specs.declared.types.Ty.TheVariants.{AccessControlPolicy, Ae, Container, ContentInstance, CseBase, Group, PollingChannel, RemoteCse, Subscription, AccessControlPolicyAnnc, AeAnnc, ContainerAnnc, ContentInstanceAnnc, GroupAnnc}
use Rattle.m2m_value.specs.Data.{number}
use Rattle.policy_eval.specs.Rules.{is_attr_in}
use Rattle.resource_model.specs.Home.{HomeData}
use Rattle.resource_model.specs.Resource.{ResourceData, has_number}
use Rattle.tree_model.proofs.TreeLemmas.{at-replaced, at-replaced_other, at_has, at_number}
use Rattle.tree_model.specs.Tree.{at, replaced, restamped, restamped_at}
use Rattle.announce_copy.specs.Announced.{announceable_attrs}
use Rattle.copy_changes.proofs.BesideLemmas.{IsBeside, marked_alike, marked_kept}
use Rattle.copy_laws.proofs.TextLemmas.{not_both}
use Rattle.copy_laws.specs.Following.{IsAlike, IsKept, IsQuiet}

itself : (home : HomeData) (r : ResourceData) → IsAlike home r r
itself home r = record { number = refl; ty = refl; parent = refl; peers = refl; values = λ attr other. refl }

-- nothing changes
pub nothing_quiet : (home : HomeData) (nodes : List ResourceData) → ((r : ResourceData) → at r.number nodes ≡ Some r → IsKept r) → IsQuiet home nodes nodes
nothing_quiet home nodes kept = record {
  left = kept;
  alike = λ s found. (s, found, itself home s);
  lost = λ r found gone. (let bad : None ≡ Some r = sym gone ∙ found in cc);
}

-- one takes the place of one that is as it is for copies
module _ (home : HomeData) (nodes : List ResourceData) (r t : ResourceData) (there : at r.number nodes ≡ Some r) (alike : IsAlike home r t) where
  now_there : at t.number (replaced t nodes) ≡ Some t
  now_there = at-replaced t nodes (at_has t.number nodes r (ap (λ (n : ℕ). at n nodes) (sym alike.number) ∙ there))

  still_there : (n : ℕ) → (n ≡ t.number → ⊥) → at n (replaced t nodes) ≡ at n nodes
  still_there n apart = at-replaced_other n t nodes apart

  pub replacing_quiet : IsKept t → ((s : ResourceData) → at s.number nodes ≡ Some s → IsKept s) → IsQuiet home nodes (replaced t nodes)
  replacing_quiet kept each = record {
    left = λ s found. elim (cases_Bool (has_number s.number t)) [
      | inl own ↦ subst IsKept (one s (eqb-true t.number s.number own) found) kept
      | inr other ↦ each s (sym (still_there s.number (apart s other)) ∙ found)
    ];
    alike = λ s found. was s found;
    lost = λ s found gone. absurd (stays s found gone);
  }
    where
      apart : (s : ResourceData) → has_number s.number t ≡ false → s.number ≡ t.number → ⊥
      apart s other e = not_both (has_number s.number t) (eq-eqb t.number s.number (sym e)) other

      one : (s : ResourceData) → t.number ≡ s.number → at s.number (replaced t nodes) ≡ Some s → t ≡ s
      one s same found = same_Some t s (sym now_there ∙ ap (λ (n : ℕ). at n (replaced t nodes)) same ∙ found)

      was : (s : ResourceData) → at s.number (replaced t nodes) ≡ Some s → (x : ResourceData) × (at s.number nodes ≡ Some x) × IsAlike home x s
      was s found = elim (cases_Bool (has_number s.number t)) [
        | inl own ↦
            let number : t.number ≡ s.number = eqb-true t.number s.number own in
            let found_r : at s.number nodes ≡ Some r = ap (λ (n : ℕ). at n nodes) (sym (alike.number ∙ number)) ∙ there in
            (r, found_r, subst (IsAlike home r) (one s number found) alike)
        | inr other ↦ (s, sym (still_there s.number (apart s other)) ∙ found, itself home s)
      ]

      stays : (s : ResourceData) → at s.number nodes ≡ Some s → at s.number (replaced t nodes) ≡ None → ⊥
      stays s found gone = elim (cases_Bool (has_number s.number t)) [
        | inl own ↦
            let number : t.number ≡ s.number = eqb-true t.number s.number own in
            let now : at s.number (replaced t nodes) ≡ Some t = ap (λ (n : ℕ). at n (replaced t nodes)) (sym number) ∙ now_there in
            let bad : None ≡ Some t = sym gone ∙ now in
            cc
        | inr other ↦
            let now : at s.number (replaced t nodes) ≡ Some s = still_there s.number (apart s other) ∙ found in
            let bad : None ≡ Some s = sym gone ∙ now in
            cc
      ]

-- ---- a container counts its changes

unstated : (ty : Ty) → is_attr_in (announceable_attrs ty) St ≡ false
unstated AccessControlPolicy = refl
unstated Ae = refl
unstated Container = refl
unstated ContentInstance = refl
unstated CseBase = refl
unstated Group = refl
unstated PollingChannel = refl
unstated RemoteCse = refl
unstated Subscription = refl
unstated AccessControlPolicyAnnc = refl
unstated AeAnnc = refl
unstated ContainerAnnc = refl
unstated ContentInstanceAnnc = refl
unstated GroupAnnc = refl

state_beside : IsBeside St
state_beside = record { aa = refl; at = refl; lbl = refl; unannounced = unstated }

pub restamping_quiet : (home : HomeData) (n lt st : ℕ) (nodes : List ResourceData) → ((r : ResourceData) → at r.number nodes ≡ Some r → IsKept r) → IsQuiet home nodes (restamped_at n lt st nodes)
restamping_quiet home n lt st nodes kept = by (at n nodes) refl
  where
    by : (o : Option ResourceData) → at n nodes ≡ o → IsQuiet home nodes (restamped_at n lt st nodes)
    by None is = subst (IsQuiet home nodes) (sym (ap (λ (o : Option ResourceData). option_map_or (λ r. replaced (restamped lt st r) nodes) o nodes) is)) (nothing_quiet home nodes kept)
    by (Some c) is =
        let number_is : c.number ≡ n = at_number n nodes c is in
        let there : at c.number nodes ≡ Some c = ap (λ (m : ℕ). at m nodes) number_is ∙ is in
        subst (IsQuiet home nodes) (sym (ap (λ (o : Option ResourceData). option_map_or (λ r. replaced (restamped lt st r) nodes) o nodes) is))
        (replacing_quiet home nodes c (restamped lt st c) there (marked_alike home St state_beside (number (pos st)) lt c) (marked_kept St state_beside (number (pos st)) lt c refl (kept c there)) kept)
