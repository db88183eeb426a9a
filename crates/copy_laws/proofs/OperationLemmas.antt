-- Which changes of a list are operations: removals, and what else changes nothing for copies.
use Rattle.std.specs.Prelude.{◌⊎◌}
use Rattle.std.proofs.Common.{◌≡◌, ℕ, List, [], ◌∷◌, Bool, true, false, Option, Some, None, filter, inl, inr, refl, sym, ap, ◌∙◌, subst}
use Rattle.std.proofs.lemmas.Bool.{cases_Bool, eq-eqb, or_left, or_right}
use Rattle.std.proofs.lemmas.Option.{same_Some}
use Rattle.std.specs.List.{AllByRecursion, list_any}
use Rattle.std.specs.Option.{option_map_or}
use Rattle.m2m_names.specs.declared.attributes.Attr.{Attr}
use Rattle.m2m_names.specs.declared.types.Ty.TheVariants.{Container, ContentInstance}
use Rattle.resource_model.specs.Home.{HomeData}
use Rattle.resource_model.specs.Resource.{ResourceData, has_number, is_ty}
use Rattle.tree_model.proofs.TreeLemmas.{at_number}
use Rattle.tree_model.specs.Tree.{at}
use Rattle.announce_copy.specs.Peers.{is_one_of, listed_peers}
use Rattle.copy_laws.specs.Following.{DoesLead, IsAlike, IsChanged, IsGone, IsKept, IsMade, IsOperation, IsQuiet, Lead, StaysAlike, changed, does_lead, made, nothing}
use Rattle.copy_laws.specs.Standing.{is_announced_to, is_parent_announced_to}

alike_then : (home : HomeData) (r s t : ResourceData) → IsAlike home r s → IsAlike home s t → IsAlike home r t
alike_then home r s t first second = record {
  number = first.number ∙ second.number;
  ty = first.ty ∙ second.ty;
  parent = first.parent ∙ second.parent;
  peers = first.peers ∙ second.peers;
  values = λ attr other. first.values attr other ∙ second.values attr other;
}

own_at : (n m : ℕ) (nodes : List ResourceData) (r : ResourceData) → n ≡ m → at n nodes ≡ Some r → at m nodes ≡ Some r
own_at n m nodes r is found = ap (λ (k : ℕ). at k nodes) (sym is) ∙ found

-- ---- an operation, and then what changes nothing for copies

module _ (home : HomeData) (before middle after : List ResourceData) (quiet : IsQuiet home middle after) where
  -- what stands then stood before
  record WasThere (n : ℕ) (s : ResourceData) : Type 0 where
    was : ResourceData
    there : at n middle ≡ Some was
    alike : IsAlike home was s

  was_there : (n : ℕ) (s : ResourceData) → at n after ≡ Some s → WasThere n s
  was_there n s found =
      let number : s.number ≡ n = at_number n after s found in
      let it = quiet.alike s (own_at n s.number after s (sym number) found) in
      record { was = it.0; there = own_at s.number n middle it.0 number it.1; alike = it.2 }

  lost_then : (n : ℕ) (m : ResourceData) → at n middle ≡ Some m → at n after ≡ None → listed_peers m ≡ []
  lost_then n m found none =
      let number : m.number ≡ n = at_number n middle m found in
      quiet.lost m (own_at n m.number middle m (sym number) found) (ap (λ (k : ℕ). at k after) number ∙ none)

  stays_alike : (t : ResourceData) → StaysAlike home t middle → StaysAlike home t after
  stays_alike t stays = record {
    alike = λ s found.
        let it = was_there t.number s found in
        alike_then home t it.was s (stays.alike it.was it.there) it.alike;
    lost = λ none. by none (at t.number middle) refl;
  }
    where
      by : at t.number after ≡ None → (o : Option ResourceData) → at t.number middle ≡ o → listed_peers t ≡ []
      by none None is = stays.lost is
      by none (Some m) is = (stays.alike m is).peers ∙ lost_then t.number m is none

  parent_stays : (peer : List ℕ) (t : ResourceData) → is_parent_announced_to peer middle t ≡ is_parent_announced_to peer after t
  parent_stays peer t = by (at t.parent after) refl
    where
      none_now : at t.parent after ≡ None → (o : Option ResourceData) → at t.parent middle ≡ o → option_map_or (is_announced_to peer) o false ≡ false
      none_now none None is = refl
      none_now none (Some m) is = ap (λ (peers : List (List ℕ)). is_one_of peers peer) (lost_then t.parent m is none)

      by : (o : Option ResourceData) → at t.parent after ≡ o → is_parent_announced_to peer middle t ≡ is_parent_announced_to peer after t
      by None is =
          none_now is (at t.parent middle) refl
          ∙ sym (ap (λ (o : Option ResourceData). option_map_or (is_announced_to peer) o false) is)
      by (Some s) is =
          let it = was_there t.parent s is in
          ap (λ (o : Option ResourceData). option_map_or (is_announced_to peer) o false) it.there
          ∙ ap (λ (peers : List (List ℕ)). is_one_of peers peer) it.alike.peers
          ∙ sym (ap (λ (o : Option ResourceData). option_map_or (is_announced_to peer) o false) is)

  leads_still : (l : Lead) → DoesLead home before middle l → DoesLead home before after l
  leads_still nothing leads = tt
  leads_still (made t) leads = record {
    kept = leads.kept;
    new = leads.new;
    stays = stays_alike t leads.stays;
    parent = λ peer. leads.parent peer ∙ parent_stays peer t;
  }
  leads_still (changed r t named) leads = record {
    kept = leads.kept;
    there = leads.there;
    stays = stays_alike t leads.stays;
    number = leads.number;
    ty = leads.ty;
    parent = leads.parent;
    instance = leads.instance;
    unnamed = leads.unnamed;
  }

  gone_still : (rs : List ResourceData) → AllByRecursion (IsGone before middle) rs → AllByRecursion (IsGone before after) rs
  gone_still [] all = tt
  gone_still (r ∷ rs) all = (
    record {
      there = all.0.there;
      gone = none_there (at r.number after) refl;
      below = λ s found under.
          let it = was_there s.number s found in
          all.0.below it.was (own_at s.number it.was.number middle it.was (sym it.alike.number) it.there) (it.alike.parent ∙ under);
    },
    gone_still rs all.1,
  )
    where
      none_there : (o : Option ResourceData) → at r.number after ≡ o → at r.number after ≡ None
      none_there None is = is
      none_there (Some s) is = (let it = was_there r.number s is in let bad : None ≡ Some it.was = sym all.0.gone ∙ it.there in cc)

  pub operation_stays : (lead : Lead) (gone : List ResourceData) → IsOperation home before lead gone middle → IsOperation home before lead gone after
  operation_stays lead gone op = record {
    kept = op.kept;
    left = quiet.left;
    leads = leads_still lead op.leads;
    removes = gone_still gone op.removes;
    others = λ s found other.
        let it = was_there s.number s found in
        let there : at it.was.number middle ≡ Some it.was = own_at s.number it.was.number middle it.was (sym it.alike.number) it.there in
        let was = op.others it.was there (ap (does_lead lead) it.alike.number ∙ other) in
        (was.0, own_at it.was.number s.number before was.0 it.alike.number was.1, alike_then home was.0 it.was s was.2 it.alike);
    lost = λ r found other none. lost_by r found other none (at r.number middle) refl;
    containers = op.containers;
  }
    where
      lost_by : (r : ResourceData) → at r.number before ≡ Some r → does_lead lead r.number ≡ false → at r.number after ≡ None → (o : Option ResourceData) → at r.number middle ≡ o → (list_any (has_number r.number) gone ≡ true) ⊎ (listed_peers r ≡ [])
      lost_by r found other none None is = op.lost r found other is
      lost_by r found other none (Some m) is =
          let number : m.number ≡ r.number = at_number r.number middle m is in
          let there : at m.number middle ≡ Some m = own_at r.number m.number middle m (sym number) is in
          let was = op.others m there (ap (does_lead lead) number ∙ other) in
          let same : was.0 ≡ r = same_Some was.0 r (sym was.1 ∙ ap (λ (k : ℕ). at k before) number ∙ found) in
          inr (ap listed_peers (sym same) ∙ was.2.peers ∙ lost_then r.number m is none)
