-- An operation may remove something behind what it makes or changes.
use Rattle.std.specs.Prelude.{◌⊎◌}
use Rattle.std.proofs.Common.{◌≡◌, ℕ, List, [], ◌∷◌, Bool, true, false, not, Option, Some, None, inl, inr, refl, sym, ap, ◌∙◌, subst}
use Rattle.std.proofs.lemmas.Bool.{cases_Bool, eq-eqb}
use Rattle.std.proofs.lemmas.Option.{same_Some}
use Rattle.std.specs.List.{AllByRecursion, list_any}
use Rattle.std.specs.Option.{option_map_or}
use Rattle.resource_model.specs.Home.{HomeData}
use Rattle.resource_model.specs.Resource.{ResourceData, has_number}
use Rattle.tree_model.proofs.GrowthLemmas.{at-without, tree_from_well_formed}
use Rattle.tree_model.proofs.TreeLemmas.{at_number}
use Rattle.tree_model.specs.Tree.{at, is_spared, is_tree, is_well_formed, without}
use Rattle.announce_copy.specs.Peers.{listed_peers}
use Rattle.copy_laws.specs.Following.{DoesLead, DoesTake, IsAlike, IsGone, IsKept, IsOperation, IsTaken, Lead, StaysAlike, changed, does_lead, made, nothing}
use Rattle.copy_laws.specs.Standing.{is_announced_to, is_parent_announced_to}
use Rattle.copy_laws.proofs.RemovalLemmas.{parent_spared, spared_then}
use Rattle.copy_laws.proofs.TextLemmas.{not_both}

module _ (home : HomeData) (before middle : List ResourceData) (picks : ResourceData → Bool) (lead : Lead) (gone : List ResourceData) (formed : is_well_formed middle ≡ true) (op : IsOperation home before lead [] middle) (takes : DoesTake before middle picks lead gone) where
  abbrev after : List ResourceData
  after = without picks middle

  tree_is : is_tree middle ≡ true
  tree_is = tree_from_well_formed middle formed

  spared_at : (n : ℕ) → is_spared picks middle n ≡ true → at n after ≡ at n middle
  spared_at n t = at-without picks n middle tree_is ∙ rw t refl

  picked_at : (n : ℕ) → is_spared picks middle n ≡ false → at n after ≡ None
  picked_at n f = at-without picks n middle tree_is ∙ rw f refl

  -- what stands then stood
  was_there : (n : ℕ) (s : ResourceData) → at n after ≡ Some s → at n middle ≡ Some s
  was_there n s found = (spared_then home picks middle formed n s found).there

  stays_on : (t : ResourceData) → is_spared picks middle t.number ≡ true → StaysAlike home t middle → StaysAlike home t after
  stays_on t spared stays = record {
    alike = λ s found. stays.alike s (was_there t.number s found);
    lost = λ none. stays.lost (sym (spared_at t.number spared) ∙ none);
  }

  leads_on : (l : Lead) → ((n : ℕ) → does_lead l n ≡ true → is_spared picks middle n ≡ true) → ((n : ℕ) → does_lead l n ≡ true → at n middle ≡ None → ⊥) → DoesLead home before middle l → DoesLead home before after l
  leads_on nothing spares stands leads = tt
  leads_on (made t) spares stands leads =
      let spared : is_spared picks middle t.number ≡ true = spares t.number (eq-eqb t.number t.number refl) in
      record {
        kept = leads.kept;
        new = leads.new;
        stays = stays_on t spared leads.stays;
        parent = λ peer. leads.parent peer ∙ ap (λ (o : Option ResourceData). option_map_or (is_announced_to peer) o false) (parent_same (at t.number middle) refl spared);
      }
    where
      parent_same : (o : Option ResourceData) → at t.number middle ≡ o → is_spared picks middle t.number ≡ true → at t.parent middle ≡ at t.parent after
      parent_same None is spared = absurd (stands t.number (eq-eqb t.number t.number refl) is)
      parent_same (Some s) is spared =
          let alike : IsAlike home t s = leads.stays.alike s is in
          let found : at s.number middle ≡ Some s = ap (λ (n : ℕ). at n middle) (at_number t.number middle s is) ∙ is in
          let up : is_spared picks middle s.parent ≡ true = parent_spared home picks middle formed s found (ap (is_spared picks middle) (at_number t.number middle s is) ∙ spared) in
          sym (spared_at t.parent (ap (is_spared picks middle) alike.parent ∙ up))
  leads_on (changed r t named) spares stands leads =
      let spared : is_spared picks middle t.number ≡ true = spares t.number (ap (λ (n : ℕ). has_number n r) (sym leads.number) ∙ eq-eqb r.number r.number refl) in
      record {
        kept = leads.kept;
        there = leads.there;
        stays = stays_on t spared leads.stays;
        number = leads.number;
        ty = leads.ty;
        parent = leads.parent;
        instance = leads.instance;
        unnamed = leads.unnamed;
      }

  all_gone : (rs : List ResourceData) → AllByRecursion (IsTaken before middle picks) rs → AllByRecursion (IsGone before after) rs
  all_gone [] all = tt
  all_gone (r ∷ rs) all = (
    record {
      there = all.0.there;
      gone = picked_at r.number all.0.picked;
      below = λ s found under.
          let was = spared_then home picks middle formed s.number s found in
          not_both (is_spared picks middle r.number) (ap (is_spared picks middle) (sym under) ∙ parent_spared home picks middle formed s was.there was.spared) all.0.picked;
    },
    all_gone rs all.1,
  )

  pub operation_takes : IsOperation home before lead gone after
  operation_takes = record {
    kept = op.kept;
    left = λ s found. op.left s (was_there s.number s found);
    leads = leads_on lead takes.spares takes.there op.leads;
    removes = all_gone gone takes.taken;
    others = λ s found other. op.others s (was_there s.number s found) other;
    lost = λ r found other none. by r found other none (at r.number middle) refl;
    containers = op.containers;
  }
    where
      by : (r : ResourceData) → at r.number before ≡ Some r → does_lead lead r.number ≡ false → at r.number after ≡ None → (o : Option ResourceData) → at r.number middle ≡ o → (list_any (has_number r.number) gone ≡ true) ⊎ (listed_peers r ≡ [])
      by r found other none None is = elim (op.lost r found other is) [
        | inl bad ↦ (let no : false ≡ true = bad in cc)
        | inr empty ↦ inr empty
      ]
      by r found other none (Some m) is = elim (cases_Bool (is_spared picks middle r.number)) [
        | inl t ↦ (let bad : None ≡ Some m = sym none ∙ spared_at r.number t ∙ is in cc)
        | inr f ↦ inl (takes.all r found f)
      ]
