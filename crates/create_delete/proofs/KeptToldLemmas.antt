-- Who is told of an operation stands behind it as it stood before.
use Rattle.std.specs.Prelude.{◌==◌}
use Rattle.std.proofs.Common.{◌≡◌, ℕ, ◌<◌, List, [], ◌∷◌, ◌++◌, Bool, true, false, ◌&&◌, Option, Some, None, inl, inr, refl, sym, ap, ◌∙◌, subst, arith}
use Rattle.std.proofs.lemmas.Bool.{cases_Bool, cases_eq, both_ways, eq-eqb, eqb-true, ne_eqb}
use Rattle.std.proofs.lemmas.Option.{same_Some}
use Rattle.m2m_names.proofs.LookupLemmas.{option_or-None}
use Rattle.std.specs.List.{AllByRecursion}
use Rattle.std.specs.Option.{option_and_then}
use Rattle.m2m_names.proofs.TypeLemmas.{same_type}
use Rattle.m2m_names.specs.declared.attributes.Attr.{Attr}
use Rattle.m2m_names.specs.declared.types.Ty.{Ty}
use Rattle.m2m_names.specs.declared.types.Ty.TheVariants.{Container, Subscription}
use Rattle.resource_model.specs.Home.{HomeData}
use Rattle.resource_model.specs.Resource.{ResourceData, has_number, is_ty}
use Rattle.subscription_match.specs.Matching.{event_for, is_sub_of}
use Rattle.subscription_match.specs.Notices.{notes_of_all}
use Rattle.subscription_match.specs.Spending.{count_for, left_to}
use Rattle.subscription_match.specs.declared.drafts.DraftParts.{DraftParts}
use Rattle.tree_model.specs.Changes.{ChangeData, created, deleted, update_changes, updated}
use Rattle.tree_model.specs.Tree.{at, is_tree, without}
use Rattle.tree_model.proofs.GrowthLemmas.{stands, tree_from_well_formed}
use Rattle.tree_model.proofs.TreeLemmas.{at-append}
use Rattle.entity_model.specs.Entity.{EntityData}
use Rattle.entity_model.specs.Sound.{IsSoundEntity}
use Rattle.entity_model.specs.Telling.{LeavesWhoIsTold}
use Rattle.entity_model.proofs.UntoldLemmas.{IsUntold, not_told}
use Rattle.create_delete.specs.Changing.{nodes_joined, nodes_updated, pushed_by}
use Rattle.create_delete.specs.Joining.{MayJoin, MayJoinContainer}
use Rattle.create_delete.specs.NewResource.{IsNewResource, IsReplacement}
use Rattle.create_delete.specs.declared.joining.ContainerUpdate.{ContainerUpdate}
use Rattle.create_delete.proofs.InstanceLemmas.{is_container}
use Rattle.create_delete.proofs.JoiningLemmas.{filled_is}
use Rattle.create_delete.proofs.LeftLemmas.{left_stood}
use Rattle.create_delete.proofs.ReplacedLemmas.{stood_there}
use Rattle.create_delete.proofs.RightCreateLemmas.{container_there, lacks, stood_grown}
use Rattle.create_delete.proofs.RightUpdateLemmas.{stood_before}

-- for whom of these one of the drafts is, stands as it did
abbrev pub KeepsTold : List ResourceData → List DraftParts → List ResourceData → Type 0
KeepsTold before drafts after =
    (s : ResourceData) → at s.number after ≡ Some s → (count_for s.number drafts == 0) ≡ false → at s.number before ≡ Some s

pub leaves_told : (before : List ResourceData) (drafts : List DraftParts) (after : List ResourceData) → KeepsTold before drafts after → LeavesWhoIsTold before drafts after
leaves_told before drafts after keeps s found told = sym (ap (option_and_then left_to) (keeps s found told))

-- ---- what isn't a subscription is told nothing

pub and_none : (b : Bool) → (b && false) ≡ false
and_none true = refl
and_none false = refl

not_sub : (s : ResourceData) (n : ℕ) → is_ty s.ty Subscription ≡ false → is_sub_of (Some n) s ≡ false
not_sub s n other = rw other (and_none (s.parent == n))

pub other_untold : (going : List ℕ) (change : ChangeData) (s : ResourceData) → is_ty s.ty Subscription ≡ false → event_for going change s ≡ None
other_untold going (created r) s other = rw (not_sub s r.parent other) refl
other_untold going (updated r t named) s other = rw (not_sub s t.number other) refl
other_untold going (deleted r) s other = rw (not_sub s r.number other, not_sub s r.parent other) refl

all_untold : (n : ℕ) (home : HomeData) (nodes : List ResourceData) (going : List ℕ) → ((s : ResourceData) → at n nodes ≡ Some s → is_ty s.ty Subscription ≡ false) → (changes : List ChangeData) → AllByRecursion (IsUntold n home nodes going) changes
all_untold n home nodes going other [] = tt
all_untold n home nodes going other (change ∷ changes) =
    ((λ s found. other_untold going change s (other s found)), all_untold n home nodes going other changes)

pub container_no_sub : (ty : Ty) → is_ty ty Container ≡ true → is_ty ty Subscription ≡ false
container_no_sub ty is = ap (λ (t : Ty). is_ty t Subscription) (same_type ty Container (eqb-true _ _ is))

sub_no_container : (ty : Ty) → is_ty ty Subscription ≡ true → is_ty ty Container ≡ false
sub_no_container ty is = ap (λ (t : Ty). is_ty t Container) (same_type ty Subscription (eqb-true _ _ is))

module _ (home : HomeData) (e : EntityData) (sound : IsSoundEntity e) (going : List ℕ) where
  tree : is_tree e.nodes ≡ true
  tree = tree_from_well_formed e.nodes sound.tree

  abbrev drafts : List ChangeData → List DraftParts
  drafts changes = notes_of_all home e.nodes going changes

  -- something is told to no one at the number
  untold : (n : ℕ) (changes : List ChangeData) → AllByRecursion (IsUntold n home e.nodes going) changes → (count_for n (drafts changes) == 0) ≡ false → ⊥
  untold n changes each told = both_ways _ told (eq-eqb (count_for n (drafts changes)) 0 (not_told n home e.nodes going tree changes each))

  -- ---- nothing, and a removal

  pub keeps_same : (changes : List ChangeData) → KeepsTold e.nodes (drafts changes) e.nodes
  keeps_same changes s found told = found

  pub keeps_removed : (picks : ResourceData → Bool) (changes : List ChangeData) → KeepsTold e.nodes (drafts changes) (without picks e.nodes)
  keeps_removed picks changes s found told = left_stood picks s.number e.nodes s tree found

  -- ---- a Create

  module _ (r : ResourceData) (changes : List ChangeData) where
    keeps_grown : IsNewResource e r → KeepsTold e.nodes (drafts changes) (e.nodes ++ r ∷ [])
    keeps_grown new s found told = elim (cases_eq s.number r.number) [
      | inl same ↦
          let none : at s.number e.nodes ≡ None = ap (λ (m : ℕ). at m e.nodes) same ∙ lacks e sound r new in
          absurd (untold s.number changes (all_untold s.number home e.nodes going (λ t there. let both : None ≡ Some t = sym none ∙ there in cc) changes) told)
      | inr apart ↦
          let other : has_number s.number r ≡ false = ne_eqb r.number s.number (λ is. apart (sym is)) in
          let split : at s.number (e.nodes ++ r ∷ []) ≡ at s.number e.nodes = at-append s.number e.nodes (r ∷ []) ∙ rw other (option_or-None (at s.number e.nodes)) in
          sym split ∙ found
    ]

    keeps_filled : (f : ContainerUpdate) → MayJoinContainer e r f → KeepsTold e.nodes (drafts changes) (nodes_joined e.last e.nodes r (Some f))
    keeps_filled f may s found told =
        let c = may.parent in
        elim (cases_eq s.number c.number) [
          | inl same ↦
              let stood : at s.number e.nodes ≡ Some c = ap (λ (m : ℕ). at m e.nodes) same ∙ container_there e sound r c f.state may.joins in
              absurd (untold s.number changes (all_untold s.number home e.nodes going (λ t there.
              ap (λ (x : ResourceData). is_ty x.ty Subscription) (same_Some t c (sym there ∙ stood))
              ∙ container_no_sub c.ty (is_container e r c f.state sound may.joins)) changes) told)
          | inr apart ↦
              keeps_grown may.joins.new s
              (stood_grown e sound r c f.state may.joins s.number s apart (ap (λ (x : EntityData). at s.number x.nodes) (filled_is e r f may) ∙ found))
              told
        ]

    pub keeps_joined : (f : Option ContainerUpdate) → MayJoin e r f → KeepsTold e.nodes (drafts changes) (nodes_joined e.last e.nodes r f)
    keeps_joined None may = keeps_grown may.0
    keeps_joined (Some f) may = keeps_filled f may

  -- ---- an Update

  module _ (old c : ResourceData) (named : List Attr) (new : IsReplacement e c) where
    abbrev made : List ChangeData
    made = update_changes e.nodes old c named (pushed_by e c)

    -- a subscription doesn't stand under itself, and pushes nothing out
    itself_untold : is_ty c.ty Subscription ≡ true → AllByRecursion (IsUntold c.number home e.nodes going) made
    itself_untold is =
        let none : pushed_by e c ≡ [] = rw (sub_no_container c.ty is) refl in
        subst (λ (gone : List ℕ). AllByRecursion (IsUntold c.number home e.nodes going) (update_changes e.nodes old c named gone)) (sym none) (
          (λ s found.
              let lower : s.parent < c.number = (stands e.nodes tree c.number s found).above in
              let apart : (s.parent == c.number) ≡ false = ne_eqb s.parent c.number (λ same. omega arith) in
              rw apart refl),
          tt,
        )

    other_type : is_ty c.ty Subscription ≡ false → (s : ResourceData) → at c.number e.nodes ≡ Some s → is_ty s.ty Subscription ≡ false
    other_type other s found =
        let stood = stood_there e.nodes c new.stood in
        ap (λ (x : ResourceData). is_ty x.ty Subscription) (same_Some s stood.before (sym found ∙ stood.found))
        ∙ ap (λ (t : Ty). is_ty t Subscription) (ap (λ x. x.0) stood.same) ∙ other

    own_untold : AllByRecursion (IsUntold c.number home e.nodes going) made
    own_untold = elim (cases_Bool (is_ty c.ty Subscription)) [
      | inl t ↦ itself_untold t
      | inr f ↦ all_untold c.number home e.nodes going (other_type f) made
    ]

    pub keeps_updated : KeepsTold e.nodes (drafts made) (nodes_updated e c)
    keeps_updated s found told = elim (cases_eq s.number c.number) [
      | inl same ↦ absurd (untold c.number made own_untold (ap (λ (m : ℕ). count_for m (drafts made) == 0) (sym same) ∙ told))
      | inr apart ↦ stood_before e sound c new s.number s apart found
    ]
