-- Of whose deletion nobody is told: it is no subscription, and none stands under it or beside it. So
-- it is of the instances of a container under which no subscription stands.
use Rattle.std.proofs.Common.{◌≡◌, ℕ, List, [], ◌∷◌, ◌++◌, map, Bool, ◌&&◌, true, false, inl, inr, refl, sym, ap, ◌∙◌, subst, Option, Some, None}
use Rattle.std.specs.Prelude.{is_some, IfSome}
use Rattle.std.proofs.lemmas.Bool.{cases_Bool, eqb-true}
use Rattle.std.specs.List.{cons_option, filter, filter_map}
use Rattle.std.specs.Option.{option_map_or}
use Rattle.m2m_names.proofs.TypeLemmas.{same_type}
use Rattle.m2m_names.specs.declared.types.Ty.{Ty}
use Rattle.m2m_names.specs.declared.types.Ty.TheVariants.{ContentInstance, Subscription}
use Rattle.resource_model.specs.Home.{HomeData}
use Rattle.resource_model.specs.Resource.{ResourceData, is_ty}
use Rattle.announce_copy.specs.Below.{lists_peers, may_announce}
use Rattle.announce_copy.specs.Copies.{CopyDraft, copies_of, copies_of_all}
use Rattle.announce_copy.proofs.BelowLemmas.{no_peers}
use Rattle.subscription_match.specs.Notices.{notes_of, notes_of_all, notices, told}
use Rattle.subscription_match.specs.declared.drafts.DraftParts.{DraftParts}
use Rattle.tree_model.specs.Changes.{deleted, removal_changes, those_of}
use Rattle.tree_model.specs.Tree.{at, is_instance, is_kin, is_well_formed, number_at, subs_of}
use Rattle.tree_model.proofs.ChildLemmas.{instance_unwatched}
use Rattle.tree_model.proofs.TreeLemmas.{at_number, kin_parts}
use Rattle.entity_model.specs.Unnoticed.{GoesUnnoticed, LosesUnnoticed}

-- where there is no first, there is none
pub no_first : (rs : List ResourceData) → None ≡ number_at 0 rs → rs ≡ []
no_first [] none = refl
no_first (r ∷ rs) none = (let both : None ≡ Some r.number = none in cc)

module _ (home : HomeData) (nodes : List ResourceData) (going : List ℕ) (r : ResourceData) where
  told_none : (rs : List ResourceData) → filter (is_kin Subscription r.number) rs ≡ [] → filter (is_kin Subscription r.parent) rs ≡ [] → filter_map (told home nodes going (deleted r)) rs ≡ []
  told_none [] under beside = refl
  told_none (t ∷ rs) under beside = elim (cases_Bool (is_kin Subscription r.number t)) [
    | inl u ↦ absurd (let some : t ∷ filter (is_kin Subscription r.number) rs ≡ [] = rw u at under in cc)
    | inr f ↦ elim (cases_Bool (is_kin Subscription r.parent t)) [
      | inl u ↦ absurd (let some : t ∷ filter (is_kin Subscription r.parent) rs ≡ [] = rw u at beside in cc)
      | inr g ↦ rw (f, g) (told_none rs (rw f at under) (rw g at beside))
    ]
  ]

  pub deletion_untold : is_ty r.ty Subscription ≡ false → subs_of r.parent nodes ≡ [] → subs_of r.number nodes ≡ [] → notes_of home nodes going (deleted r) ≡ []
  deletion_untold other beside under =
      ap (λ (drafts : List DraftParts). drafts ++ notices home (deleted r)) (told_none nodes under beside)
      ∙ rw other refl

-- ---- instances of a container

no_subscription : (r : ResourceData) → is_ty r.ty ContentInstance ≡ true → is_ty r.ty Subscription ≡ false
no_subscription r instance = ap (λ (ty : Ty). is_ty ty Subscription) (same_type r.ty ContentInstance (eqb-true _ _ instance))

-- an instance of what lists no CSE isn't announced
unannounced : (nodes : List ResourceData) (r : ResourceData) → option_map_or lists_peers (at r.parent nodes) false ≡ false → is_ty r.ty ContentInstance ≡ true → may_announce nodes r ≡ false
unannounced nodes r above instance = rw (instance, above) (no_longer (lists_peers r))
  where
    no_longer : (b : Bool) → (b && false) ≡ false
    no_longer true = refl
    no_longer false = refl

unsent : (home : HomeData) (nodes : List ResourceData) (r : ResourceData) → may_announce nodes r ≡ false → copies_of home nodes (deleted r) ≡ []
unsent home nodes r none = rw (no_peers nodes r none) refl

pub instance_unnoticed : (nodes : List ResourceData) → is_well_formed nodes ≡ true → (n : ℕ) (r : ResourceData) → at n nodes ≡ Some r → (p : ℕ) → is_instance p r ≡ true → LosesUnnoticed nodes p → GoesUnnoticed nodes r
instance_unnoticed nodes formed n r is p instance loses =
    let kin = kin_parts ContentInstance p r instance in
    let found : at r.number nodes ≡ Some r = ap (λ (m : ℕ). at m nodes) (at_number n nodes r is) ∙ is in
    let beside : subs_of r.parent nodes ≡ [] = ap (λ (m : ℕ). subs_of m nodes) kin.under ∙ loses.watched in
    let above : option_map_or lists_peers (at r.parent nodes) false ≡ false = ap (λ (m : ℕ). option_map_or lists_peers (at m nodes) false) kin.under ∙ loses.listed in
    record {
      told = λ home going. deletion_untold home nodes going r (no_subscription r kin.kind) beside (instance_unwatched nodes formed r found kin.kind);
      sent = λ home. unsent home nodes r (unannounced nodes r above kin.kind);
    }

-- so goes an instance of the container that is kept
module _ (nodes : List ResourceData) (r : ResourceData) where
  pub kept_unnoticed : is_well_formed nodes ≡ true → (m : ℕ) → at m nodes ≡ Some r → (o : Option ℕ) → is_some o ≡ true → IfSome o (λ n. (is_instance n r ≡ true) × LosesUnnoticed nodes n) → IfSome (at m nodes) (GoesUnnoticed nodes)
  kept_unnoticed formed m found None some each = cc
  kept_unnoticed formed m found (Some n) some each =
      subst (λ (o : Option ResourceData). IfSome o (GoesUnnoticed nodes)) (sym found) (instance_unnoticed nodes formed m r found n each.0 each.1)

-- ---- one after another

-- where the first goes unnoticed, what is told of all is what is told of the others,
pub next_untold : (home : HomeData) (nodes : List ResourceData) (going : List ℕ) (n : ℕ) (ns : List ℕ) → IfSome (at n nodes) (GoesUnnoticed nodes) → notes_of_all home nodes going (removal_changes nodes (n ∷ ns)) ≡ notes_of_all home nodes going (removal_changes nodes ns)
next_untold home nodes going n ns goes = by (at n nodes) goes
  where
    by : (o : Option ResourceData) → IfSome o (GoesUnnoticed nodes) → notes_of_all home nodes going (map deleted (cons_option o (those_of ns nodes))) ≡ notes_of_all home nodes going (removal_changes nodes ns)
    by None unnoticed = refl
    by (Some r) unnoticed = ap (λ (drafts : List DraftParts). drafts ++ notes_of_all home nodes going (removal_changes nodes ns)) (unnoticed.told home going)

-- and so is what is sent
pub next_unsent : (home : HomeData) (nodes : List ResourceData) (n : ℕ) (ns : List ℕ) → IfSome (at n nodes) (GoesUnnoticed nodes) → copies_of_all home nodes (removal_changes nodes (n ∷ ns)) ≡ copies_of_all home nodes (removal_changes nodes ns)
next_unsent home nodes n ns goes = by (at n nodes) goes
  where
    by : (o : Option ResourceData) → IfSome o (GoesUnnoticed nodes) → copies_of_all home nodes (map deleted (cons_option o (those_of ns nodes))) ≡ copies_of_all home nodes (removal_changes nodes ns)
    by None unnoticed = refl
    by (Some r) unnoticed = ap (λ (drafts : List CopyDraft). drafts ++ copies_of_all home nodes (removal_changes nodes ns)) (unnoticed.sent home)
