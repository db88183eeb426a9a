-- What a text names, and what a content names by it, is the same on what an originator sees.
use Rattle.sight_laws.proofs.Words.{◌==◌, ◌≡◌, ℕ, List, [], ◌∷◌, map, length, Bool, false, cond, not, ◌&&◌, ◌||◌, Option, Some, None, is_some, option_map, Result, Ok, Err, refl, ap, ap₂, ◌∙◌, cons_option, filter_map, list_all, option_and_then, option_map_or}
use Rattle.sight_laws.proofs.Terms.{Attr, Acpi, Macp, TooManyMembers, WrongMember, Ty, AccessControlPolicy, Data, Entry, text, list, elements_of, as_text, ResourceData, id_of, is_ty, at, of_type, typed_at, spot_resource, policy_at, seen, seen_list, EntityData, first_fault, unless, MembershipData, abandon_group, abandon_member, any_type, are_few, are_validated, differs_from, distinct_texts, group_rows, has_other_type, is_consistent, is_left_out, is_of_other_type, member_named, member_rows, members_kept, set_mixed, type_kept, member_places, link_row, links_live, listed, policy_addressed, policy_ids, policy_meant, policy_on}
use Rattle.sight_laws.proofs.Facts.{list_any-same, list_all-same, at-seen, filter_same, both_chosen}
use Rattle.addressing.specs.Laws.{spot_named}
use Rattle.addressing.specs.declared.spot.Spot.{Spot}
use Rattle.equal_sights.specs.Sight.{sight}
use Rattle.sight_laws.proofs.ViewLemmas.{link_row-view, links-view, seen_stands, spot-view}

module _ (e : EntityData) (o : List ℕ) where
  abbrev seeing : EntityData
  seeing = sight o e

  abbrev see : ResourceData → ResourceData
  see = seen e.home e.nodes o

  -- ---- an address, and a policy

  spot-seen : (address : List ℕ) → spot_named e.home address (seen_list e.home e.nodes o) ≡ spot_named e.home address e.nodes
  spot-seen address = spot-view e see (seen_stands e.home e.nodes o) address

  still_some : (p : Option ResourceData) → is_some (option_map see p) ≡ is_some p
  still_some None = refl
  still_some (Some r) = refl

  pub links-seen : (es : List Entry) → links_live (sight o e) es ≡ links_live e es
  links-seen es = links-view e see (seen_stands e.home e.nodes o) es

  pub link_row-seen : (es : List Entry) (attr : Attr) → link_row (sight o e) es attr ≡ link_row e es attr
  link_row-seen es attr = link_row-view e see (seen_stands e.home e.nodes o) es attr

  -- ---- a member of a group

  pub member-seen : (address : List ℕ) → member_named (sight o e) address ≡ option_map (seen e.home e.nodes o) (member_named e address)
  member-seen address =
      ap (λ (s : Option Spot). option_and_then (λ (n : ℕ). at n (seen_list e.home e.nodes o)) (option_and_then spot_resource s)) (spot-seen address)
      ∙ by (option_and_then spot_resource (spot_named e.home address e.nodes))
    where
      by : (n : Option ℕ) → option_and_then (λ (m : ℕ). at m (seen_list e.home e.nodes o)) n ≡ option_map see (option_and_then (λ (m : ℕ). at m e.nodes) n)
      by None = refl
      by (Some n) = at-seen e.home e.nodes o n

  other_seen : (of_type : ℕ) (address : List ℕ) → is_of_other_type seeing of_type address ≡ is_of_other_type e of_type address
  other_seen of_type address =
      ap (λ (p : Option ResourceData). not (of_type == any_type) && option_map_or (differs_from of_type) p false) (member-seen address)
      ∙ by (member_named e address)
    where
      by : (p : Option ResourceData) → (not (of_type == any_type) && option_map_or (differs_from of_type) (option_map see p) false) ≡ (not (of_type == any_type) && option_map_or (differs_from of_type) p false)
      by None = refl
      by (Some r) = refl

  some_other_seen : (m : MembershipData) → has_other_type seeing m ≡ has_other_type e m
  some_other_seen m = list_any-same (is_of_other_type seeing m.of_type) (is_of_other_type e m.of_type) (other_seen m.of_type) (distinct_texts m.values)

  consistent_seen : (m : MembershipData) → is_consistent seeing m ≡ is_consistent e m
  consistent_seen m = ap (λ (b : Bool). not (m.strategy == abandon_group) || not b) (some_other_seen m)

  pub member_places-seen : (m : Option MembershipData) → first_fault (member_places (sight o e) m) ≡ first_fault (member_places e m)
  member_places-seen None = refl
  member_places-seen (Some m) = ap (λ (b : Bool). first_fault (unless (are_few m) TooManyMembers ∷ unless b WrongMember ∷ [])) (consistent_seen m)

  kept_seen : (m : MembershipData) → members_kept seeing m ≡ members_kept e m
  kept_seen m =
      filter_same (λ (address : List ℕ). not (is_left_out seeing m address)) (λ (address : List ℕ). not (is_left_out e m address))
      (λ address. ap (λ (b : Bool). not ((m.strategy == abandon_member) && b)) (other_seen m.of_type address)) (distinct_texts m.values)

  type_seen : (m : MembershipData) → type_kept seeing m ≡ type_kept e m
  type_seen m = ap (λ (b : Bool). cond ((m.strategy == set_mixed) && b) any_type m.of_type) (some_other_seen m)

  validated_seen : (m : MembershipData) → are_validated seeing m ≡ are_validated e m
  validated_seen m =
      ap (list_all (λ (address : List ℕ). is_some (member_named seeing address))) (kept_seen m)
      ∙ list_all-same (λ (address : List ℕ). is_some (member_named seeing address)) (λ (address : List ℕ). is_some (member_named e address))
      (λ address. ap is_some (member-seen address) ∙ still_some (member_named e address)) (members_kept e m)

  member_rows_seen : (m : MembershipData) → member_rows seeing m ≡ member_rows e m
  member_rows_seen m = rw (validated_seen m, kept_seen m, type_seen m) refl

  pub group_rows-seen : (m : Option MembershipData) → group_rows (sight o e) m ≡ group_rows e m
  group_rows-seen None = refl
  group_rows-seen (Some m) = member_rows_seen m
