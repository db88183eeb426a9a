-- The policies that a content names, where all of them are live.
use Rattle.std.proofs.Common.{◌≡◌, ◌==◌, ℕ, suc, List, [], ◌∷◌, Bool, length, true, false, Option, Some, None, is_some, if◌then◌else◌, refl, ap}
use Rattle.std.proofs.lemmas.Bool.{and_parts, both_ways}
use Rattle.std.specs.List.{list_all}
use Rattle.m2m_names.specs.declared.attributes.Attr.{Attr}
use Rattle.m2m_value.specs.Data.{Data, Entry, elements_of, list}
use Rattle.resource_model.specs.Resource.{ResourceData}
use Rattle.entity_model.specs.Entity.{EntityData}
use Rattle.request_rules.specs.Policies.{are_policies, link_row, listed, policy_ids, policy_meant}

-- there is an id for each
ids_each : (e : EntityData) (ds : List Data) → list_all (λ d. is_some (policy_meant e d)) ds ≡ true → length (policy_ids e ds) ≡ length ds
ids_each e [] live = refl
ids_each e (d ∷ ds) live =
    let both = and_parts (is_some (policy_meant e d)) (list_all (λ x. is_some (policy_meant e x)) ds) live in
    by (policy_meant e d) refl both.0 (ids_each e ds both.1)
  where
    by : (found : Option ResourceData) → policy_meant e d ≡ found → is_some (policy_meant e d) ≡ true → length (policy_ids e ds) ≡ length ds → length (policy_ids e (d ∷ ds)) ≡ length (d ∷ ds)
    by None is some rest = absurd (both_ways (is_some (policy_meant e d)) (ap is_some is) some)
    by (Some p) is some rest = rw is (ap suc rest)

-- so the attribute is kept exactly where ids are
pub links_kept : (e : EntityData) (es : List Entry) (attr : Attr) → are_policies e attr es ≡ true → (if length (policy_ids e (listed attr es)) == 0 then [] else (attr, list (elements_of (policy_ids e (listed attr es)))) ∷ []) ≡ link_row e es attr
links_kept e es attr live =
    ap (λ (n : ℕ). if n == 0 then [] else (attr, list (elements_of (policy_ids e (listed attr es)))) ∷ []) (ids_each e (listed attr es) live)

-- whether there are ids says whether all are live
pub found_live : (b : Bool) (all ids : List Data) → Some ids ≡ (if b then Some all else None) → b ≡ true
found_live true all ids found = refl
found_live false all ids found = cc

pub lacks_live : (b : Bool) (all : List Data) → None ≡ (if b then Some all else None) → b ≡ false
lacks_live true all none = cc
lacks_live false all none = refl
