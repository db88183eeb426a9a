-- What a group keeps of the members that it is asked to have (TS-0001, 9.6.13).
use Rattle.std.specs.Prelude.{◌≡◌, ℕ, ◌≤◌, pos, false, List, length, map, bytes_eq, Some, IsTrue}
use Rattle.std.specs.List.{list_all, list_any}
use Rattle.m2m_names.specs.declared.attributes.Attr.TheVariants.{Cnm, Mid, Mt, Mtv}
use Rattle.m2m_value.specs.Data.{boolean, elements_of, list, number, text}
use Rattle.policy_eval.specs.Rules.{texts_of}
use Rattle.resource_model.specs.Attributes.{Row, value_of}
use Rattle.entity_model.specs.Entity.{EntityData}
use Rattle.entity_model.specs.Sound.{are_distinct}
use Rattle.request_rules.specs.Groups.{MembershipData, is_left_out, is_live_member, is_of_other_type}
use Rattle.request_rules.specs.Groups.{member_limit}

-- the address is one of these
abbrev pub IsAmong : List ℕ → List (List ℕ) → Type 0
IsAmong address texts = IsTrue (list_any (bytes_eq address) texts)

-- A group with these attributes has these members. They are shown, with their number, the number of
-- their type, and whether each names a live resource. None stands twice, each was asked for, and
-- they are no more than are admitted. Who was asked for stays, but for a member that names a live
-- resource of another type where such members are left out. So each that stays and names a live
-- resource names one of the group's type, unless that is any.
pub record KeepsMembers (e : EntityData) (m : MembershipData) (rows : List Row) : Type 0 where
  pub kept : List (List ℕ)
  pub of_type : ℕ
  pub members : value_of Mid rows ≡ Some (list (elements_of (map text kept)))
  pub count : value_of Cnm rows ≡ Some (number (pos (length kept)))
  pub types : value_of Mt rows ≡ Some (number (pos of_type))
  pub validated : value_of Mtv rows ≡ Some (boolean (list_all (is_live_member e) kept))
  pub once : IsTrue (are_distinct kept)
  pub few : length kept ≤ member_limit m
  pub asked : (address : List ℕ) → IsAmong address kept → IsAmong address (texts_of m.values)
  pub stays : (address : List ℕ) → IsAmong address (texts_of m.values)
      → list_any (bytes_eq address) kept ≡ false → IsTrue (is_left_out e m address)
  pub typed : (address : List ℕ) → IsAmong address kept
      → is_of_other_type e of_type address ≡ false
