-- The home of an entity: what it is called, and who runs it.
use Rattle.std.specs.Prelude.{◌≡◌, ℕ, ℤ, pos, int_le, Bool, not, ◌&&◌, ◌||◌, List, codes, Option}
use Rattle.std.specs.Prelude.{Some, None, IsUtf8, if◌then◌else◌}
use Rattle.m2m_names.specs.Name.{is_free_name, is_resource_id, is_request_id}
use Rattle.m2m_names.specs.Name.{is_originator}

-- A home: the service provider, the CSE-ID without its slash, the name of the CSEBase, the CSE
-- type, and the administrator (TS-0001, 6.2.3 and 9.6.3).
pub record HomeData : Type 0 where
  pub sp : List ℕ
  pub csi : List ℕ
  pub base : List ℕ
  pub cst : ℤ
  pub admin : List ℕ

-- the name of the CSEBase: a free name in the form of no id, neither a resource's nor that of a
-- request that is answered later
abbrev pub is_base_name : List ℕ → Bool
is_base_name text = is_free_name text && not (is_resource_id text || is_request_id text)

-- the numbers of CSE types: 1 for an infrastructure node, 2 for a middle node, 3 for an application
-- service node (TS-0004, 6.3.4.2.3)
abbrev pub last_cse_type : ℕ
last_cse_type = 3

-- The number is that of a CSE type.
abbrev pub is_cse_type : ℤ → Bool
is_cse_type cst = int_le (pos 1) cst && int_le cst (pos last_cse_type)

-- the place of the first argument that isn't admitted, from 0
abbrev pub first_bad : HomeData → Option ℕ
first_bad home =
    if not (is_free_name home.sp) then Some 0 else
    if not (is_free_name home.csi) then Some 1 else
    if not (is_base_name home.base) then Some 2 else
    if not (is_cse_type home.cst) then Some 3 else
    if not (is_originator home.admin) then Some 4 else None

-- Every part is admitted, and its texts are UTF-8.
pub record IsHome (home : HomeData) : Type 0 where
  pub admitted : first_bad home ≡ None
  pub sp : IsUtf8 home.sp
  pub csi : IsUtf8 home.csi
  pub base : IsUtf8 home.base
  pub admin : IsUtf8 home.admin

-- the home that an entity has where nothing else is said
abbrev pub default_home : HomeData
default_home = record {
  sp = codes "sp.example";
  csi = codes "id-in";
  base = codes "cse-in";
  cst = pos 1;
  admin = codes "CAdmin";
}
