-- A resource (TS-0001, 9.6).
use Rattle.std.specs.Prelude.{ℕ, ◌<◌, ◌≤◌, ◌==◌, List, Bool, Option, None, if◌then◌else◌}
use Rattle.std.specs.Prelude.{IsUtf8}
use Rattle.m2m_names.specs.Ids.{count_bound, id_text}
use Rattle.m2m_names.specs.Name.{is_free_name}
use Rattle.m2m_names.specs.Stamps.{last_moment}
pub use Rattle.m2m_names.specs.Types.{is_ty}
use Rattle.m2m_names.specs.declared.attributes.Attr.TheVariants.{Aei, Csi}
use Rattle.m2m_names.specs.declared.types.Ty.{Ty}
use Rattle.m2m_names.specs.declared.types.Ty.TheVariants.{Ae, RemoteCse}
use Rattle.resource_model.specs.Attributes.{Row, text_at}

-- `number` is never used again, and `parent` is that of the parent, or 0 for the CSEBase; `ct`,
-- `lt` and `et` are moments of creation, last change and expiry, in seconds since 1970
pub record ResourceData : Type 0 where
  pub number : ℕ
  pub ty : Ty
  pub name : List ℕ
  pub parent : ℕ
  pub owner : List ℕ
  pub ct : ℕ
  pub lt : ℕ
  pub et : ℕ
  pub attrs : List Row

-- The resource has this number.
abbrev pub has_number : ℕ → ResourceData → Bool
has_number n r = r.number == n

-- The resource identifier of a resource.
abbrev pub id_of : ResourceData → List ℕ
id_of r = id_text r.ty r.number

-- The resource's name addresses nothing else (TS-0001, 9.6.1.3).
abbrev pub has_free_name : ResourceData → Bool
has_free_name r = is_free_name r.name

-- the AE-ID of an application entity (TS-0001, 7.1.2)
abbrev pub ae_id : ResourceData → Option (List ℕ)
ae_id r = if is_ty r.ty Ae then text_at Aei r.attrs else None

-- the CSE-ID of a remote CSE, with its slash (TS-0001, 9.6.4)
abbrev pub cse_id : ResourceData → Option (List ℕ)
cse_id r = if is_ty r.ty RemoteCse then text_at Csi r.attrs else None

-- texts are UTF-8, numbers are counts, and moments end with the year 9999
pub record IsResource (r : ResourceData) : Type 0 where
  pub name : IsUtf8 r.name
  pub owner : IsUtf8 r.owner
  pub number : r.number < count_bound
  pub parent : r.parent < count_bound
  pub ct : r.ct ≤ last_moment
  pub lt : r.lt ≤ last_moment
  pub et : r.et ≤ last_moment
