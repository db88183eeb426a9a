-- What the limits of a container leave of its instances (TS-0001, 9.6.6).
use Rattle.std.specs.Prelude.{◌≡◌, ℕ, ◌+◌, ◌==◌, nat_le, List, [], ◌∷◌, length}
use Rattle.std.specs.Prelude.{filter, find, sum_by, Bool, true, false, not, ◌&&◌, ◌||◌}
use Rattle.std.specs.Prelude.{if◌then◌else◌, Option, Some, option_to_list, unwrap_or}
use Rattle.std.specs.Bool.{OnTrue}
use Rattle.std.specs.List.{list_any}
use Rattle.std.specs.Option.{option_map_or}
use Rattle.m2m_names.specs.declared.attributes.Attr.TheVariants.{Mbs, Mni}
use Rattle.resource_model.specs.Attributes.{count_at}
use Rattle.resource_model.specs.Resource.{ResourceData}
use Rattle.tree_model.specs.Tree.{age_of, end_by, has, has_come, instance_size}
pub use Rattle.tree_model.specs.Tree.{numbers_of}
use Rattle.container_limits.specs.declared.limits.Limits.{Limits}

-- at most the limit, where there is one
abbrev pub is_within : ℕ → Option ℕ → Bool
is_within n limit = option_map_or (λ most. nat_le n most) limit true

-- the limits that a container has
abbrev pub limits_of : ResourceData → Limits
limits_of c = record {
  mni = count_at Mni c.attrs;
  mbs = count_at Mbs c.attrs;
  mia = age_of (Some c);
}

-- a count, and a sum of sizes, are within the limits
abbrev pub are_within : Limits → ℕ → ℕ → Bool
are_within limits count sizes = is_within count limits.mni && is_within sizes limits.mbs

-- these instances, and one of this size that follows them, if any, are within the limits on their
-- count and on the sum of their sizes
abbrev pub do_fit : Limits → Option ℕ → List ResourceData → Bool
do_fit limits new rs =
    are_within limits (length rs + length (option_to_list new))
    (sum_by instance_size rs + unwrap_or new 0)

-- all suffixes of a list, the longest first
abbrev pub suffixes : List ResourceData → List (List ResourceData)
suffixes [] = [] ∷ []
suffixes (r ∷ rs) = (r ∷ rs) ∷ suffixes rs

-- the longest suffix that fits; none, where not even the one that follows fits
abbrev pub longest_fit : Limits → Option ℕ → List ResourceData → List ResourceData
longest_fit limits new rs = unwrap_or (find (do_fit limits new) (suffixes rs)) []

-- The instance is due by this moment.
abbrev pub is_due_by : Option ℕ → ℕ → ResourceData → Bool
is_due_by mia moment r = has_come moment (end_by mia r)

-- The instance isn't due by this moment.
abbrev pub lasts : Option ℕ → ℕ → ResourceData → Bool
lasts mia moment r = not (is_due_by mia moment r)

-- whether it is due, where that is asked, or isn't
abbrev pub is_in_state : Bool → Option ℕ → ℕ → ResourceData → Bool
is_in_state due mia moment r =
    if due then is_due_by mia moment r else lasts mia moment r

-- The instance goes: it stands outside the run that stays, or is due.
abbrev pub goes : Bool → Option ℕ → ℕ → ResourceData → Bool
goes outside mia moment r = outside || is_due_by mia moment r

-- there is a greatest age, and it is this one
abbrev pub is_age : Option ℕ → ℕ → Bool
is_age mia age = option_map_or (λ own. own == age) mia false

-- no greatest age is asked for, or the one that the container allows
abbrev pub is_mia_of : Option ResourceData → Option ℕ → Bool
is_mia_of container mia = option_map_or (is_age (age_of container)) mia true

-- what stays of these instances: of those that aren't due, the longest suffix that fits
abbrev pub kept : Limits → Option ℕ → ℕ → List ResourceData → List ResourceData
kept limits new moment rs = longest_fit limits new (filter (lasts limits.mia moment) rs)

-- the numbers of those that go, oldest first
abbrev pub evicted : Limits → Option ℕ → ℕ → List ResourceData → List ℕ
evicted limits new moment rs =
    numbers_of (filter (λ r. not (has r.number (kept limits new moment rs))) rs)

-- where it is known so, none of them is due
abbrev pub IsQuiet : Bool → Option ℕ → ℕ → List ResourceData → Type 0
IsQuiet quiet mia moment rs = OnTrue quiet (list_any (is_due_by mia moment) rs ≡ false)
