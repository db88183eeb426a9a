-- A tree of resources: the list of them in order of creation (TS-0001, 9.6).
use Rattle.std.specs.Prelude.{◌≡◌, ◌<◌, map, pos, is_some, slice_index_or, slice_get, slice_set, ℕ}
use Rattle.std.specs.Prelude.{◌+◌, ◌-◌, ◌==◌, nat_eq, nat_le, nat_lt, min, List, [], ◌∷◌, ◌++◌}
use Rattle.std.specs.Prelude.{length, ◌⊎◌}
use Rattle.std.specs.Prelude.{filter, find, reverse, sum_by, Bool, true, false, not, ◌&&◌, ◌||◌}
use Rattle.std.specs.Prelude.{if◌then◌else◌, Option, Some, None, option_map, unwrap_or}
use Rattle.std.specs.Prelude.{option_and_then}
use Rattle.std.specs.List.{list_all, list_any}
use Rattle.std.specs.List.Sorted.{IsStrictlySortedBy}
use Rattle.std.specs.Option.{option_map_or}
use Rattle.std.specs.Ordering.{nat_cmp}
use Rattle.std.specs.Str.{bytes_eq}
use Rattle.m2m_names.specs.Ids.{id_parts}
use Rattle.m2m_names.specs.Types.{does_take}
use Rattle.m2m_names.specs.declared.attributes.Attr.TheVariants.{Mia, Cs, Exc, St}
use Rattle.m2m_names.specs.declared.types.Ty.{Ty}
use Rattle.m2m_names.specs.declared.types.Ty.TheVariants.{CseBase, ContentInstance, PollingChannel}
use Rattle.m2m_names.specs.declared.types.Ty.TheVariants.{Subscription}
use Rattle.m2m_value.specs.Data.{number}
use Rattle.resource_model.specs.Attributes.{count_at, value_of, with_value}
use Rattle.resource_model.specs.Resource.{ResourceData, is_ty, has_number, has_free_name, ae_id}
use Rattle.resource_model.specs.Resource.{cse_id}

-- ---- what stands in a list

-- the resource of a number
abbrev pub at : ℕ → List ResourceData → Option ResourceData
at n nodes = find (has_number n) nodes

-- whether there is one
abbrev pub has : ℕ → List ResourceData → Bool
has n nodes = list_any (has_number n) nodes

-- the resource, where it is of this type
abbrev pub of_type : Ty → ResourceData → Option ResourceData
of_type ty r = if is_ty r.ty ty then Some r else None

-- the resource of a number, where it is of this type
abbrev pub typed_at : Ty → ℕ → List ResourceData → Option ResourceData
typed_at ty n nodes = option_and_then (of_type ty) (at n nodes)

-- the resource that a resource id names: that of its number, where it is of its type
abbrev pub resource_of_id : List ℕ → List ResourceData → Option ResourceData
resource_of_id id nodes =
    option_and_then (λ (p : Ty × ℕ). typed_at p.0 p.1 nodes) (id_parts id)

-- The resource has this parent.
abbrev pub is_under : ℕ → ResourceData → Bool
is_under parent r = r.parent == parent

-- the children of a resource, in order of creation
abbrev pub children_of : ℕ → List ResourceData → List ResourceData
children_of parent nodes = filter (is_under parent) nodes

-- The resource is of this type, and a child of this parent.
abbrev pub is_kin : Ty → ℕ → ResourceData → Bool
is_kin ty parent r = is_under parent r && is_ty r.ty ty

-- The children of this type under a resource, in order of creation.
abbrev pub kin_of : Ty → ℕ → List ResourceData → List ResourceData
kin_of ty parent nodes = filter (is_kin ty parent) nodes

-- the subscriptions of a resource, in order of creation (TS-0001, 9.6.8)
abbrev pub subs_of : ℕ → List ResourceData → List ResourceData
subs_of parent nodes = kin_of Subscription parent nodes

-- The resource is a content instance of this container.
abbrev pub is_instance : ℕ → ResourceData → Bool
is_instance container r = is_kin ContentInstance container r

-- the content instances of a container, oldest first (TS-0001, 9.6.6)
abbrev pub instances_of : ℕ → List ResourceData → List ResourceData
instances_of container nodes = kin_of ContentInstance container nodes

-- the size of an instance in bytes, and of all the instances of a container
abbrev pub instance_size : ResourceData → ℕ
instance_size r = unwrap_or (count_at Cs r.attrs) 0

abbrev pub sizes_of : ℕ → List ResourceData → ℕ
sizes_of container nodes = sum_by instance_size (instances_of container nodes)

-- The resource is the child of this name under this parent.
abbrev pub is_child : ℕ → List ℕ → ResourceData → Bool
is_child parent name r = is_under parent r && bytes_eq r.name name

-- the number of a resource, where there is one
abbrev pub resource_number : Option ResourceData → Option ℕ
resource_number found = option_map (λ r. r.number) found

-- the number of the resource at a place, from 0
abbrev pub number_at : ℕ → List ResourceData → Option ℕ
number_at k rs = resource_number (slice_get rs k)

-- the numbers of some resources
abbrev pub numbers_of : List ResourceData → List ℕ
numbers_of rs = map (λ (r : ResourceData). r.number) rs

-- The resource's number is greater than this one.
abbrev pub comes_after : ℕ → ResourceData → Bool
comes_after n r = nat_lt n r.number

-- The resources whose numbers are greater than this one.
abbrev pub all_after : ℕ → List ResourceData → List ResourceData
all_after n rs = filter (comes_after n) rs

-- The resources that come after the last one that was given, where one was.
abbrev pub all_behind : Option ℕ → List ResourceData → List ResourceData
all_behind None rs = rs
all_behind (Some n) rs = all_after n rs

-- The first of the resources whose number is greater than this one.
abbrev pub next_after : ℕ → List ResourceData → Option ResourceData
next_after n rs = find (comes_after n) rs

-- the number of the last resource, and of the first
abbrev pub last_number : List ResourceData → Option ℕ
last_number rs = number_at (length rs - 1) rs

abbrev pub first_number : List ResourceData → Option ℕ
first_number rs = number_at 0 rs

-- the number of the newest or of the oldest instance of a container
abbrev pub instance_of : Bool → ℕ → List ResourceData → Option ℕ
instance_of newest container nodes =
    if newest then last_number (instances_of container nodes)
    else first_number (instances_of container nodes)

-- both are given, and they are one
abbrev pub same_text : Option (List ℕ) → Option (List ℕ) → Bool
same_text (Some a) (Some b) = bytes_eq a b
same_text (Some a) None = false
same_text None (Some b) = false
same_text None None = false

-- The resource has this AE-ID.
abbrev pub is_ae : List ℕ → ResourceData → Bool
is_ae aei r = same_text (ae_id r) (Some aei)

-- the number of the application entity that has an AE-ID
abbrev pub ae_of : List ℕ → List ResourceData → Option ℕ
ae_of aei nodes = resource_number (find (is_ae aei) nodes)

-- The resource has this CSE-ID.
abbrev pub is_cse : List ℕ → ResourceData → Bool
is_cse csi r = same_text (cse_id r) (Some csi)

-- the number of the remote CSE that has a CSE-ID
abbrev pub cse_of : List ℕ → List ResourceData → Option ℕ
cse_of csi nodes = resource_number (find (is_cse csi) nodes)

-- the polling channels of a resource, in order of creation (TS-0001, 9.6.21)
abbrev pub is_channel : ℕ → ResourceData → Bool
is_channel parent r = is_kin PollingChannel parent r

abbrev pub channels_of : ℕ → List ResourceData → List ResourceData
channels_of parent nodes = kin_of PollingChannel parent nodes

-- whether there is one
abbrev pub has_channel : ℕ → List ResourceData → Bool
has_channel parent nodes = list_any (is_channel parent) nodes

-- the number of the first of them
abbrev pub channel_of : ℕ → List ResourceData → Option ℕ
channel_of parent nodes = resource_number (find (is_channel parent) nodes)

-- the number of the child of a name
abbrev pub child_of : ℕ → List ℕ → List ResourceData → Option ℕ
child_of parent name nodes = resource_number (find (is_child parent name) nodes)

-- the resource, its parent, and so on up to the CSEBase, found from the newest to the oldest
abbrev pub line_from : ℕ → List ResourceData → List ResourceData
line_from n [] = []
line_from n (r ∷ older) =
    if has_number n r then r ∷ line_from r.parent older else line_from n older

-- The resource, its parent, and so on up to the CSEBase.
abbrev pub line_of : ℕ → List ResourceData → List ResourceData
line_of n nodes = line_from n (reverse nodes)

-- how deep a resource stands: the CSEBase at 1
abbrev pub level_of : ℕ → List ResourceData → ℕ
level_of n nodes = length (line_of n nodes)

-- The resource is that of the number, or stands below it.
abbrev pub is_at_or_below : ℕ → List ResourceData → ResourceData → Bool
is_at_or_below n nodes r = list_any (has_number n) (line_of r.number nodes)

-- The second list has the numbers of the first, and those of the resource of the number and of all
-- that stands below it, and no others.
pub record Gathers (n : ℕ) (nodes : List ResourceData) (old new : List ℕ) : Type 0 where
  pub keeps : (m : ℕ) → list_any (nat_eq m) old ≡ true → list_any (nat_eq m) new ≡ true
  pub finds : (m : ℕ) → list_any (has_number n) (line_of m nodes) ≡ true
      → list_any (nat_eq m) new ≡ true
  pub only : (m : ℕ) → list_any (nat_eq m) new ≡ true
      → (list_any (nat_eq m) old ≡ true) ⊎ (list_any (has_number n) (line_of m nodes) ≡ true)

-- ---- changes

-- the resource takes the place of the one of its number
abbrev pub replaced : ResourceData → List ResourceData → List ResourceData
replaced r [] = []
replaced r (s ∷ nodes) = if has_number r.number s then r ∷ nodes else s ∷ replaced r nodes

-- the resource, last changed at this moment, with this state tag (TS-0001, 9.6.1.3.2)
abbrev pub restamped : ℕ → ℕ → ResourceData → ResourceData
restamped lt st r = record r { lt = lt; attrs = with_value St (number (pos st)) r.attrs }

-- the resource of a number is so, where it is there
abbrev pub restamped_at : ℕ → ℕ → ℕ → List ResourceData → List ResourceData
restamped_at n lt st nodes = option_map_or (λ r. replaced (restamped lt st r) nodes)
    (at n nodes) nodes

-- The resource is there, and has a state tag.
abbrev pub has_state : ℕ → List ResourceData → Bool
has_state n nodes = option_map_or (λ r. is_some (value_of St r.attrs)) (at n nodes) false

-- the subscription to which so many notifications are left; its moment of change and all else stay
-- (TS-0001, 9.6.8: expirationCounter)
abbrev pub recounted : ℕ → ResourceData → ResourceData
recounted left r = record r { attrs = with_value Exc (number (pos left)) r.attrs }

-- the resource of a number is so, where it is there
abbrev pub recounted_at : ℕ → ℕ → List ResourceData → List ResourceData
recounted_at n left nodes =
    option_map_or (λ r. replaced (recounted left r) nodes) (at n nodes) nodes

-- The resource is there, and counts how many notifications are left.
abbrev pub has_counter : ℕ → List ResourceData → Bool
has_counter n nodes = option_map_or (λ r. is_some (value_of Exc r.attrs)) (at n nodes) false

-- a resource stays where it isn't picked and its parent stayed
abbrev pub stays : (ResourceData → Bool) → List ResourceData → ResourceData → Bool
stays picks stayed r = not (picks r) && ((r.parent == 0) || has r.parent stayed)

-- in order of creation, after those that stayed
abbrev pub staying : (ResourceData → Bool) → List ResourceData → List ResourceData
    → List ResourceData
staying picks stayed [] = []
staying picks stayed (r ∷ nodes) =
    if stays picks stayed r
    then r ∷ staying picks (stayed ++ r ∷ []) nodes
    else staying picks stayed nodes

-- what stays where these are removed, with all that stands below them
abbrev pub without : (ResourceData → Bool) → List ResourceData → List ResourceData
without picks nodes = staying picks [] nodes

-- The resource has one of these numbers.
abbrev pub is_numbered_in : List ℕ → ResourceData → Bool
is_numbered_in numbers r = list_any (nat_eq r.number) numbers

-- what stays where the resources of these numbers are removed, with all that stands below them
abbrev pub without_all : List ℕ → List ResourceData → List ResourceData
without_all numbers nodes = without (is_numbered_in numbers) nodes

-- the reader's own words for it: no resource of its line is picked
abbrev pub is_spared : (ResourceData → Bool) → List ResourceData → ℕ → Bool
is_spared picks nodes n = not (list_any picks (line_of n nodes))

-- ---- which resources are live

-- when a resource reaches an age, where there is one
abbrev pub aged_at : Option ℕ → ResourceData → Option ℕ
aged_at mia r = option_map (λ age. r.ct + age) mia

-- the greatest age that a container allows its instances, where there is one (TS-0001, 9.6.6)
abbrev pub age_of : Option ResourceData → Option ℕ
age_of container = option_map_or (λ c. count_at Mia c.attrs) container None

-- when an instance of the container reaches the greatest age that this one allows
abbrev pub age_end : Option ResourceData → ResourceData → Option ℕ
age_end container r = aged_at (age_of container) r

-- the age that is allowed in place of another, where instances are due earlier by it: a smaller
-- one, or one where there was none
abbrev pub lowered_age : Option ℕ → Option ℕ → Option ℕ
lowered_age None age = age
lowered_age (Some old) None = None
lowered_age (Some old) (Some age) = if nat_le old age then None else Some age

-- the lesser of a number and another, where there is one
abbrev pub lesser : ℕ → Option ℕ → ℕ
lesser n other = option_map_or (λ m. min n m) other n

-- when an instance is due that may reach this age: when it expires, or at that age
abbrev pub end_by : Option ℕ → ResourceData → ℕ
end_by mia r = lesser r.et (aged_at mia r)

-- the moment at which a resource with this parent is due; the CSEBase has none (TS-0001,
-- 9.6.1.3.2)
abbrev pub due_under : Option ResourceData → ResourceData → Option ℕ
due_under parent r =
    if is_ty r.ty CseBase then None
    else (if is_ty r.ty ContentInstance then Some (end_by (age_of parent) r) else Some r.et)

-- The moment at which a resource is due to expire, if it is at all (TS-0001, 9.6.1.3.2).
abbrev pub due : List ResourceData → ResourceData → Option ℕ
due nodes r = due_under (at r.parent nodes) r

-- by the first moment the second has come
abbrev pub has_come : ℕ → ℕ → Bool
has_come moment at = nat_le at moment

-- A resource with this parent is due by this moment.
abbrev pub is_due_under : Option ResourceData → ℕ → ResourceData → Bool
is_due_under parent moment r = option_map_or (has_come moment) (due_under parent r) false

-- The resource is due to expire by this moment.
abbrev pub is_due : List ResourceData → ℕ → ResourceData → Bool
is_due nodes moment r = is_due_under (at r.parent nodes) moment r

-- the resources that are live at a moment: neither they nor what they stand under is due
abbrev pub live : ℕ → List ResourceData → List ResourceData
live moment nodes = without (is_due nodes moment) nodes

-- the numbers of the resources that aren't live at a moment, in order of creation
abbrev pub overdue_numbers : ℕ → List ResourceData → List ℕ
overdue_numbers moment nodes =
    numbers_of (filter (λ r. not (has r.number (live moment nodes))) nodes)

-- The resource isn't due before this moment.
abbrev pub is_quiet : List ResourceData → ℕ → ResourceData → Bool
is_quiet nodes until r = option_map_or (λ at. nat_le until at) (due nodes r) true

-- nothing is due before this moment
abbrev pub are_quiet : ℕ → List ResourceData → Bool
are_quiet until nodes = list_all (is_quiet nodes until) nodes

-- ---- which lists are trees

-- every number is below this one
abbrev pub are_below : ℕ → List ResourceData → Bool
are_below n nodes = list_all (λ s. nat_lt s.number n) nodes

-- each has a name that addresses nothing else
abbrev pub have_free_names : List ResourceData → Bool
have_free_names nodes = list_all has_free_name nodes

-- The resource is the first, the CSEBase.
abbrev pub is_root : List ResourceData → ResourceData → Bool
is_root [] r = is_ty r.ty CseBase && (r.parent == 0) && nat_lt 0 r.number
is_root (s ∷ nodes) r = false

-- The resource's parent is there, or it is the first resource.
abbrev pub is_placed : List ResourceData → ResourceData → Bool
is_placed nodes r = has r.parent nodes || is_root nodes r

-- a child has the name
abbrev pub has_child : ℕ → List ℕ → List ResourceData → Bool
has_child parent name nodes = list_any (is_child parent name) nodes

-- an application entity has this AE-ID
abbrev pub has_ae_id : Option (List ℕ) → List ResourceData → Bool
has_ae_id aei nodes = list_any (λ s. same_text (ae_id s) aei) nodes

-- a remote CSE has this CSE-ID
abbrev pub has_cse_id : Option (List ℕ) → List ResourceData → Bool
has_cse_id csi nodes = list_any (λ s. same_text (cse_id s) csi) nodes

-- what may come next: its number is new, its parent is there, and its name, AE-ID and CSE-ID are
-- free
abbrev pub may_stand : List ResourceData → ResourceData → Bool
may_stand nodes r =
    are_below r.number nodes && is_placed nodes r
    && not (has_child r.parent r.name nodes) && not (has_ae_id (ae_id r) nodes)
    && not (has_cse_id (cse_id r) nodes)

-- The resource's parent, where it has one, takes its type (TS-0001, 9.6).
abbrev pub is_taken : List ResourceData → ResourceData → Bool
is_taken nodes r = option_map_or (λ p. does_take p.ty r.ty) (at r.parent nodes) true

-- The resource may come next in the list, and its parent takes its type (TS-0001, 9.6).
abbrev pub fits_in : List ResourceData → ResourceData → Bool
fits_in nodes r = may_stand nodes r && is_taken nodes r

-- each resource could come after those before it
abbrev pub grows : (List ResourceData → ResourceData → Bool) → List ResourceData
    → List ResourceData → Bool
grows may before [] = true
grows may before (r ∷ nodes) = may before r && grows may (before ++ r ∷ []) nodes

-- a CSEBase first, numbers ascend, each other resource has its parent before it, and names of
-- siblings, AE-IDs and CSE-IDs differ: what every tree keeps
abbrev pub is_tree : List ResourceData → Bool
is_tree nodes = grows may_stand [] nodes

-- The list is a tree, and each resource stands under a type that takes it (TS-0001, 9.6).
abbrev pub is_well_formed : List ResourceData → Bool
is_well_formed nodes = grows fits_in [] nodes

-- what a replacement leaves as it was
abbrev pub standing : ResourceData → Ty × List ℕ × ℕ × Option (List ℕ) × Option (List ℕ)
standing r = (r.ty, r.name, r.parent, ae_id r, cse_id r)

-- each of these numbers is above those before it
abbrev pub DoAscend : List ℕ → Type 0
DoAscend numbers = IsStrictlySortedBy nat_cmp numbers

-- the numbers of these resources ascend
abbrev pub AreAscending : List ResourceData → Type 0
AreAscending nodes = DoAscend (numbers_of nodes)

-- the resource of the number stands at this place
pub record StandsAt (n : ℕ) (nodes : List ResourceData) (i : ℕ) : Type 0 where
  pub within : i < length nodes
  pub found : (d : ResourceData) → at n nodes ≡ Some (slice_index_or nodes i d)
  pub written : (r : ResourceData) → r.number ≡ n → replaced r nodes ≡ slice_set nodes i r
