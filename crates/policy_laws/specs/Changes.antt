-- What a change of a list has to leave alone, so that an originator still sees the same of two
-- lists.
use Rattle.std.specs.Prelude.{◌≡◌, ℕ, Bool, true, false, ◌||◌, List, [], ◌∷◌, map, Option}
use Rattle.std.specs.Prelude.{Some, None, is_some, option_and_then, unwrap_or}
use Rattle.std.specs.List.{list_any}
use Rattle.std.specs.Option.{option_map_or}
use Rattle.m2m_names.specs.declared.attributes.Attr.{Attr}
use Rattle.m2m_names.specs.declared.attributes.Attr.TheVariants.{Acpi, Macp, Mia, Pv, Pvs}
use Rattle.m2m_names.specs.declared.types.Ty.{Ty}
use Rattle.m2m_names.specs.declared.types.Ty.TheVariants.{ContentInstance, Subscription}
use Rattle.m2m_value.specs.Data.{Data}
use Rattle.resource_model.specs.Attributes.{Row, is_attr, with_value, without_value}
use Rattle.resource_model.specs.Home.{HomeData}
use Rattle.resource_model.specs.Resource.{ResourceData, is_ty}
use Rattle.tree_model.specs.Tree.{at, recounted}
use Rattle.equal_sights.specs.Alike.{id_attrs}
use Rattle.policy_eval.specs.Rules.{is_attr_in, linked_ids, policy_of}
use Rattle.policy_eval.specs.Rights.{create_bit, retrieve_bit, update_bit, grants}
use Rattle.equal_sights.specs.Seen.{has_bit, seen_value}
use Rattle.equal_sights.specs.Shape.{shape_value}

-- the resource is a policy, and the id names it: so it does in a list of nothing else
abbrev pub is_id_of : ResourceData → Data → Bool
is_id_of p id = is_some (policy_of (p ∷ []) id)

-- the resource names the policy
abbrev pub does_link : ResourceData → ResourceData → Bool
does_link p r = list_any (is_id_of p) (linked_ids r)

-- a resource of the list names the policy; no other resource is named by a rule
abbrev pub is_linked : ResourceData → List ResourceData → Bool
is_linked p nodes = list_any (does_link p) nodes

-- the originator may add to the resource of the number, change it or read it, and so can learn the
-- greatest age of a container's instances
abbrev pub learns_limits : HomeData → List ResourceData → List ℕ → ℕ → Bool
learns_limits home nodes originator n =
    grants home nodes originator create_bit n || grants home nodes originator update_bit n
    || grants home nodes originator retrieve_bit n

-- ---- changes of a resource

-- an attribute, and its new value, or none where it is cleared
abbrev pub NewValue : Type 0
NewValue = Attr × Option Data

-- the rows after one change, and after several
abbrev pub with_change : Attr → Option Data → List Row → List Row
with_change a (Some d) rows = with_value a d rows
with_change a None rows = without_value a rows

abbrev pub with_changes : List NewValue → List Row → List Row
with_changes [] rows = rows
with_changes (c ∷ changes) rows = with_changes changes (with_change c.0 c.1 rows)

-- the resource after changes of its attributes, and of its last change and its expiry where a new
-- moment is given
abbrev pub changed : List NewValue → Option ℕ → Option ℕ → ResourceData → ResourceData
changed changes lt et r = record r {
  attrs = with_changes changes r.attrs;
  lt = unwrap_or lt r.lt;
  et = unwrap_or et r.et;
}

-- an attribute of a resource of the type says by which rules somebody is judged, there or
-- elsewhere, but for a fan-out: which policies hold for it, a policy's rules, and whose a polling
-- channel is
abbrev pub does_judge : Ty → Attr → Bool
does_judge ty a = is_attr_in (Acpi ∷ Pv ∷ Pvs ∷ id_attrs ty) a

-- one of the changes is of such an attribute
abbrev pub do_judge : Ty → List NewValue → Bool
do_judge ty changes = list_any (λ c. does_judge ty c.0) changes

-- one of the changes is of an attribute by which something else is seen: when the instances of a
-- container are due, or who may fan out to a group and so sees its members
abbrev pub do_reach : List NewValue → Bool
do_reach changes = list_any (λ c. is_attr_in (Mia ∷ Macp ∷ []) c.0) changes

-- what the originator sees of changes of a resource
abbrev pub seen_changes : HomeData → List ResourceData → List ℕ → ResourceData → List NewValue →
    List NewValue
seen_changes home nodes originator r changes =
    map (λ c. (c.0, option_and_then (seen_value home nodes originator r c.0) c.1)) changes

-- the changes of the resource show the originator nothing but themselves: it is no content
-- instance, no change is of an attribute by which somebody is judged, and one by which something
-- else is seen is made with UPDATE
pub record ShowNoMore (home : HomeData) (nodes : List ResourceData) (originator : List ℕ)
    (r : ResourceData) (changes : List NewValue) : Type 0 where
  pub other : is_ty r.ty ContentInstance ≡ false
  pub free : do_judge r.ty changes ≡ false
  pub reach : do_reach changes ≡ true → has_bit home nodes originator update_bit r ≡ true

-- what the shape keeps of changes of a resource
abbrev pub shape_changes : HomeData → List ℕ → ResourceData → List NewValue → List NewValue
shape_changes home originator r changes =
    map (λ c. (c.0, option_and_then (shape_value home originator r c.0) c.1)) changes

-- The changes leave alone when other resources are due: the resource is no content instance, and
-- none of them is of `mia`.
pub record LeaveEnds (r : ResourceData) (changes : List NewValue) : Type 0 where
  pub other : is_ty r.ty ContentInstance ≡ false
  pub ends : list_any (λ c. is_attr c.0 Mia) changes ≡ false

-- ---- subscriptions that are counted anew

-- the resource with as many notifications left as are given for its number, if any are (TS-0001,
-- 9.6.8)
abbrev pub counted_anew : (ℕ → Option ℕ) → ResourceData → ResourceData
counted_anew left r = option_map_or (λ n. recounted n r) (left r.number) r

-- of a list only subscriptions are counted anew
abbrev pub CountsSubscriptions : (ℕ → Option ℕ) → List ResourceData → Type 0
CountsSubscriptions left nodes =
    (r : ResourceData) → at r.number nodes ≡ Some r → is_some (left r.number) ≡ true
    → is_ty r.ty Subscription ≡ true
