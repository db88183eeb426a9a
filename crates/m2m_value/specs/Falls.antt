-- Each part of a value nests less deep than the value.
use Rattle.std.specs.Prelude.{◌+◌, ◌*◌, ◌≤◌, max, List, [], ◌∷◌}
use Rattle.std.proofs.Common.{arith}
use denote.Param.Weighed.{most}
use Rattle.m2m_value.specs.Data.{Data, Entry, depth, elements_of, elements_depth, pairs_of}
use Rattle.m2m_value.specs.Data.{pairs_depth}
use Rattle.m2m_value.specs.Node.{data_of}
use Rattle.m2m_value.specs.declared.value.Node.{Node}
use Rattle.m2m_value.specs.declared.value.Node.TheVariants.{Null, Bool, Num, Text, List as ListNode}
use Rattle.m2m_value.specs.declared.value.Node.TheVariants.{Obj, Shared}
use Rattle.m2m_value.specs.declared.value.Items.TheDeep.{deep-Node, deep-Members}
use Rattle.m2m_value.specs.declared.value.Items.TheShapes.{weighed-Members-entries-at-2}
use Rattle.m2m_value.specs.declared.value.Members.TheInside.{Inside}

-- No element of a list nests deeper than the list's elements do at most. A walk down a value ends
-- by this.
pub elements_fall : (ds : List Data) →
    most (λ d. 3 * depth d + 1) ds ≤ 3 * elements_depth (elements_of ds) + 1
elements_fall [] = omega arith
elements_fall (d ∷ ds) = omega (arith, elements_fall ds)

members_fall_in : (es : List Entry) →
    max (most {X = Entry}
    (λ e. weighed-Members-entries-at-2.weight Data
    (λ d. 3 * depth d + 1) e) es) 0 ≤ 3 * pairs_depth (pairs_of es) + 1
members_fall_in [] = omega arith
members_fall_in (e ∷ es) = omega (arith, members_fall_in es)

-- No member of an object nests deeper than the object's members do at most.
pub members_fall : (a : Inside) → deep-Members a ≤ 3 * pairs_depth (pairs_of a.entries.items) + 1
members_fall a = members_fall_in a.entries.items

-- The depth that the type of a node gives it is at most three times the depth of its value.
pub node_falls : (n : Node) → max (deep-Node n) 0 ≤ 3 * depth (data_of n)
node_falls Null = omega arith
node_falls (Bool b) = omega arith
node_falls (Num n) = omega arith
node_falls (Text t) = omega arith
node_falls (ListNode items) = omega arith
node_falls (Obj members) = omega arith
node_falls (Shared items) = omega arith
