-- A value opened at its top, and what each value keeps.
use Rattle.std.specs.Prelude.{List, IsUtf8}
use Rattle.std.specs.Cmp.Lexicographic.{slice_cmp}
use Rattle.std.specs.List.{AllByRecursion}
use Rattle.std.specs.List.Sorted.{IsStrictlySortedBy}
use Rattle.std.specs.Map.{keys_of}
use Rattle.std.specs.Ordering.{nat_cmp}
use Rattle.m2m_value.specs.Data.{Data, null, boolean, number, text, list, object, Entry}
use Rattle.m2m_value.specs.Data.{elements_of, pairs_of}
use Rattle.m2m_value.specs.declared.value.Node.{Node}
use Rattle.m2m_value.specs.declared.value.Node.TheVariants.{Null, Bool, Num, Text, List as ListNode}
use Rattle.m2m_value.specs.declared.value.Node.TheVariants.{Obj, Shared}

-- the data of a value, from its top; a list is a list, whoever has it
abbrev pub data_of : Node → Data
data_of Null = null
data_of (Bool b) = boolean b
data_of (Num n) = number n
data_of (Text t) = text t
data_of (ListNode items) = list (elements_of items)
data_of (Obj members) = object (pairs_of members)
data_of (Shared items) = list (elements_of items)

-- the keys are distinct and in the order of their bytes
abbrev pub AreSorted : List Entry → Type 0
AreSorted es = IsStrictlySortedBy (slice_cmp nat_cmp) (keys_of es)

-- each key is UTF-8
abbrev pub HaveTextKeys : List Entry → Type 0
HaveTextKeys es = AllByRecursion IsUtf8 (keys_of es)

-- a text and the keys of an object are UTF-8 (RFC 8259, section 8.1)
abbrev pub IsJsonNode : Node → Type 0
IsJsonNode Null = Unit {0}
IsJsonNode (Bool b) = Unit {0}
IsJsonNode (Num n) = Unit {0}
IsJsonNode (Text t) = IsUtf8 t
IsJsonNode (ListNode items) = Unit {0}
IsJsonNode (Obj members) = HaveTextKeys members
IsJsonNode (Shared items) = Unit {0}
