-- The objects of a rule and of one member, as they are written.
use Rattle.std.proofs.Common.{◌≡◌, List, [], ◌∷◌, ◌++◌, codes, refl, sym, subst}
use Rattle.std.specs.List.Sorted.{IsStrictlySortedBy}
use Rattle.m2m_names.proofs.NameLemmas.{unreserved_is_utf8}
use Rattle.m2m_value.specs.Data.{Data, Entry}
use Rattle.m2m_value.specs.Node.{AreSorted, HaveTextKeys}
use Rattle.tree_model.proofs.ShownLemmas.{one_sorted}

-- the members of a rule
abbrev pub rule_members : Data → Data → List Entry
rule_members bits who = (codes "acop", bits) ∷ (codes "acor", who) ∷ []

members_sorted : (bits who : Data) → AreSorted (rule_members bits who)
unfolding IsStrictlySortedBy
members_sorted bits who = ((refl, tt), (tt, tt))

pub rule_sorted : (es : List Entry) (bits who : Data) → es ≡ rule_members bits who → AreSorted es
rule_sorted es bits who is = subst AreSorted (sym is) (members_sorted bits who)

pub rule_named : (es : List Entry) (bits who : Data) → es ≡ rule_members bits who → HaveTextKeys es
rule_named es bits who is = subst HaveTextKeys (sym is) (unreserved_is_utf8 (codes "acop") refl, (unreserved_is_utf8 (codes "acor") refl, tt))

-- an object of one member
pub sorted_alone : (es : List Entry) (e : Entry) → es ≡ [] ++ e ∷ [] → AreSorted es
sorted_alone es e is = subst AreSorted (sym is) (one_sorted e)
