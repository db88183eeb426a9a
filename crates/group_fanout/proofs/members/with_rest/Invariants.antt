use Rattle.std.proofs.Common.{◌≡◌, ◌∷◌, drop, map, true, IsUtf8}
use Rattle.addressing.specs.Addresses.{are_names, joined}
use Rattle.group_fanout.proofs.members.with_rest.Given as goal

-- what is written, with the rest that is left behind it, is the whole, and it is a text
abbrev pub invariant-loop-part : goal.invariant-loop-part
invariant-loop-part l = record {
  whole : joined (l.address.items ∷ map (λ p. p.now) (drop l.part-index l.parts)) ≡ joined (l.member ∷ l.rest);
  text : IsUtf8 l.address.items;
  names : are_names (map (λ p. p.now) (drop l.part-index l.parts)) ≡ true;
}
