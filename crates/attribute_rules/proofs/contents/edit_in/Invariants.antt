use Rattle.std.proofs.Common.{◌≡◌, ◌++◌, drop}
use Rattle.std.specs.List.{filter_map}
use Rattle.attribute_rules.specs.Contents.{set_row, cleared_attr}
use Rattle.attribute_rules.proofs.contents.edit_in.Given as goal

-- what was taken so far, and what is left gives, is what all gives
abbrev pub invariant-loop-key : goal.invariant-loop-key
invariant-loop-key l = record {
  sets : l.sets.items ++ filter_map set_row (drop l.key-index l.key-items) ≡ filter_map set_row l.key-items;
  clears : l.clears.items ++ filter_map cleared_attr (drop l.key-index l.key-items) ≡ filter_map cleared_attr l.key-items;
}
