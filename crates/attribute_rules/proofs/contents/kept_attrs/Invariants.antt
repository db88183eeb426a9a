use Rattle.std.proofs.Common.{◌≡◌, ◌++◌, drop}
use Rattle.std.specs.List.{filter_map}
use Rattle.attribute_rules.specs.Contents.{kept_row}
use Rattle.attribute_rules.proofs.contents.kept_attrs.Given as goal

-- what was taken so far, and what is left gives, is what all gives
abbrev pub invariant-loop-key : goal.invariant-loop-key
invariant-loop-key l = l.rows.items ++ filter_map kept_row (drop l.key-index l.key-items) ≡ filter_map kept_row l.key-items
