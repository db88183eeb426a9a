use Rattle.std.proofs.Common.{◌≡◌, take}
use Rattle.std.specs.List.{filter_map}
use Rattle.http_target.specs.Queries.{type_spelled}
use Rattle.http_target.proofs.query.types_of.Given as goal

-- the numbers of the words so far
abbrev pub invariant-loop-word : goal.invariant-loop-word
invariant-loop-word l = l.types.items ≡ filter_map type_spelled (take l.word-index l.words)
