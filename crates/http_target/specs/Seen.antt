-- What contracts see of the parts of a target that are lent by a frame.
use Rattle.std.specs.Option.{option_copied}
use Rattle.http_target.specs.declared.target.PathAndQuery as split
use Rattle.http_target.specs.declared.target.Target as aimed
use Rattle.http_target.specs.Targets.{PathAndQuery, TargetValues}

-- The path and the query of a target, copied from the frame that lends them (RFC 9112, section
-- 3.2).
abbrev pub seen_parts : split.PathAndQuery → PathAndQuery
seen_parts parts = record { path = parts.path.now; query = option_copied parts.query }

-- The address and the query of a target, copied from the frame that lends the query (TS-0009,
-- 6.2.2).
abbrev pub seen_target : aimed.Target → TargetValues
seen_target target = record { to = target.to; query = target.query.now }
