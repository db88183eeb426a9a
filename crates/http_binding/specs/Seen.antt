-- What contracts see of the parts of a request that are lent by a frame.
use Rattle.std.specs.Option.{option_copied}
use Rattle.http_binding.specs.declared.headers.HeaderValues as declared
use Rattle.http_binding.specs.declared.headers.Caller as lent
use Rattle.http_binding.specs.Binding.{HeaderValues, Caller}

-- The values of the header fields, copied from the frame that lends them (TS-0009, 6.4).
abbrev pub seen_values : declared.HeaderValues → HeaderValues
seen_values values = record {
  origin = option_copied values.origin;
  id = option_copied values.id;
  expiry = option_copied values.expiry;
  type = option_copied values.ty;
}

-- The originator, identifier, expiry and type number of a request, copied from the frame that lends
-- the texts (TS-0009, 6.4).
abbrev pub seen_caller : lent.Caller → Caller
seen_caller caller = record {
  originator = option_copied caller.originator;
  id = caller.id.now;
  expiry = caller.expiry;
  type = caller.ty;
}
