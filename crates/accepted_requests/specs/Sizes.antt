-- How many bytes of results are kept (a limit of the profile).
use Rattle.std.specs.Prelude.{ℕ, List, sum_by}
use Rattle.std.specs.Option.{option_map_or}
use Rattle.m2m_value.specs.Spelling.{capped, size_of}
use Rattle.primitive_json.specs.declared.reply.ReplyParts.{ReplyParts}
use Rattle.accepted_requests.specs.Entries.{LaterEntryData}

-- the bytes that count for a reply: those of its content
abbrev pub content_size : ReplyParts → ℕ
content_size reply = option_map_or (λ d. capped (size_of d)) reply.pc 0

-- those of the result of an accepted request, once it was run
abbrev pub result_size : LaterEntryData → ℕ
result_size e = option_map_or content_size e.reply 0

-- those of the results that are kept of some accepted requests
abbrev pub results_size : List LaterEntryData → ℕ
results_size entries = sum_by result_size entries

-- where more are kept than these, no more is run: 64 MiB
abbrev pub most_kept : ℕ
most_kept = 67_108_864
