use Rattle.std.proofs.Common.{◌≡◌, ◌++◌}
use Rattle.form_urlencoded.specs.Form.{byte_serialize}
use Rattle.form_urlencoded.specs.Serialize.{serialized_text}
use Rattle.http_client_binding.proofs.query.append_escaped.Given as goal

-- what was written, and what is left to write
abbrev pub invariant-loop-piece : goal.invariant-loop-piece
invariant-loop-piece l =
    l.out.items ++ serialized_text l.piece-iterator ≡ l.fn.out.items ++ byte_serialize l.fn.text
