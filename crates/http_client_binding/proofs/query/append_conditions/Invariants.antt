use Rattle.std.proofs.Common.{◌≡◌, take}
use Rattle.std.specs.List.{flat_map}
use Rattle.form_urlencoded.specs.Form.{extend_pairs}
use Rattle.http_client_binding.specs.QueryWriting.{condition_pairs, written_order}
use Rattle.http_client_binding.proofs.query.append_conditions.Given as goal

-- the pairs of the conditions so far
abbrev pub invariant-loop-condition : goal.invariant-loop-condition
invariant-loop-condition l =
    l.out.items ≡ extend_pairs l.fn.out.items (flat_map (condition_pairs l.filter) (take l.condition-index written_order))
