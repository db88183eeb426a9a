use Rattle.std.proofs.Common.{◌≡◌, map, take}
use Rattle.std.specs.Fmt.{decimal}
use Rattle.form_urlencoded.specs.Form.{extend_pairs}
use Rattle.http_client_binding.proofs.query.append_types.Given as goal

-- the pairs of the numbers so far
abbrev pub invariant-loop-number : goal.invariant-loop-number
invariant-loop-number l =
    l.out.items ≡ extend_pairs l.fn.out.items (map (λ n. (l.key, decimal n)) (take l.number-index l.types))
