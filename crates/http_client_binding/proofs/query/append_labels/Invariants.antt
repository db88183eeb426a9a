use Rattle.std.proofs.Common.{◌≡◌, map, take}
use Rattle.form_urlencoded.specs.Form.{extend_pairs}
use Rattle.http_client_binding.proofs.query.append_labels.Given as goal

-- the pairs of the labels so far
abbrev pub invariant-loop-label : goal.invariant-loop-label
invariant-loop-label l =
    l.out.items ≡ extend_pairs l.fn.out.items (map (λ label. (l.key, label)) (take l.label-index l.labels))
