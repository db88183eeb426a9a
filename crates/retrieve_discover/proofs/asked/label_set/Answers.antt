use Rattle.std.proofs.Common.{◌≡◌, ◌+◌, ◌<◌, ◌∷◌, ◌||◌, length, drop, sym, ap, ◌∙◌, arith}
use Rattle.retrieve_discover.specs.Asked.{has_text, is_one_of}
use Rattle.retrieve_discover.proofs.AskedLemmas.{dropped, one_label_more}
use Rattle.retrieve_discover.proofs.asked.label_set.Goals as goal

pub loop-label-preserved : goal.loop-label-preserved
loop-label-preserved c =
    let labels = c.args.labels.now in
    let k = c.loop-label.label-index in
    let label = c.label-item.result in
    let below : k < length labels = omega arith in
    let split : drop k labels ≡ label ∷ drop (k + 1) labels = dropped labels k label below c.label-item.is in
    one_label_more c.in_ok-from_slice.field-0 c.loop-label.set c.insert.new.self label (drop (k + 1) labels) labels (c.in_ok-from_slice.ensures.items ∙ c.entries.ensures) c.in_ok-insert.ensures.updates
    (λ text. ap (λ left. has_text c.loop-label.set text || is_one_of left text) (sym split) ∙ c.loop-label.invariant text)
