use Rattle.std.proofs.Common.{ap, ◌∙◌}
use Rattle.form_urlencoded.specs.Form.{append_pair}
use Rattle.http_client_binding.proofs.QueryLemmas.{pair_more, pairs_end}
use Rattle.http_client_binding.proofs.query.append_labels.Goals as goal

pub loop-label-preserved : goal.loop-label-preserved
loop-label-preserved c =
    let add = append_pair c.loop-label.out.items c.args.key.now in
    pair_more (λ label. (c.args.key.now, label)) c.args.labels.now c.loop-label.label-index c.label-item.result c.args.out.now.items
    c.loop-label.out.items c.append_pair.new.out.items c.loop-label-test.true c.loop-label.invariant
    (c.in_ok-append_pair.ensures ∙ ap add c.entries.ensures ∙ ap add c.label-item.is)

pub returns : goal.returns
returns c =
    pairs_end (λ label. (c.args.key.now, label)) c.args.labels.now c.loop-label.label-index c.args.out.now.items c.loop-label.out.items
    c.loop-label-test.false c.loop-label.invariant
