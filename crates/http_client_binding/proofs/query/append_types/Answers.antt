use Rattle.std.specs.Fmt.{decimal}
use Rattle.http_client_binding.proofs.QueryLemmas.{pair_more, numbers_end}
use Rattle.http_client_binding.proofs.query.append_types.Goals as goal

pub loop-number-preserved : goal.loop-number-preserved
loop-number-preserved c =
    pair_more (λ n. (c.args.key.now, decimal n)) c.args.types.now c.loop-number.number-index 0 c.args.out.now.items
    c.loop-number.out.items c.append_number.new.out.items c.loop-number-test.true c.loop-number.invariant c.in_ok-append_number.ensures

pub returns : goal.returns
returns c =
    numbers_end c.args.key.now c.args.types.now c.loop-number.number-index c.args.out.now.items c.loop-number.out.items
    c.loop-number-test.false c.loop-number.invariant
