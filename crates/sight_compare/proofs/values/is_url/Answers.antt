use Rattle.std.proofs.Common.{◌∙◌}
use Rattle.sight_compare.proofs.SeenLemmas.{url_told}
use Rattle.sight_compare.proofs.values.is_url.Goals as goal

pub returns : goal.returns
returns c =
    c.is_some.ensures
    ∙ url_told c.args.address.now (λ parts. parts.host_end) c.read_url.result c.read_url.ensures.found c.read_url.ensures.none
