use Rattle.std.proofs.Common.{◌≡◌, nat_cmp, ◌∙◌, arith}
use Rattle.m2m_names.specs.Attributes.{attr_place}
use Rattle.m2m_names.proofs.PlaceLemmas.{ordered_by_place}
use Rattle.m2m_names.proofs.attributes.Attr.order.Goals as goal

pub returns : goal.returns
returns c =
    let compared : c.cmp.result ≡ nat_cmp (attr_place c.args.self) (attr_place c.args.other) = grind arith in
    compared ∙ ordered_by_place c.args.self c.args.other
