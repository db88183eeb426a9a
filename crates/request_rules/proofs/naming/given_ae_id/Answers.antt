use Rattle.std.proofs.Common.{◌++◌, ap, ◌∙◌}
use Rattle.request_rules.specs.Creation.{ae_stem}
use Rattle.request_rules.proofs.NamingLemmas.{stem_before}
use Rattle.request_rules.proofs.naming.given_ae_id.Goals as goal

pub returns-clause-utf8 : goal.returns-clause-utf8
returns-clause-utf8 c =
    stem_before c.args.originator.now c.args.id.now c.of.result c.requires
    (c.of.ensures ∙ c.in_ok-extend_from_slice.ensures.items ∙ ap (λ t. t ++ c.entries.result.now) (c.in_ok-bytes.ensures.items ∙ c.ae_stem.ensures) ∙ ap (λ t. ae_stem c.args.originator.now ++ t) c.entries.ensures)
