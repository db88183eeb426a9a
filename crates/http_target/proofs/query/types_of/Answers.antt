use Rattle.std.proofs.Common.{take, [], ◌∷◌, ◌++◌, sym, ap, ◌∙◌}
use Rattle.std.specs.List.{filter_map}
use Rattle.filter_criteria.proofs.Lists.{filter_map-more}
use Rattle.http_target.specs.Queries.{type_spelled}
use Rattle.http_target.proofs.query.types_of.Goals as goal

pub loop-word-preserved : goal.loop-word-preserved
loop-word-preserved c =
    let word = c.word-item.result in
    c.in_ok-push_type_number.ensures
    ∙ ap (λ ns. ns ++ filter_map type_spelled (word ∷ [])) c.loop-word.invariant
    ∙ ap (λ d. filter_map type_spelled (take c.loop-word.word-index c.args.words.now) ++ filter_map type_spelled (d ∷ [])) c.word-item.is
    ∙ sym (filter_map-more type_spelled c.args.words.now c.loop-word.word-index word c.loop-word-test.true)
