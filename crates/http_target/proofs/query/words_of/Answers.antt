use Rattle.std.proofs.Common.{[], ◌∷◌, ◌++◌, ap, ◌∙◌}
use Rattle.http_target.proofs.WordLemmas.{word_on, word_last}
use Rattle.http_target.proofs.query.words_of.Goals as goal

pub loop-next-preserved : goal.loop-next-preserved
loop-next-preserved c =
    word_on c.loop-next.rest.now c.in-Some.next.now c.loop-next.words.items c.push.new.self.items c.args.text.now c.loop-next.invariant c.in-Some.ensures
    (c.in_ok-push.ensures.items ∙ ap (λ w. c.loop-next.words.items ++ w ∷ []) (c.in_ok-from_slice.ensures ∙ c.before-in-Some.ensures))

pub returns : goal.returns
returns c =
    word_last c.loop-next.rest.now c.loop-next.words.items c.push-2.new.self.items c.args.text.now c.loop-next.invariant c.in_default.ensures
    (c.in_ok-push-2.ensures.items ∙ ap (λ w. c.loop-next.words.items ++ w ∷ []) c.in_ok-from_slice-2.ensures)
