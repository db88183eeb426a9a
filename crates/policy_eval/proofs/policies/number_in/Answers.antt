use Rattle.std.specs.Prelude.{codes}
use Rattle.std.proofs.Common.{◌≡◌, ◌++◌, sym, ap, ◌∙◌}
use Rattle.std.proofs.lemmas.Bool.Decides.{Decides-eqb}
use Rattle.std.proofs.lemmas.Slice.Eq.{strip_prefix_is}
use Rattle.policy_eval.specs.Rules.{policy_number}
use Rattle.policy_eval.proofs.PolicyLemmas.{number_behind, number_apart}
use Rattle.policy_eval.proofs.policies.number_in.Goals as goal

pub returns-in_err-strip_prefix : goal.returns-in_err-strip_prefix
returns-in_err-strip_prefix c =
    let id = c.args.id.now in
    let apart = strip_prefix_is Decides-eqb id (codes "acp") c.strip_prefix.result (rw c.as_slice.ensures at c.strip_prefix.ensures.cases) in
    rw c.from_residual.ensures (sym (number_apart id (rw c.in_err-strip_prefix.was at apart)))

pub returns : goal.returns
returns c =
    let id = c.args.id.now in
    let found = strip_prefix_is Decides-eqb id (codes "acp") c.strip_prefix.result (rw c.as_slice.ensures at c.strip_prefix.ensures.cases) in
    let here : id ≡ codes "acp" ++ c.in_ok-strip_prefix.field-0.now = rw c.in_ok-strip_prefix.was at found in
    c.read_digits.ensures.value ∙ sym (number_behind c.in_ok-strip_prefix.field-0.now) ∙ ap policy_number (sym here)
