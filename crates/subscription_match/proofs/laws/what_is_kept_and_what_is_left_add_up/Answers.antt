use Rattle.std.proofs.Common.{[], arith}
use Rattle.subscription_match.proofs.KeptLemmas.{kept_count}
use Rattle.subscription_match.proofs.laws.what_is_kept_and_what_is_left_add_up.Goals as goal

pub returns : goal.returns
returns c nodes drafts n left there = omega (arith, kept_count nodes n left there drafts [])
