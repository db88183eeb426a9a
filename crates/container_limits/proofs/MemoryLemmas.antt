-- Memory is taken only where something goes.
use Rattle.std.proofs.Common.{◌≡◌, ◌≢◌, ℕ, ◌+◌, List, [], ◌++◌, drop, Bool, true, not, Option, option_to_list, sym, ap, ◌∙◌}
use Rattle.std.specs.List.{filter, slice_get}
use Rattle.resource_model.specs.Resource.{ResourceData}
use Rattle.container_limits.specs.Limits.{do_fit, evicted, goes, lasts, numbers_of}
use Rattle.container_limits.specs.declared.limits.Limits.{Limits}
use Rattle.container_limits.proofs.LimitLemmas.{evicted_turn}
use Rattle.tree_model.proofs.OrderLemmas.{ascend}
use Rattle.tree_model.proofs.StepLemmas.{some_part}

-- where the instance at a place goes, something goes
pub going_some : (l : Limits) (new : Option ℕ) (moment : ℕ) (rs : List ResourceData) (k : ℕ) (now all : List ℕ) (o : Option ResourceData) (fits : Bool) → ascend rs ≡ true → o ≡ slice_get rs k → fits ≡ do_fit l new (filter (lasts l.mia moment) (drop k rs)) → now ++ evicted l new moment (drop k rs) ≡ all → numbers_of (filter (goes (not fits) l.mia moment) (option_to_list o)) ≢ [] → all ≢ []
going_some l new moment rs k now all o fits order at_k is rest some =
    some_part now (numbers_of (filter (goes (not fits) l.mia moment) (option_to_list o))) (evicted l new moment (drop (k + 1) rs)) all
    (ap (λ (ns : List ℕ). now ++ ns) (sym (evicted_turn l new moment rs k o fits order at_k is)) ∙ rest) some
