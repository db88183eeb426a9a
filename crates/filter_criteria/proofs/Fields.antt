-- What holds of what a filter has of each condition.
use Rattle.std.proofs.Common.{List, [], ◌∷◌}
use Rattle.std.specs.List.{AllByRecursion}
use Rattle.filter_criteria.specs.Conditions.{ValueOf, sort_of_condition, asked_of, all_conditions, OfEachCondition}
use Rattle.filter_criteria.specs.declared.condition.Condition.{Condition}
use Rattle.filter_criteria.specs.declared.condition.Condition.TheVariants.{CreatedAfter, CreatedBefore, ExpireAfter, ExpireBefore, Usage, OneLabel, Limit, ModifiedSince, StateTagBigger, StateTagSmaller, SizeAbove, SizeBelow, OneType, UnmodifiedSince}
use Rattle.filter_criteria.specs.declared.condition.Sort.{Sort}
use Rattle.filter_criteria.specs.declared.filter.FilterParts.{FilterParts}

-- it holds of what it has of this one
pub of_condition : (Holds : (sort : Sort) → ValueOf sort → Type 0) (f : FilterParts) → OfEachCondition Holds f → (condition : Condition) → Holds (sort_of_condition condition) (asked_of condition f)
of_condition Holds f h CreatedAfter = h.0
of_condition Holds f h CreatedBefore = h.1.0
of_condition Holds f h ExpireAfter = h.1.1.0
of_condition Holds f h ExpireBefore = h.1.1.1.0
of_condition Holds f h Usage = h.1.1.1.1.0
of_condition Holds f h OneLabel = h.1.1.1.1.1.0
of_condition Holds f h Limit = h.1.1.1.1.1.1.0
of_condition Holds f h ModifiedSince = h.1.1.1.1.1.1.1.0
of_condition Holds f h StateTagBigger = h.1.1.1.1.1.1.1.1.0
of_condition Holds f h StateTagSmaller = h.1.1.1.1.1.1.1.1.1.0
of_condition Holds f h SizeAbove = h.1.1.1.1.1.1.1.1.1.1.0
of_condition Holds f h SizeBelow = h.1.1.1.1.1.1.1.1.1.1.1.0
of_condition Holds f h OneType = h.1.1.1.1.1.1.1.1.1.1.1.1.0
of_condition Holds f h UnmodifiedSince = h.1.1.1.1.1.1.1.1.1.1.1.1.1.0

all_weaker : {X : Type 0} (P Q : X → Type 0) → ((x : X) → P x → Q x) → (xs : List X) → AllByRecursion P xs → AllByRecursion Q xs
all_weaker P Q weaker [] h = tt
all_weaker P Q weaker (x ∷ xs) h = (weaker x h.0, all_weaker P Q weaker xs h.1)

-- so does what follows from it at each sort
pub each_condition : (Holds Follows : (sort : Sort) → ValueOf sort → Type 0) → ((sort : Sort) (value : ValueOf sort) → Holds sort value → Follows sort value) → (f : FilterParts) → OfEachCondition Holds f → OfEachCondition Follows f
each_condition Holds Follows weaker f h =
    all_weaker (λ (condition : Condition). Holds (sort_of_condition condition) (asked_of condition f)) (λ (condition : Condition). Follows (sort_of_condition condition) (asked_of condition f))
    (λ condition. weaker (sort_of_condition condition) (asked_of condition f)) all_conditions h
