-- Each condition stands in the order of writing, and once.
use Rattle.std.proofs.Common.{refl}
use Rattle.filter_criteria.specs.declared.condition.Condition.TheVariants.{CreatedAfter, CreatedBefore, ExpireAfter, ExpireBefore, Usage, OneLabel, Limit, ModifiedSince, StateTagBigger, StateTagSmaller, SizeAbove, SizeBelow, OneType, UnmodifiedSince}
use Rattle.http_client_binding.specs.Laws.{EachConditionIsWritten}

pub each_written : EachConditionIsWritten
each_written CreatedAfter = refl
each_written CreatedBefore = refl
each_written ExpireAfter = refl
each_written ExpireBefore = refl
each_written Usage = refl
each_written OneLabel = refl
each_written Limit = refl
each_written ModifiedSince = refl
each_written StateTagBigger = refl
each_written StateTagSmaller = refl
each_written SizeAbove = refl
each_written SizeBelow = refl
each_written OneType = refl
each_written UnmodifiedSince = refl
