use Rattle.std.proofs.Common.{rules}
use Rattle.filter_criteria.specs.declared.condition.Condition.TheVariants.{CreatedAfter, CreatedBefore, ExpireAfter, ExpireBefore, Limit, ModifiedSince, SizeAbove, SizeBelow, StateTagBigger, StateTagSmaller, UnmodifiedSince}
use Rattle.http_target.proofs.QueryLemmas.{number_by}
use Rattle.http_target.proofs.query.with_number.Goals as goal

pub returns-in_err-placed-in-CreatedAfter : goal.returns-in_err-placed-in-CreatedAfter
returns-in_err-placed-in-CreatedAfter c =
    number_by c.args.condition CreatedAfter c.args.n c.args.parts c.from_residual.result c.in-CreatedAfter.is (search rules)

pub returns-in_err-placed-in-CreatedBefore : goal.returns-in_err-placed-in-CreatedBefore
returns-in_err-placed-in-CreatedBefore c =
    number_by c.args.condition CreatedBefore c.args.n c.args.parts c.from_residual-in_err-placed-in-CreatedBefore.result c.in-CreatedBefore.is (search rules)

pub returns-in_err-placed-in-ExpireAfter : goal.returns-in_err-placed-in-ExpireAfter
returns-in_err-placed-in-ExpireAfter c =
    number_by c.args.condition ExpireAfter c.args.n c.args.parts c.from_residual-in_err-placed-in-ExpireAfter.result c.in-ExpireAfter.is (search rules)

pub returns-in_err-placed-in-ExpireBefore : goal.returns-in_err-placed-in-ExpireBefore
returns-in_err-placed-in-ExpireBefore c =
    number_by c.args.condition ExpireBefore c.args.n c.args.parts c.from_residual-in_err-placed-in-ExpireBefore.result c.in-ExpireBefore.is (search rules)

pub returns-in_err-placed-in-Limit : goal.returns-in_err-placed-in-Limit
returns-in_err-placed-in-Limit c =
    number_by c.args.condition Limit c.args.n c.args.parts c.from_residual-in_err-placed-in-Limit.result c.in-Limit.is (search rules)

pub returns-in_err-placed-in-ModifiedSince : goal.returns-in_err-placed-in-ModifiedSince
returns-in_err-placed-in-ModifiedSince c =
    number_by c.args.condition ModifiedSince c.args.n c.args.parts c.from_residual-in_err-placed-in-ModifiedSince.result c.in-ModifiedSince.is (search rules)

pub returns-in_err-placed-in-StateTagBigger : goal.returns-in_err-placed-in-StateTagBigger
returns-in_err-placed-in-StateTagBigger c =
    number_by c.args.condition StateTagBigger c.args.n c.args.parts c.from_residual-in_err-placed-in-StateTagBigger.result c.in-StateTagBigger.is (search rules)

pub returns-in_err-placed-in-StateTagSmaller : goal.returns-in_err-placed-in-StateTagSmaller
returns-in_err-placed-in-StateTagSmaller c =
    number_by c.args.condition StateTagSmaller c.args.n c.args.parts c.from_residual-in_err-placed-in-StateTagSmaller.result c.in-StateTagSmaller.is (search rules)

pub returns-in_err-placed-in-SizeAbove : goal.returns-in_err-placed-in-SizeAbove
returns-in_err-placed-in-SizeAbove c =
    number_by c.args.condition SizeAbove c.args.n c.args.parts c.from_residual-in_err-placed-in-SizeAbove.result c.in-SizeAbove.is (search rules)

pub returns-in_err-placed-in-SizeBelow : goal.returns-in_err-placed-in-SizeBelow
returns-in_err-placed-in-SizeBelow c =
    number_by c.args.condition SizeBelow c.args.n c.args.parts c.from_residual-in_err-placed-in-SizeBelow.result c.in-SizeBelow.is (search rules)

pub returns-in_err-placed-in-UnmodifiedSince : goal.returns-in_err-placed-in-UnmodifiedSince
returns-in_err-placed-in-UnmodifiedSince c =
    number_by c.args.condition UnmodifiedSince c.args.n c.args.parts c.from_residual-in_err-placed-in-UnmodifiedSince.result c.in-UnmodifiedSince.is (search rules)

pub returns-in_ok-placed-in-CreatedAfter : goal.returns-in_ok-placed-in-CreatedAfter
returns-in_ok-placed-in-CreatedAfter c =
    number_by c.args.condition CreatedAfter c.args.n c.args.parts _ c.in-CreatedAfter.is (search rules)

pub returns-in_ok-placed-in-CreatedBefore : goal.returns-in_ok-placed-in-CreatedBefore
returns-in_ok-placed-in-CreatedBefore c =
    number_by c.args.condition CreatedBefore c.args.n c.args.parts _ c.in-CreatedBefore.is (search rules)

pub returns-in_ok-placed-in-ExpireAfter : goal.returns-in_ok-placed-in-ExpireAfter
returns-in_ok-placed-in-ExpireAfter c =
    number_by c.args.condition ExpireAfter c.args.n c.args.parts _ c.in-ExpireAfter.is (search rules)

pub returns-in_ok-placed-in-ExpireBefore : goal.returns-in_ok-placed-in-ExpireBefore
returns-in_ok-placed-in-ExpireBefore c =
    number_by c.args.condition ExpireBefore c.args.n c.args.parts _ c.in-ExpireBefore.is (search rules)

pub returns-in_ok-placed-in-Limit : goal.returns-in_ok-placed-in-Limit
returns-in_ok-placed-in-Limit c =
    number_by c.args.condition Limit c.args.n c.args.parts _ c.in-Limit.is (search rules)

pub returns-in_ok-placed-in-ModifiedSince : goal.returns-in_ok-placed-in-ModifiedSince
returns-in_ok-placed-in-ModifiedSince c =
    number_by c.args.condition ModifiedSince c.args.n c.args.parts _ c.in-ModifiedSince.is (search rules)

pub returns-in_ok-placed-in-StateTagBigger : goal.returns-in_ok-placed-in-StateTagBigger
returns-in_ok-placed-in-StateTagBigger c =
    number_by c.args.condition StateTagBigger c.args.n c.args.parts _ c.in-StateTagBigger.is (search rules)

pub returns-in_ok-placed-in-StateTagSmaller : goal.returns-in_ok-placed-in-StateTagSmaller
returns-in_ok-placed-in-StateTagSmaller c =
    number_by c.args.condition StateTagSmaller c.args.n c.args.parts _ c.in-StateTagSmaller.is (search rules)

pub returns-in_ok-placed-in-SizeAbove : goal.returns-in_ok-placed-in-SizeAbove
returns-in_ok-placed-in-SizeAbove c =
    number_by c.args.condition SizeAbove c.args.n c.args.parts _ c.in-SizeAbove.is (search rules)

pub returns-in_ok-placed-in-SizeBelow : goal.returns-in_ok-placed-in-SizeBelow
returns-in_ok-placed-in-SizeBelow c =
    number_by c.args.condition SizeBelow c.args.n c.args.parts _ c.in-SizeBelow.is (search rules)

pub returns-in_ok-placed-in-UnmodifiedSince : goal.returns-in_ok-placed-in-UnmodifiedSince
returns-in_ok-placed-in-UnmodifiedSince c =
    number_by c.args.condition UnmodifiedSince c.args.n c.args.parts _ c.in-UnmodifiedSince.is (search rules)
