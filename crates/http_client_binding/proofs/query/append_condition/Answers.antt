use Rattle.std.proofs.Common.{map, refl, ap}
use Rattle.std.specs.Fmt.{decimal}
use Rattle.filter_criteria.specs.declared.condition.Condition.TheVariants.{CreatedAfter, CreatedBefore, ExpireAfter, ExpireBefore, Usage, OneLabel, Limit, ModifiedSince, StateTagBigger, StateTagSmaller, SizeAbove, SizeBelow, OneType, UnmodifiedSince}
use Rattle.http_client_binding.specs.QueryWriting.{moment_texts, count_texts, whole_texts}
use Rattle.http_client_binding.proofs.QueryLemmas.{condition_more}
use Rattle.http_client_binding.proofs.query.append_condition.Goals as goal

pub returns-in-CreatedAfter : goal.returns-in-CreatedAfter
returns-in-CreatedAfter c =
    condition_more c.append_moment.result c.args.filter.now c.args.condition CreatedAfter c.name-key.result.now (moment_texts c.args.filter.now.cra)
    c.args.out.now.items c.append_moment.new.out.items c.in-CreatedAfter.is c.name-key.ensures refl c.append_moment.ensures

pub returns-in-CreatedBefore : goal.returns-in-CreatedBefore
returns-in-CreatedBefore c =
    condition_more c.append_moment-in-CreatedBefore.result c.args.filter.now c.args.condition CreatedBefore c.name-key.result.now (moment_texts c.args.filter.now.crb)
    c.args.out.now.items c.append_moment-in-CreatedBefore.new.out.items c.in-CreatedBefore.is c.name-key.ensures refl c.append_moment-in-CreatedBefore.ensures

pub returns-in-ExpireAfter : goal.returns-in-ExpireAfter
returns-in-ExpireAfter c =
    condition_more c.append_moment-in-ExpireAfter.result c.args.filter.now c.args.condition ExpireAfter c.name-key.result.now (moment_texts c.args.filter.now.exa)
    c.args.out.now.items c.append_moment-in-ExpireAfter.new.out.items c.in-ExpireAfter.is c.name-key.ensures refl c.append_moment-in-ExpireAfter.ensures

pub returns-in-ExpireBefore : goal.returns-in-ExpireBefore
returns-in-ExpireBefore c =
    condition_more c.append_moment-in-ExpireBefore.result c.args.filter.now c.args.condition ExpireBefore c.name-key.result.now (moment_texts c.args.filter.now.exb)
    c.args.out.now.items c.append_moment-in-ExpireBefore.new.out.items c.in-ExpireBefore.is c.name-key.ensures refl c.append_moment-in-ExpireBefore.ensures

pub returns-in-Usage : goal.returns-in-Usage
returns-in-Usage c =
    condition_more c.append_whole.result c.args.filter.now c.args.condition Usage c.name-key.result.now (whole_texts c.number_of_use.result)
    c.args.out.now.items c.append_whole.new.out.items c.in-Usage.is c.name-key.ensures (ap whole_texts c.number_of_use.ensures) c.append_whole.ensures

pub returns-in-OneLabel : goal.returns-in-OneLabel
returns-in-OneLabel c =
    condition_more c.append_labels.result c.args.filter.now c.args.condition OneLabel c.name-key.result.now c.entries.result.now
    c.args.out.now.items c.append_labels.new.out.items c.in-OneLabel.is c.name-key.ensures c.entries.ensures c.append_labels.ensures

pub returns-in-Limit : goal.returns-in-Limit
returns-in-Limit c =
    condition_more c.append_count.result c.args.filter.now c.args.condition Limit c.name-key.result.now (count_texts c.args.filter.now.lim)
    c.args.out.now.items c.append_count.new.out.items c.in-Limit.is c.name-key.ensures refl c.append_count.ensures

pub returns-in-ModifiedSince : goal.returns-in-ModifiedSince
returns-in-ModifiedSince c =
    condition_more c.append_moment-in-ModifiedSince.result c.args.filter.now c.args.condition ModifiedSince c.name-key.result.now (moment_texts c.args.filter.now.ms)
    c.args.out.now.items c.append_moment-in-ModifiedSince.new.out.items c.in-ModifiedSince.is c.name-key.ensures refl c.append_moment-in-ModifiedSince.ensures

pub returns-in-StateTagBigger : goal.returns-in-StateTagBigger
returns-in-StateTagBigger c =
    condition_more c.append_count-in-StateTagBigger.result c.args.filter.now c.args.condition StateTagBigger c.name-key.result.now (count_texts c.args.filter.now.stb)
    c.args.out.now.items c.append_count-in-StateTagBigger.new.out.items c.in-StateTagBigger.is c.name-key.ensures refl c.append_count-in-StateTagBigger.ensures

pub returns-in-StateTagSmaller : goal.returns-in-StateTagSmaller
returns-in-StateTagSmaller c =
    condition_more c.append_count-in-StateTagSmaller.result c.args.filter.now c.args.condition StateTagSmaller c.name-key.result.now (count_texts c.args.filter.now.sts)
    c.args.out.now.items c.append_count-in-StateTagSmaller.new.out.items c.in-StateTagSmaller.is c.name-key.ensures refl c.append_count-in-StateTagSmaller.ensures

pub returns-in-SizeAbove : goal.returns-in-SizeAbove
returns-in-SizeAbove c =
    condition_more c.append_count-in-SizeAbove.result c.args.filter.now c.args.condition SizeAbove c.name-key.result.now (count_texts c.args.filter.now.sza)
    c.args.out.now.items c.append_count-in-SizeAbove.new.out.items c.in-SizeAbove.is c.name-key.ensures refl c.append_count-in-SizeAbove.ensures

pub returns-in-SizeBelow : goal.returns-in-SizeBelow
returns-in-SizeBelow c =
    condition_more c.append_count-in-SizeBelow.result c.args.filter.now c.args.condition SizeBelow c.name-key.result.now (count_texts c.args.filter.now.szb)
    c.args.out.now.items c.append_count-in-SizeBelow.new.out.items c.in-SizeBelow.is c.name-key.ensures refl c.append_count-in-SizeBelow.ensures

pub returns-in-OneType : goal.returns-in-OneType
returns-in-OneType c =
    condition_more c.append_types.result c.args.filter.now c.args.condition OneType c.name-key.result.now (map decimal c.entries-in-OneType.result.now)
    c.args.out.now.items c.append_types.new.out.items c.in-OneType.is c.name-key.ensures (ap (map decimal) c.entries-in-OneType.ensures) c.append_types.ensures

pub returns-in-UnmodifiedSince : goal.returns-in-UnmodifiedSince
returns-in-UnmodifiedSince c =
    condition_more c.append_moment-in-UnmodifiedSince.result c.args.filter.now c.args.condition UnmodifiedSince c.name-key.result.now (moment_texts c.args.filter.now.us)
    c.args.out.now.items c.append_moment-in-UnmodifiedSince.new.out.items c.in-UnmodifiedSince.is c.name-key.ensures refl c.append_moment-in-UnmodifiedSince.ensures
