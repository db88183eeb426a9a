use Rattle.std.proofs.Common.{◌≡◌, map, IfOk, sym, subst}
use Rattle.m2m_value.specs.Data.{text}
use Rattle.filter_criteria.specs.Values.{count_data}
use Rattle.filter_criteria.specs.Writing.{condition_value, filled_list}
use Rattle.filter_criteria.proofs.writing.condition_value.Goals as goal

pub returns-in-CreatedAfter : goal.returns-in-CreatedAfter
returns-in-CreatedAfter c = subst (λ k. IfOk c.moment_there.result (λ v. v ≡ condition_value c.args.filter.now k)) (sym c.in-CreatedAfter.is) c.moment_there.ensures

pub returns-in-CreatedBefore : goal.returns-in-CreatedBefore
returns-in-CreatedBefore c = subst (λ k. IfOk c.moment_there-in-CreatedBefore.result (λ v. v ≡ condition_value c.args.filter.now k)) (sym c.in-CreatedBefore.is) c.moment_there-in-CreatedBefore.ensures

pub returns-in-ExpireAfter : goal.returns-in-ExpireAfter
returns-in-ExpireAfter c = subst (λ k. IfOk c.moment_there-in-ExpireAfter.result (λ v. v ≡ condition_value c.args.filter.now k)) (sym c.in-ExpireAfter.is) c.moment_there-in-ExpireAfter.ensures

pub returns-in-ExpireBefore : goal.returns-in-ExpireBefore
returns-in-ExpireBefore c = subst (λ k. IfOk c.moment_there-in-ExpireBefore.result (λ v. v ≡ condition_value c.args.filter.now k)) (sym c.in-ExpireBefore.is) c.moment_there-in-ExpireBefore.ensures

pub returns-in-Usage : goal.returns-in-Usage
returns-in-Usage c = subst (λ k. c.usage_there.result ≡ condition_value c.args.filter.now k) (sym c.in-Usage.is) c.usage_there.ensures

pub returns-in-OneLabel : goal.returns-in-OneLabel
returns-in-OneLabel c =
    subst (λ k. IfOk c.label_list.result (λ v. v ≡ condition_value c.args.filter.now k)) (sym c.in-OneLabel.is)
    (subst (λ labels. IfOk c.label_list.result (λ v. v ≡ filled_list (map text labels))) c.entries.ensures c.label_list.ensures)

pub returns-in-Limit : goal.returns-in-Limit
returns-in-Limit c = subst (λ k. c.count_there.result ≡ condition_value c.args.filter.now k) (sym c.in-Limit.is) c.count_there.ensures

pub returns-in-ModifiedSince : goal.returns-in-ModifiedSince
returns-in-ModifiedSince c = subst (λ k. IfOk c.moment_there-in-ModifiedSince.result (λ v. v ≡ condition_value c.args.filter.now k)) (sym c.in-ModifiedSince.is) c.moment_there-in-ModifiedSince.ensures

pub returns-in-StateTagBigger : goal.returns-in-StateTagBigger
returns-in-StateTagBigger c = subst (λ k. c.count_there-in-StateTagBigger.result ≡ condition_value c.args.filter.now k) (sym c.in-StateTagBigger.is) c.count_there-in-StateTagBigger.ensures

pub returns-in-StateTagSmaller : goal.returns-in-StateTagSmaller
returns-in-StateTagSmaller c = subst (λ k. c.count_there-in-StateTagSmaller.result ≡ condition_value c.args.filter.now k) (sym c.in-StateTagSmaller.is) c.count_there-in-StateTagSmaller.ensures

pub returns-in-SizeAbove : goal.returns-in-SizeAbove
returns-in-SizeAbove c = subst (λ k. c.count_there-in-SizeAbove.result ≡ condition_value c.args.filter.now k) (sym c.in-SizeAbove.is) c.count_there-in-SizeAbove.ensures

pub returns-in-SizeBelow : goal.returns-in-SizeBelow
returns-in-SizeBelow c = subst (λ k. c.count_there-in-SizeBelow.result ≡ condition_value c.args.filter.now k) (sym c.in-SizeBelow.is) c.count_there-in-SizeBelow.ensures

pub returns-in-OneType : goal.returns-in-OneType
returns-in-OneType c =
    subst (λ k. IfOk c.type_list.result (λ v. v ≡ condition_value c.args.filter.now k)) (sym c.in-OneType.is)
    (subst (λ types. IfOk c.type_list.result (λ v. v ≡ filled_list (map count_data types))) c.entries-in-OneType.ensures c.type_list.ensures)

pub returns-in-UnmodifiedSince : goal.returns-in-UnmodifiedSince
returns-in-UnmodifiedSince c = subst (λ k. IfOk c.moment_there-in-UnmodifiedSince.result (λ v. v ≡ condition_value c.args.filter.now k)) (sym c.in-UnmodifiedSince.is) c.moment_there-in-UnmodifiedSince.ensures
