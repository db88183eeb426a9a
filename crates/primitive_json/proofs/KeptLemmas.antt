-- What is taken out of the members of an object, what stays there, and what is made of it.
use Rattle.std.proofs.Common.{◌≡◌, ℕ, List, [], Bool, false, bytes_eq, Option, Some, None, option_map, option_and_then, unwrap_or, OnSome, IfNone, IsSome, IfOk, Ok, refl, sym, ap, ◌∙◌, subst}
use Rattle.std.specs.BTreeMap.{insert_entry}
use Rattle.m2m_names.specs.declared.operations.Op.{Op}
use Rattle.m2m_names.specs.declared.operations.Op.TheVariants.{Create}
use Rattle.m2m_value.specs.Data.{Data, null, Entry}
use Rattle.m2m_value.specs.View.{member_of}
use Rattle.m2m_value.proofs.Lookup.{compared, member_of-put_other}
use Rattle.filter_criteria.specs.Conditions as conditions
use Rattle.filter_criteria.specs.Conditions.{filter_in, labels_of, relabelled}
use Rattle.filter_criteria.specs.Values.{members_in}
use Rattle.primitive_json.specs.Reading.{value_read, operation_in, request_fault, request_made, request_of_members, read_as, plain_in, kept_in, with_kept}
use Rattle.filter_criteria.specs.declared.condition.Condition.TheVariants.{OneLabel}
use Rattle.filter_criteria.specs.declared.filter.FilterParts.{FilterParts}
use Rattle.primitive_json.specs.declared.fault.PrimFault.{PrimFault}
use Rattle.primitive_json.specs.declared.kept.Kept.{Kept}
use Rattle.primitive_json.specs.declared.member.Member.TheVariants.{FilterCriteria}
use Rattle.primitive_json.specs.declared.request.RequestParts.{RequestParts}
use Rattle.primitive_json.proofs.FaultLemmas.{read_if_no_fault}

-- the values at other keys stay
pub taken_other : {X : Type 0} (r : Option X) (key name other : List ℕ) (old new : List Entry) → key ≡ name → OnSome r (new ≡ insert_entry compared old key null) → IfNone r (new ≡ old) → bytes_eq other name ≡ false → member_of other new ≡ member_of other old
taken_other None key name other old new same taken absent apart = ap (member_of other) absent
taken_other (Some x) key name other old new same taken absent apart =
    ap (member_of other) (taken ∙ ap (λ k. insert_entry compared old k null) same) ∙ member_of-put_other name other old null apart

-- a filter is made again of its labels and the rest of it
filter_again : (o : Option Data) → option_map (relabelled (labels_of (option_and_then (λ d. member_of (conditions.name_of_condition OneLabel) (members_in d)) o))) (option_map (relabelled []) (option_map (λ d. filter_in (members_in d)) o)) ≡ option_map (λ d. filter_in (members_in d)) o
filter_again None = refl
filter_again (Some d) = refl

-- and so is a request of the values that it keeps
pub request_again : (op : Op) (es : List Entry) → with_kept (plain_in op es) (kept_in op es) ≡ request_made op es
request_again op es = ap (λ (fc : Option FilterParts). record (request_made op es) { fc = fc }) (filter_again (value_read op FilterCriteria es))

-- the request of members that have no fault
pub request_read : (es : List Entry) (plain : RequestParts) (kept : Kept) (r : RequestParts) → (request_fault (operation_in es) es ≡ None) × (plain ≡ plain_in (unwrap_or (operation_in es) Create) es) → kept ≡ kept_in plain.op es → r ≡ with_kept plain kept → request_of_members es ≡ Ok r
request_read es plain kept r judged is made =
    let op = unwrap_or (operation_in es) Create in
    let same : kept ≡ kept_in op es = is ∙ ap (λ (p : RequestParts). kept_in p.op es) judged.1 in
    let all : with_kept plain kept ≡ request_made op es = ap (λ (p : RequestParts). with_kept p kept) judged.1 ∙ ap (with_kept (plain_in op es)) same ∙ request_again op es in
    read_if_no_fault (request_fault (operation_in es) es) (request_made op es) r judged.0 (sym (made ∙ all))

-- ---- memory is taken for a filter alone

abbrev has_filter : Op → List Entry → Type 0
has_filter op es = IsSome (request_made op es).fc

-- where there are labels of a filter there is a filter
labels_filter : (o : Option Data) → IsSome (option_and_then (λ d. member_of (conditions.name_of_condition OneLabel) (members_in d)) o) → IsSome (option_map (λ d. filter_in (members_in d)) o)
labels_filter None some = some
labels_filter (Some d) some = refl

-- what is told of a request holds of what is read
told : (fault : Option PrimFault) (made : RequestParts) → (fault ≡ None → IsSome made.fc) → IfOk (read_as fault made) (λ (r : RequestParts). IsSome r.fc)
told None made some = some refl
told (Some fault) made some = tt

pub judged_told : (es : List Entry) → (request_fault (operation_in es) es ≡ None → has_filter (unwrap_or (operation_in es) Create) es) → IfOk (request_of_members es) (λ (r : RequestParts). IsSome r.fc)
judged_told es some = told (request_fault (operation_in es) es) (request_made (unwrap_or (operation_in es) Create) es) some

pub labels_told : (es : List Entry) (plain : RequestParts) (kept : Kept) → (request_fault (operation_in es) es ≡ None) × (plain ≡ plain_in (unwrap_or (operation_in es) Create) es) → kept ≡ kept_in plain.op es → IsSome kept.lbl → IfOk (request_of_members es) (λ (r : RequestParts). IsSome r.fc)
labels_told es plain kept judged is some =
    let op = unwrap_or (operation_in es) Create in
    let same : kept ≡ kept_in op es = is ∙ ap (λ (p : RequestParts). kept_in p.op es) judged.1 in
    judged_told es (λ _. labels_filter (value_read op FilterCriteria es) (subst (λ (k : Kept). IsSome k.lbl) same some))
