-- That a request is of its kinds, part by part.
use Rattle.std.proofs.Common.{◌≡◌, ℕ, ℤ, Bool, true, false, not, ◌&&◌, ◌||◌, Option, Some, None, is_none, is_some, IfSome, IsTrue, refl, sym, ap, ◌∙◌}
use Rattle.std.specs.Option.{option_map_or}
use Rattle.std.proofs.lemmas.Bool.{and_from, and_parts, or_left, or_right}
use Rattle.m2m_names.specs.Name.{is_filled, is_originator}
use Rattle.m2m_names.specs.Types.{is_type_number}
use Rattle.m2m_names.specs.declared.operations.Op.{Op}
use Rattle.m2m_value.specs.Data.{Data}
use Rattle.m2m_value.specs.View.{as_object}
use Rattle.filter_criteria.specs.Laws.{IsValueOfKind, IsFilterOfKinds, are_fit_conditions, are_labels, are_type_numbers}
use Rattle.filter_criteria.proofs.Fields.{of_condition}
use Rattle.filter_criteria.specs.declared.condition.Condition.TheVariants.{OneLabel, OneType}
use Rattle.filter_criteria.specs.declared.filter.FilterParts.{FilterParts}
use Rattle.primitive_json.specs.Bounds.{is_request_id}
use Rattle.primitive_json.specs.Form.{has_fit_address_form, has_fit_content, has_fit_filter, has_fit_result, has_fit_type, has_form, has_no_more, is_only_read}
use Rattle.primitive_json.specs.Kinds.{address_forms, is_among, result_contents, target_limit}
use Rattle.primitive_json.specs.Laws.{IsOfKinds, IsWhenOfKind}
use Rattle.primitive_json.specs.Members.{creates, has_content, has_result, retrieves}
use Rattle.primitive_json.specs.declared.request.RequestParts.{RequestParts}

-- each parameter by itself
pub record KindByKind (r : RequestParts) : Type 0 where
  pub to : IsTrue (is_filled target_limit r.to)
  pub fr : IfSome r.fr (λ s. IsTrue (is_originator s))
  pub rqi : IsTrue (is_request_id r.rqi)
  pub ty : IfSome r.ty (λ n. IsTrue (is_type_number n))
  pub ty_there : is_some r.ty ≡ creates r.op
  pub pc : IfSome r.pc (λ d. IsTrue (is_some (as_object d)))
  pub pc_there : is_some r.pc ≡ has_content r.op
  pub rqet : IfSome r.rqet IsWhenOfKind
  pub rcn : IfSome r.rcn (λ z. IsTrue (is_among (result_contents r.op) z))
  pub rcn_read : is_only_read (has_result r.op) r.rcn ≡ true
  pub fc : IfSome r.fc (λ f. IsTrue (retrieves r.op) × IsFilterOfKinds f)
  pub drt : IfSome r.drt (λ z. IsTrue (is_among address_forms z))

-- ---- joined

-- what is there where it is needed, passes where it is there
needed : {X : Type 0} (p : X → Bool) (x : Option X) (reads : Bool) → is_some x ≡ reads → IfSome x (λ v. IsTrue (p v)) → (not reads || option_map_or p x false) ≡ true
needed p None reads there of = or_left (not reads) false (ap not (sym there))
needed p (Some v) reads there of = or_right (not reads) (p v) of

-- and what may be there
given : {X : Type 0} (p : X → Bool) (x : Option X) → IfSome x (λ v. IsTrue (p v)) → option_map_or p x true ≡ true
given p None of = refl
given p (Some v) of = of

filtered : (op : Op) (fc : Option FilterParts) → IfSome fc (λ f. IsTrue (retrieves op) × IsFilterOfKinds f) → has_fit_filter op fc ≡ true
filtered op None of = refl
filtered op (Some f) of = and_from (retrieves op) (are_fit_conditions f) of.0 (and_from (are_labels f.lbl) (are_type_numbers f.ty) (of_condition IsValueOfKind f of.1 OneLabel) (of_condition IsValueOfKind f of.1 OneType))

conditions : (op : Op) (fc : Option FilterParts) → IfSome fc (λ f. IsTrue (retrieves op) × IsFilterOfKinds f) → IfSome fc IsFilterOfKinds
conditions op None of = tt
conditions op (Some f) of = of.1

only_there : {X : Type 0} (x : Option X) (reads : Bool) → is_some x ≡ reads → is_only_read reads x ≡ true
only_there None reads there = or_right reads true refl
only_there (Some v) reads there = or_left reads false (sym there)

pub joined_kinds : (r : RequestParts) → KindByKind r → IsOfKinds r
joined_kinds r is = record {
  form =
      let result : has_fit_result r.op r.rcn ≡ true = or_right (not (has_result r.op)) (option_map_or (is_among (result_contents r.op)) r.rcn true) (given (is_among (result_contents r.op)) r.rcn is.rcn) in
      and_from _ (has_fit_address_form r.drt)
      (and_from _ (has_fit_filter r.op r.fc)
      (and_from _ (has_fit_result r.op r.rcn)
      (and_from _ (has_fit_content r.op r.pc)
      (and_from _ (has_fit_type r.op r.ty) is.rqi (needed is_type_number r.ty (creates r.op) is.ty_there is.ty))
      (needed (λ d. is_some (as_object d)) r.pc (has_content r.op) is.pc_there is.pc))
      result)
      (filtered r.op r.fc is.fc))
      (given (is_among address_forms) r.drt is.drt);
  no_more =
      and_from _ (is_only_read (has_result r.op) r.rcn)
      (and_from (is_only_read (creates r.op) r.ty) (is_only_read (has_content r.op) r.pc)
      (only_there r.ty (creates r.op) is.ty_there) (only_there r.pc (has_content r.op) is.pc_there))
      is.rcn_read;
  to = is.to;
  fr = is.fr;
  rqet = is.rqet;
  fc = conditions r.op r.fc is.fc;
}

-- ---- and taken apart

passes_there : {X : Type 0} (p : X → Bool) (x : Option X) (reads : Bool) → (not reads || option_map_or p x false) ≡ true → is_only_read reads x ≡ true → (is_some x ≡ reads) × IfSome x (λ v. IsTrue (p v))
passes_there p None true fits only = cc
passes_there p None false fits only = (refl, tt)
passes_there p (Some v) true fits only = (refl, fits)
passes_there p (Some v) false fits only = cc

passes_given : {X : Type 0} (p : X → Bool) (x : Option X) → option_map_or p x true ≡ true → IfSome x (λ v. IsTrue (p v))
passes_given p None fits = tt
passes_given p (Some v) fits = fits

passes_read : {X : Type 0} (p : X → Bool) (x : Option X) (reads : Bool) → (not reads || option_map_or p x true) ≡ true → is_only_read reads x ≡ true → IfSome x (λ v. IsTrue (p v))
passes_read p None reads fits only = tt
passes_read p (Some v) true fits only = fits
passes_read p (Some v) false fits only = cc

retrieved : (op : Op) (fc : Option FilterParts) → has_fit_filter op fc ≡ true → IfSome fc IsFilterOfKinds → IfSome fc (λ f. IsTrue (retrieves op) × IsFilterOfKinds f)
retrieved op None fits of = tt
retrieved op (Some f) fits of = ((and_parts (retrieves op) (are_fit_conditions f) fits).0, of)

pub kinds_apart : (r : RequestParts) → IsOfKinds r → KindByKind r
kinds_apart r is =
    let form = and_parts _ (has_fit_address_form r.drt) is.form in
    let filter = and_parts _ (has_fit_filter r.op r.fc) form.0 in
    let result = and_parts _ (has_fit_result r.op r.rcn) filter.0 in
    let content = and_parts _ (has_fit_content r.op r.pc) result.0 in
    let first = and_parts (is_request_id r.rqi) (has_fit_type r.op r.ty) content.0 in
    let more = and_parts _ (is_only_read (has_result r.op) r.rcn) is.no_more in
    let both = and_parts (is_only_read (creates r.op) r.ty) (is_only_read (has_content r.op) r.pc) more.0 in
    let ty = passes_there is_type_number r.ty (creates r.op) first.1 both.0 in
    let pc = passes_there (λ d. is_some (as_object d)) r.pc (has_content r.op) content.1 both.1 in
    record {
      to = is.to;
      fr = is.fr;
      rqi = first.0;
      ty = ty.1;
      ty_there = ty.0;
      pc = pc.1;
      pc_there = pc.0;
      rqet = is.rqet;
      rcn = passes_read (is_among (result_contents r.op)) r.rcn (has_result r.op) result.1 more.1;
      rcn_read = more.1;
      fc = retrieved r.op r.fc filter.1 is.fc;
      drt = passes_given (is_among address_forms) r.drt form.1;
    }
