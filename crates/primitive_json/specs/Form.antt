-- The form of a request, whoever made it: each parameter that its operation reads is of its kind,
-- and those are there that the operation needs (TS-0001, 8.1.2; TS-0004, 7.3.2.1 and 8.2.2). Its
-- address, its originator and its moments are judged beside this.
use Rattle.std.specs.Prelude.{ℕ, ℤ, Bool, true, false, not, ◌&&◌, ◌||◌, Option, is_none, is_some}
use Rattle.std.specs.Option.{option_map_or}
use Rattle.m2m_names.specs.Types.{is_type_number}
use Rattle.m2m_names.specs.declared.operations.Op.{Op}
use Rattle.m2m_value.specs.Data.{Data}
use Rattle.m2m_value.specs.View.{as_object}
use Rattle.filter_criteria.specs.Laws.{are_fit_conditions}
use Rattle.filter_criteria.specs.declared.filter.FilterParts.{FilterParts}
use Rattle.primitive_json.specs.Bounds.{is_request_id}
use Rattle.primitive_json.specs.Kinds.{address_forms, is_among, result_contents}
use Rattle.primitive_json.specs.Members.{creates, has_content, has_result, retrieves}
use Rattle.primitive_json.specs.declared.request.RequestParts.{RequestParts}

-- ---- what is read is of its kind

-- the type of what is created, which a Create needs, and which nothing else reads
abbrev pub has_fit_type : Op → Option ℕ → Bool
has_fit_type op ty = not (creates op) || option_map_or is_type_number ty false

-- the content, an object, where the operation has one
abbrev pub has_fit_content : Op → Option Data → Bool
has_fit_content op pc = not (has_content op) || option_map_or (λ d. is_some (as_object d)) pc false

-- the result content, one of those of the operation, where it reads one
abbrev pub has_fit_result : Op → Option ℤ → Bool
has_fit_result op rcn =
    not (has_result op) || option_map_or (is_among (result_contents op)) rcn true

-- the filter, on a Retrieve alone, with labels and types of their kinds; its other conditions are
-- so by their types
abbrev pub has_fit_filter : Op → Option FilterParts → Bool
has_fit_filter op fc = option_map_or (λ f. retrieves op && are_fit_conditions f) fc true

-- the desired form of addresses
abbrev pub has_fit_address_form : Option ℤ → Bool
has_fit_address_form drt = option_map_or (is_among address_forms) drt true

-- The parameters of a request are of their kinds, and there where its operation needs them
-- (TS-0004, 8.2.2).
abbrev pub has_form : RequestParts → Bool
has_form request =
    is_request_id request.rqi
    && has_fit_type request.op request.ty && has_fit_content request.op request.pc
    && has_fit_result request.op request.rcn && has_fit_filter request.op request.fc
    && has_fit_address_form request.drt

-- ---- what isn't read isn't there

-- The parameter is there only where it is read.
abbrev pub is_only_read : {A : Type 0} → Bool → Option A → Bool
is_only_read reads value = reads || is_none value

-- The request has no parameter that isn't read on its operation.
abbrev pub has_no_more : RequestParts → Bool
has_no_more request =
    is_only_read (creates request.op) request.ty && is_only_read (has_content request.op) request.pc
    && is_only_read (has_result request.op) request.rcn
