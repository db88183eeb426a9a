-- What holds of whatever is told.
use Rattle.std.specs.Prelude.{◌≡◌, ℕ, ◌==◌, nat_lt, Bool, true, ◌||◌, List, [], IsTrue}
use Rattle.std.specs.Char.{is_ascii_graphic}
use Rattle.std.specs.List.{list_all}
use Rattle.m2m_names.specs.StatusCodes.{rsc_row}
use Rattle.m2m_names.specs.declared.codes.Rsc.{Rsc}
use Rattle.primitive_json.specs.declared.fault.PrimFault.{PrimFault}
use Rattle.primitive_json.specs.declared.request.RequestParts.{RequestParts}
use Rattle.resource_model.specs.Home.{HomeData}
use Rattle.http_target.specs.declared.fault.BindFault.{BindFault}
use Rattle.refusal_reasons.specs.Causes.{causes, is_status, row_of}
use Rattle.refusal_reasons.specs.Texts.{reason_of, reason_of_binding, reason_of_member}

-- a status that refuses nothing: it is below 4000 (TS-0004, 6.6.3)
abbrev pub is_no_refusal : Rsc → Bool
is_no_refusal code = nat_lt (rsc_row code).number 4_000

-- Nothing is told of a request that isn't refused.
abbrev pub NothingIsToldOfSuccess : Type 0
NothingIsToldOfSuccess =
    (home : HomeData) (request : RequestParts) (code : Rsc)
    → IsTrue (is_no_refusal code) → reason_of home request code ≡ []

-- Each cause that is told is one of the status.
abbrev pub WhatIsToldHasTheStatus : Type 0
WhatIsToldHasTheStatus =
    (home : HomeData) (request : RequestParts) (code : Rsc)
    → IsTrue (list_all (λ cause. is_status (row_of cause).code code) (causes home request code))

-- a printable ASCII character, or a space
abbrev pub is_printed : ℕ → Bool
is_printed byte = is_ascii_graphic byte || (byte == 32)

-- Whatever is told is text on one line: printable ASCII characters and spaces. So it is UTF-8.
pub record WhatIsToldIsPrinted : Type 0 where
  pub requests : (home : HomeData) (request : RequestParts) (code : Rsc)
      → list_all is_printed (reason_of home request code) ≡ true
  pub messages : (fault : BindFault) → list_all is_printed (reason_of_binding fault) ≡ true
  pub objects : (fault : PrimFault) → list_all is_printed (reason_of_member fault) ≡ true
