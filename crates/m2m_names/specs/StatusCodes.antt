-- Response status codes (TS-0004, 6.6.3), and the HTTP status that goes with each (TS-0009, 6.3.2;
-- that of a number without a name is the profile's own).
use Rattle.std.specs.Prelude.{ℕ, Bool, true, false, List, [], ◌∷◌, Option, Some, None, find, ◌==◌}
use Rattle.std.specs.Prelude.{if◌then◌else◌, IsTrue, refl}
use Rattle.std.specs.Int.{is_in_range}
use Rattle.std.specs.Option.{option_or}
use Rattle.m2m_names.specs.StatusNumbers.{is_other, RscRow, rsc_entry, accepted_row, fine_row}
use Rattle.m2m_names.specs.StatusNumbers.{created_row}
use Rattle.m2m_names.specs.StatusNumbers.{deleted_row, updated_row, bad_request_row, not_found_row}
use Rattle.m2m_names.specs.StatusNumbers.{not_allowed_row, request_timeout_row, no_privilege_row}
use Rattle.m2m_names.specs.StatusNumbers.{conflict_row, bad_child_row, internal_row}
use Rattle.m2m_names.specs.StatusNumbers.{not_implemented_row, not_reachable_row}
use Rattle.m2m_names.specs.StatusNumbers.{not_subscribable_row, non_blocking_row}
use Rattle.m2m_names.specs.StatusNumbers.{not_acceptable_row, too_many_members_row}
use Rattle.m2m_names.specs.StatusNumbers.{wrong_member_row}
use Rattle.m2m_names.specs.declared.codes.Rsc.{Rsc}
use Rattle.m2m_names.specs.declared.codes.Rsc.TheVariants.{Accepted, Ok as Fine, Created, Deleted}
use Rattle.m2m_names.specs.declared.codes.Rsc.TheVariants.{Updated}
use Rattle.m2m_names.specs.declared.codes.Rsc.TheVariants.{BadRequest, NotFound, NotAllowed}
use Rattle.m2m_names.specs.declared.codes.Rsc.TheVariants.{RequestTimeout, NoPrivilege, Conflict}
use Rattle.m2m_names.specs.declared.codes.Rsc.TheVariants.{BadChild, Internal, NotImplemented}
use Rattle.m2m_names.specs.declared.codes.Rsc.TheVariants.{NotReachable, NotSubscribable}
use Rattle.m2m_names.specs.declared.codes.Rsc.TheVariants.{NonBlocking, NotAcceptable}
use Rattle.m2m_names.specs.declared.codes.Rsc.TheVariants.{TooManyMembers, WrongMember, Other}

-- the number says that a request was served (TS-0004, 6.6.3)
abbrev pub is_success_number : ℕ → Bool
is_success_number n = is_in_range 2000 2999 n

-- the HTTP status of a number that has no name goes by its thousand
abbrev pub http_status_of_other : ℕ → ℕ
http_status_of_other n =
    if is_success_number n then 200 else (if is_in_range 4000 4999 n then 400 else 500)

-- the row of each status code
abbrev pub rsc_row : Rsc → RscRow
rsc_row Accepted = accepted_row
rsc_row Fine = fine_row
rsc_row Created = created_row
rsc_row Deleted = deleted_row
rsc_row Updated = updated_row
rsc_row BadRequest = bad_request_row
rsc_row NotFound = not_found_row
rsc_row NotAllowed = not_allowed_row
rsc_row RequestTimeout = request_timeout_row
rsc_row NoPrivilege = no_privilege_row
rsc_row Conflict = conflict_row
rsc_row BadChild = bad_child_row
rsc_row Internal = internal_row
rsc_row NotImplemented = not_implemented_row
rsc_row NotReachable = not_reachable_row
rsc_row NotSubscribable = not_subscribable_row
rsc_row NonBlocking = non_blocking_row
rsc_row NotAcceptable = not_acceptable_row
rsc_row TooManyMembers = too_many_members_row
rsc_row WrongMember = wrong_member_row
rsc_row (Other o) = rsc_entry o.number (http_status_of_other o.number)

-- the status says that a request was served
abbrev pub is_success : Rsc → Bool
is_success rsc = is_success_number (rsc_row rsc).number

-- all status codes that have a name, in the order of their numbers
abbrev pub named_codes : List Rsc
named_codes =
    Accepted ∷ Fine ∷ Created ∷ Deleted ∷ Updated ∷ BadRequest ∷ NotFound ∷ NotAllowed ∷
    RequestTimeout ∷ NoPrivilege ∷ Conflict ∷ BadChild ∷ Internal ∷ NotImplemented ∷ NotReachable ∷
    NotSubscribable ∷ NonBlocking ∷ NotAcceptable ∷ TooManyMembers ∷ WrongMember ∷ []

-- the status code of a number that has no name
abbrev pub other_code : (n : ℕ) (other : Bool) → (IsTrue other → IsTrue (is_other n)) → Option Rsc
other_code n true known = Some (Other (record { number = n; outside = known refl }))
other_code n false known = None

-- the status code of a number that has a name
abbrev pub named_code : ℕ → Option Rsc
named_code n = find (λ r. (rsc_row r).number == n) named_codes

-- the status code of a number
abbrev pub rsc_of_number : ℕ → Option Rsc
rsc_of_number n = option_or (named_code n) (other_code n (is_other n) (λ h. h))
