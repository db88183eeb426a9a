-- The status codes that have a name (TS-0004, 6.6.3), each with the HTTP status that goes with it
-- (TS-0009, 6.3.2). Where the standard has none, for 4008, 4108, 5203, 6010 and 6011, it is the
-- profile's own.
use Rattle.std.specs.Prelude.{ℕ, List, [], ◌∷◌, Bool, not, ◌&&◌, ◌==◌, map}
use Rattle.std.specs.List.{list_any}
use Rattle.std.specs.Int.{is_in_range}

-- what stands for a status code: its number, and its HTTP status
pub record RscRow : Type 0 where
  pub number : ℕ
  pub http : ℕ

-- The row of a status code by its number and its HTTP status.
abbrev pub rsc_entry : ℕ → ℕ → RscRow
rsc_entry number http = record { number = number; http = http }

-- ---- the rows

-- 1000, ACCEPTED, says that the request is served later (TS-0004, 6.6.3). HTTP has 202 for it.
abbrev pub accepted_row : RscRow
accepted_row = rsc_entry 1000 202

-- 2000, OK, says that the request was served (TS-0004, 6.6.3). HTTP has 200 for it.
abbrev pub fine_row : RscRow
fine_row = rsc_entry 2000 200

-- 2001, CREATED, says that a resource was created (TS-0004, 6.6.3). HTTP has 201 for it.
abbrev pub created_row : RscRow
created_row = rsc_entry 2001 201

-- 2002, DELETED, says that the target was deleted (TS-0004, 6.6.3). HTTP has 200 for it.
abbrev pub deleted_row : RscRow
deleted_row = rsc_entry 2002 200

-- 2004, UPDATED, says that the target was updated (TS-0004, 6.6.3). HTTP has 200 for it.
abbrev pub updated_row : RscRow
updated_row = rsc_entry 2004 200

-- 4000, BAD_REQUEST, says that the request or its content is malformed or isn't admitted (TS-0004,
-- 6.6.3). HTTP has 400 for it.
abbrev pub bad_request_row : RscRow
bad_request_row = rsc_entry 4000 400

-- 4004, NOT_FOUND, says that the address names no resource (TS-0004, 6.6.3). HTTP has 404 for it.
abbrev pub not_found_row : RscRow
not_found_row = rsc_entry 4004 404

-- 4005, OPERATION_NOT_ALLOWED, says that no one may do this operation on the target (TS-0004,
-- 6.6.3). HTTP has 405 for it.
abbrev pub not_allowed_row : RscRow
not_allowed_row = rsc_entry 4005 405

-- 4008, REQUEST_TIMEOUT, says that the request expired before it was served (TS-0004, 6.6.3). The
-- profile gives it the HTTP status 408.
abbrev pub request_timeout_row : RscRow
request_timeout_row = rsc_entry 4008 408

-- 4103, ORIGINATOR_HAS_NO_PRIVILEGE, says that the originator lacks the right that the operation
-- needs (TS-0004, 6.6.3). HTTP has 403 for it.
abbrev pub no_privilege_row : RscRow
no_privilege_row = rsc_entry 4103 403

-- 4105, CONFLICT, says that what is to be created is there already, as a sibling of that name
-- (TS-0004, 6.6.3). HTTP has 409 for it.
abbrev pub conflict_row : RscRow
conflict_row = rsc_entry 4105 409

-- 4108, INVALID_CHILD_RESOURCE_TYPE, says that the target takes no child of the type (TS-0004,
-- 6.6.3). The profile gives it the HTTP status 403.
abbrev pub bad_child_row : RscRow
bad_child_row = rsc_entry 4108 403

-- 5000, INTERNAL_SERVER_ERROR, says that the CSE failed, as where memory runs out (TS-0004, 6.6.3).
-- HTTP has 500 for it.
abbrev pub internal_row : RscRow
internal_row = rsc_entry 5000 500

-- 5001, NOT_IMPLEMENTED, says that the CSE doesn't know how to serve the request (TS-0004, 6.6.3).
-- HTTP has 501 for it.
abbrev pub not_implemented_row : RscRow
not_implemented_row = rsc_entry 5001 501

-- 5103, TARGET_NOT_REACHABLE, says that the CSE can't reach the target (TS-0004, 6.6.3). HTTP has
-- 404 for it.
abbrev pub not_reachable_row : RscRow
not_reachable_row = rsc_entry 5103 404

-- 5203, TARGET_NOT_SUBSCRIBABLE, says that the target takes no subscription (TS-0004, 6.6.3). The
-- profile gives it the HTTP status 403.
abbrev pub not_subscribable_row : RscRow
not_subscribable_row = rsc_entry 5203 403

-- 5206, NON_BLOCKING_REQUEST_NOT_SUPPORTED, says that the CSE serves no request without blocking
-- (TS-0004, 6.6.3). HTTP has 501 for it.
abbrev pub non_blocking_row : RscRow
non_blocking_row = rsc_entry 5206 501

-- 5207, NOT_ACCEPTABLE, says that the content passes a limit of the target or of the CSE (TS-0004,
-- 6.6.3). HTTP has 406 for it.
abbrev pub not_acceptable_row : RscRow
not_acceptable_row = rsc_entry 5207 406

-- 6010, MAX_NUMBER_OF_MEMBER_EXCEEDED, says that a group would get more members than it may have
-- (TS-0004, 6.6.3). The profile gives it the HTTP status 400.
abbrev pub too_many_members_row : RscRow
too_many_members_row = rsc_entry 6010 400

-- 6011, MEMBER_TYPE_INCONSISTENT, says that a member of a group isn't of the group's member type
-- (TS-0004, 6.6.3). The profile gives it the HTTP status 400.
abbrev pub wrong_member_row : RscRow
wrong_member_row = rsc_entry 6011 400

-- all of them, in the order of their numbers
abbrev pub named_rows : List RscRow
named_rows =
    accepted_row ∷ fine_row ∷ created_row ∷ deleted_row ∷ updated_row ∷ bad_request_row ∷
    not_found_row ∷ not_allowed_row ∷ request_timeout_row ∷ no_privilege_row ∷ conflict_row ∷
    bad_child_row ∷
    internal_row ∷ not_implemented_row ∷ not_reachable_row ∷ not_subscribable_row ∷
    non_blocking_row ∷ not_acceptable_row ∷ too_many_members_row ∷ wrong_member_row ∷ []

-- The numbers of all status codes that have a name.
abbrev pub named_numbers : List ℕ
named_numbers = map (λ (row : RscRow). row.number) named_rows

-- the numbers of status codes have four digits: the least and the greatest of them
abbrev pub least_code : ℕ
least_code = 1000

abbrev pub greatest_code : ℕ
greatest_code = 9999

-- whether a number of four digits has no name
abbrev pub is_other : ℕ → Bool
is_other n = is_in_range least_code greatest_code n && not (list_any (λ m. m == n) named_numbers)
