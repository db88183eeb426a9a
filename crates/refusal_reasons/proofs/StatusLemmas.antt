-- The statuses of causes, and which causes a status leaves.
use Rattle.std.proofs.Common.{◌≡◌, ℕ, Bool, true, false, ◌&&◌, List, [], ◌∷◌, refl, map, ap, arith}
use Rattle.std.specs.Prelude.{IsTrue, nat_le, nat_lt, ◌==◌, if◌then◌else◌}
use Rattle.std.specs.List.{list_all}
use Rattle.m2m_names.specs.StatusCodes.{rsc_row}
use Rattle.m2m_names.specs.declared.codes.Rsc.{Rsc}
use Rattle.primitive_json.specs.declared.request.RequestParts.{RequestParts}
use Rattle.resource_model.specs.Home.{HomeData}
use Rattle.refusal_reasons.specs.Causes.{all_causes, causes, is_left, is_status, left_among, may_be, row_of}
use Rattle.refusal_reasons.specs.Facts.{content_fault, facts_of}
use Rattle.refusal_reasons.specs.Laws.{NothingIsToldOfSuccess, WhatIsToldHasTheStatus, is_no_refusal}
use Rattle.refusal_reasons.specs.Texts.{alternatives, reason_of, told_of}
use Rattle.refusal_reasons.specs.declared.cause.Cause.{Cause}
use Rattle.refusal_reasons.specs.declared.cause.Cause.TheVariants as cause
use Rattle.refusal_reasons.specs.declared.facts.Facts.{Facts}

-- a cause is one of refusals
least : (c : Cause) → IsTrue (nat_le 4_000 (rsc_row (row_of c).code).number)
least cause.Form = refl
least _ = refl

apart : (a b : ℕ) → IsTrue (nat_le 4_000 a) → IsTrue (nat_lt b 4_000) → (a == b) ≡ false
apart a b l h = grind arith

-- so it is none of a status that refuses nothing
other_status : (code : Rsc) (c : Cause) → IsTrue (is_no_refusal code) → is_status (row_of c).code code ≡ false
other_status code c h = apart (rsc_row (row_of c).code).number (rsc_row code).number (least c) h

and_none : (x y : Bool) → x ≡ false → (x && y) ≡ false
and_none x y h = rw h refl

not_left : (f : Facts) (code : Rsc) (c : Cause) → IsTrue (is_no_refusal code) → is_left f code c ≡ false
not_left f code c h = and_none (is_status (row_of c).code code) (may_be f c) (other_status code c h)

dropped : (x : Bool) (c : Cause) (rest : List Cause) → x ≡ false → rest ≡ [] → (if x then c ∷ rest else rest) ≡ []
dropped x c rest h r = rw h r

none_left : (f : Facts) (code : Rsc) (cs : List Cause) → IsTrue (is_no_refusal code) → left_among f code cs ≡ []
none_left f code [] h = refl
none_left f code (c ∷ cs) h =
    dropped (is_left f code c) c (left_among f code cs) (not_left f code c h) (none_left f code cs h)

pub nothing_is_told : NothingIsToldOfSuccess
nothing_is_told home request code h =
    ap (λ (cs : List Cause). alternatives (map (told_of (content_fault request)) cs))
    (none_left (facts_of home request) code all_causes h)

kept : (p : Cause → Bool) (s m : Bool) (c : Cause) (rest : List Cause) → p c ≡ s → IsTrue (list_all p rest)
    → IsTrue (list_all p (if s && m then c ∷ rest else rest))
kept p true true c rest e l = rw e l
kept p true false c rest e l = l
kept p false m c rest e l = l

have_status : (f : Facts) (code : Rsc) (cs : List Cause)
    → IsTrue (list_all (λ c. is_status (row_of c).code code) (left_among f code cs))
have_status f code [] = refl
have_status f code (c ∷ cs) =
    kept (λ d. is_status (row_of d).code code) (is_status (row_of c).code code) (may_be f c) c (left_among f code cs) refl (have_status f code cs)

pub told_has_status : WhatIsToldHasTheStatus
told_has_status home request code = have_status (facts_of home request) code all_causes
