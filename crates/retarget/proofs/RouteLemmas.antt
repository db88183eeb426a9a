-- Originators in full, and the CSEs that they come from.
use Rattle.std.proofs.Common.{◌≡◌, ℕ, ◌+◌, Bool, true, false, List, [], ◌∷◌, ◌++◌, length, take, codes, Option, Some, None, Result, Ok, Err, IfOk, is_some, inl, inr, refl, sym, ap, subst, ◌∙◌, append_assoc, arith, nat_eq}
use Rattle.std.proofs.lemmas.Bool.{cases_Bool}
use Rattle.std.specs.List.{All, position_or_len, starts_with}
use Rattle.std.specs.Option.{option_map_or}
use Rattle.std.specs.Str.{IsUtf8}
use Rattle.std.proofs.Math.Seq.{take-append_seam}
use Rattle.std.proofs.lemmas.List.Elements.{All-head, All-tail}
use Rattle.std.proofs.lemmas.Str.{IsUtf8-append}
use Rattle.m2m_names.specs.Name.{is_name, is_originator, originator_limit}
use Rattle.m2m_names.proofs.NameLemmas.{printable_is_utf8}
use Rattle.resource_model.specs.Home.{HomeData}
use Rattle.resource_model.specs.Resource.{ResourceData}
use Rattle.tree_model.specs.Shown.{own_cse_id}
use Rattle.tree_model.specs.Tree.{cse_of}
use Rattle.tree_model.proofs.ShownLemmas.{slash_utf8}
use Rattle.policy_eval.specs.Originators.{full_form, own_lead}
use Rattle.addressing.specs.Addresses.{is_slash}
use Rattle.addressing.specs.Names.{IsLocal}
use Rattle.addressing.specs.declared.addr.Addr.{Addr}
use Rattle.addressing.specs.declared.addr.Addr.TheVariants.{Local, Foreign, OtherProvider}
use Rattle.addressing.proofs.PartLemmas.{name_has_no_slash}
use Rattle.subscription_match.specs.Destinations.{cse_named, first_url, leading_cse_id}
use Rattle.retarget.specs.Routes.{FullFormTellsTheCse, comes_from_cse, routed, routed_to}
use Rattle.retarget.specs.declared.routing.Route.TheVariants as to

-- what stands behind own CSE-ID is a text
pub behind_own_utf8 : (home : HomeData) (originator : List ℕ) → IsUtf8 home.csi → is_originator originator ≡ true
    → IsUtf8 (codes "/" ++ (own_lead home ++ originator))
behind_own_utf8 home originator csi is =
    IsUtf8-append (codes "/") (own_lead home ++ originator) slash_utf8
    (IsUtf8-append (own_lead home) originator (IsUtf8-append home.csi (codes "/") csi slash_utf8)
    (printable_is_utf8 originator_limit originator is))

-- an originator is a text
pub originator_utf8 : {E : Type 0} (originator : List ℕ) (result : Result (List ℕ) E) → IfOk result (λ t. t ≡ originator)
    → is_originator originator ≡ true → IfOk result (λ t. IsUtf8 t)
originator_utf8 originator (Ok t) same is = subst (λ (v : List ℕ). IsUtf8 v) (sym same) (printable_is_utf8 originator_limit originator is)
originator_utf8 originator (Err e) same is = tt

-- ---- the CSE of an originator

-- a name stands before the first slash behind it
at_slash : (name rest : List ℕ) → All (λ b. is_slash b ≡ false) name
    → position_or_len is_slash ((name ++ codes "/") ++ rest) ≡ length name
at_slash [] rest plain = refl
at_slash (b ∷ name) rest plain =
    let here : is_slash b ≡ false = All-head (λ b. is_slash b ≡ false) b name plain in
    let later = at_slash name rest (All-tail (λ b. is_slash b ≡ false) b name plain) in
    rw here (omega (arith, later))

-- the full form of an originator of own begins with own CSE-ID
leads_own : (home : HomeData) (originator : List ℕ) → is_name home.csi ≡ true
    → leading_cse_id (codes "/" ++ (own_lead home ++ originator)) ≡ own_cse_id home
leads_own home originator named =
    let place = at_slash home.csi originator (name_has_no_slash home.csi named) in
    let text : codes "/" ++ (own_lead home ++ originator) ≡ own_cse_id home ++ (codes "/" ++ originator) =
    ap (λ (v : List ℕ). 47 ∷ v) (append_assoc home.csi (codes "/") originator) in
    let count : position_or_len is_slash (own_lead home ++ originator) + 1 ≡ length (own_cse_id home) =
    omega (arith, place) in
    (λ i. take (count i) (text i)) ∙ take-append_seam (own_cse_id home) (codes "/" ++ originator)

told_by_front : (home : HomeData) (nodes : List ResourceData) (originator : List ℕ) → is_name home.csi ≡ true
    → cse_of (own_cse_id home) nodes ≡ None → (front : Bool) → starts_with nat_eq originator (codes "/") ≡ front
    → comes_from_cse nodes originator ≡ is_some (cse_of (leading_cse_id (full_form home originator)) nodes)
told_by_front home nodes originator named none true e = rw e refl
told_by_front home nodes originator named none false e =
    rw e (sym (ap is_some (ap (λ (v : List ℕ). cse_of v nodes) (leads_own home originator named) ∙ none)))

pub full_form_tells : FullFormTellsTheCse
full_form_tells home nodes originator named none =
    told_by_front home nodes originator named none (starts_with nat_eq originator (codes "/")) refl

-- ---- who stays

-- what leads to another CSE doesn't stay
leaves : (nodes : List ResourceData) (originator : List ℕ) (cse : ResourceData) → routed_to nodes originator cse ≡ to.Local → ⊥
leaves nodes originator cse stays = elim (cases_Bool (comes_from_cse nodes originator)) [
  | inl t ↦ let e : to.NoHop ≡ to.Local = rw t at stays in cc
  | inr f ↦ elim (cases_Bool (is_some (first_url cse))) [
    | inl t ↦ let e : to.Forward cse.number ≡ to.Local = rw (f, t) at stays in cc
    | inr g ↦ let e : to.NoPoint ≡ to.Local = rw (f, g) at stays in cc
  ]
]

leaves_by : (nodes : List ResourceData) (originator : List ℕ) (cse : Option ResourceData) → option_map_or (routed_to nodes originator) cse to.Unknown ≡ to.Local → ⊥
leaves_by nodes originator (Some cse) stays = leaves nodes originator cse stays
leaves_by nodes originator None stays = cc

-- what stays has a local address
pub stays_local : (nodes : List ResourceData) (originator : List ℕ) (addr : Addr) → routed nodes originator addr ≡ to.Local → IsLocal addr
stays_local nodes originator (Local segments) stays = tt
stays_local nodes originator (Foreign text) stays = leaves_by nodes originator (cse_named text nodes) stays
stays_local nodes originator OtherProvider stays = cc
