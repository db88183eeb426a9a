-- The addresses of copies: where each leads, that they differ, and which stand below which.
use Rattle.std.specs.Prelude.{nat_eq, codes, ◌⊎◌}
use Rattle.std.proofs.Common.{◌≡◌, ℕ, ◌+◌, ◌<◌, ◌^◌, List, [], ◌∷◌, ◌++◌, length, take, drop, Bool, true, false, not, ◌&&◌, ◌||◌, bytes_eq, Option, Some, inl, inr, refl, sym, ap, ◌∙◌, subst, arith}
use Rattle.std.proofs.lemmas.Bool.{and_parts, and_from, cases_Bool, or_cases, or_left, or_right, eqb-true}
use Rattle.std.proofs.lemmas.List.{append_assoc, append_cancel_left, append_cancel_right}
use Rattle.std.proofs.lemmas.Option.{same_Some}
use Rattle.std.specs.List.{list_all, position_or_len, starts_with}
use Rattle.addressing.specs.Addresses.{is_slash}
use Rattle.attribute_kinds.specs.Kinds.{is_cse_id}
use Rattle.m2m_names.proofs.IdLemmas.{id_parts-id_text}
use Rattle.m2m_names.proofs.NumeralLemmas.{decimal_passes}
use Rattle.m2m_names.specs.Ids.{id_parts, id_text}
use Rattle.m2m_names.specs.Name.{is_name, is_unreserved}
use Rattle.m2m_names.specs.Types.{ty_row}
use Rattle.m2m_names.specs.declared.types.Ty.{Ty}
use Rattle.m2m_names.specs.declared.types.Ty.TheVariants.{AccessControlPolicy, Ae, Container, ContentInstance, CseBase, Group, PollingChannel, RemoteCse, Subscription, AccessControlPolicyAnnc, AeAnnc, ContainerAnnc, ContentInstanceAnnc, GroupAnnc}
use Rattle.resource_model.specs.Home.{HomeData}
use Rattle.resource_model.specs.Resource.{ResourceData, is_ty}
use Rattle.subscription_match.specs.Destinations.{leading_cse_id}
use Rattle.announce_copy.specs.Announced.{copy_name}
use Rattle.announce_copy.specs.Copies.{copy_address, copy_path, parent_address, parent_path, registration_path}
use Rattle.copy_laws.specs.Following.{IsKept}
use Rattle.copy_laws.specs.Replica.{is_within}
use Rattle.copy_laws.proofs.TextLemmas.{begins, begins_with, first_slash, has_no_slash, no_front, not_both, one_front, same_text, taken_front, text_itself}

-- ---- names have no slash

no_slash_each : (p : ℕ → Bool) → ((b : ℕ) → p b ≡ true → not (is_slash b) ≡ true) → (text : List ℕ) → list_all p text ≡ true → has_no_slash text ≡ true
no_slash_each p each [] all = refl
no_slash_each p each (b ∷ text) all =
    let both = and_parts (p b) (list_all p text) all in
    and_from _ _ (each b both.0) (no_slash_each p each text both.1)

no_slash-append : (x y : List ℕ) → has_no_slash x ≡ true → has_no_slash y ≡ true → has_no_slash (x ++ y) ≡ true
no_slash-append [] y nx ny = ny
no_slash-append (b ∷ x) y nx ny =
    let both = and_parts (not (is_slash b)) (has_no_slash x) nx in
    and_from _ _ both.0 (no_slash-append x y both.1 ny)

word_no_slash : (ty : Ty) → has_no_slash (ty_row ty).word ≡ true
word_no_slash AccessControlPolicy = refl
word_no_slash Ae = refl
word_no_slash Container = refl
word_no_slash ContentInstance = refl
word_no_slash CseBase = refl
word_no_slash Group = refl
word_no_slash PollingChannel = refl
word_no_slash RemoteCse = refl
word_no_slash Subscription = refl
word_no_slash AccessControlPolicyAnnc = refl
word_no_slash AeAnnc = refl
word_no_slash ContainerAnnc = refl
word_no_slash ContentInstanceAnnc = refl
word_no_slash GroupAnnc = refl

digit_no_slash : (d : ℕ) → d < 10 → not (is_slash (48 + d)) ≡ true
digit_no_slash d small = elim (cases_Bool (is_slash (48 + d))) [
  | inl t ↦ absurd (let is : 48 + d ≡ 47 = eqb-true (48 + d) 47 t in omega arith)
  | inr f ↦ ap not f
]

name_no_slash : (ty : Ty) (n : ℕ) → n < 2 ^ 63 → has_no_slash (copy_name ty n) ≡ true
name_no_slash ty n small =
    no_slash-append (id_text ty n) (codes "A")
    (no_slash-append (ty_row ty).word _ (word_no_slash ty) (decimal_passes (λ b. not (is_slash b)) digit_no_slash n small))
    refl

reserved_slash : (b : ℕ) → is_unreserved b ≡ true → not (is_slash b) ≡ true
reserved_slash b t = elim (cases_Bool (is_slash b)) [
  | inl is ↦
      let byte : b ≡ 47 = eqb-true b 47 is in
      absurd (not_both (is_unreserved 47) (ap is_unreserved (sym byte) ∙ t) refl)
  | inr f ↦ ap not f
]

id_no_slash : (name : List ℕ) → is_name name ≡ true → has_no_slash name ≡ true
id_no_slash name is = no_slash_each is_unreserved reserved_slash name (and_parts _ (list_all is_unreserved name) is).1

-- ---- to whom an address leads

leads_after : (name rest : List ℕ) → has_no_slash name ≡ true → leading_cse_id (47 ∷ name ++ 47 ∷ rest) ≡ 47 ∷ name
leads_after name rest none =
    ap (λ (n : ℕ). take (n + 1) (47 ∷ name ++ 47 ∷ rest)) (first_slash name rest none)
    ∙ ap (λ (n : ℕ). take n (47 ∷ name ++ 47 ∷ rest)) (let e : length name + 1 ≡ length (47 ∷ name) = omega arith in e)
    ∙ taken_front (47 ∷ name) (47 ∷ rest)

-- an address at a CSE leads to it
pub leads_to : (peer rest : List ℕ) → is_cse_id peer ≡ true → leading_cse_id (peer ++ 47 ∷ rest) ≡ peer
leads_to [] rest is = (let bad : false ≡ true = is in cc)
leads_to (b ∷ name) rest is =
    let both = and_parts (nat_eq b 47) (is_name name) is in
    let byte : 47 ≡ b = sym (eqb-true b 47 both.0) in
    subst (λ (c : ℕ). leading_cse_id ((c ∷ name) ++ 47 ∷ rest) ≡ c ∷ name) byte (leads_after name rest (id_no_slash name both.1))

module _ (home : HomeData) where
  -- the way to what a copy stands under, without its first slash
  abbrev parent_way : ResourceData → List ℕ
  parent_way r = drop 1 (parent_path home r)

  parent_begins : (r : ResourceData) → parent_path home r ≡ 47 ∷ parent_way r
  parent_begins r = elim (cases_Bool (is_ty r.ty ContentInstance)) [ inl t ↦ rw t refl | inr f ↦ rw f refl ]

  copy_begins : (r : ResourceData) → copy_path home r ≡ 47 ∷ (parent_way r ++ codes "/" ++ copy_name r.ty r.number)
  copy_begins r = ap (λ (path : List ℕ). path ++ codes "/" ++ copy_name r.ty r.number) (parent_begins r)

  -- both addresses of a copy lead to its CSE
  pub parent_leads : (peer : List ℕ) (r : ResourceData) → is_cse_id peer ≡ true → leading_cse_id (parent_address home peer r) ≡ peer
  parent_leads peer r is =
      ap (λ (path : List ℕ). leading_cse_id (peer ++ path)) (parent_begins r) ∙ leads_to peer (parent_way r) is

  pub copy_leads : (peer : List ℕ) (r : ResourceData) → is_cse_id peer ≡ true → leading_cse_id (copy_address home peer r) ≡ peer
  copy_leads peer r is =
      ap (λ (path : List ℕ). leading_cse_id (peer ++ path)) (copy_begins r) ∙ leads_to peer _ is

  -- ---- addresses differ

  same_name : (ty : Ty) (n : ℕ) (tz : Ty) (m : ℕ) → n < 2 ^ 63 → m < 2 ^ 63 → copy_name ty n ≡ copy_name tz m → (ty ≡ tz) × (n ≡ m)
  same_name ty n tz m small low e =
      let ids : id_text ty n ≡ id_text tz m = append_cancel_right (id_text ty n) (id_text tz m) (codes "A") e in
      let first : Ty × ℕ = (ty, n) in
      let second : Ty × ℕ = (tz, m) in
      let parts : Some first ≡ Some second = sym (id_parts-id_text ty n small) ∙ ap id_parts ids ∙ id_parts-id_text tz m low in
      let both : first ≡ second = same_Some first second parts in
      (ap (λ (p : Ty × ℕ). p.0) both, ap (λ (p : Ty × ℕ). p.1) both)

  -- the path of what is no instance, and of an instance, behind where copies stand
  plain_path : (r : ResourceData) → is_ty r.ty ContentInstance ≡ false → copy_path home r ≡ registration_path home ++ 47 ∷ copy_name r.ty r.number
  plain_path r f = rw f (append_assoc (registration_path home) (codes "/") (copy_name r.ty r.number))

  -- of an instance: by its container's name
  abbrev instance_tail : ResourceData → List ℕ
  instance_tail r = copy_name Container r.parent ++ 47 ∷ copy_name r.ty r.number

  instance_path : (r : ResourceData) → is_ty r.ty ContentInstance ≡ true → copy_path home r ≡ registration_path home ++ 47 ∷ instance_tail r
  instance_path r t =
      let reg = registration_path home in
      let outer = copy_name Container r.parent in
      let inner = copy_name r.ty r.number in
      rw t (
      append_assoc (reg ++ codes "/" ++ outer) (codes "/") inner
      ∙ ap (λ (front : List ℕ). front ++ 47 ∷ inner) (append_assoc reg (codes "/") outer)
      ∙ append_assoc reg (47 ∷ outer) (47 ∷ inner))

  -- what stands behind where copies stand is one thing
  one_tail : (x y : List ℕ) → registration_path home ++ 47 ∷ x ≡ registration_path home ++ 47 ∷ y → x ≡ y
  one_tail x y e =
      let tails : 47 ∷ x ≡ 47 ∷ y = append_cancel_left (registration_path home) (47 ∷ x) (47 ∷ y) e in
      cc

  own_no_slash : (r : ResourceData) → IsKept r → has_no_slash (copy_name r.ty r.number) ≡ true
  own_no_slash r kept = name_no_slash r.ty r.number kept.number

  outer_no_slash : (r : ResourceData) → IsKept r → has_no_slash (copy_name Container r.parent) ≡ true
  outer_no_slash r kept = name_no_slash Container r.parent kept.parent

  -- one address is that of one resource
  pub same_address : (peer : List ℕ) (r s : ResourceData) → IsKept r → IsKept s → copy_address home peer r ≡ copy_address home peer s → (r.ty ≡ s.ty) × (r.number ≡ s.number)
  same_address peer r s kr ks e =
      let paths : copy_path home r ≡ copy_path home s = append_cancel_left peer (copy_path home r) (copy_path home s) e in
      let nr = copy_name r.ty r.number in
      let ns = copy_name s.ty s.number in
      let cr = copy_name Container r.parent in
      let cs = copy_name Container s.parent in
      elim (cases_Bool (is_ty r.ty ContentInstance)) [
        | inl ir ↦ elim (cases_Bool (is_ty s.ty ContentInstance)) [
          | inl is ↦
              let tails : cr ++ 47 ∷ nr ≡ cs ++ 47 ∷ ns = one_tail _ _ (sym (instance_path r ir) ∙ paths ∙ instance_path s is) in
              same_name r.ty r.number s.ty s.number kr.number ks.number (one_front cr cs nr ns (outer_no_slash r kr) (outer_no_slash s ks) tails).1
          | inr fs ↦
              let tails : cr ++ 47 ∷ nr ≡ ns = one_tail _ _ (sym (instance_path r ir) ∙ paths ∙ plain_path s fs) in
              absurd (no_front ns cr nr (own_no_slash s ks) (sym tails))
        ]
        | inr fr ↦ elim (cases_Bool (is_ty s.ty ContentInstance)) [
          | inl is ↦
              let tails : nr ≡ cs ++ 47 ∷ ns = one_tail _ _ (sym (plain_path r fr) ∙ paths ∙ instance_path s is) in
              absurd (no_front nr cs ns (own_no_slash r kr) tails)
          | inr fs ↦
              let tails : nr ≡ ns = one_tail _ _ (sym (plain_path r fr) ∙ paths ∙ plain_path s fs) in
              same_name r.ty r.number s.ty s.number kr.number ks.number tails
        ]
      ]

  -- ---- which stand below which

  -- the second is an instance of the first, which is a container
  pub record IsInstanceOf (r s : ResourceData) : Type 0 where
    pub container : r.ty ≡ Container
    pub instance : is_ty s.ty ContentInstance ≡ true
    pub parent : s.parent ≡ r.number

  -- what stands behind a path
  behind_plain : (r : ResourceData) (rest : List ℕ) → is_ty r.ty ContentInstance ≡ false → copy_path home r ++ 47 ∷ rest ≡ registration_path home ++ 47 ∷ (copy_name r.ty r.number ++ 47 ∷ rest)
  behind_plain r rest f =
      ap (λ (path : List ℕ). path ++ 47 ∷ rest) (plain_path r f)
      ∙ append_assoc (registration_path home) (47 ∷ copy_name r.ty r.number) (47 ∷ rest)

  behind_instance : (r : ResourceData) (rest : List ℕ) → is_ty r.ty ContentInstance ≡ true → copy_path home r ++ 47 ∷ rest ≡ registration_path home ++ 47 ∷ (copy_name Container r.parent ++ 47 ∷ (copy_name r.ty r.number ++ 47 ∷ rest))
  behind_instance r rest t =
      ap (λ (path : List ℕ). path ++ 47 ∷ rest) (instance_path r t)
      ∙ append_assoc (registration_path home) (47 ∷ instance_tail r) (47 ∷ rest)
      ∙ ap (λ (tail : List ℕ). registration_path home ++ 47 ∷ tail) (append_assoc (copy_name Container r.parent) (47 ∷ copy_name r.ty r.number) (47 ∷ rest))

  -- below the path of a resource stands only an instance of it
  below_path : (r s : ResourceData) (rest : List ℕ) → IsKept r → IsKept s → copy_path home s ≡ copy_path home r ++ 47 ∷ rest → IsInstanceOf r s
  below_path r s rest kr ks e =
      let nr = copy_name r.ty r.number in
      let ns = copy_name s.ty s.number in
      let cr = copy_name Container r.parent in
      let cs = copy_name Container s.parent in
      elim (cases_Bool (is_ty r.ty ContentInstance)) [
        | inl ir ↦ elim (cases_Bool (is_ty s.ty ContentInstance)) [
          | inl is ↦
              let tails : cs ++ 47 ∷ ns ≡ cr ++ 47 ∷ (nr ++ 47 ∷ rest) = one_tail _ _ (sym (instance_path s is) ∙ e ∙ behind_instance r rest ir) in
              absurd (no_front ns nr rest (own_no_slash s ks) (one_front cs cr ns (nr ++ 47 ∷ rest) (outer_no_slash s ks) (outer_no_slash r kr) tails).1)
          | inr fs ↦
              let tails : ns ≡ cr ++ 47 ∷ (nr ++ 47 ∷ rest) = one_tail _ _ (sym (plain_path s fs) ∙ e ∙ behind_instance r rest ir) in
              absurd (no_front ns cr (nr ++ 47 ∷ rest) (own_no_slash s ks) tails)
        ]
        | inr fr ↦ elim (cases_Bool (is_ty s.ty ContentInstance)) [
          | inl is ↦
              let tails : cs ++ 47 ∷ ns ≡ nr ++ 47 ∷ rest = one_tail _ _ (sym (instance_path s is) ∙ e ∙ behind_plain r rest fr) in
              let fronts : cs ≡ nr = (one_front cs nr ns rest (outer_no_slash s ks) (own_no_slash r kr) tails).0 in
              let names = same_name Container s.parent r.ty r.number ks.parent kr.number fronts in
              record { container = sym names.0; instance = is; parent = names.1 }
          | inr fs ↦
              let tails : ns ≡ nr ++ 47 ∷ rest = one_tail _ _ (sym (plain_path s fs) ∙ e ∙ behind_plain r rest fr) in
              absurd (no_front ns nr rest (own_no_slash s ks) tails)
        ]
      ]

  -- at or below the address of a resource stands that, and an instance of it
  pub within_address : (peer : List ℕ) (r s : ResourceData) → IsKept r → IsKept s → is_within (copy_address home peer r) (copy_address home peer s) ≡ true → (r.number ≡ s.number) ⊎ IsInstanceOf r s
  within_address peer r s kr ks within =
      let top = copy_address home peer r in
      let address = copy_address home peer s in
      elim (or_cases (bytes_eq address top) (starts_with nat_eq address (top ++ codes "/")) within) [
        | inl same ↦ inl (same_address peer r s kr ks (sym (same_text address top same))).1
        | inr below ↦
            let rest = begins address (top ++ codes "/") below in
            let whole : peer ++ copy_path home s ≡ peer ++ (copy_path home r ++ 47 ∷ rest.0) =
            rest.1 ∙ append_assoc top (codes "/") rest.0 ∙ append_assoc peer (copy_path home r) (47 ∷ rest.0) in
            inr (below_path r s rest.0 kr ks (append_cancel_left peer (copy_path home s) (copy_path home r ++ 47 ∷ rest.0) whole))
      ]

  -- and each instance of it does
  pub instance_within : (peer : List ℕ) (r s : ResourceData) → IsInstanceOf r s → is_within (copy_address home peer r) (copy_address home peer s) ≡ true
  instance_within peer r s of =
      let top = copy_address home peer r in
      let name = copy_name s.ty s.number in
      let plain : is_ty r.ty ContentInstance ≡ false = ap (λ (ty : Ty). is_ty ty ContentInstance) of.container in
      let path : copy_path home s ≡ copy_path home r ++ codes "/" ++ name =
      instance_front s of.instance
      ∙ ap (λ (outer : List ℕ). registration_path home ++ codes "/" ++ outer ++ codes "/" ++ name) (ap (copy_name Container) of.parent ∙ ap (λ (ty : Ty). copy_name ty r.number) (sym of.container))
      ∙ ap (λ (front : List ℕ). front ++ codes "/" ++ name) (sym (plain_front r plain)) in
      let whole : copy_address home peer s ≡ top ++ codes "/" ++ name =
      ap (λ (p : List ℕ). peer ++ p) path
      ∙ sym (append_assoc peer (copy_path home r ++ codes "/") name)
      ∙ ap (λ (front : List ℕ). front ++ name) (sym (append_assoc peer (copy_path home r) (codes "/"))) in
      or_right _ _ (subst (λ (address : List ℕ). starts_with nat_eq address (top ++ codes "/") ≡ true) (sym whole) (begins_with (top ++ codes "/") name))
    where
      instance_front : (x : ResourceData) → is_ty x.ty ContentInstance ≡ true → copy_path home x ≡ registration_path home ++ codes "/" ++ copy_name Container x.parent ++ codes "/" ++ copy_name x.ty x.number
      instance_front x t = rw t refl

      plain_front : (x : ResourceData) → is_ty x.ty ContentInstance ≡ false → copy_path home x ≡ registration_path home ++ codes "/" ++ copy_name x.ty x.number
      plain_front x f = rw f refl

  -- each resource stands at its own address
  pub own_within : (peer : List ℕ) (r : ResourceData) → is_within (copy_address home peer r) (copy_address home peer r) ≡ true
  own_within peer r = or_left _ _ (text_itself (copy_address home peer r))
