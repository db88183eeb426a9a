-- The order of attributes is that of their places.
use Rattle.std.proofs.Common.{◌≡◌, ℕ, zero, suc, ◌<◌, List, [], ◌∷◌, length, get_or, Bool, true, false, ◌&&◌, Some, Ordering, Less, Equal, Greater, nat_cmp, inl, inr, refl, sym, ap, ap₂, ◌∙◌, arith}
use Rattle.std.proofs.lemmas.Bool.{and_parts, cases_lt}
use Rattle.std.proofs.lemmas.Cmp.{nat_list_cmp_total, tied_itself}
use Rattle.std.proofs.lemmas.Option.{slice_get_within, get_or_from_slice_get}
use Rattle.std.specs.Cmp.{nat_cmp_is}
use Rattle.std.specs.Ordering.{is_lt, ordering_reverse}
use Rattle.std.specs.Prelude.{slice_get}
use Rattle.m2m_names.specs.declared.attributes.Attr.{Attr}
use Rattle.m2m_names.specs.declared.attributes.Attr.TheVariants.{Aa, Acpi, Aei, Api, Apn, At, Cb, Cbs, Cnf, Cni, Cnm, Con, Cr, Cs, Csi, Cst, Csy, Ct, Enc, Et, Exc, Gn, Lbl, Lnk, Lt, Macp, Mbs, Mia, Mid, Mni, Mnm, Mt, Mtv, Nct, Nu, Pi, Poa, Pv, Pvs, Ri, Rn, Rr, Srt, Srv, St, Su, Ty}
use Rattle.m2m_names.specs.Attributes.{attr_short, attr_cmp, attr_place, all_attrs}

-- each attribute stands at its place
placed : (a : Attr) → slice_get all_attrs (attr_place a) ≡ Some a
placed Aa = refl
placed Acpi = refl
placed Aei = refl
placed Api = refl
placed Apn = refl
placed At = refl
placed Cb = refl
placed Cbs = refl
placed Cnf = refl
placed Cni = refl
placed Cnm = refl
placed Con = refl
placed Cr = refl
placed Cs = refl
placed Csi = refl
placed Cst = refl
placed Csy = refl
placed Ct = refl
placed Enc = refl
placed Et = refl
placed Exc = refl
placed Gn = refl
placed Lbl = refl
placed Lnk = refl
placed Lt = refl
placed Macp = refl
placed Mbs = refl
placed Mia = refl
placed Mid = refl
placed Mni = refl
placed Mnm = refl
placed Mt = refl
placed Mtv = refl
placed Nct = refl
placed Nu = refl
placed Pi = refl
placed Poa = refl
placed Pv = refl
placed Pvs = refl
placed Ri = refl
placed Rn = refl
placed Rr = refl
placed Srt = refl
placed Srv = refl
placed St = refl
placed Su = refl
placed Ty = refl

within : (a : Attr) → attr_place a < length all_attrs
within a = slice_get_within all_attrs (attr_place a) a (placed a)

stands : (a d : Attr) → get_or all_attrs (attr_place a) d ≡ a
stands a d = get_or_from_slice_get all_attrs (attr_place a) a d (placed a)

-- each short name is below all behind it
abbrev is_below : Attr → List Attr → Bool
is_below a [] = true
is_below a (b ∷ bs) = is_lt (attr_cmp a b) && is_below a bs

abbrev ascend : List Attr → Bool
ascend [] = true
ascend (a ∷ bs) = is_below a bs && ascend bs

below : (a : Attr) (bs : List Attr) → is_below a bs ≡ true → (k : ℕ) (d : Attr) → k < length bs → is_lt (attr_cmp a (get_or bs k d)) ≡ true
below a [] up k d inside = absurd (omega arith)
below a (b ∷ bs) up zero d inside = (and_parts (is_lt (attr_cmp a b)) (is_below a bs) up).0
below a (b ∷ bs) up (suc k) d inside = below a bs (and_parts (is_lt (attr_cmp a b)) (is_below a bs) up).1 k d (omega arith)

ascended : (bs : List Attr) → ascend bs ≡ true → (i j : ℕ) (d : Attr) → i < j → j < length bs → is_lt (attr_cmp (get_or bs i d) (get_or bs j d)) ≡ true
ascended [] up i j d first inside = absurd (omega arith)
ascended (a ∷ bs) up i zero d first inside = absurd (omega arith)
ascended (a ∷ bs) up zero (suc j) d first inside = below a bs (and_parts (is_below a bs) (ascend bs) up).0 j d (omega arith)
ascended (a ∷ bs) up (suc i) (suc j) d first inside = ascended bs (and_parts (is_below a bs) (ascend bs) up).1 i j d (omega arith) (omega arith)

pub less : (o : Ordering) → is_lt o ≡ true → o ≡ Less
less Less e = refl
less Equal e = absurd (cc)
less Greater e = absurd (cc)

-- the one whose place is first has the smaller short name
first_is_less : (a b : Attr) → attr_place a < attr_place b → attr_cmp a b ≡ Less
first_is_less a b first =
    less (attr_cmp a b) (ap₂ (λ x y. is_lt (attr_cmp x y)) (sym (stands a a)) (sym (stands b a)) ∙ ascended all_attrs refl (attr_place a) (attr_place b) a first (within b))

same_place : (a b : Attr) → attr_place a ≡ attr_place b → a ≡ b
same_place a b same = sym (stands a a) ∙ ap (λ k. get_or all_attrs k a) same ∙ stands b a

pub ordered_by_place : (a b : Attr) → nat_cmp (attr_place a) (attr_place b) ≡ attr_cmp a b
ordered_by_place a b = elim (cases_lt (attr_place a) (attr_place b)) [
  | inl first ↦ sym (nat_cmp_is (attr_place a) (attr_place b) Less first) ∙ sym (first_is_less a b first)
  | inr not_first ↦ elim (cases_lt (attr_place b) (attr_place a)) [
    | inl second ↦ sym (nat_cmp_is (attr_place a) (attr_place b) Greater second) ∙ sym (nat_list_cmp_total.antisymm (attr_short a) (attr_short b) ∙ ap ordering_reverse (first_is_less b a second))
    | inr not_second ↦
        let same : attr_place a ≡ attr_place b = omega arith in
        sym (nat_cmp_is (attr_place a) (attr_place b) Equal same) ∙ sym (ap (attr_cmp a) (sym (same_place a b same)) ∙ tied_itself nat_list_cmp_total (attr_short a))
  ]
]
