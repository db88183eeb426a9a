-- The attributes of resources.
use Rattle.std.specs.Prelude.{ℕ, List, [], ◌∷◌, length, filter, Option, find, codes}
use Rattle.std.specs.Cmp.Lexicographic.{slice_cmp}
use Rattle.std.specs.Ordering.{nat_cmp, is_lt}
use Rattle.std.specs.declared.cmp.Ordering.{Ordering}
use Rattle.std.specs.Str.{bytes_eq}
use Rattle.m2m_names.specs.declared.attributes.Attr.{Attr}
use Rattle.m2m_names.specs.declared.attributes.Attr.TheVariants.{Aa, Acpi, Aei, Api, Apn, At, Cb}
use Rattle.m2m_names.specs.declared.attributes.Attr.TheVariants.{Cbs, Cnf, Cni, Cnm, Con, Cr, Cs}
use Rattle.m2m_names.specs.declared.attributes.Attr.TheVariants.{Csi, Cst, Csy, Ct, Enc, Et}
use Rattle.m2m_names.specs.declared.attributes.Attr.TheVariants.{Exc, Gn}
use Rattle.m2m_names.specs.declared.attributes.Attr.TheVariants.{Lbl, Lnk, Lt, Macp, Mbs, Mia, Mid}
use Rattle.m2m_names.specs.declared.attributes.Attr.TheVariants.{Mni, Mnm, Mt, Mtv, Nct, Nu, Pi}
use Rattle.m2m_names.specs.declared.attributes.Attr.TheVariants.{Poa, Pv, Pvs, Ri, Rn, Rr, Srt, Srv}
use Rattle.m2m_names.specs.declared.attributes.Attr.TheVariants.{St, Su, Ty}

-- the table: the short name of each attribute (TS-0004, 8.2.3)
abbrev pub attr_short : Attr → List ℕ
attr_short Aa = codes "aa"
attr_short Acpi = codes "acpi"
attr_short Aei = codes "aei"
attr_short Api = codes "api"
attr_short Apn = codes "apn"
attr_short At = codes "at"
attr_short Cb = codes "cb"
attr_short Cbs = codes "cbs"
attr_short Cnf = codes "cnf"
attr_short Cni = codes "cni"
attr_short Cnm = codes "cnm"
attr_short Con = codes "con"
attr_short Cr = codes "cr"
attr_short Cs = codes "cs"
attr_short Csi = codes "csi"
attr_short Cst = codes "cst"
attr_short Csy = codes "csy"
attr_short Ct = codes "ct"
attr_short Enc = codes "enc"
attr_short Et = codes "et"
attr_short Exc = codes "exc"
attr_short Gn = codes "gn"
attr_short Lbl = codes "lbl"
attr_short Lnk = codes "lnk"
attr_short Lt = codes "lt"
attr_short Macp = codes "macp"
attr_short Mbs = codes "mbs"
attr_short Mia = codes "mia"
attr_short Mid = codes "mid"
attr_short Mni = codes "mni"
attr_short Mnm = codes "mnm"
attr_short Mt = codes "mt"
attr_short Mtv = codes "mtv"
attr_short Nct = codes "nct"
attr_short Nu = codes "nu"
attr_short Pi = codes "pi"
attr_short Poa = codes "poa"
attr_short Pv = codes "pv"
attr_short Pvs = codes "pvs"
attr_short Ri = codes "ri"
attr_short Rn = codes "rn"
attr_short Rr = codes "rr"
attr_short Srt = codes "srt"
attr_short Srv = codes "srv"
attr_short St = codes "st"
attr_short Su = codes "su"
attr_short Ty = codes "ty"

-- all attributes, in byte order of their short names
abbrev pub all_attrs : List Attr
all_attrs =
    Aa ∷ Acpi ∷ Aei ∷ Api ∷ Apn ∷ At ∷ Cb ∷ Cbs ∷ Cnf ∷ Cni ∷ Cnm ∷ Con ∷ Cr ∷ Cs ∷ Csi ∷ Cst ∷
    Csy ∷ Ct ∷ Enc ∷ Et ∷ Exc ∷ Gn ∷ Lbl ∷ Lnk ∷ Lt ∷ Macp ∷ Mbs ∷ Mia ∷ Mid ∷ Mni ∷ Mnm ∷ Mt ∷
    Mtv ∷ Nct ∷ Nu ∷ Pi ∷ Poa ∷ Pv ∷ Pvs ∷ Ri ∷ Rn ∷ Rr ∷ Srt ∷ Srv ∷ St ∷ Su ∷ Ty ∷ []

-- the attribute of a short name
abbrev pub attr_of_short : List ℕ → Option Attr
attr_of_short text = find (λ a. bytes_eq (attr_short a) text) all_attrs

-- which of two attributes has the smaller short name, in the order of bytes
abbrev pub attr_cmp : Attr → Attr → Ordering
attr_cmp a b = slice_cmp nat_cmp (attr_short a) (attr_short b)

-- how many attributes have a smaller short name
abbrev pub attr_place : Attr → ℕ
attr_place a = length (filter (λ b. is_lt (attr_cmp b a)) all_attrs)
