-- The first fault of several, and that contents without a fault are those that are admitted.
use Rattle.std.proofs.Common.{◌≡◌, ℕ, List, [], ◌∷◌, Bool, true, false, not, ◌&&◌, Option, Some, None, is_none, is_some, option_map, Err, IfSome, IfNone, inl, inr, refl, sym, ap, subst, ◌∙◌}
use Rattle.std.proofs.lemmas.Bool.{cases_Bool}
use Rattle.std.proofs.lemmas.Slice.Eq.{bytes_eq-Decides}
use Rattle.std.specs.Str.{bytes_eq}
use Rattle.std.specs.List.{filter_map, find, list_all, cons_option}
use Rattle.std.specs.Option.{option_or, option_map_or}
use Rattle.m2m_names.specs.declared.attributes.Attr.{Attr}
use Rattle.m2m_names.specs.Attributes.{attr_of_short, attr_short}
use Rattle.m2m_names.specs.declared.attributes.Attr.TheVariants.{Acpi, Con}
use Rattle.m2m_names.specs.declared.types.Ty.{Ty}
use Rattle.m2m_value.specs.Data.{Data, Entry}
use Rattle.attribute_rules.specs.Admission.{attributes_in, is_named, column_of, allows_value, rule_at, is_fit, is_alone, is_complete, are_admitted, is_admitted, value_fault, key_fault, is_unknown, is_not_allowed, is_wrong_kind, leading_fault, with_fault, rest_fault, fault_in, fault_of, has_unknown, IsTold, Refuses}
use Rattle.attribute_rules.specs.Table.{is_permitted, mandatory_attrs}
use Rattle.attribute_rules.specs.declared.admission.Firsts.{Firsts}
use Rattle.attribute_rules.specs.declared.table.Rule.{Rule}
use Rattle.attribute_rules.specs.declared.table.Writing.{Writing}
use Rattle.attribute_rules.specs.declared.table.Writing.TheVariants.{Create, Update}
use Rattle.attribute_rules.specs.declared.faults.AttrFault.{AttrFault}
use Rattle.attribute_rules.specs.declared.faults.AttrFault.TheVariants.{Shape, Unknown, NotAllowed, Kind as WrongKind, Missing, AcpiNotAlone, OutOfMemory}
use Rattle.attribute_rules.proofs.ContentsLemmas.{seen}
use Rattle.m2m_names.proofs.AttributeLemmas.{attr_again}
use Rattle.m2m_names.proofs.LookupLemmas.{option_or-None}

-- ---- the attribute of a key

-- a key with the short name of what an instance holds is that attribute's
pub con_named : (key : List ℕ) → bytes_eq key (attr_short Con) ≡ true → Some Con ≡ attr_of_short key
con_named key same = subst (λ (k : List ℕ). Some Con ≡ attr_of_short k) (sym ((bytes_eq-Decides key (attr_short Con)).0 same)) (sym (attr_again Con))

-- ---- what a member may have for a fault

-- no fault, or one of the three that members have
abbrev pub is_of_key : Option AttrFault → Bool
is_of_key None = true
is_of_key (Some Shape) = false
is_of_key (Some (Unknown key)) = true
is_of_key (Some (NotAllowed attr)) = true
is_of_key (Some (WrongKind attr)) = true
is_of_key (Some (Missing attr)) = false
is_of_key (Some AcpiNotAlone) = false
is_of_key (Some OutOfMemory) = false

value_of_key : (writing : Writing) (attr : Attr) (rule : Rule) (d : Data) → is_of_key (value_fault writing attr rule d) ≡ true
value_of_key writing attr rule d = elim (cases_Bool (is_permitted (column_of writing rule))) [
  | inl t ↦ elim (cases_Bool (allows_value writing rule d)) [
    | inl s ↦ rw (t, s) refl
    | inr g ↦ rw (t, g) refl
  ]
  | inr f ↦ rw f refl
]

of_key_at : (writing : Writing) (e : Entry) (o : Option (Attr × Rule)) → is_of_key (option_map_or (λ (p : Attr × Rule). value_fault writing p.0 p.1 e.1) o (Some (Unknown e.0))) ≡ true
of_key_at writing e None = refl
of_key_at writing e (Some p) = value_of_key writing p.0 p.1 e.1

pub of_key : (writing : Writing) (ty : Ty) (e : Entry) → is_of_key (key_fault writing ty e) ≡ true
of_key writing ty e = of_key_at writing e (rule_at ty e.0)

-- ---- one more fault

or_first : {X : Type 0} (o : Option X) (x : X) (rest : Option X) → option_or (option_or o (Some x)) rest ≡ option_or o (Some x)
or_first None x rest = refl
or_first (Some y) x rest = refl

-- the fault of a member goes to its kind, and the first of that kind stays
pub unknown_step : (o now : Option AttrFault) (fs : List AttrFault) → option_map_or is_unknown now false ≡ true → option_or (option_or o now) (find is_unknown fs) ≡ option_or o (find is_unknown (cons_option now fs))
unknown_step o None fs t = let no : false ≡ true = t in cc
unknown_step o (Some f) fs t = or_first o f (find is_unknown fs) ∙ rw t refl

pub not_allowed_step : (o now : Option AttrFault) (fs : List AttrFault) → option_map_or is_not_allowed now false ≡ true → option_or (option_or o now) (find is_not_allowed fs) ≡ option_or o (find is_not_allowed (cons_option now fs))
not_allowed_step o None fs t = let no : false ≡ true = t in cc
not_allowed_step o (Some f) fs t = or_first o f (find is_not_allowed fs) ∙ rw t refl

pub wrong_step : (o now : Option AttrFault) (fs : List AttrFault) → is_of_key now ≡ true → option_map_or is_unknown now false ≡ false → option_map_or is_not_allowed now false ≡ false → option_or (option_or o now) (find is_wrong_kind fs) ≡ option_or o (find is_wrong_kind (cons_option now fs))
wrong_step o None fs key u n = ap (λ first. option_or first (find is_wrong_kind fs)) (option_or-None o)
wrong_step o (Some Shape) fs key u n = let no : false ≡ true = key in cc
wrong_step o (Some (Unknown k)) fs key u n = let no : true ≡ false = u in cc
wrong_step o (Some (NotAllowed a)) fs key u n = let no : true ≡ false = n in cc
wrong_step o (Some (WrongKind a)) fs key u n = or_first o (WrongKind a) (find is_wrong_kind fs)
wrong_step o (Some (Missing a)) fs key u n = let no : false ≡ true = key in cc
wrong_step o (Some AcpiNotAlone) fs key u n = let no : false ≡ true = key in cc
wrong_step o (Some OutOfMemory) fs key u n = let no : false ≡ true = key in cc

-- a fault of another kind changes nothing
pub unknown_skip : (now : Option AttrFault) (fs : List AttrFault) → option_map_or is_unknown now false ≡ false → find is_unknown (cons_option now fs) ≡ find is_unknown fs
unknown_skip None fs f = refl
unknown_skip (Some fault) fs f = rw f refl

pub not_allowed_skip : (now : Option AttrFault) (fs : List AttrFault) → option_map_or is_not_allowed now false ≡ false → find is_not_allowed (cons_option now fs) ≡ find is_not_allowed fs
not_allowed_skip None fs f = refl
not_allowed_skip (Some fault) fs f = rw f refl

-- what is unknown is not of the other kinds, and what may not stand there has no wrong value
pub unknown_is : (now : Option AttrFault) → option_map_or is_unknown now false ≡ true → option_map_or is_not_allowed now false ≡ false
unknown_is None t = refl
unknown_is (Some Shape) t = refl
unknown_is (Some (Unknown k)) t = refl
unknown_is (Some (NotAllowed a)) t = let no : false ≡ true = t in cc
unknown_is (Some (WrongKind a)) t = refl
unknown_is (Some (Missing a)) t = refl
unknown_is (Some AcpiNotAlone) t = refl
unknown_is (Some OutOfMemory) t = refl

pub wrong_skip_unknown : (now : Option AttrFault) (fs : List AttrFault) → option_map_or is_unknown now false ≡ true → find is_wrong_kind (cons_option now fs) ≡ find is_wrong_kind fs
wrong_skip_unknown None fs t = refl
wrong_skip_unknown (Some Shape) fs t = refl
wrong_skip_unknown (Some (Unknown k)) fs t = refl
wrong_skip_unknown (Some (NotAllowed a)) fs t = refl
wrong_skip_unknown (Some (WrongKind a)) fs t = let no : false ≡ true = t in cc
wrong_skip_unknown (Some (Missing a)) fs t = refl
wrong_skip_unknown (Some AcpiNotAlone) fs t = refl
wrong_skip_unknown (Some OutOfMemory) fs t = refl

pub wrong_skip_not_allowed : (now : Option AttrFault) (fs : List AttrFault) → option_map_or is_not_allowed now false ≡ true → find is_wrong_kind (cons_option now fs) ≡ find is_wrong_kind fs
wrong_skip_not_allowed None fs t = refl
wrong_skip_not_allowed (Some Shape) fs t = refl
wrong_skip_not_allowed (Some (Unknown k)) fs t = refl
wrong_skip_not_allowed (Some (NotAllowed a)) fs t = refl
wrong_skip_not_allowed (Some (WrongKind a)) fs t = let no : false ≡ true = t in cc
wrong_skip_not_allowed (Some (Missing a)) fs t = refl
wrong_skip_not_allowed (Some AcpiNotAlone) fs t = refl
wrong_skip_not_allowed (Some OutOfMemory) fs t = refl

-- with the fault of one more key, the first of each kind is the first of all
pub adds_unknown : (firsts : Firsts) (now : Option AttrFault) (fs : List AttrFault) → option_or (with_fault firsts now).unknown (find is_unknown fs) ≡ option_or firsts.unknown (find is_unknown (cons_option now fs))
adds_unknown firsts now fs = elim (cases_Bool (option_map_or is_unknown now false)) [
  | inl t ↦ rw t (unknown_step firsts.unknown now fs t)
  | inr f ↦ rw f (elim (cases_Bool (option_map_or is_not_allowed now false)) [
    | inl s ↦ rw s (ap (option_or firsts.unknown) (sym (unknown_skip now fs f)))
    | inr g ↦ rw g (ap (option_or firsts.unknown) (sym (unknown_skip now fs f)))
  ])
]

pub adds_not_allowed : (firsts : Firsts) (now : Option AttrFault) (fs : List AttrFault) → option_or (with_fault firsts now).not_allowed (find is_not_allowed fs) ≡ option_or firsts.not_allowed (find is_not_allowed (cons_option now fs))
adds_not_allowed firsts now fs = elim (cases_Bool (option_map_or is_unknown now false)) [
  | inl t ↦ rw t (ap (option_or firsts.not_allowed) (sym (not_allowed_skip now fs (unknown_is now t))))
  | inr f ↦ rw f (elim (cases_Bool (option_map_or is_not_allowed now false)) [
    | inl s ↦ rw s (not_allowed_step firsts.not_allowed now fs s)
    | inr g ↦ rw g (ap (option_or firsts.not_allowed) (sym (not_allowed_skip now fs g)))
  ])
]

pub adds_wrong : (firsts : Firsts) (now : Option AttrFault) (fs : List AttrFault) → is_of_key now ≡ true → option_or (with_fault firsts now).wrong (find is_wrong_kind fs) ≡ option_or firsts.wrong (find is_wrong_kind (cons_option now fs))
adds_wrong firsts now fs key = elim (cases_Bool (option_map_or is_unknown now false)) [
  | inl t ↦ rw t (ap (option_or firsts.wrong) (sym (wrong_skip_unknown now fs t)))
  | inr f ↦ rw f (elim (cases_Bool (option_map_or is_not_allowed now false)) [
    | inl s ↦ rw s (ap (option_or firsts.wrong) (sym (wrong_skip_not_allowed now fs s)))
    | inr g ↦ rw g (wrong_step firsts.wrong now fs key f g)
  ])
]

-- ---- an unknown key

-- where some key is unknown, that is the first fault
pub found_unknown : (fs : List AttrFault) (rest : Option AttrFault) → is_some (find is_unknown fs) ≡ true → has_unknown (option_or (find is_unknown fs) rest) ≡ true
found_unknown [] rest t = let no : false ≡ true = t in cc
found_unknown (f ∷ fs) rest t = elim (cases_Bool (is_unknown f)) [
  | inl u ↦ rw u u
  | inr n ↦ let left : is_some (find is_unknown fs) ≡ true = rw n at t in rw n (found_unknown fs rest left)
]

pub some_behind : {X : Type 0} (o : Option X) (x : X) → is_some (option_or o (Some x)) ≡ true
some_behind None x = refl
some_behind (Some y) x = refl

-- and it stays so, whatever else is wrong
pub still_unknown : (o rest : Option AttrFault) → has_unknown o ≡ true → has_unknown (option_or o rest) ≡ true
still_unknown None rest t = let no : false ≡ true = t in cc
still_unknown (Some f) rest t = t

-- ---- what is told

-- what is told of a content that names no attributes, and of one that has a fault
pub shape_told : (writing : Writing) (ty : Ty) (content : Data) → attributes_in ty content ≡ None → IsTold (fault_of writing ty content) Shape
shape_told writing ty content none = inl (ap (λ o. option_map_or (fault_in writing ty) o (Some Shape)) none)

pub fault_told : (writing : Writing) (ty : Ty) (content : Data) (es : List Entry) (fault : AttrFault) → attributes_in ty content ≡ Some es → fault_in writing ty es ≡ Some fault → IsTold (fault_of writing ty content) fault
fault_told writing ty content es fault named is = inl (ap (λ o. option_map_or (fault_in writing ty) o (Some Shape)) named ∙ is)

pub memory_told : (writing : Writing) (ty : Ty) (content : Data) (es : List Entry) → attributes_in ty content ≡ Some es → has_unknown (fault_in writing ty es) ≡ true → IsTold (fault_of writing ty content) OutOfMemory
memory_told writing ty content es named unknown = inr (refl, ap (λ o. has_unknown (option_map_or (fault_in writing ty) o (Some Shape))) named ∙ unknown)

-- where there is no fault, what is told is that memory ran out; else the content is refused
pub told_admitted : (fault : Option AttrFault) (told : AttrFault) → IsTold fault told → IfNone fault (told ≡ OutOfMemory)
told_admitted None told (inl is) = cc
told_admitted None told (inr memory) = memory.0
told_admitted (Some f) told is = tt

pub told_refused : (A : Type 0) (fault : Option AttrFault) (told : AttrFault) → IsTold fault told → IfSome fault (Refuses {A = A} (Err told))
told_refused A None told is = tt
told_refused A (Some f) told (inl is) = inl cc
told_refused A (Some f) told (inr memory) = inr (ap Err memory.0, memory.1)

-- ---- no fault

none_from : {X : Type 0} (o : Option X) → is_none o ≡ true → o ≡ None
none_from None t = refl
none_from (Some x) t = cc

fit_at : (writing : Writing) (e : Entry) (o : Option (Attr × Rule)) → option_map_or (λ (p : Attr × Rule). is_permitted (column_of writing p.1) && allows_value writing p.1 e.1) o false ≡ is_none (option_map_or (λ (p : Attr × Rule). value_fault writing p.0 p.1 e.1) o (Some (Unknown e.0)))
fit_at writing e None = refl
fit_at writing e (Some p) = elim (cases_Bool (is_permitted (column_of writing p.1))) [
  | inl t ↦ elim (cases_Bool (allows_value writing p.1 e.1)) [
    | inl s ↦ rw (t, s) refl
    | inr g ↦ rw (t, g) refl
  ]
  | inr f ↦ rw f refl
]

-- a member fits where it has no fault
pub fit_none : (writing : Writing) (ty : Ty) (e : Entry) → is_fit writing ty e ≡ is_none (key_fault writing ty e)
fit_none writing ty e = fit_at writing e (rule_at ty e.0)

some_or : {X : Type 0} (o : Option X) (x : X) → is_none (option_or o (Some x)) ≡ false
some_or None x = refl
some_or (Some y) x = refl

some_or_or : {X : Type 0} (o : Option X) (x : X) (rest : Option X) → is_none (option_or o (option_or (Some x) rest)) ≡ false
some_or_or None x rest = refl
some_or_or (Some y) x rest = refl

or_some_or : {X : Type 0} (o p : Option X) (x : X) → is_none (option_or o (option_or p (Some x))) ≡ false
or_some_or None p x = some_or p x
or_some_or (Some y) p x = refl

first_some : (f : AttrFault) (fs : List AttrFault) → is_of_key (Some f) ≡ true → is_none (leading_fault (f ∷ fs)) ≡ false
first_some Shape fs key = let no : false ≡ true = key in cc
first_some (Unknown k) fs key = refl
first_some (NotAllowed a) fs key = some_or_or (find is_unknown fs) (NotAllowed a) (find is_wrong_kind fs)
first_some (WrongKind a) fs key = or_some_or (find is_unknown fs) (find is_not_allowed fs) (WrongKind a)
first_some (Missing a) fs key = let no : false ≡ true = key in cc
first_some AcpiNotAlone fs key = let no : false ≡ true = key in cc
first_some OutOfMemory fs key = let no : false ≡ true = key in cc

keys_none : (writing : Writing) (ty : Ty) (es : List Entry) → list_all (is_fit writing ty) es ≡ is_none (leading_fault (filter_map (key_fault writing ty) es))
keys_none writing ty [] = refl
keys_none writing ty (e ∷ es) = elim (seen (key_fault writing ty e)) [
  | inl none ↦
      let fits : is_fit writing ty e ≡ true = fit_none writing ty e ∙ ap is_none none in
      ap (λ b. b && list_all (is_fit writing ty) es) fits ∙ keys_none writing ty es
      ∙ ap (λ o. is_none (leading_fault (cons_option o (filter_map (key_fault writing ty) es)))) (sym none)
  | inr found ↦
      let unfit : is_fit writing ty e ≡ false = fit_none writing ty e ∙ ap is_none found.1 in
      let key : is_of_key (Some found.0) ≡ true = ap is_of_key (sym found.1) ∙ of_key writing ty e in
      ap (λ b. b && list_all (is_fit writing ty) es) unfit
      ∙ sym (first_some found.0 (filter_map (key_fault writing ty) es) key)
      ∙ ap (λ o. is_none (leading_fault (cons_option o (filter_map (key_fault writing ty) es)))) (sym found.1)
]

named_none : (es : List Entry) (attrs : List Attr) → list_all (λ attr. is_named attr es) attrs ≡ is_none (option_map Missing (find (λ attr. not (is_named attr es)) attrs))
named_none es [] = refl
named_none es (a ∷ attrs) = elim (cases_Bool (is_named a es)) [
  | inl t ↦ rw t (named_none es attrs)
  | inr f ↦ rw f refl
]

rest_none : (writing : Writing) (ty : Ty) (es : List Entry) → is_complete writing ty es ≡ is_none (rest_fault writing ty es)
rest_none Create ty es = named_none es (mandatory_attrs ty)
rest_none Update ty es = elim (cases_Bool (is_named Acpi es)) [
  | inl t ↦ elim (cases_Bool (is_alone es)) [
    | inl s ↦ rw (t, s) refl
    | inr g ↦ rw (t, g) refl
  ]
  | inr f ↦ rw f refl
]

both_none : {X : Type 0} (o p : Option X) → (is_none o && is_none p) ≡ is_none (option_or o p)
both_none None p = refl
both_none (Some x) p = refl

-- the members are admitted where there is no fault in them
pub members_faultless : (writing : Writing) (ty : Ty) (es : List Entry) → are_admitted writing ty es ≡ is_none (fault_in writing ty es)
members_faultless writing ty es =
    ap (λ b. b && is_complete writing ty es) (keys_none writing ty es)
    ∙ ap (λ b. is_none (leading_fault (filter_map (key_fault writing ty) es)) && b) (rest_none writing ty es)
    ∙ both_none (leading_fault (filter_map (key_fault writing ty) es)) (rest_fault writing ty es)

faultless_at : (writing : Writing) (ty : Ty) (o : Option (List Entry)) → option_map_or (are_admitted writing ty) o false ≡ is_none (option_map_or (fault_in writing ty) o (Some Shape))
faultless_at writing ty None = refl
faultless_at writing ty (Some es) = members_faultless writing ty es

pub faultless : (writing : Writing) (ty : Ty) (content : Data) → is_admitted writing ty content ≡ is_none (fault_of writing ty content)
faultless writing ty content = faultless_at writing ty (attributes_in ty content)

-- what is admitted has none
pub sorted_none : (writing : Writing) (ty : Ty) (content : Data) (es : List Entry) → attributes_in ty content ≡ Some es → are_admitted writing ty es ≡ true → fault_of writing ty content ≡ None
sorted_none writing ty content es is admitted =
    ap (λ o. option_map_or (fault_in writing ty) o (Some Shape)) is
    ∙ none_from (fault_in writing ty es) (sym (members_faultless writing ty es) ∙ admitted)
