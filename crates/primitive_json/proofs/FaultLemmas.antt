-- What members are that have no fault.
use Rattle.std.proofs.Common.{◌≡◌, ℕ, List, [], ◌∷◌, Bool, true, false, not, ◌&&◌, ◌||◌, cond, bytes_eq, is_some, is_none, Option, Some, None, option_map, option_and_then, Ok, refl, sym, ap, ◌∙◌}
use Rattle.std.proofs.lemmas.Slice.Eq.{bytes_eq-Decides}
use Rattle.std.specs.Option.{option_or, option_map_or}
use Rattle.m2m_names.specs.declared.operations.Op.{Op}
use Rattle.m2m_value.specs.Data.{Data, Entry}
use Rattle.m2m_value.specs.View.{member_of}
use Rattle.primitive_json.specs.Kinds.{read_operation}
use Rattle.primitive_json.specs.Members.{row_of_member, name_of_member, member_named, is_one_unread, is_read, is_needed}
use Rattle.primitive_json.specs.Reading.{read_as, is_of_kind, is_good_member, is_good, is_missing, missing_member, bad_entry, request_fault, operation_in}
use Rattle.primitive_json.specs.declared.fault.PrimFault.{PrimFault}
use Rattle.primitive_json.specs.declared.fault.PrimFault.TheVariants.{Missing, Bad}
use Rattle.primitive_json.specs.declared.member.Member.{Member}
use Rattle.primitive_json.specs.declared.member.Member.TheVariants.{DesiredForm, FilterCriteria, Originator, Operation, Content, ResultContent, Expiry, RequestId, ResponseType, Target, ResourceType}
use Rattle.std.proofs.lemmas.Bool.{not-false}

-- each member is found at its name
pub named_again : (member : Member) → member_named (name_of_member member) ≡ Some member
named_again DesiredForm = refl
named_again FilterCriteria = refl
named_again Originator = refl
named_again Operation = refl
named_again Content = refl
named_again ResultContent = refl
named_again Expiry = refl
named_again RequestId = refl
named_again ResponseType = refl
named_again Target = refl
named_again ResourceType = refl

-- what is read has no fault
pub read_without_fault : {A : Type 0} (fault : Option PrimFault) (made a : A) → read_as fault made ≡ Ok a → (fault ≡ None) × (made ≡ a)
read_without_fault None made a e = (refl, cc)
read_without_fault (Some fault) made a e = cc

pub read_if_no_fault : {A : Type 0} (fault : Option PrimFault) (made a : A) → fault ≡ None → made ≡ a → read_as fault made ≡ Ok a
read_if_no_fault fault made a none same = ap (λ f. read_as f made) none ∙ ap Ok same

neither : (m : Option Member) (e : Option Entry) → option_or (option_map (λ member. Missing (name_of_member member)) m) (option_map (λ e. Bad e.0) e) ≡ None → (m ≡ None) × (e ≡ None)
neither None None h = (refl, refl)
neither None (Some e) h = cc
neither (Some m) e h = cc

-- without a fault nothing is missing, and nothing is bad
pub no_fault : (op : Option Op) (es : List Entry) → request_fault op es ≡ None → (missing_member op es ≡ None) × (bad_entry op es ≡ None)
no_fault op es h = neither (missing_member op es) (bad_entry op es) h

-- ---- nothing is missing

first_fails : {A : Type 0} (b : Bool) (a : A) (rest : Option A) → cond b (Some a) rest ≡ None → (b ≡ false) × (rest ≡ None)
first_fails true a rest h = cc
first_fails false a rest h = (refl, h)

there : (o : Option Data) → is_none o ≡ false → (d : Data) × (o ≡ Some d)
there None h = cc
there (Some d) h = (d, refl)

need_met : (needed : Bool) (o : Option Data) → needed && is_none o ≡ false → needed ≡ true → is_none o ≡ false
need_met true o h needed = h
need_met false o h needed = cc

not_missing : (op : Option Op) (es : List Entry) → missing_member op es ≡ None → (member : Member) → is_missing op es member ≡ false
not_missing op es h =
    let a = first_fails _ DesiredForm _ h in
    let b = first_fails _ FilterCriteria _ a.1 in
    let c = first_fails _ Originator _ b.1 in
    let d = first_fails _ Operation _ c.1 in
    let e = first_fails _ Content _ d.1 in
    let f = first_fails _ ResultContent _ e.1 in
    let g = first_fails _ Expiry _ f.1 in
    let k = first_fails _ RequestId _ g.1 in
    let l = first_fails _ ResponseType _ k.1 in
    let m = first_fails _ Target _ l.1 in
    let n = first_fails _ ResourceType _ m.1 in
    λ member. elim member as (λ x. is_missing op es x ≡ false) [
      | DesiredForm ↦ a.0
      | FilterCriteria ↦ b.0
      | Originator ↦ c.0
      | Operation ↦ d.0
      | Content ↦ e.0
      | ResultContent ↦ f.0
      | Expiry ↦ g.0
      | RequestId ↦ k.0
      | ResponseType ↦ l.0
      | Target ↦ m.0
      | ResourceType ↦ n.0
    ]

-- what must be there is there
pub needed_is_there : (op : Option Op) (es : List Entry) (member : Member) → request_fault op es ≡ None → is_needed op member ≡ true → (d : Data) × (member_of (name_of_member member) es ≡ Some d)
needed_is_there op es member h needed =
    there (member_of (name_of_member member) es) (need_met (is_needed op member) _ (not_missing op es (no_fault op es h).0 member) needed)

-- ---- nothing is bad

at_head : (op : Option Op) (key k : List ℕ) (v d : Data) (rest : List Entry) (same : Bool) → bytes_eq key k ≡ same → is_good op (k, v) ≡ true → (member_of key rest ≡ Some d → is_good op (key, d) ≡ true)
    → cond same (Some v) (member_of key rest) ≡ Some d → is_good op (key, d) ≡ true
at_head op key k v d rest true e good more found =
    let value : v ≡ d = cc in
    ap (λ n. is_good op (n, d)) ((bytes_eq-Decides key k).0 e) ∙ ap (λ x. is_good op (k, x)) (sym value) ∙ good
at_head op key k v d rest false e good more found = more found

good_at : (op : Option Op) (key : List ℕ) (d : Data) (es : List Entry) → bad_entry op es ≡ None → member_of key es ≡ Some d → is_good op (key, d) ≡ true
good_at op key d [] none found = cc
good_at op key d ((k, v) ∷ es) none found =
    let here = first_fails (not (is_good op (k, v))) (k, v) (bad_entry op es) none in
    at_head op key k v d es _ refl (not-false _ here.0) (good_at op key d es here.1) found

read_fits : (is : Bool) (fit : Bool) → is ≡ true → not is || fit ≡ true → fit ≡ true
read_fits true fit e h = h
read_fits false fit e h = cc

-- what is read is of its kind
pub fitting : (op : Option Op) (es : List Entry) (member : Member) (d : Data) → request_fault op es ≡ None → is_read op member ≡ true → member_of (name_of_member member) es ≡ Some d → is_of_kind op (row_of_member member).kind d ≡ true
fitting op es member d h read found =
    let good = good_at op (name_of_member member) d es (no_fault op es h).1 found in
    read_fits (is_read op member) (is_of_kind op (row_of_member member).kind d) read
    (sym (ap (λ m. option_map_or (is_good_member op d) m (is_one_unread (name_of_member member))) (named_again member)) ∙ good)

-- ---- the operation is known

known : (o : Option Op) → is_some o ≡ true → (op : Op) × (o ≡ Some op)
known None h = cc
known (Some op) h = (op, refl)

pub operation_is_known : (es : List Entry) → request_fault (operation_in es) es ≡ None → (op : Op) × (operation_in es ≡ Some op)
operation_is_known es h =
    let at = needed_is_there (operation_in es) es Operation h refl in
    let kind = known (read_operation at.0) (fitting (operation_in es) es Operation at.0 h refl at.1) in
    (kind.0, ap (option_and_then read_operation) at.1 ∙ kind.1)
