-- Requests and replies are read back from what is written of them, and what is read is of its kinds.
use Rattle.std.proofs.Common.{◌≡◌, ℕ, nat_le, ℤ, pos, List, [], ◌∷◌, map, Bool, true, false, not, ◌&&◌, ◌||◌, is_some, is_none, if◌then◌else◌, Option, Some, None, option_map, option_and_then, unwrap_or, IfSome, Result, Ok, Err, refl, sym, ap, ◌∙◌, subst}
use Rattle.std.proofs.lemmas.Bool.{and_parts}
use Rattle.std.specs.List.{list_all, list_any, find}
use Rattle.std.specs.Option.{option_or, option_map_or}
use Rattle.std.specs.Ordering.{int_eq}
use Rattle.m2m_names.specs.Name.{is_filled, is_originator}
use Rattle.m2m_names.specs.Types.{is_type_number}
use Rattle.m2m_names.specs.Operations.{op_row}
use Rattle.m2m_names.specs.declared.operations.Op.{Op}
use Rattle.m2m_names.specs.declared.operations.Op.TheVariants.{Create, Retrieve, Update, Delete, Notify}
use Rattle.m2m_names.proofs.OperationLemmas.{op_again}
use Rattle.m2m_value.specs.Data.{Data, number, text, object, Entry, pairs_of}
use Rattle.m2m_value.specs.Shapes.{as_count}
use Rattle.m2m_value.specs.View.{as_text, as_number, as_object, member_of, text_or_empty}
use Rattle.primitive_json.specs.Bounds.{is_request_id}
use Rattle.filter_criteria.specs.Conditions.{is_filter, filter_in}
use Rattle.filter_criteria.specs.Laws.{IsFilterOfKinds}
use Rattle.filter_criteria.specs.Values.{NamedValue, members_in, read_type_number, present, count_data}
use Rattle.filter_criteria.specs.Writing.{written_filter}
use Rattle.filter_criteria.specs.declared.filter.FilterParts.{FilterParts}
use Rattle.filter_criteria.proofs.FilterLemmas.{filter_back, filter_fits, filter_of_kinds}
use Rattle.filter_criteria.proofs.PartLemmas.{where_kept, where_passes, passes_along, each_back}
use Rattle.filter_criteria.proofs.Present.{member_of-present, members_in-object_of, none_fails, all_rows}
use Rattle.primitive_json.specs.Kinds.{is_number_among, address_forms, read_operation, result_contents, read_response_type, read_expiry}
use Rattle.primitive_json.specs.Laws.{IsWhenOfKind, IsShortWhen, IsOfKinds, HasShortExpiry}
use Rattle.primitive_json.proofs.FormLemmas.{KindByKind, joined_kinds, kinds_apart}
use Rattle.primitive_json.specs.Form.{is_only_read}
use Rattle.primitive_json.specs.Members.{creates, retrieves, has_content, has_result, all_members, name_of_member, is_read, is_needed}
use Rattle.primitive_json.specs.Reading.{read_as, is_good, is_missing, missing_member, bad_entry, request_fault, value_read, operation_in, request_made, request_of_members, read_request}
use Rattle.primitive_json.specs.Writing.{only_where, expiry_data, member_value, written_member, written_request}
use Rattle.primitive_json.proofs.FaultLemmas.{named_again, read_without_fault, read_if_no_fault, needed_is_there, fitting, operation_is_known}
use Rattle.primitive_json.proofs.KindLemmas.{told_passes, told_or_passes, expiry_back, when_of_kind}
use Rattle.primitive_json.specs.declared.fault.PrimFault.TheVariants.{Missing, Bad}
use Rattle.primitive_json.specs.declared.member.Member.{Member}
use Rattle.primitive_json.specs.declared.member.Member.TheVariants.{DesiredForm, FilterCriteria, Originator, Operation, Content, ResultContent, Expiry, RequestId, ResponseType, Target, ResourceType}
use Rattle.primitive_json.specs.declared.request.RequestParts.{RequestParts}
use Rattle.primitive_json.specs.declared.request.When.{When}

-- ---- the value at the name of a member of what is written

pub there : (r : RequestParts) (member : Member) → member_of (name_of_member member) (present (map (written_member r) all_members)) ≡ member_value r member
there r DesiredForm = member_of-present (name_of_member DesiredForm) (map (written_member r) all_members) refl
there r FilterCriteria = member_of-present (name_of_member FilterCriteria) (map (written_member r) all_members) refl
there r Originator = member_of-present (name_of_member Originator) (map (written_member r) all_members) refl
there r Operation = member_of-present (name_of_member Operation) (map (written_member r) all_members) refl
there r Content = member_of-present (name_of_member Content) (map (written_member r) all_members) refl
there r ResultContent = member_of-present (name_of_member ResultContent) (map (written_member r) all_members) refl
there r Expiry = member_of-present (name_of_member Expiry) (map (written_member r) all_members) refl
there r RequestId = member_of-present (name_of_member RequestId) (map (written_member r) all_members) refl
there r ResponseType = member_of-present (name_of_member ResponseType) (map (written_member r) all_members) refl
there r Target = member_of-present (name_of_member Target) (map (written_member r) all_members) refl
there r ResourceType = member_of-present (name_of_member ResourceType) (map (written_member r) all_members) refl

-- ---- nothing is missing

kept_where : {A : Type 0} (b : Bool) (o : Option A) → is_some o ≡ b → b && is_none (only_where b o) ≡ false
kept_where true None h = cc
kept_where true (Some a) h = refl
kept_where false o h = refl

mapped : {A B : Type 0} (f : A → B) (o : Option A) (b : Bool) → is_some o ≡ b → is_some (option_map f o) ≡ b
mapped f None b h = h
mapped f (Some a) b h = h

-- what must be there is written
written_if_needed : (r : RequestParts) → KindByKind r → (member : Member) → is_needed (Some r.op) member && is_none (member_value r member) ≡ false
written_if_needed r kinds DesiredForm = refl
written_if_needed r kinds FilterCriteria = refl
written_if_needed r kinds Originator = refl
written_if_needed r kinds Operation = refl
written_if_needed r kinds Content = kept_where (has_content r.op) r.pc kinds.pc_there
written_if_needed r kinds ResultContent = refl
written_if_needed r kinds Expiry = refl
written_if_needed r kinds RequestId = refl
written_if_needed r kinds ResponseType = refl
written_if_needed r kinds Target = refl
written_if_needed r kinds ResourceType = kept_where (creates r.op) (option_map count_data r.ty) (mapped count_data r.ty _ kinds.ty_there)

none_found : {A : Type 0} (test : A → Bool) → ((a : A) → test a ≡ false) → (xs : List A) → find test xs ≡ None
none_found test none [] = refl
none_found test none (x ∷ xs) = rw (none x) (none_found test none xs)

-- ---- nothing is bad

passes_or : (a b : Bool) → b ≡ true → a || b ≡ true
passes_or true b h = refl
passes_or false b h = h

if_some : {A B : Type 0} (write : A → B) (P : A → Type 0) (Q : B → Type 0) → ((a : A) → P a → Q (write a)) → (o : Option A) → IfSome o P → IfSome (option_map write o) Q
if_some write P Q each None h = tt
if_some write P Q each (Some a) h = each a h

if_kept : {A : Type 0} (Q : A → Type 0) (b : Bool) (o : Option A) → IfSome o Q → IfSome (only_where b o) Q
if_kept Q true o h = h
if_kept Q false o h = tt

each_good : (r : RequestParts) → KindByKind r → HasShortExpiry r → (member : Member) → IfSome (member_value r member) (λ d. is_good (Some r.op) (name_of_member member, d) ≡ true)
each_good r kinds short DesiredForm =
    if_some number (λ z. list_any (λ n. int_eq n z) address_forms ≡ true) (λ d. is_good (Some r.op) (name_of_member DesiredForm, d) ≡ true)
    (λ z h. h) r.drt kinds.drt
each_good r kinds short FilterCriteria =
    let Q : Data → Type 0 = λ d. is_good (Some r.op) (name_of_member FilterCriteria, d) ≡ true in
    if_kept Q (retrieves r.op) (option_map written_filter r.fc)
    (if_some written_filter (λ f. (retrieves r.op ≡ true) × IsFilterOfKinds f) Q (λ f h. rw h.0 (filter_fits f h.1)) r.fc kinds.fc)
each_good r kinds short Originator =
    if_some text (λ s. is_originator s ≡ true) (λ d. is_good (Some r.op) (name_of_member Originator, d) ≡ true) (λ s h. h) r.fr kinds.fr
each_good r kinds short Operation = ap is_some (op_again r.op)
each_good r kinds short Content =
    let Q : Data → Type 0 = λ d. is_good (Some r.op) (name_of_member Content, d) ≡ true in
    if_kept Q (has_content r.op) r.pc (weaker r.pc kinds.pc)
  where
    weaker : (o : Option Data) → IfSome o (λ d. is_some (as_object d) ≡ true) → IfSome o (λ d. not (has_content r.op) || is_some (as_object d) ≡ true)
    weaker None h = tt
    weaker (Some d) h = passes_or (not (has_content r.op)) (is_some (as_object d)) h
each_good r kinds short ResultContent =
    if_some number (λ z. list_any (λ n. int_eq n z) (result_contents r.op) ≡ true) (λ d. is_good (Some r.op) (name_of_member ResultContent, d) ≡ true)
    (λ z h. passes_or (not (has_result r.op)) _ h) r.rcn kinds.rcn
each_good r kinds short Expiry = timely r.rqet kinds.rqet short
  where
    timely : (o : Option When) → IfSome o IsWhenOfKind → IfSome o IsShortWhen → IfSome (option_map expiry_data o) (λ d. is_some (read_expiry d) ≡ true)
    timely None kind short = tt
    timely (Some when) kind short = ap is_some (expiry_back when kind short)
each_good r kinds short RequestId = kinds.rqi
each_good r kinds short ResponseType = if_some number (λ z. Unit {0}) (λ d. is_good (Some r.op) (name_of_member ResponseType, d) ≡ true) (λ z h. refl) r.rt (any r.rt)
  where
    any : (o : Option ℤ) → IfSome o (λ z. Unit {0})
    any None = tt
    any (Some z) = tt
each_good r kinds short Target = kinds.to
each_good r kinds short ResourceType =
    let Q : Data → Type 0 = λ d. is_good (Some r.op) (name_of_member ResourceType, d) ≡ true in
    if_kept Q (creates r.op) (option_map count_data r.ty)
    (if_some count_data (λ n. is_type_number n ≡ true) Q (λ n h. passes_or (not (creates r.op)) _ (ap is_some (where_kept is_type_number n h))) r.ty kinds.ty)

-- ---- each parameter is read back

scoped : {A : Type 0} (read : Data → Option A) (write : A → Data) (b : Bool) (o : Option A) → is_some o ≡ b → option_and_then read (option_map write o) ≡ o → option_and_then read (only_where b (only_where b (option_map write o))) ≡ o
scoped read write true o there h = h
scoped read write false None there h = refl
scoped read write false (Some a) there h = cc

kept_twice : {A : Type 0} (b : Bool) (o : Option A) → is_some o ≡ b → only_where b (only_where b o) ≡ o
kept_twice true o there = refl
kept_twice false None there = refl
kept_twice false (Some a) there = cc

any_number : (o : Option ℤ) → IfSome o (λ z. Unit {0})
any_number None = tt
any_number (Some z) = tt

timely_back : (o : Option When) → IfSome o IsWhenOfKind → IfSome o IsShortWhen → option_and_then read_expiry (option_map expiry_data o) ≡ o
timely_back None kind short = refl
timely_back (Some when) kind short = expiry_back when kind short

text_again : (o : Option (List ℕ)) → option_and_then as_text (option_map text o) ≡ o
text_again None = refl
text_again (Some s) = refl

number_again : (o : Option ℤ) → option_and_then as_number (option_map number o) ≡ o
number_again None = refl
number_again (Some z) = refl

result_back : (op : Op) (o : Option ℤ) → IfSome o (λ z. list_any (λ n. int_eq n z) (result_contents op) ≡ true) → option_and_then as_number (only_where (has_result op) (option_map number o)) ≡ o
result_back Create o h = number_again o
result_back Retrieve o h = number_again o
result_back Update o h = number_again o
result_back Delete o h = number_again o
result_back Notify None h = refl
result_back Notify (Some z) h = cc

filter_there : (b : Bool) (o : Option FilterParts) → IfSome o (λ f. (b ≡ true) × IsFilterOfKinds f) → option_map (λ d. filter_in (members_in d)) (only_where b (option_map written_filter o)) ≡ o
filter_there true None h = refl
filter_there false None h = refl
filter_there true (Some f) h = ap Some (filter_back f h.1)
filter_there false (Some f) h = cc

both_none : (m : Option Member) (e : Option Entry) → m ≡ None → e ≡ None → option_or (option_map (λ member. Missing (name_of_member member)) m) (option_map (λ e. Bad e.0) e) ≡ None
both_none None None a b = refl
both_none None (Some e) a b = cc
both_none (Some m) e a b = cc

module _ (r : RequestParts) (is : IsOfKinds r) (short : HasShortExpiry r) where
  kinds : KindByKind r
  kinds = kinds_apart r is

  abbrev es : List Entry
  es = present (map (written_member r) all_members)

  same_request : request_made r.op es ≡ r
  same_request =
      let to = ap text_or_empty (there r Target) in
      let fr = ap (option_and_then as_text) (there r Originator) ∙ text_again r.fr in
      let rqi = ap text_or_empty (there r RequestId) in
      let ty = ap (λ (d : Option Data). option_and_then read_type_number (only_where (creates r.op) d)) (there r ResourceType)
      ∙ scoped read_type_number count_data (creates r.op) r.ty kinds.ty_there (each_back read_type_number count_data (λ n. is_type_number n ≡ true) (where_kept is_type_number) r.ty kinds.ty) in
      let pc = ap (only_where (has_content r.op)) (there r Content) ∙ kept_twice (has_content r.op) r.pc kinds.pc_there in
      let rqet = ap (option_and_then read_expiry) (there r Expiry) ∙ timely_back r.rqet kinds.rqet short in
      let rt = ap (option_and_then read_response_type) (there r ResponseType) ∙ each_back read_response_type number (λ z. Unit {0}) (λ z h. refl) r.rt (any_number r.rt) in
      let rcn = ap (λ (d : Option Data). option_and_then as_number (only_where (has_result r.op) d)) (there r ResultContent) ∙ result_back r.op r.rcn kinds.rcn in
      let fc = ap (option_map (λ (d : Data). filter_in (members_in d))) (there r FilterCriteria) ∙ filter_there (retrieves r.op) r.fc kinds.fc in
      let drt = ap (option_and_then as_number) (there r DesiredForm) ∙ number_again r.drt in
      λ i. record { op = r.op; to = to i; fr = fr i; rqi = rqi i; ty = ty i; pc = pc i; rqet = rqet i; rt = rt i; rcn = rcn i; fc = fc i; drt = drt i }

  nothing_missing : missing_member (Some r.op) es ≡ None
  nothing_missing = none_found (is_missing (Some r.op) es) (λ member. ap (λ (d : Option Data). is_needed (Some r.op) member && is_none d) (there r member) ∙ written_if_needed r kinds member) all_members

  nothing_bad : bad_entry (Some r.op) es ≡ None
  nothing_bad = none_fails (is_good (Some r.op)) (map (written_member r) all_members) (all_rows (is_good (Some r.op)) (written_member r) (each_good r kinds short) all_members)

  without_fault : request_fault (Some r.op) es ≡ None
  without_fault = both_none (missing_member (Some r.op) es) (bad_entry (Some r.op) es) nothing_missing nothing_bad

  operation_there : operation_in es ≡ Some r.op
  operation_there = ap (option_and_then read_operation) (there r Operation) ∙ op_again r.op

  -- a request of its kinds is read back
  pub request_back : read_request (written_request r) ≡ Ok r
  request_back =
      ap request_of_members (members_in-object_of (map (written_member r) all_members))
      ∙ ap (λ (o : Option Op). read_as (request_fault o es) (request_made (unwrap_or o Create) es)) operation_there
      ∙ read_if_no_fault (request_fault (Some r.op) es) (request_made r.op es) r without_fault same_request

-- ---- what is read is of its kinds

scoped_there : {A : Type 0} (read : Data → Option A) (b : Bool) (o : Option Data) → (b ≡ true → (d : Data) × (o ≡ Some d) × (is_some (read d) ≡ true)) → is_some (option_and_then read (only_where b o)) ≡ b
scoped_there read true o h = let at = h refl in ap (λ (x : Option Data). is_some (option_and_then read x)) at.1 ∙ at.2
scoped_there read false o h = refl

kept_there : (b : Bool) (o : Option Data) → (b ≡ true → (d : Data) × (o ≡ Some d)) → is_some (only_where b o) ≡ b
kept_there true o h = ap is_some (h refl).1
kept_there false o h = refl

if_read : (P : Data → Type 0) (b : Bool) (o : Option Data) → (b ≡ true → (d : Data) → o ≡ Some d → P d) → IfSome (only_where b o) P
if_read P true None h = tt
if_read P true (Some d) h = h refl d refl
if_read P false o h = tt

-- what a value is passes the test, where the value does
along : {A : Type 0} (read : Data → Option A) (test : A → Bool) (o : Option Data) → IfSome o (λ d. option_map_or test (read d) false ≡ true) → IfSome (option_and_then read o) (λ a. test a ≡ true)
along read test None h = tt
along read test (Some d) h = told_passes test (read d) h

read_along : {A : Type 0} (read : Data → Option A) (test : A → Bool) (b : Bool) (o : Option Data) → (b ≡ true → (d : Data) → o ≡ Some d → option_map_or test (read d) false ≡ true) → IfSome (option_and_then read (only_where b o)) (λ a. test a ≡ true)
read_along read test b o h = along read test (only_where b o) (if_read (λ d. option_map_or test (read d) false ≡ true) b o h)

filter_read : (retrieved : Type 0) (o : Option Data) → ((d : Data) → o ≡ Some d → retrieved) → IfSome (option_map (λ d. filter_in (members_in d)) o) (λ f. retrieved × IsFilterOfKinds f)
filter_read retrieved None h = tt
filter_read retrieved (Some d) h = (h d refl, filter_of_kinds (members_in d))

read_if : {A : Type 0} (b : Bool) (read : Data → Option A) (o : Option Data) → is_only_read b (option_and_then read (only_where b o)) ≡ true
read_if true read o = refl
read_if false read o = refl

kinds_of : (op : Op) (es : List Entry) → request_fault (Some op) es ≡ None → KindByKind (request_made op es)
kinds_of op es h =
    let to = needed_is_there (Some op) es Target h refl in
    let rqi = needed_is_there (Some op) es RequestId h refl in
    record {
      to = ap (λ (d : Option Data). is_filled 1024 (text_or_empty d)) to.1
          ∙ told_or_passes (is_filled 1024) (as_text to.0) [] (fitting (Some op) es Target to.0 h refl to.1);
      fr = read_along as_text is_originator true (member_of (name_of_member Originator) es) (λ read d found. fitting (Some op) es Originator d h refl found);
      rqi = ap (λ (d : Option Data). is_request_id (text_or_empty d)) rqi.1
          ∙ told_or_passes is_request_id (as_text rqi.0) [] (fitting (Some op) es RequestId rqi.0 h refl rqi.1);
      ty = passes_along (λ n. is_type_number n ≡ true) read_type_number (λ d. where_passes is_type_number (as_count d)) (value_read op ResourceType es);
      ty_there = scoped_there read_type_number (creates op) (member_of (name_of_member ResourceType) es) (λ created.
          let at = needed_is_there (Some op) es ResourceType h created in (at.0, at.1, fitting (Some op) es ResourceType at.0 h created at.1));
      pc = if_read (λ d. is_some (as_object d) ≡ true) (has_content op) (member_of (name_of_member Content) es) (λ has d found. fitting (Some op) es Content d h has found);
      pc_there = kept_there (has_content op) (member_of (name_of_member Content) es) (λ has. needed_is_there (Some op) es Content h has);
      rqet = passes_along IsWhenOfKind read_expiry when_of_kind (value_read op Expiry es);
      rcn = read_along as_number (λ z. list_any (λ n. int_eq n z) (result_contents op)) (has_result op) (member_of (name_of_member ResultContent) es) (λ read d found. fitting (Some op) es ResultContent d h read found);
      rcn_read = read_if (has_result op) as_number (member_of (name_of_member ResultContent) es);
      fc = filter_read (retrieves op ≡ true) (member_of (name_of_member FilterCriteria) es) (λ d found. (and_parts (retrieves op) (is_filter d) (fitting (Some op) es FilterCriteria d h refl found)).0);
      drt = read_along as_number (λ z. list_any (λ n. int_eq n z) address_forms) true (member_of (name_of_member DesiredForm) es) (λ read d found. fitting (Some op) es DesiredForm d h refl found);
    }

pub request_of_kinds : (d : Data) (r : RequestParts) → read_request d ≡ Ok r → IsOfKinds r
request_of_kinds d r is =
    let es = members_in d in
    let parts = read_without_fault (request_fault (operation_in es) es) (request_made (unwrap_or (operation_in es) Create) es) r is in
    let known = operation_is_known es parts.0 in
    let fault : request_fault (Some known.0) es ≡ None = ap (λ (o : Option Op). request_fault o es) (sym known.1) ∙ parts.0 in
    let made : request_made known.0 es ≡ r = ap (λ (o : Option Op). request_made (unwrap_or o Create) es) (sym known.1) ∙ parts.1 in
    subst IsOfKinds made (joined_kinds (request_made known.0 es) (kinds_of known.0 es fault))
