-- A request that was read is of its kinds, its labels are texts, and its content is no deeper than a text is read.
use Rattle.binding_laws.proofs.Words.{◌≡◌, ℕ, ◌<◌, ◌≤◌, Bool, true, false, List, [], ◌∷◌, ◌++◌, Option, Some, None, IfSome, IsUtf8, inl, inr, refl, ap, subst, arith, Ok, Err, Result, AllByRecursion, cons_option, filter_map, option_map, unwrap_or}
use Rattle.binding_laws.proofs.Terms.{Op, Create, Retrieve, Update, Notify, Removal, Data, null, boolean, number, text, list, object, depth, FilterParts, and_then, caller_of, content_of, method_of, object_only, request_of, value_in, target_of, query_said, is_some_text, is_label_text}
use Rattle.binding_laws.proofs.Facts.{and_parts, cond_both, false≢true, ltb-true}
use Rattle.std.proofs.Common.{ltb}
use Rattle.std.specs.Char.{encode_utf8}
use Rattle.std.specs.Prelude.{is_ok, is_some, bytes_eq, if◌then◌else◌}
use Rattle.std.specs.Result.{result_unwrap_or}
use Rattle.std.specs.Str.{all_scalars, encode_utf8_all}
use Rattle.std.proofs.lemmas.Result.{IfOk-at_ok}
use lib.Utf8.{scalar, scalar_cases}
use Rattle.serde_json.specs.Data as json
use Rattle.serde_json.specs.Read.{read}
use Rattle.serde_json.proofs.Nesting.{depth-read}
use Rattle.std.specs.Str.{is_utf8}
use Rattle.m2m_value.specs.Data.{Elements, Entry, Pairs, element, no_elements, no_pairs, pair, pairs_depth}
use Rattle.m2m_value.specs.Reading.{reading, reading_depth, value_if}
use Rattle.m2m_value.specs.Sound.{AreSound, HaveSound, IsSound}
use Rattle.m2m_value.specs.View.{as_object, elements, entries, member_of}
use Rattle.m2m_value.specs.declared.fault.ValFault.{ValFault}
use Rattle.m2m_value.proofs.Depths.{no_deeper}
use Rattle.filter_criteria.specs.Conditions.{alternatives, filter_in, label_of, labels_of, name_of_condition}
use Rattle.filter_criteria.specs.Filters.{IsSoundFilter}
use Rattle.filter_criteria.specs.Values.{members_in}
use Rattle.filter_criteria.specs.declared.condition.Condition.TheVariants.{OneLabel}
use Rattle.primitive_json.specs.Members.{is_read}
use Rattle.primitive_json.specs.Reading.{operation_in, request_fault, request_made, value_read}
use Rattle.primitive_json.specs.declared.member.Member.{Member}
use Rattle.primitive_json.specs.declared.member.Member.TheVariants.{Content, FilterCriteria}
use Rattle.primitive_json.specs.declared.request.RequestParts.{RequestParts}
use Rattle.primitive_json.proofs.FaultLemmas.{read_without_fault}
use Rattle.primitive_json.proofs.RoundTrip.{request_of_kinds}
use Rattle.http_target.specs.declared.fault.BindFault.{BindFault}
use Rattle.http_target.proofs.QueryLemmas.{reads}
use Rattle.http_binding.specs.Methods.{operation_of}
use Rattle.http_binding.proofs.LawLemmas.{binds_to_kinds, query_sound}
use Rattle.binding_laws.specs.AsRead.{IsText, WhatALineSaysIsAsRead, WhatIsBoundIsAsRead}

-- ---- the bytes of a text

abbrev AreBytes : List ℕ → Type 0
AreBytes bs = AllByRecursion (λ (b : ℕ). b < 256) bs

below_top : (c : ℕ) → scalar c ≡ true → c < 1114112
below_top c is = elim (scalar_cases c is) [
  | inl low ↦ omega (arith, low)
  | inr high ↦ high.1
]

encoded_bytes : (c : ℕ) → c < 1114112 → AreBytes (encode_utf8 c)
unfolding encode_utf8
encoded_bytes c top =
    cond_both (ltb c 128) _ _ AreBytes (λ one. (omega (arith, ltb-true c 128 one), tt)) (λ more.
    cond_both (ltb c 2048) _ _ AreBytes (λ two. let few : c < 2048 = ltb-true c 2048 two in (omega (arith, few), (omega arith, tt))) (λ more.
    cond_both (ltb c 65536) _ _ AreBytes (λ three. let few : c < 65536 = ltb-true c 65536 three in (omega (arith, few), (omega arith, (omega arith, tt)))) (λ more.
    (omega (arith, top), (omega arith, (omega arith, (omega arith, tt)))))))

bytes_append : (xs ys : List ℕ) → AreBytes xs → AreBytes ys → AreBytes (xs ++ ys)
bytes_append [] ys a b = b
bytes_append (x ∷ xs) ys a b = (a.0, bytes_append xs ys a.1 b)

characters_bytes : (cs : List ℕ) → all_scalars cs ≡ true → AreBytes (encode_utf8_all cs)
characters_bytes [] h = tt
characters_bytes (c ∷ cs) h =
    let parts = and_parts (scalar c) (all_scalars cs) h in
    bytes_append (encode_utf8 c) (encode_utf8_all cs) (encoded_bytes c (below_top c parts.0)) (characters_bytes cs parts.1)

a_text : (bs : List ℕ) → IsUtf8 bs → IsText bs
a_text bs h = record { bytes = subst AreBytes h.1.1 (characters_bytes h.0 h.1.0); utf8 = h }

texts : (labels : List (List ℕ)) → AllByRecursion IsUtf8 labels → AllByRecursion IsText labels
texts [] h = tt
texts (label ∷ labels) h = (a_text label h.0, texts labels h.1)

abbrev HasTexts : Option FilterParts → Type 0
HasTexts fc = IfSome fc (λ f. AllByRecursion IsText f.lbl)

-- ---- how deep a value is that was read

abbrev IsShallow : Data → Type 0
IsShallow d = depth d ≤ reading_depth

module _ (bytes : List ℕ) (d : Data) where
  shallow_by : (found : Option json.Data) → read bytes ≡ found → value_if found ≡ Ok d → IsShallow d
  shallow_by None is told = absurd (false≢true (ap is_ok told))
  shallow_by (Some j) is told =
      let within : depth d ≤ json.depth j = IfOk-at_ok (λ v. depth v ≤ json.depth j) told (no_deeper j) in
      omega (arith, within, depth-read bytes j is)

  shallow_in : (utf8 : Bool) → value_if (if utf8 then read bytes else None) ≡ Ok d → IsShallow d
  shallow_in true told = shallow_by (read bytes) refl told
  shallow_in false told = absurd (false≢true (ap is_ok told))

  shallow_read : reading bytes ≡ Ok d → IsShallow d
  shallow_read told = shallow_in (is_utf8 bytes) told

-- ---- a message

object_shallow : (whole : Bool) (d : Data) (fault : BindFault) (content : Option Data) → IsShallow d
    → (if whole then Ok (Some d) else Err fault) ≡ Ok content → IfSome content IsShallow
object_shallow true d fault content shallow is = subst (λ (o : Option Data). IfSome o IsShallow) (ap (λ r. result_unwrap_or r None) is) shallow
object_shallow false d fault content shallow is = absurd (false≢true (ap is_ok is))

value_shallow : (body : List ℕ) (value : Result Data ValFault) (content : Option Data) → reading body ≡ value
    → and_then (value_in value) object_only ≡ Ok content → IfSome content IsShallow
value_shallow body (Ok d) content is told = object_shallow (is_some (as_object d)) d _ content (shallow_read body d is) told
value_shallow body (Err why) content is told = absurd (false≢true (ap is_ok told))

body_shallow : (some : Bool) (body : List ℕ) (fault : BindFault) (content : Option Data)
    → (if some then and_then (value_in (reading body)) object_only else Err fault) ≡ Ok content → IfSome content IsShallow
body_shallow true body fault content told = value_shallow body (reading body) content refl told
body_shallow false body fault content told = absurd (false≢true (ap is_ok told))

abbrev nothing_read : Result (Option Data) BindFault
nothing_read = Ok None

unread_shallow : (content : Option Data) → nothing_read ≡ Ok content → IfSome content IsShallow
unread_shallow content told = subst (λ (o : Option Data). IfSome o IsShallow) (ap (λ r. result_unwrap_or r None) told) tt

content_shallow : (op : Op) (body : List ℕ) (content : Option Data) → content_of op body ≡ Ok content → IfSome content IsShallow
content_shallow Create body content told = body_shallow (is_some_text body) body _ content told
content_shallow Update body content told = body_shallow (is_some_text body) body _ content told
content_shallow Notify body content told = body_shallow (is_some_text body) body _ content told
content_shallow Retrieve body content told = unread_shallow content told
content_shallow Removal body content told = unread_shallow content told

query_texts : (fc : Option FilterParts) → ((f : FilterParts) → fc ≡ Some f → IsSoundFilter f) → HasTexts fc
query_texts None sound = tt
query_texts (Some f) sound = texts f.lbl ((sound f refl).1.1.1.1.1.0)

both : (pc : Option Data) → IfSome pc IsSound → IfSome pc IsShallow → IfSome pc (λ d. IsSound d × (depth d ≤ reading_depth))
both None sound shallow = tt
both (Some d) sound shallow = (sound, shallow)

pub bound_as_read : WhatIsBoundIsAsRead
bound_as_read frame request binds sound =
    let method = reads (method_of frame.start) _ request binds in
    let target = reads (target_of frame.start) _ request method.rest in
    let caller = reads (caller_of method.first frame.lines) _ request target.rest in
    let op = operation_of method.first caller.first.type in
    let query = reads (query_said op target.first.query) _ request caller.rest in
    let content = reads (content_of op frame.body) _ request query.rest in
    let parts : RequestParts = request_of op target.first.to caller.first query.first content.first in
    let made : parts ≡ request = ap (λ r. result_unwrap_or r parts) content.rest in
    record {
      kinds = (binds_to_kinds frame request binds).0;
      labels = subst HasTexts (ap (λ (r : RequestParts). r.fc) made) (query_texts query.first.fc (query_sound op target.first.query query.first query.read));
      pc = both request.pc sound
          (subst (λ (o : Option Data). IfSome o IsShallow) (ap (λ (r : RequestParts). r.pc) made) (content_shallow op frame.body content.first content.read));
    }

-- ---- a line

-- a value that is sound and shallow
abbrev IsGood : Data → Type 0
IsGood d = IsSound d × (depth d ≤ reading_depth)

-- so are the values of all members
abbrev AreGood : List Entry → Type 0
AreGood es = AllByRecursion (λ (e : Entry). IsGood e.1) es

entries_good : (ps : Pairs) → HaveSound ps → pairs_depth ps ≤ reading_depth → AreGood (entries ps)
entries_good no_pairs sound few = tt
entries_good (pair k d ps) sound few = ((sound.0, omega (arith, few)), entries_good ps sound.1 (omega (arith, few)))

members_good : (d : Data) → IsGood d → AreGood (members_in d)
members_good null h = tt
members_good (boolean b) h = tt
members_good (number z) h = tt
members_good (text s) h = tt
members_good (list es) h = tt
members_good (object ps) h = entries_good ps h.0.2 (omega (arith, h.1))

found_good : (key : List ℕ) (es : List Entry) → AreGood es → IfSome (member_of key es) IsGood
found_good key [] h = tt
found_good key (e ∷ es) h =
    cond_both (bytes_eq key e.0) (Some e.1) (member_of key es) (λ (o : Option Data). IfSome o IsGood) (λ is. h.0) (λ other. found_good key es h.1)

read_good : (op : Op) (member : Member) (es : List Entry) → AreGood es → IfSome (value_read op member es) IsGood
read_good op member es h =
    cond_both (is_read (Some op) member) _ _ (λ (o : Option Data). IfSome o IsGood) (λ is. found_good _ es h) (λ unread. tt)

elements_sound : (es : Elements) → AreSound es → AllByRecursion IsSound (elements es)
elements_sound no_elements h = tt
elements_sound (element d es) h = (h.0, elements_sound es h.1)

alternatives_sound : (d : Data) → IsSound d → AllByRecursion IsSound (alternatives d)
alternatives_sound null h = (h, tt)
alternatives_sound (boolean b) h = (h, tt)
alternatives_sound (number z) h = (h, tt)
alternatives_sound (text s) h = (h, tt)
alternatives_sound (list es) h = elements_sound es h
alternatives_sound (object ps) h = (h, tt)

label_text : (d : Data) → IsSound d → IfSome (label_of d) IsText
label_text null h = tt
label_text (boolean b) h = tt
label_text (number z) h = tt
label_text (text s) h = cond_both (is_label_text s) (Some s) None (λ (o : Option (List ℕ)). IfSome o IsText) (λ is. a_text s h) (λ other. tt)
label_text (list es) h = tt
label_text (object ps) h = tt

one_more : (o : Option (List ℕ)) (labels : List (List ℕ)) → IfSome o IsText → AllByRecursion IsText labels → AllByRecursion IsText (cons_option o labels)
one_more None labels here more = more
one_more (Some label) labels here more = (here, more)

said_texts : (ds : List Data) → AllByRecursion IsSound ds → AllByRecursion IsText (filter_map label_of ds)
said_texts [] h = tt
said_texts (d ∷ ds) h = one_more (label_of d) (filter_map label_of ds) (label_text d h.0) (said_texts ds h.1)

labels_texts : (o : Option Data) → IfSome o IsGood → AllByRecursion IsText (labels_of o)
labels_texts None h = tt
labels_texts (Some d) h = said_texts (alternatives d) (alternatives_sound d h.0)

filter_texts : (o : Option Data) → IfSome o IsGood → HasTexts (option_map (λ d. filter_in (members_in d)) o)
filter_texts None h = tt
filter_texts (Some d) h =
    labels_texts (member_of (name_of_condition OneLabel) (members_in d)) (found_good (name_of_condition OneLabel) (members_in d) (members_good d h))

pub line_as_read : WhatALineSaysIsAsRead
line_as_read line value request is sound said =
    let es = members_in value in
    let op = unwrap_or (operation_in es) Create in
    let good : AreGood es = members_good value (sound, shallow_read line value is) in
    let made = (read_without_fault (request_fault (operation_in es) es) (request_made op es) request said).1 in
    record {
      kinds = request_of_kinds value request said;
      labels = subst HasTexts (ap (λ (r : RequestParts). r.fc) made) (filter_texts (value_read op FilterCriteria es) (read_good op FilterCriteria es good));
      pc = subst (λ (o : Option Data). IfSome o IsGood) (ap (λ (r : RequestParts). r.pc) made) (read_good op Content es good);
    }
