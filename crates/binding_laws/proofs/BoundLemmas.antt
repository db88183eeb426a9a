-- The frame of a request to another CSE binds to that request.
use Rattle.binding_laws.proofs.Words.{◌≡◌, ℕ, ◌≤◌, Bool, true, false, not, cond, List, [], ◌∷◌, ◌++◌, map, length, codes, Option, Some, None, IfSome, IsTrue, IsUtf8, inl, inr, refl, sym, ap, subst, ◌∙◌, arith, length-append, append_assoc, All, ℤ, pos, Ok, Err, Result, is_some, option_map, option_and_then, decimal, signed_decimal, AllByRecursion, flat_map, list_all, option_map_or}
use Rattle.binding_laws.proofs.Terms.{Op, Create, Retrieve, Update, Notify, Removal, Data, null, boolean, number, text, list, object, depth, asked_of, no_conditions, sort_of_condition, IsFilterOfKinds, IsValueOfKind, Condition, CreatedAfter, CreatedBefore, ExpireAfter, ExpireBefore, Usage, OneLabel, Limit, ModifiedSince, StateTagBigger, StateTagSmaller, SizeAbove, SizeBelow, OneType, UnmodifiedSince, OfEachCondition, ValueOf, Sort, FilterParts, address_forms, is_among, result_contents, only_where, head_text, Ask, When, is_type_number, where_it, and_then, Pair, decoded_pairs, form_spelled, result_spelled, with_form, with_result, query_said, said_by, target_of, Query, binding, caller_of, content_of, created_type, kept_result, method_of, object_only, request_of, value_in, is_some_text, body_of, admits_type, request_frame, target_text, filter_pairs, pairs_at, query_pairs, query_part, query_text, whole_texts, written_order, host_of, path_of_address}
use Rattle.binding_laws.proofs.Facts.{cond-true, cond-false, false≢true, lt-ltb}
use Rattle.m2m_value.specs.Reading.{reading, reading_depth}
use Rattle.m2m_value.specs.Sound.{IsSound}
use Rattle.m2m_value.specs.Spelling as json
use Rattle.m2m_value.specs.View.{as_object}
use Rattle.m2m_value.proofs.RoundTrip.{reading-text_of}
use Rattle.primitive_json.specs.Form.{has_fit_result, is_only_read}
use Rattle.primitive_json.specs.Members.{creates, has_content, has_result, retrieves}
use Rattle.primitive_json.specs.declared.request.RequestParts.{RequestParts}
use Rattle.primitive_json.proofs.FormLemmas.{KindByKind, kinds_apart}
use Rattle.http_frames.specs.declared.frame.Frame.{Frame}
use Rattle.http_target.specs.declared.fault.BindFault.TheVariants as bind
use Rattle.http_binding.specs.Methods.{method_text, operation_of}
use Rattle.http_client_binding.specs.declared.target.Aim.TheVariants.{Peer}
use Rattle.binding_laws.specs.ReadBack.{AreAlike, IsTellable, SaysAll, RequestIsBoundBack}
use Rattle.binding_laws.proofs.FilterLemmas.{IsFilled, SaysFilter, filter_back, query_with}
use Rattle.binding_laws.proofs.LineLemmas.{admits_for, caller_back, or_right, part_so}
use Rattle.binding_laws.proofs.PairLemmas.{IsPlainPair, filter_plain, known_plain, pairs_back, plain_append, short_plain}
use Rattle.binding_laws.proofs.TargetLemmas.{Fits, query_bytes, target_said, target_with}
use Rattle.binding_laws.proofs.TextLemmas.{IsShort, among_is, short_by, whole_back}

-- ---- the method

same_op : (op : Op) (type : Option ℕ) → cond (is_some type) op op ≡ op
same_op op None = refl
same_op op (Some n) = refl

typed_op : (op other : Op) (type : Option ℕ) → is_some type ≡ true → cond (is_some type) op other ≡ op
typed_op op other type there = cond-true _ _ _ there

plain_op : (op other : Op) (type : Option ℕ) → is_some type ≡ false → cond (is_some type) other op ≡ op
plain_op op other type there = cond-false _ _ _ there

-- what follows from the method that an operation is written with
by_method : (op : Op) (P : Type 0)
    → ((method : _) → ((target : List ℕ) → method_of (Ask (method_text op) target 1) ≡ Ok method)
    → ((value : List ℕ) → admits_type method value ≡ admits_for op value)
    → ((type : Option ℕ) → is_some type ≡ creates op → operation_of method type ≡ op) → P) → P
by_method Create P then = then _ (λ target. refl) (λ value. refl) (λ type there. typed_op Create Notify type there)
by_method Retrieve P then = then _ (λ target. refl) (λ value. refl) (λ type there. same_op Retrieve type)
by_method Update P then = then _ (λ target. refl) (λ value. refl) (λ type there. same_op Update type)
by_method Removal P then = then _ (λ target. refl) (λ value. refl) (λ type there. same_op Removal type)
by_method Notify P then = then _ (λ target. refl) (λ value. refl) (λ type there. plain_op Notify Create type there)

-- ---- the content

-- a text of an object isn't empty
object_some : (d : Data) → is_some (as_object d) ≡ true → is_some_text (json.text_of d) ≡ true
object_some null h = absurd (false≢true h)
object_some (boolean b) h = absurd (false≢true h)
object_some (number z) h = absurd (false≢true h)
object_some (text s) h = absurd (false≢true h)
object_some (list es) h = absurd (false≢true h)
object_some (object es) h = lt-ltb 0 (length (json.text_of (object es))) (omega arith)

content_back : (op : Op) (pc : Option Data) → is_some pc ≡ has_content op → IfSome pc (λ d. IsTrue (is_some (as_object d)))
    → IfSome pc (λ d. IsSound d × (depth d ≤ reading_depth)) → content_of op (body_of pc) ≡ Ok pc
content_back op None there whole sound = cond-false _ _ _ (sym there)
content_back op (Some d) there whole sound =
    cond-true _ _ _ (sym there) ∙ cond-true _ _ _ (object_some d whole)
    ∙ ap (λ r. and_then (value_in r) object_only) (reading-text_of d sound.0 sound.1)
    ∙ cond-true _ _ _ whole

-- ---- the query

-- what holds of each condition, at one of them
each_of : (Holds : (sort : Sort) → ValueOf sort → Type 0) (f : FilterParts) → OfEachCondition Holds f
    → (c : Condition) → Holds (sort_of_condition c) (asked_of c f)
each_of Holds f h CreatedAfter = h.0
each_of Holds f h CreatedBefore = h.1.0
each_of Holds f h ExpireAfter = h.1.1.0
each_of Holds f h ExpireBefore = h.1.1.1.0
each_of Holds f h Usage = h.1.1.1.1.0
each_of Holds f h OneLabel = h.1.1.1.1.1.0
each_of Holds f h Limit = h.1.1.1.1.1.1.0
each_of Holds f h ModifiedSince = h.1.1.1.1.1.1.1.0
each_of Holds f h StateTagBigger = h.1.1.1.1.1.1.1.1.0
each_of Holds f h StateTagSmaller = h.1.1.1.1.1.1.1.1.1.0
each_of Holds f h SizeAbove = h.1.1.1.1.1.1.1.1.1.1.0
each_of Holds f h SizeBelow = h.1.1.1.1.1.1.1.1.1.1.1.0
each_of Holds f h OneType = h.1.1.1.1.1.1.1.1.1.1.1.1.0
each_of Holds f h UnmodifiedSince = h.1.1.1.1.1.1.1.1.1.1.1.1.1.0

-- the results that an operation may have are numbers of one digit
results_short : (op : Op) → AllByRecursion IsShort (result_contents op)
results_short Create = (short_by 0 (omega arith), (short_by 1 (omega arith), (short_by 2 (omega arith), (short_by 3 (omega arith), tt))))
results_short Retrieve = (short_by 1 (omega arith), (short_by 4 (omega arith), (short_by 5 (omega arith), (short_by 6 (omega arith), tt))))
results_short Update = (short_by 0 (omega arith), (short_by 1 (omega arith), tt))
results_short Removal = (short_by 0 (omega arith), tt)
results_short Notify = tt

-- the result content is read back
result_back : (op : Op) (z : ℤ) → is_among (result_contents op) z ≡ true → result_spelled op (signed_decimal z) ≡ Some z
result_back op z among =
    let short = among_is IsShort (result_contents op) z (results_short op) among in
    ap (where_it (λ y. has_fit_result op (Some y))) (whole_back z short) ∙ cond-true _ _ _ (or_right (not (has_result op)) (is_among (result_contents op) z) among)

result_said : (op : Op) (rcn : Option ℤ) (rest : List Pair) → IfSome rcn (λ z. IsTrue (is_among (result_contents op) z))
    → said_by op (pairs_at (codes "rcn") (whole_texts rcn) ++ rest) (query_with None None) ≡ said_by op rest (query_with rcn None)
result_said op None rest fit = refl
result_said op (Some z) rest fit =
    ap (λ o. and_then (option_map_or (λ said. Ok said) (with_result o (query_with None None)) (Err (bind.Query (codes "rcn")))) (said_by op rest)) (result_back op z fit)

-- the form of addresses is read back
form_back : (z : ℤ) → is_among address_forms z ≡ true → form_spelled (signed_decimal z) ≡ Some z
form_back z among =
    let short = among_is IsShort address_forms z (short_by 1 (omega arith), (short_by 2 (omega arith), tt)) among in
    ap (where_it (is_among address_forms)) (whole_back z short) ∙ cond-true _ _ _ among

form_said : (op : Op) (rcn : Option ℤ) (fc : Option FilterParts) (drt : Option ℤ) → IfSome drt (λ z. IsTrue (is_among address_forms z))
    → said_by op (pairs_at (codes "drt") (whole_texts drt)) (query_with rcn fc) ≡ Ok (record { rcn = rcn; rt = None; fc = fc; drt = drt })
form_said op rcn fc None fit = refl
form_said op rcn fc (Some z) fit =
    ap (λ o. and_then (option_map_or (λ said. Ok said) (with_form o (query_with rcn fc)) (Err (bind.Query (codes "drt")))) (said_by op [])) (form_back z fit)

-- a Retrieve is the operation that retrieves
retrieves_is : (op : Op) → retrieves op ≡ true → op ≡ Retrieve
retrieves_is Create h = absurd (false≢true h)
retrieves_is Retrieve h = refl
retrieves_is Update h = absurd (false≢true h)
retrieves_is Removal h = absurd (false≢true h)
retrieves_is Notify h = absurd (false≢true h)

-- what the pairs of a query say
record QueryBack (op : Op) (rcn : Option ℤ) (fc : Option FilterParts) (drt : Option ℤ) : Type 0 where
  read : Option FilterParts
  alike : AreAlike fc read
  said : said_by op (pairs_at (codes "rcn") (whole_texts rcn) ++ (filter_pairs fc ++ pairs_at (codes "drt") (whole_texts drt))) (query_with None None)
      ≡ Ok (record { rcn = rcn; rt = None; fc = read; drt = drt })

filled_alike : (f : FilterParts) (read : Option FilterParts) → IsFilled f read → AreAlike (Some f) read
filled_alike f read (inl none) = inr (ap Some none.1, none.0)
filled_alike f read (inr some) = inl some

query_back : (op : Op) (rcn : Option ℤ) (fc : Option FilterParts) (drt : Option ℤ)
    → IfSome rcn (λ z. IsTrue (is_among (result_contents op) z)) → IfSome fc (λ f. IsTrue (retrieves op) × IsFilterOfKinds f)
    → IfSome fc (OfEachCondition IsTellable) → IfSome drt (λ z. IsTrue (is_among address_forms z)) → QueryBack op rcn fc drt
query_back op rcn None drt result filter told form =
    record { read = None; alike = inl refl; said = result_said op rcn (pairs_at (codes "drt") (whole_texts drt)) result ∙ form_said op rcn None drt form }
query_back op rcn (Some f) drt result filter told form =
    let forms : List Pair = pairs_at (codes "drt") (whole_texts drt) in
    let says = filter_back f rcn forms (each_of IsValueOfKind f filter.1) (each_of IsTellable f told) in
    record {
      read = says.read;
      alike = filled_alike f says.read says.filled;
      said = result_said op rcn (filter_pairs (Some f) ++ forms) result
          ∙ subst (λ (o : Op). said_by o (filter_pairs (Some f) ++ forms) (query_with rcn None) ≡ said_by o forms (query_with rcn says.read)) (sym (retrieves_is op filter.0)) says.said
          ∙ form_said op rcn says.read drt form;
    }

-- the pairs of a query are plain
query_plain : (op : Op) (rcn : Option ℤ) (fc : Option FilterParts) (drt : Option ℤ)
    → IfSome rcn (λ z. IsTrue (is_among (result_contents op) z)) → IfSome fc (λ f. IsTrue (retrieves op) × IsFilterOfKinds f)
    → IfSome fc (OfEachCondition IsTellable) → IfSome drt (λ z. IsTrue (is_among address_forms z))
    → AllByRecursion IsPlainPair (pairs_at (codes "rcn") (whole_texts rcn) ++ (filter_pairs fc ++ pairs_at (codes "drt") (whole_texts drt)))
query_plain op rcn fc drt result filter told form =
    plain_append (pairs_at (codes "rcn") (whole_texts rcn)) _ (results rcn result)
    (plain_append (filter_pairs fc) (pairs_at (codes "drt") (whole_texts drt)) (conditions fc filter told) (forms drt form))
  where
    results : (rcn : Option ℤ) → IfSome rcn (λ z. IsTrue (is_among (result_contents op) z)) → AllByRecursion IsPlainPair (pairs_at (codes "rcn") (whole_texts rcn))
    results None fit = tt
    results (Some z) fit = ((known_plain (codes "rcn") refl, short_plain z (among_is IsShort (result_contents op) z (results_short op) fit)), tt)

    forms : (drt : Option ℤ) → IfSome drt (λ z. IsTrue (is_among address_forms z)) → AllByRecursion IsPlainPair (pairs_at (codes "drt") (whole_texts drt))
    forms None fit = tt
    forms (Some z) fit = ((known_plain (codes "drt") refl, short_plain z (among_is IsShort address_forms z (short_by 1 (omega arith), (short_by 2 (omega arith), tt)) fit)), tt)

    conditions : (fc : Option FilterParts) → IfSome fc (λ f. IsTrue (retrieves op) × IsFilterOfKinds f) → IfSome fc (OfEachCondition IsTellable)
        → AllByRecursion IsPlainPair (filter_pairs fc)
    conditions None filter told = tt
    conditions (Some f) filter told = filter_plain written_order f (each_of IsValueOfKind f filter.1) (each_of IsTellable f told)

-- ---- what isn't read isn't there

created_same : (op : Op) (ty : Option ℕ) → is_some ty ≡ creates op → created_type op ty ≡ ty
created_same op None there = cond-false _ _ _ (sym there)
created_same op (Some n) there = cond-true _ _ _ (sym there)

-- a parameter that is read where it is there is left as it is
only_read : {A : Type 0} (reads : Bool) (value : Option A) → is_only_read reads value ≡ true → only_where reads value ≡ value
only_read true value read = refl
only_read false None read = refl
only_read false (Some x) read = absurd (false≢true read)

kept_same : (op : Op) (rcn : Option ℤ) → is_only_read (has_result op) rcn ≡ true → kept_result op rcn ≡ rcn
kept_same op rcn read = only_read (has_result op) rcn read

creates_content : (op : Op) → creates op ≡ true → has_content op ≡ true
creates_content Create h = refl
creates_content Retrieve h = absurd (false≢true h)
creates_content Update h = refl
creates_content Removal h = absurd (false≢true h)
creates_content Notify h = refl

-- the target is part of the head
within : (a t b c : List ℕ) → length t ≤ length ((a ++ (32 ∷ t ++ b)) ++ c)
within a t b c = simp length-append (omega arith)

-- ---- together

bound : (method : _) (op : Op) (to : List ℕ) (fr : Option (List ℕ)) (rqi : List ℕ) (ty : Option ℕ) (pc : Option Data) (rqet : Option When)
    (rcn : Option ℤ) (read : Option FilterParts) (drt : Option ℤ) (query : List ℕ) (frame : Frame)
    → method_of frame.start ≡ Ok method → target_of frame.start ≡ Ok (record { to = to; query = query })
    → caller_of method frame.lines ≡ Ok (record { originator = fr; id = rqi; expiry = rqet; type = ty })
    → operation_of method ty ≡ op
    → query_said op query ≡ Ok (record { rcn = rcn; rt = None; fc = read; drt = drt })
    → content_of op frame.body ≡ Ok pc
    → binding frame ≡ Ok (record { op = op; to = to; fr = fr; rqi = rqi; ty = created_type op ty; pc = pc; rqet = rqet; rt = None; rcn = kept_result op rcn; fc = read; drt = drt })
bound method op to fr rqi ty pc rqet rcn read drt query frame named target caller operation asked content =
    part_so _ _ _ named ∙ part_so _ _ _ target ∙ part_so _ _ _ caller
    ∙ ap (λ (o : Op). and_then (query_said o query) (λ q. and_then (content_of o frame.body)
    (λ c. Ok (request_of o to (record { originator = fr; id = rqi; expiry = rqet; type = ty }) q c)))) operation
    ∙ part_so _ _ _ asked ∙ part_so _ _ _ content

pub bound_back : RequestIsBoundBack
bound_back r url told =
    let kinds = kinds_apart r told.sendable.kinds in
    let frame : Frame = request_frame r url Peer in
    let query : List ℕ = query_text r in
    let rooted : target_text r url Peer ≡ target_with r.to query = ap (λ p. (p ++ path_of_address r.to) ++ query_part query) told.root in
    let results : List Pair = pairs_at (codes "rcn") (whole_texts r.rcn) in
    let forms : List Pair = pairs_at (codes "drt") (whole_texts r.drt) in
    let joined : query_pairs r ≡ results ++ (filter_pairs r.fc ++ forms) = append_assoc results (filter_pairs r.fc) forms in
    let says = query_back r.op r.rcn r.fc r.drt kinds.rcn kinds.fc told.fc kinds.drt in
    let plain = query_plain r.op r.rcn r.fc r.drt kinds.rcn kinds.fc told.fc kinds.drt in
    let pairs : decoded_pairs query ≡ query_pairs r = pairs_back (query_pairs r) (subst (λ (ps : List Pair). AllByRecursion IsPlainPair ps) (sym joined) plain) in
    let created : created_type r.op r.ty ≡ r.ty = created_same r.op r.ty kinds.ty_there in
    let few : length (target_text r url Peer) ≤ length (head_text frame) =
    within (method_text r.op) (target_text r url Peer) _ _ in
    let fits : Fits r.to query = record {
      own = told.to_own;
      path = told.to_bytes;
      filled = kinds.to;
      to_utf8 = told.to_utf8;
      asked = query_bytes (query_pairs r);
      utf8 = subst IsUtf8 rooted told.sendable.target.2;
      few = subst (λ (t : List ℕ). length t ≤ 65534) rooted (omega (arith, few, told.sendable.head));
    } in (
      says.read,
      says.alike,
      by_method r.op (binding frame ≡ Ok (record { op = r.op; to = r.to; fr = r.fr; rqi = r.rqi; ty = created_type r.op (created_type r.op r.ty); pc = r.pc; rqet = r.rqet; rt = None; rcn = kept_result r.op r.rcn; fc = says.read; drt = r.drt }))
          (λ method named admits operation. bound method r.op r.to r.fr r.rqi (created_type r.op r.ty) r.pc r.rqet r.rcn says.read r.drt query frame
          (named (target_text r url Peer))
          (subst (λ (t : List ℕ). target_of (Ask (method_text r.op) t 1) ≡ Ok (record { to = r.to; query = query })) (sym rooted) (target_said (method_text r.op) r.to query 1 fits))
          (caller_back method r.op (host_of url) r.fr r.rqi r.rqet (created_type r.op r.ty) r.pc _ admits kinds.fr kinds.rqi kinds.rqet told.rqet
          (subst (λ (t : Option ℕ). IfSome t (λ n. IsTrue (is_type_number n))) (sym created) kinds.ty)
          (λ some. kinds.pc_there ∙ creates_content r.op (sym kinds.ty_there ∙ sym (ap is_some created) ∙ some)))
          (operation (created_type r.op r.ty) (ap is_some created ∙ kinds.ty_there))
          (ap (λ ps. said_by r.op ps (query_with None None)) (pairs ∙ joined) ∙ says.said)
          (content_back r.op r.pc kinds.pc_there kinds.pc told.pc))
          ∙ (λ i. Ok (record {
            op = r.op;
            to = r.to;
            fr = r.fr;
            rqi = r.rqi;
            ty = (ap (created_type r.op) created ∙ created) i;
            pc = r.pc;
            rqet = r.rqet;
            rt = sym told.rt i;
            rcn = kept_same r.op r.rcn kinds.rcn_read i;
            fc = says.read;
            drt = r.drt;
          })),
    )
