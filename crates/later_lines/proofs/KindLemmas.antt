-- An accepted request and a reply that can be kept are read back from what is written of them.
use Rattle.std.proofs.Common.{◌≡◌, ℕ, ◌≤◌, ◌&&◌, nat_le, pos, List, [], ◌∷◌, codes, inl, inr, true, Option, Some, None, IfSome, if◌then◌else◌, is_none, refl, sym, ap, ◌∙◌, subst}
use Rattle.std.proofs.lemmas.Bool.{and_parts, cases_Bool, leb-true}
use Rattle.std.specs.Option.{option_map_or}
use Rattle.filter_criteria.specs.Filters.{IsSoundFilter}
use Rattle.filter_criteria.specs.Laws.{IsFilterOfKinds, are_fit_conditions, are_labels, are_type_numbers}
use Rattle.filter_criteria.proofs.Present.{present_sorted, present_texts}
use Rattle.filter_criteria.specs.Values.{NamedValue}
use Rattle.filter_criteria.specs.declared.filter.FilterParts.{FilterParts}
use Rattle.m2m_names.specs.Name.{is_originator}
use Rattle.m2m_names.specs.declared.operations.Op.{Op}
use Rattle.m2m_value.specs.Data.{Data, depth, number, text}
use Rattle.m2m_value.specs.Node.{AreSorted, HaveTextKeys}
use Rattle.m2m_value.specs.Reading.{reading_depth}
use Rattle.m2m_value.specs.Shapes.{largest_count}
use Rattle.primitive_json.specs.Bounds.{is_request_id}
use Rattle.primitive_json.specs.Form.{has_fit_address_form, has_fit_filter, has_form}
use Rattle.primitive_json.specs.Members.{retrieves}
use Rattle.primitive_json.specs.Laws.{HasShortExpiry, IsOfKinds, IsReplyOfKinds}
use Rattle.primitive_json.specs.Writing.{written_reply, written_request}
use Rattle.primitive_json.specs.declared.reply.ReplyParts.{ReplyParts}
use Rattle.primitive_json.specs.declared.request.RequestParts.{RequestParts}
use Rattle.accepted_requests.specs.Entries.{LaterEntryData, as_run}
use Rattle.journal_lines.proofs.LineLemmas.{kept_kinds}
use Rattle.journal_lines.specs.Keeping as plain
use Rattle.later_lines.specs.Keeping.{accepted_value, count_value, is_entry_kept, is_reply_kept, is_request_kept, is_shallow, ran_value, shallow_only, unfiltered}
use Rattle.later_lines.specs.Words.{accepted_members, is_moment, ran_members, value_of}
use Rattle.later_lines.specs.declared.word.Word.TheVariants.{Accepted, Ran}

-- ---- a filter

filter_kinds : (f : FilterParts) → are_fit_conditions f ≡ true → IsSoundFilter f → IsFilterOfKinds f
filter_kinds f fit (cra, (crb, (exa, (exb, (fu, (lbl, (lim, (ms, (stb, (sts, (sza, (szb, (ty, (us, done)))))))))))))) =
    let parts = and_parts (are_labels f.lbl) (are_type_numbers f.ty) fit in
    (cra, (crb, (exa, (exb, (tt, (parts.0, (tt, (ms, (tt, (tt, (tt, (tt, (parts.1, (us, tt))))))))))))))

filter_kept : (op : Op) (fc : Option FilterParts) → has_fit_filter op fc ≡ true → IfSome fc IsSoundFilter → IfSome fc IsFilterOfKinds
filter_kept op None fit sound = tt
filter_kept op (Some f) fit sound = filter_kinds f (and_parts (retrieves op) (are_fit_conditions f) fit).1 sound

-- ---- a request

form_filter : (r : RequestParts) → has_form r ≡ true → has_fit_filter r.op r.fc ≡ true
form_filter r form =
    let all = and_parts _ (has_fit_address_form r.drt) form in
    (and_parts _ (has_fit_filter r.op r.fc) all.0).1

pub request_kinds : (r : RequestParts) → IfSome r.fc IsSoundFilter → has_form r ≡ true → plain.can_be_kept (unfiltered r) ≡ true → IsOfKinds r × HasShortExpiry r
request_kinds r sound form can =
    let parts = and_parts (plain.is_of_kinds (unfiltered r)) (plain.is_shallow (unfiltered r)) can in
    let kinds = kept_kinds (unfiltered r) parts.0 in
    let of = kinds.0 in
    (record { form = form; no_more = of.no_more; to = of.to; fr = of.fr; rqet = of.rqet; fc = filter_kept r.op r.fc (form_filter r form) sound }, kinds.1)

none_is : {A : Type 0} (o : Option A) → is_none o ≡ true → o ≡ None
none_is None is = refl
none_is (Some x) is = absurd cc

-- as it is run, it is as it was
pub runs_alike : (r : RequestParts) → is_request_kept r ≡ true → as_run r ≡ r
runs_alike r kept =
    let none : r.rt ≡ None = none_is r.rt (and_parts (has_form r && plain.can_be_kept (unfiltered r)) (is_none r.rt) kept).1 in
    sym (ap (λ x. record r { rt = x }) none)

-- ---- an accepted request

pub record KeptEntry (e : LaterEntryData) : Type 0 where
  pub request : is_request_kept e.request ≡ true
  pub originator : is_originator e.originator ≡ true
  pub number : e.number ≤ largest_count
  pub moment : is_moment e.accepted ≡ true

pub kept_entry : (e : LaterEntryData) → is_entry_kept e ≡ true → KeptEntry e
kept_entry e kept =
    let timed = and_parts (is_request_kept e.request && is_originator e.originator && nat_le e.number largest_count) (is_moment e.accepted) kept in
    let all = and_parts (is_request_kept e.request && is_originator e.originator) (nat_le e.number largest_count) timed.0 in
    let both = and_parts (is_request_kept e.request) (is_originator e.originator) all.0 in
    record { request = both.0; originator = both.1; number = leb-true e.number largest_count all.1; moment = timed.1 }

-- ---- a value

-- a value that is no deeper than a text is read
pub record Shallow (d v : Data) : Type 0 where
  pub same : v ≡ d
  pub depth_is : depth v ≤ reading_depth

some_same : {A : Type 0} (x y : A) → Some x ≡ Some y → x ≡ y
some_same x y e = cc

none_some : {A B : Type 0} (x : A) → None ≡ Some x → B
none_some x e = absurd cc

pub shallow_is : (d v : Data) → shallow_only d ≡ Some v → Shallow d v
shallow_is d v is = elim (cases_Bool (is_shallow d)) [
  | inl t ↦ (
      let same : d ≡ v = some_same d v (sym (ap (λ b. if b then Some d else None) t) ∙ is) in
      record { same = sym same; depth_is = subst (λ (x : Data). depth x ≤ reading_depth) same (leb-true (depth d) reading_depth t) })
  | inr f ↦ none_some v (sym (ap (λ b. if b then Some d else None) f) ∙ is)
]

-- what is written of an accepted request that can be kept
pub record WrittenEntry (e : LaterEntryData) (v : Data) : Type 0 where
  pub kept : is_entry_kept e ≡ true
  pub shallow : Shallow (value_of (Accepted e)) v

pub written_entry : (e : LaterEntryData) (v : Data) → accepted_value e ≡ Some v → WrittenEntry e v
written_entry e v is = elim (cases_Bool (is_entry_kept e)) [
  | inl t ↦ record {
    kept = t;
    shallow = shallow_is (value_of (Accepted e)) v (sym (ap (λ b. if b then shallow_only (value_of (Accepted e)) else None) t) ∙ is);
  }
  | inr f ↦ none_some v (sym (ap (λ b. if b then shallow_only (value_of (Accepted e)) else None) f) ∙ is)
]

-- what is written of a run whose reply can be kept
pub record WrittenRun (n : ℕ) (reply : ReplyParts) (v : Data) : Type 0 where
  pub kinds : IsReplyOfKinds reply
  pub number : n ≤ largest_count
  pub shallow : Shallow (value_of (Ran n reply)) v

reply_kinds : (o : Option (List ℕ)) → option_map_or is_request_id o true ≡ true → IfSome o (λ s. is_request_id s ≡ true)
reply_kinds None is = tt
reply_kinds (Some s) is = is

pub written_run : (n : ℕ) (reply : ReplyParts) (v : Data) → ran_value n reply ≡ Some v → WrittenRun n reply v
written_run n reply v is = elim (cases_Bool (is_reply_kept reply && nat_le n largest_count)) [
  | inl t ↦ (
      let both = and_parts (is_reply_kept reply) (nat_le n largest_count) t in
      record {
        kinds = reply_kinds reply.rqi both.0;
        number = leb-true n largest_count both.1;
        shallow = shallow_is (value_of (Ran n reply)) v (sym (ap (λ b. if b then shallow_only (value_of (Ran n reply)) else None) t) ∙ is);
      })
  | inr f ↦ none_some v (sym (ap (λ b. if b then shallow_only (value_of (Ran n reply)) else None) f) ∙ is)
]

-- what is written of a number
pub written_count : (n : ℕ) (v : Data) → count_value n ≡ Some v → v ≡ number (pos n)
written_count n v is = elim (cases_Bool (nat_le n largest_count)) [
  | inl t ↦ sym (some_same (number (pos n)) v (sym (ap (λ b. if b then Some (number (pos n)) else None) t) ∙ is))
  | inr f ↦ none_some v (sym (ap (λ b. if b then Some (number (pos n)) else None) f) ∙ is)
]

-- ---- members

abbrev accepted_rows : LaterEntryData → List NamedValue
accepted_rows e =
    (codes "ct", Some (number (pos e.accepted))) ∷ (codes "number", Some (number (pos e.number)))
    ∷ (codes "org", Some (text e.originator)) ∷ (codes "req", Some (written_request e.request)) ∷ []

pub accepted_sorted : (e : LaterEntryData) → AreSorted (accepted_members e)
accepted_sorted e = present_sorted (accepted_rows e) refl

pub accepted_texts : (e : LaterEntryData) → HaveTextKeys (accepted_members e)
accepted_texts e = present_texts (accepted_rows e) refl

abbrev ran_rows : ℕ → ReplyParts → List NamedValue
ran_rows n reply = (codes "number", Some (number (pos n))) ∷ (codes "rsp", Some (written_reply reply)) ∷ []

pub ran_sorted : (n : ℕ) (reply : ReplyParts) → AreSorted (ran_members n reply)
ran_sorted n reply = present_sorted (ran_rows n reply) refl

pub ran_texts : (n : ℕ) (reply : ReplyParts) → HaveTextKeys (ran_members n reply)
ran_texts n reply = present_texts (ran_rows n reply) refl

-- what holds at all holds of what there may be
pub on_any : {A : Type 0} (P : Type 0) (o : Option A) → P → IfSome o (λ _. P)
on_any P None holds = tt
on_any P (Some a) holds = holds
