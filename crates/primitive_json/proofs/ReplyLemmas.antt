-- Replies are read back from what is written of them, and what is read is of its kinds.
use Rattle.std.proofs.Common.{◌≡◌, ℕ, List, Bool, true, false, not, is_some, is_none, if◌then◌else◌, Option, Some, None, option_map, option_and_then, unwrap_or, IfSome, Ok, refl, ap, ◌∙◌, subst}
use Rattle.std.specs.Option.{option_map_or}
use Rattle.m2m_names.specs.StatusCodes.{rsc_row}
use Rattle.m2m_names.specs.declared.codes.Rsc.{Rsc}
use Rattle.m2m_names.specs.declared.codes.Rsc.TheVariants.{Internal}
use Rattle.m2m_names.proofs.StatusLemmas.{rsc_again}
use Rattle.m2m_value.specs.Data.{Data, text, Entry}
use Rattle.m2m_value.specs.View.{as_text, member_of}
use Rattle.primitive_json.specs.Bounds.{is_request_id}
use Rattle.primitive_json.specs.Kinds.{is_id_text, read_status}
use Rattle.primitive_json.specs.Laws.{IsReplyOfKinds}
use Rattle.primitive_json.specs.Reading.{rsc_name, rqi_name, pc_name, reply_fault, reply_made, reply_of_members, read_reply}
use Rattle.primitive_json.specs.Writing.{reply_rows, written_reply}
use Rattle.filter_criteria.specs.Values.{members_in, present, count_data}
use Rattle.primitive_json.specs.declared.fault.PrimFault.{PrimFault}
use Rattle.primitive_json.specs.declared.fault.PrimFault.TheVariants.{Missing, Bad}
use Rattle.primitive_json.specs.declared.reply.ReplyParts.{ReplyParts}
use Rattle.primitive_json.proofs.FaultLemmas.{read_without_fault, read_if_no_fault}
use Rattle.primitive_json.proofs.KindLemmas.{told_passes}
use Rattle.filter_criteria.proofs.Present.{member_of-present, members_in-object_of}
use Rattle.std.proofs.lemmas.Bool.{not-false}

-- ---- the status code is read back from its number

status_back : (r : Rsc) → read_status (count_data (rsc_row r).number) ≡ Some r
status_back r = rsc_again r

-- ---- a reply is read back

id_fits : (id : Option (List ℕ)) → IfSome id (λ s. is_request_id s ≡ true) → option_map_or is_id_text (option_map text id) true ≡ true
id_fits None h = refl
id_fits (Some s) h = h

text_back : (o : Option (List ℕ)) → option_and_then as_text (option_map text o) ≡ o
text_back None = refl
text_back (Some s) = refl

-- the fault that three tests find
abbrev fault_by : Bool → Bool → Bool → Option PrimFault
fault_by absent id_bad status_bad =
    if absent then Some (Missing rsc_name) else (if id_bad then Some (Bad rqi_name) else (if status_bad then Some (Bad rsc_name) else None))

module _ (r : ReplyParts) (kind : IsReplyOfKinds r) where
  abbrev es : List Entry
  es = present (reply_rows r)

  status_there : member_of rsc_name es ≡ Some (count_data (rsc_row r.rsc).number)
  status_there = member_of-present rsc_name (reply_rows r) refl

  id_there : member_of rqi_name es ≡ option_map text r.rqi
  id_there = member_of-present rqi_name (reply_rows r) refl

  content_there : member_of pc_name es ≡ r.pc
  content_there = member_of-present pc_name (reply_rows r) refl

  without_fault : reply_fault es ≡ None
  without_fault =
      let absent = ap is_none status_there in
      let id = ap (λ (d : Option Data). not (option_map_or is_id_text d true)) id_there ∙ ap not (id_fits r.rqi kind) in
      let status = ap (λ (d : Option Data). not (option_map_or (λ d. is_some (read_status d)) d true)) status_there ∙ ap (λ (s : Option Rsc). not (is_some s)) (status_back r.rsc) in
      λ i. fault_by (absent i) (id i) (status i)

  same_reply : reply_made es ≡ r
  same_reply =
      let rsc = ap (λ (d : Option Data). unwrap_or (option_and_then read_status d) Internal) status_there ∙ ap (λ (s : Option Rsc). unwrap_or s Internal) (status_back r.rsc) in
      let rqi = ap (option_and_then as_text) id_there ∙ text_back r.rqi in
      let pc = content_there in
      λ i. record { rsc = rsc i; rqi = rqi i; pc = pc i }

  pub reply_back : read_reply (written_reply r) ≡ Ok r
  reply_back = ap reply_of_members (members_in-object_of (reply_rows r)) ∙ read_if_no_fault (reply_fault es) (reply_made es) r without_fault same_reply

-- ---- what is read is of its kind

id_good : (absent id_bad status_bad : Bool) → fault_by absent id_bad status_bad ≡ None → id_bad ≡ false
id_good true id_bad status_bad h = cc
id_good false true status_bad h = cc
id_good false false status_bad h = refl

id_passes : (o : Option Data) → option_map_or is_id_text o true ≡ true → IfSome (option_and_then as_text o) (λ s. is_request_id s ≡ true)
id_passes None h = tt
id_passes (Some d) h = told_passes is_request_id (as_text d) h

pub reply_of_kinds : (d : Data) (r : ReplyParts) → read_reply d ≡ Ok r → IsReplyOfKinds r
reply_of_kinds d r is =
    let es = members_in d in
    let read = read_without_fault (reply_fault es) (reply_made es) r is in
    let good = id_good (is_none (member_of rsc_name es)) (not (option_map_or is_id_text (member_of rqi_name es) true)) (not (option_map_or (λ d. is_some (read_status d)) (member_of rsc_name es) true)) read.0 in
    let P : ReplyParts → Type 0 = IsReplyOfKinds in
    subst P read.1 (id_passes (member_of rqi_name es) (not-false _ good))
