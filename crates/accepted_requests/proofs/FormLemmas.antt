-- Members that are put behind others.
use Rattle.std.proofs.Common.{◌≡◌, ℕ, codes, List, [], ◌∷◌, ◌++◌, Option, Some, Result, Ok, Err, sym, ap, ◌∙◌, append_assoc}
use Rattle.std.specs.Prelude.{OnOk, option_map}
use Rattle.std.proofs.lemmas.List.Elements.{filter_map-append}
use Rattle.m2m_names.specs.Operations.{op_row}
use Rattle.m2m_value.specs.Data.{Data, Entry, number, text}
use Rattle.filter_criteria.specs.Values.{NamedValue, count_data, entry_there, moment_data, present}
use Rattle.primitive_json.specs.Writing.{written_reply}
use Rattle.accepted_requests.specs.Entries.{LaterEntryData, due_of}
use Rattle.accepted_requests.specs.Form.{request_type, state_of}
use Rattle.accepted_requests.specs.Names.{entry_name}

-- members, and then others, are put there together
pub rows_more : (xs ys : List NamedValue) (none one two : List Entry) → one ≡ none ++ present xs → two ≡ one ++ present ys → two ≡ none ++ present (xs ++ ys)
rows_more xs ys none one two at1 at2 =
    at2 ∙ ap (λ (es : List Entry). es ++ present ys) at1 ∙ append_assoc none (present xs) (present ys)
    ∙ ap (λ (es : List Entry). none ++ es) (sym (filter_map-append entry_there xs ys))

-- two members, which have these values
pub two_rows : {X E : Type 0} (result : Result X E) (a b : List ℕ) (v w x y : Option Data) (none one two : List Entry) → v ≡ x → w ≡ y → one ≡ none ++ present ((a, v) ∷ []) → OnOk result (two ≡ one ++ present ((b, w) ∷ [])) → OnOk result (two ≡ none ++ present ((a, x) ∷ (b, y) ∷ []))
two_rows (Ok done) a b v w x y none one two is_v is_w at1 at2 =
    rows_more ((a, x) ∷ []) ((b, y) ∷ []) none one two
    (at1 ∙ ap (λ (d : Option Data). none ++ present ((a, d) ∷ [])) is_v)
    (at2 ∙ ap (λ (d : Option Data). one ++ present ((b, d) ∷ [])) is_w)
two_rows (Err fault) a b v w x y none one two is_v is_w at1 at2 = tt

-- ---- the members of an accepted request, by twos

abbrev pub moment_rows : LaterEntryData → List NamedValue
moment_rows e = (codes "ct", Some (moment_data e.accepted)) ∷ (codes "et", Some (moment_data (due_of e))) ∷ []

abbrev pub asking_rows : LaterEntryData → List NamedValue
asking_rows e = (codes "op", Some (number (op_row e.request.op).number)) ∷ (codes "org", Some (text e.originator)) ∷ []

abbrev pub reply_rows : LaterEntryData → List NamedValue
reply_rows e = (codes "ors", option_map written_reply e.reply) ∷ (codes "ri", Some (text (entry_name e.number))) ∷ []

abbrev pub state_rows : LaterEntryData → List NamedValue
state_rows e = (codes "rid", Some (text e.request.rqi)) ∷ (codes "rs", Some (count_data (state_of e.reply))) ∷ []

abbrev pub target_rows : LaterEntryData → List NamedValue
target_rows e = (codes "tg", Some (text e.request.to)) ∷ (codes "ty", Some (count_data request_type)) ∷ []

-- all of them, one pair after another
pub all_rows : (a b c d e : List NamedValue) (l0 l1 l2 l3 l4 l5 : List Entry) → l0 ≡ [] → l1 ≡ l0 ++ present a → l2 ≡ l1 ++ present b → l3 ≡ l2 ++ present c → l4 ≡ l3 ++ present d → l5 ≡ l4 ++ present e → l5 ≡ present (a ++ (b ++ (c ++ (d ++ e))))
all_rows a b c d e l0 l1 l2 l3 l4 l5 none at1 at2 at3 at4 at5 =
    rows_more a (b ++ (c ++ (d ++ e))) l0 l1 l5 at1
    (rows_more b (c ++ (d ++ e)) l1 l2 l5 at2
    (rows_more c (d ++ e) l2 l3 l5 at3 (rows_more d e l3 l4 l5 at4 at5)))
    ∙ ap (λ (es : List Entry). es ++ present (a ++ (b ++ (c ++ (d ++ e))))) none
