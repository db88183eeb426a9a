-- The lines of a word are read back as it.
use Rattle.std.proofs.Common.{◌≡◌, ℕ, ◌≤◌, ◌++◌, pos, List, Bool, true, Option, Some, None, IfSome, option_map, option_and_then, Result, Ok, Err, OnOk, if◌then◌else◌, refl, sym, ap, ◌∙◌, subst, arith}
use Rattle.std.specs.Result.{result_ok}
use Rattle.filter_criteria.specs.Values.{where_it}
use Rattle.m2m_names.specs.Name.{is_originator}
use Rattle.m2m_value.specs.Data.{Data, depth, number}
use Rattle.m2m_value.specs.Reading.{reading, reading_depth}
use Rattle.m2m_value.specs.Spelling.{text_of}
use Rattle.primitive_json.proofs.ReplyLemmas.{reply_back}
use Rattle.primitive_json.proofs.RoundTrip.{request_back}
use Rattle.primitive_json.specs.Laws.{HasShortExpiry, IsOfKinds, IsReplyOfKinds}
use Rattle.primitive_json.specs.Reading.{read_reply, read_request}
use Rattle.primitive_json.specs.Writing.{written_reply, written_request}
use Rattle.primitive_json.specs.declared.reply.ReplyParts.{ReplyParts}
use Rattle.primitive_json.specs.declared.request.RequestParts.{RequestParts}
use Rattle.accepted_requests.specs.Entries.{LaterEntryData, accepted_entry}
use Rattle.later_lines.proofs.KindLemmas.{kept_entry, runs_alike, written_count, written_entry, written_run}
use Rattle.later_lines.specs.Keeping.{accepted_value, before_run, count_value, ran_value}
use Rattle.journal_lines.specs.Lines.{ended}
use Rattle.later_lines.specs.Words.{IsReadBack, entry_by, entry_in, is_moment, name_of, ran_by, ran_in, value_of, word_mark, word_of}
use Rattle.later_lines.specs.declared.word.Word.{Word}
use Rattle.later_lines.specs.declared.word.Word.TheVariants.{Accepted, Ran, Gone, Due, Given}

-- ---- values

-- the parts that the members of an accepted request say
entry_says : (e : LaterEntryData) → entry_in (value_of (Accepted e))
    ≡ entry_by (where_it is_moment (Some e.accepted)) (Some e.number) (where_it is_originator (Some e.originator)) (result_ok (read_request (written_request e.request)))
entry_says e = refl

passes : {A : Type 0} (test : A → Bool) (a : A) → test a ≡ true → where_it test (Some a) ≡ Some a
passes test a t = ap (λ b. if b then Some a else None) t

entry_back : (e : LaterEntryData) → is_moment e.accepted ≡ true → is_originator e.originator ≡ true → read_request (written_request e.request) ≡ Ok e.request
    → entry_in (value_of (Accepted e)) ≡ Some (accepted_entry e.number e.originator e.request e.accepted)
entry_back e moment who back =
    entry_says e
    ∙ ap (λ at. entry_by at (Some e.number) (where_it is_originator (Some e.originator)) (result_ok (read_request (written_request e.request))))
    (passes is_moment e.accepted moment)
    ∙ ap (λ o. entry_by (Some e.accepted) (Some e.number) o (result_ok (read_request (written_request e.request)))) (passes is_originator e.originator who)
    ∙ ap (λ r. entry_by (Some e.accepted) (Some e.number) (Some e.originator) (result_ok r)) back

ran_says : (n : ℕ) (reply : ReplyParts) → ran_in (value_of (Ran n reply)) ≡ ran_by (Some n) (result_ok (read_reply (written_reply reply)))
ran_says n reply = refl

ran_back : (n : ℕ) (reply : ReplyParts) → IsReplyOfKinds reply → ran_in (value_of (Ran n reply)) ≡ Some (Ran n reply)
ran_back n reply kinds = ran_says n reply ∙ ap (λ r. ran_by (Some n) (result_ok r)) (reply_back reply kinds)

-- ---- words

-- a word whose text is read as its value
read_by : (word : Word) → reading (text_of (value_of word)) ≡ Ok (value_of word) → word_of (name_of word) (value_of word) ≡ Some word → IsReadBack word
read_by word back is = ap (λ d. option_and_then (word_of (name_of word)) (result_ok d)) back ∙ is

-- a value whose text is read as it, where it is no deeper than a text is read
value_back : (d v : Data) → v ≡ d → depth v ≤ reading_depth → (depth v ≤ reading_depth → reading (text_of v) ≡ Ok v) → reading (text_of d) ≡ Ok d
value_back d v same deep back = subst (λ (x : Data). reading (text_of x) ≡ Ok x) same (back deep)

module _ (e : LaterEntryData) (kinds : IsOfKinds e.request × HasShortExpiry e.request) (v : Data) (is : accepted_value e ≡ Some v)
    (back : depth v ≤ reading_depth → reading (text_of v) ≡ Ok v) where
  pub accepted_back : IsReadBack (Accepted (before_run e))
  accepted_back =
      let written = written_entry e v is in
      let kept = kept_entry e written.kept in
      let one = entry_back e kept.moment kept.originator (request_back e.request kinds.0 kinds.1) in
      let alike : accepted_entry e.number e.originator e.request e.accepted ≡ before_run e =
      ap (λ (r : RequestParts). record e { request = r; reply = None }) (runs_alike e.request kept.request) in
      read_by (Accepted (before_run e)) (value_back (value_of (Accepted e)) v written.shallow.same written.shallow.depth_is back)
      (ap (option_map Accepted) one ∙ ap (λ (x : LaterEntryData). Some (Accepted x)) alike)

  pub accepted_written : v ≡ value_of (Accepted (before_run e))
  accepted_written = (written_entry e v is).shallow.same

module _ (n : ℕ) (reply : ReplyParts) (v : Data) (is : ran_value n reply ≡ Some v) (back : depth v ≤ reading_depth → reading (text_of v) ≡ Ok v) where
  pub run_back : IsReadBack (Ran n reply)
  run_back =
      let written = written_run n reply v is in
      read_by (Ran n reply) (value_back (value_of (Ran n reply)) v written.shallow.same written.shallow.depth_is back) (ran_back n reply written.kinds)

  pub run_written : v ≡ value_of (Ran n reply)
  run_written = (written_run n reply v is).shallow.same

-- a number nests nothing
number_back : (n : ℕ) (v : Data) → v ≡ number (pos n) → (depth v ≤ reading_depth → reading (text_of v) ≡ Ok v) → reading (text_of (number (pos n))) ≡ Ok (number (pos n))
number_back n v same back =
    let deep : depth v ≤ reading_depth = subst (λ (x : Data). depth x ≤ reading_depth) (sym same) (omega arith) in
    value_back (number (pos n)) v same deep back

pub gone_back : (n : ℕ) (v : Data) → count_value n ≡ Some v → (depth v ≤ reading_depth → reading (text_of v) ≡ Ok v) → IsReadBack (Gone n)
gone_back n v is back = read_by (Gone n) (number_back n v (written_count n v is) back) refl

pub due_back : (n : ℕ) (v : Data) → count_value n ≡ Some v → (depth v ≤ reading_depth → reading (text_of v) ≡ Ok v) → IsReadBack (Due n)
due_back n v is back = read_by (Due n) (number_back n v (written_count n v is) back) refl

pub given_back : (n : ℕ) (v : Data) → count_value n ≡ Some v → (depth v ≤ reading_depth → reading (text_of v) ≡ Ok v) → IsReadBack (Given n)
given_back n v is back = read_by (Given n) (number_back n v (written_count n v is) back) refl

-- ---- as calls give it

pub on_ok : {A E : Type 0} (r : Result A E) (P Q : Type 0) → (P → Q) → OnOk r P → OnOk r Q
on_ok (Ok a) P Q f p = f p
on_ok (Err e) P Q f p = tt

pub some_kept : {A : Type 0} (kept : Option A) (a : A) (K : Type 0) → kept ≡ Some a → IfSome kept (λ _. K) → K
some_kept {A = A} kept a K is there = subst (λ (o : Option A). IfSome o (λ _. K)) is there

-- the lines of a value are those of the word that has it
pub lines_of_value : (name : List ℕ) (old : List ℕ) (v d : Data) → v ≡ d
    → old ++ (word_mark ++ (ended name ++ ended (text_of v))) ≡ old ++ (word_mark ++ (ended name ++ ended (text_of d)))
lines_of_value name old v d same = ap (λ (x : Data). old ++ (word_mark ++ (ended name ++ ended (text_of x)))) same
