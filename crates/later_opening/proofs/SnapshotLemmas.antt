-- The words of accepted requests, in order, make them.
use Rattle.std.specs.Prelude.{is_some, pos}
use Rattle.std.specs.Option.{option_map_or}
use Rattle.std.proofs.Common.{◌≡◌, ℕ, ◌+◌, ◌<◌, ◌≤◌, ◌&&◌, nat_lt, nat_le, Bool, if◌then◌else◌, List, [], ◌∷◌, ◌++◌, length, take, drop, get_or, true, false, Option, Some, None, inl, inr, refl, sym, ap, ◌∙◌, subst, arith, append_assoc, lt-ltb, le-leb, ltb-true, leb-true, true≢false, Result, Ok, Err}
use Rattle.std.specs.Prelude.{OnOk, flat_map}
use Rattle.std.specs.List.{AllByRecursion, list_all}
use Rattle.std.proofs.lemmas.Bool.{and_from, and_parts}
use Rattle.std.proofs.lemmas.List.{append-nil, drop_more, take_all, take_more}
use Rattle.std.proofs.lemmas.List.Concat.{flat_map-append}
use Rattle.m2m_value.specs.Data.{Data, number as numeral}
use Rattle.m2m_value.specs.Shapes.{largest_count}
use Rattle.primitive_json.specs.declared.reply.ReplyParts.{ReplyParts}
use Rattle.entity_model.specs.Entity.{EntityData}
use Rattle.accepted_requests.specs.Entries.{LaterEntryData, LaterRequestsData, no_entries}
use Rattle.entity_snapshot.specs.Snapshots.{SpellsEntity}
use Rattle.journal_file.specs.Gates.{at_rest}
use Rattle.journal_opening.specs.Journals.{made_of}
use Rattle.later_lines.proofs.SpelledLemmas.{words_spelled}
use Rattle.later_lines.specs.Keeping.{accepted_value, before_run, count_value, ran_value}
use Rattle.later_lines.specs.Words.{IsReadBack, word_lines}
use Rattle.later_lines.specs.declared.word.Word.{Word as LaterWord}
use Rattle.later_lines.specs.declared.word.Word.TheVariants.{Accepted, Ran, Given}
use Rattle.later_opening.proofs.ActLemmas.{deeds_join, requests_join, spells_acts_join}
use Rattle.later_opening.proofs.NumberLemmas.{acts_rise, ran_among}
use Rattle.later_opening.specs.Acts.{deeds_in}
use Rattle.later_opening.specs.Making.{fits, later_of, ran_in, requests_of, with_result}
use Rattle.later_opening.specs.Numbers.{AreNumbered, RiseTo}
use Rattle.later_opening.specs.Snapshots.{AppendsEntry, AppendsResult, AppendsResultOf, AppendsWords, CanBeKeptAt, IsLaterSnapshot, entry_lines, given_lines, is_readable, last_of, requests_lines, result_lines}
use Rattle.later_opening.specs.declared.act.Act.TheVariants.{Word}

-- these accepted requests, and the last number
abbrev pub some : List LaterEntryData → ℕ → LaterRequestsData
some entries given = record { entries = entries; given = given }

pub none_appended : (e : EntityData) (text : List ℕ) → AppendsWords e no_entries text text
none_appended e text = record { acts = []; lines = []; appended = sym (append-nil text); spells = refl; none = refl; made = refl }

-- one word more, which fits
pub word_appended : (e : EntityData) (q r : LaterRequestsData) (word : LaterWord) (old mid new : List ℕ) → AppendsWords e q old mid → IsReadBack word → fits word e.last q ≡ true
    → new ≡ mid ++ word_lines word → requests_of (Word word ∷ []) q ≡ r → AppendsWords e r old new
word_appended e q r word old mid new words back fit is more =
    let inner : made_of (deeds_in words.acts) e ≡ e = ap (λ ds. made_of ds e) words.none in
    let fits_there : fits word (made_of (deeds_in words.acts) e).last (requests_of words.acts no_entries) ≡ true =
    ap (λ (d : EntityData). fits word d.last (requests_of words.acts no_entries)) inner ∙ ap (fits word e.last) words.made ∙ fit in
    record {
      acts = words.acts ++ Word word ∷ [];
      lines = words.lines ++ word_lines word;
      appended = is ∙ ap (λ (l : List ℕ). l ++ word_lines word) words.appended ∙ append_assoc old words.lines (word_lines word);
      spells = spells_acts_join e no_entries words.acts (Word word) words.lines (word_lines word) words.spells (words_spelled word back) fits_there;
      none = deeds_join words.acts (Word word) ∙ append-nil (deeds_in words.acts) ∙ words.none;
      made = requests_join words.acts (Word word) no_entries ∙ ap (λ (x : LaterRequestsData). requests_of (Word word ∷ []) x) words.made ∙ more;
    }

-- numbers that rise in what words make
words_rise : (e : EntityData) (q : LaterRequestsData) (old new : List ℕ) → AppendsWords e q old new → AreNumbered q
words_rise e q old new words =
    let none : AreNumbered no_entries = omega arith in
    subst AreNumbered words.made (acts_rise e no_entries words.acts words.lines words.spells none)

-- the result of the last one
result_appended : (e : EntityData) (entries : List LaterEntryData) (x : LaterEntryData) (reply : Option ReplyParts) (old mid new : List ℕ) → x.reply ≡ reply
    → AppendsWords e (some (entries ++ before_run x ∷ []) x.number) old mid → AppendsResultOf x.number reply mid new → AppendsWords e (some (entries ++ x ∷ []) x.number) old new
result_appended e entries x None old mid new is words same =
    let alike : before_run x ≡ x = sym (ap (λ (r : Option ReplyParts). record x { reply = r }) is) in
    subst (AppendsWords e (some (entries ++ x ∷ []) x.number) old) (sym same)
    (subst (λ (y : LaterEntryData). AppendsWords e (some (entries ++ y ∷ []) x.number) old mid) alike words)
result_appended e entries x (Some reply) old mid new is words (appended, back) =
    let alike : with_result reply (before_run x) ≡ x = sym (ap (λ (r : Option ReplyParts). record x { reply = r }) is) in
    let there : ran_in x.number reply (entries ++ before_run x ∷ []) ≡ entries ++ x ∷ [] =
    ran_among reply entries (before_run x) [] x.number (words_rise e (some (entries ++ before_run x ∷ []) x.number) old mid words) refl
    ∙ ap (λ (y : LaterEntryData). entries ++ y ∷ []) alike in
    word_appended e (some (entries ++ before_run x ∷ []) x.number) (some (entries ++ x ∷ []) x.number) (Ran x.number reply) old mid new words back refl appended
    (ap (λ (l : List LaterEntryData). some l x.number) there)

-- one accepted request more
pub entry_appended : (e : EntityData) (entries : List LaterEntryData) (last : ℕ) (x : LaterEntryData) (old mid new : List ℕ) → AppendsWords e (some entries last) old mid
    → AppendsEntry e.last last x mid new → AppendsWords e (some (entries ++ x ∷ []) x.number) old new
entry_appended e entries last x old mid new words appends =
    let fit : fits (Accepted (before_run x)) e.last (some entries last) ≡ true =
    and_from (nat_lt last x.number) (nat_le x.accepted e.last) (lt-ltb last x.number appends.above) (le-leb x.accepted e.last appends.earlier) in
    let accepted : AppendsWords e (some (entries ++ before_run x ∷ []) x.number) old appends.between =
    word_appended e (some entries last) (some (entries ++ before_run x ∷ []) x.number) (Accepted (before_run x)) old mid appends.between words appends.reads_back fit appends.accepted refl in
    result_appended e entries x x.reply old appends.between new refl accepted appends.result

-- the last number
pub given_appended : (e : EntityData) (entries : List LaterEntryData) (last given : ℕ) (old mid new : List ℕ) → AppendsWords e (some entries last) old mid → last ≤ given
    → IsReadBack (Given given) → new ≡ mid ++ word_lines (Given given) → AppendsWords e (some entries given) old new
given_appended e entries last given old mid new words le back is =
    word_appended e (some entries last) (some entries given) (Given given) old mid new words back (le-leb last given le) is refl

-- ---- a snapshot

pub snapshot_of_words : (e : EntityData) (q : LaterRequestsData) (front text bytes : List ℕ) → SpellsEntity e front → AppendsWords e q front text → text ≡ front ++ requests_lines q
    → bytes ≡ at_rest text → IsLaterSnapshot (later_of e q) bytes
snapshot_of_words e q front text bytes spells words lines rest = record {
  text = text;
  front = front;
  spells = spells;
  lines = lines;
  makes = record {
    base = e;
    acts = words.acts;
    journal = record { front = front; lines = words.lines; split = words.appended; opens = inr (record { own = refl; spells = spells }); spells = words.spells };
    made =
        ap (λ (x : LaterRequestsData). later_of e x) (sym words.made)
        ∙ ap (λ (x : EntityData). later_of x (requests_of words.acts no_entries)) (sym (ap (λ ds. made_of ds e) words.none));
  };
  rest = rest;
}

-- ---- what is put

pub on_ok : {A E : Type 0} (P Q : Type 0) → (P → Q) → (r : Result A E) → OnOk r P → OnOk r Q
on_ok P Q on (Ok a) p = on p
on_ok P Q on (Err e) p = tt

pub on_both_ok : {A E : Type 0} (P Q R : Type 0) → (P → Q → R) → (r : Result A E) → OnOk r P → OnOk r Q → OnOk r R
on_both_ok P Q R on (Ok a) p q = on p q
on_both_ok P Q R on (Err e) p q = tt

-- the result of an accepted request, which was put
pub result_put : (e : LaterEntryData) (number : ℕ) (reply : ReplyParts) (old new : List ℕ) → number ≡ e.number → Some reply ≡ e.reply → new ≡ old ++ word_lines (Ran number reply)
    → IsReadBack (Ran number reply) → AppendsResult e old new
result_put e number reply old new same some put back =
    subst (λ (o : Option ReplyParts). AppendsResultOf e.number o old new) some
    (subst (λ (n : ℕ). (new ≡ old ++ word_lines (Ran n reply)) × IsReadBack (Ran n reply)) same (put, back))

-- nothing, where it has none
pub no_result : (e : LaterEntryData) (text : List ℕ) → None ≡ e.reply → AppendsResult e text text
no_result e text none = subst (λ (o : Option ReplyParts). AppendsResultOf e.number o text text) none refl

-- an accepted request that fits behind the last one, which was put
pub entry_put : (moment last : ℕ) (e : LaterEntryData) (old mid new : List ℕ) → nat_lt last e.number && nat_le e.accepted moment ≡ true → mid ≡ old ++ word_lines (Accepted (before_run e))
    → IsReadBack (Accepted (before_run e)) → AppendsResult e mid new → AppendsEntry moment last e old new
entry_put moment last e old mid new fits put back result =
    let parts = and_parts (nat_lt last e.number) (nat_le e.accepted moment) fits in
    record {
      between = mid;
      above = ltb-true last e.number parts.0;
      earlier = leb-true e.accepted moment parts.1;
      accepted = put;
      reads_back = back;
      result = result;
    }

-- ---- its lines

-- those of a result
result_put_lines : (n : ℕ) (reply : Option ReplyParts) (old new : List ℕ) → AppendsResultOf n reply old new → new ≡ old ++ result_lines n reply
result_put_lines n None old new same = same ∙ sym (append-nil old)
result_put_lines n (Some reply) old new put = put.0

-- those of an accepted request
entry_put_lines : (moment last : ℕ) (x : LaterEntryData) (old new : List ℕ) → AppendsEntry moment last x old new → new ≡ old ++ entry_lines x
entry_put_lines moment last x old new put =
    result_put_lines x.number x.reply put.between new put.result
    ∙ ap (λ (l : List ℕ). l ++ result_lines x.number x.reply) put.accepted
    ∙ append_assoc old (word_lines (Accepted (before_run x))) (result_lines x.number x.reply)

-- those of one more
more_lines : (front : List LaterEntryData) (x : LaterEntryData) (start text new : List ℕ) → text ≡ start ++ flat_map entry_lines front → new ≡ text ++ entry_lines x
    → new ≡ start ++ flat_map entry_lines (front ++ x ∷ [])
more_lines front x start text new so more =
    more ∙ ap (λ (l : List ℕ). l ++ entry_lines x) so ∙ append_assoc start (flat_map entry_lines front) (entry_lines x)
    ∙ ap (λ (l : List ℕ). start ++ (flat_map entry_lines front ++ l)) (sym (append-nil (entry_lines x)))
    ∙ ap (λ (l : List ℕ). start ++ l) (sym (flat_map-append entry_lines front (x ∷ [])))

-- the last number, with one more
last_more : (n : ℕ) (front : List LaterEntryData) (x : LaterEntryData) → last_of n (front ++ x ∷ []) ≡ x.number
last_more n [] x = refl
last_more n (e ∷ front) x = last_more e.number front x

-- the last number of them is the last that was given
pub lines_without_given : (entries : List LaterEntryData) (given last : ℕ) (start text : List ℕ) → text ≡ start ++ flat_map entry_lines entries → last ≡ last_of 0 entries
    → given_lines last given ≡ [] → text ≡ start ++ requests_lines (some entries given)
lines_without_given entries given last start text lines is none =
    let there : given_lines (last_of 0 entries) given ≡ [] = ap (λ (n : ℕ). given_lines n given) (sym is) ∙ none in
    lines ∙ ap (λ (l : List ℕ). start ++ l)
    (sym (ap (λ (l : List ℕ). flat_map entry_lines entries ++ l) there ∙ append-nil (flat_map entry_lines entries)))

-- the lines of the last number that was given stand behind them
pub lines_with_given : (entries : List LaterEntryData) (given last : ℕ) (start text new : List ℕ) → text ≡ start ++ flat_map entry_lines entries → last ≡ last_of 0 entries
    → given_lines last given ≡ word_lines (Given given) → new ≡ text ++ word_lines (Given given) → new ≡ start ++ requests_lines (some entries given)
lines_with_given entries given last start text new lines is there put =
    let behind : word_lines (Given given) ≡ given_lines (last_of 0 entries) given = sym there ∙ ap (λ (n : ℕ). given_lines n given) is in
    put ∙ ap (λ (l : List ℕ). l ++ word_lines (Given given)) lines ∙ append_assoc start (flat_map entry_lines entries) (word_lines (Given given))
    ∙ ap (λ (l : List ℕ). start ++ (flat_map entry_lines entries ++ l)) behind

-- ---- which can be kept

none_is_some : {A B : Type 0} (x : A) → None ≡ Some x → B
none_is_some x e = cc

and_second : (a b : Bool) → b ≡ false → (a && b) ≡ false
and_second true b is = is
and_second false b is = refl

-- a result that isn't put isn't read back
pub result_unkept : (e : LaterEntryData) (number : ℕ) (reply : ReplyParts) → number ≡ e.number → Some reply ≡ e.reply → ran_value number reply ≡ None
    → option_map_or (λ r. is_some (ran_value e.number r)) e.reply true ≡ false
result_unkept e number reply same some none =
    ap (λ (o : Option ReplyParts). option_map_or (λ r. is_some (ran_value e.number r)) o true) (sym some)
    ∙ ap (λ (n : ℕ). is_some (ran_value n reply)) (sym same) ∙ ap is_some none

-- nor can an accepted request be kept that doesn't fit there, or of which something isn't read back
pub entry_unfit : (fits : Bool) (e : LaterEntryData) → fits ≡ false → (fits && is_readable e) ≡ false
entry_unfit fits e is = ap (λ (b : Bool). b && is_readable e) is

pub entry_unkept : (fits : Bool) (e : LaterEntryData) → accepted_value e ≡ None → (fits && is_readable e) ≡ false
entry_unkept fits e none =
    and_second fits (is_readable e)
    (ap (λ (o : Option Data). is_some o && option_map_or (λ r. is_some (ran_value e.number r)) e.reply true) none)

pub entry_unread : (fits : Bool) (e : LaterEntryData) → option_map_or (λ r. is_some (ran_value e.number r)) e.reply true ≡ false → (fits && is_readable e) ≡ false
entry_unread fits e is = and_second fits (is_readable e) (and_second (is_some (accepted_value e)) _ is)

-- a number that isn't put is too great
pub number_unkept : {B : Type 0} (n : ℕ) → count_value n ≡ None → n ≤ largest_count → B
number_unkept n none le = none_is_some (numeral (pos n)) (sym none ∙ ap (λ (b : Bool). if b then Some (numeral (pos n)) else None) (le-leb n largest_count le))

-- these can be kept behind some of which the last has this number
pub record CanFollow (moment last given : ℕ) (rest : List LaterEntryData) : Type 0 where
  pub each : list_all is_readable rest ≡ true
  pub earlier : AllByRecursion (λ (e : LaterEntryData). e.accepted ≤ moment) rest
  pub rise : RiseTo last given rest

-- so can those behind the first
follow_next : (moment last given : ℕ) (x : LaterEntryData) (rest : List LaterEntryData) → CanFollow moment last given (x ∷ rest) → CanFollow moment x.number given rest
follow_next moment last given x rest can = record {
  each = (and_parts (is_readable x) (list_all is_readable rest) can.each).1;
  earlier = can.earlier.1;
  rise = can.rise.1;
}

-- the first can
first_follows : (moment last given : ℕ) (x : LaterEntryData) (rest : List LaterEntryData) → CanFollow moment last given (x ∷ rest)
    → (nat_lt last x.number && nat_le x.accepted moment && is_readable x) ≡ true
first_follows moment last given x rest can =
    and_from (nat_lt last x.number && nat_le x.accepted moment) (is_readable x)
    (and_from (nat_lt last x.number) (nat_le x.accepted moment) (lt-ltb last x.number can.rise.0) (le-leb x.accepted moment can.earlier.0))
    (and_parts (is_readable x) (list_all is_readable rest) can.each).0

-- the last number that was given isn't below the last of them
pub given_past : (past given : ℕ) (entries : List LaterEntryData) → RiseTo past given entries → last_of past entries ≤ given
given_past past given [] rise = rise
given_past past given (e ∷ entries) rise = given_past e.number given entries rise.1

-- ---- accepted requests, one after another

-- so many are put, the last of which has this number
pub record PutSoFar (moment place : ℕ) (entries : List LaterEntryData) (last : ℕ) (start text : List ℕ) : Type 0 where
  pub within : place ≤ length entries
  pub words : (e : EntityData) → e.last ≡ moment → AppendsWords e (some (take place entries) last) start text
  pub lines : text ≡ start ++ flat_map entry_lines (take place entries)
  pub last_is : last ≡ last_of 0 (take place entries)
  pub rest : (given : ℕ) → CanBeKeptAt moment (some entries given) → CanFollow moment last given (drop place entries)

pub put_none : (moment : ℕ) (entries : List LaterEntryData) (text : List ℕ) → PutSoFar moment 0 entries 0 text text
put_none moment entries text = record {
  within = omega arith;
  words = λ e at. none_appended e text;
  lines = sym (append-nil text);
  last_is = refl;
  rest = λ given can. record { each = can.each; earlier = can.earlier; rise = can.numbered };
}

-- those that are left, with the next in front
left_first : (moment place : ℕ) (entries : List LaterEntryData) (last : ℕ) (x : LaterEntryData) (start text : List ℕ) → place < length entries → PutSoFar moment place entries last start text
    → x ≡ get_or entries place x → (given : ℕ) → CanBeKeptAt moment (some entries given) → CanFollow moment last given (x ∷ drop (place + 1) entries)
left_first moment place entries last x start text lt so at given can =
    subst (CanFollow moment last given)
    (drop_more entries place x lt ∙ ap (λ (y : LaterEntryData). y ∷ drop (place + 1) entries) (sym at)) (so.rest given can)

pub put_next : (moment place : ℕ) (entries : List LaterEntryData) (last number : ℕ) (x : LaterEntryData) (start text new : List ℕ) → place < length entries → PutSoFar moment place entries last start text
    → x ≡ get_or entries place x → number ≡ x.number → AppendsEntry moment last x text new → PutSoFar moment (place + 1) entries number start new
put_next moment place entries last number x start text new lt so at same appends =
    let front : take place entries ++ x ∷ [] ≡ take (place + 1) entries =
    ap (λ (y : LaterEntryData). take place entries ++ y ∷ []) at ∙ sym (take_more entries place x lt) in
    record {
      within = omega (arith, lt);
      words = λ e is.
          let there : AppendsEntry e.last last x text new = subst (λ (m : ℕ). AppendsEntry m last x text new) (sym is) appends in
          let more : AppendsWords e (some (take place entries ++ x ∷ []) x.number) start new = entry_appended e (take place entries) last x start text new (so.words e is) there in
          subst (λ (n : ℕ). AppendsWords e (some (take (place + 1) entries) n) start new) (sym same)
          (subst (λ (l : List LaterEntryData). AppendsWords e (some l x.number) start new) front more);
      lines =
          more_lines (take place entries) x start text new so.lines (entry_put_lines moment last x text new appends)
          ∙ ap (λ (l : List LaterEntryData). start ++ flat_map entry_lines l) front;
      last_is = same ∙ sym (last_more 0 (take place entries) x) ∙ ap (last_of 0) front;
      rest = λ given can.
          subst (λ (n : ℕ). CanFollow moment n given (drop (place + 1) entries)) (sym same)
          (follow_next moment last given x (drop (place + 1) entries) (left_first moment place entries last x start text lt so at given can));
    }

pub put_all : (moment place : ℕ) (entries : List LaterEntryData) (last : ℕ) (start text : List ℕ) → length entries ≤ place → PutSoFar moment place entries last start text
    → (e : EntityData) → e.last ≡ moment → AppendsWords e (some entries last) start text
put_all moment place entries last start text past so e is =
    subst (λ (l : List LaterEntryData). AppendsWords e (some l last) start text) (take_all place entries past) (so.words e is)

pub all_lines : (moment place : ℕ) (entries : List LaterEntryData) (last : ℕ) (start text : List ℕ) → length entries ≤ place → PutSoFar moment place entries last start text
    → text ≡ start ++ flat_map entry_lines entries
all_lines moment place entries last start text past so = so.lines ∙ ap (λ (l : List LaterEntryData). start ++ flat_map entry_lines l) (take_all place entries past)

pub last_of_all : (moment place : ℕ) (entries : List LaterEntryData) (last : ℕ) (start text : List ℕ) → length entries ≤ place → PutSoFar moment place entries last start text
    → last ≡ last_of 0 entries
last_of_all moment place entries last start text past so = so.last_is ∙ ap (last_of 0) (take_all place entries past)

-- the next one isn't put, where it can't be kept
pub next_unkept : (moment place : ℕ) (entries : List LaterEntryData) (last : ℕ) (x : LaterEntryData) (start text : List ℕ) → place < length entries → PutSoFar moment place entries last start text
    → x ≡ get_or entries place x → (nat_lt last x.number && nat_le x.accepted moment && is_readable x) ≡ false → (given : ℕ) → CanBeKeptAt moment (some entries given) → ⊥
next_unkept moment place entries last x start text lt so at unkept given can =
    true≢false (sym (first_follows moment last given x (drop (place + 1) entries) (left_first moment place entries last x start text lt so at given can)) ∙ unkept)
