-- Items that are looked at, sent, and then taken, one after another.
use Rattle.std.proofs.Common.{◌≡◌, ◌⊎◌, ℕ, ◌+◌, ◌<◌, ◌∙◌, Bool, true, false, List, [], ◌∷◌, ◌++◌, length, map, Option, Some, None, Ok, Err, inl, inr, refl, sym, ap, subst, arith, length-append}
use Rattle.std.specs.Prelude.{OnOk, OnErr}
use Rattle.std.specs.declared.result.Result.{Result}
use Rattle.notify_outbox.specs.declared.item.Item.{Item}
use Rattle.turn_desk.specs.Entries.{Marked, as_others, as_own, entry_of}
use Rattle.kept_desk.specs.declared.turn.Answer.{Answer}
use Rattle.journal_events.specs.declared.event.KeptEvent.{KeptEvent}
use Rattle.journal_events.specs.declared.event.KeptEvent.TheVariants.{Next, Sent}
use Rattle.journal_events.specs.declared.event.KeptOutcome.{KeptOutcome}
use Rattle.cse_server.specs.Sending.{most_items}
use Rattle.journaled_server.specs.Sending.{AsksNow, CarriesNow, EndsItem, EndsSending, GivesNext, LooksNext, SaysSent, Sender, SendsEach, SendsItem, SendsLooked, SendsThenTakes, TellsTaken, item_given, none_left, taken}

-- one item was sent well, or was cut short
ends_item : {A E : Type 0} (result : Result A E) (whole is_taken : Bool) (answer : Answer KeptOutcome) → TellsTaken is_taken answer
    → OnOk result ((whole ≡ true) × (is_taken ≡ true)) → OnErr result ((whole ≡ false) ⊎ (is_taken ≡ false)) → EndsItem result whole answer
ends_item (Ok done) whole is_taken answer tells well short = (well.0, subst (λ (b : Bool). TellsTaken b answer) well.1 tells)
ends_item (Err fault) whole is_taken answer tells well (inl left) = inl left
ends_item (Err fault) whole is_taken answer tells well (inr stays) = inr (subst (λ (b : Bool). TellsTaken b answer) stays tells)

pub no_item : (given : Option Item) → ((item : Item) → given ≡ Some item → ⊥) → given ≡ None
no_item None some = refl
no_item (Some item) some = absurd (some item refl)

module _ {S : Type 0} (grown : S → List (Marked KeptEvent (Answer KeptOutcome)) → S → Type 0) where
  -- an item was carried, and then said to be sent
  pub sends_looked : {A E : Type 0} (item : Item) (number : ℕ) (whole told is_taken : Bool) (result : Result A E) (old mid new : Sender S) → number ≡ item.number → told ≡ whole
      → CarriesNow whole item.note old mid → SaysSent grown number mid new is_taken
      → OnOk result ((told ≡ true) × (is_taken ≡ true)) → OnErr result ((told ≡ false) ⊎ (is_taken ≡ false)) → SendsLooked grown item old new result
  sends_looked item number whole told is_taken result old mid new is same carries says well short = record {
    whole = whole;
    answer = says.answer;
    sends = record {
      between = mid;
      carries = carries;
      says = subst (λ (n : ℕ). AsksNow grown (Sent n) says.answer mid new) is says.asks;
    };
    ends = subst (λ (w : Bool). EndsItem result w says.answer) same (ends_item result told is_taken says.answer says.tells well short);
  }

  -- these were sent, and then one more
  each_on : (items : List Item) (item : Item) (a b c : Sender S) → SendsEach grown items a b → SendsItem grown item true taken b c → SendsEach grown (items ++ item ∷ []) a c
  each_on [] item a b c same one = (c, subst (λ (s : Sender S). SendsItem grown item true taken s c) same one, refl)
  each_on (i ∷ items) item a b c (mid, first, rest) one = (mid, first, each_on items item mid b c rest one)

  -- so many items were sent so far
  pub record HasSent (old new : Sender S) (count : ℕ) : Type 0 where
    pub items : List Item
    pub sends : SendsEach grown items old new
    pub counted : count ≡ length items

  pub sent_none : (at : Sender S) → HasSent at at 0
  sent_none at = record { items = []; sends = refl; counted = refl }

  -- an item that was looked at was sent
  sends_item : {E A F : Type 0} (item : Item) (old mid new : Sender S) (looked : Result (Option Item) E) (sent : Result A F)
      → LooksNext grown old mid looked → looked ≡ Ok (Some item) → (s : SendsLooked grown item mid new sent) → SendsItem grown item s.whole s.answer old new
  sends_item {E = E} item old mid new looked sent l is s =
      let gave : l.answer ≡ item_given item = subst (λ (r : Result (Option Item) E). GivesNext r l.answer) is l.gives in
      record {
        looked = mid;
        looks = subst (λ (answer : Answer KeptOutcome). AsksNow grown Next answer old mid) gave l.asks;
        sends = s.sends;
      }

  module _ {E : Type 0} (old mid looked : Sender S) (count : ℕ) (result : Result (Option Item) E) (h : HasSent old mid count) (l : LooksNext grown mid looked result) where
    -- one more was sent
    pub sent_more : {A F : Type 0} (item : Item) (new : Sender S) (sent : Result A F) (done : A) → result ≡ Ok (Some item) → SendsLooked grown item looked new sent → sent ≡ Ok done
        → HasSent old new (count + 1)
    sent_more {A = A} {F = F} item new sent done is s well =
        let ends : EndsItem {A = A} {E = F} (Ok done) s.whole s.answer = subst (λ (r : Result A F). EndsItem r s.whole s.answer) well s.ends in
        let one = sends_item item mid looked new result sent l is s in
        let whole = subst (λ (w : Bool). SendsItem grown item w s.answer mid new) ends.0 one in
        record {
          items = h.items ++ item ∷ [];
          sends = each_on h.items item old mid new h.sends (subst (λ (a : Answer KeptOutcome). SendsItem grown item true a mid new) ends.1 whole);
          counted = ap (λ n. n + 1) h.counted ∙ sym (length-append h.items (item ∷ []));
        }

    -- none was left
    pub sent_all : {F : Type 0} → result ≡ Ok None → count < most_items → SendsThenTakes grown {E = F} old looked (Ok count)
    sent_all is few =
        let gave : l.answer ≡ none_left = subst (λ (r : Result (Option Item) E). GivesNext r l.answer) is l.gives in
        record {
          items = h.items;
          between = mid;
          sends = h.sends;
          ends = (h.counted, inl (omega (arith, few, h.counted), subst (λ (answer : Answer KeptOutcome). AsksNow grown Next answer mid looked) gave l.asks));
        }

    -- none was told
    pub sent_unanswered : {F : Type 0} (why : E) (fault : F) → result ≡ Err why → count < most_items → SendsThenTakes grown {E = F} old looked (Err fault)
    sent_unanswered why fault is few = record {
      items = h.items;
      between = mid;
      sends = h.sends;
      ends = (omega (arith, few, h.counted), inl (l.answer, subst (λ (r : Result (Option Item) E). GivesNext r l.answer) is l.gives, l.asks));
    }

    -- it was cut short
    pub sent_short : {A F G : Type 0} (item : Item) (new : Sender S) (sent : Result A F) (why : F) (fault : G) → result ≡ Ok (Some item)
        → SendsLooked grown item looked new sent → sent ≡ Err why → count < most_items → SendsThenTakes grown {E = G} old new (Err fault)
    sent_short {A = A} {F = F} item new sent why fault is s short few = record {
      items = h.items;
      between = mid;
      sends = h.sends;
      ends = (
        omega (arith, few, h.counted),
        inr (
          item,
          s.whole,
          s.answer,
          subst (λ (r : Result A F). EndsItem r s.whole s.answer) short s.ends,
          sends_item item mid looked new result sent l is s,
        ),
      );
    }

  -- as many were sent as one call sends
  pub sent_full : {F : Type 0} (old new : Sender S) (count : ℕ) → HasSent old new count → count ≡ most_items → SendsThenTakes grown {E = F} old new (Ok count)
  sent_full old new count h full = record {
    items = h.items;
    between = new;
    sends = h.sends;
    ends = (h.counted, inr (sym h.counted ∙ full, refl));
  }

  -- ---- the seat grew by that

  module _ (nothing : (seat : S) → grown seat [] seat)
      (on : (before between after : S) (more then : List (Marked KeptEvent (Answer KeptOutcome))) → grown before more between → grown between then after → grown before (more ++ then) after) where
    abbrev GrewBy : Sender S → Sender S → Type 0
    GrewBy old new = (more : List (Marked KeptEvent (Answer KeptOutcome))) × grown old.seat more new.seat

    grew_both : (old mid new : Sender S) → GrewBy old mid → GrewBy mid new → GrewBy old new
    grew_both old mid new (more, first) (then, second) = (more ++ then, on old.seat mid.seat new.seat more then first second)

    grew_asked : (event : KeptEvent) (answer : Answer KeptOutcome) (old new : Sender S) → AsksNow grown event answer old new → GrewBy old new
    grew_asked event answer old new a = (map as_others a.asks.others ++ as_own (entry_of a.reading event answer) ∷ [], a.asks.grew)

    grew_item : (item : Item) (whole : Bool) (answer : Answer KeptOutcome) (old new : Sender S) → SendsItem grown item whole answer old new → GrewBy old new
    grew_item item whole answer old new s =
        let carried = s.sends.between in
        let says = subst (λ (seat : S). (more : List (Marked KeptEvent (Answer KeptOutcome))) × grown seat more new.seat) s.sends.carries.seat
        (grew_asked (Sent item.number) answer carried new s.sends.says) in
        grew_both old s.looked new (grew_asked Next (item_given item) old s.looked s.looks) says

    grew_each : (items : List Item) (old new : Sender S) → SendsEach grown items old new → GrewBy old new
    grew_each [] old new same = ([], subst (λ (s : Sender S). grown old.seat [] s.seat) (sym same) (nothing old.seat))
    grew_each (item ∷ items) old new (mid, first, rest) = grew_both old mid new (grew_item item true taken old mid first) (grew_each items mid new rest)

    grew_end : {E : Type 0} (result : Result ℕ E) (count : ℕ) (old new : Sender S) → EndsSending grown result count old new → GrewBy old new
    grew_end (Ok sent) count old new (is, inl (few, looks)) = grew_asked Next none_left old new looks
    grew_end (Ok sent) count old new (is, inr (full, same)) = ([], subst (λ (s : Sender S). grown old.seat [] s.seat) (sym same) (nothing old.seat))
    grew_end (Err fault) count old new (few, inl (answer, none, looks)) = grew_asked Next answer old new looks
    grew_end (Err fault) count old new (few, inr (item, whole, answer, short, sends)) = grew_item item whole answer old new sends

    pub sends_grew : {E : Type 0} (result : Result ℕ E) (old new : Sender S) → SendsThenTakes grown old new result
        → (more : List (Marked KeptEvent (Answer KeptOutcome))) × grown old.seat more new.seat
    sends_grew result old new s = grew_both old s.between new (grew_each s.items old s.between s.sends) (grew_end result (length s.items) s.between new s.ends)
