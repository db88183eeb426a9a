-- Items that are sent, one after another.
use Rattle.std.proofs.Common.{◌≡◌, ◌≢◌, ℕ, ◌+◌, ◌<◌, ◌∙◌, List, [], ◌∷◌, ◌++◌, length, map, Option, Some, None, Ok, Err, inl, inr, refl, sym, ap, subst, arith, append_assoc, append-nil, length-append}
use Rattle.std.proofs.lemmas.List.{map-append}
use Rattle.std.proofs.lemmas.Bool.{false≢true}
use Rattle.m2m_io.specs.Link.{Carrying, Exchange, TellsExchange}
use Rattle.m2m_io.specs.Told.{Tells}
use Rattle.primitive_json.specs.declared.note.NoteParts.{NoteParts}
use Rattle.primitive_json.specs.declared.request.RequestParts.{RequestParts}
use Rattle.http_client_binding.specs.Asking.{request_text}
use Rattle.http_client_binding.specs.TargetWriting.{host_of}
use Rattle.http_client_binding.specs.declared.target.Aim.{Aim}
use Rattle.std.specs.declared.result.Result.{Result}
use Rattle.turn_desk.specs.Entries.{Marked, entry_of}
use Rattle.turn_desk.specs.Growth.{Asks, AsksAll}
use Rattle.turn_desk.proofs.GrowthLemmas.{AsksAll-nothing, AsksAll-ask}
use Rattle.cse_machine.specs.declared.event.Event.{Event}
use Rattle.cse_machine.specs.declared.event.Event.TheVariants.{Take}
use Rattle.cse_machine.specs.declared.event.Outcome.{Outcome}
use Rattle.cse_machine.specs.declared.event.Outcome.TheVariants.{Item}
use Rattle.cse_server.specs.Outside.{Carries, LinkTold, link_told}
use Rattle.cse_server.specs.Sending.{GivesItem, SendsEach, SendsItems, TakesItem, carried_for, carried_to, item_given, most_items, none_left}
use Rattle.desk_replies.proofs.LinkLemmas.{Carries-append, Tells-append, Tells-nil, carries_nothing}

-- ---- what is carried

SendsEach-append : (ns ms : List NoteParts) (xs ys : List Carrying) → SendsEach ns xs → SendsEach ms ys → SendsEach (ns ++ ms) (xs ++ ys)
SendsEach-append [] ms xs ys first then = subst (λ (v : List Carrying). SendsEach ms (v ++ ys)) (sym first) then
SendsEach-append (n ∷ ns) ms xs ys first then = (
  first.0,
  first.1 ++ ys,
  ap (λ v. v ++ ys) first.2 ∙ append_assoc (carried_for n.dest n.request first.0) first.1 ys,
  SendsEach-append ns ms first.1 ys first.3 then,
)

SendsEach-one : (note : NoteParts) (answer : Option (List ℕ)) → SendsEach (note ∷ []) (carried_for note.dest note.request answer)
SendsEach-one note answer = (answer, [], sym (append-nil (carried_for note.dest note.request answer)), refl)

-- a host answered what is sent for a request
pub answered : (request : RequestParts) (url : List ℕ) (aim : Aim) (host text answer : List ℕ) (old new : Option (List Exchange)) (before now : ℕ)
    → host ≡ host_of url → text ≡ request_text request url aim
    → TellsExchange old new (record { host = host; request = text; answer = Some answer }) → now ≡ before
    → Carries (carried_to url aim request (Some answer)) (link_told old before) (link_told new now)
answered request url aim host text answer old new before now is_host is_text told steady = record {
  told = subst (λ (h : List ℕ). TellsExchange old new (record { host = h; request = request_text request url aim; answer = Some answer })) is_host
      (subst (λ (t : List ℕ). TellsExchange old new (record { host = host; request = t; answer = Some answer })) is_text told);
  count = omega (arith, steady);
  cause = λ some. absurd (false≢true some);
  steady = λ none. steady;
}

pub no_note : (given : Option NoteParts) → ((note : NoteParts) → given ≡ Some note → ⊥) → given ≡ None
no_note None some = refl
no_note (Some note) some = absurd (some note refl)

-- ---- what was sent so far

-- the question for the next item, once at each of these readings
abbrev takes : List ℕ → List Event
takes readings = map (λ (reading : ℕ). Take) readings

takes-append : (xs ys : List ℕ) → takes xs ++ takes ys ≡ takes (xs ++ ys)
takes-append xs ys = sym (map-append (λ (reading : ℕ). Take) xs ys)

given-append : (ns ms : List NoteParts) → map item_given ns ++ map item_given ms ≡ map item_given (ns ++ ms)
given-append ns ms = sym (map-append item_given ns ms)

some_item : (outcome : Outcome) (note : NoteParts) → outcome ≡ Item (Some note) → outcome ≢ none_left
some_item outcome note is none = let clash : Item (Some note) ≡ Item None = sym is ∙ none in cc

-- each item that a seat was given was sent
pub record HasSent {S : Type 0} (grown : S → List (Marked Event Outcome) → S → Type 0) (before after : S)
    (given now : Option (List ℕ)) (told more : LinkTold) (count : ℕ) : Type 0 where
  pub notes : List NoteParts
  pub readings : List ℕ
  pub carried : List Carrying
  pub asked : AsksAll grown before readings (takes readings) (map item_given notes) after
  pub clock : Tells (λ list. list ++ readings) given now
  pub sent : SendsEach notes carried
  pub link : Carries carried told more
  pub counted : count ≡ length notes

module _ {S : Type 0} (grown : S → List (Marked Event Outcome) → S → Type 0) where
  module _ (nothing : (seat : S) → grown seat [] seat) where
    pub sent_none : (seat : S) (given : Option (List ℕ)) (told : LinkTold) → HasSent grown seat seat given given told told 0
    sent_none seat given told = record {
      notes = [];
      readings = [];
      carried = [];
      asked = AsksAll-nothing grown nothing seat;
      clock = Tells-nil given;
      sent = refl;
      link = carries_nothing told;
      counted = refl;
    }

  module _ (on : (before between after : S) (more then : List (Marked Event Outcome)) → grown before more between → grown between then after → grown before (more ++ then) after) where
    -- one more question, of which this came
    asked_more : (before mid after : S) (rs : List ℕ) (os : List Outcome) (reading : ℕ) (outcome is : Outcome) → outcome ≡ is
        → AsksAll grown before rs (takes rs) os mid → Asks grown mid (entry_of reading Take outcome) after
        → AsksAll grown before (rs ++ reading ∷ []) (takes (rs ++ reading ∷ [])) (os ++ is ∷ []) after
    asked_more before mid after rs os reading outcome is same first then =
        subst (λ (o : Outcome). AsksAll grown before (rs ++ reading ∷ []) (takes (rs ++ reading ∷ [])) (os ++ o ∷ []) after) same
        (subst (λ (es : List Event). AsksAll grown before (rs ++ reading ∷ []) es (os ++ outcome ∷ []) after) (takes-append rs (reading ∷ []))
        (AsksAll-ask grown on first then))

    module _ {E : Type 0} (before mid after : S) (given then now : Option (List ℕ)) (told more : LinkTold) (count : ℕ) (result : Result (Option NoteParts) E)
        (h : HasSent grown before mid given then told more count) (t : TakesItem grown mid after then now result) where
      -- the item that was given was sent
      pub sent_more : (last : LinkTold) (note : NoteParts) (answer : Option (List ℕ)) → result ≡ Ok (Some note)
          → Carries (carried_for note.dest note.request answer) more last → HasSent grown before after given now told last (count + 1)
      sent_more last note answer is carried =
          let gave : t.outcome ≡ Item (Some note) = subst (λ (r : Result (Option NoteParts) E). GivesItem r t.outcome) is t.gives in
          record {
            notes = h.notes ++ note ∷ [];
            readings = h.readings ++ t.reading ∷ [];
            carried = h.carried ++ carried_for note.dest note.request answer;
            asked = subst (λ (os : List Outcome). AsksAll grown before (h.readings ++ t.reading ∷ []) (takes (h.readings ++ t.reading ∷ [])) os after)
                (given-append h.notes (note ∷ []))
                (asked_more before mid after h.readings (map item_given h.notes) t.reading t.outcome (Item (Some note)) gave h.asked t.asks);
            clock = Tells-append h.readings (t.reading ∷ []) given then now h.clock t.clock;
            sent = SendsEach-append h.notes (note ∷ []) h.carried (carried_for note.dest note.request answer) h.sent (SendsEach-one note answer);
            link = Carries-append h.carried (carried_for note.dest note.request answer) told more last h.link carried;
            counted = ap (λ n. n + 1) h.counted ∙ sym (length-append h.notes (note ∷ []));
          }

      -- none was left
      pub sent_all : {F : Type 0} → result ≡ Ok None → count < most_items → SendsItems {E = F} grown before after given now told more (Ok count)
      sent_all is few =
          let gave : t.outcome ≡ none_left = subst (λ (r : Result (Option NoteParts) E). GivesItem r t.outcome) is t.gives in
          record {
            notes = h.notes;
            last = none_left ∷ [];
            readings = h.readings ++ t.reading ∷ [];
            carried = h.carried;
            asked = asked_more before mid after h.readings (map item_given h.notes) t.reading t.outcome none_left gave h.asked t.asks;
            clock = Tells-append h.readings (t.reading ∷ []) given then now h.clock t.clock;
            sent = h.sent;
            link = h.link;
            ends = (h.counted, inl refl);
            few = omega (arith, few, h.counted);
          }

      -- memory ran out for the question
      pub sent_starved : {F : Type 0} (why : E) (fault : F) → result ≡ Err why → count < most_items → SendsItems {E = F} grown before after given now told more (Err fault)
      sent_starved why fault is few =
          let gave : t.outcome ≢ Item None = subst (λ (r : Result (Option NoteParts) E). GivesItem r t.outcome) is t.gives in
          record {
            notes = h.notes;
            last = t.outcome ∷ [];
            readings = h.readings ++ t.reading ∷ [];
            carried = h.carried;
            asked = asked_more before mid after h.readings (map item_given h.notes) t.reading t.outcome t.outcome refl h.asked t.asks;
            clock = Tells-append h.readings (t.reading ∷ []) given then now h.clock t.clock;
            sent = h.sent;
            link = h.link;
            ends = (t.outcome, refl, gave);
            few = omega (arith, few, h.counted);
          }

      -- memory ran out in sending the item that was given
      pub sent_short : {F : Type 0} (last : LinkTold) (note : NoteParts) (fault : F) → result ≡ Ok (Some note) → Carries [] more last → count < most_items
          → SendsItems {E = F} grown before after given now told last (Err fault)
      sent_short last note fault is carried few =
          let gave : t.outcome ≡ Item (Some note) = subst (λ (r : Result (Option NoteParts) E). GivesItem r t.outcome) is t.gives in
          record {
            notes = h.notes;
            last = t.outcome ∷ [];
            readings = h.readings ++ t.reading ∷ [];
            carried = h.carried;
            asked = asked_more before mid after h.readings (map item_given h.notes) t.reading t.outcome t.outcome refl h.asked t.asks;
            clock = Tells-append h.readings (t.reading ∷ []) given then now h.clock t.clock;
            sent = h.sent;
            link = subst (λ (v : List Carrying). Carries v told last) (append-nil h.carried) (Carries-append h.carried [] told more last h.link carried);
            ends = (t.outcome, refl, some_item t.outcome note gave);
            few = omega (arith, few, h.counted);
          }

  -- as many were sent as one call sends
  pub sent_full : {F : Type 0} (before after : S) (given now : Option (List ℕ)) (told more : LinkTold) (count : ℕ)
      → HasSent grown before after given now told more count → count ≡ most_items → SendsItems {E = F} grown before after given now told more (Ok count)
  sent_full before after given now told more count h full = record {
    notes = h.notes;
    last = [];
    readings = h.readings;
    carried = h.carried;
    asked = subst (λ (os : List Outcome). AsksAll grown before h.readings (takes h.readings) os after) (sym (append-nil (map item_given h.notes))) h.asked;
    clock = h.clock;
    sent = h.sent;
    link = h.link;
    ends = (h.counted, inr (refl, sym h.counted ∙ full));
    few = omega (arith, full, h.counted);
  }
