-- What was asked, joined, and the groups that it falls into.
use Rattle.std.proofs.Common.{◌≡◌, ℕ, Bool, true, false, List, [], ◌∷◌, ◌++◌, length, map, Option, Result, Ok, Err, IfOk, inr, refl, sym, ap, subst, ◌∙◌, append_assoc, length-append, arith, ◌+◌}
use Rattle.std.specs.List.{All}
use Rattle.std.proofs.lemmas.List.{length-map, map-append}
use Rattle.std.proofs.lemmas.Grind.{flat_map-append}
use Rattle.std.proofs.lemmas.List.Elements.{All-append, All-cons, All-nil}
use Rattle.primitive_json.specs.declared.reply.ReplyParts.{ReplyParts}
use Rattle.primitive_json.specs.declared.request.RequestParts.{RequestParts}
use Rattle.turn_desk.specs.Entries.{Marked, entry_of}
use Rattle.turn_desk.specs.Growth.{Asks, AsksAll}
use Rattle.turn_desk.proofs.GrowthLemmas.{AsksAll-append, AsksAll-ask, AsksAll-nothing}
use Rattle.m2m_io.specs.Told.{Tells}
use Rattle.http_forwarding.specs.Carries.{LinkTold}
use Rattle.cse_machine.specs.declared.event.Event.{Event}
use Rattle.cse_machine.specs.declared.event.Event.TheVariants.{Ask}
use Rattle.cse_machine.specs.declared.event.Outcome.{Outcome}
use Rattle.desk_replies.specs.Asking.{Asked, HasAsked, asked_on, nothing_asked}
use Rattle.desk_replies.specs.Answering.{Answers}
use Rattle.desk_replies.specs.Replies.{RepliesOver}
use Rattle.desk_replies.specs.Rule.{AnswersOne, AreWhole, Group, IsAnswered, IsBegun, IsGrouped, IsWhole, LastIsBegun, ReplyRule, outcomes_of, plainly, replies_of, reply_by, requests_of}
use Rattle.desk_replies.proofs.LinkLemmas.{CarriesEach-append, Tells-append, Tells-nil}
use Rattle.desk_replies.proofs.RepliesLemmas.{gives-append, gives-one}

-- ---- what was asked

module _ {S : Type 0} (grown : S → List (Marked Event Outcome) → S → Type 0) where
  -- nothing was asked
  pub has_asked_nothing : ((seat : S) → grown seat [] seat) → (seat : S) (given : Option (List ℕ)) (told : LinkTold)
      → HasAsked grown seat seat given given told told nothing_asked
  has_asked_nothing nothing seat given told = record {
    readings = [];
    asks = AsksAll-nothing grown nothing seat;
    clock = Tells-nil given;
    gives = refl;
    link = refl;
  }

  -- what was asked first, and then what was asked behind it
  pub has_asked_on : ((before between after : S) (more then : List (Marked Event Outcome)) → grown before more between → grown between then after → grown before (more ++ then) after)
      → (before between after : S) (g g' g'' : Option (List ℕ)) (t t' t'' : LinkTold) (first then : Asked)
      → HasAsked grown before between g g' t t' first → HasAsked grown between after g' g'' t' t'' then
      → HasAsked grown before after g g'' t t'' (asked_on first then)
  has_asked_on on before between after g g' g'' t t' t'' first then a b = record {
    readings = a.readings ++ b.readings;
    asks = subst (λ (events : List Event). AsksAll grown before (a.readings ++ b.readings) events (first.outcomes ++ then.outcomes) after)
        (sym (map-append Ask first.requests then.requests)) (AsksAll-append grown on a.asks b.asks);
    clock = Tells-append a.readings b.readings g g' g'' a.clock b.clock;
    gives = gives-append first.requests then.requests first.outcomes then.outcomes first.replies then.replies first.carried then.carried a.gives b.gives;
    link = CarriesEach-append first.carried then.carried t t' t'' a.link b.link;
  }

  -- one request was asked, and its outcome gave the reply
  pub plainly_answers : {E : Type 0} → ((seat : S) → grown seat [] seat)
      → ((before between after : S) (more then : List (Marked Event Outcome)) → grown before more between → grown between then after → grown before (more ++ then) after)
      → (before after : S) (given now : Option (List ℕ)) (told more : LinkTold) (request : RequestParts) (reading : ℕ) (outcome : Outcome)
      (result : Result ReplyParts E)
      → Asks grown before (entry_of reading (Ask request) outcome) after
      → Tells (λ list. list ++ reading ∷ []) given now
      → RepliesOver request outcome told more result
      → Answers plainly grown before after given now told more request result
  plainly_answers {E} nothing on before after given now told more request reading outcome result asks clock by = record {
    asked = record { requests = request ∷ []; outcomes = outcome ∷ []; replies = by.reply ∷ []; carried = by.carried };
    asks = record {
      readings = reading ∷ [];
      asks = AsksAll-ask grown on (AsksAll-nothing grown nothing before) asks;
      clock = clock;
      gives = gives-one request outcome by.reply by.carried by.gives;
      link = by.link;
    };
    answers = answered result by.replied;
  }
    where
      one : Group
      one = record { request = request; outcome = outcome; reply = by.reply; outcomes = []; replies = [] }

      answered : (result : Result ReplyParts E) → IfOk result (λ r. r ≡ by.reply)
          → AnswersOne plainly request (record { requests = request ∷ []; outcomes = outcome ∷ []; replies = by.reply ∷ []; carried = by.carried }) result
      answered (Ok reply) same =
          (one, refl, record { requests = refl; outcomes = refl; replies = refl }, record { all = refl; each = refl }, same)
      answered (Err starved) same =
          inr (one, refl, record { requests = refl; outcomes = refl; replies = refl }, record { front = omega arith; each = refl })

-- ---- the groups of several requests

module _ (rule : ReplyRule) where
  -- no request
  abbrev pub answered_none : IsAnswered rule [] nothing_asked
  answered_none = record {
    groups = [];
    replies = [];
    is_whole = true;
    requests_are = refl;
    grouped = record { requests = refl; outcomes = refl; replies = refl };
    replies_are = refl;
    whole = All-nil (IsWhole rule);
  }

  pub grouped-append : (xs ys : List Group) (first then : Asked) → IsGrouped rule xs first → IsGrouped rule ys then
      → IsGrouped rule (xs ++ ys) (asked_on first then)
  grouped-append xs ys first then a b = record {
    requests = flat_map-append (requests_of rule) xs ys ∙ (λ i. a.requests i ++ b.requests i);
    outcomes = flat_map-append outcomes_of xs ys ∙ (λ i. a.outcomes i ++ b.outcomes i);
    replies = flat_map-append replies_of xs ys ∙ (λ i. a.replies i ++ b.replies i);
  }

  pub whole-append : (flag : Bool) (xs ys : List Group) → All (IsWhole rule) xs → AreWhole rule flag ys → AreWhole rule flag (xs ++ ys)
  whole-append true xs ys first then = All-append (IsWhole rule) xs ys first then
  whole-append false xs ys first then = record {
    before = xs ++ then.before;
    last = then.last;
    groups_are = ap (λ v. xs ++ v) then.groups_are ∙ sym (append_assoc xs then.before (then.last ∷ []));
    whole = All-append (IsWhole rule) xs then.before first then.whole;
    begun = then.begun;
  }

  -- requests that were all answered, and then others
  abbrev pub answered_on : (xs ys : List RequestParts) (first then : Asked) (a : IsAnswered rule xs first) → a.is_whole ≡ true
      → IsAnswered rule ys then → IsAnswered rule (xs ++ ys) (asked_on first then)
  answered_on xs ys first then a all b = record {
    groups = a.groups ++ b.groups;
    replies = a.replies ++ b.replies;
    is_whole = b.is_whole;
    requests_are = map-append (λ (group : Group). group.request) a.groups b.groups ∙ (λ i. a.requests_are i ++ b.requests_are i);
    grouped = grouped-append a.groups b.groups first then a.grouped b.grouped;
    replies_are = map-append (reply_by rule) a.groups b.groups ∙ (λ i. a.replies_are i ++ b.replies_are i);
    whole = whole-append b.is_whole a.groups b.groups (subst (λ flag. AreWhole rule flag a.groups) all a.whole) b.whole;
  }

  -- one request, all of whose group was asked
  abbrev pub answered_one : (request : RequestParts) (asked : Asked) (group : Group) → group.request ≡ request
      → IsGrouped rule (group ∷ []) asked → IsWhole rule group → IsAnswered rule (request ∷ []) asked
  answered_one request asked group is grouped whole = record {
    groups = group ∷ [];
    replies = reply_by rule group ∷ [];
    is_whole = true;
    requests_are = ap (λ r. r ∷ []) is;
    grouped = grouped;
    replies_are = refl;
    whole = All-cons (IsWhole rule) group [] whole (All-nil (IsWhole rule));
  }

  -- one request, of whose group a front was asked
  abbrev pub begun_one : (request : RequestParts) (asked : Asked) (group : Group) → group.request ≡ request
      → IsGrouped rule (group ∷ []) asked → IsBegun rule group → IsAnswered rule (request ∷ []) asked
  begun_one request asked group is grouped begun = record {
    groups = group ∷ [];
    replies = reply_by rule group ∷ [];
    is_whole = false;
    requests_are = ap (λ r. r ∷ []) is;
    grouped = grouped;
    replies_are = refl;
    whole = record { before = []; last = group; groups_are = refl; whole = All-nil (IsWhole rule); begun = begun };
  }

  -- the same requests
  abbrev pub answered_as : (xs ys : List RequestParts) (asked : Asked) → IsAnswered rule xs asked → xs ≡ ys → IsAnswered rule ys asked
  answered_as xs ys asked a same = record {
    groups = a.groups;
    replies = a.replies;
    is_whole = a.is_whole;
    requests_are = a.requests_are ∙ same;
    grouped = a.grouped;
    replies_are = a.replies_are;
    whole = a.whole;
  }

  -- where there is no request, none was begun
  pub none_begun : (xs : List RequestParts) (asked : Asked) (a : IsAnswered rule xs asked) → xs ≡ [] → a.is_whole ≡ false → ⊥
  none_begun xs asked a none begun =
      let last : LastIsBegun rule a.groups = subst (λ flag. AreWhole rule flag a.groups) begun a.whole in
      let here : length (map (λ (group : Group). group.request) a.groups) ≡ 0 = ap (λ v. length v) (a.requests_are ∙ none) in
      let many : length a.groups ≡ length last.before + 1 = ap (λ v. length v) last.groups_are ∙ length-append last.before (last.last ∷ []) in
      omega (arith, here, many, length-map a.groups (λ (group : Group). group.request))

  -- each request has its reply
  pub answered_length : (xs : List RequestParts) (asked : Asked) (a : IsAnswered rule xs asked) → length a.replies ≡ length xs
  answered_length xs asked a =
      sym (ap (λ v. length v) a.replies_are) ∙ length-map a.groups (reply_by rule) ∙ sym (length-map a.groups (λ (group : Group). group.request)) ∙ ap (λ v. length v) a.requests_are
