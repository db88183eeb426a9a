-- The history of a connection, cut at what was asked for one of its requests.
use Rattle.service_laws.proofs.Words.{◌≡◌, ◌+◌, List, [], ◌∷◌, ◌++◌, length, map, refl, sym, ap, subst, ◌∙◌, append-nil, arith, All}
use Rattle.service_laws.proofs.Terms.{Carrying, ReplyParts, RequestParts, EntityData, Ask, Outcome, History, HistoryLeaves, Step, GivesReplies, Runs, events_of, outcomes_of, readings_of}
use Rattle.service_laws.proofs.Facts.{All-head, All-tail, Grew-runs, none_some, same_first, same_rest}
use Rattle.std.proofs.Common.{append_assoc, length-append}
use Rattle.std.specs.List.{flat_map}
use Rattle.std.proofs.lemmas.List.Elements.{All-cons, All-nil}
use Rattle.cse_machine.proofs.SameLemmas.{same_entity}
use Rattle.http_forwarding.specs.Carries.{LinkTold}
use Rattle.turn_desk.specs.Entries.{IsOwn, all_entries, as_own}
use Rattle.turn_desk.specs.Growth.{Grew, IsOwnRun}
use Rattle.turn_desk.proofs.GrowthLemmas.{own_entries-all}
use Rattle.desk_replies.specs.Replies.{CarriesEach}
use Rattle.desk_replies.specs.Rule.{Group, IsWhole, ReplyRule, outcomes_of as outcomes_in, replies_of, requests_of}
use Rattle.service_laws.specs.Parts.{EachIsAnsweredAtItsPlace}
use Rattle.service_laws.proofs.QuestionLemmas.{whole_length}

-- ---- histories

-- a history of two parts
record IsCut (opening after : EntityData) (xs ys : List RequestParts) (os ps : List Outcome) : Type 0 where
  front : History
  back : History
  mid : EntityData
  leaves : HistoryLeaves opening front mid
  then : HistoryLeaves mid back after
  events_are : events_of front ≡ map Ask xs
  later_are : events_of back ≡ map Ask ys
  outcomes_are : outcomes_of front ≡ os
  came : outcomes_of back ≡ ps
  home : mid.home ≡ opening.home

cut_history : (mine : History) (opening after : EntityData) (xs ys : List RequestParts) (os ps : List Outcome) → HistoryLeaves opening mine after
    → events_of mine ≡ map Ask (xs ++ ys) → outcomes_of mine ≡ os ++ ps → length xs ≡ length os → IsCut opening after xs ys os ps
cut_history mine opening after [] ys [] ps run events came many = record {
  front = [];
  back = mine;
  mid = opening;
  leaves = refl;
  then = run;
  events_are = refl;
  later_are = events;
  outcomes_are = refl;
  came = came;
  home = refl;
}
cut_history mine opening after [] ys (o ∷ os) ps run events came many = (let no : ⊥ = omega (arith, many) in absurd no)
cut_history mine opening after (x ∷ xs) ys [] ps run events came many = (let no : ⊥ = omega (arith, many) in absurd no)
cut_history [] opening after (x ∷ xs) ys (o ∷ os) ps run events came many = absurd (none_some (Ask x) (map Ask (xs ++ ys)) events)
cut_history (m ∷ mine) opening after (x ∷ xs) ys (o ∷ os) ps run events came many =
    let event : m.event ≡ Ask x = same_first m.event (Ask x) (events_of mine) (map Ask (xs ++ ys)) events in
    let outcome : m.outcome ≡ o = same_first m.outcome o (outcomes_of mine) (os ++ ps) came in
    let rest =
    cut_history mine run.0 after xs ys os ps run.2 (same_rest m.event (Ask x) (events_of mine) (map Ask (xs ++ ys)) events)
    (same_rest m.outcome o (outcomes_of mine) (os ++ ps) came) (omega (arith, many)) in
    record {
      front = m ∷ rest.front;
      back = rest.back;
      mid = rest.mid;
      leaves = (run.0, run.1, rest.leaves);
      then = rest.then;
      events_are = cc (event, rest.events_are);
      later_are = rest.later_are;
      outcomes_are = cc (outcome, rest.outcomes_are);
      came = rest.came;
      home = rest.home ∙ (same_entity m.reading m.event m.outcome opening run.0 run.1).home;
    }

-- ---- what was carried

-- outcomes of two parts
record GivesBoth (xs ys : List RequestParts) (os ps : List Outcome) (rs ss : List ReplyParts) (carried : List Carrying) : Type 0 where
  first : List Carrying
  later : List Carrying
  carried_is : carried ≡ first ++ later
  gives : GivesReplies xs os rs first
  then : GivesReplies ys ps ss later

cut_gives : (xs ys : List RequestParts) (os ps : List Outcome) (rs ss : List ReplyParts) (carried : List Carrying)
    → GivesReplies (xs ++ ys) (os ++ ps) (rs ++ ss) carried → length xs ≡ length os → length xs ≡ length rs → GivesBoth xs ys os ps rs ss carried
cut_gives [] ys [] ps [] ss carried gives many each = record { first = []; later = carried; carried_is = refl; gives = refl; then = gives }
cut_gives [] ys [] ps (r ∷ rs) ss carried gives many each = (let no : ⊥ = omega (arith, each) in absurd no)
cut_gives [] ys (o ∷ os) ps rs ss carried gives many each = (let no : ⊥ = omega (arith, many) in absurd no)
cut_gives (x ∷ xs) ys [] ps rs ss carried gives many each = (let no : ⊥ = omega (arith, many) in absurd no)
cut_gives (x ∷ xs) ys (o ∷ os) ps [] ss carried gives many each = (let no : ⊥ = omega (arith, each) in absurd no)
cut_gives (x ∷ xs) ys (o ∷ os) ps (r ∷ rs) ss carried gives many each =
    let rest = cut_gives xs ys os ps rs ss gives.1 gives.4 (omega (arith, many)) (omega (arith, each)) in
    record {
      first = gives.0 ++ rest.first;
      later = rest.later;
      carried_is = gives.2 ∙ ap (λ (v : List Carrying). gives.0 ++ v) rest.carried_is ∙ sym (append_assoc gives.0 rest.first rest.later);
      gives = (gives.0, rest.first, refl, gives.3, rest.gives);
      then = rest.then;
    }

cut_carried : (cs ds : List Carrying) (before now : LinkTold) → CarriesEach (cs ++ ds) before now
    → (mid : LinkTold) × CarriesEach cs before mid × CarriesEach ds mid now
cut_carried [] ds before now each = (before, refl, each)
cut_carried (c ∷ cs) ds before now each =
    let rest = cut_carried cs ds each.0 now each.2 in
    (rest.0, (each.0, each.1, rest.1), rest.2)

-- ---- a history by itself

all_own : (mine : History) → All IsOwn (map as_own mine)
all_own [] = All-nil IsOwn
all_own (m ∷ mine) = All-cons IsOwn (as_own m) (map as_own mine) refl (all_own mine)

entries_own : (mine : History) → all_entries (map as_own mine) ≡ mine
entries_own [] = refl
entries_own (m ∷ mine) = ap (λ (v : History). m ∷ v) (entries_own mine)

own_run : (mine : History) (before after : EntityData) → HistoryLeaves before mine after → Grew (IsOwnRun Step) before mine after
own_run mine before after run = record {
  more = map as_own mine;
  grew = record { all_own = all_own mine; run = subst (λ (es : History). Runs Step before es after) (sym (entries_own mine)) run };
  mine_only = own_entries-all (map as_own mine) (all_own mine) ∙ entries_own mine;
}

-- ---- groups

flat_cut : {A B : Type 0} (f : A → List B) (xs ys : List A) → flat_map f (xs ++ ys) ≡ flat_map f xs ++ flat_map f ys
flat_cut f [] ys = refl
flat_cut f (x ∷ xs) ys = ap (λ v. f x ++ v) (flat_cut f xs ys) ∙ sym (append_assoc (f x) (flat_map f xs) (flat_map f ys))

replied_length : (rule : ReplyRule) (group : Group) → IsWhole rule group → length (outcomes_in group) ≡ length (replies_of group)
replied_length rule group whole = let each : length group.replies ≡ length group.outcomes = whole.each in omega (arith, each)

module _ (rule : ReplyRule) where
  asked_length : (groups : List Group) → All (IsWhole rule) groups → length (flat_map (requests_of rule) groups) ≡ length (flat_map outcomes_in groups)
  asked_length [] wholes = refl
  asked_length (g ∷ groups) wholes =
      let one : length (requests_of rule g) ≡ length (outcomes_in g) = whole_length rule g (All-head (IsWhole rule) g groups wholes) in
      let rest : length (flat_map (requests_of rule) groups) ≡ length (flat_map outcomes_in groups) = asked_length groups (All-tail (IsWhole rule) g groups wholes) in
      length-append (requests_of rule g) (flat_map (requests_of rule) groups) ∙ (λ i. one i + rest i)
      ∙ sym (length-append (outcomes_in g) (flat_map outcomes_in groups))

  told_length : (groups : List Group) → All (IsWhole rule) groups → length (flat_map outcomes_in groups) ≡ length (flat_map replies_of groups)
  told_length [] wholes = refl
  told_length (g ∷ groups) wholes =
      let one : length (outcomes_in g) ≡ length (replies_of g) = replied_length rule g (All-head (IsWhole rule) g groups wholes) in
      let rest : length (flat_map outcomes_in groups) ≡ length (flat_map replies_of groups) = told_length groups (All-tail (IsWhole rule) g groups wholes) in
      length-append (outcomes_in g) (flat_map outcomes_in groups) ∙ (λ i. one i + rest i)
      ∙ sym (length-append (replies_of g) (flat_map replies_of groups))

pub at_its_place : EachIsAnsweredAtItsPlace
at_its_place rule opening after old new ended served earlier later group groups wholes whole =
    let ran = served.asks.asks in
    let of_groups = served.talks.answers.grouped in
    let asked = requests_of rule group in
    let then = flat_map (requests_of rule) later in
    let requests : served.asked.requests ≡ flat_map (requests_of rule) earlier ++ (asked ++ then) =
    sym of_groups.requests ∙ ap (flat_map (requests_of rule)) groups ∙ flat_cut (requests_of rule) earlier (group ∷ later) in
    let outcomes : served.asked.outcomes ≡ flat_map outcomes_in earlier ++ (outcomes_in group ++ flat_map outcomes_in later) =
    sym of_groups.outcomes ∙ ap (flat_map outcomes_in) groups ∙ flat_cut outcomes_in earlier (group ∷ later) in
    let replies : served.asked.replies ≡ flat_map replies_of earlier ++ (replies_of group ++ flat_map replies_of later) =
    sym of_groups.replies ∙ ap (flat_map replies_of) groups ∙ flat_cut replies_of earlier (group ∷ later) in
    let so_many : length asked ≡ length (outcomes_in group) = whole_length rule group whole in
    let front : IsCut opening after (flat_map (requests_of rule) earlier) (asked ++ then) (flat_map outcomes_in earlier) (outcomes_in group ++ flat_map outcomes_in later) =
    cut_history ran.mine opening after (flat_map (requests_of rule) earlier) (asked ++ then) (flat_map outcomes_in earlier) (outcomes_in group ++ flat_map outcomes_in later)
    (Grew-runs Step ran.grew) (ran.events_are ∙ ap (map Ask) requests) (ran.outcomes_are ∙ outcomes) (asked_length rule earlier wholes) in
    let part : IsCut front.mid after asked then (outcomes_in group) (flat_map outcomes_in later) =
    cut_history front.back front.mid after asked then (outcomes_in group) (flat_map outcomes_in later) front.then front.later_are front.came so_many in
    let gives : GivesReplies (flat_map (requests_of rule) earlier ++ (asked ++ then)) (flat_map outcomes_in earlier ++ (outcomes_in group ++ flat_map outcomes_in later))
    (flat_map replies_of earlier ++ (replies_of group ++ flat_map replies_of later)) served.asked.carried =
    subst (λ (ps : List ReplyParts). GivesReplies (flat_map (requests_of rule) earlier ++ (asked ++ then)) (flat_map outcomes_in earlier ++ (outcomes_in group ++ flat_map outcomes_in later)) ps served.asked.carried) replies
    (subst (λ (os : List Outcome). GivesReplies (flat_map (requests_of rule) earlier ++ (asked ++ then)) os served.asked.replies served.asked.carried) outcomes
    (subst (λ (rs : List RequestParts). GivesReplies rs served.asked.outcomes served.asked.replies served.asked.carried) requests served.asks.gives)) in
    let both =
    cut_gives (flat_map (requests_of rule) earlier) (asked ++ then) (flat_map outcomes_in earlier) (outcomes_in group ++ flat_map outcomes_in later)
    (flat_map replies_of earlier) (replies_of group ++ flat_map replies_of later) served.asked.carried gives (asked_length rule earlier wholes)
    (asked_length rule earlier wholes ∙ told_length rule earlier wholes) in
    let one =
    cut_gives asked then (outcomes_in group) (flat_map outcomes_in later) (replies_of group) (flat_map replies_of later) both.later both.then so_many
    (so_many ∙ replied_length rule group whole) in
    let till = cut_carried both.first both.later old.link new.link (subst (λ (cs : List Carrying). CarriesEach cs old.link new.link) both.carried_is served.asks.link) in
    let here = cut_carried one.first one.later till.0 new.link (subst (λ (cs : List Carrying). CarriesEach cs till.0 new.link) one.carried_is till.2) in
    record {
      history = front.front;
      found = front.mid;
      left = part.mid;
      leaves = front.leaves;
      events_are = front.events_are;
      same_home = front.home;
      old = till.0;
      new = here.0;
      answers = record {
        asked = record { requests = asked; outcomes = outcomes_in group; replies = replies_of group; carried = one.first };
        asks = record {
          readings = readings_of part.front;
          asks = record {
            mine = part.front;
            grew = own_run part.front front.mid part.mid part.leaves;
            readings_are = refl;
            events_are = part.events_are;
            outcomes_are = part.outcomes_are;
          };
          clock = tt;
          gives = one.gives;
          link = here.1;
        };
        answers = (
          group,
          refl,
          record { requests = append-nil asked; outcomes = append-nil (outcomes_in group); replies = append-nil (replies_of group) },
          whole,
          refl,
        );
      };
    }
