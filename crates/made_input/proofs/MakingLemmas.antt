-- Requests one after another, and how they are counted.
use Rattle.std.proofs.Common.{◌≡◌, ◌<◌, ◌+◌, ◌-◌, ◌^◌, ◌%◌, ◌==◌, ◌∙◌, ℕ, zero, suc, Bool, true, false, cond, if◌then◌else◌, List, [], ◌∷◌, ◌++◌, length, refl, sym, ap, subst, arith, zero-add, take, get_or}
use Rattle.std.specs.List.{All, AllByRecursion, count_by, sum_by}
use Rattle.std.proofs.lemmas.List.{map-append, length-map, length-take, take_more, get_or-map}
use Rattle.std.proofs.lemmas.List.FromFn.{length-map-range_with_len, map-range_with_len_more}
use Rattle.std.proofs.lemmas.List.Elements.{All-append, All-cons, All-nil}
use Rattle.std.proofs.lemmas.List.Sums.{count_by-le-length, sum_by-append}
use Rattle.turn_desk.specs.declared.entry.Entry.{Entry}
use Rattle.turn_desk.specs.Entries.{entry_of, outcomes_of}
use Rattle.turn_desk.specs.Joins.{Runs-append}
use Rattle.primitive_json.specs.declared.request.RequestParts.{RequestParts}
use Rattle.entity_model.specs.Entity.{EntityData}
use Rattle.cse_machine.specs.History.{History, IsDone}
use Rattle.cse_machine.specs.Step.{Step}
use Rattle.cse_machine.specs.declared.event.Event.{Event}
use Rattle.cse_machine.specs.declared.event.Event.TheVariants.{Ask}
use Rattle.cse_machine.specs.declared.event.Outcome.{Outcome}
use Rattle.cse_machine.specs.declared.event.Outcome.TheVariants.{Starved}
use Rattle.made_input.specs.Counts.{is_created, is_fanned, is_refused, is_retrieved, tally_of, with_one}
use Rattle.made_input.specs.Making.{HasRoom, Makes, TakesOne}
use Rattle.made_input.specs.Requests.{IsMade, container_id, fan_point, first_input, first_inputs, first_requests, group, instance_at, made_input, made_inputs, made_request, newest, retrieval}
use Rattle.made_input.specs.declared.tally.Tally.{Tally}

-- ---- counts

count_more : {X : Type 0} (p : X → Bool) (xs : List X) (x : X) → count_by p (xs ++ x ∷ []) ≡ count_by p xs + cond (p x) 1 0
count_more {X = X} p xs x =
    let one : X → ℕ = λ y. cond (p y) 1 0 in
    sum_by-append one xs (x ∷ []) ∙ ap (λ n. sum_by one xs + n) (zero-add (one x))

tally_more : (history : History) (e : Entry Event Outcome) → tally_of (history ++ e ∷ []) ≡ with_one (tally_of history) e
tally_more history e =
    let a = count_more is_created history e in
    let b = count_more is_retrieved history e in
    let c = count_more is_fanned history e in
    let d = count_more is_refused history e in
    cc (a, b, c, d)

-- ---- one more

-- what isn't want of memory is done
pub done_of : (outcome : Outcome) → ((n : ℕ) → outcome ≡ Starved n → ⊥) → IsDone outcome
done_of (Starved n) never = never n refl
done_of outcome never = tt

-- no request yet
pub makes_none : (e : EntityData) → Makes [] e e (tally_of [])
makes_none e = record {
  history = [];
  leaves = refl;
  inputs_are = refl;
  whole = All-nil IsDone;
  tally_is = refl;
}

pub makes_more : (inputs : List (ℕ × Event)) (before between after : EntityData) (tally more : Tally) (reading : ℕ) (request : RequestParts)
    → Makes inputs before between tally → TakesOne reading request between tally after more
    → Makes (inputs ++ (reading, Ask request) ∷ []) before after more
makes_more inputs before between after tally more reading request a b =
    let e = entry_of reading (Ask request) b.outcome in
    record {
      history = a.history ++ e ∷ [];
      leaves = Runs-append Step a.history (e ∷ []) before between after a.leaves (after, b.step, refl);
      inputs_are = map-append (λ e. (e.reading, e.event)) a.history (e ∷ []) ∙ ap (λ v. v ++ (reading, Ask request) ∷ []) a.inputs_are;
      whole = subst (All IsDone) (sym (map-append (λ e. e.outcome) a.history (e ∷ [])))
          (All-append IsDone (outcomes_of a.history) (b.outcome ∷ []) a.whole (All-cons IsDone b.outcome [] b.done (All-nil IsDone)));
      tally_is = b.counted ∙ ap (λ t. with_one t e) a.tally_is ∙ sym (tally_more a.history e);
    }

-- ---- room

pub has_room : (inputs : List (ℕ × Event)) (before after : EntityData) (tally : Tally) → Makes inputs before after tally
    → length inputs < 2 ^ 64 - 1 → HasRoom tally
has_room inputs before after tally a few =
    let size : length a.history ≡ length inputs = sym (length-map a.history (λ e. (e.reading, e.event))) ∙ ap length a.inputs_are in
    let created = count_by-le-length is_created a.history in
    let retrieved = count_by-le-length is_retrieved a.history in
    let fanned = count_by-le-length is_fanned a.history in
    let refused = count_by-le-length is_refused a.history in
    subst HasRoom (sym a.tally_is) (record {
      created = omega (arith, created);
      retrieved = omega (arith, retrieved);
      fanned = omega (arith, fanned);
      refused = omega (arith, refused);
    })

-- ---- the requests that come first

pub few_first : (place : ℕ) → length (take place first_inputs) < 2 ^ 64 - 1
few_first place =
    let few = length-take place first_inputs in
    let seven : length first_inputs ≡ 7 = refl in
    omega (arith, few, seven)

pub first_more : (place : ℕ) (request : RequestParts) → place < length first_requests → request ≡ get_or first_requests place group
    → take (place + 1) first_inputs ≡ take place first_inputs ++ (0, Ask request) ∷ []
first_more place request within is =
    take_more first_inputs place (first_input group) (subst (λ n. place < n) (sym (length-map first_requests first_input)) within)
    ∙ ap (λ e. take place first_inputs ++ e ∷ [])
    (get_or-map first_input first_requests place group (first_input group) within ∙ ap first_input (sym is))

-- ---- those that are counted

pub few_made : (i n : ℕ) → i < n → n < 2 ^ 64 → length (made_inputs i) < 2 ^ 64 - 1
few_made i n within fits =
    let size = length-map-range_with_len made_input 0 i in
    omega (arith, size)

pub made_more : (i : ℕ) (request : RequestParts) → request ≡ made_request i
    → made_inputs (i + 1) ≡ made_inputs i ++ (i, Ask request) ∷ []
made_more i request is =
    map-range_with_len_more made_input 0 i i (zero-add i) ∙ ap (λ r. made_inputs i ++ (i, Ask r) ∷ []) (sym is)

-- ---- each has the same maker and identifier

made_at : (rs : List RequestParts) (place : ℕ) (d : RequestParts) → AllByRecursion IsMade rs → IsMade d → IsMade (get_or rs place d)
made_at [] place d all own = own
made_at (r ∷ rs) zero d all own = all.0
made_at (r ∷ rs) (suc place) d all own = made_at rs place d all.1 own

pub first_made : (place : ℕ) → IsMade (get_or first_requests place group)
first_made place =
    made_at first_requests place group
    ((refl, refl), ((refl, refl), ((refl, refl), ((refl, refl), ((refl, refl), ((refl, refl), ((refl, refl), tt)))))))
    (refl, refl)

pub made_made : (i : ℕ) → IsMade (made_request i)
made_made i = by_turn (i % 5 == 4) (i % 5 == 3)
  where
    by_turn : (fan read : Bool) → IsMade (if fan then instance_at fan_point i else if read then retrieval (newest i) else instance_at (container_id i) i)
    by_turn true read = (refl, refl)
    by_turn false true = (refl, refl)
    by_turn false false = (refl, refl)
