-- The accepted requests that were passed so far.
use Rattle.std.proofs.Common.{◌≡◌, ◌⊎◌, ℕ, ◌+◌, ◌-◌, ◌^◌, ◌<◌, ◌≤◌, min, List, [], ◌∷◌, ◌++◌, length, take, drop, get_or, set, Bool, true, false, None, inl, inr, refl, sym, ap, ◌∙◌, subst, arith, append_assoc, length-append, length-drop}
use Rattle.std.proofs.lemmas.List.{append-nil, drop_all, length-take-le, take_all, drop_more, set_at, take_more}
use Rattle.std.proofs.Math.Seq.{get_or-append_seam}
use Rattle.primitive_json.specs.declared.reply.ReplyParts.{ReplyParts}
use Rattle.primitive_json.specs.declared.request.RequestParts.{RequestParts}
use Rattle.m2m_value.specs.Spelling.{capped}
use Rattle.entity_model.specs.Entity.{EntityData}
use Rattle.cse_machine.specs.declared.event.Event.{Event}
use Rattle.cse_machine.specs.declared.event.Event.TheVariants.{Ask, Take, Tick}
use Rattle.cse_machine.specs.declared.event.Outcome.{Outcome}
use Rattle.cse_machine.specs.declared.event.Outcome.TheVariants.{Done, Forward, Item, Ticked, Starved}
use Rattle.cse_machine.specs.Step.{Step}
use Rattle.accepted_requests.specs.Entries.{begun, finished}
use Rattle.accepted_requests.proofs.SizeLemmas.{capped_more}
use Rattle.accepted_requests.specs.Sizes.{most_kept, result_size, results_size}
use Rattle.later_replies.specs.Entries.{LaterEntryData}
use Rattle.later_replies.specs.Runs.{AreBounded, ArePassed, IsBounded, IsPassed, counted_then, kept_then, reply_in, with_outcome}

-- ---- one run

-- an outcome that is no reply has none
pub no_reply : (outcome : Outcome) → ((told : ReplyParts) → outcome ≡ Done told → ⊥) → None ≡ reply_in outcome
no_reply (Done told) other = absurd (other told refl)
no_reply (Forward poa onward) other = refl
no_reply (Item given) other = refl
no_reply Ticked other = refl
no_reply (Starved done) other = refl

-- an event asks one request
pub same_request : (r s : RequestParts) → Ask r ≡ Ask s → r ≡ s
same_request r s is = cc

-- one that asks nothing, asks none
pub asks_nothing : (P : Type 0) (event : Event) (request : RequestParts) → (event ≡ Take) ⊎ (event ≡ Tick) → event ≡ Ask request → P
asks_nothing P event request (inl is) asks = let none : Take ≡ Ask request = sym is ∙ asks in cc
asks_nothing P event request (inr is) asks = let none : Tick ≡ Ask request = sym is ∙ asks in cc

-- an entry whose run began, and was finished with the reply of the outcome
pub ran_with : (e : LaterEntryData) (outcome : Outcome) → finished (begun e) e.request (reply_in outcome) ≡ with_outcome e outcome
ran_with e (Done reply) = refl
ran_with e (Forward poa onward) = refl
ran_with e (Item given) = refl
ran_with e Ticked = refl
ran_with e (Starved done) = refl

-- where nothing but the expiry was done, it is as if memory had run out for any request
pub starved_by_tick : (reading : ℕ) (request : RequestParts) (before after : EntityData) (outcome : Outcome) → Step reading Tick before outcome after → Step reading (Ask request) before (Starved 0) after
starved_by_tick reading request before after (Done told) step = absurd step
starved_by_tick reading request before after (Forward poa onward) step = absurd step
starved_by_tick reading request before after (Item given) step = absurd step
starved_by_tick reading request before after Ticked step = inl (record { within = omega arith; left = step })
starved_by_tick reading request before after (Starved done) step = inr (record { none = refl; same = step.same; due = step.due })

-- ---- how much is kept

-- how many bytes of results are kept behind entries that were passed
abbrev pub kept_behind : (LaterEntryData → Bool) → ℕ → List LaterEntryData → List LaterEntryData → ℕ
kept_behind runs kept [] then = kept
kept_behind runs kept (e ∷ entries) [] = kept
kept_behind runs kept (e ∷ entries) (ran ∷ then) = kept_behind runs (kept_then (runs e) kept ran) entries then

-- one more behind others
bounded_append : (runs : LaterEntryData → Bool) (kept : ℕ) (xs left : List LaterEntryData) (x q : LaterEntryData) → length left ≡ length xs → AreBounded runs kept xs left
    → IsBounded (runs x) (kept_behind runs kept xs left) x q → AreBounded runs kept (xs ++ x ∷ []) (left ++ q ∷ [])
bounded_append runs kept [] [] x q same are is = (is, tt)
bounded_append runs kept [] (l ∷ left) x q same are is = absurd (omega (arith, same))
bounded_append runs kept (y ∷ xs) [] x q same are is = absurd (omega (arith, same))
bounded_append runs kept (y ∷ xs) (l ∷ left) x q same are is =
    (are.0, bounded_append runs (kept_then (runs y) kept l) xs left x q (omega (arith, same)) are.1 is)

kept_more : (runs : LaterEntryData → Bool) (kept : ℕ) (xs left : List LaterEntryData) (x q : LaterEntryData) → length left ≡ length xs
    → kept_behind runs kept (xs ++ x ∷ []) (left ++ q ∷ []) ≡ kept_then (runs x) (kept_behind runs kept xs left) q
kept_more runs kept [] [] x q same = refl
kept_more runs kept [] (l ∷ left) x q same = absurd (omega (arith, same))
kept_more runs kept (y ∷ xs) [] x q same = absurd (omega (arith, same))
kept_more runs kept (y ∷ xs) (l ∷ left) x q same = kept_more runs (kept_then (runs y) kept l) xs left x q (omega (arith, same))

-- a count that ends at the end of its type is past the bound where it would be
past_capped : (kept all : ℕ) → kept ≡ capped all → most_kept < all → most_kept < kept
past_capped kept all is over = omega (arith, is, over)

capped_then : (runs : Bool) (kept then all : ℕ) (q : LaterEntryData) → kept ≡ capped all → then ≡ counted_then runs kept q → then ≡ capped (kept_then runs all q)
capped_then true kept then all q is next = capped_more kept then all (result_size q) (all + result_size q) is next refl
capped_then false kept then all q is next = next ∙ is

-- ---- many

-- entries that are passed, and then others, are passed together
pub passed_append : (reading : ℕ) (runs : LaterEntryData → Bool) (xs ys : List LaterEntryData) (before mid after : EntityData) (left more : List LaterEntryData) → ArePassed reading runs xs before left mid → ArePassed reading runs ys mid more after → ArePassed reading runs (xs ++ ys) before (left ++ more) after
passed_append reading runs [] ys before mid after left more first then =
    subst (λ (l : List LaterEntryData). ArePassed reading runs ys before (l ++ more) after) (sym first.0)
    (subst (λ (e : EntityData). ArePassed reading runs ys e more after) first.1 then)
passed_append reading runs (x ∷ xs) ys before mid after left more first then =
    (first.0, first.1, first.2 ++ more, ap (λ (l : List LaterEntryData). l ++ more) first.3, first.4, passed_append reading runs xs ys first.1 mid after first.2 more first.5 then)

-- one entry
passed_alone : (reading : ℕ) (runs : LaterEntryData → Bool) (x then : LaterEntryData) (before after : EntityData) → IsPassed reading runs x before then after → ArePassed reading runs (x ∷ []) before (then ∷ []) after
passed_alone reading runs x then before after passed = (then, after, [], refl, passed, (refl, refl))

-- so many of the entries are passed, and the others are as they were
pub record PassedSoFar (reading : ℕ) (runs : LaterEntryData → Bool) (place kept : ℕ) (all : List LaterEntryData) (before : EntityData) (now : List LaterEntryData) (after : EntityData) : Type 0 where
  pub within : place ≤ length all
  pub left : List LaterEntryData
  pub many : length left ≡ place
  pub are : now ≡ left ++ drop place all
  pub passed : ArePassed reading runs (take place all) before left after
  pub bounded : AreBounded runs (results_size all) (take place all) left
  pub kept_is : kept ≡ capped (kept_behind runs (results_size all) (take place all) left)

pub passed_none : (reading : ℕ) (runs : LaterEntryData → Bool) (kept : ℕ) (all : List LaterEntryData) (before : EntityData) → kept ≡ capped (results_size all) → PassedSoFar reading runs 0 kept all before all before
passed_none reading runs kept all before is = record { within = omega arith; left = []; many = refl; are = refl; passed = (refl, refl); bounded = tt; kept_is = is }

pub passed_next : (reading : ℕ) (runs : LaterEntryData → Bool) (place kept then : ℕ) (all now new : List LaterEntryData) (r q : LaterEntryData) (before mid after : EntityData) → place < length all
    → PassedSoFar reading runs place kept all before now mid → r ≡ get_or now place r → IsPassed reading runs r mid q after → IsBounded (runs r) kept r q
    → then ≡ counted_then (runs r) kept q → new ≡ set now place q → PassedSoFar reading runs (place + 1) then all before new after
passed_next reading runs place kept then all now new r q before mid after lt so at passed bounded more changed = record {
  within = omega (arith, lt);
  left = so.left ++ q ∷ [];
  many = length-append so.left (q ∷ []) ∙ ap (λ (n : ℕ). n + 1) so.many;
  are = changed ∙ ap (λ (l : List LaterEntryData). set l place q) split
      ∙ set_at so.left here (drop (place + 1) all) q place so.many
      ∙ sym (append_assoc so.left (q ∷ []) (drop (place + 1) all));
  passed = subst (λ (l : List LaterEntryData). ArePassed reading runs l before (so.left ++ q ∷ []) after) (sym (take_more all place r lt))
      (passed_append reading runs (take place all) (here ∷ []) before mid after so.left (q ∷ []) so.passed
      (passed_alone reading runs here q mid after (subst (λ (x : LaterEntryData). IsPassed reading runs x mid q after) there passed)));
  bounded = subst (λ (l : List LaterEntryData). AreBounded runs (results_size all) l (so.left ++ q ∷ [])) (sym (take_more all place r lt))
      (bounded_append runs (results_size all) (take place all) so.left here q long so.bounded
      (subst (λ (x : LaterEntryData). IsBounded (runs x) (kept_behind runs (results_size all) (take place all) so.left) x q) there
      (λ run over. bounded run (past_capped kept (kept_behind runs (results_size all) (take place all) so.left) so.kept_is over))));
  kept_is =
      capped_then (runs here) kept then (kept_behind runs (results_size all) (take place all) so.left) q so.kept_is
      (more ∙ ap (λ (x : LaterEntryData). counted_then (runs x) kept q) there)
      ∙ ap capped (sym (kept_more runs (results_size all) (take place all) so.left here q long)
      ∙ ap (λ (l : List LaterEntryData). kept_behind runs (results_size all) l (so.left ++ q ∷ [])) (sym (take_more all place r lt)));
}
  where
    here : LaterEntryData
    here = get_or all place r

    split : now ≡ so.left ++ here ∷ drop (place + 1) all
    split = so.are ∙ ap (λ (l : List LaterEntryData). so.left ++ l) (drop_more all place r lt)

    seam : get_or (so.left ++ here ∷ drop (place + 1) all) place r ≡ here
    seam = ap (λ (n : ℕ). get_or (so.left ++ here ∷ drop (place + 1) all) n r) (sym so.many) ∙ get_or-append_seam so.left here (drop (place + 1) all) r

    long : length so.left ≡ length (take place all)
    long = so.many ∙ sym (length-take-le place all so.within)

    there : r ≡ here
    there = at ∙ ap (λ (l : List LaterEntryData). get_or l place r) split ∙ seam

-- how many there are, stays
pub passed_length : (reading : ℕ) (runs : LaterEntryData → Bool) (place kept : ℕ) (all now : List LaterEntryData) (before after : EntityData) → PassedSoFar reading runs place kept all before now after → length now ≡ length all
passed_length reading runs place kept all now before after so =
    let long : length now ≡ place + length (drop place all) = ap length so.are ∙ length-append so.left (drop place all) ∙ ap (λ (n : ℕ). n + length (drop place all)) so.many in
    let rest : length (drop place all) ≡ length all - place = length-drop place all in
    omega (arith, long, rest, so.within)

whole_left : (reading : ℕ) (runs : LaterEntryData → Bool) (place kept : ℕ) (all now : List LaterEntryData) (before after : EntityData) → length all ≤ place
    → (so : PassedSoFar reading runs place kept all before now after) → now ≡ so.left
whole_left reading runs place kept all now before after past so = so.are ∙ ap (λ (l : List LaterEntryData). so.left ++ l) (drop_all place all past) ∙ append-nil so.left

pub bounded_all : (reading : ℕ) (runs : LaterEntryData → Bool) (place kept : ℕ) (all now : List LaterEntryData) (before after : EntityData) → length all ≤ place
    → PassedSoFar reading runs place kept all before now after → AreBounded runs (results_size all) all now
bounded_all reading runs place kept all now before after past so =
    subst (λ (l : List LaterEntryData). AreBounded runs (results_size all) all l) (sym (whole_left reading runs place kept all now before after past so))
    (subst (λ (l : List LaterEntryData). AreBounded runs (results_size all) l so.left) (take_all place all past) so.bounded)

pub passed_all : (reading : ℕ) (runs : LaterEntryData → Bool) (place kept : ℕ) (all now : List LaterEntryData) (before after : EntityData) → length all ≤ place → PassedSoFar reading runs place kept all before now after → ArePassed reading runs all before now after
passed_all reading runs place kept all now before after past so =
    let whole : now ≡ so.left = whole_left reading runs place kept all now before after past so in
    subst (λ (l : List LaterEntryData). ArePassed reading runs all before l after) (sym whole)
    (subst (λ (l : List LaterEntryData). ArePassed reading runs l before so.left after) (take_all place all past) so.passed)
