-- The questions of a rule, one after another: the outcomes so far settle the next.
use Rattle.service_laws.proofs.Words.{◌≡◌, ℕ, ◌+◌, true, List, [], ◌∷◌, ◌++◌, length, map, refl, sym, ap, ◌∙◌, arith, All}
use Rattle.service_laws.proofs.Terms.{RequestParts, EntityData, Event, Outcome, History, HistoryLeaves}
use Rattle.service_laws.proofs.Facts.{and_from, append_cancel_left, All-head, All-tail, none_some, same_first, same_rest, take_all}
use Rattle.std.proofs.Common.{zero, suc, append_assoc, length-append, take}
use Rattle.std.specs.List.{flat_map}
use Rattle.std.proofs.Math.Seq.{take-append_seam}
use Rattle.std.proofs.lemmas.Bool.{and_parts}
use Rattle.std.proofs.lemmas.List.Elements.{All-cons, All-nil}
use Rattle.machine_laws.specs.Sight.{NonePolls, are_calm_but_last, is_calm_event}
use Rattle.desk_replies.specs.Rule.{Group, IsWhole, ReplyRule, outcomes_of as outcomes_in, replies_of, reply_by, requests_of}

-- ---- fronts

pub take_map : {A B : Type 0} (f : A → B) (n : ℕ) (xs : List A) → map f (take n xs) ≡ take n (map f xs)
take_map f zero xs = refl
take_map f (suc n) [] = refl
take_map f (suc n) (x ∷ xs) = ap (λ v. f x ∷ v) (take_map f n xs)

pub all_front : {A : Type 0} (P : A → Type 0) (n : ℕ) (xs : List A) → All P xs → All P (take n xs)
all_front P zero xs all = All-nil P
all_front P (suc n) [] all = All-nil P
all_front P (suc n) (x ∷ xs) all = All-cons P x (take n xs) (All-head P x xs all) (all_front P n xs (All-tail P x xs all))

-- the front of a history leaves some entity
abbrev pub front_leaves : (n : ℕ) (history : History) (opening after : EntityData) → HistoryLeaves opening history after
    → (mid : EntityData) × HistoryLeaves opening (take n history) mid
front_leaves zero history opening after run = (opening, refl)
front_leaves (suc n) [] opening after run = (after, run)
front_leaves (suc n) (h ∷ history) opening after run =
    ((front_leaves n history run.0 after run.2).0, (run.0, run.1, (front_leaves n history run.0 after run.2).1))

-- where none of a history polls, none of its front does
pub front_unpolled : (n : ℕ) (history : History) (opening after : EntityData) (run : HistoryLeaves opening history after)
    → NonePolls opening history after run
    → NonePolls opening (take n history) (front_leaves n history opening after run).0 (front_leaves n history opening after run).1
front_unpolled zero history opening after run none = tt
front_unpolled (suc n) [] opening after run none = tt
front_unpolled (suc n) (h ∷ history) opening after run none =
    (none.0, front_unpolled n history run.0 after run.2 none.1)

-- where all but the last of some events are calm, so are those of their front
pub front_calm : (n : ℕ) (events : List Event) → are_calm_but_last events ≡ true → are_calm_but_last (take n events) ≡ true
front_calm zero events calm = refl
front_calm (suc n) [] calm = refl
front_calm (suc zero) (event ∷ []) calm = refl
front_calm (suc (suc n)) (event ∷ []) calm = refl
front_calm (suc zero) (event ∷ next ∷ events) calm = refl
front_calm (suc (suc n)) (event ∷ next ∷ events) calm =
    let parts = and_parts (is_calm_event event) (are_calm_but_last (next ∷ events)) calm in
    and_from _ _ parts.0 (front_calm (suc n) (next ∷ events) parts.1)

-- ---- the questions

-- As far as the same was asked, the outcomes are the same.
abbrev pub AreSettled : List RequestParts → List RequestParts → List Outcome → List Outcome → Type 0
AreSettled xs ys ps qs = (n : ℕ) → take n xs ≡ take n ys → take n ps ≡ take n qs

front_of : {A : Type 0} (n : ℕ) (xs front more : List A) → n ≡ length front → xs ≡ front ++ more → take n xs ≡ front
front_of n xs front more many is =
    (λ i. take (many i) (is i)) ∙ take-append_seam front more

settled_front : (xs ys front other more rest : List RequestParts) (ps qs os os' then last : List Outcome) → AreSettled xs ys ps qs
    → front ≡ other → length front ≡ length os → length other ≡ length os' → xs ≡ front ++ more → ys ≡ other ++ rest → ps ≡ os ++ then → qs ≡ os' ++ last → os ≡ os'
settled_front xs ys front other more rest ps qs os os' then last settled same many many' x y p q =
    let n = length front in
    let both : n ≡ length other = ap (λ v. length v) same in
    sym (front_of n ps os then many p)
    ∙ settled n (front_of n xs front more refl x ∙ same ∙ sym (front_of n ys other rest both y))
    ∙ front_of n qs os' last (both ∙ many') q

-- as many requests as outcomes
pub whole_length : (rule : ReplyRule) (group : Group) → IsWhole rule group → length (requests_of rule group) ≡ length (outcomes_in group)
whole_length rule group whole =
    let taken : length (take (length group.outcomes) (rule.behind group.request group.outcome)) ≡ length (rule.behind group.request group.outcome) =
    ap (λ v. length v) (take_all (length group.outcomes) (rule.behind group.request group.outcome) (omega (arith, whole.all))) in
    let all : length group.outcomes ≡ length (rule.behind group.request group.outcome) = whole.all in
    omega (arith, taken, all)

append_end : {A : Type 0} (xs : List A) (x : A) (ys zs : List A) → xs ++ (x ∷ ys ++ zs) ≡ (xs ++ x ∷ []) ++ (ys ++ zs)
append_end xs x ys zs = sym (append_assoc xs (x ∷ []) (ys ++ zs))

module _ (rule : ReplyRule) (xs ys : List RequestParts) (ps qs : List Outcome) (settled : AreSettled xs ys ps qs) where
  -- behind what was asked the same, with the same outcomes, two lists of groups ask the same
  pub same_from : (gs hs : List Group) (front : List RequestParts) (os : List Outcome) → length front ≡ length os
      → xs ≡ front ++ flat_map (requests_of rule) gs → ys ≡ front ++ flat_map (requests_of rule) hs
      → ps ≡ os ++ flat_map outcomes_in gs → qs ≡ os ++ flat_map outcomes_in hs
      → All (IsWhole rule) gs → All (IsWhole rule) hs
      → map (λ (group : Group). group.request) gs ≡ map (λ (group : Group). group.request) hs
      → (flat_map (requests_of rule) gs ≡ flat_map (requests_of rule) hs) × (flat_map outcomes_in gs ≡ flat_map outcomes_in hs)
  same_from [] [] front os many x y p q wholes others same = (refl, refl)
  same_from [] (h ∷ hs) front os many x y p q wholes others same = absurd (none_some h.request (map (λ (group : Group). group.request) hs) same)
  same_from (g ∷ gs) [] front os many x y p q wholes others same = absurd (none_some g.request (map (λ (group : Group). group.request) gs) (sym same))
  same_from (g ∷ gs) (h ∷ hs) front os many x y p q wholes others same =
      let request : g.request ≡ h.request = same_first g.request h.request (map (λ (group : Group). group.request) gs) (map (λ (group : Group). group.request) hs) same in
      let later = same_rest g.request h.request (map (λ (group : Group). group.request) gs) (map (λ (group : Group). group.request) hs) same in
      let whole : IsWhole rule g = All-head (IsWhole rule) g gs wholes in
      let other : IsWhole rule h = All-head (IsWhole rule) h hs others in
      let b = take (length g.outcomes) (rule.behind g.request g.outcome) in
      let c = take (length h.outcomes) (rule.behind h.request h.outcome) in
      let one : os ++ g.outcome ∷ [] ≡ os ++ h.outcome ∷ [] =
      settled_front xs ys (front ++ g.request ∷ []) (front ++ h.request ∷ []) (b ++ flat_map (requests_of rule) gs) (c ++ flat_map (requests_of rule) hs)
      ps qs (os ++ g.outcome ∷ []) (os ++ h.outcome ∷ []) (g.outcomes ++ flat_map outcomes_in gs) (h.outcomes ++ flat_map outcomes_in hs) settled
      (ap (λ (r : RequestParts). front ++ r ∷ []) request)
      (length-append front (g.request ∷ []) ∙ ap (λ n. n + 1) many ∙ sym (length-append os (g.outcome ∷ [])))
      (length-append front (h.request ∷ []) ∙ ap (λ n. n + 1) many ∙ sym (length-append os (h.outcome ∷ [])))
      (x ∙ append_end front g.request b (flat_map (requests_of rule) gs)) (y ∙ append_end front h.request c (flat_map (requests_of rule) hs))
      (p ∙ append_end os g.outcome g.outcomes (flat_map outcomes_in gs)) (q ∙ append_end os h.outcome h.outcomes (flat_map outcomes_in hs)) in
      let outcome : g.outcome ≡ h.outcome = same_first g.outcome h.outcome [] [] (append_cancel_left os (g.outcome ∷ []) (h.outcome ∷ []) one) in
      let behind : rule.behind g.request g.outcome ≡ rule.behind h.request h.outcome = λ i. rule.behind (request i) (outcome i) in
      let count : length g.outcomes ≡ length h.outcomes = whole.all ∙ ap (λ v. length v) behind ∙ sym other.all in
      let asks : requests_of rule g ≡ requests_of rule h = λ i. request i ∷ take (count i) (behind i) in
      let all : os ++ outcomes_in g ≡ os ++ outcomes_in h =
      settled_front xs ys (front ++ requests_of rule g) (front ++ requests_of rule h) (flat_map (requests_of rule) gs) (flat_map (requests_of rule) hs)
      ps qs (os ++ outcomes_in g) (os ++ outcomes_in h) (flat_map outcomes_in gs) (flat_map outcomes_in hs) settled
      (ap (λ v. front ++ v) asks)
      (grown_alike front (requests_of rule g) os (outcomes_in g) many (whole_length rule g whole))
      (grown_alike front (requests_of rule h) os (outcomes_in h) many (whole_length rule h other))
      (x ∙ sym (append_assoc front (requests_of rule g) (flat_map (requests_of rule) gs)))
      (y ∙ sym (append_assoc front (requests_of rule h) (flat_map (requests_of rule) hs)))
      (p ∙ sym (append_assoc os (outcomes_in g) (flat_map outcomes_in gs)))
      (q ∙ sym (append_assoc os (outcomes_in h) (flat_map outcomes_in hs))) in
      let came : outcomes_in g ≡ outcomes_in h = append_cancel_left os (outcomes_in g) (outcomes_in h) all in
      let rest =
      same_from gs hs (front ++ requests_of rule g) (os ++ outcomes_in g) (grown_alike front (requests_of rule g) os (outcomes_in g) many (whole_length rule g whole))
      (x ∙ sym (append_assoc front (requests_of rule g) (flat_map (requests_of rule) gs)))
      (y ∙ sym (append_assoc front (requests_of rule h) (flat_map (requests_of rule) hs)) ∙ ap (λ v. (front ++ v) ++ flat_map (requests_of rule) hs) (sym asks))
      (p ∙ sym (append_assoc os (outcomes_in g) (flat_map outcomes_in gs)))
      (q ∙ sym (append_assoc os (outcomes_in h) (flat_map outcomes_in hs)) ∙ ap (λ v. (os ++ v) ++ flat_map outcomes_in hs) (sym came))
      (All-tail (IsWhole rule) g gs wholes) (All-tail (IsWhole rule) h hs others) later in
      ((λ i. asks i ++ rest.0 i), (λ i. came i ++ rest.1 i))
    where
      grown_alike : {A B : Type 0} (xs cs : List A) (bs ds : List B) → length xs ≡ length bs → length cs ≡ length ds → length (xs ++ cs) ≡ length (bs ++ ds)
      grown_alike xs cs bs ds one two = length-append xs cs ∙ (λ i. one i + two i) ∙ sym (length-append bs ds)

-- ---- the replies

-- two lists of which the fronts have one length
append_cut : {A : Type 0} (xs ys us vs : List A) → length xs ≡ length ys → xs ++ us ≡ ys ++ vs → (xs ≡ ys) × (us ≡ vs)
append_cut [] [] us vs many same = (refl, same)
append_cut [] (y ∷ ys) us vs many same = (let no : ⊥ = omega (arith, many) in absurd no)
append_cut (x ∷ xs) [] us vs many same = (let no : ⊥ = omega (arith, many) in absurd no)
append_cut (x ∷ xs) (y ∷ ys) us vs many same =
    let first = same_first x y (xs ++ us) (ys ++ vs) same in
    let rest = append_cut xs ys us vs (omega (arith, many)) (same_rest x y (xs ++ us) (ys ++ vs) same) in
    ((λ i. first i ∷ rest.0 i), rest.1)

-- the same requests with the same outcomes and the same replies to all questions are told the same
pub same_told : (rule : ReplyRule) (gs hs : List Group) → All (IsWhole rule) gs → All (IsWhole rule) hs
    → map (λ (group : Group). group.request) gs ≡ map (λ (group : Group). group.request) hs
    → flat_map outcomes_in gs ≡ flat_map outcomes_in hs → flat_map replies_of gs ≡ flat_map replies_of hs
    → map (reply_by rule) gs ≡ map (reply_by rule) hs
same_told rule [] [] wholes others same outcomes replies = refl
same_told rule [] (h ∷ hs) wholes others same outcomes replies = absurd (none_some h.request (map (λ (group : Group). group.request) hs) same)
same_told rule (g ∷ gs) [] wholes others same outcomes replies = absurd (none_some g.request (map (λ (group : Group). group.request) gs) (sym same))
same_told rule (g ∷ gs) (h ∷ hs) wholes others same outcomes replies =
    let request : g.request ≡ h.request = same_first g.request h.request (map (λ (group : Group). group.request) gs) (map (λ (group : Group). group.request) hs) same in
    let later = same_rest g.request h.request (map (λ (group : Group). group.request) gs) (map (λ (group : Group). group.request) hs) same in
    let whole : IsWhole rule g = All-head (IsWhole rule) g gs wholes in
    let other : IsWhole rule h = All-head (IsWhole rule) h hs others in
    let outcome : g.outcome ≡ h.outcome = same_first g.outcome h.outcome (g.outcomes ++ flat_map outcomes_in gs) (h.outcomes ++ flat_map outcomes_in hs) outcomes in
    let behind : rule.behind g.request g.outcome ≡ rule.behind h.request h.outcome = λ i. rule.behind (request i) (outcome i) in
    let count : length g.outcomes ≡ length h.outcomes = whole.all ∙ ap (λ v. length v) behind ∙ sym other.all in
    let came =
    append_cut g.outcomes h.outcomes (flat_map outcomes_in gs) (flat_map outcomes_in hs) count
    (same_rest g.outcome h.outcome (g.outcomes ++ flat_map outcomes_in gs) (h.outcomes ++ flat_map outcomes_in hs) outcomes) in
    let reply : g.reply ≡ h.reply = same_first g.reply h.reply (g.replies ++ flat_map replies_of gs) (h.replies ++ flat_map replies_of hs) replies in
    let told =
    append_cut g.replies h.replies (flat_map replies_of gs) (flat_map replies_of hs) (whole.each ∙ count ∙ sym other.each)
    (same_rest g.reply h.reply (g.replies ++ flat_map replies_of gs) (h.replies ++ flat_map replies_of hs) replies) in
    let rest = same_told rule gs hs (All-tail (IsWhole rule) g gs wholes) (All-tail (IsWhole rule) h hs others) later came.1 told.1 in
    λ i. rule.told (outcome i) (reply i) (told.0 i) ∷ rest i
