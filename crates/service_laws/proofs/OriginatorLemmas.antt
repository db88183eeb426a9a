-- Who asks what a rule has asked behind a request.
use Rattle.service_laws.proofs.Words.{◌≡◌, ℕ, true, List, [], ◌∷◌, ◌++◌, length, map, refl, sym, ap, subst, ◌∙◌, All, list_all}
use Rattle.service_laws.proofs.Terms.{RequestParts, Done, Forward, Item, Starved, Ticked}
use Rattle.service_laws.proofs.Facts.{All-head, All-tail, and_from}
use Rattle.std.specs.Prelude.{unwrap_or}
use Rattle.std.specs.List.{flat_map}
use Rattle.std.proofs.Common.{suc, take, zero}
use Rattle.std.proofs.lemmas.Bool.{and_parts}
use Rattle.std.proofs.lemmas.List.Elements.{All-append, All-cons, All-nil}
use Rattle.machine_laws.specs.Sight.{IsRequestBy, is_calm}
use Rattle.resource_model.specs.Home.{HomeData}
use Rattle.group_fanout.specs.Fan.{requests_to, sent_to}
use Rattle.group_fanout.specs.Rights.{claimed_originator}
use Rattle.desk_replies.specs.Rule.{Group, ReplyRule, requests_of}
use Rattle.remote_members.specs.Remote.{remote_addresses, told_of_members}
use Rattle.remote_members.specs.Wide.{wide}
use Rattle.service_laws.specs.Laws.{AsksForTheOriginator, TheRulesAskForTheOriginator, WhatIsHeardTellsWhoAsks}
use Rattle.service_laws.proofs.QuestionLemmas.{all_front}

-- ---- requests to other addresses

by_originator : (home : HomeData) (request : RequestParts) (tos : List (List ℕ)) → All (IsRequestBy home (claimed_originator home request)) (requests_to request tos)
by_originator home request [] = All-nil (IsRequestBy home (claimed_originator home request))
by_originator home request (to ∷ tos) =
    All-cons (IsRequestBy home (claimed_originator home request)) (sent_to request to) (requests_to request tos) refl (by_originator home request tos)

calm_behind : (request : RequestParts) (tos : List (List ℕ)) → is_calm request ≡ true → list_all is_calm (requests_to request tos) ≡ true
calm_behind request [] calm = refl
calm_behind request (to ∷ tos) calm = and_from (is_calm (sent_to request to)) (list_all is_calm (requests_to request tos)) calm (calm_behind request tos calm)

wide_asks : (home : HomeData) → AsksForTheOriginator (wide home)
wide_asks own home request (Done reply) =
    let tos : List (List ℕ) = remote_addresses own (unwrap_or (told_of_members reply.pc) []) in
    (by_originator home request tos, calm_behind request tos)
wide_asks own home request (Forward poa sent) = (All-nil (IsRequestBy home (claimed_originator home request)), λ calm. refl)
wide_asks own home request (Item given) = (All-nil (IsRequestBy home (claimed_originator home request)), λ calm. refl)
wide_asks own home request Ticked = (All-nil (IsRequestBy home (claimed_originator home request)), λ calm. refl)
wide_asks own home request (Starved done) = (All-nil (IsRequestBy home (claimed_originator home request)), λ calm. refl)

pub rules_ask : TheRulesAskForTheOriginator
rules_ask = (λ home request outcome. (All-nil (IsRequestBy home (claimed_originator home request)), λ calm. refl), wide_asks)

-- ---- the questions of groups

module _ (rule : ReplyRule) (asks : AsksForTheOriginator rule) where
  by_groups : (home : HomeData) (originator : List ℕ) (groups : List Group)
      → All (IsRequestBy home originator) (map (λ (group : Group). group.request) groups) → All (IsRequestBy home originator) (flat_map (requests_of rule) groups)
  by_groups home originator [] by = All-nil (IsRequestBy home originator)
  by_groups home originator (g ∷ groups) by =
      let own : IsRequestBy home originator g.request = All-head (IsRequestBy home originator) g.request (map (λ (group : Group). group.request) groups) by in
      let behind : All (IsRequestBy home originator) (rule.behind g.request g.outcome) =
      subst (λ (o : List ℕ). All (IsRequestBy home o) (rule.behind g.request g.outcome)) own (asks home g.request g.outcome).0 in
      All-append (IsRequestBy home originator) (requests_of rule g) (flat_map (requests_of rule) groups)
      (All-cons (IsRequestBy home originator) g.request (take (length g.outcomes) (rule.behind g.request g.outcome)) own
      (all_front (IsRequestBy home originator) (length g.outcomes) (rule.behind g.request g.outcome) behind))
      (by_groups home originator groups (All-tail (IsRequestBy home originator) g.request (map (λ (group : Group). group.request) groups) by))

front_calm : (n : ℕ) (xs : List RequestParts) → list_all is_calm xs ≡ true → list_all is_calm (take n xs) ≡ true
front_calm zero xs calm = refl
front_calm (suc n) [] calm = refl
front_calm (suc n) (x ∷ xs) calm =
    let parts = and_parts (is_calm x) (list_all is_calm xs) calm in
    and_from (is_calm x) (list_all is_calm (take n xs)) parts.0 (front_calm n xs parts.1)

calm_append : (xs ys : List RequestParts) → list_all is_calm xs ≡ true → list_all is_calm ys ≡ true → list_all is_calm (xs ++ ys) ≡ true
calm_append [] ys calm others = others
calm_append (x ∷ xs) ys calm others =
    let parts = and_parts (is_calm x) (list_all is_calm xs) calm in
    and_from (is_calm x) (list_all is_calm (xs ++ ys)) parts.0 (calm_append xs ys parts.1 others)

calm_groups : (rule : ReplyRule) → AsksForTheOriginator rule → (home : HomeData) (groups : List Group)
    → list_all is_calm (map (λ (group : Group). group.request) groups) ≡ true → list_all is_calm (flat_map (requests_of rule) groups) ≡ true
calm_groups rule asks home [] calm = refl
calm_groups rule asks home (g ∷ groups) calm =
    let parts = and_parts (is_calm g.request) (list_all is_calm (map (λ (group : Group). group.request) groups)) calm in
    calm_append (requests_of rule g) (flat_map (requests_of rule) groups)
    (and_from (is_calm g.request) (list_all is_calm (take (length g.outcomes) (rule.behind g.request g.outcome))) parts.0
    (front_calm (length g.outcomes) (rule.behind g.request g.outcome) ((asks home g.request g.outcome).1 parts.0)))
    (calm_groups rule asks home groups parts.1)

pub heard_tells : WhatIsHeardTellsWhoAsks
heard_tells rule opening after old new ended served home originator asks =
    let answers = served.talks.answers in (
      λ heard. subst (λ (rs : List RequestParts). All (IsRequestBy home originator) rs) answers.grouped.requests
          (by_groups rule asks home originator answers.groups
          (subst (λ (rs : List RequestParts). All (IsRequestBy home originator) rs) (sym answers.requests_are) heard)),
      λ heard. ap (list_all is_calm) (sym answers.grouped.requests)
          ∙ calm_groups rule asks home answers.groups (ap (list_all is_calm) answers.requests_are ∙ heard),
    )
