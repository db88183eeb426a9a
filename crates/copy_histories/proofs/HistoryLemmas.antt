-- Copies follow every history.
use Rattle.std.proofs.Common.{◌≡◌, ℕ, List, [], ◌∷◌, ◌++◌, append_assoc, map, Some, None, is_some, inl, inr, refl, sym, ap, ◌∙◌, subst}
use Rattle.std.proofs.lemmas.Bool.{cases_Bool}
use Rattle.std.proofs.lemmas.List.{append-nil}
use Rattle.std.proofs.lemmas.Option.{same_Some}
use Rattle.resource_model.specs.Home.{HomeData}
use Rattle.resource_model.specs.Resource.{ResourceData, has_number}
use Rattle.tree_model.specs.Tree.{at}
use Rattle.announce_copy.specs.Copies.{CopyDraft, copy_address}
use Rattle.announce_copy.specs.Peers.{listed_peers}
use Rattle.copy_laws.specs.Following.{DoFollow, no_instance, sent_along, stood_along}
use Rattle.copy_laws.specs.Replica.{replica}
use Rattle.copy_laws.specs.Standing.{Instances}
use Rattle.copy_laws.proofs.FollowingLemmas.{copies_follow}
use Rattle.entity_model.specs.Entity.{EntityData, cut}
use Rattle.entity_model.specs.Opening.{opening, opening_base, opening_nodes, opening_policy}
use Rattle.entity_model.specs.Sound.{IsSoundEntity}
use Rattle.entity_model.proofs.SoundLemmas.{sound_opening}
use Rattle.cse_machine.specs.History.{History}
use Rattle.guard_laws.proofs.HistoryLemmas.{sound_step}
use Rattle.cse_machine.proofs.SameLemmas.{same_entity}
use Rattle.machine_laws.specs.Outbox.{Account, Accounts}
use Rattle.machine_laws.proofs.OutboxLemmas.{accounted}
use Rattle.copy_histories.specs.Histories.{CopiesFollowFromOpenings, CopiesFollowHistories, Stands, copies_in, stood_through}
use Rattle.copy_histories.proofs.RunLemmas.{Goes, bare, both_leave, goes_nowhere, goes_on, replica-bare, stood_on, stood_trees}
use Rattle.copy_histories.proofs.StepLemmas.{step_goes}

-- what instances stand along two runs
stood_both : (home : HomeData) (peer : List ℕ) (stood : Instances) (before middle after : List ResourceData) (sent more : List CopyDraft) (trees later : List (List ResourceData)) → Goes home before middle sent trees → Goes home middle after more later → stood_through peer (stood_through peer stood before trees) middle later ≡ stood_through peer stood before (trees ++ later)
stood_both home peer stood before middle after sent more trees later first second =
    let front : stood_along peer stood before first.run ≡ stood_through peer stood before trees = stood_trees peer stood before first.run ∙ ap (stood_through peer stood before) first.leaves in
    let upon : Instances = stood_through peer stood before trees in
    let back : stood_along peer upon middle second.run ≡ stood_through peer upon middle later = stood_trees peer upon middle second.run ∙ ap (stood_through peer upon middle) second.leaves in
    let whole : stood_along peer stood before (first.run ++ second.run) ≡ stood_through peer stood before (trees ++ later) =
    stood_trees peer stood before (first.run ++ second.run) ∙ ap (stood_through peer stood before) (both_leave home before middle after sent more trees later first second) in
    sym back ∙ ap (λ (s : Instances). stood_along peer s middle second.run) (sym front)
    ∙ sym (stood_on home peer stood first.run second.run before middle first.is) ∙ whole

-- ---- along a history

-- the steps of a history with this account, and a run that sends what they append
record GoesAlong (peer : List ℕ) (before : EntityData) (account : Account) (stood : Instances) (history : History) (after : EntityData) (final : Account) : Type 0 where
  last : Instances
  steps : Stands peer before account stood history after final last
  sent : List CopyDraft
  trees : List (List ResourceData)
  run : Goes before.home before.nodes after.nodes sent trees
  appends : copies_in final ≡ copies_in account ++ sent
  stands : last ≡ stood_through peer stood before.nodes trees
  home : after.home ≡ before.home

goes_along : (peer : List ℕ) (history : History) (before after : EntityData) (account final : Account) (stood : Instances) → IsSoundEntity before → Accounts before account history after final → GoesAlong peer before account stood history after final
goes_along peer [] before after account final stood sound run = record {
  last = stood;
  steps = (run.0, run.1, λ n. refl);
  sent = [];
  trees = [];
  run = subst (λ (x : EntityData). Goes before.home before.nodes x.nodes [] []) (sym run.0) (goes_nowhere before.home before.nodes);
  appends = ap copies_in run.1 ∙ sym (append-nil (copies_in account));
  stands = refl;
  home = ap (λ (x : EntityData). x.home) run.0;
}
goes_along peer (entry ∷ history) before after account final stood sound run =
    let middle : EntityData = run.0 in
    let next : Account = run.1 in
    let one = step_goes entry.reading entry.event before middle entry.outcome account next sound run.2 run.3 in
    let upon : Instances = stood_through peer stood before.nodes one.trees in
    let middle_sound : IsSoundEntity middle = sound_step entry.reading entry.event before middle entry.outcome sound run.2 in
    let rest = goes_along peer history middle after next final upon middle_sound run.4 in
    let same : middle.home ≡ before.home = (same_entity entry.reading entry.event entry.outcome before middle run.2).home in
    let later : Goes before.home middle.nodes after.nodes rest.sent rest.trees = subst (λ (h : HomeData). Goes h middle.nodes after.nodes rest.sent rest.trees) same rest.run in
    record {
      last = rest.last;
      steps = (middle, next, upon, run.2, run.3, one.stands peer stood upon (λ n. refl), rest.steps);
      sent = one.sent ++ rest.sent;
      trees = one.trees ++ rest.trees;
      run = goes_on before.home before.nodes middle.nodes after.nodes one.sent rest.sent one.trees rest.trees one.run later;
      appends =
          rest.appends ∙ ap (λ (ds : List CopyDraft). ds ++ rest.sent) one.appends
          ∙ append_assoc (copies_in account) one.sent rest.sent;
      stands = rest.stands ∙ stood_both before.home peer stood before.nodes middle.nodes after.nodes one.sent rest.sent one.trees rest.trees one.run later;
      home = rest.home ∙ same;
    }

-- ---- the law

-- whatever type stands beside what is made
bare_follow : (home : HomeData) (peer : List ℕ) (stood : Instances) (nodes : List ResourceData) (drafts : List CopyDraft) → DoFollow home peer stood nodes (replica peer drafts) → DoFollow home peer stood nodes (replica peer (map bare drafts))
bare_follow home peer stood nodes drafts follow = record {
  has = λ r attr found copy. ap is_some (replica-bare peer drafts (copy_address home peer r) attr) ∙ follow.has r attr found copy;
  values = λ r attr found copy other. replica-bare peer drafts (copy_address home peer r) attr ∙ follow.values r attr found copy other;
  only = λ address attr some. follow.only address attr (sym (ap is_some (replica-bare peer drafts address attr)) ∙ some);
}

pub copies_follow_histories : CopiesFollowHistories
copies_follow_histories peer before e history cse sound empty none run =
    let is = accounted before e history empty run in
    let along = goes_along peer history before e [] is.account no_instance sound is.steps in
    let drafts : List CopyDraft = sent_along before.home before.nodes along.run.run in
    let sends : copies_in is.account ≡ map bare drafts = along.appends ∙ along.run.sends in
    let stood : stood_along peer no_instance before.nodes along.run.run ≡ along.last =
    stood_trees peer no_instance before.nodes along.run.run ∙ ap (stood_through peer no_instance before.nodes) along.run.leaves ∙ sym along.stands in
    let first : DoFollow before.home peer (stood_along peer no_instance before.nodes along.run.run) e.nodes (replica peer drafts) =
    copies_follow before.home peer before.nodes along.run.run e.nodes none along.run.is in
    let second : DoFollow before.home peer along.last e.nodes (replica peer drafts) = subst (λ (s : Instances). DoFollow before.home peer s e.nodes (replica peer drafts)) stood first in
    let third : DoFollow e.home peer along.last e.nodes (replica peer drafts) = subst (λ (h : HomeData). DoFollow h peer along.last e.nodes (replica peer drafts)) (sym along.home) second in
    record {
      account = is.account;
      stood = along.last;
      steps = along.steps;
      waits = is.waits;
      follow = subst (λ (ds : List CopyDraft). DoFollow e.home peer along.last e.nodes (replica peer ds)) (sym sends) (bare_follow e.home peer along.last e.nodes drafts third);
    }

-- ---- from an opening

-- nothing is announced where a CSE opens
none_announced : (home : HomeData) (moment : ℕ) (r : ResourceData) → at r.number (opening_nodes home moment) ≡ Some r → listed_peers r ≡ []
none_announced home moment r found =
    let base : ResourceData = opening_base home moment in
    let policy : ResourceData = opening_policy home moment in
    elim (cases_Bool (has_number r.number base)) [
      | inl t ↦ (let one : Some base ≡ Some r = rw t at found in subst (λ (x : ResourceData). listed_peers x ≡ []) (same_Some base r one) refl)
      | inr f ↦ elim (cases_Bool (has_number r.number policy)) [
        | inl t ↦ (let one : Some policy ≡ Some r = rw (f, t) at found in subst (λ (x : ResourceData). listed_peers x ≡ []) (same_Some policy r one) refl)
        | inr g ↦ (let bad : None ≡ Some r = rw (f, g) at found in cc)
      ]
    ]

pub copies_follow_from_openings : CopiesFollowFromOpenings
copies_follow_from_openings peer home reading e history cse is_home run =
    copies_follow_histories peer (opening home reading) e history cse (sound_opening home reading is_home) refl
    (λ r found. none_announced home (cut reading) r found) run
