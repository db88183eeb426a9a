-- An originator is answered the same on what it sees, and sees the same of what is left.
use Rattle.machine_laws.proofs.Words.{◌≡◌, ℕ, List, [], ◌∷◌, map, Bool, true, false, cond, Option, Some, None, option_map, inl, inr, refl, sym, ap, ap₂, subst, ◌∙◌, option_map_or, list_any}
use Rattle.machine_laws.proofs.Terms.{op_row, Rsc, NoPrivilege, NotAllowed, Op, Create, Retrieve, Update, Delete, Notify, RequestParts, HomeData, ResourceData, has_number, deleted, at, is_due, is_well_formed, live, numbers_of, overdue_numbers, without, address_of, fanned, member_effect, sent_to, seen, seen_list, notes_of_all, DraftParts, EntityData, event_moment, expired, expired_told, swept, expiry_changes, refused, IsSoundEntity, fault_on, is_for, discovered, retrieved, only_in, delete_effect, notify_effect, notify_on, told_effect_by, told_effect_on, EventEffect, as_done, first_places, effect_of, operation_effect, found_effect, reading_reply, resource_effect, is_discovery, claimed_originator, first_fault}
use Rattle.machine_laws.proofs.Facts.{cases_Bool, false≢true, tree_from_well_formed, KeepsStanding, is_well_formed-map, is_well_formed-without, ae_id-seen, at-seen, cse_id-seen, grants-seen, AreSeenAlike, by_fault, same_home, same_last, same_seen, spent_alike, through_sight, claimed_valid, sound_swept, OnlySubsCount, expiry_seen, for_whom, numbers_seen, numbers_told_all, only_seen, removal_seen, sight_counts, sound_counts, spent_counts, spent_well, whom_all, without_counts}
use Rattle.std.specs.Prelude.{not, ◌&&◌}
use Rattle.tree_model.proofs.LiveLemmas.{without_none}
use Rattle.policy_laws.proofs.TwiceLemmas.{left-seen, live-same, seen_list-twice}
use Rattle.sight_laws.proofs.AnswerLemmas.{retrieved-seen}
use Rattle.sight_laws.proofs.SightLemmas.{discovered-seen}
use Rattle.group_fanout.specs.Operations.{change_effect, relay_effect}
use Rattle.guard_laws.proofs.MemberLemmas.{IsSoundAt, MaySend}
use Rattle.cse_machine.proofs.MemberLemmas.{member_kept, of_member}
use Rattle.cse_machine.proofs.JudgedLemmas.{heard_facts, refused_effect}
use Rattle.guard_laws.proofs.RelayLemmas.{relay_nodes}
use Rattle.sight_laws.specs.Laws.{changes_rules}
use Rattle.machine_laws.proofs.AddressAlikeLemmas.{AreAnsweredSo, asked_same, carried_by_sight, effect_so}
use Rattle.machine_laws.proofs.ChangeAlikeLemmas.{SameShape, SameSight, create_so, rules_so, update_so}
use Rattle.retarget.specs.declared.routing.Route.TheVariants as to
use Rattle.machine_laws.proofs.RouteSightLemmas.{AreOrdered, order_seen, order_swept}
use Rattle.machine_laws.specs.Sight.{sight, asks_sight_alone, does_update, is_calm, is_poll, polls_at, IsRequestBy}

-- ---- what is seen of a well-formed list is one

module _ (home : HomeData) (nodes : List ResourceData) (o : List ℕ) where
  seen_stands : KeepsStanding (seen home nodes o)
  seen_stands = record {
    number = λ r. refl;
    ty = λ r. refl;
    name = λ r. refl;
    parent = λ r. refl;
    ae = ae_id-seen home nodes o;
    cse = cse_id-seen home nodes o;
  }

  well_seen : is_well_formed nodes ≡ true → is_well_formed (seen_list home nodes o) ≡ true
  well_seen well = is_well_formed-map (seen home nodes o) seen_stands nodes ∙ well

-- ---- what is seen of what comes of a request

none_any : (nodes : List ResourceData) → list_any (λ (r : ResourceData). false) nodes ≡ false
none_any [] = refl
none_any (r ∷ nodes) = none_any nodes

-- ---- what comes of a Delete, told

-- what is told of what is taken
abbrev pub notes_taken : EntityData → ResourceData → List DraftParts
notes_taken e r =
    let taken = only_in e.nodes (without (has_number r.number) e.nodes) in
    notes_of_all e.home e.nodes (numbers_of taken) (map deleted taken)

module _ (e : EntityData) (o : List ℕ) (well : is_well_formed e.nodes ≡ true) (counts : OnlySubsCount e.nodes) where
  abbrev seeing : EntityData
  seeing = sight o e

  abbrev see : ResourceData → ResourceData
  see = seen e.home e.nodes o

  abbrev no_one : ResourceData → Bool
  no_one = λ (r : ResourceData). false

  -- of what it sees it sees all
  seen_twice : seen_list e.home (seen_list e.home e.nodes o) o ≡ seen_list e.home e.nodes o
  seen_twice =
      let sees = seen_list e.home e.nodes o in
      ap (λ (rs : List ResourceData). seen_list e.home rs o) (sym (without_none no_one sees (tree_from_well_formed sees (well_seen e.home e.nodes o well)) (none_any sees)))
      ∙ seen_list-twice e.home e.nodes o well no_one no_one (λ r found. refl)
      ∙ ap (λ (rs : List ResourceData). seen_list e.home rs o) (without_none no_one e.nodes (tree_from_well_formed e.nodes well) (none_any e.nodes))

  pub sight_twice : sight o seeing ≡ sight o e
  sight_twice = ap (λ (ns : List ResourceData). record seeing { nodes = ns }) seen_twice

  -- what is read is the same, where the originator asks
  reading_seen : (request : RequestParts) (n : ℕ) → claimed_originator e.home request ≡ o → reading_reply seeing request n ≡ reading_reply e request n
  reading_seen request n by =
      let claimed = claimed_originator e.home request in
      let found : discovered e.home (seen_list e.home e.nodes o) claimed request n ≡ discovered e.home e.nodes claimed request n =
      ap (λ (t : List ℕ). discovered e.home (seen_list e.home e.nodes o) t request n) by ∙ discovered-seen e.home e.nodes o well request n ∙ ap (λ (t : List ℕ). discovered e.home e.nodes t request n) (sym by) in
      let shown : retrieved e.home (seen_list e.home e.nodes o) claimed request n ≡ retrieved e.home e.nodes claimed request n =
      ap (λ (t : List ℕ). retrieved e.home (seen_list e.home e.nodes o) t request n) by ∙ retrieved-seen e.home e.nodes o well request n ∙ ap (λ (t : List ℕ). retrieved e.home e.nodes t request n) (sym by) in
      ap₂ (λ x y. cond (is_discovery request) x y) found shown

  -- what refuses a Delete is the same, and so is what is left
  delete_refused : (request : RequestParts) (r : ResourceData) → fault_on Delete seeing o request (see r) ≡ fault_on Delete e o request r
  delete_refused request r =
      ap (λ (b : Bool). cond b (cond (is_for Delete r.ty) None (Some NotAllowed)) (Some NoPrivilege)) (grants-seen e.home e.nodes o (op_row Delete).bit r.number)

  module _ (request : RequestParts) (r : ResourceData) where
    abbrev picked : ResourceData → Bool
    picked = has_number r.number

    -- what it takes is seen so
    taken_seen : only_in (seen_list e.home e.nodes o) (without (has_number r.number) (seen_list e.home e.nodes o)) ≡ map see (only_in e.nodes (without (has_number r.number) e.nodes))
    taken_seen =
        ap (only_in (seen_list e.home e.nodes o)) (left-seen e.home e.nodes o well picked picked (λ s found. refl))
        ∙ only_seen e.home e.nodes o e.nodes (without picked e.nodes)

    -- and told to the same
    deletion_whom : for_whom (notes_taken seeing r) ≡ for_whom (notes_taken e r)
    deletion_whom =
        let taken = only_in e.nodes (without picked e.nodes) in
        ap (λ (rs : List ResourceData). for_whom (notes_of_all e.home (seen_list e.home e.nodes o) (numbers_of rs) (map deleted rs))) taken_seen
        ∙ ap (λ (going : List ℕ). for_whom (notes_of_all e.home (seen_list e.home e.nodes o) going (map deleted (map see taken)))) (numbers_seen e.home e.nodes o taken)
        ∙ whom_all e.home (seen_list e.home e.nodes o) (numbers_of taken) (map deleted (map see taken))
        ∙ removal_seen e.home e.nodes o (numbers_of taken) taken
        ∙ sym (whom_all e.home e.nodes (numbers_of taken) (map deleted taken))

    delete_left : AreSeenAlike o (told_effect_by Delete seeing o request (see r)) (told_effect_by Delete e o request r)
    delete_left = record {
      reply = refl;
      after =
          spent_alike o (delete_effect seeing request r).after (delete_effect e request r).after
          (ap (λ (ns : List ResourceData). record seeing { nodes = ns }) (seen_list-twice e.home e.nodes o well picked picked (λ s found. refl)))
          (notes_taken seeing r) (notes_taken e r)
          (is_well_formed-without picked (seen_list e.home e.nodes o) (well_seen e.home e.nodes o well)) (is_well_formed-without picked e.nodes well)
          (without_counts picked (seen_list e.home e.nodes o) (sight_counts e.home e.nodes o counts)) (without_counts picked e.nodes counts)
          deletion_whom;
    }

    performed_seen : AreSeenAlike o (told_effect_on Delete seeing o request (see r)) (told_effect_on Delete e o request r)
    performed_seen =
        subst (λ (f : Option Rsc). AreSeenAlike o (option_map_or (refused seeing request) f (told_effect_by Delete seeing o request (see r))) (told_effect_on Delete e o request r)) (sym (delete_refused request r))
        (by_fault seeing e o request (fault_on Delete e o request r) (told_effect_by Delete seeing o request (see r)) (told_effect_by Delete e o request r) sight_twice delete_left)

  delete_seen : (request : RequestParts) (r : ResourceData) → claimed_originator e.home request ≡ o → AreSeenAlike o (change_effect Delete seeing request (see r)) (change_effect Delete e request r)
  unfolding change_effect
  delete_seen request r by =
      subst (λ (t : List ℕ). AreSeenAlike o (told_effect_on Delete seeing t request (see r)) (told_effect_on Delete e t request r)) (sym by) (performed_seen request r)

  -- what refuses a Notify is the same, and what is handed on isn't seen
  notify_refused : (request : RequestParts) (r : ResourceData) → fault_on Notify seeing o request (see r) ≡ fault_on Notify e o request r
  notify_refused request r =
      ap (λ (b : Bool). cond b (cond (is_for Notify r.ty) None (Some NotAllowed)) (Some NoPrivilege)) (grants-seen e.home e.nodes o (op_row Notify).bit r.number)

  notify_seen : (request : RequestParts) (r : ResourceData) → AreSeenAlike o (notify_on seeing o request (see r)) (notify_on e o request r)
  notify_seen request r =
      subst (λ (f : Option Rsc). AreSeenAlike o (option_map_or (refused seeing request) f (notify_effect seeing o request)) (notify_on e o request r)) (sym (notify_refused request r))
      (by_fault seeing e o request (fault_on Notify e o request r) (notify_effect seeing o request) (notify_effect e o request) sight_twice (record { reply = refl; after = sight_twice }))

  relay_seen : (request : RequestParts) (r : ResourceData) → claimed_originator e.home request ≡ o → AreSeenAlike o (relay_effect seeing request (see r)) (relay_effect e request r)
  unfolding relay_effect
  relay_seen request r by =
      subst (λ (t : List ℕ). AreSeenAlike o (notify_on seeing t request (see r)) (notify_on e t request r)) (sym by) (notify_seen request r)

  -- an operation that is covered gives what is seen alike
  operated_seen : (op : Op) (request : RequestParts) (r : ResourceData) → asks_sight_alone op ≡ true → claimed_originator e.home request ≡ o → AreSeenAlike o (operation_effect op seeing request (see r)) (operation_effect op e request r)
  operated_seen Create request r covered by = absurd (false≢true covered)
  operated_seen Retrieve request r covered by = record { reply = reading_seen request r.number by; after = sight_twice }
  operated_seen Update request r covered by = absurd (false≢true covered)
  operated_seen Delete request r covered by = delete_seen request r by
  operated_seen Notify request r covered by = relay_seen request r by

  pub found_seen : (op : Op) (request : RequestParts) (found : Option ResourceData) → asks_sight_alone op ≡ true → claimed_originator e.home request ≡ o → AreSeenAlike o (found_effect op seeing request (option_map see found)) (found_effect op e request found)
  found_seen op request None covered by = record { reply = refl; after = sight_twice }
  found_seen op request (Some r) covered by = operated_seen op request r covered by

-- ---- what a covered operation leaves

-- an entity through which a request of the originator is fanned out
record IsThrough (o : List ℕ) (request : RequestParts) (e : EntityData) : Type 0 where
  well : is_well_formed e.nodes ≡ true
  counts : OnlySubsCount e.nodes
  by : claimed_originator e.home request ≡ o

-- a list is well-formed, and of its resources only subscriptions count
pub record IsShaped (nodes : List ResourceData) : Type 0 where
  pub well : is_well_formed nodes ≡ true
  pub counts : OnlySubsCount nodes

module _ (e : EntityData) (request : RequestParts) (r : ResourceData) (shaped : IsShaped e.nodes) where
  delete_shaped : IsShaped (change_effect Delete e request r).after.nodes
  unfolding change_effect
  delete_shaped = by (fault_on Delete e (claimed_originator e.home request) request r)
    where
      by : (fault : Option Rsc) → IsShaped (option_map_or (refused e request) fault (told_effect_by Delete e (claimed_originator e.home request) request r)).after.nodes
      by None =
          let left = without (has_number r.number) e.nodes in
          record {
            well = spent_well (notes_taken e r) left (is_well_formed-without (has_number r.number) e.nodes shaped.well);
            counts = spent_counts (notes_taken e r) left (without_counts (has_number r.number) e.nodes shaped.counts);
          }
      by (Some fault) = shaped

  pub operated_shaped : (op : Op) → asks_sight_alone op ≡ true → at r.number e.nodes ≡ Some r → IsShaped (operation_effect op e request r).after.nodes
  operated_shaped Create covered there = absurd (false≢true covered)
  operated_shaped Retrieve covered there = shaped
  operated_shaped Update covered there = absurd (false≢true covered)
  operated_shaped Delete covered there = delete_shaped
  operated_shaped Notify covered there = subst IsShaped (sym (relay_nodes e request r there)) shaped

module _ (o : List ℕ) (request : RequestParts) (covered : asks_sight_alone request.op ≡ true) where
  member_through : (e : EntityData) (address : List ℕ) → IsThrough o request e → IsThrough o request (member_effect e (sent_to request address)).after
  member_through e address is =
      let one = sent_to request address in
      let shaped : IsShaped e.nodes = record { well = is.well; counts = is.counts } in
      let left =
      of_member e one (λ x. IsShaped x.after.nodes) (λ fault other. shaped)
      (λ way. operated_shaped e one way.target shaped request.op covered way.there) in
      record {
        well = left.well;
        counts = left.counts;
        by = ap (λ (h : HomeData). claimed_originator h request) (member_kept e one).home ∙ is.by;
      }

  -- an operation on a resource that is covered gives what is seen alike
  on_resource : (e : EntityData) (address : List ℕ) (n : ℕ) → IsThrough o request e → AreSeenAlike o (resource_effect (sight o e) (sent_to request address) (at n (sight o e).nodes)) (resource_effect e (sent_to request address) (at n e.nodes))
  on_resource e address n is =
      subst (λ (r : Option ResourceData). AreSeenAlike o (resource_effect (sight o e) (sent_to request address) r) (resource_effect e (sent_to request address) (at n e.nodes))) (sym (at-seen e.home e.nodes o n))
      (found_seen e o is.well is.counts request.op (sent_to request address) (at n e.nodes) covered is.by)

  resource_alike : (one other : EntityData) (address : List ℕ) (n : ℕ) → IsThrough o request one → IsThrough o request other → sight o one ≡ sight o other → AreSeenAlike o (resource_effect one (sent_to request address) (at n one.nodes)) (resource_effect other (sent_to request address) (at n other.nodes))
  resource_alike one other address n is are same =
      through_sight o (λ (x : EntityData). resource_effect x (sent_to request address) (at n x.nodes)) one other same
      (on_resource one address n is) (on_resource other address n are)

  covered_alike : (one other : EntityData) → IsThrough o request one → IsThrough o request other → sight o one ≡ sight o other → AreOrdered one.nodes → AreOrdered other.nodes → AreAnsweredSo (SameSight o) (is_poll one request) (effect_of one request) (effect_of other request)
  covered_alike =
      effect_so o request (IsThrough o request) (SameSight o)
      (carried_by_sight o request (IsThrough o request) (λ e is. is.by) (λ e is. is.well) resource_alike member_through)

-- an operation asks what is seen alone, or is a Create or an Update
data WayOfSight (op : Op) : Type 0 where
  asks_alone : asks_sight_alone op ≡ true → WayOfSight op
  creates : op ≡ Create → WayOfSight op
  updates : op ≡ Update → WayOfSight op

way_of_sight : (op : Op) → WayOfSight op
way_of_sight Create = creates refl
way_of_sight Retrieve = asks_alone refl
way_of_sight Update = updates refl
way_of_sight Delete = asks_alone refl
way_of_sight Notify = asks_alone refl

-- ---- what is left of an entity at a moment

well_live : (nodes : List ResourceData) (m : ℕ) → is_well_formed nodes ≡ true → is_well_formed (live m nodes) ≡ true
well_live nodes m well = is_well_formed-without (is_due nodes m) nodes well

-- what an expiry tells
abbrev expiry_drafts : ℕ → EntityData → List DraftParts
expiry_drafts m e = notes_of_all e.home e.nodes (overdue_numbers m e.nodes) (expiry_changes m e.nodes)

pub well_swept : (e : EntityData) (reading : ℕ) → is_well_formed e.nodes ≡ true → is_well_formed (swept reading e).nodes ≡ true
well_swept e reading well =
    let m = event_moment e.last reading in
    spent_well (expiry_drafts m e) (live m e.nodes) (well_live e.nodes m well)

pub counts_swept : (e : EntityData) (reading : ℕ) → OnlySubsCount e.nodes → OnlySubsCount (swept reading e).nodes
counts_swept e reading counts =
    let m = event_moment e.last reading in
    spent_counts (expiry_drafts m e) (live m e.nodes) (without_counts (is_due e.nodes m) e.nodes counts)

-- ---- what is left of two entities that are seen alike is seen alike

module _ (o : List ℕ) (one other : EntityData) (well : is_well_formed one.nodes ≡ true) (wells : is_well_formed other.nodes ≡ true) (counts : OnlySubsCount one.nodes) (count : OnlySubsCount other.nodes) (same : sight o one ≡ sight o other) where
  abbrev home : HomeData
  home = one.home

  abbrev sees : List ResourceData → List ResourceData
  sees nodes = seen_list home nodes o

  -- what isn't due of both at a moment is seen alike
  live_alike : (m : ℕ) → sight o (expired m one) ≡ sight o (expired m other)
  live_alike m =
      ap (λ (ns : List ResourceData). record (sight o one) { nodes = ns; last = m })
      (live-same home one.nodes other.nodes o m well wells (same_seen o one other same)
      ∙ ap (λ (h : HomeData). seen_list h (live m other.nodes) o) (same_home o one other same))
      ∙ ap (λ (e : EntityData). record e { nodes = seen_list other.home (live m other.nodes) o; last = m }) same

  -- the same are told of what is gone
  expiry_whom : (m : ℕ) → for_whom (expiry_drafts m one) ≡ for_whom (expiry_drafts m other)
  expiry_whom m =
      whom_all home one.nodes (overdue_numbers m one.nodes) (expiry_changes m one.nodes)
      ∙ sym (expiry_seen home one.nodes o well m)
      ∙ ap (λ (ns : List ResourceData). numbers_told_all (overdue_numbers m ns) ns (expiry_changes m ns)) (same_seen o one other same)
      ∙ expiry_seen home other.nodes o wells m
      ∙ sym (whom_all other.home other.nodes (overdue_numbers m other.nodes) (expiry_changes m other.nodes))

  told_alike : (m : ℕ) → sight o (expired_told m one) ≡ sight o (expired_told m other)
  told_alike m =
      spent_alike o (expired m one) (expired m other) (live_alike m) (expiry_drafts m one) (expiry_drafts m other)
      (well_live one.nodes m well) (well_live other.nodes m wells)
      (without_counts (is_due one.nodes m) one.nodes counts) (without_counts (is_due other.nodes m) other.nodes count) (expiry_whom m)

  pub swept-alike : (reading : ℕ) → sight o (swept reading one) ≡ sight o (swept reading other)
  swept-alike reading =
      told_alike (event_moment one.last reading)
      ∙ ap (λ (n : ℕ). sight o (expired_told (event_moment n reading) other)) (same_last o one other same)

-- what comes of a request to two entities of which the originator sees the same, it sees alike
alike : (one other : EntityData) (o : List ℕ) (request : RequestParts) → is_well_formed one.nodes ≡ true → is_well_formed other.nodes ≡ true → OnlySubsCount one.nodes → OnlySubsCount other.nodes → sight o one ≡ sight o other → IsRequestBy one.home o request → asks_sight_alone request.op ≡ true → AreOrdered one.nodes → AreOrdered other.nodes → AreAnsweredSo (SameSight o) (is_poll one request) (effect_of one request) (effect_of other request)
alike one other o request well wells counts count same by covered order orders =
    let home : one.home ≡ other.home = same_home o one other same in
    covered_alike o request covered one other
    (record { well = well; counts = counts; by = by })
    (record { well = wells; counts = count; by = ap (λ (h : HomeData). claimed_originator h request) (sym home) ∙ by })
    same order orders

-- What comes of a request to two sound entities of which the originator sees the same: it sees alike
-- what is left; or it names policies or rules, and what is left has one shape for it.
pub data IsHeardAlike (o : List ℕ) (request : RequestParts) (poll : Bool) (x y : EventEffect) : Type 0 where
  heard_so : AreAnsweredSo (SameSight o) poll x y → IsHeardAlike o request poll x y
  judges_anew : is_calm request ≡ false → AreAnsweredSo (SameShape o) poll x y → IsHeardAlike o request poll x y

heard_alike : (one other : EntityData) (o : List ℕ) (request : RequestParts) → IsSoundEntity one → IsSoundEntity other → sight o one ≡ sight o other → IsRequestBy one.home o request → IsHeardAlike o request (is_poll one request) (effect_of one request) (effect_of other request)
heard_alike one other o request sound sounds same by =
    by_place_first (first_fault (first_places one request)) refl
  where
    by_place_first : (fault : Option Rsc) → first_fault (first_places one request) ≡ fault → IsHeardAlike o request (is_poll one request) (effect_of one request) (effect_of other request)
    by_place_first (Some fault) is =
        let too : first_fault (first_places other request) ≡ Some fault = sym (ap (λ (e : EntityData). first_fault (first_places e request)) same) ∙ is in
        heard_so (subst (λ (x : EventEffect). AreAnsweredSo (SameSight o) (is_poll one request) x (effect_of other request)) (sym (refused_effect one request fault is))
        (subst (AreAnsweredSo (SameSight o) (is_poll one request) (as_done (refused one request fault))) (sym (refused_effect other request fault too)) (record { outcome = λ other_one. refl; after = same })))
    by_place_first None is =
        by_way (record { originator = claimed_valid one.home request (heard_facts one request is).originator }) (way_of_sight request.op)
      where
        here : IsSoundAt one.home one
        here = record { sound = sound; home_is = refl }

        there : IsSoundAt one.home other
        there = record { sound = sounds; home_is = sym (same_home o one other same) }

        by_way : MaySend one.home request → WayOfSight request.op → IsHeardAlike o request (is_poll one request) (effect_of one request) (effect_of other request)
        by_way may (asks_alone alone) =
            heard_so (alike one other o request sound.tree sounds.tree (sound_counts one sound) (sound_counts other sounds) same by alone sound.order sounds.order)
        by_way may (creates op) =
            heard_so (create_so one.home o request by may op one other here there same sound.order sounds.order)
        by_way may (updates op) = elim (cases_Bool (changes_rules request)) [
          | inr calm ↦ heard_so (update_so one.home o request by may op calm one other here there same sound.order sounds.order)
          | inl rules ↦
              let anew : is_calm request ≡ false = ap (λ (x : Op). not (does_update x && changes_rules request)) op ∙ ap (λ (b : Bool). not (true && b)) rules in
              judges_anew anew (rules_so one.home o request by may op rules one other here there same sound.order sounds.order)
        ]

module _ (one other : EntityData) (o : List ℕ) (reading : ℕ) (sound : IsSoundEntity one) (sounds : IsSoundEntity other) (same : sight o one ≡ sight o other) where
  -- time passes alike
  pub passed-alike : sight o (swept reading one) ≡ sight o (swept reading other)
  passed-alike = swept-alike o one other sound.tree sounds.tree (sound_counts one sound) (sound_counts other sounds) same reading

  -- and a request is heard so
  pub heard-alike : (request : RequestParts) → IsRequestBy one.home o request → IsHeardAlike o request (is_poll (swept reading one) request) (effect_of (swept reading one) request) (effect_of (swept reading other) request)
  heard-alike request by =
      heard_alike (swept reading one) (swept reading other) o request (sound_swept reading one sound) (sound_swept reading other sounds) passed-alike by

-- on what it sees of an entity it is answered as by the entity
pub outcome-seen : (e : EntityData) (o : List ℕ) (reading : ℕ) (request : RequestParts) → IsSoundEntity e → IsRequestBy e.home o request → asks_sight_alone request.op ≡ true → is_poll (swept reading e) request ≡ false → (effect_of (swept reading (sight o e)) request).outcome ≡ (effect_of (swept reading e) request).outcome
outcome-seen e o reading request sound by alone unpolled =
    let counts = sound_counts e sound in
    let seen_well = well_seen e.home e.nodes o sound.tree in
    let seen_counts = sight_counts e.home e.nodes o counts in
    let same = sight_twice e o sound.tree counts in
    let passed = swept-alike o (sight o e) e seen_well sound.tree seen_counts counts same reading in
    (alike (swept reading (sight o e)) (swept reading e) o request (well_swept (sight o e) reading seen_well) (well_swept e reading sound.tree)
    (counts_swept (sight o e) reading seen_counts) (counts_swept e reading counts)
    passed by alone
    (order_swept (sight o e) reading (order_seen e.home e.nodes o sound.order)) (order_swept e reading sound.order)).outcome
    (ap (polls_at request.op) (asked_same o (swept reading (sight o e)) (swept reading e) passed request) ∙ unpolled)
