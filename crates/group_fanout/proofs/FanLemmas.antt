-- A fan-out, member by member.
use Rattle.std.proofs.Common.{◌≡◌, ℕ, ◌+◌, List, [], ◌∷◌, ◌++◌, length, map, take, true, Option, Some, None, Result, Ok, Err, refl, sym, ap, ◌∙◌, arith}
use Rattle.std.proofs.Math.Seq.{take-append_seam, take-length}
use Rattle.std.proofs.lemmas.Bool.{false≢true}
use Rattle.std.proofs.lemmas.List.{append_assoc, append-nil, length-append, length-map, map-append}
use Rattle.m2m_names.specs.declared.operations.Op.{Op}
use Rattle.m2m_names.specs.declared.operations.Op.TheVariants.{Create, Retrieve, Update, Delete, Notify}
use Rattle.m2m_value.specs.Data.{Data}
use Rattle.primitive_json.specs.declared.reply.ReplyParts.{ReplyParts}
use Rattle.primitive_json.specs.declared.request.RequestParts.{RequestParts}
use Rattle.resource_model.specs.Home.{HomeData}
use Rattle.resource_model.specs.Resource.{ResourceData}
use Rattle.tree_model.specs.Tree.{at}
use Rattle.addressing.specs.Addresses.{address_of}
use Rattle.addressing.specs.Names.{spot_of}
use Rattle.addressing.specs.declared.addr.Addr.{Addr}
use Rattle.addressing.specs.declared.addr.Addr.TheVariants.{Local, Foreign, OtherProvider}
use Rattle.addressing.specs.declared.addr.AddrFault.{AddrFault}
use Rattle.addressing.specs.declared.spot.Spot.{Spot}
use Rattle.addressing.specs.declared.spot.Spot.TheVariants.{Resource, Fan, Poll}
use Rattle.entity_model.specs.Entity.{EntityData}
use Rattle.group_fanout.specs.Fan.{IsCutShortAt, Single, after_members, gathered_one, is_fanned, member_effect, member_effect_at, member_effect_by, requests_to, sent_to, single_of, singles_of, told_of}
use Rattle.group_fanout.specs.Operations.{change_effect, found_effect}
use Rattle.group_fanout.specs.Rights.{claimed_originator}
use Rattle.group_fanout.proofs.HomeLemmas.{member_home}

-- ---- an operation reads of a request no address, but for a Notify

changed_alike : (op : Op) (e : EntityData) (request : RequestParts) (to : List ℕ) (t : ResourceData) → change_effect op e (sent_to request to) t ≡ change_effect op e request t
unfolding change_effect
changed_alike Create e request to t = refl
changed_alike Retrieve e request to t = refl
changed_alike Update e request to t = refl
changed_alike Delete e request to t = refl
changed_alike Notify e request to t = refl

found_alike : (op : Op) (e : EntityData) (request : RequestParts) (to : List ℕ) (found : Option ResourceData) → is_fanned op ≡ true → found_effect op e (sent_to request to) found ≡ found_effect op e request found
found_alike op e request to None fans = refl
found_alike Create e request to (Some t) fans = changed_alike Create e request to t
found_alike Retrieve e request to (Some t) fans = refl
found_alike Update e request to (Some t) fans = changed_alike Update e request to t
found_alike Delete e request to (Some t) fans = changed_alike Delete e request to t
found_alike Notify e request to (Some t) fans = absurd (false≢true fans)

spot_alike : (e : EntityData) (request : RequestParts) (to : List ℕ) (spot : Option Spot) → is_fanned request.op ≡ true → member_effect_at e (sent_to request to) spot ≡ member_effect_at e request spot
spot_alike e request to None fans = refl
spot_alike e request to (Some (Resource n)) fans = found_alike request.op e request to (at n e.nodes) fans
spot_alike e request to (Some (Fan group rest)) fans = refl
spot_alike e request to (Some (Poll channel)) fans = refl

pub member_alike : (e : EntityData) (request : RequestParts) (to : List ℕ) (a : Result Addr AddrFault) → is_fanned request.op ≡ true → member_effect_by e (sent_to request to) a ≡ member_effect_by e request a
member_alike e request to (Ok (Local segments)) fans = spot_alike e request to (spot_of segments e.nodes) fans
member_alike e request to (Ok (Foreign address)) fans = refl
member_alike e request to (Ok OtherProvider) fans = refl
member_alike e request to (Err fault) fans = refl

-- ---- one member after another

after_append : (xs : List RequestParts) (e : EntityData) (ys : List RequestParts) → after_members e (xs ++ ys) ≡ after_members (after_members e xs) ys
after_append [] e ys = refl
after_append (x ∷ xs) e ys = after_append xs (member_effect e x).after ys

singles_append : (xs : List RequestParts) (e : EntityData) (ys : List RequestParts) → singles_of e (xs ++ ys) ≡ singles_of e xs ++ singles_of (after_members e xs) ys
singles_append [] e ys = refl
singles_append (x ∷ xs) e ys =
    ap (λ (s : List Single). single_of x (member_effect e x) ∷ s) (singles_append xs (member_effect e x).after ys)

after_home : (xs : List RequestParts) (e : EntityData) → (after_members e xs).home ≡ e.home
after_home [] e = refl
after_home (x ∷ xs) e = after_home xs (member_effect e x).after ∙ member_home e x

-- so many are done, this is what they left and what was told of them, and these are left
pub record IsAskedSoFar (before : EntityData) (request : RequestParts) (all rest : List (List ℕ)) (done : ℕ) (e : EntityData) (replies : List Data) : Type 0 where
  pub past : List (List ℕ)
  pub split : past ++ rest ≡ all
  pub count : done ≡ length past
  pub left : e ≡ after_members before (requests_to request past)
  pub told : replies ≡ map gathered_one (singles_of before (requests_to request past))

pub none_asked : (e : EntityData) (request : RequestParts) (all : List (List ℕ)) (replies : List Data) → replies ≡ [] → IsAskedSoFar e request all all 0 e replies
none_asked e request all replies none = record { past = []; split = refl; count = refl; left = refl; told = none }

-- whoever asks is the same all along
pub asks_still : (before : EntityData) (request : RequestParts) (all rest : List (List ℕ)) (done : ℕ) (e : EntityData) (replies : List Data) (o : List ℕ) → IsAskedSoFar before request all rest done e replies → claimed_originator before.home request ≡ o → claimed_originator e.home request ≡ o
asks_still before request all rest done e replies o so claimed =
    let home : e.home ≡ before.home = ap (λ (x : EntityData). x.home) so.left ∙ after_home (requests_to request so.past) before in
    ap (λ (h : HomeData). claimed_originator h request) home ∙ claimed

-- the requests of those that are done, and of one more
more_requests : (request : RequestParts) (past : List (List ℕ)) (to : List ℕ) → requests_to request (past ++ to ∷ []) ≡ requests_to request past ++ sent_to request to ∷ []
more_requests request past to = map-append (sent_to request) past (to ∷ [])

left_more : (before : EntityData) (request : RequestParts) (past : List (List ℕ)) (to : List ℕ) → after_members before (requests_to request (past ++ to ∷ [])) ≡ (member_effect (after_members before (requests_to request past)) (sent_to request to)).after
left_more before request past to =
    ap (after_members before) (more_requests request past to)
    ∙ after_append (requests_to request past) before (sent_to request to ∷ [])

told_more : (before : EntityData) (request : RequestParts) (past : List (List ℕ)) (to : List ℕ) → map gathered_one (singles_of before (requests_to request (past ++ to ∷ []))) ≡ map gathered_one (singles_of before (requests_to request past)) ++ told_of (member_effect (after_members before (requests_to request past)) (sent_to request to)).reply to ∷ []
told_more before request past to =
    ap (λ (rs : List RequestParts). map gathered_one (singles_of before rs)) (more_requests request past to)
    ∙ ap (map gathered_one) (singles_append (requests_to request past) before (sent_to request to ∷ []))
    ∙ map-append gathered_one (singles_of before (requests_to request past)) (singles_of (after_members before (requests_to request past)) (sent_to request to ∷ []))

-- one more is done
pub asked_more : (before : EntityData) (request : RequestParts) (all rest : List (List ℕ)) (done : ℕ) (e after : EntityData) (replies more : List Data) (to : List ℕ) (reply : ReplyParts) → IsAskedSoFar before request all (to ∷ rest) done e replies → reply ≡ (member_effect e (sent_to request to)).reply → after ≡ (member_effect e (sent_to request to)).after → more ≡ replies ++ told_of reply to ∷ [] → IsAskedSoFar before request all rest (done + 1) after more
asked_more before request all rest done e after replies more to reply so is left told = record {
  past = so.past ++ to ∷ [];
  split = append_assoc so.past (to ∷ []) rest ∙ so.split;
  count = ap (λ (k : ℕ). k + 1) so.count ∙ sym (length-append so.past (to ∷ []));
  left =
      left ∙ ap (λ (x : EntityData). (member_effect x (sent_to request to)).after) so.left
      ∙ sym (left_more before request so.past to);
  told =
      told ∙ ap (λ (r : ReplyParts). replies ++ told_of r to ∷ []) is
      ∙ ap (λ (x : EntityData). replies ++ told_of (member_effect x (sent_to request to)).reply to ∷ []) so.left
      ∙ ap (λ (ds : List Data). ds ++ told_of (member_effect (after_members before (requests_to request so.past)) (sent_to request to)).reply to ∷ []) so.told
      ∙ sym (told_more before request so.past to);
}

-- ---- where memory runs out

seam : (request : RequestParts) (past rest : List (List ℕ)) → take (length past) (requests_to request (past ++ rest)) ≡ requests_to request past
seam request past rest =
    ap (take (length past)) (map-append (sent_to request) past rest)
    ∙ ap (λ (k : ℕ). take k (requests_to request past ++ requests_to request rest)) (sym (length-map past (sent_to request)))
    ∙ take-append_seam (requests_to request past) (requests_to request rest)

-- those that are done have taken effect
pub asked_cut : (before : EntityData) (request : RequestParts) (all rest : List (List ℕ)) (done : ℕ) (e : EntityData) (replies : List Data) → IsAskedSoFar before request all rest done e replies → IsCutShortAt before (requests_to request all) done e
asked_cut before request all rest done e replies so = record {
  within = omega (arith, so.count, length-append so.past rest, ap length so.split, length-map all (sent_to request));
  left =
      so.left
      ∙ ap (after_members before)
      (sym (ap (λ (k : ℕ). take k (requests_to request all)) so.count
      ∙ ap (λ (xs : List (List ℕ)). take (length so.past) (requests_to request xs)) (sym so.split)
      ∙ seam request so.past rest));
}

-- and so has one more, whatever is told of it
pub asked_cut_more : (before : EntityData) (request : RequestParts) (all rest : List (List ℕ)) (done : ℕ) (e after : EntityData) (replies : List Data) (to : List ℕ) (reply : ReplyParts) → IsAskedSoFar before request all (to ∷ rest) done e replies → reply ≡ (member_effect e (sent_to request to)).reply → after ≡ (member_effect e (sent_to request to)).after → IsCutShortAt before (requests_to request all) (done + 1) after
asked_cut_more before request all rest done e after replies to reply so is left =
    asked_cut before request all rest (done + 1) after (replies ++ told_of reply to ∷ [])
    (asked_more before request all rest done e after replies (replies ++ told_of reply to ∷ []) to reply so is left refl)

-- all are done
whole : (before : EntityData) (request : RequestParts) (all rest : List (List ℕ)) (done : ℕ) (e : EntityData) (replies : List Data) → rest ≡ [] → (so : IsAskedSoFar before request all rest done e replies) → so.past ≡ all
whole before request all rest done e replies none so =
    sym (append-nil so.past) ∙ ap (λ (xs : List (List ℕ)). so.past ++ xs) (sym none) ∙ so.split

pub all_counted : (before : EntityData) (request : RequestParts) (all rest : List (List ℕ)) (done : ℕ) (e : EntityData) (replies : List Data) → rest ≡ [] → IsAskedSoFar before request all rest done e replies → done ≡ length all
all_counted before request all rest done e replies none so =
    so.count ∙ ap length (whole before request all rest done e replies none so)

pub all_left : (before : EntityData) (request : RequestParts) (all rest : List (List ℕ)) (done : ℕ) (e : EntityData) (replies : List Data) → rest ≡ [] → IsAskedSoFar before request all rest done e replies → e ≡ after_members before (requests_to request all)
all_left before request all rest done e replies none so =
    so.left ∙ ap (λ (xs : List (List ℕ)). after_members before (requests_to request xs)) (whole before request all rest done e replies none so)

pub all_told : (before : EntityData) (request : RequestParts) (all rest : List (List ℕ)) (done : ℕ) (e : EntityData) (replies : List Data) → rest ≡ [] → IsAskedSoFar before request all rest done e replies → replies ≡ map gathered_one (singles_of before (requests_to request all))
all_told before request all rest done e replies none so =
    so.told ∙ ap (λ (xs : List (List ℕ)). map gathered_one (singles_of before (requests_to request xs))) (whole before request all rest done e replies none so)

-- none is done, and nothing has changed
pub none_cut : (e : EntityData) (requests : List RequestParts) (done : ℕ) (after : EntityData) → done ≡ 0 → after ≡ e → IsCutShortAt e requests done after
none_cut e requests done after none same = record {
  within = omega (arith, none);
  left = same ∙ sym (ap (λ (k : ℕ). after_members e (take k requests)) none);
}

pub all_cut : (before : EntityData) (request : RequestParts) (all : List (List ℕ)) (done : ℕ) (e : EntityData) → done ≡ length all → e ≡ after_members before (requests_to request all) → IsCutShortAt before (requests_to request all) done e
all_cut before request all done e count left = record {
  within = omega (arith, count, length-map all (sent_to request));
  left =
      left
      ∙ ap (after_members before)
      (sym (ap (λ (k : ℕ). take k (requests_to request all)) (count ∙ sym (length-map all (sent_to request)))
      ∙ take-length (requests_to request all)));
}

-- ---- one member, by where its address leads

pub member_is : (e : EntityData) (request : RequestParts) (to : List ℕ) (a : Result Addr AddrFault) → is_fanned request.op ≡ true → address_of e.home to ≡ a → member_effect e (sent_to request to) ≡ member_effect_by e request a
member_is e request to a fans is = ap (member_effect_by e (sent_to request to)) is ∙ member_alike e request to a fans

pub ruleset asking = (none_asked, asks_still, asked_more, asked_cut, asked_cut_more, all_counted, all_left, all_told, none_cut)
