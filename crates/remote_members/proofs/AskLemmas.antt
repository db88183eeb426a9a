-- What was asked for members, joined.
use Rattle.std.proofs.Common.{◌≡◌, ℕ, ◌+◌, List, [], ◌∷◌, ◌++◌, length, Option, Some, None, Result, Ok, Err, IfOk, refl, sym, ap, subst, ◌∙◌, append_assoc, append-nil}
use Rattle.m2m_io.specs.Told.{Tells}
use Rattle.m2m_value.specs.Data.{Data}
use Rattle.primitive_json.specs.declared.reply.ReplyParts.{ReplyParts}
use Rattle.primitive_json.specs.declared.request.RequestParts.{RequestParts}
use Rattle.resource_model.specs.Home.{HomeData}
use Rattle.turn_desk.specs.Entries.{Marked, entry_of}
use Rattle.turn_desk.specs.Growth.{Asks}
use Rattle.turn_desk.proofs.GrowthLemmas.{AsksAll-ask, AsksAll-nothing}
use Rattle.http_forwarding.specs.Carries.{LinkTold}
use Rattle.group_fanout.specs.Fan.{requests_to, sent_to}
use Rattle.std.specs.List.{cons_option}
use Rattle.cse_machine.specs.declared.event.Event.{Event}
use Rattle.cse_machine.specs.declared.event.Event.TheVariants.{Ask}
use Rattle.cse_machine.specs.declared.event.Outcome.{Outcome}
use Rattle.desk_replies.specs.Asking.{Asked, HasAsked, asked_on, nothing_asked}
use Rattle.desk_replies.specs.Replies.{RepliesOver}
use Rattle.desk_replies.proofs.AskingLemmas.{has_asked_nothing, has_asked_on}
use Rattle.desk_replies.proofs.RepliesLemmas.{gives-length, gives-one}
use Rattle.remote_members.specs.Asking.{AsksMembers, AsksOne, TellsMember, TellsMembers, is_done, one_asked, request_for, requests_for}
use Rattle.remote_members.specs.Remote.{remote_address, remote_addresses, entries_anew, told_anew, told_by}
use Rattle.remote_members.specs.declared.asking.Answered.{Answered}
use Rattle.remote_members.proofs.RemoteLemmas.{entries_anew-append, requests-append, requests-length}

module _ {S : Type 0} (grown : S → List (Marked Event Outcome) → S → Type 0) where
  -- ---- one request

  -- it was asked, and its outcome gave the reply
  pub asks_one : {E F : Type 0} → ((seat : S) → grown seat [] seat)
      → ((before between after : S) (more then : List (Marked Event Outcome)) → grown before more between → grown between then after → grown before (more ++ then) after)
      → (before after : S) (given now : Option (List ℕ)) (told more : LinkTold) (request : RequestParts) (reading : ℕ) (outcome : Outcome)
      (result : Result ReplyParts E) (answered : Result Answered F)
      → Asks grown before (entry_of reading (Ask request) outcome) after
      → Tells (λ list. list ++ reading ∷ []) given now
      → (by : RepliesOver request outcome told more result)
      → IfOk answered (λ a. (a.reply ≡ by.reply) × (a.is_own ≡ is_done outcome))
      → AsksOne grown before after given now told more request answered
  asks_one nothing on before after given now told more request reading outcome result answered asks clock by replied = record {
    outcome = outcome;
    reply = by.reply;
    carried = by.carried;
    asks = record {
      readings = reading ∷ [];
      asks = AsksAll-ask grown on (AsksAll-nothing grown nothing before) asks;
      clock = clock;
      gives = gives-one request outcome by.reply by.carried by.gives;
      link = by.link;
    };
    replied = replied;
  }

  -- ---- requests to members

  -- none was asked yet
  pub none_asked : {A E : Type 0} → ((seat : S) → grown seat [] seat) → (seat : S) (given : Option (List ℕ)) (told : LinkTold)
      (requests : List RequestParts) (gives : List ReplyParts → A → Type 0) (result : Result A E)
      → IfOk result (λ a. (requests ≡ []) × gives [] a)
      → AsksMembers grown seat seat given given told told requests gives result
  none_asked nothing seat given told requests gives result all = record {
    asked = nothing_asked;
    unasked = requests;
    asks = has_asked_nothing grown nothing seat given told;
    front = refl;
    given_all = all;
  }

  -- one was asked
  pub one_member : {A E : Type 0} (before after : S) (given now : Option (List ℕ)) (told more : LinkTold) (home : HomeData) (request : RequestParts)
      (entry : Data) (to : List ℕ) (question : RequestParts) (answered : Result Answered E) (gives : List ReplyParts → A → Type 0) (result : Result A E)
      → remote_address home entry ≡ Some to → question ≡ sent_to request to
      → (one : AsksOne grown before after given now told more question answered)
      → IfOk result (λ a. gives (one.reply ∷ []) a)
      → AsksMembers grown before after given now told more (request_for home request entry) gives result
  one_member {A} {E} before after given now told more home request entry to question answered gives result away is one all = record {
    asked = one_asked question one.outcome one.reply one.carried;
    unasked = [];
    asks = one.asks;
    front = ap (λ (r : RequestParts). r ∷ []) is ∙ sym (ap (λ (o : Option (List ℕ)). requests_to request (cons_option o [])) away);
    given_all = with_all result all;
  }
    where
      with_all : (result : Result A E) → IfOk result (λ a. gives (one.reply ∷ []) a) → IfOk result (λ a. (◌≡◌ {A = List RequestParts} [] []) × gives (one.reply ∷ []) a)
      with_all (Ok a) all = (refl, all)
      with_all (Err e) all = tt

  -- ---- members one after another

  -- So much is told of those so far, and these are left.
  pub record HasTold (before after : S) (given now : Option (List ℕ)) (told more : LinkTold) (home : HomeData) (request : RequestParts)
      (all rest : List Data) (anew : List Data) : Type 0 where
    pub past : List Data
    pub split : past ++ rest ≡ all
    pub asked : Asked
    pub asks : HasAsked grown before after given now told more asked
    pub requests : asked.requests ≡ requests_for home request past
    pub anew_is : anew ≡ entries_anew home past asked.replies

  pub told_none : ((seat : S) → grown seat [] seat) → (seat : S) (given : Option (List ℕ)) (told : LinkTold) (home : HomeData) (request : RequestParts)
      (all rest anew : List Data) → rest ≡ all → anew ≡ [] → HasTold seat seat given given told told home request all rest anew
  told_none nothing seat given told home request all rest anew left none = record {
    past = [];
    split = left;
    asked = nothing_asked;
    asks = has_asked_nothing grown nothing seat given told;
    requests = refl;
    anew_is = none;
  }

  -- of those that are left, one is next
  pub told_next : (before after : S) (given now : Option (List ℕ)) (told more : LinkTold) (home : HomeData) (request : RequestParts)
      (all left rest anew : List Data) (entry : Data) → left ≡ entry ∷ rest
      → HasTold before after given now told more home request all left anew → HasTold before after given now told more home request all (entry ∷ rest) anew
  told_next before after given now told more home request all left rest anew entry is so =
      subst (λ (xs : List Data). HasTold before after given now told more home request all xs anew) is so

  module _ (on : (before between after : S) (more then : List (Marked Event Outcome)) → grown before more between → grown between then after → grown before (more ++ then) after) where
    -- of one more
    pub told_more : {E : Type 0} (before between after : S) (g g' g'' : Option (List ℕ)) (t t' t'' : LinkTold) (home : HomeData) (request : RequestParts)
        (all rest anew more : List Data) (entry told : Data)
        → HasTold before between g g' t t' home request all (entry ∷ rest) anew
        → AsksMembers {E = E} grown between after g' g'' t' t'' (request_for home request entry) (TellsMember home entry) (Ok told)
        → more ≡ anew ++ told ∷ []
        → HasTold before after g g'' t t'' home request all rest more
    told_more before between after g g' g'' t t' t'' home request all rest anew more entry told so one is =
        let whole : one.asked.requests ≡ request_for home request entry =
        sym (append-nil one.asked.requests) ∙ ap (λ v. one.asked.requests ++ v) (sym one.given_all.0) ∙ one.front in
        let many : length so.asked.replies ≡ length (remote_addresses home so.past) =
        gives-length so.asked.requests so.asked.outcomes so.asked.replies so.asked.carried so.asks.gives
        ∙ ap (λ v. length v) so.requests ∙ requests-length home request so.past in
        record {
          past = so.past ++ entry ∷ [];
          split = append_assoc so.past (entry ∷ []) rest ∙ so.split;
          asked = asked_on so.asked one.asked;
          asks = has_asked_on grown on before between after g g' g'' t t' t'' so.asked one.asked so.asks one.asks;
          requests = (λ i. so.requests i ++ whole i) ∙ sym (requests-append home request so.past (entry ∷ []));
          anew_is =
              is ∙ (λ i. so.anew_is i ++ one.given_all.1 i ∷ [])
              ∙ sym (entries_anew-append home so.past (entry ∷ []) so.asked.replies one.asked.replies many);
        }

    -- memory ran out at one
    pub told_short : {A E F : Type 0} (before between after : S) (g g' g'' : Option (List ℕ)) (t t' t'' : LinkTold) (home : HomeData) (request : RequestParts)
        (all rest anew : List Data) (entry : Data) (result : Result Data F) (gives : List ReplyParts → A → Type 0) (e : E)
        → HasTold before between g g' t t' home request all (entry ∷ rest) anew
        → AsksMembers grown between after g' g'' t' t'' (request_for home request entry) (TellsMember home entry) result
        → AsksMembers grown before after g g'' t t'' (requests_for home request all) gives (Err e)
    told_short before between after g g' g'' t t' t'' home request all rest anew entry result gives e so one = record {
      asked = asked_on so.asked one.asked;
      unasked = one.unasked ++ requests_for home request rest;
      asks = has_asked_on grown on before between after g g' g'' t t' t'' so.asked one.asked so.asks one.asks;
      front =
          append_assoc so.asked.requests one.asked.requests (one.unasked ++ requests_for home request rest)
          ∙ ap (λ v. so.asked.requests ++ v) (sym (append_assoc one.asked.requests one.unasked (requests_for home request rest)))
          ∙ (λ i. so.requests i ++ (one.front i ++ requests_for home request rest))
          ∙ ap (λ v. requests_for home request so.past ++ v) (sym (requests-append home request (entry ∷ []) rest))
          ∙ sym (requests-append home request so.past (entry ∷ rest))
          ∙ ap (requests_for home request) so.split;
      given_all = tt;
    }

  -- of all
  pub told_all : {A E : Type 0} (before after : S) (given now : Option (List ℕ)) (told more : LinkTold) (home : HomeData) (request : RequestParts)
      (all rest anew : List Data) (gives : List ReplyParts → A → Type 0) (a : A)
      → rest ≡ [] → (so : HasTold before after given now told more home request all rest anew)
      → ((replies : List ReplyParts) → TellsMembers home all replies anew → gives replies a)
      → AsksMembers {E = E} grown before after given now told more (requests_for home request all) gives (Ok a)
  told_all before after given now told more home request all rest anew gives a none so says =
      let past : so.past ≡ all = sym (append-nil so.past) ∙ ap (λ v. so.past ++ v) (sym none) ∙ so.split in
      record {
        asked = so.asked;
        unasked = [];
        asks = so.asks;
        front = append-nil so.asked.requests ∙ so.requests ∙ ap (requests_for home request) past;
        given_all = (refl, says so.asked.replies (so.anew_is ∙ ap (λ (v : List Data). entries_anew home v so.asked.replies) past));
      }

-- ---- what one function tells

pub not_some : {A : Type 0} (o : Option A) → ((a : A) → o ≡ Some a → ⊥) → o ≡ None
not_some None other = refl
not_some (Some a) other = absurd (other a refl)

-- a member that isn't away isn't asked
pub stays_told : (home : HomeData) (request : RequestParts) (entry : Data) (a : Option (List ℕ)) → a ≡ remote_address home entry → a ≡ None
    → (request_for home request entry ≡ []) × TellsMember home entry [] entry
stays_told home request entry a is none =
    let here : remote_address home entry ≡ None = sym is ∙ none in
    (ap (λ (o : Option (List ℕ)). requests_to request (cons_option o [])) here, sym (ap (λ (o : Option (List ℕ)). told_by o entry []) here))

-- one that is away is told by its reply
pub anew_tells : {E : Type 0} (home : HomeData) (entry : Data) (to : List ℕ) (reply first : ReplyParts) (result : Result Data E)
    → remote_address home entry ≡ Some to → reply ≡ first → IfOk result (λ v. v ≡ told_anew entry reply)
    → IfOk result (λ d. TellsMember home entry (first ∷ []) d)
anew_tells home entry to reply first (Ok d) away same is =
    is ∙ ap (told_anew entry) same ∙ sym (ap (λ (o : Option (List ℕ)). told_by o entry (first ∷ [])) away)
anew_tells home entry to reply first (Err e) away same is = tt
