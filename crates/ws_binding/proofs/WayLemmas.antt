-- A talk on its way, joined with what comes next.
use Rattle.std.proofs.Common.{◌≡◌, ℕ, ◌+◌, ◌<◌, true, false, List, [], ◌∷◌, ◌++◌, length, Option, Some, None, inl, inr, refl, sym, ap, subst, ◌∙◌, arith, append_assoc, append-nil, length-append}
use Rattle.std.proofs.lemmas.Bool.{cases_Bool, true≢false}
use Rattle.std.specs.Option.{MatchOption}
use Rattle.m2m_io.specs.Told.{TellsStill}
use Rattle.http_forwarding.specs.Carries.{LinkTold}
use Rattle.turn_desk.specs.Entries.{Marked}
use Rattle.cse_machine.specs.declared.event.Event.{Event}
use Rattle.cse_machine.specs.declared.event.Outcome.{Outcome}
use Rattle.desk_replies.specs.Asking.{asked_on}
use Rattle.desk_replies.specs.Rule.{ReplyRule}
use Rattle.desk_replies.proofs.LinkLemmas.{Tells-append, Tells-nil}
use Rattle.desk_replies.proofs.AskingLemmas.{answered_as, answered_length, answered_none, answered_on, has_asked_nothing, has_asked_on}
use Rattle.ws_binding.specs.Payloads.{payload_requests, said_to}
use Rattle.ws_binding.specs.Talk.{Says, SaysAllButLast, SaysMost, ServesUpTo, most_payloads}
use Rattle.ws_binding.specs.Talker.{NoneToCome, SaysAll, Takes, TalkTold}
use Rattle.ws_binding.specs.Way.{Answers, AsksPayloads, Goes, SaysTurn}
use Rattle.ws_binding.specs.declared.talk.TalkEnded.{TalkEnded}
use Rattle.ws_binding.specs.declared.talk.TalkEnded.TheVariants.{Closed, Failed, Memory}
use Rattle.ws_binding.proofs.TalkLemmas.{payload_requests-append, said_to-append, Takes-append, Takes-still, SaysAll-none, SaysAll-behind, SaysAllButLast-then, Says-then}

takes_none : (a : Option (List (List ℕ))) → Takes [] a a
takes_none None = tt
takes_none (Some x) = refl

abbrev is_none_end : Option TalkEnded → Type 0
is_none_end None = Unit {0}
is_none_end (Some e) = ⊥

none_some : {e : TalkEnded} → None ≡ Some e → ⊥
none_some p = subst is_none_end p tt

abbrev end_or : TalkEnded → Option TalkEnded → TalkEnded
end_or e None = e
end_or e (Some d) = d

pub some_same : (ended other : TalkEnded) → Some ended ≡ Some other → ended ≡ other
some_same ended other e = ap (end_or ended) e

-- nothing was said behind what was said before
nothing_said : (ended : TalkEnded) (a b : Option (List (List ℕ))) → TellsStill a b → Says ended [] [] a b
nothing_said Closed a b p = (refl, SaysAll-none a b p)
nothing_said Failed a b p = (refl, inl (SaysAll-none a b p))
nothing_said Memory a b p = inl (SaysAll-none a b p)

no_last : (last : List ℕ) (before : List (List ℕ)) → [] ≡ before ++ last ∷ [] → ⊥
no_last last before e =
    let many : 0 ≡ length before + 1 = ap (λ v. length v) e ∙ length-append before (last ∷ []) in
    omega (arith, many)

-- of no payload all was said, or all but the last
most_of_none : (a b : Option (List (List ℕ))) → SaysMost [] a b → SaysAll [] a b
most_of_none a b (inl all) = all
most_of_none a b (inr but) = absurd (no_last but.last but.before but.payloads_are)

most_behind : (said : List (List ℕ)) (a b c : Option (List (List ℕ))) → TellsStill a b → SaysMost said b c → SaysMost said a c
most_behind said a b c p (inl all) = inl (SaysAll-behind said a b c p all)
most_behind said a b c p (inr but) = inr (record {
  before = but.before;
  last = but.last;
  payloads_are = but.payloads_are;
  said = SaysAll-behind but.before a b c p but.said;
})

-- what was said by a turn that ended the talk, behind a payload that was heard
heard_says : (ended : TalkEnded) (replies : List (List ℕ)) (a b c : Option (List (List ℕ))) → TellsStill a b → SaysTurn (Some ended) replies b c → Says ended replies [] a c
heard_says Closed replies a b c p q = absurd q
heard_says Failed replies a b c p q = (refl, most_behind replies a b c p q)
heard_says Memory replies a b c p q = most_behind replies a b c p q

-- and behind one that wasn't
unheard_says : (ended : TalkEnded) (payload : List ℕ) (replies : List (List ℕ)) (a b c : Option (List (List ℕ))) → ended ≡ Memory → replies ≡ []
    → TellsStill a b → SaysTurn (Some ended) replies b c → Says ended replies (payload ∷ []) a c
unheard_says Closed payload replies a b c memory none p q = absurd q
unheard_says Failed payload replies a b c memory none p q = cc
unheard_says Memory payload replies a b c memory none p q = (
  refl,
  subst (λ (v : List (List ℕ)). SaysAll v a c) (sym none)
      (SaysAll-behind [] a b c p (most_of_none b c (subst (λ (v : List (List ℕ)). SaysMost v b c) none q))),
)

-- a turn doesn't close a talk
pub turn_stays : (ended : Option TalkEnded) (replies : List (List ℕ)) (a b : Option (List (List ℕ))) → SaysTurn ended replies a b → ended ≡ Some Closed → ⊥
turn_stays None replies a b said e = none_some e
turn_stays (Some Closed) replies a b said e = said
turn_stays (Some Failed) replies a b said e = cc
turn_stays (Some Memory) replies a b said e = cc

module _ {S : Type 0} (rule : ReplyRule) (grown : S → List (Marked Event Outcome) → S → Type 0) where
  module _ (nothing : (seat : S) → grown seat [] seat) where
    -- no payload
    abbrev pub asks_none : (seat : S) (given : Option (List ℕ)) (told : LinkTold) → AsksPayloads rule grown seat seat given given told told []
    asks_none seat given told = record {
      asked = _;
      asks = has_asked_nothing grown nothing seat given told;
      answers = answered_none rule;
    }

    pub goes_none : (seat : S) (given : Option (List ℕ)) (told : LinkTold) (at : TalkTold) → Goes 0 rule grown seat seat given given told told at at
    goes_none seat given told at = record {
      heard = [];
      asks = asks_none seat given told;
      all = refl;
      count = refl;
      taken = takes_none at.to_come;
      said = Tells-nil at.said;
    }

    -- the talk ended before any payload
    pub ends_at_once : (seat : S) (given : Option (List ℕ)) (told : LinkTold) (old new : TalkTold) (ended : TalkEnded)
        → Takes [] old.to_come new.to_come → TellsStill old.said new.said → (ended ≡ Closed → NoneToCome new.to_come)
        → ServesUpTo 1 rule grown seat seat given given told told old new ended
    ends_at_once seat given told old new ended taken still closed =
        let none = asks_none seat given told in
        record {
          asked = none.asked;
          asks = none.asks;
          talks = record {
            heard = [];
            unheard = [];
            answers = none.answers;
            taken = taken;
            few = omega arith;
            closed = λ e. inl (closed e);
            says = nothing_said ended old.said new.said still;
            cut = λ e. absurd (true≢false e);
          };
        }

  -- a payload was received, and then answered
  module _ (before after : S) (given now : Option (List ℕ)) (told more : LinkTold) (payload : List ℕ) (old mid new : TalkTold)
      (taken : Takes (payload ∷ []) old.to_come mid.to_come) (still : TellsStill old.said mid.said) (kept : TellsStill mid.to_come new.to_come) where
    all_taken : Takes (payload ∷ []) old.to_come new.to_come
    all_taken = Takes-still (payload ∷ []) old.to_come mid.to_come new.to_come taken kept

    turn_goes : Answers rule grown before after given now told more payload mid.said new.said None → Goes 1 rule grown before after given now told more old new
    turn_goes a = elim a.either [
      | inl one ↦ record {
        heard = a.heard;
        asks = a.asks;
        all = elim (cases_Bool a.asks.answers.is_whole) [
          | inl t ↦ t
          | inr f ↦ absurd (none_some (a.cut f).0)
        ];
        count = ap (λ v. length v) one;
        taken = subst (λ (v : List (List ℕ)). Takes v old.to_come new.to_come) (sym one) all_taken;
        said = SaysAll-behind _ old.said mid.said new.said still a.said;
      }
      | inr none ↦ absurd (none_some none.1)
    ]

    turn_ends : (ended : TalkEnded) → Answers rule grown before after given now told more payload mid.said new.said (Some ended)
        → ServesUpTo 1 rule grown before after given now told more old new ended
    turn_ends ended a =
        let open_still : ended ≡ Closed → NoneToCome new.to_come = λ e. absurd (turn_stays (Some ended) _ mid.said new.said a.said (ap Some e)) in
        let cut_here : a.asks.answers.is_whole ≡ false → (ended ≡ Memory) × SaysAllButLast (said_to a.heard a.asks.answers.replies) old.said new.said =
        λ f.
        let but = (a.cut f).1 in (
          some_same ended Memory (a.cut f).0,
          record { before = but.before; last = but.last; payloads_are = but.payloads_are; said = SaysAll-behind but.before old.said mid.said new.said still but.said },
        ) in
        elim a.either [
          | inl one ↦ record {
            asked = a.asks.asked;
            asks = a.asks.asks;
            talks = record {
              heard = a.heard;
              unheard = [];
              answers = a.asks.answers;
              taken = subst (λ (v : List (List ℕ)). Takes v old.to_come new.to_come) (sym (append-nil a.heard ∙ one)) all_taken;
              few = omega (arith, ap (λ (v : List (List ℕ)). length v) one);
              closed = λ e. inl (open_still e);
              says = heard_says ended _ old.said mid.said new.said still a.said;
              cut = cut_here;
            };
          }
          | inr none ↦ record {
            asked = a.asks.asked;
            asks = a.asks.asks;
            talks = record {
              heard = a.heard;
              unheard = payload ∷ [];
              answers = a.asks.answers;
              taken = subst (λ (v : List (List ℕ)). Takes (v ++ payload ∷ []) old.to_come new.to_come) (sym none.0) all_taken;
              few = omega (arith, ap (λ (v : List (List ℕ)). length v) none.0);
              closed = λ e. inl (open_still e);
              says = unheard_says ended payload _ old.said mid.said new.said (some_same ended Memory none.1)
                  (ap (λ (v : List (List ℕ)). said_to v a.asks.answers.replies) none.0) still a.said;
              cut = cut_here;
            };
          }
        ]

    pub turn_next : (result : Option TalkEnded) → Answers rule grown before after given now told more payload mid.said new.said result
        → MatchOption result (Goes 1 rule grown before after given now told more old new) (ServesUpTo 1 rule grown before after given now told more old new)
    turn_next None a = turn_goes a
    turn_next (Some ended) a = turn_ends ended a

  module _ (on : (before between after : S) (more then : List (Marked Event Outcome)) → grown before more between → grown between then after → grown before (more ++ then) after) where
    abbrev asks_on : (before between after : S) (g g' g'' : Option (List ℕ)) (t t' t'' : LinkTold) (xs ys : List (List ℕ))
        → (a : AsksPayloads rule grown before between g g' t t' xs) → a.answers.is_whole ≡ true → AsksPayloads rule grown between after g' g'' t' t'' ys
        → AsksPayloads rule grown before after g g'' t t'' (xs ++ ys)
    asks_on before between after g g' g'' t t' t'' xs ys a all b = record {
      asked = asked_on a.asked b.asked;
      asks = has_asked_on grown on before between after g g' g'' t t' t'' a.asked b.asked a.asks b.asks;
      answers = answered_as rule (payload_requests xs ++ payload_requests ys) (payload_requests (xs ++ ys)) (asked_on a.asked b.asked)
          (answered_on rule (payload_requests xs) (payload_requests ys) a.asked b.asked a.answers all b.answers) (sym (payload_requests-append xs ys));
    }

    said_on : (xs ys : List (List ℕ)) (before between : S) (g g' : Option (List ℕ)) (t t' : LinkTold) (a : AsksPayloads rule grown before between g g' t t' xs)
        (more : List _) → said_to xs a.answers.replies ++ said_to ys more ≡ said_to (xs ++ ys) (a.answers.replies ++ more)
    said_on xs ys before between g g' t t' a more =
        sym (said_to-append xs ys a.answers.replies more (answered_length rule (payload_requests xs) a.asked a.answers))

    pub Goes-then : (made : ℕ) (before between after : S) (g g' g'' : Option (List ℕ)) (t t' t'' : LinkTold) (a b c : TalkTold)
        → Goes made rule grown before between g g' t t' a b → Goes 1 rule grown between after g' g'' t' t'' b c → Goes (made + 1) rule grown before after g g'' t t'' a c
    Goes-then made before between after g g' g'' t t' t'' a b c p q = record {
      heard = p.heard ++ q.heard;
      asks = asks_on before between after g g' g'' t t' t'' p.heard q.heard p.asks p.all q.asks;
      all = q.all;
      count = length-append p.heard q.heard ∙ (λ i. p.count i + q.count i);
      taken = Takes-append p.heard q.heard a.to_come b.to_come c.to_come p.taken q.taken;
      said = subst (λ (v : List (List ℕ)). SaysAll v a.said c.said) (said_on p.heard q.heard before between g g' t t' p.asks q.asks.answers.replies)
          (Tells-append _ _ a.said b.said c.said p.said q.said);
    }

    pub Serves-then : (made : ℕ) (before between after : S) (g g' g'' : Option (List ℕ)) (t t' t'' : LinkTold) (a b c : TalkTold) (ended : TalkEnded) → made < most_payloads
        → Goes made rule grown before between g g' t t' a b → ServesUpTo 1 rule grown between after g' g'' t' t'' b c ended → (ended ≡ Closed → NoneToCome c.to_come)
        → ServesUpTo most_payloads rule grown before after g g'' t t'' a c ended
    Serves-then made before between after g g' g'' t t' t'' a b c ended few p q closed =
        let last : AsksPayloads rule grown between after g' g'' t' t'' q.talks.heard = record { asked = q.asked; asks = q.asks; answers = q.talks.answers } in
        let both = asks_on before between after g g' g'' t t' t'' p.heard q.talks.heard p.asks p.all last in
        let joined = said_on p.heard q.talks.heard before between g g' t t' p.asks q.talks.answers.replies in
        record {
          asked = both.asked;
          asks = both.asks;
          talks = record {
            heard = p.heard ++ q.talks.heard;
            unheard = q.talks.unheard;
            answers = both.answers;
            taken = subst (λ (v : List (List ℕ)). Takes v a.to_come c.to_come) (sym (append_assoc p.heard q.talks.heard q.talks.unheard))
                (Takes-append p.heard (q.talks.heard ++ q.talks.unheard) a.to_come b.to_come c.to_come p.taken q.talks.taken);
            few = omega (arith, length-append p.heard q.talks.heard, p.count, q.talks.few, few);
            closed = λ e. inl (closed e);
            says = subst (λ (v : List (List ℕ)). Says ended v q.talks.unheard a.said c.said) joined
                (Says-then ended _ _ q.talks.unheard a.said b.said c.said p.said q.talks.says);
            cut = λ e. (
              (q.talks.cut e).0,
              subst (λ (v : List (List ℕ)). SaysAllButLast v a.said c.said) joined (SaysAllButLast-then _ _ a.said b.said c.said p.said (q.talks.cut e).1),
            );
          };
        }

  -- as many payloads were answered as may be
  pub Goes-ends : (made : ℕ) (before after : S) (g g' : Option (List ℕ)) (t t' : LinkTold) (a b : TalkTold) → made ≡ most_payloads
      → Goes made rule grown before after g g' t t' a b → ServesUpTo most_payloads rule grown before after g g' t t' a b Closed
  Goes-ends made before after g g' t t' a b all p = record {
    asked = p.asks.asked;
    asks = p.asks.asks;
    talks = record {
      heard = p.heard;
      unheard = [];
      answers = p.asks.answers;
      taken = subst (λ (v : List (List ℕ)). Takes v a.to_come b.to_come) (sym (append-nil p.heard)) p.taken;
      few = omega (arith, p.count, all);
      closed = λ e. inr (p.count ∙ all);
      says = (refl, p.said);
      cut = λ e. absurd (true≢false (sym p.all ∙ e));
    };
  }

-- where the talk didn't end, it goes on
pub next_goes : (G : Type 0) (E : TalkEnded → Type 0) (result : Option TalkEnded) → ((ended : TalkEnded) → result ≡ Some ended → ⊥) → MatchOption result G E → G
next_goes G E None on next = next
next_goes G E (Some ended) on next = absurd (on ended refl)
