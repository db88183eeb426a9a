-- What is carried over a link.
use Rattle.std.proofs.Common.{◌≡◌, ℕ, List, [], ◌∷◌, ◌++◌, Option, None, Some, Result, Ok, Err, IfOk, IsErrOf, IsNone, refl, sym, ap, subst, ◌∙◌, true, false, arith}
use Rattle.std.proofs.lemmas.Bool.{false≢true}
use Rattle.std.proofs.lemmas.List.{append-nil}
use Rattle.m2m_io.specs.Counts.{CountsFault}
use Rattle.m2m_io.specs.Link.{Exchange, TellsAnswer, TellsExchange}
use Rattle.m2m_io.specs.Told.{Tells}
use Rattle.m2m_io.specs.declared.fault.LinkFault.{LinkFault}
use Rattle.m2m_io.specs.declared.fault.LinkFault.TheVariants.{Failed, OutOfMemory}
use Rattle.primitive_json.specs.declared.request.RequestParts.{RequestParts}
use Rattle.primitive_json.specs.declared.reply.ReplyParts.{ReplyParts}
use Rattle.http_client_binding.specs.Asking.{request_text}
use Rattle.http_client_binding.specs.TargetWriting.{host_of}
use Rattle.http_client_binding.specs.declared.target.Aim.{Aim}
use Rattle.http_forwarding.specs.Answers.{CarriedBy}
use Rattle.http_forwarding.specs.Carries.{LinkTold}
use Rattle.http_forwarding.specs.Sending.{CarriesOne, GivesAnswer, GivesCarried}

-- nothing more is told
tells_nothing : (told : Option (List Exchange)) → Tells (λ list. list ++ []) told told
tells_nothing None = tt
tells_nothing (Some list) = sym (append-nil list)

-- memory ran out before the exchange
pub nothing_sent : (request : RequestParts) (url : List ℕ) (aim : Aim) (told : LinkTold)
    → CarriesOne request url aim told told (λ carrying. carrying.starved ≡ true)
nothing_sent request url aim told = record {
  carrying = record { made = None; starved = true };
  made = tt;
  link = record {
    told = tells_nothing told.exchanges;
    count = omega arith;
    cause = λ e. absurd (false≢true e);
    steady = λ e. refl;
  };
  came = refl;
}

-- what is told no more tells nothing
told_no_more : (f : List Exchange → List Exchange) (before now : Option (List Exchange)) → IsNone now → Tells f before now
told_no_more f before None none = tt
told_no_more f None (Some new) none = absurd (false≢true (sym none))
told_no_more f (Some told) (Some new) none = absurd (false≢true (sym none))

-- one exchange is told as the host and the bytes say
told_so : (before now : Option (List Exchange)) (host url bytes text : List ℕ) (answer : Option (List ℕ))
    → host ≡ url → bytes ≡ text → TellsExchange before now (record { host = host; request = bytes; answer = answer })
    → TellsExchange before now (record { host = url; request = text; answer = answer })
told_so before None host url bytes text answer same equal tells = tt
told_so None (Some new) host url bytes text answer same equal tells = tells
told_so (Some told) (Some new) host url bytes text answer same equal tells =
    tells ∙ (λ i. told ++ record { host = same i; request = equal i; answer = answer } ∷ [])

-- an exchange that was answered
pub answered : {T S : Type 0} (read : T → List ℕ) (value : T) (done : S) (request : RequestParts) (url : List ℕ) (aim : Aim)
    (host bytes start : List ℕ) (before now : LinkTold)
    → host ≡ host_of url → bytes ≡ request_text request url aim → start ≡ []
    → TellsAnswer before.exchanges now.exchanges host bytes start (read value)
    → CountsFault {T = S} Failed (Ok done) before.faults now.faults
    → CarriesOne request url aim before now (GivesAnswer read (Ok value))
answered read value done request url aim host bytes start before now same equal nothing tells counts = record {
  carrying = record {
    made = Some (record { host = host_of url; request = request_text request url aim; answer = Some tells.0 });
    starved = false;
  };
  made = refl;
  link = record {
    told = told_so before.exchanges now.exchanges host (host_of url) bytes (request_text request url aim) (Some tells.0) same equal tells.2;
    count = counts.count;
    cause = λ e. absurd (false≢true e);
    steady = λ e. counts.steady (λ f. cc f);
  };
  came = (refl, ap (λ v. Some (Some v)) (sym (tells.1 ∙ ap (λ v. v ++ tells.0) nothing)));
}

-- an exchange that gave no answer
pub unanswered : {T S : Type 0} (read : T → List ℕ) (fault : LinkFault) (request : RequestParts) (url : List ℕ) (aim : Aim)
    (host bytes : List ℕ) (before now : LinkTold)
    → host ≡ host_of url → bytes ≡ request_text request url aim
    → (IsErrOf {T = S} (Err fault) Failed → TellsExchange before.exchanges now.exchanges (record { host = host; request = bytes; answer = None }))
    → (IsErrOf {T = S} (Err fault) OutOfMemory → IsNone now.exchanges)
    → CountsFault {T = S} Failed (Err fault) before.faults now.faults
    → CarriesOne request url aim before now (GivesAnswer read (Err fault))
unanswered read Failed request url aim host bytes before now same equal fails memory counts = record {
  carrying = record {
    made = Some (record { host = host_of url; request = request_text request url aim; answer = None });
    starved = false;
  };
  made = refl;
  link = record {
    told = told_so before.exchanges now.exchanges host (host_of url) bytes (request_text request url aim) None same equal (fails refl);
    count = counts.count;
    cause = λ e. counts.cause refl;
    steady = λ e. absurd (false≢true (sym e));
  };
  came = (refl, refl);
}
unanswered read OutOfMemory request url aim host bytes before now same equal fails memory counts = record {
  carrying = record { made = None; starved = true };
  made = tt;
  link = record {
    told = told_no_more _ before.exchanges now.exchanges (memory refl);
    count = counts.count;
    cause = λ e. absurd (false≢true e);
    steady = λ e. counts.steady (λ f. cc f);
  };
  came = refl;
}

-- the reply by an answer
pub replied : {T E : Type 0} (read : T → List ℕ) (answer : T) (id rqi : List ℕ) (result : Result ReplyParts E)
    (request : RequestParts) (url : List ℕ) (aim : Aim) (before now : LinkTold)
    → CarriesOne request url aim before now (GivesAnswer read (Ok answer)) → id ≡ rqi
    → IfOk result (λ reply. CarriedBy (read answer) id reply)
    → CarriesOne request url aim before now (GivesCarried rqi result)
replied read answer id rqi (Ok reply) request url aim before now sent is says = record {
  carrying = sent.carrying;
  made = sent.made;
  link = sent.link;
  came = (sent.came.0, (Some (read answer), sent.came.1, subst (λ (v : List ℕ). CarriedBy (read answer) v reply) is says));
}
replied read answer id rqi (Err e) request url aim before now sent is says = record {
  carrying = record sent.carrying { starved = true };
  made = sent.made;
  link = record {
    told = sent.link.told;
    count = sent.link.count;
    cause = sent.link.cause;
    steady = sent.link.steady;
  };
  came = refl;
}
