-- One request that is sent to the host of a URL.
use Rattle.std.specs.Prelude.{◌≡◌, ℕ, true, false, List, [], ◌∷◌, Option, Some, None, Result, Ok}
use Rattle.std.specs.Prelude.{Err, IfSome, option_map}
use Rattle.m2m_io.specs.Link.{Carrying, Exchange}
use Rattle.m2m_io.specs.declared.fault.LinkFault.{LinkFault}
use Rattle.m2m_io.specs.declared.fault.LinkFault.TheVariants.{Failed, OutOfMemory}
use Rattle.primitive_json.specs.declared.request.RequestParts.{RequestParts}
use Rattle.primitive_json.specs.declared.reply.ReplyParts.{ReplyParts}
use Rattle.http_client_binding.specs.Asking.{request_text}
use Rattle.http_client_binding.specs.TargetWriting.{host_of}
use Rattle.http_client_binding.specs.declared.target.Aim.{Aim}
use Rattle.http_client_binding.specs.declared.target.Aim.TheVariants.{Peer}
use Rattle.http_forwarding.specs.Answers.{Carried}
use Rattle.http_forwarding.specs.Carries.{Carries, LinkTold}

-- the exchange for a request to a URL: its host is asked, and this is answered, or it failed
abbrev pub exchange_for : RequestParts → List ℕ → Aim → Option (List ℕ) → Exchange
exchange_for request url aim answer = record {
  host = host_of url;
  request = request_text request url aim;
  answer = answer;
}

-- The exchange is one for the request, whatever was answered.
abbrev pub IsFor : RequestParts → List ℕ → Aim → Exchange → Type 0
IsFor request url aim exchange = exchange ≡ exchange_for request url aim exchange.answer

-- what came of the exchange, if it came to one: the bytes of the answer, or that it failed
abbrev pub answer_of : Carrying → Option (Option (List ℕ))
answer_of carrying = option_map (λ exchange. exchange.answer) carrying.made

-- One request was carried to a URL over a link that told `before` and tells `now`: by one exchange,
-- or by none where memory ran out before it; and this came of it.
pub record CarriesOne (request : RequestParts) (url : List ℕ) (aim : Aim) (before now : LinkTold)
    (gives : Carrying → Type 0) : Type 0 where
  pub carrying : Carrying
  pub made : IfSome carrying.made (IsFor request url aim)
  pub link : Carries (carrying ∷ []) before now
  pub came : gives carrying

-- The bytes of the answer; or that the exchange failed; or that memory ran out.
abbrev pub GivesAnswer : {T : Type 0} → (T → List ℕ) → Result T LinkFault → Carrying → Type 0
GivesAnswer bytes (Ok answer) carrying =
    (carrying.starved ≡ false) × (answer_of carrying ≡ Some (Some (bytes answer)))
GivesAnswer bytes (Err Failed) carrying =
    (carrying.starved ≡ false) × (answer_of carrying ≡ Some None)
GivesAnswer bytes (Err OutOfMemory) carrying = carrying.starved ≡ true

-- The reply that the answer gives; or that memory ran out.
abbrev pub GivesCarried : {E : Type 0} → List ℕ → Result ReplyParts E → Carrying → Type 0
GivesCarried rqi (Ok reply) carrying =
    (carrying.starved ≡ false)
    × ((answer : Option (List ℕ)) × (answer_of carrying ≡ Some answer) × Carried answer rqi reply)
GivesCarried rqi (Err e) carrying = carrying.starved ≡ true

-- A request was carried to the CSE at a URL, and this is its reply, unless memory ran out.
abbrev pub CarriesRequest :
    {E : Type 0} → RequestParts → List ℕ → LinkTold → LinkTold → Result ReplyParts E → Type 0
CarriesRequest request url before now result =
    CarriesOne request url Peer before now (GivesCarried request.rqi result)
