-- The request that a frame binds to.
use Rattle.std.proofs.Common.{◌≡◌, ◌⊎◌, ℕ, List, [], ◌∷◌, Option, Some, None, Result, Ok, Err, inl, inr, refl, ap, subst}
use Rattle.std.specs.List.{cons_option}
use Rattle.std.specs.Option.{option_map, unwrap_or}
use Rattle.std.specs.Result.{result_ok}
use Rattle.primitive_json.specs.declared.reply.ReplyParts.{ReplyParts}
use Rattle.primitive_json.specs.declared.request.RequestParts.{RequestParts}
use Rattle.http_frames.specs.declared.frame.Frame.{Frame}
use Rattle.http_target.specs.declared.fault.BindFault.{BindFault}
use Rattle.http_target.specs.declared.fault.BindFault.TheVariants.{OutOfMemory}
use Rattle.http_binding.specs.Binding.{binding}
use Rattle.cse_server.specs.Talk.{request_in, requests_in, reply_for}

abbrev IsNone : Option RequestParts → Type 0
IsNone None = Unit {0}
IsNone (Some r) = ⊥

bound_ok : (b : Result RequestParts BindFault) (request : RequestParts) → result_ok b ≡ Some request → b ≡ Ok request
bound_ok (Ok r) request e = ap Ok (ap (λ (o : Option RequestParts). unwrap_or o r) e)
bound_ok (Err fault) request e = absurd (subst IsNone e tt)

-- the frame binds to the request that is in it
pub binds : (frame : Frame) (request : RequestParts) → request_in frame ≡ Some request → binding frame ≡ Ok request
binds frame request e = bound_ok (binding frame) request e

-- where it has a fault, and memory didn't run out, it binds to none
pub unbound : (frame : Frame) (fault : BindFault) → (fault ≡ OutOfMemory → ⊥) → (fault ≡ OutOfMemory) ⊎ (binding frame ≡ Err fault) → request_in frame ≡ None
unbound frame fault none (inl memory) = absurd (none memory)
unbound frame fault none (inr told) = ap result_ok told

-- a value is found where it is one that is known
pub no_id : {B : Type 0} (now : B → List ℕ) (found : Option B) (id : List ℕ) → option_map now found ≡ Some id
    → ((b : B) → found ≡ Some b → ⊥) → ⊥
no_id now None id some none = cc
no_id now (Some b) id some none = none b refl

-- it is the one request of the frame
pub requests_in-one : (frame : Frame) (request : RequestParts) → request_in frame ≡ Some request → requests_in (frame ∷ []) ≡ request ∷ []
requests_in-one frame request e = ap (λ (o : Option RequestParts). cons_option o []) e

-- a frame that binds to none has no request
pub requests_in-none : (frame : Frame) → request_in frame ≡ None → requests_in (frame ∷ []) ≡ []
requests_in-none frame e = ap (λ (o : Option RequestParts). cons_option o []) e

-- and the first of the replies answers the frame
pub reply_for-one : (frame : Frame) (request : RequestParts) (reply : ReplyParts) → request_in frame ≡ Some request
    → reply_for frame (request_in frame) (reply ∷ []) ≡ reply
reply_for-one frame request reply e = ap (λ (o : Option RequestParts). reply_for frame o (reply ∷ [])) e
