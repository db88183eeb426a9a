-- What stands next on a connection, and what it says of the stream.
use Rattle.std.proofs.Common.{◌≡◌, ◌≢◌, ℕ, ◌<◌, Bool, true, false, List, [], ◌∷◌, ◌++◌, length, Option, Some, None, IfSome, inl, inr, refl, sym, ap, subst, ◌∙◌, arith, append_assoc, append-nil}
use Rattle.std.proofs.lemmas.Bool.{cases_Bool}
use Rattle.std.specs.Io.KnownBytes.{IsAtEnd}
use Rattle.http_frames.specs.declared.frame.Frame.{Frame}
use Rattle.http_frames.specs.declared.frame.Side.TheVariants.{Request}
use Rattle.http_frames.specs.Stream.{HasNoFrame}
use Rattle.http_frames.specs.Inbox.{stream_of, Reads, GivesFrame, HoldsNoFrame, most_held}
use Rattle.http_binding.specs.Replying.{reply_text}
use Rattle.primitive_json.specs.declared.reply.ReplyParts.{ReplyParts}
use Rattle.cse_server.specs.Closing.{closes}
use Rattle.cse_server.specs.Talk.{request_in, reply_for, reply_texts, some_closes}
use Rattle.cse_server.specs.Connection.{ReadsLittle}
use Rattle.cse_server.specs.Way.{Leads}

-- what was read is held, and the stream is as it was
pub kept_leads : (left rest : Option (List ℕ)) (held now : List ℕ) → Reads left rest held now → Leads (stream_of held left) [] (stream_of now rest)
kept_leads None rest held now r = tt
kept_leads (Some l) None held now r = absurd r.consumed
kept_leads (Some l) (Some m) held now r =
    ap (λ v. held ++ v) r.consumed ∙ sym (append_assoc held r.read m) ∙ ap (λ v. v ++ m) (sym r.held_is)

-- what was read is held, and was the front of the stream
pub reads_little : (left rest : Option (List ℕ)) (held now : List ℕ) → Reads left rest held now → length now < most_held Request → IfSome (stream_of held left) (λ bytes. IfSome rest (ReadsLittle bytes))
reads_little None rest held now r few = tt
reads_little (Some l) None held now r few = tt
reads_little (Some l) (Some m) held now r few = record { held = now; rest_is = kept_leads (Some l) (Some m) held now r; few = few }

-- a frame was given: it began the stream
pub given_leads : (left rest : Option (List ℕ)) (held now : List ℕ) (frame : Frame) → GivesFrame Request left rest held now frame → Leads (stream_of held left) (frame ∷ []) (stream_of now rest)
given_leads None rest held now frame g = tt
given_leads (Some l) None held now frame g = absurd g.reads.consumed
given_leads (Some l) (Some m) held now frame g =
    let whole : held ++ l ≡ g.begins.bytes ++ (now ++ m) =
    ap (λ v. held ++ v) g.reads.consumed ∙ sym (append_assoc held g.reads.read m) ∙ ap (λ v. v ++ m) (sym g.reads.held_is ∙ g.begins.stream_is)
    ∙ append_assoc g.begins.bytes now m in
    (now ++ m, record { bytes = g.begins.bytes; is_frame = g.begins.is_frame; stream_is = whole }, refl)

-- nothing is left
pub ended_empty : (left rest : Option (List ℕ)) (held now : List ℕ) → Reads left rest held now → now ≡ [] → IsAtEnd rest → IfSome (stream_of held left) (λ bytes. bytes ≡ [])
ended_empty None rest held now r none end = tt
ended_empty (Some l) None held now r none end = absurd r.consumed
ended_empty (Some l) (Some m) held now r none end =
    kept_leads (Some l) (Some m) held now r ∙ ap (λ v. v ++ m) none ∙ end

cons_nil : (x : ℕ) (xs : List ℕ) → x ∷ xs ≡ [] → ⊥
cons_nil x xs e = omega (arith, ap length e)

front_nil : (xs ys : List ℕ) → xs ++ ys ≡ [] → xs ≡ []
front_nil [] ys e = refl
front_nil (x ∷ xs) ys e = absurd (cons_nil x (xs ++ ys) e)

-- some bytes are left, and no frame stands at their front
pub refused_rightly : (left rest : Option (List ℕ)) (held now : List ℕ) → Reads left rest held now → HoldsNoFrame Request now rest → IfSome (stream_of held left) (λ bytes. (bytes ≢ []) × HasNoFrame Request bytes)
refused_rightly None rest held now r h = tt
refused_rightly (Some l) None held now r h = absurd r.consumed
refused_rightly (Some l) (Some m) held now r h =
    let same : held ++ l ≡ now ++ m = kept_leads (Some l) (Some m) held now r in
    (λ e. h.some (front_nil now m (sym same ∙ e)), subst (HasNoFrame Request) (sym same) h.none_left)

-- nothing was read yet
pub nothing_read : (left : Option (List ℕ)) → IfSome left (λ bytes. IfSome left (ReadsLittle bytes))
nothing_read None = tt
nothing_read (Some bytes) = record { held = []; rest_is = refl; few = omega arith }

-- what was read with a frame was little
pub given_little : (left rest : Option (List ℕ)) (held now : List ℕ) (frame : Frame) → GivesFrame Request left rest held now frame
    → length held < most_held Request → IfSome (stream_of held left) (λ bytes. IfSome rest (ReadsLittle bytes))
given_little left rest held now frame g few = reads_little left rest held g.all g.reads (g.few few)

-- the reply to one frame
pub reply_texts-one : (frame : Frame) (place : ℕ) (rs : List ReplyParts)
    → reply_texts (frame ∷ []) place rs ≡ reply_text (reply_for frame (request_in frame) rs) (closes place frame)
reply_texts-one frame place rs = elim (cases_Bool (closes place frame)) [
  | inl t ↦ rw t (append-nil _)
  | inr f ↦ rw f (append-nil _)
]

pub some_closes-one : (frame : Frame) (place : ℕ) (b : Bool) → closes place frame ≡ b → some_closes (frame ∷ []) place ≡ b
some_closes-one frame place true e = rw e refl
some_closes-one frame place false e = rw e refl
