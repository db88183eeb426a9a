-- The one message that the bytes of an answer are.
use Rattle.std.proofs.Common.{◌≡◌, ℕ, List, [], ◌∷◌, ◌++◌, Option, None, Some, Result, Ok, Err, IfOk, refl, sym, ap, subst, ◌∙◌, false, arith, inl, inr}
use Rattle.std.proofs.lemmas.List.{append-nil}
use Rattle.std.specs.Bool.{⊤}
use Rattle.std.specs.Result.{result_unwrap_or}
use Rattle.http_frames.specs.declared.frame.Side.TheVariants.{Reply}
use Rattle.http_frames.specs.declared.frame.Frame.{Frame}
use Rattle.http_frames.specs.declared.frame.Next.{Next}
use Rattle.http_frames.specs.declared.frame.Next.TheVariants.{Message, End}
use Rattle.http_frames.specs.declared.fault.FrameFault.{FrameFault}
use Rattle.http_frames.specs.declared.fault.FrameFault.TheVariants.{NoFrame, ReadFault, OutOfMemory}
use Rattle.http_frames.specs.Frame.{IsFrame}
use Rattle.http_frames.specs.Stream.{HasNoFrame, Frames}
use Rattle.http_frames.specs.Inbox.{AnswersNext, Intake, TakesNext}
use Rattle.http_frames.proofs.FrameLemmas.{IsFrame_unique}
use Rattle.http_frames.proofs.InboxLemmas.{none_within}
use Rattle.http_frames.proofs.LookLemmas.{some_bytes}
use Rattle.http_frames.proofs.TextLemmas.{written_is_read}
use Rattle.http_binding.specs.Replying.{reply_frame}
use Rattle.http_client_binding.proofs.SaidLemmas.{reply_said}
use Rattle.http_client_binding.specs.ReplyReading.{reply_in}
use Rattle.primitive_json.specs.declared.reply.ReplyParts.{ReplyParts}
use Rattle.http_forwarding.specs.Answers.{AnswerGivesOneReply, CarriedBy, IsLoneFrame, ReadsAnswer, SaysIn, SaysReply, WhatIsToldIsCarried, handed_on}

-- nothing stands before nothing
before_nothing : (xs ys : List ℕ) → xs ++ ys ≡ [] → (xs ≡ []) × (ys ≡ [])
before_nothing [] ys e = (refl, e)
before_nothing (x ∷ xs) ys e = cc

nothing_begins : HasNoFrame Reply []
nothing_begins = none_within Reply [] 1 (some_bytes Reply []) (omega arith)

-- the frames of an answer that is one message
lone_frames : (answer : List ℕ) (frame : Frame) → IsFrame Reply answer frame → Frames Reply answer (frame ∷ []) []
lone_frames answer frame is =
    (([], record { bytes = answer; is_frame = is; stream_is = sym (append-nil answer) }, refl), nothing_begins)

-- the next call for a message gives none, and is at its end or refused
abbrev pub GivesNone : Result Next FrameFault → Type 0
GivesNone (Ok (Message frame)) = ⊥
GivesNone (Ok End) = ⊤
GivesNone (Err NoFrame) = ⊤
GivesNone (Err ReadFault) = ⊥
GivesNone (Err OutOfMemory) = ⊥

none_of_one : (result : Result Next FrameFault) (frame : Frame) (stream : Option (List ℕ)) → GivesNone result
    → AnswersNext Reply result (frame ∷ []) [] stream → ⊥
none_of_one (Ok (Message other)) frame stream none a = absurd none
none_of_one (Ok End) frame stream none a = let e = a.0 in cc e
none_of_one (Err NoFrame) frame stream none a = let e = a.0 in cc e
none_of_one (Err ReadFault) frame stream none a = absurd none
none_of_one (Err OutOfMemory) frame stream none a = absurd none

-- where the first call gives no message, the answer is none
pub none_first : (answer bytes : List ℕ) (left : Option (List ℕ)) (old new : Intake) (result : Result Next FrameFault)
    → answer ≡ bytes → old.held ≡ [] → old.refused ≡ false → GivesNone result
    → TakesNext Reply (Some answer) left old new result → (frame : Frame) → IsFrame Reply bytes frame → ⊥
none_first answer bytes left old new result is nothing fresh none takes frame f =
    let frames = lone_frames answer frame (subst (λ (v : List ℕ). IsFrame Reply v frame) (sym is) f) in
    let whole = subst (λ (v : List ℕ). Frames Reply (v ++ answer) (frame ∷ []) []) (sym nothing) frames in
    none_of_one result frame _ none (takes.frames fresh (frame ∷ []) [] whole)

-- the next call for a message gives another one, or is refused
abbrev pub GivesMore : Result Next FrameFault → Type 0
GivesMore (Ok (Message frame)) = ⊤
GivesMore (Ok End) = ⊥
GivesMore (Err NoFrame) = ⊤
GivesMore (Err ReadFault) = ⊥
GivesMore (Err OutOfMemory) = ⊥

more_of_none : (result : Result Next FrameFault) (stream : Option (List ℕ)) → GivesMore result
    → AnswersNext Reply result [] [] stream → ⊥
more_of_none (Ok (Message other)) stream more a = let e = a.1 in cc e
more_of_none (Ok End) stream more a = absurd more
more_of_none (Err NoFrame) stream more a = a.1 refl
more_of_none (Err ReadFault) stream more a = absurd more
more_of_none (Err OutOfMemory) stream more a = absurd more

behind_one : (f g : Frame) (later : List Frame) → f ∷ [] ≡ g ∷ later → later ≡ []
behind_one f g [] e = refl
behind_one f g (h ∷ later) e = cc e

-- where something follows the first message, the answer is none
pub none_second : (answer bytes mid : List ℕ) (left : Option (List ℕ)) (old between new : Intake) (next : Next) (first : Frame)
    (result : Result Next FrameFault)
    → answer ≡ bytes → old.held ≡ [] → old.refused ≡ false → next ≡ Message first
    → TakesNext Reply (Some answer) (Some mid) old between (Ok next) → GivesMore result
    → TakesNext Reply (Some mid) left between new result → (frame : Frame) → IsFrame Reply bytes frame → ⊥
none_second answer bytes mid left old between new next first result is nothing fresh one taken more then frame f =
    let takes = subst (λ (n : Next). TakesNext Reply (Some answer) (Some mid) old between (Ok n)) one taken in
    let frames = lone_frames answer frame (subst (λ (v : List ℕ). IsFrame Reply v frame) (sym is) f) in
    let whole = subst (λ (v : List ℕ). Frames Reply (v ++ answer) (frame ∷ []) []) (sym nothing) frames in
    let told = takes.frames fresh (frame ∷ []) [] whole in
    let later = subst (λ (v : List Frame). Frames Reply (between.held ++ mid) v []) (behind_one frame first told.0 told.1) told.2 in
    more_of_none result _ more (then.frames takes.refused [] [] later)

-- a message behind which nothing came is all that there was
pub whole_answer : (answer bytes mid rest : List ℕ) (old between new : Intake) (next last : Next) (frame : Frame)
    → answer ≡ bytes → old.held ≡ [] → next ≡ Message frame → last ≡ End
    → TakesNext Reply (Some answer) (Some mid) old between (Ok next)
    → TakesNext Reply (Some mid) (Some rest) between new (Ok last)
    → IsFrame Reply bytes frame
whole_answer answer bytes mid rest old between new next last frame is nothing one over taken ended =
    let takes = subst (λ (n : Next). TakesNext Reply (Some answer) (Some mid) old between (Ok n)) one taken in
    let ends = subst (λ (n : Next). TakesNext Reply (Some mid) (Some rest) between new (Ok n)) over ended in
    let given = takes.message in
    let read = ends.kept in
    let done = ends.end refl in
    let none = before_nothing between.held read.read (sym read.held_is ∙ done.0) in
    let after : mid ≡ [] = read.consumed ∙ (λ i. none.1 i ++ done.1 i) in
    let first : given.all ≡ given.reads.read =
    given.reads.held_is ∙ ap (λ v. v ++ given.reads.read) nothing in
    let front : given.all ≡ given.begins.bytes =
    given.begins.stream_is ∙ ap (λ v. given.begins.bytes ++ v) none.0 ∙ append-nil given.begins.bytes in
    let whole : bytes ≡ given.begins.bytes =
    sym is ∙ given.reads.consumed ∙ ap (λ v. given.reads.read ++ v) after ∙ append-nil given.reads.read
    ∙ sym first ∙ front in
    subst (λ (v : List ℕ). IsFrame Reply v frame) (sym whole) given.begins.is_frame

-- ---- what a message says

said_by : (bytes : List ℕ) (frame : Frame) (reply : Option ReplyParts)
    → IsFrame Reply bytes frame → SaysIn frame reply → ReadsAnswer bytes reply
said_by bytes frame (Some reply) is says = record { frame = frame; is_frame = is; says = says }
said_by bytes frame None is says = λ reply r.
    let same = IsFrame_unique Reply bytes bytes frame r.frame [] [] is r.is_frame refl in
    says reply (ap reply_in same.1 ∙ r.says)

pub said_of : {E : Type 0} (bytes : List ℕ) (frame : Frame) (found : Option Frame) (result : Result (Option ReplyParts) E)
    → found ≡ Some frame → IsLoneFrame bytes found → IfOk result (SaysIn frame) → IfOk result (ReadsAnswer bytes)
said_of bytes frame found (Ok reply) is lone says =
    said_by bytes frame reply (subst (λ (f : Option Frame). IsLoneFrame bytes f) is lone) says
said_of bytes frame found (Err e) is lone says = tt

pub said_by_none : (bytes : List ℕ) (found : Option Frame) → found ≡ None → IsLoneFrame bytes found → ReadsAnswer bytes None
said_by_none bytes found is lone = λ reply s.
    let none = subst (λ (f : Option Frame). IsLoneFrame bytes f) is lone in
    none s.frame s.is_frame

-- the bytes of an answer say one reply
says_one : (answer : List ℕ) (reply other : ReplyParts) → SaysReply answer reply → SaysReply answer other → reply ≡ other
says_one answer reply other a b =
    let same = IsFrame_unique Reply answer answer a.frame b.frame [] [] a.is_frame b.is_frame refl in
    let told : Ok reply ≡ Ok other = sym a.says ∙ ap reply_in same.1 ∙ b.says in
    ap (λ r. result_unwrap_or r reply) told

carried_once : (answer rqi : List ℕ) (reply other : ReplyParts) → CarriedBy answer rqi reply → CarriedBy answer rqi other → reply ≡ other
carried_once answer rqi reply other (inl a) (inl b) =
    a.2 ∙ ap (handed_on rqi) (says_one answer a.0 b.0 a.1 b.1) ∙ sym b.2
carried_once answer rqi reply other (inl a) (inr b) = absurd (b.0 a.0 a.1)
carried_once answer rqi reply other (inr a) (inl b) = absurd (a.0 b.0 b.1)
carried_once answer rqi reply other (inr a) (inr b) = a.1 ∙ sym b.1

pub one_reply : AnswerGivesOneReply
one_reply None rqi reply other a b = a ∙ sym b
one_reply (Some answer) rqi reply other a b = carried_once answer rqi reply other a b

pub told_is_carried : WhatIsToldIsCarried
told_is_carried told close rqi kinds sound = inl (
  told,
  record {
    frame = reply_frame told close;
    is_frame = written_is_read Reply (reply_frame told close) sound;
    says = reply_said told close kinds;
  },
  refl,
)
