use Rattle.std.proofs.Common.{Ok, Err, subst, sym}
use Rattle.http_frames.specs.declared.fault.FrameFault.{FrameFault}
use Rattle.http_frames.specs.declared.frame.Next.{Next}
use Rattle.http_forwarding.proofs.AnswerLemmas.{GivesMore, GivesNone, none_first, none_second, whole_answer}
use Rattle.http_forwarding.proofs.answer.lone_frame.Goals as goal

pub returns-in-Ok-End : goal.returns-in-Ok-End
returns-in-Ok-End c =
    none_first _ _ _ _ _ _ c.new-answer.ensures c.in_ok-inbox.ensures.held c.in_ok-inbox.ensures.refused
    (subst (λ (n : Next). GivesNone (Ok n)) (sym c.in-Ok-End.field-0-is) tt) c.in-Ok-End.ensures.next

pub returns-in-Err-NoFrame : goal.returns-in-Err-NoFrame
returns-in-Err-NoFrame c =
    none_first _ _ _ _ _ _ c.new-answer.ensures c.in_ok-inbox.ensures.held c.in_ok-inbox.ensures.refused
    (subst (λ (n : FrameFault). GivesNone (Err n)) (sym c.in-Err-NoFrame.field-0-is) tt) c.in-Err-NoFrame.ensures.next

pub returns-in-Ok-End-next_reply : goal.returns-in-Ok-End-next_reply
returns-in-Ok-End-next_reply c =
    whole_answer _ _ _ _ _ _ _ _ _ _ c.new-answer.ensures c.in_ok-inbox.ensures.held
    c.in-Ok-Message.field-0-is c.in-Ok-End-next_reply.field-0-is
    c.in-Ok-Message.ensures.next c.in-Ok-End-next_reply.ensures.next

pub returns-in-Ok-Message-next_reply : goal.returns-in-Ok-Message-next_reply
returns-in-Ok-Message-next_reply c =
    none_second _ _ _ _ _ _ _ _ _ _ c.new-answer.ensures c.in_ok-inbox.ensures.held c.in_ok-inbox.ensures.refused
    c.in-Ok-Message.field-0-is c.in-Ok-Message.ensures.next
    (subst (λ (n : Next). GivesMore (Ok n)) (sym c.in-Ok-Message-next_reply.field-0-is) tt) c.in-Ok-Message-next_reply.ensures.next

pub returns-in-Err-NoFrame-next_reply : goal.returns-in-Err-NoFrame-next_reply
returns-in-Err-NoFrame-next_reply c =
    none_second _ _ _ _ _ _ _ _ _ _ c.new-answer.ensures c.in_ok-inbox.ensures.held c.in_ok-inbox.ensures.refused
    c.in-Ok-Message.field-0-is c.in-Ok-Message.ensures.next
    (subst (λ (n : FrameFault). GivesMore (Err n)) (sym c.in-Err-NoFrame-next_reply.field-0-is) tt) c.in-Err-NoFrame-next_reply.ensures.next
