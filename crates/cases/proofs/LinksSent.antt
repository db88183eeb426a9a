-- The link of a case goes from thread to thread.
use denote.Param.Send.{IsSend, sendable}
use denote.Param.SendFields.{declared_send}
use Rattle.std.proofs.Crossing.{crosses}
use Rattle.m2m_io.specs.contracts.link.MemLink as answers
use Rattle.cases.specs.contracts.link.CaseLink as link

answers_send : IsSend answers.the_row
answers_send = search (sendable, crosses) depth 60 fits 5000

pub link_send : IsSend link.the_row
link_send = declared_send link.the_type (answers_send, (search (sendable, crosses) depth 20, tt))
