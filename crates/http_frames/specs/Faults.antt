-- What the faults print.
use Rattle.std.specs.Prelude.{ℕ, List, codes}
use Rattle.http_frames.specs.declared.fault.FrameFault.{FrameFault}
use Rattle.http_frames.specs.declared.fault.FrameFault.TheVariants as frame
use Rattle.http_frames.specs.declared.fault.PutFault.{PutFault}
use Rattle.http_frames.specs.declared.fault.PutFault.TheVariants as put

-- The words that tell why no frame was read.
abbrev pub frame_fault_text : FrameFault → List ℕ
frame_fault_text frame.NoFrame = codes "no message stands here"
frame_fault_text frame.ReadFault = codes "the source failed"
frame_fault_text frame.OutOfMemory = codes "no memory for the message"

-- The words that tell why a frame was not written, or not whole.
abbrev pub put_fault_text : PutFault → List ℕ
put_fault_text put.WriteFault = codes "the sink failed"
put_fault_text put.OutOfMemory = codes "no memory for the message"
