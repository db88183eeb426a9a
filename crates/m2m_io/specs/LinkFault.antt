-- What is said of an exchange that gave no answer.
use Rattle.std.specs.Prelude.{ℕ, List, codes}
use Rattle.m2m_io.specs.declared.fault.LinkFault.{LinkFault}
use Rattle.m2m_io.specs.declared.fault.LinkFault.TheVariants.{Failed, OutOfMemory}

-- the text of the fault
abbrev pub link_fault_text : LinkFault → List ℕ
link_fault_text Failed = codes "the link failed"
link_fault_text OutOfMemory = codes "no memory for the exchange"
