-- What is said of a file that could not be read.
use Rattle.std.specs.Prelude.{ℕ, List, codes}
use Rattle.kept_file.specs.declared.fault.FileFault.{FileFault}
use Rattle.kept_file.specs.declared.fault.FileFault.TheVariants.{Failed, OutOfMemory}

-- the text of the fault
abbrev pub file_fault_text : FileFault → List ℕ
file_fault_text Failed = codes "the file failed"
file_fault_text OutOfMemory = codes "no memory for the file"
