-- The parts of a request, read one after another.
use Rattle.std.specs.Prelude.{◌≡◌, ◌⊎◌, Result, Ok, Err}
use Rattle.http_target.specs.declared.fault.BindFault.{BindFault}
use Rattle.http_target.specs.declared.fault.BindFault.TheVariants as bind

-- what is read next, of the value of a part; the fault of a part ends the reading
abbrev pub and_then :
    {T U : Type 0} → Result T BindFault → (T → Result U BindFault) → Result U BindFault
and_then (Ok value) next = next value
and_then (Err fault) next = Err fault

-- What is answered is what is told, seen so, unless memory ran out.
abbrev pub ReadsAs : {T U : Type 0} → (T → U) → Result T BindFault → Result U BindFault → Type 0
ReadsAs view (Ok value) told = told ≡ Ok (view value)
ReadsAs view (Err fault) told = (fault ≡ bind.OutOfMemory) ⊎ (told ≡ Err fault)
