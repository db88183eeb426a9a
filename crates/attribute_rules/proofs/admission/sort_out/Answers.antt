use Rattle.std.proofs.Common.{◌≡◌, Some, None, is_none, sym, ap, ◌∙◌}
use Rattle.std.proofs.lemmas.Bool.{both_ways}
use Rattle.std.proofs.lemmas.Result.{err_from_is_err_and}
use Rattle.attribute_rules.specs.Admission.{are_admitted, fault_in}
use Rattle.attribute_rules.proofs.FaultLemmas.{members_faultless, sorted_none, fault_told, memory_told}
use Rattle.attribute_rules.proofs.admission.sort_out.Goals as goal

pub returns-then-are_admitted-clause-admitted : goal.returns-then-are_admitted-clause-admitted
returns-then-are_admitted-clause-admitted c =
    sorted_none c.args.writing c.args.ty c.args.content c.in-Some.members (sym c.in-Some.ensures) (sym c.if-are_admitted.ensures)

pub unreachable-requires : goal.unreachable-requires
unreachable-requires c =
    let none : fault_in c.args.writing c.args.ty c.in-Some.members ≡ None = cc (c.in_ok-fault.ensures.value) in
    both_ways (are_admitted c.args.writing c.args.ty c.in-Some.members) (sym c.if-are_admitted.ensures)
    (members_faultless c.args.writing c.args.ty c.in-Some.members ∙ ap is_none none)

pub returns-clause-refused : goal.returns-clause-refused
returns-clause-refused c =
    let is : fault_in c.args.writing c.args.ty c.in-Some.members ≡ Some c.in-Some-2.fault = cc (c.in_ok-fault.ensures.value) in
    fault_told c.args.writing c.args.ty c.args.content c.in-Some.members c.in-Some-2.fault (sym c.in-Some.ensures) is

-- memory ran out for the name of an unknown attribute
pub returns-in_err-fault-clause-refused : goal.returns-in_err-fault-clause-refused
returns-in_err-fault-clause-refused c =
    let p = err_from_is_err_and c.from_residual.result c.from_residual.ensures.1 in
    rw (p.1, p.2) (memory_told c.args.writing c.args.ty c.args.content c.in-Some.members (sym c.in-Some.ensures) c.in_err-fault.ensures.memory)
