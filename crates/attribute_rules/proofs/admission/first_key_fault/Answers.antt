use Rattle.std.proofs.Common.{◌≡◌, ◌∷◌, Some, true, is_some, sym, ap, ◌∙◌, arith}
use Rattle.std.proofs.lemmas.Grind.{common_steps}
use Rattle.std.specs.List.{filter_map, find, cons_option}
use Rattle.std.specs.Option.{option_or}
use Rattle.std.specs.Vec.Iter.{into_iter_items}
use Rattle.m2m_value.specs.Data.{Entry}
use Rattle.m2m_value.proofs.Begins.{on_err}
use Rattle.attribute_rules.specs.Admission.{key_fault, is_unknown, is_not_allowed, is_wrong_kind, with_fault}
use Rattle.attribute_rules.specs.declared.faults.AttrFault.TheVariants.{Unknown}
use Rattle.attribute_rules.proofs.FaultLemmas.{of_key, adds_unknown, adds_not_allowed, adds_wrong, found_unknown, some_behind}
use Rattle.attribute_rules.proofs.admission.first_key_fault.Goals as goal

pub loop-entry-preserved : goal.loop-entry-preserved
loop-entry-preserved c =
    let l = c.loop-entry in
    let e : Entry = c.in-Some.entry in
    let rest = into_iter_items c.next.new.self in
    let step : into_iter_items l.entry-iterator ≡ e ∷ rest = grind (arith, common_steps) in
    let faults = filter_map (key_fault c.args.writing c.args.ty) rest in
    let now = key_fault c.args.writing c.args.ty e in
    let after : c.in_ok-firsts.firsts ≡ with_fault l.firsts now = c.in_ok-firsts.ensures.value in
    record {
      unknown =
          ap (λ firsts. option_or firsts.unknown (find is_unknown faults)) after
          ∙ adds_unknown l.firsts now faults
          ∙ ap (λ es. option_or l.firsts.unknown (find is_unknown (filter_map (key_fault c.args.writing c.args.ty) es))) (sym step) ∙ l.invariant.unknown;
      not_allowed =
          ap (λ firsts. option_or firsts.not_allowed (find is_not_allowed faults)) after
          ∙ adds_not_allowed l.firsts now faults
          ∙ ap (λ es. option_or l.firsts.not_allowed (find is_not_allowed (filter_map (key_fault c.args.writing c.args.ty) es))) (sym step) ∙ l.invariant.not_allowed;
      wrong =
          ap (λ firsts. option_or firsts.wrong (find is_wrong_kind faults)) after
          ∙ adds_wrong l.firsts now faults (of_key c.args.writing c.args.ty e)
          ∙ ap (λ es. option_or l.firsts.wrong (find is_wrong_kind (filter_map (key_fault c.args.writing c.args.ty) es))) (sym step) ∙ l.invariant.wrong;
    }

-- memory ran out for the name of a key that is unknown
pub returns-in_err-firsts-clause-memory : goal.returns-in_err-firsts-clause-memory
returns-in_err-firsts-clause-memory c =
    let l = c.loop-entry in
    let e : Entry = c.in-Some.entry in
    let rest = into_iter_items c.next.new.self in
    let step : into_iter_items l.entry-iterator ≡ e ∷ rest = grind (arith, common_steps) in
    let faults = filter_map (key_fault c.args.writing c.args.ty) rest in
    let unknown : key_fault c.args.writing c.args.ty e ≡ Some (Unknown e.0) = c.in_err-firsts.ensures.memory in
    let some : is_some (find is_unknown (filter_map (key_fault c.args.writing c.args.ty) c.args.members)) ≡ true =
    ap is_some (sym l.invariant.unknown)
    ∙ ap (λ es. is_some (option_or l.firsts.unknown (find is_unknown (filter_map (key_fault c.args.writing c.args.ty) es)))) step
    ∙ ap (λ o. is_some (option_or l.firsts.unknown (find is_unknown (cons_option o faults)))) unknown
    ∙ some_behind l.firsts.unknown (Unknown e.0) in
    on_err c.from_residual.result _ (found_unknown (filter_map (key_fault c.args.writing c.args.ty) c.args.members) _ some)
