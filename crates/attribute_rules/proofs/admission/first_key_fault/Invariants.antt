use Rattle.std.proofs.Common.{◌≡◌}
use Rattle.std.specs.List.{filter_map, find}
use Rattle.std.specs.Option.{option_or}
use Rattle.std.specs.Vec.Iter.{into_iter_items}
use Rattle.attribute_rules.specs.Admission.{key_fault, is_unknown, is_not_allowed, is_wrong_kind}
use Rattle.attribute_rules.proofs.admission.first_key_fault.Given as goal

-- of each kind of fault, the first so far, or else the first of the rest, is the first of all
abbrev pub invariant-loop-entry : goal.invariant-loop-entry
invariant-loop-entry l = record {
  unknown : option_or l.firsts.unknown (find is_unknown (filter_map (key_fault l.writing l.ty) (into_iter_items l.entry-iterator))) ≡ find is_unknown (filter_map (key_fault l.writing l.ty) l.fn.members);
  not_allowed : option_or l.firsts.not_allowed (find is_not_allowed (filter_map (key_fault l.writing l.ty) (into_iter_items l.entry-iterator))) ≡ find is_not_allowed (filter_map (key_fault l.writing l.ty) l.fn.members);
  wrong : option_or l.firsts.wrong (find is_wrong_kind (filter_map (key_fault l.writing l.ty) (into_iter_items l.entry-iterator))) ≡ find is_wrong_kind (filter_map (key_fault l.writing l.ty) l.fn.members);
}
