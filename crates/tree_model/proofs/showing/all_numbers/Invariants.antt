use Rattle.std.proofs.Common.{◌≡◌, ◌≤◌, length, take, map, vec_len, vec_capacity}
use Rattle.m2m_names.specs.Types.{all_types}
use Rattle.tree_model.specs.Shown.{shown_ty}
use Rattle.tree_model.proofs.showing.all_numbers.Given as goal

abbrev pub invariant-loop-ty : goal.invariant-loop-ty
invariant-loop-ty l = record {
  told : l.numbers.items ≡ map shown_ty (take l.ty-index l.ty-items);
  all : l.ty-items ≡ all_types;
  count : length l.ty-items ≡ 14;
  filled : vec_len l.numbers ≡ l.ty-index;
  room : 14 ≤ vec_capacity l.numbers;
}
