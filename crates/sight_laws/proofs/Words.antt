-- The library's words that several proofs of this crate use.
pub use Rattle.std.proofs.Common.{Bool, Err, List, None, Ok, Option, Result, Some, [], ap, ap₂, arith, bytes_eq, cond, false, filter, fold, inl, inr, is_some, length, map, not, option_map, pos, refl, reverse, subst, suc, sym, take, true, ℕ, ◌&&◌, ◌++◌, ◌-◌, ◌<◌, ◌||◌, ◌∙◌, ◌∷◌, ◌≡◌}
pub use Rattle.std.specs.List.{cons_option, filter_map, flat_map, list_all, list_any}
pub use Rattle.std.specs.Option.{option_and_then, option_map_or, option_or}
pub use Rattle.std.specs.Ordering.{int_eq, is_lt}
pub use Rattle.std.specs.Prelude.{codes, find, nat_eq, nat_le, nat_lt, option_to_list, slice_get, unwrap_or, ℤ, ◌+◌, ◌==◌}
