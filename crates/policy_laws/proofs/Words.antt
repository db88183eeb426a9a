-- The library's words that several proofs of this crate use.
pub use Rattle.std.proofs.Common.{Bool, List, None, Option, Some, [], ap, append_assoc, arith, cond, false, filter, find, fold, inl, inr, is_some, length, length-append, map, min, option_map, pos, refl, subst, sym, true, ℕ, ◌&&◌, ◌++◌, ◌+◌, ◌<◌, ◌||◌, ◌∙◌, ◌∷◌, ◌≡◌, ◌≢◌, ◌≤◌}
pub use Rattle.std.specs.Int.{bit_at}
pub use Rattle.std.specs.Int.RustNames.{bit_and, bit_or}
pub use Rattle.std.specs.List.{AllByRecursion, AllZip, cons_option, filter_map, flat_map, list_all, list_any, starts_with}
pub use Rattle.std.specs.Option.{option_and_then, option_map_or, option_or}
pub use Rattle.std.specs.Ordering.{is_eq, is_lt}
pub use Rattle.std.specs.Prelude.{codes, nat_eq, nat_le, nat_lt, negsuc, unwrap_or, ℤ, ◌==◌}
