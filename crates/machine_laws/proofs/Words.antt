-- The library's words that several proofs of this crate use.
pub use Rattle.std.proofs.Common.{Bool, Err, List, None, Ok, Option, Result, Some, [], ap, append_assoc, ap₂, arith, cond, false, filter, find, inl, inr, is_some, length, length-append, map, not, option_map, refl, subst, sym, take, true, ℕ, ◌&&◌, ◌++◌, ◌+◌, ◌-◌, ◌||◌, ◌∙◌, ◌∷◌, ◌≡◌, ◌≤◌, ◌⊎◌}
pub use Rattle.std.specs.List.{All, AllByRecursion, cons_option, filter_map, list_all, list_any, starts_with}
pub use Rattle.std.specs.Option.{option_and_then, option_map_or}
pub use Rattle.std.specs.Prelude.{codes, nat_eq, nat_lt, ◌==◌}
