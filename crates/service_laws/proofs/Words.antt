-- The library's words that several proofs of this crate use.
pub use Rattle.std.proofs.Common.{Bool, Err, IfSome, IsTrue, List, None, Ok, Option, Result, Some, [], ap, append-nil, arith, codes, cond, drop, false, if◌then◌else◌, inl, inr, is_some, length, map, nat_eq, nat_lt, refl, subst, sym, true, ℕ, ◌++◌, ◌+◌, ◌∙◌, ◌∷◌, ◌≡◌, ◌≢◌, ◌≤◌, ◌⊎◌}
pub use Rattle.std.specs.List.{All, AllByRecursion, after_first, before_first, cons_option, list_all, list_any, position_or_len, starts_with}
pub use Rattle.std.specs.Option.{option_and_then, option_map, option_map_or, option_to_list}
pub use Rattle.std.specs.Result.{result_ok, result_unwrap_or}
