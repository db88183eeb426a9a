-- The library's words that several proofs of this crate use.
pub use Rattle.std.proofs.Common.{Bool, IfSome, IsTrue, IsUtf8, List, None, Option, Some, [], ap, append-nil, append_assoc, arith, codes, cond, drop, false, inl, inr, length, length-append, map, nat_eq, not, refl, reverse, subst, suc, sym, take, true, ℕ, ◌&&◌, ◌++◌, ◌+◌, ◌-◌, ◌<◌, ◌==◌, ◌^◌, ◌||◌, ◌∙◌, ◌∷◌, ◌≡◌, ◌≤◌, ◌⊎◌}
pub use Rattle.std.specs.Fmt.{decimal, signed_decimal}
pub use Rattle.std.specs.Int.{IsInRange}
pub use Rattle.std.specs.List.{AllByRecursion, cons_option, filter_map, flat_map, list_all, onto_first, prefix_len, slice_split, starts_with, suffix_len}
pub use Rattle.std.specs.Option.{option_map_or, option_to_list}
pub use Rattle.std.specs.Prelude.{All, Err, Ok, Result, fold, is_some, nat_lt, option_and_then, option_map, pos, unwrap_or, ℤ}
pub use Rattle.std.specs.Str.Parse.{AllDigits, digits_value}
