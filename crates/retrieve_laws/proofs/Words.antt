-- The library's words that several proofs of this crate use.
pub use Rattle.std.proofs.Common.{Bool, Equal, Greater, Less, List, None, Option, Ordering, Some, [], ap, arith, codes, cond, false, get_or, inl, inr, length, map, not, pos, refl, reverse, subst, suc, sym, take, true, zero, ℕ, ℤ, ◌&&◌, ◌++◌, ◌+◌, ◌-◌, ◌<◌, ◌^◌, ◌∙◌, ◌∷◌, ◌≡◌, ◌≤◌}
pub use Rattle.std.specs.BTreeMap.{insert_entry}
pub use Rattle.std.specs.List.{All, AllByRecursion, filter, list_all, list_any, starts_with}
pub use Rattle.std.specs.Option.{option_map_or}
pub use Rattle.std.specs.Ordering.{int_eq, match_ordering}
pub use Rattle.std.specs.Prelude.{Contains, bytes_eq, is_none, nat_eq, nat_lt, unwrap_or, ◌==◌}
