-- The bytes of the results of some accepted requests.
use Rattle.std.proofs.Common.{◌≡◌, ℕ, ◌+◌, ◌-◌, ◌^◌, ◌<◌, ◌≤◌, min, List, length, take, get_or, refl, sym, ap, ◌∙◌, arith}
use Rattle.std.proofs.lemmas.List.{take_all}
use Rattle.std.proofs.lemmas.List.Sums.{sum_by_more}
use Rattle.m2m_value.specs.Spelling.{capped}
use Rattle.accepted_requests.specs.Entries.{LaterEntryData}
use Rattle.accepted_requests.specs.Sizes.{result_size, results_size}

-- a count that ends at the end of its type, with more
pub capped_more : (kept then all size more : ℕ) → kept ≡ capped all → then ≡ min (kept + size) (2 ^ 64 - 1) → more ≡ all + size → then ≡ capped more
capped_more kept then all size more is next sum = omega (arith, is, next, sum)

-- so many are counted
pub record SizedSoFar (place kept : ℕ) (entries : List LaterEntryData) : Type 0 where
  pub within : place ≤ length entries
  pub size : kept ≡ capped (results_size (take place entries))

pub sized_none : (entries : List LaterEntryData) → SizedSoFar 0 0 entries
sized_none entries = record { within = omega arith; size = refl }

pub sized_next : (place kept then : ℕ) (entries : List LaterEntryData) (x : LaterEntryData) → place < length entries → SizedSoFar place kept entries → x ≡ get_or entries place x
    → then ≡ min (kept + result_size x) (2 ^ 64 - 1) → SizedSoFar (place + 1) then entries
sized_next place kept then entries x lt so at next = record {
  within = omega (arith, lt);
  size = capped_more kept then (results_size (take place entries)) (result_size x) (results_size (take (place + 1) entries)) so.size next
      (sum_by_more result_size entries place x lt ∙ ap (λ (y : LaterEntryData). results_size (take place entries) + result_size y) (sym at));
}

pub sized_all : (place kept : ℕ) (entries : List LaterEntryData) → length entries ≤ place → SizedSoFar place kept entries → kept ≡ capped (results_size entries)
sized_all place kept entries past so = so.size ∙ ap (λ (l : List LaterEntryData). capped (results_size l)) (take_all place entries past)
