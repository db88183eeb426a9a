-- What each value keeps, at every level.
use Rattle.std.specs.Prelude.{◌≡◌, ℕ, ◌<◌, List, [], ◌∷◌, ◌++◌, IsUtf8, ⊤}
use Rattle.std.specs.Cmp.Lexicographic.{slice_cmp}
use Rattle.std.specs.List.{AllByRecursion}
use Rattle.std.specs.List.Sorted.{IsStrictlySortedBy}
use Rattle.std.specs.Ordering.{nat_cmp}
use Rattle.m2m_names.specs.Ids.{count_bound}
use Rattle.m2m_value.specs.Data.{Data, null, boolean, number, text, list, object, Elements}
use Rattle.m2m_value.specs.Data.{no_elements, element, Pairs, no_pairs, pair}
use lib.Signed.{mag}

-- the keys, in order
abbrev pub pair_keys : Pairs → List (List ℕ)
pair_keys no_pairs = []
pair_keys (pair k d ps) = k ∷ pair_keys ps

-- numbers have 64 bits, texts and keys are UTF-8, and an object's keys are distinct and in the
-- order of their bytes
abbrev mutual
  pub IsSound : Data → Type 0
  IsSound null = ⊤
  IsSound (boolean b) = ⊤
  IsSound (number z) = mag z < count_bound
  IsSound (text s) = IsUtf8 s
  IsSound (list es) = AreSound es
  IsSound (object ps) = IsStrictlySortedBy (slice_cmp nat_cmp) (pair_keys ps)
      × AllByRecursion IsUtf8 (pair_keys ps) × HaveSound ps

  pub AreSound : Elements → Type 0
  AreSound no_elements = ⊤
  AreSound (element d es) = IsSound d × AreSound es

  pub HaveSound : Pairs → Type 0
  HaveSound no_pairs = ⊤
  HaveSound (pair k d ps) = IsSound d × HaveSound ps

-- new is old and then more
abbrev pub BeginsWith : List ℕ → List ℕ → Type 0
BeginsWith old new = (more : List ℕ) × (new ≡ old ++ more)
