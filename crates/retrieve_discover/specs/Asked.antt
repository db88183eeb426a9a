-- The labels and types of a filter as sets.
use Rattle.std.specs.Prelude.{◌≡◌, ℕ, ◌==◌, Bool, false, List, Option, Some, None}
use Rattle.std.specs.BTreeSet.{BTreeSet, contains_by}
use Rattle.std.specs.Cmp.Lexicographic.{slice_cmp}
use Rattle.std.specs.List.{list_any}
use Rattle.std.specs.Ordering.{nat_cmp}
use Rattle.std.specs.Str.{bytes_eq}
use Rattle.std.specs.declared.vec.Vec.{Vec}
use Rattle.filter_criteria.specs.declared.filter.FilterParts.{FilterParts}
use Rattle.m2m_value.specs.Data.{Data}
use Rattle.retrieve_discover.specs.Conditions.{is_that_label}

-- a text is one of the labels
abbrev pub is_one_of : List (List ℕ) → List ℕ → Bool
is_one_of labels text = list_any (bytes_eq text) labels

-- the set has a text
abbrev pub has_text : {Z : Type 0} → BTreeSet (Vec ℕ Z) → List ℕ → Bool
has_text set text = contains_by (λ k. slice_cmp nat_cmp text k.items) set

-- the set has these labels alone
abbrev pub HasLabels : {Z : Type 0} → List (List ℕ) → BTreeSet (Vec ℕ Z) → Type 0
HasLabels labels set = (text : List ℕ) → has_text set text ≡ is_one_of labels text

-- the set has these numbers alone
abbrev pub HasNumbers : List ℕ → BTreeSet ℕ → Type 0
HasNumbers numbers set =
    (number : ℕ) → contains_by (nat_cmp number) set ≡ list_any (λ n. n == number) numbers

-- the sets have the labels and the types of the filter alone
pub record IsAsked {Z : Type 0} (f : FilterParts) (words : BTreeSet (Vec ℕ Z))
    (numbers : BTreeSet ℕ) : Type 0 where
  pub labels : HasLabels f.lbl words
  pub types : HasNumbers f.ty numbers

-- a value is one of the labels, as a text
abbrev pub is_label_of : List (List ℕ) → Data → Bool
is_label_of labels d = list_any (λ label. is_that_label label d) labels

-- a list has one of the labels
abbrev pub lists_one_of : List (List ℕ) → Option (List Data) → Bool
lists_one_of labels None = false
lists_one_of labels (Some ds) = list_any (is_label_of labels) ds
