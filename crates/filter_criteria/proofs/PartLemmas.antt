-- Parts of their kinds are read back from what is written of them, and what is read is of its kind.
use Rattle.std.proofs.Common.{◌≡◌, ℕ, List, [], ◌∷◌, map, Bool, true, false, if◌then◌else◌, Option, Some, None, option_map, option_and_then, IfSome, refl, ap, ◌∙◌}
use Rattle.std.proofs.lemmas.Bool.{and_parts}
use Rattle.std.specs.List.{list_all, cons_option, filter_map}
use Rattle.std.specs.Option.{option_map_or}
use Rattle.m2m_names.specs.Stamps.{timestamp}
use Rattle.m2m_names.specs.StampReading.{moment_at}
use Rattle.m2m_names.proofs.StampReadingLemmas.{moment_at-timestamp, read_last}
use Rattle.m2m_value.specs.Data.{Data}
use Rattle.m2m_value.specs.View.{as_text}
use Rattle.m2m_value.proofs.Levels.{elements-elements_of}
use Rattle.filter_criteria.specs.Bounds.{IsMoment}
use Rattle.filter_criteria.specs.Conditions.{read_moment, alternatives, all_of}
use Rattle.filter_criteria.specs.Values.{where_it, moment_data}
use Rattle.filter_criteria.specs.Writing.{filled_list}

-- ---- tests

pub where_kept : {A : Type 0} (test : A → Bool) (a : A) → test a ≡ true → where_it test (Some a) ≡ Some a
where_kept test a h = rw h refl

chosen : {A : Type 0} (test : A → Bool) (a : A) (b : Bool) → test a ≡ b → IfSome (if b then Some a else None) (λ x. test x ≡ true)
chosen test a true h = h
chosen test a false h = tt

-- what is kept passes the test
pub where_passes : {A : Type 0} (test : A → Bool) (o : Option A) → IfSome (where_it test o) (λ a. test a ≡ true)
where_passes test None = tt
where_passes test (Some a) = chosen test a (test a) refl

-- what is read of a value, if there is one
pub passes_along : {A B : Type 0} (P : B → Type 0) (read : A → Option B) → ((a : A) → IfSome (read a) P) → (o : Option A) → IfSome (option_and_then read o) P
passes_along P read each None = tt
passes_along P read each (Some a) = each a

-- what is written of a part that is there is read as it
pub each_back : {A : Type 0} (read : Data → Option A) (write : A → Data) (P : A → Type 0) → ((a : A) → P a → read (write a) ≡ Some a) → (o : Option A) → IfSome o P → option_and_then read (option_map write o) ≡ o
each_back read write P back None h = refl
each_back read write P back (Some a) h = back a h

-- ---- timestamps

pub moment_back : (at : ℕ) → IsMoment at → read_moment (moment_data at) ≡ Some at
moment_back at last = moment_at-timestamp (timestamp at) at last refl

pub moment_last : (d : Data) → IfSome (read_moment d) IsMoment
moment_last d = passes_along IsMoment moment_at (λ s. read_last s (moment_at s) refl) (as_text d)

-- ---- lists

-- each element is read back
abbrev pub AllBack : {A : Type 0} → (Data → Option A) → (A → Data) → List A → Type 0
AllBack read write [] = Unit {0}
AllBack read write (x ∷ xs) = (read (write x) ≡ Some x) × AllBack read write xs

map_back : {A : Type 0} (read : Data → Option A) (write : A → Data) (xs : List A) → AllBack read write xs → filter_map read (map write xs) ≡ xs
map_back read write [] h = refl
map_back read write (x ∷ xs) h = rw h.0 (ap (λ l. x ∷ l) (map_back read write xs h.1))

pub list_back : {A : Type 0} (read : Data → Option A) (write : A → Data) (xs : List A) → AllBack read write xs → option_map_or (all_of read) (filled_list (map write xs)) [] ≡ xs
list_back read write [] h = refl
list_back read write (x ∷ xs) h = ap (filter_map read) (elements-elements_of (map write (x ∷ xs))) ∙ map_back read write (x ∷ xs) h

-- what is written of each element that passes one test passes another
written_pass : {A : Type 0} (write : A → Data) (fits : A → Bool) (test : Data → Bool) → ((x : A) → fits x ≡ true → test (write x) ≡ true) → (xs : List A) → list_all fits xs ≡ true → list_all test (map write xs) ≡ true
written_pass write fits test each [] h = refl
written_pass write fits test each (x ∷ xs) h = rw (each x (and_parts _ _ h).0) (written_pass write fits test each xs (and_parts _ _ h).1)

pub list_passes : {A : Type 0} (write : A → Data) (fits : A → Bool) (test : Data → Bool) → ((x : A) → fits x ≡ true → test (write x) ≡ true) → (xs : List A) → list_all fits xs ≡ true → IfSome (filled_list (map write xs)) (λ d. list_all test (alternatives d) ≡ true)
list_passes write fits test each [] h = tt
list_passes write fits test each (x ∷ xs) h = ap (list_all test) (elements-elements_of (map write (x ∷ xs))) ∙ written_pass write fits test each (x ∷ xs) h

-- where each element passes the test that its reading makes
pub all_back : {A : Type 0} (read : Data → Option A) (write : A → Data) (test : A → Bool) → ((x : A) → test x ≡ true → read (write x) ≡ Some x) → (xs : List A) → list_all test xs ≡ true → AllBack read write xs
all_back read write test back [] h = tt
all_back read write test back (x ∷ xs) h = (back x (and_parts _ _ h).0, all_back read write test back xs (and_parts _ _ h).1)

one_passes : {A : Type 0} (test : A → Bool) (o : Option A) (rest : List A) → IfSome o (λ a. test a ≡ true) → list_all test rest ≡ true → list_all test (cons_option o rest) ≡ true
one_passes test None rest h more = more
one_passes test (Some a) rest h more = rw h more

-- and what is read passes it
pub all_pass : {A : Type 0} (read : Data → Option A) (test : A → Bool) → ((d : Data) → IfSome (read d) (λ a. test a ≡ true)) → (ds : List Data) → list_all test (filter_map read ds) ≡ true
all_pass read test each [] = refl
all_pass read test each (d ∷ ds) = one_passes test (read d) (filter_map read ds) (each d) (all_pass read test each ds)
