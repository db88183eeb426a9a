-- The entries that are there, of rows in byte order of their names.
use Rattle.std.proofs.Common.{◌≡◌, ℕ, ◌+◌, ◌<◌, List, [], ◌∷◌, ◌++◌, length, take, get_or, map, Bool, true, false, not, ◌&&◌, cond, bytes_eq, Option, Some, None, IfSome, find, Less, refl, sym, ap, ◌∙◌}
use Rattle.std.proofs.lemmas.Bool.{and_parts, not-true}
use Rattle.std.proofs.lemmas.List.{map_more}
use Rattle.std.proofs.lemmas.List.Elements.{filter_map-append}
use Rattle.std.proofs.lemmas.Slice.Eq.{bytes_eq-Decides}
use Rattle.std.specs.Char.{is_ascii_graphic}
use Rattle.std.specs.List.{AllByRecursion, list_all}
use Rattle.std.specs.List.Sorted.{IsStrictlySortedBy}
use Rattle.std.specs.Map.{keys_of}
use Rattle.std.specs.Ordering.{is_lt}
use Rattle.m2m_names.proofs.NameLemmas.{graphic_is_utf8}
use Rattle.m2m_value.specs.Data.{Data, Entry}
use Rattle.m2m_value.specs.Node.{AreSorted, HaveTextKeys}
use Rattle.m2m_value.specs.View.{member_of}
use Rattle.m2m_value.proofs.Levels.{entries-pairs_of}
use Rattle.m2m_value.proofs.Lookup.{compared}
use Rattle.filter_criteria.specs.Values.{members_in, NamedValue, entry_there, present, object_of}
use Rattle.m2m_names.proofs.PlaceLemmas.{less}

abbrev pub names : List NamedValue → List (List ℕ)
names [] = []
names (row ∷ rows) = row.0 ∷ names rows

-- ---- tests of names, which compute

abbrev pub are_ordered : List (List ℕ) → Bool
are_ordered [] = true
are_ordered (k ∷ ks) = list_all (λ y. is_lt (compared k y)) ks && are_ordered ks

abbrev pub are_distinct : List (List ℕ) → Bool
are_distinct [] = true
are_distinct (k ∷ ks) = list_all (λ y. not (bytes_eq k y)) ks && are_distinct ks

-- ---- one row more

pub present-more : {M : Type 0} (row : M → NamedValue) (ms : List M) (i : ℕ) (d : M) → i < length ms → present (map row (take (i + 1) ms)) ≡ present (map row (take i ms)) ++ present (row (get_or ms i d) ∷ [])
present-more row ms i d within = ap present (map_more row ms i d within) ∙ filter_map-append entry_there (map row (take i ms)) (row (get_or ms i d) ∷ [])

-- three rows, one after another
pub three_present : (a b c : NamedValue) (none one two three : List Entry) → none ≡ [] → one ≡ none ++ present (a ∷ []) → two ≡ one ++ present (b ∷ []) → three ≡ two ++ present (c ∷ []) → three ≡ present (a ∷ b ∷ c ∷ [])
three_present a b c none one two three at0 at1 at2 at3 =
    let first : one ≡ present (a ∷ []) = at1 ∙ ap (λ es. es ++ present (a ∷ [])) at0 in
    let second : two ≡ present (a ∷ b ∷ []) = at2 ∙ ap (λ es. es ++ present (b ∷ [])) first ∙ sym (filter_map-append entry_there (a ∷ []) (b ∷ [])) in
    at3 ∙ ap (λ es. es ++ present (c ∷ [])) second ∙ sym (filter_map-append entry_there (a ∷ b ∷ []) (c ∷ []))

-- ---- the keys are in order

below : (k : List ℕ) (rows : List NamedValue) → list_all (λ y. is_lt (compared k y)) (names rows) ≡ true → AllByRecursion (λ y. compared k y ≡ Less) (keys_of (present rows))
below k [] h = tt
below k ((name, None) ∷ rows) h = below k rows (and_parts _ _ h).1
below k ((name, Some d) ∷ rows) h = (less _ (and_parts _ _ h).0, below k rows (and_parts _ _ h).1)

pub present_sorted : (rows : List NamedValue) → are_ordered (names rows) ≡ true → AreSorted (present rows)
unfolding IsStrictlySortedBy
present_sorted [] h = tt
present_sorted ((name, None) ∷ rows) h = present_sorted rows (and_parts _ _ h).1
present_sorted ((name, Some d) ∷ rows) h = (below name rows (and_parts _ _ h).0, present_sorted rows (and_parts _ _ h).1)

-- ---- and UTF-8

pub present_texts : (rows : List NamedValue) → list_all (list_all is_ascii_graphic) (names rows) ≡ true → HaveTextKeys (present rows)
present_texts [] h = tt
present_texts ((name, None) ∷ rows) h = present_texts rows (and_parts _ _ h).1
present_texts ((name, Some d) ∷ rows) h = (graphic_is_utf8 name (and_parts _ _ h).0, present_texts rows (and_parts _ _ h).1)

-- ---- what is there

abbrev pub value_at : List ℕ → List NamedValue → Option Data
value_at key [] = None
value_at key (row ∷ rows) = cond (bytes_eq key row.0) row.1 (value_at key rows)

-- a name that no row has
absent : (key : List ℕ) (rows : List NamedValue) → list_all (λ y. not (bytes_eq key y)) (names rows) ≡ true → value_at key rows ≡ None
absent key [] h = refl
absent key (row ∷ rows) h =
    let other = not-true (bytes_eq key row.0) (and_parts _ _ h).0 in
    ap (λ b. cond b row.1 (value_at key rows)) other ∙ absent key rows (and_parts _ _ h).1

gone : (b : Bool) (key : List ℕ) (name : List ℕ) (rows : List NamedValue) → bytes_eq key name ≡ b → list_all (λ y. not (bytes_eq name y)) (names rows) ≡ true → value_at key rows ≡ cond b None (value_at key rows)
gone true key name rows e h = let same = (bytes_eq-Decides key name).0 e in ap (λ k. value_at k rows) same ∙ absent name rows h
gone false key name rows e h = refl

-- the value at a name is that of its row
pub member_of-present : (key : List ℕ) (rows : List NamedValue) → are_distinct (names rows) ≡ true → member_of key (present rows) ≡ value_at key rows
member_of-present key [] h = refl
member_of-present key ((name, None) ∷ rows) h = member_of-present key rows (and_parts _ _ h).1 ∙ gone _ key name rows refl (and_parts _ _ h).0
member_of-present key ((name, Some d) ∷ rows) h = ap (cond (bytes_eq key name) (Some d)) (member_of-present key rows (and_parts _ _ h).1)

-- the members of an object of rows
pub members_in-object_of : (rows : List NamedValue) → members_in (object_of rows) ≡ present rows
members_in-object_of rows = entries-pairs_of (present rows)

-- ---- a search among what is there

-- each row that is there passes the test
abbrev pub AllPresent : (Entry → Bool) → List NamedValue → Type 0
AllPresent test [] = Unit {0}
AllPresent test (row ∷ rows) = IfSome row.1 (λ d. test (row.0, d) ≡ true) × AllPresent test rows

pub none_fails : (test : Entry → Bool) (rows : List NamedValue) → AllPresent test rows → find (λ e. not (test e)) (present rows) ≡ None
none_fails test [] h = refl
none_fails test ((name, None) ∷ rows) h = none_fails test rows h.1
none_fails test ((name, Some d) ∷ rows) h = rw h.0 (none_fails test rows h.1)

pub all_pass : (test : Entry → Bool) (rows : List NamedValue) → AllPresent test rows → list_all test (present rows) ≡ true
all_pass test [] h = refl
all_pass test ((name, None) ∷ rows) h = all_pass test rows h.1
all_pass test ((name, Some d) ∷ rows) h = rw h.0 (all_pass test rows h.1)

pub all_rows : {M : Type 0} (test : Entry → Bool) (row : M → NamedValue) → ((m : M) → IfSome (row m).1 (λ d. test ((row m).0, d) ≡ true)) → (ms : List M) → AllPresent test (map row ms)
all_rows test row each [] = tt
all_rows test row each (m ∷ ms) = (each m, all_rows test row each ms)
