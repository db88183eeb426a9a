-- What stands in a list of resources, and what is left of it after a change.
use Rattle.std.specs.Prelude.{◌==◌}
use Rattle.std.proofs.Common.{◌≡◌, ℕ, ◌≢◌, List, [], ◌∷◌, ◌++◌, map, Bool, true, false, not, ◌||◌, Option, Some, None, is_some, Bor, option_map, inl, inr, refl, sym, ap, ◌∙◌, append_assoc}
use Rattle.std.proofs.lemmas.Bool.{cases_Bool, and_parts, and_from, or_cases, or_left, or_right, not-true, not_from_false, eqb-true, eq-eqb, ne_eqb, both_ways, false_from_ne_true}
use Rattle.std.proofs.lemmas.List.{append-nil, map-append}
use Rattle.std.proofs.lemmas.List.Folds.{find-append, list_any-append}
use Rattle.std.proofs.lemmas.Option.{same_Some}
use Rattle.std.proofs.lemmas.Slice.Eq.{bytes_eq-Decides}
use Rattle.std.specs.List.{filter, list_any, list_all}
use Rattle.std.specs.Option.{option_or}
use Rattle.std.specs.Str.{bytes_eq}
use Rattle.m2m_names.specs.declared.types.Ty.{Ty}
use Rattle.resource_model.specs.Resource.{ResourceData, is_ty, has_number}
use Rattle.tree_model.specs.Tree.{at, has, is_under, is_kin, is_child, line_from, replaced, stays, staying}

-- ---- tests over a list

pub list_any-same : {X : Type 0} (p q : X → Bool) → ((x : X) → p x ≡ q x) → (xs : List X) → list_any p xs ≡ list_any q xs
list_any-same p q same [] = refl
list_any-same p q same (x ∷ xs) = rw (same x, list_any-same p q same xs) refl

pub list_all-same : {X : Type 0} (p q : X → Bool) → ((x : X) → p x ≡ q x) → (xs : List X) → list_all p xs ≡ list_all q xs
list_all-same p q same [] = refl
list_all-same p q same (x ∷ xs) = rw (same x, list_all-same p q same xs) refl

-- ---- at a number

pub at_has : (n : ℕ) (nodes : List ResourceData) (r : ResourceData) → at n nodes ≡ Some r → has n nodes ≡ true
at_has n [] r found = cc
at_has n (s ∷ nodes) r found = elim (cases_Bool (has_number n s)) [
  | inl t ↦ rw t refl
  | inr f ↦ rw f (at_has n nodes r (rw f at found))
]

pub has_at : (n : ℕ) (nodes : List ResourceData) → has n nodes ≡ true → (r : ResourceData) × (at n nodes ≡ Some r) × (r.number ≡ n)
has_at n [] there = absurd (both_ways _ refl there)
has_at n (s ∷ nodes) there = elim (cases_Bool (has_number n s)) [
  | inl t ↦ (s, rw t refl, eqb-true s.number n t)
  | inr f ↦
      let later = has_at n nodes (rw f at there) in
      (later.0, rw f later.1, later.2)
]

pub at_number : (n : ℕ) (nodes : List ResourceData) (r : ResourceData) → at n nodes ≡ Some r → r.number ≡ n
at_number n nodes r found =
    let there = has_at n nodes (at_has n nodes r found) in
    ap (λ (s : ResourceData). s.number) (same_Some r there.0 (sym found ∙ there.1)) ∙ there.2

pub at_none : (n : ℕ) (nodes : List ResourceData) → has n nodes ≡ false → at n nodes ≡ None
at_none n [] none = refl
at_none n (s ∷ nodes) none = elim (cases_Bool (has_number n s)) [
  | inl t ↦ absurd (both_ways _ none (rw t refl))
  | inr f ↦ rw f (at_none n nodes (rw f at none))
]

-- after an append
pub at-append : (n : ℕ) (nodes more : List ResourceData) → at n (nodes ++ more) ≡ option_or (at n nodes) (at n more)
at-append n nodes more = find-append (has_number n) nodes more

pub has-append : (n : ℕ) (nodes more : List ResourceData) → has n (nodes ++ more) ≡ (has n nodes || has n more)
has-append n nodes more = list_any-append (has_number n) nodes more

-- after a map that keeps numbers
pub at-map : (g : ResourceData → ResourceData) → ((r : ResourceData) → (g r).number ≡ r.number) → (n : ℕ) (nodes : List ResourceData) → at n (map g nodes) ≡ option_map g (at n nodes)
at-map g keeps n [] = refl
at-map g keeps n (s ∷ nodes) = elim (cases_Bool (has_number n s)) [
  | inl t ↦ let u : has_number n (g s) ≡ true = ap (λ (m : ℕ). m == n) (keeps s) ∙ t in rw (u, t) refl
  | inr f ↦ let u : has_number n (g s) ≡ false = ap (λ (m : ℕ). m == n) (keeps s) ∙ f in rw (u, f) (at-map g keeps n nodes)
]

pub has-map : (g : ResourceData → ResourceData) → ((r : ResourceData) → (g r).number ≡ r.number) → (n : ℕ) (nodes : List ResourceData) → has n (map g nodes) ≡ has n nodes
has-map g keeps n [] = refl
has-map g keeps n (s ∷ nodes) = rw (keeps s, has-map g keeps n nodes) refl

-- after a replacement
pub at-replaced : (r : ResourceData) (nodes : List ResourceData) → has r.number nodes ≡ true → at r.number (replaced r nodes) ≡ Some r
at-replaced r [] there = absurd (both_ways _ refl there)
at-replaced r (s ∷ nodes) there = elim (cases_Bool (has_number r.number s)) [
  | inl t ↦ rw (t, eq-eqb r.number r.number refl) refl
  | inr f ↦ rw (f, f) (at-replaced r nodes (rw f at there))
]

pub at-replaced_other : (n : ℕ) (r : ResourceData) (nodes : List ResourceData) → n ≢ r.number → at n (replaced r nodes) ≡ at n nodes
at-replaced_other n r [] apart = refl
at-replaced_other n r (s ∷ nodes) apart = elim (cases_Bool (has_number r.number s)) [
  | inl t ↦
      let same : s.number ≡ r.number = eqb-true s.number r.number t in
      let other : has_number n r ≡ false = ne_eqb r.number n (λ e. apart (sym e)) in
      let before : has_number n s ≡ false = ne_eqb s.number n (λ e. apart (sym e ∙ same)) in
      rw (t, other, before) refl
  | inr f ↦ elim (cases_Bool (has_number n s)) [
    | inl u ↦ rw (f, u) refl
    | inr v ↦ rw (f, v) (at-replaced_other n r nodes apart)
  ]
]

-- a map that keeps numbers goes through a replacement
pub map-replaced : (g : ResourceData → ResourceData) → ((r : ResourceData) → (g r).number ≡ r.number) → (r : ResourceData) (nodes : List ResourceData) → map g (replaced r nodes) ≡ replaced (g r) (map g nodes)
map-replaced g keeps r [] = refl
map-replaced g keeps r (s ∷ nodes) = elim (cases_Bool (has_number r.number s)) [
  | inl t ↦ let u : has_number (g r).number (g s) ≡ true = ap (λ (m : ℕ). m == (g r).number) (keeps s) ∙ ap (λ (m : ℕ). s.number == m) (keeps r) ∙ t in rw (u, t) refl
  | inr f ↦ let u : has_number (g r).number (g s) ≡ false = ap (λ (m : ℕ). m == (g r).number) (keeps s) ∙ ap (λ (m : ℕ). s.number == m) (keeps r) ∙ f in rw (u, f) (ap (λ rest. g s ∷ rest) (map-replaced g keeps r nodes))
]

-- ---- what the tests say

-- a child of this parent, of this type
pub record IsKin (ty : Ty) (parent : ℕ) (r : ResourceData) : Type 0 where
  pub under : r.parent ≡ parent
  pub kind : is_ty r.ty ty ≡ true

pub kin_parts : (ty : Ty) (parent : ℕ) (r : ResourceData) → is_kin ty parent r ≡ true → IsKin ty parent r
kin_parts ty parent r is =
    let parts = and_parts (is_under parent r) (is_ty r.ty ty) is in
    record { under = eqb-true r.parent parent parts.0; kind = parts.1 }

-- a child of this parent, of this name
pub record IsChild (parent : ℕ) (name : List ℕ) (r : ResourceData) : Type 0 where
  pub under : r.parent ≡ parent
  pub called : r.name ≡ name

pub child_parts : (parent : ℕ) (name : List ℕ) (r : ResourceData) → is_child parent name r ≡ true → IsChild parent name r
child_parts parent name r is =
    let parts = and_parts (is_under parent r) (bytes_eq r.name name) is in
    record { under = eqb-true r.parent parent parts.0; called = (bytes_eq-Decides r.name name).0 parts.1 }

pub child_from : (parent : ℕ) (name : List ℕ) (r : ResourceData) → IsChild parent name r → is_child parent name r ≡ true
child_from parent name r is = and_from _ _ (eq-eqb r.parent parent is.under) ((bytes_eq-Decides r.name name).1 is.called)

-- it stays: it isn't picked, and its parent, where it has one, stayed
pub record IsStaying (picks : ResourceData → Bool) (stayed : List ResourceData) (r : ResourceData) : Type 0 where
  pub unpicked : picks r ≡ false
  pub parent : ((r.parent == 0) || has r.parent stayed) ≡ true

pub stays_parts : (picks : ResourceData → Bool) (stayed : List ResourceData) (r : ResourceData) → stays picks stayed r ≡ true → IsStaying picks stayed r
stays_parts picks stayed r is =
    let parts = and_parts (not (picks r)) _ is in
    record { unpicked = not-true (picks r) parts.0; parent = parts.1 }

pub stays_from : (picks : ResourceData → Bool) (stayed : List ResourceData) (r : ResourceData) → IsStaying picks stayed r → stays picks stayed r ≡ true
stays_from picks stayed r is = and_from _ _ (not_from_false _ is.unpicked) is.parent

-- what each passes, each of a line does
pub line_all : (p : ResourceData → Bool) (n : ℕ) (older : List ResourceData) → list_all p older ≡ true → list_all p (line_from n older) ≡ true
line_all p n [] all = refl
line_all p n (r ∷ older) all =
    let parts = and_parts (p r) (list_all p older) all in
    elim (cases_Bool (has_number n r)) [
      | inl t ↦ rw t (and_from _ _ parts.0 (line_all p r.parent older parts.1))
      | inr f ↦ rw f (line_all p n older parts.1)
    ]

-- two filters that are the same on what the list has
pub filter_among : (p q : ResourceData → Bool) (rs : List ResourceData) → ((s : ResourceData) → has s.number rs ≡ true → p s ≡ q s) → filter p rs ≡ filter q rs
filter_among p q [] same = refl
filter_among p q (r ∷ rs) same =
    let first : p r ≡ q r = same r (rw (eq-eqb r.number r.number refl) refl) in
    let rest : filter p rs ≡ filter q rs = filter_among p q rs (λ s there. same s (or_right _ _ there)) in
    rw (first, rest) refl

-- ---- the pass of a removal

-- two lists of which the first has each number of the second
abbrev pub Covers : List ResourceData → List ResourceData → Type 0
Covers wide narrow = (n : ℕ) → has n narrow ≡ true → has n wide ≡ true

pub covers_grown : (wide narrow : List ResourceData) (r : ResourceData) → Covers wide narrow → Covers (wide ++ r ∷ []) narrow
covers_grown wide narrow r covers n there = has-append n wide (r ∷ []) ∙ or_left _ _ (covers n there)

pub covers_both : (wide narrow : List ResourceData) (r : ResourceData) → Covers wide narrow → Covers (wide ++ r ∷ []) (narrow ++ r ∷ [])
covers_both wide narrow r covers n there = has-append n wide (r ∷ []) ∙ elim (or_cases _ _ (sym (has-append n narrow (r ∷ [])) ∙ there)) [
  | inl old ↦ or_left _ _ (covers n old)
  | inr new ↦ or_right _ _ new
]

-- what stays of an append
pub staying-append : (picks : ResourceData → Bool) (stayed nodes more : List ResourceData) → staying picks stayed (nodes ++ more) ≡ staying picks stayed nodes ++ staying picks (stayed ++ staying picks stayed nodes) more
staying-append picks stayed [] more = rw (append-nil stayed) refl
staying-append picks stayed (r ∷ nodes) more = elim (cases_Bool (stays picks stayed r)) [
  | inl t ↦ rw t (ap (λ rest. r ∷ rest) (staying-append picks (stayed ++ r ∷ []) nodes more ∙ rw (append_assoc stayed (r ∷ []) (staying picks (stayed ++ r ∷ []) nodes)) refl))
  | inr f ↦ rw f (staying-append picks stayed nodes more)
]

-- what it leaves was there, so that what all pass all that is left pass
pub staying_all : (picks p : ResourceData → Bool) (stayed nodes : List ResourceData) → list_all p nodes ≡ true → list_all p (staying picks stayed nodes) ≡ true
staying_all picks p stayed [] all = refl
staying_all picks p stayed (r ∷ nodes) all =
    let parts = and_parts (p r) (list_all p nodes) all in
    elim (cases_Bool (stays picks stayed r)) [
      | inl t ↦ rw t (and_from _ _ parts.0 (staying_all picks p (stayed ++ r ∷ []) nodes parts.1))
      | inr f ↦ rw f (staying_all picks p stayed nodes parts.1)
    ]

pub staying_any : (picks p : ResourceData → Bool) (stayed nodes : List ResourceData) → list_any p (staying picks stayed nodes) ≡ true → list_any p nodes ≡ true
staying_any picks p stayed [] some = some
staying_any picks p stayed (r ∷ nodes) some = elim (cases_Bool (stays picks stayed r)) [
  | inl t ↦ elim (or_cases (p r) _ (rw t at some)) [
    | inl here ↦ or_left _ _ here
    | inr later ↦ or_right _ _ (staying_any picks p (stayed ++ r ∷ []) nodes later)
  ]
  | inr f ↦ or_right _ _ (staying_any picks p stayed nodes (rw f at some))
]

-- nothing that is left was picked
pub staying_unpicked : (picks : ResourceData → Bool) (stayed nodes : List ResourceData) → list_any picks (staying picks stayed nodes) ≡ false
staying_unpicked picks stayed [] = refl
staying_unpicked picks stayed (r ∷ nodes) = elim (cases_Bool (stays picks stayed r)) [
  | inl t ↦ rw (t, (stays_parts picks stayed r t).unpicked) (staying_unpicked picks (stayed ++ r ∷ []) nodes)
  | inr f ↦ rw f (staying_unpicked picks stayed nodes)
]

-- a wider pass after a narrower one is the wider one
stays_wider : (narrow wide : ResourceData → Bool) → ((r : ResourceData) → narrow r ≡ true → wide r ≡ true) → (more less : List ResourceData) → Covers more less → (r : ResourceData) → stays wide less r ≡ true → stays narrow more r ≡ true
stays_wider narrow wide within more less covers r stayed =
    let parts = stays_parts wide less r stayed in
    stays_from narrow more r (record {
      unpicked = false_from_ne_true _ (λ t. both_ways _ parts.unpicked (within r t));
      parent = elim (or_cases (r.parent == 0) _ parts.parent) [
        | inl root ↦ or_left _ _ root
        | inr kept ↦ or_right _ _ (covers r.parent kept)
      ];
    })

pub staying_wider : (narrow wide : ResourceData → Bool) → ((r : ResourceData) → narrow r ≡ true → wide r ≡ true) → (more less nodes : List ResourceData) → Covers more less → staying wide less (staying narrow more nodes) ≡ staying wide less nodes
staying_wider narrow wide within more less [] covers = refl
staying_wider narrow wide within more less (r ∷ nodes) covers = elim (cases_Bool (stays wide less r)) [
  | inl t ↦ rw (stays_wider narrow wide within more less covers r t, t) (ap (λ rest. r ∷ rest) (staying_wider narrow wide within (more ++ r ∷ []) (less ++ r ∷ []) nodes (covers_both more less r covers)))
  | inr f ↦ elim (cases_Bool (stays narrow more r)) [
    | inl u ↦ rw (u, f) (staying_wider narrow wide within (more ++ r ∷ []) less nodes (covers_grown more less r covers))
    | inr v ↦ rw (v, f) (staying_wider narrow wide within more less nodes covers)
  ]
]

-- picks that agree leave the same
pub staying-same : (p q : ResourceData → Bool) → ((r : ResourceData) → p r ≡ q r) → (stayed nodes : List ResourceData) → staying p stayed nodes ≡ staying q stayed nodes
staying-same p q same stayed [] = refl
staying-same p q same stayed (r ∷ nodes) = elim (cases_Bool (stays q stayed r)) [
  | inl t ↦ rw (same r, t) (ap (λ rest. r ∷ rest) (staying-same p q same (stayed ++ r ∷ []) nodes))
  | inr f ↦ rw (same r, f) (staying-same p q same stayed nodes)
]

-- a map that keeps number, parent and pick goes through a pass
stays-map : (g : ResourceData → ResourceData) (p q : ResourceData → Bool) → ((r : ResourceData) → (g r).number ≡ r.number) → ((r : ResourceData) → (g r).parent ≡ r.parent) → ((r : ResourceData) → q (g r) ≡ p r) → (stayed : List ResourceData) (r : ResourceData) → stays q (map g stayed) (g r) ≡ stays p stayed r
stays-map g p q number parent pick stayed r = rw (pick r, parent r, has-map g number r.parent stayed) refl

pub staying-map : (g : ResourceData → ResourceData) (p q : ResourceData → Bool) → ((r : ResourceData) → (g r).number ≡ r.number) → ((r : ResourceData) → (g r).parent ≡ r.parent) → ((r : ResourceData) → q (g r) ≡ p r) → (stayed nodes : List ResourceData) → staying q (map g stayed) (map g nodes) ≡ map g (staying p stayed nodes)
staying-map g p q number parent pick stayed [] = refl
staying-map g p q number parent pick stayed (r ∷ nodes) = elim (cases_Bool (stays p stayed r)) [
  | inl t ↦ rw (stays-map g p q number parent pick stayed r, t) (ap (λ rest. g r ∷ rest) (rw (sym (map-append g stayed (r ∷ []))) (staying-map g p q number parent pick (stayed ++ r ∷ []) nodes)))
  | inr f ↦ rw (stays-map g p q number parent pick stayed r, f) (staying-map g p q number parent pick stayed nodes)
]

-- by the look-up
pub has_from_at : (n : ℕ) (nodes : List ResourceData) → at n nodes ≡ None → has n nodes ≡ false
has_from_at n nodes none = false_from_ne_true _ (λ t. let there = has_at n nodes t in some_none there.0 (sym there.1 ∙ none))
  where
    some_none : (r : ResourceData) → Some r ≡ None → ⊥
    some_none r e = cc

-- a replacement of what isn't there changes nothing
pub replaced_missing : (r : ResourceData) (nodes : List ResourceData) → at r.number nodes ≡ None → replaced r nodes ≡ nodes
replaced_missing r [] none = refl
replaced_missing r (s ∷ nodes) none = elim (cases_Bool (has_number r.number s)) [
  | inl t ↦ absurd (some_none s (rw t at none))
  | inr f ↦ rw f (ap (λ rest. s ∷ rest) (replaced_missing r nodes (rw f at none)))
]
  where
    some_none : (s : ResourceData) → Some s ≡ None → ⊥
    some_none s e = cc

pub has-at : (n : ℕ) (nodes : List ResourceData) → is_some (at n nodes) ≡ has n nodes
has-at n [] = refl
has-at n (s ∷ nodes) = elim (cases_Bool (has_number n s)) [
  | inl t ↦ rw t refl
  | inr f ↦ rw f (has-at n nodes)
]

-- a look-up through references
pub is_some-now : (r : Option (Bor ResourceData)) → is_some (option_map (λ x. x.now) r) ≡ is_some r
is_some-now None = refl
is_some-now (Some x) = refl

pub there : (n : ℕ) (nodes : List ResourceData) → has n nodes ≡ is_some (at n nodes)
there n nodes = sym (has-at n nodes)
