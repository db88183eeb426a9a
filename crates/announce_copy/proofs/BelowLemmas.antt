-- Where nothing is sent for a deletion: neither what goes nor anything below it may be announced.
use Rattle.std.proofs.Common.{◌≡◌, ℕ, zero, suc, ◌<◌, ◌≤◌, List, [], ◌∷◌, ◌++◌, length, map, filter, Bool, true, false, not, ◌&&◌, ◌||◌, Option, Some, None, is_some, inl, inr, refl, sym, ap, ◌∙◌, subst, arith}
use Rattle.std.specs.Prelude.{slice_get, ◌⊎◌}
use Rattle.std.proofs.lemmas.Bool.{cases_Bool, both_ways, eq-eqb, eqb-true, false_from_ne_true, or_cases, or_left, or_right}
use Rattle.std.proofs.lemmas.Option.{same_Some}
use Rattle.std.specs.List.{list_all, list_any}
use Rattle.std.specs.Option.{option_map_or}
use Rattle.m2m_names.proofs.TypeLemmas.{same_type}
use Rattle.m2m_names.specs.Types.{does_take}
use Rattle.m2m_names.specs.declared.attributes.Attr.{Attr}
use Rattle.m2m_names.specs.declared.attributes.Attr.TheVariants.{At}
use Rattle.m2m_names.specs.declared.types.Ty.{Ty}
use Rattle.m2m_names.specs.declared.types.Ty.TheVariants.{ContentInstance}
use Rattle.m2m_value.specs.Data.{Data}
use Rattle.m2m_value.specs.View.{as_text}
use Rattle.policy_eval.specs.Rules.{listed_in, texts_of}
use Rattle.resource_model.specs.Attributes.{value_of}
use Rattle.resource_model.specs.Home.{HomeData}
use Rattle.resource_model.specs.Resource.{ResourceData, has_number, is_ty}
use Rattle.tree_model.specs.Changes.{created, updated, deleted, deletion_changes}
use Rattle.tree_model.specs.Tree.{at, children_of, instances_of, is_at_or_below, is_taken, is_tree, is_under, is_well_formed, line_of, number_at, resource_number}
use Rattle.tree_model.proofs.ChangeLemmas.{line_none}
use Rattle.tree_model.proofs.GrowthLemmas.{stands, tree_from_well_formed}
use Rattle.tree_model.proofs.OrderLemmas.{child_under, number_some, placed_stands}
use Rattle.tree_model.proofs.QuietLemmas.{all_by_number, number_passes}
use Rattle.tree_model.proofs.TakenLemmas.{all_taken}
use Rattle.tree_model.proofs.TreeLemmas.{at_number, has_from_at}
use Rattle.announce_copy.specs.Below.{announces_below, lists_peers, may_announce}
use Rattle.announce_copy.specs.Copies.{CopyDraft, copies_of, copies_of_all}
use Rattle.announce_copy.specs.Peers.{each_once, is_one_of, listed_peers, peers_at, peers_of}

-- ---- to whom nothing is sent

no_texts : (ds : List Data) → list_any (λ d. is_some (as_text d)) ds ≡ false → texts_of ds ≡ []
no_texts [] none = refl
no_texts (d ∷ ds) none = by (no_texts ds) (as_text d) refl
  where
    by : (list_any (λ e. is_some (as_text e)) ds ≡ false → texts_of ds ≡ []) → (o : Option (List ℕ)) → as_text d ≡ o → texts_of (d ∷ ds) ≡ []
    by later None is = rw is (later (rw is at none))
    by later (Some text) is = (let bad : true ≡ false = rw is at none in cc)

none_listed : (r : ResourceData) → lists_peers r ≡ false → listed_peers r ≡ []
none_listed r none = no_texts (listed_in (value_of At r.attrs)) none

none_admitted : (texts : List (List ℕ)) → filter (is_one_of []) texts ≡ []
none_admitted [] = refl
none_admitted (text ∷ texts) = none_admitted texts

none_at : (n : ℕ) (nodes : List ResourceData) → option_map_or lists_peers (at n nodes) false ≡ false → peers_at n nodes ≡ []
none_at n nodes none = by (at n nodes) refl
  where
    by : (o : Option ResourceData) → at n nodes ≡ o → peers_at n nodes ≡ []
    by None is = rw is refl
    by (Some c) is =
        let lists : lists_peers c ≡ false = sym (ap (λ (o : Option ResourceData). option_map_or lists_peers o false) is) ∙ none in
        rw is (ap each_once (none_listed c lists))

-- what may not be announced is announced to none
pub no_peers : (nodes : List ResourceData) (r : ResourceData) → may_announce nodes r ≡ false → peers_of nodes r ≡ []
no_peers nodes r none = elim (cases_Bool (is_ty r.ty ContentInstance)) [
  | inl instance ↦ elim (cases_Bool (lists_peers r)) [
    | inl t ↦
        let above : option_map_or lists_peers (at r.parent nodes) false ≡ false = rw (t, instance) at none in
        rw instance (
        ap (λ (ps : List (List ℕ)). each_once (filter (is_one_of ps) (listed_peers r))) (none_at r.parent nodes above)
        ∙ ap each_once (none_admitted (listed_peers r)))
    | inr f ↦ rw instance (ap (λ (ts : List (List ℕ)). each_once (filter (is_one_of (peers_at r.parent nodes)) ts)) (none_listed r f))
  ]
  | inr other ↦ elim (cases_Bool (lists_peers r)) [
    | inl t ↦ (let bad : true ≡ false = rw (t, other) at none in cc)
    | inr f ↦ rw other (ap each_once (none_listed r f))
  ]
]

-- what lists no CSE is announced to none
pub unlisted_peers : (nodes : List ResourceData) (r : ResourceData) → lists_peers r ≡ false → peers_of nodes r ≡ []
unlisted_peers nodes r none = no_peers nodes r (rw none refl)

-- and nothing is sent for its creation,
pub unsent_creation : (home : HomeData) (nodes : List ResourceData) (r : ResourceData) → lists_peers r ≡ false → copies_of home nodes (created r) ≡ []
unsent_creation home nodes r none = rw (unlisted_peers nodes r none) refl

-- for an Update behind which it lists none either,
pub unsent_update : (home : HomeData) (nodes : List ResourceData) (r s : ResourceData) (named : List Attr) → lists_peers r ≡ false → lists_peers s ≡ false → copies_of home nodes (updated r s named) ≡ []
unsent_update home nodes r s named before after = rw (unlisted_peers nodes r before, unlisted_peers nodes s after) refl

-- or for its deletion
pub unsent_deletion : (home : HomeData) (nodes : List ResourceData) (r : ResourceData) → lists_peers r ≡ false → copies_of home nodes (deleted r) ≡ []
unsent_deletion home nodes r none = rw (unlisted_peers nodes r none) refl

none_sent : (home : HomeData) (nodes : List ResourceData) (p : ResourceData → Bool) (rs : List ResourceData) → list_any (λ r. p r && may_announce nodes r) rs ≡ false → copies_of_all home nodes (map deleted (filter p rs)) ≡ []
none_sent home nodes p [] none = refl
none_sent home nodes p (r ∷ rs) none = elim (cases_Bool (p r)) [
  | inl t ↦ elim (cases_Bool (may_announce nodes r)) [
    | inl may ↦ (let bad : true ≡ false = rw (t, may) at none in cc)
    | inr not_it ↦
        let rest : list_any (λ s. p s && may_announce nodes s) rs ≡ false = rw (t, not_it) at none in
        let own : copies_of home nodes (deleted r) ≡ [] = rw (no_peers nodes r not_it) refl in
        rw t (ap (λ (ds : List CopyDraft). ds ++ copies_of_all home nodes (map deleted (filter p rs))) own ∙ none_sent home nodes p rs rest)
  ]
  | inr f ↦ rw f (none_sent home nodes p rs (rw f at none))
]

pub nothing_sent : (nodes : List ResourceData) (n : ℕ) → announces_below n nodes ≡ false → (home : HomeData) → copies_of_all home nodes (deletion_changes nodes n) ≡ []
nothing_sent nodes n none home = none_sent home nodes (is_at_or_below n nodes) nodes none

-- ---- lists

not_true_is : (b : Bool) → not b ≡ true → b ≡ false
not_true_is true t = absurd (both_ways _ refl t)
not_true_is false t = refl

none_of : (p : ResourceData → Bool) (rs : List ResourceData) → list_any p rs ≡ false → list_all (λ r. not (p r)) rs ≡ true
none_of p [] none = refl
none_of p (r ∷ rs) none = elim (cases_Bool (p r)) [
  | inl t ↦ (let bad : true ≡ false = rw t at none in cc)
  | inr f ↦ rw f (none_of p rs (rw f at none))
]

all_not : (p : ResourceData → Bool) (rs : List ResourceData) → list_all (λ r. not (p r)) rs ≡ true → list_any p rs ≡ false
all_not p [] all = refl
all_not p (r ∷ rs) all = elim (cases_Bool (p r)) [
  | inl t ↦ (let bad : false ≡ true = rw t at all in cc)
  | inr f ↦ rw f (all_not p rs (rw f at all))
]

pub no_place : (k : ℕ) (rs : List ResourceData) → None ≡ number_at k rs → length rs ≤ k
no_place k [] none = omega arith
no_place zero (r ∷ rs) none = (let both : None ≡ Some r.number = none in cc)
no_place (suc k) (r ∷ rs) none = (let rest = no_place k rs none in omega (arith, rest))

-- there is no place behind the last
pub none_past : (k : ℕ) (rs : List ResourceData) (m : ℕ) → length rs ≤ k → Some m ≡ number_at k rs → ⊥
none_past k [] m most is = cc
none_past zero (r ∷ rs) m most is = omega (arith, most)
none_past (suc k) (r ∷ rs) m most is = none_past k rs m (omega (arith, most)) is

filter_few : (p : ResourceData → Bool) (rs : List ResourceData) → length (filter p rs) ≤ length rs
filter_few p [] = omega arith
filter_few p (r ∷ rs) =
    let rest = filter_few p rs in
    elim (cases_Bool (p r)) [ inl t ↦ rw t (omega (arith, rest)) | inr f ↦ rw f (omega (arith, rest)) ]

-- there are no more children than resources
pub children_few : (n : ℕ) (nodes : List ResourceData) → length (children_of n nodes) ≤ length nodes
children_few n nodes = filter_few (is_under n) nodes

fewer : (p q : ResourceData → Bool) (rs : List ResourceData) → length (filter (λ r. p r && q r) rs) ≤ length (filter p rs)
fewer p q [] = omega arith
fewer p q (r ∷ rs) =
    let rest = fewer p q rs in
    elim (cases_Bool (p r)) [
      | inl t ↦ elim (cases_Bool (q r)) [
        | inl u ↦ rw (t, u) (omega (arith, rest))
        | inr v ↦ rw (t, v) (omega (arith, rest))
      ]
      | inr f ↦ rw f rest
    ]

-- as many of both kinds as of the one are all of both
all_both : (p q : ResourceData → Bool) (rs : List ResourceData) → length (filter p rs) ≤ length (filter (λ r. p r && q r) rs) → list_all (λ r. not (p r) || q r) rs ≡ true
all_both p q [] most = refl
all_both p q (r ∷ rs) most = elim (cases_Bool (p r)) [
  | inl t ↦ elim (cases_Bool (q r)) [
    | inl u ↦
        let same : suc (length (filter p rs)) ≤ suc (length (filter (λ s. p s && q s) rs)) = rw (t, u) at most in
        rw (t, u) (all_both p q rs (omega (arith, same)))
    | inr v ↦
        let bad : suc (length (filter p rs)) ≤ length (filter (λ s. p s && q s) rs) = rw (t, v) at most in
        let less = fewer p q rs in
        absurd (omega (arith, bad, less))
  ]
  | inr f ↦ rw f (all_both p q rs (rw f at most))
]

found_place : (p : ResourceData → Bool) (nodes : List ResourceData) (n : ℕ) (c : ResourceData) → at n nodes ≡ Some c → p c ≡ true → (k : ℕ) × (slice_get (filter p nodes) k ≡ Some c)
found_place p [] n c found t = cc
found_place p (s ∷ nodes) n c found t = elim (cases_Bool (has_number n s)) [
  | inl own ↦
      let is : s ≡ c = same_Some s c (rw own at found) in
      let passes : p s ≡ true = ap p is ∙ t in
      (0, rw passes (ap Some is))
  | inr other ↦
      let rest = found_place p nodes n c (rw other at found) t in
      elim (cases_Bool (p s)) [
        | inl u ↦ (suc rest.0, rw u rest.1)
        | inr v ↦ (rest.0, rw v rest.1)
      ]
]

-- ---- what stands below one stands at or below a child of it

module _ (nodes : List ResourceData) (tree : is_tree nodes ≡ true) where
  abbrev in_line : ℕ → ℕ → Bool
  in_line n m = list_any (has_number n) (line_of m nodes)

  record IsUnderChild (n m : ℕ) : Type 0 where
    child : ResourceData
    found : at child.number nodes ≡ Some child
    under : child.parent ≡ n
    line : in_line child.number m ≡ true

  up_line : (n m : ℕ) (s : ResourceData) → at m nodes ≡ Some s → in_line n m ≡ (has_number n s || in_line n s.parent)
  up_line n m s found = ap (list_any (has_number n)) (stands nodes tree m s found).line

  no_line : (n m : ℕ) → at m nodes ≡ None → in_line n m ≡ false
  no_line n m none = ap (list_any (has_number n)) (line_none m nodes tree (has_from_at m nodes none))

  own_line : (n : ℕ) (r : ResourceData) → at n nodes ≡ Some r → in_line n n ≡ true
  own_line n r found = up_line n n r found ∙ or_left _ _ (eq-eqb r.number n (at_number n nodes r found))

  -- by what stands at its number, where that is known of what it stands under
  by_found : (k n m : ℕ) → m < suc k → ((s : ResourceData) → s.parent < k → in_line n s.parent ≡ true → (s.parent ≡ n) ⊎ IsUnderChild n s.parent) → in_line n m ≡ true → (o : Option ResourceData) → at m nodes ≡ o → (m ≡ n) ⊎ IsUnderChild n m
  by_found k n m less above t None is = absurd (both_ways _ (no_line n m is) t)
  by_found k n m less above t (Some s) is =
      let number : s.number ≡ m = at_number m nodes s is in
      let lower : s.parent < m = (stands nodes tree m s is).above in
      elim (or_cases (has_number n s) (in_line n s.parent) (sym (up_line n m s is) ∙ t)) [
        | inl own ↦ inl (sym number ∙ eqb-true s.number n own)
        | inr up ↦ elim (above s (omega (arith, less, lower)) up) [
          | inl same ↦ inr (record {
            child = s;
            found = ap (λ (j : ℕ). at j nodes) number ∙ is;
            under = same;
            line = up_line s.number m s is ∙ or_left _ _ (eq-eqb s.number s.number refl);
          })
          | inr below ↦ inr (record {
            child = below.child;
            found = below.found;
            under = below.under;
            line = up_line below.child.number m s is ∙ or_right _ _ below.line;
          })
        ]
      ]

  child_in_line : (k n m : ℕ) → m < k → in_line n m ≡ true → (m ≡ n) ⊎ IsUnderChild n m
  child_in_line zero n m less t = absurd (omega (arith, less))
  child_in_line (suc k) n m less t = by_found k n m less (λ s lower up. child_in_line k n s.parent lower up) t (at m nodes) refl

  -- what stands at or below a child of one stands below that
  down_found : (k n m : ℕ) (c : ResourceData) → m < suc k → c.parent ≡ n → at c.number nodes ≡ Some c → in_line n n ≡ true → ((s : ResourceData) → s.parent < k → in_line c.number s.parent ≡ true → in_line n s.parent ≡ true) → in_line c.number m ≡ true → (o : Option ResourceData) → at m nodes ≡ o → in_line n m ≡ true
  down_found k n m c less under found there above t None is = absurd (both_ways _ (no_line c.number m is) t)
  down_found k n m c less under found there above t (Some s) is =
      let number : s.number ≡ m = at_number m nodes s is in
      let lower : s.parent < m = (stands nodes tree m s is).above in
      elim (or_cases (has_number c.number s) (in_line c.number s.parent) (sym (up_line c.number m s is) ∙ t)) [
        | inl own ↦
            let same : s ≡ c = same_Some s c (sym is ∙ ap (λ (j : ℕ). at j nodes) (sym number ∙ eqb-true s.number c.number own) ∙ found) in
            let up : in_line n s.parent ≡ true = ap (λ (x : ResourceData). in_line n x.parent) same ∙ ap (in_line n) under ∙ there in
            up_line n m s is ∙ or_right _ _ up
        | inr up ↦ up_line n m s is ∙ or_right _ _ (above s (omega (arith, less, lower)) up)
      ]

  child_down : (k n m : ℕ) (c : ResourceData) → m < k → c.parent ≡ n → at c.number nodes ≡ Some c → in_line n n ≡ true → in_line c.number m ≡ true → in_line n m ≡ true
  child_down zero n m c less under found there t = absurd (omega (arith, less))
  child_down (suc k) n m c less under found there t =
      down_found k n m c less under found there (λ s lower up. child_down k n s.parent c lower under found there up) t (at m nodes) refl

  -- nothing is below what isn't there
  none_below : (k n m : ℕ) → m < k → at n nodes ≡ None → in_line n m ≡ false
  none_below zero n m less none = absurd (omega (arith, less))
  none_below (suc k) n m less none = by (λ p lower. none_below k n p lower none) (at m nodes) refl
    where
      by : ((p : ℕ) → p < k → in_line n p ≡ false) → (o : Option ResourceData) → at m nodes ≡ o → in_line n m ≡ false
      by later None is = no_line n m is
      by later (Some s) is = elim (cases_Bool (has_number n s)) [
        | inl own ↦
            let number : m ≡ n = sym (at_number m nodes s is) ∙ eqb-true s.number n own in
            let both : None ≡ Some s = sym none ∙ ap (λ (j : ℕ). at j nodes) (sym number) ∙ is in
            cc
        | inr other ↦
            let lower : s.parent < m = (stands nodes tree m s is).above in
            up_line n m s is ∙ rw other (later s.parent (omega (arith, less, lower)))
      ]

  -- ---- nothing at or below it may be announced

  abbrev pub IsUnsent : ℕ → Type 0
  IsUnsent n = (s : ResourceData) → at s.number nodes ≡ Some s → in_line n s.number ≡ true → may_announce nodes s ≡ false

  pub unsent_is : (n : ℕ) → IsUnsent n → announces_below n nodes ≡ false
  unsent_is n each =
      all_not (λ r. in_line n r.number && may_announce nodes r) nodes
      (all_by_number (λ r. not (in_line n r.number && may_announce nodes r)) nodes tree (λ s found. one s found))
    where
      one : (s : ResourceData) → at s.number nodes ≡ Some s → not (in_line n s.number && may_announce nodes s) ≡ true
      one s found = elim (cases_Bool (in_line n s.number)) [
        | inl t ↦ rw (t, each s found t) refl
        | inr f ↦ rw f refl
      ]

  pub is_unsent : (n : ℕ) → announces_below n nodes ≡ false → IsUnsent n
  is_unsent n none s found t =
      let one : not (in_line n s.number && may_announce nodes s) ≡ true = number_passes (λ r. not (in_line n r.number && may_announce nodes r)) s.number nodes s (none_of (λ r. in_line n r.number && may_announce nodes r) nodes none) found in
      not_true_is (may_announce nodes s) (rw t at one)

  pub missing_unsent : (n : ℕ) → at n nodes ≡ None → IsUnsent n
  missing_unsent n none s found t = absurd (both_ways _ (none_below (suc s.number) n s.number (omega arith) none) t)

  -- what may be announced is announced at its number
  pub announced_there : (n : ℕ) (r : ResourceData) → at n nodes ≡ Some r → may_announce nodes r ≡ true → announces_below n nodes ≡ true
  announced_there n r found may = elim (cases_Bool (announces_below n nodes)) [
    | inl t ↦ t
    | inr f ↦
        let number : r.number ≡ n = at_number n nodes r found in
        absurd (both_ways _ (is_unsent n f r (ap (λ (j : ℕ). at j nodes) number ∙ found) (ap (in_line n) number ∙ own_line n r found)) may)
  ]

  -- one below which a child stands that is announced, or something below that
  pub announced_child : (n m k : ℕ) (r : ResourceData) → at n nodes ≡ Some r → Some m ≡ number_at k (children_of n nodes) → announces_below m nodes ≡ true → announces_below n nodes ≡ true
  announced_child n m k r found is below = elim (cases_Bool (announces_below n nodes)) [
    | inl t ↦ t
    | inr f ↦
        let there = number_some (slice_get (children_of n nodes) k) m is in
        let c : ResourceData = there.0 in
        let under : c.parent ≡ n = child_under n nodes k c there.1 in
        let stands_c : at c.number nodes ≡ Some c = placed_stands (is_under n) nodes k c tree there.1 in
        let none : announces_below c.number nodes ≡ false = unsent_is c.number (λ s stands_s t. is_unsent n f s stands_s (child_down (suc s.number) n s.number c (omega arith) under stands_c (own_line n r found) t)) in
        absurd (both_ways _ (sym (ap (λ (j : ℕ). announces_below j nodes) there.2) ∙ none) below)
  ]

  -- one that isn't announced, and of which no child is, nor anything below one
  unsent_from : (n : ℕ) (r : ResourceData) → at n nodes ≡ Some r → may_announce nodes r ≡ false → ((c : ResourceData) → at c.number nodes ≡ Some c → c.parent ≡ n → IsUnsent c.number) → IsUnsent n
  unsent_from n r found none each s stands_s t = elim (child_in_line (suc s.number) n s.number (omega arith) t) [
    | inl same ↦
        let is : s ≡ r = same_Some s r (sym stands_s ∙ ap (λ (j : ℕ). at j nodes) same ∙ found) in
        ap (may_announce nodes) is ∙ none
    | inr below ↦ each below.child below.found below.under s stands_s below.line
  ]

  pub unsent_kids : (n : ℕ) (r : ResourceData) → at n nodes ≡ Some r → may_announce nodes r ≡ false → ((k m : ℕ) → Some m ≡ number_at k (children_of n nodes) → announces_below m nodes ≡ false) → announces_below n nodes ≡ false
  unsent_kids n r found none each = unsent_is n (unsent_from n r found none (λ c stands_c under.
      let place = found_place (is_under n) nodes c.number c stands_c (eq-eqb c.parent n under) in
      is_unsent c.number (each place.0 c.number (sym (ap resource_number place.1)))))

-- numbers grow on the way down
pub child_above : (nodes : List ResourceData) → is_tree nodes ≡ true → (n k m : ℕ) → Some m ≡ number_at k (children_of n nodes) → n < m
child_above nodes tree n k m is =
    let there = number_some (slice_get (children_of n nodes) k) m is in
    let under : there.0.parent ≡ n = child_under n nodes k there.0 there.1 in
    let found : at there.0.number nodes ≡ Some there.0 = placed_stands (is_under n) nodes k there.0 tree there.1 in
    let lower : there.0.parent < there.0.number = (stands nodes tree there.0.number there.0 found).above in
    omega (arith, under, lower, there.2)

-- ---- children that are all instances

module _ (nodes : List ResourceData) (formed : is_well_formed nodes ≡ true) where
  tree_is : is_tree nodes ≡ true
  tree_is = tree_from_well_formed nodes formed

  takes : (c r : ResourceData) → at c.number nodes ≡ Some c → at c.parent nodes ≡ Some r → does_take r.ty c.ty ≡ true
  takes c r found above =
      let taken : is_taken nodes c ≡ true = number_passes (is_taken nodes) c.number nodes c (all_taken nodes formed) found in
      sym (ap (λ (o : Option ResourceData). option_map_or (λ p. does_take p.ty c.ty) o true) above) ∙ taken

  -- an instance takes nothing
  no_instance_takes : (r : ResourceData) (ty : Ty) → does_take r.ty ty ≡ true → is_ty r.ty ContentInstance ≡ false
  no_instance_takes r ty takes_it = false_from_ne_true _ (λ is.
      let kind : r.ty ≡ ContentInstance = same_type r.ty ContentInstance (eqb-true _ _ is) in
      both_ways _ refl (ap (λ (t : Ty). does_take t ty) (sym kind) ∙ takes_it))

  lists_none : (r : ResourceData) → is_ty r.ty ContentInstance ≡ false → may_announce nodes r ≡ false → lists_peers r ≡ false
  lists_none r other none = elim (cases_Bool (lists_peers r)) [
    | inl t ↦ (let bad : true ≡ false = rw (t, other) at none in cc)
    | inr f ↦ f
  ]

  instance_none : (c r : ResourceData) → is_ty c.ty ContentInstance ≡ true → at c.parent nodes ≡ Some r → lists_peers r ≡ false → may_announce nodes c ≡ false
  instance_none c r is above none = elim (cases_Bool (lists_peers c)) [
    | inl t ↦ rw (t, is, above) none
    | inr f ↦ rw f refl
  ]

  pub unsent_instances : (n count : ℕ) (r : ResourceData) → at n nodes ≡ Some r → may_announce nodes r ≡ false → count ≡ length (instances_of n nodes) → None ≡ number_at count (children_of n nodes) → announces_below n nodes ≡ false
  unsent_instances n count r found none is past =
      let most : length (children_of n nodes) ≤ length (instances_of n nodes) = subst (λ (k : ℕ). length (children_of n nodes) ≤ k) is (no_place count (children_of n nodes) past) in
      let all = all_both (is_under n) (λ s. is_ty s.ty ContentInstance) nodes most in
      unsent_is nodes tree_is n (unsent_from nodes tree_is n r found none (λ c stands_c under.
      let above : at c.parent nodes ≡ Some r = ap (λ (j : ℕ). at j nodes) under ∙ found in
      let kind : is_ty c.ty ContentInstance ≡ true = by_under (is_under n c) (is_ty c.ty ContentInstance) (eq-eqb c.parent n under) (number_passes (λ s. not (is_under n s) || is_ty s.ty ContentInstance) c.number nodes c all stands_c) in
      let other : is_ty r.ty ContentInstance ≡ false = no_instance_takes r c.ty (takes c r stands_c above) in
      let own : may_announce nodes c ≡ false = instance_none c r kind above (lists_none r other none) in
      unsent_from nodes tree_is c.number c stands_c own (λ d stands_d under_d.
      absurd (both_ways _ (no_instance_takes c d.ty (takes d c stands_d (ap (λ (j : ℕ). at j nodes) under_d ∙ stands_c))) kind))))
    where
      by_under : (a b : Bool) → a ≡ true → (not a || b) ≡ true → b ≡ true
      by_under true b t held = held
      by_under false b t held = absurd (both_ways _ refl t)
