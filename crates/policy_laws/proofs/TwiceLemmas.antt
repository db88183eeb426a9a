-- What an originator sees of what is left of its sight is what it sees of what is left.
use Rattle.policy_laws.proofs.Words.{nat_lt, unwrap_or, ◌≡◌, ℕ, List, [], ◌∷◌, ◌++◌, map, Bool, true, false, cond, ◌&&◌, ◌||◌, Option, Some, None, option_map, inl, inr, refl, sym, ap, ◌∙◌, subst, arith, bit_at, AllZip, cons_option, filter_map, option_and_then, option_map_or, option_or}
use Rattle.policy_laws.proofs.Terms.{Attr, Data, Row, HomeData, ResourceData, at, due, due_under, may_stand, is_due, is_spared, is_tree, is_well_formed, live, without, is_same, rules_in, bits_by}
use Rattle.policy_laws.proofs.Facts.{cases_Bool, both_ways, and_from, and_parts, eq-eqb, or_cases, or_left, or_right, ltb-false, map-append, AllZip-push, bit_at-zero, same_from_bits, map-map, at-without, below_lacks, growth, next_fits, tree_from_well_formed, at-append, at-map, at_none}
use Rattle.tree_model.proofs.KeptLemmas.{is_tree-without}
use Rattle.tree_model.proofs.LiveLemmas.{at-without_parent, due-without}
use Rattle.equal_sights.specs.Seen.{retrieve_bit, discovery_bit, create_bit, update_bit, has_bit, fills, is_filled_in, may_use, is_shown, is_url, first_url, only_point, plain_rules, seen_rules, seen_points, is_policy_rules, is_way, seen_value, seen_row, another, seen_owner, seen_ct, seen_lt, seen_et, seen, seen_list}
use Rattle.policy_laws.proofs.ChoiceLemmas.{found_where}
use Rattle.policy_laws.proofs.AlikeLemmas.{without-zip, map_from_zip}
use Rattle.policy_laws.proofs.UnionLemmas.{IsBelow, has_more}
use Rattle.policy_laws.proofs.RemovalLemmas.{Keeps, keeps_without, rules_less, fan_less}
use Rattle.policy_laws.proofs.SeenLemmas.{at-seen, plain_bits, bits_below, owner_seen, first_passes, one_point}
use Rattle.policy_laws.proofs.EqualLemmas.{may-seen, is_filled_in-seen, is_shown-seen}
use Rattle.policy_laws.proofs.DueLemmas.{due-seen, is_due-seen}

-- ---- tests that hold more often

or_more : (a b c d : Bool) → (a ≡ true → c ≡ true) → (b ≡ true → d ≡ true) → (a || b) ≡ true → (c || d) ≡ true
or_more a b c d left right holds = elim (or_cases a b holds) [
  | inl t ↦ or_left c d (left t)
  | inr t ↦ or_right c d (right t)
]

and_more : (a b c : Bool) → (b ≡ true → c ≡ true) → (a && b) ≡ true → (a && c) ≡ true
and_more a b c more holds =
    let parts = and_parts a b holds in
    and_from a c parts.0 (more parts.1)

and_also : (a b c : Bool) → (a ≡ true → b ≡ true) → (a && c) ≡ true → (b && c) ≡ true
and_also a b c more holds =
    let parts = and_parts a c holds in
    and_from b c (more parts.0) parts.1

some_more : (a b : ℕ) → IsBelow a b → nat_lt 0 a ≡ true → nat_lt 0 b ≡ true
some_more a b ab some = elim (cases_Bool (nat_lt 0 b)) [
  | inl t ↦ t
  | inr f ↦
      let no_b : b ≡ 0 = omega (arith, ltb-false 0 b f) in
      let no_a : a ≡ 0 = same_from_bits a 0 (λ i. omega (arith, ab.places i, bit_at-zero i, ap (λ n. bit_at n i) no_b)) in
      absurd (both_ways (nat_lt 0 a) (ap (nat_lt 0) no_a) some)
]

-- ---- a choice made twice

-- what the first choice keeps, the second, which keeps less, keeps of it
twice_chosen : {X : Type 0} (less more : Bool) (x y z : X) → (less ≡ true → more ≡ true) → cond less (cond more x y) z ≡ cond less x z
twice_chosen true more x y z kept = rw (kept refl) refl
twice_chosen false more x y z kept = refl

joined_option : {X : Type 0} (f : X → Option X) (x y : Option X) (xs : List X) → option_and_then f x ≡ y → filter_map f (cons_option x xs) ≡ cons_option y (filter_map f xs)
joined_option f None y xs e = rw (sym e) refl
joined_option f (Some x) y xs e = rw (sym e) refl

pub twice_filtered : {X : Type 0} (f g h : X → Option X) → ((x : X) → option_and_then f (g x) ≡ h x) → (xs : List X) → filter_map f (filter_map g xs) ≡ filter_map h xs
twice_filtered f g h same [] = refl
twice_filtered f g h same (x ∷ xs) = joined_option f (g x) (h x) (filter_map g xs) (same x) ∙ ap (cons_option (h x)) (twice_filtered f g h same xs)

-- ---- values seen twice

rules_twice : (home : HomeData) (o : List ℕ) (d : Data) → seen_rules home o (seen_rules home o d) ≡ seen_rules home o d
rules_twice home o d = ap plain_rules (plain_bits home o (bits_by home o (rules_in (Some d))) (bits_below home o (Some d)))

points_twice : (d : Data) → option_and_then seen_points (seen_points d) ≡ seen_points d
points_twice d = by_first (first_url (Some d)) (first_passes d)
  where
    by_first : (x : Option (List ℕ)) → ((u : List ℕ) → x ≡ Some u → is_url u ≡ true) → option_and_then seen_points (option_map only_point x) ≡ option_map only_point x
    by_first None passes = refl
    by_first (Some u) passes = ap (option_map only_point) (one_point u (passes u refl))

pub owner_twice : (home : HomeData) (o : List ℕ) (r : ResourceData) → cond (is_same home o (seen_owner home o r)) o (another o) ≡ seen_owner home o r
owner_twice home o r = ap (λ b. cond b o (another o)) (owner_seen home o r)

-- what is seen of a value, by whether it is shown, lists rules, or is a way
abbrev pub value_by : HomeData → List ℕ → Bool → Bool → Bool → Data → Option Data
value_by home o shows rules way d =
    cond shows (Some d) (cond rules (Some (seen_rules home o d)) (cond way (seen_points d) None))

pub value_twice : (home : HomeData) (o : List ℕ) (less more rules way : Bool) (d : Data) → (less ≡ true → more ≡ true) → option_and_then (value_by home o less rules way) (value_by home o more rules way d) ≡ value_by home o less rules way d
value_twice home o less true rules way d kept = refl
value_twice home o true false rules way d kept = absurd (both_ways false refl (kept refl))
value_twice home o false false true way d kept = ap (λ x. Some x) (rules_twice home o d)
value_twice home o false false false true d kept = points_twice d
value_twice home o false false false false d kept = refl

-- ---- what rights show on the lesser list they show on the greater

module _ (home : HomeData) (o : List ℕ) (less more : List ResourceData) (keeps : Keeps less more) where
  may-more : (bit : ℕ) (r : ResourceData) → has_bit home less o bit r ≡ true → has_bit home more o bit r ≡ true
  may-more bit r = has_more _ _ bit (rules_less home o less more keeps r).bits

  fills-more : (r : ResourceData) → fills home less o r ≡ true → fills home more o r ≡ true
  fills-more r = and_more _ _ _ (or_more _ _ _ _ (may-more create_bit r) (may-more update_bit r))

  is_filled_in-more : (r : ResourceData) → is_filled_in home less o r ≡ true → is_filled_in home more o r ≡ true
  is_filled_in-more r = and_more _ _ _ (above (at r.parent less) (at r.parent more) (keeps.found r.parent))
    where
      above : (p q : Option ResourceData) → ((s : ResourceData) → p ≡ Some s → q ≡ Some s) → option_map_or (fills home less o) p false ≡ true → option_map_or (fills home more o) q false ≡ true
      above None q kept fill = absurd (both_ways false refl fill)
      above (Some s) q kept fill = rw (kept s refl) (fills-more s fill)

  may_use-more : (r : ResourceData) → may_use home less o r ≡ true → may_use home more o r ≡ true
  may_use-more r =
      and_more _ _ _ (or_more _ _ _ _ (may-more update_bit r) (some_more _ _ (fan_less home o less more keeps r).bits))

  is_shown-more : (r : ResourceData) (a : Attr) → is_shown home less o r a ≡ true → is_shown home more o r a ≡ true
  is_shown-more r a =
      or_more _ _ _ _
      (or_more _ _ _ _
      (or_more _ _ _ _
      (or_more _ _ _ _ (or_more _ _ _ _ (λ one. one) (may-more retrieve_bit r)) (and_also _ _ _ (may-more discovery_bit r)))
      (and_also _ _ _ (fills-more r)))
      (and_also _ _ _ (is_filled_in-more r)))
      (and_also _ _ _ (may_use-more r))

-- ---- a map over a tree asks each resource that is found

pub zip-found : (R : ResourceData → ResourceData → Type 0) (g : ResourceData → ResourceData) (nodes : List ResourceData) → is_tree nodes ≡ true → ((r : ResourceData) → at r.number nodes ≡ Some r → R (g r) r) → AllZip R (map g nodes) nodes
zip-found R g = growth may_stand (λ nodes. ((r : ResourceData) → at r.number nodes ≡ Some r → R (g r) r) → AllZip R (map g nodes) nodes) (λ rel. tt) (λ before r grew fit holds rel.
    let free : at r.number before ≡ None = at_none r.number before (below_lacks r.number before (next_fits before r fit).number) in
    let last : at r.number (before ++ r ∷ []) ≡ Some r =
    at-append r.number before (r ∷ []) ∙ ap (λ (x : Option ResourceData). option_or x (at r.number (r ∷ []))) free ∙ ap (λ b. cond b (Some r) None) (eq-eqb r.number r.number refl) in
    let earlier : AllZip R (map g before) before = holds (λ s found. rel s (at-append s.number before (r ∷ []) ∙ ap (λ (x : Option ResourceData). option_or x (at s.number (r ∷ []))) found)) in
    subst (λ (ss : List ResourceData). AllZip R ss (before ++ r ∷ [])) (sym (map-append g before (r ∷ []))) (AllZip-push R (map g before) before (g r) r earlier (rel r last)))

-- ---- a sight of what is left of a sight

-- the resource with these for its owner, its moments and its attributes
abbrev pub made : ResourceData → List ℕ → ℕ → ℕ → ℕ → List Row → ResourceData
made r owner ct lt et attrs = record {
  number = r.number;
  ty = r.ty;
  name = r.name;
  parent = r.parent;
  owner = owner;
  ct = ct;
  lt = lt;
  et = et;
  attrs = attrs;
}

module _ (home : HomeData) (nodes : List ResourceData) (o : List ℕ) (well : is_well_formed nodes ≡ true) (picks : ResourceData → Bool) where
  -- what is left, and what the originator, who saw the whole, has of it
  abbrev left : List ResourceData
  left = without picks nodes

  abbrev had : List ResourceData
  had = map (seen home nodes o) (without picks nodes)

  tree : is_tree nodes ≡ true
  tree = tree_from_well_formed nodes well

  keeps : Keeps (without picks nodes) nodes
  keeps = keeps_without picks nodes tree

  -- the moments are seen by these
  abbrev tells : List ResourceData → ResourceData → Bool
  tells rs r = has_bit home rs o retrieve_bit r || has_bit home rs o discovery_bit r

  tells-seen : (r : ResourceData) → tells had (seen home nodes o r) ≡ tells left r
  tells-seen r =
      ap (λ b. b || has_bit home had o discovery_bit (seen home nodes o r)) (may-seen home o nodes left retrieve_bit r)
      ∙ ap (λ b. has_bit home left o retrieve_bit r || b) (may-seen home o nodes left discovery_bit r)

  tells-more : (r : ResourceData) → tells left r ≡ true → tells nodes r ≡ true
  tells-more r = or_more _ _ _ _ (may-more home o left nodes keeps retrieve_bit r) (may-more home o left nodes keeps discovery_bit r)

  ct-twice : (r : ResourceData) → seen_ct home had o (seen home nodes o r) ≡ seen_ct home left o r
  ct-twice r =
      ap (λ b. cond (b || is_filled_in home had o (seen home nodes o r)) (seen_ct home nodes o r) 0) (tells-seen r)
      ∙ ap (λ b. cond (tells left r || b) (seen_ct home nodes o r) 0) (is_filled_in-seen home o nodes left r)
      ∙ twice_chosen _ _ r.ct 0 0 (or_more _ _ _ _ (tells-more r) (is_filled_in-more home o left nodes keeps r))

  lt-twice : (r : ResourceData) → seen_lt home had o (seen home nodes o r) ≡ seen_lt home left o r
  lt-twice r =
      ap (λ b. cond b (seen_lt home nodes o r) 0) (tells-seen r) ∙ twice_chosen _ _ r.lt 0 0 (tells-more r)

  attrs-twice : (r : ResourceData) → (seen home had o (seen home nodes o r)).attrs ≡ (seen home left o r).attrs
  attrs-twice r =
      twice_filtered (seen_row home had o (seen home nodes o r)) (seen_row home nodes o r) (seen_row home left o r) (λ row. row_seen row.0 row.1) r.attrs
    where
      row_seen : (a : Attr) (d : Data) → option_and_then (seen_row home had o (seen home nodes o r)) (option_map (λ x. (a, x)) (seen_value home nodes o r a d)) ≡ option_map (λ x. (a, x)) (seen_value home left o r a d)
      row_seen a d = by_value (seen_value home nodes o r a d) _ (value_seen a d)
        where
          by_value : (x y : Option Data) → option_and_then (seen_value home had o (seen home nodes o r) a) x ≡ y → option_and_then (seen_row home had o (seen home nodes o r)) (option_map (λ z. (a, z)) x) ≡ option_map (λ z. (a, z)) y
          by_value None y e = rw (sym e) refl
          by_value (Some x) y e = rw (sym e) refl

          value_seen : (a : Attr) (d : Data) → option_and_then (seen_value home had o (seen home nodes o r) a) (seen_value home nodes o r a d) ≡ seen_value home left o r a d
          value_seen a d =
              ap (λ b. option_and_then (value_by home o b (is_policy_rules r a) (is_way r a)) (seen_value home nodes o r a d)) (is_shown-seen home o nodes left a r)
              ∙ value_twice home o (is_shown home left o r a) (is_shown home nodes o r a) (is_policy_rules r a) (is_way r a) d (is_shown-more home o left nodes keeps r a)

  module _ (r : ResourceData) (found : at r.number (without picks nodes) ≡ Some r) where
    there : at r.number nodes ≡ Some r
    there = keeps.found r.number r found

    spared : is_spared picks nodes r.number ≡ true
    spared = (found_where (is_spared picks nodes r.number) (at r.number nodes) r (sym (at-without picks r.number nodes tree) ∙ found)).0

    -- it is due when it was
    due-had : due (map (seen home nodes o) (without picks nodes)) (seen home nodes o r) ≡ due nodes r
    due-had =
        ap (λ (p : Option ResourceData). due_under p (seen home nodes o r))
        (at-map (seen home nodes o) (λ s. refl) r.parent left
        ∙ ap (option_map (seen home nodes o)) (at-without_parent picks nodes r tree there spared)
        ∙ sym (at-seen home nodes o r.parent))
        ∙ due-seen home nodes o well r there

    et-twice : seen_et home (map (seen home nodes o) (without picks nodes)) o (seen home nodes o r) ≡ seen_et home (without picks nodes) o r
    et-twice =
        let et = seen_et home nodes o r in
        let end = unwrap_or (due had (seen home nodes o r)) 0 in
        ap (λ b. cond (b || is_filled_in home had o (seen home nodes o r)) et end) (may-seen home o nodes left retrieve_bit r)
        ∙ ap (λ b. cond (has_bit home left o retrieve_bit r || b) et end) (is_filled_in-seen home o nodes left r)
        ∙ twice_chosen _ _ r.et (unwrap_or (due nodes r) 0) end (or_more _ _ _ _ (may-more home o left nodes keeps retrieve_bit r) (is_filled_in-more home o left nodes keeps r))
        ∙ ap (λ (d : Option ℕ). cond (has_bit home left o retrieve_bit r || is_filled_in home left o r) r.et (unwrap_or d 0)) (due-had ∙ sym (due-without picks nodes r tree there spared))

    pub seen-twice : seen home (map (seen home nodes o) (without picks nodes)) o (seen home nodes o r) ≡ seen home (without picks nodes) o r
    seen-twice =
        let s = seen home nodes o r in
        ap (λ owner. made r owner (seen_ct home had o s) (seen_lt home had o s) (seen_et home had o s) (seen home had o s).attrs) (owner_twice home o r)
        ∙ ap (λ ct. made r (seen_owner home o r) ct (seen_lt home had o s) (seen_et home had o s) (seen home had o s).attrs) (ct-twice r)
        ∙ ap (λ lt. made r (seen_owner home o r) (seen_ct home left o r) lt (seen_et home had o s) (seen home had o s).attrs) (lt-twice r)
        ∙ ap (λ et. made r (seen_owner home o r) (seen_ct home left o r) (seen_lt home left o r) et (seen home had o s).attrs) et-twice
        ∙ ap (made r (seen_owner home o r) (seen_ct home left o r) (seen_lt home left o r) (seen_et home left o r)) (attrs-twice r)

  -- what is left of the sight is what is left, as it was seen
  pub left-seen : (q : ResourceData → Bool) → ((r : ResourceData) → at r.number nodes ≡ Some r → q (seen home nodes o r) ≡ picks r) → without q (seen_list home nodes o) ≡ map (seen home nodes o) (without picks nodes)
  left-seen q pick =
      let g = seen home nodes o in
      map_from_zip g (without q (map g nodes)) (without picks nodes)
      (without-zip (λ s r. s ≡ g r) (λ s r e. ap (λ (x : ResourceData). x.number) e) (λ s r e. ap (λ (x : ResourceData). x.parent) e) q picks (map g nodes) nodes
      (zip-found (λ s r. (s ≡ g r) × (q s ≡ picks r)) g nodes tree (λ r found. (refl, pick r found))))

  left-twice : seen_list home (map (seen home nodes o) (without picks nodes)) o ≡ seen_list home (without picks nodes) o
  left-twice =
      let twice = λ (r : ResourceData). seen home had o (seen home nodes o r) in
      map-map (seen home had o) (seen home nodes o) left
      ∙ map_from_zip (seen home left o) (map twice left) left
      (zip-found (λ s r. s ≡ seen home left o r) twice left (is_tree-without picks nodes tree) seen-twice)

  -- a removal from the sight, of what is removed from the list, leaves the same to see
  pub seen_list-twice : (q : ResourceData → Bool) → ((r : ResourceData) → at r.number nodes ≡ Some r → q (seen home nodes o r) ≡ picks r) → seen_list home (without q (seen_list home nodes o)) o ≡ seen_list home (without picks nodes) o
  seen_list-twice q pick = ap (λ (rs : List ResourceData). seen_list home rs o) (left-seen q pick) ∙ left-twice

-- ---- equal sights

pub without-same : (home : HomeData) (xs ys : List ResourceData) (o : List ℕ) (picks : ℕ → Bool) → is_well_formed xs ≡ true → is_well_formed ys ≡ true → seen_list home xs o ≡ seen_list home ys o → seen_list home (without (λ r. picks r.number) xs) o ≡ seen_list home (without (λ r. picks r.number) ys) o
without-same home xs ys o picks wellx welly same =
    let p = λ (r : ResourceData). picks r.number in
    sym (seen_list-twice home xs o wellx p p (λ r found. refl))
    ∙ ap (λ (rs : List ResourceData). seen_list home (without p rs) o) same
    ∙ seen_list-twice home ys o welly p p (λ r found. refl)

pub live-same : (home : HomeData) (xs ys : List ResourceData) (o : List ℕ) (m : ℕ) → is_well_formed xs ≡ true → is_well_formed ys ≡ true → seen_list home xs o ≡ seen_list home ys o → seen_list home (live m xs) o ≡ seen_list home (live m ys) o
live-same home xs ys o m wellx welly same =
    sym (seen_list-twice home xs o wellx (is_due xs m) (is_due (seen_list home xs o) m) (is_due-seen home xs o wellx m))
    ∙ ap (λ (rs : List ResourceData). seen_list home (live m rs) o) same
    ∙ seen_list-twice home ys o welly (is_due ys m) (is_due (seen_list home ys o) m) (is_due-seen home ys o welly m)
