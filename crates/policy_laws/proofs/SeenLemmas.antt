-- What an originator sees keeps its rights.
use Rattle.policy_laws.proofs.Words.{codes, nat_eq, nat_le, ◌≡◌, ℕ, ◌<◌, List, [], ◌∷◌, ◌++◌, map, length, Bool, true, false, cond, Option, Some, None, option_map, inl, inr, refl, sym, ap, ◌∙◌, subst, arith, append_assoc, length-append, AllByRecursion, cons_option, filter_map, starts_with, option_and_then, option_map_or, option_or, is_eq, ℤ, negsuc}
use Rattle.policy_laws.proofs.Terms.{Attr, Poa, Pv, Pvs, AccessControlPolicy, RemoteCse, Data, AreInOrder, Row, attr_cmp, is_attr, value_of, HomeData, ResourceData, is_ty, ae_id, cse_id, at, child_of, full_form, own_lead, is_same, all_bits, is_attr_in, texts_of, member_at, member_number, sum_of_bits, stated_rule, rules_in, listed_in, is_subject, with_rule, with_rules, bits_by, grants, relinks, fan_grants}
use Rattle.policy_laws.proofs.Facts.{cases_Bool, cond_both, le-leb, leb-true, false_from_ne_true, or_cases, or_left, or_right, or_from, and_from, and_parts, and_right, cond-true, cond-false, bit_at_or, bit_at-zero, same_from_bits, is_attr-same, at-map, found_is}
use Rattle.std.proofs.lemmas.Nat.{or_lt}
use Rattle.std.proofs.lemmas.Slice.Eq.{bytes_eq-Decides}
use Rattle.std.specs.List.Sorted.{IsStrictlySortedBy}
use Rattle.std.specs.Map.{keys_of}
use Rattle.std.specs.Prelude.{pos}
use Rattle.std.specs.declared.cmp.Ordering.TheVariants.{Less}
use Rattle.equal_sights.specs.Alike.{shape_attrs, Alike, AreAlike}
use Rattle.equal_sights.specs.Seen.{is_url, first_url, only_point, seen_points, way_in, retrieve_bit, discovery_bit, has_bit, fills, is_filled_in, may_use, found_attrs, limit_attrs, size_attrs, member_attrs, Shows, is_shown, plain_rules, seen_rules, is_policy_rules, is_way, seen_value, another, seen_owner, seen_ct, seen_lt, seen_et, seen, seen_list}
use Rattle.policy_laws.proofs.AlikeLemmas.{GiveSame, same_itself, same_from_by, alike-map, child-alike, ae_id-alike, cse_id-alike, grants-alike, relinks-alike, fan_grants-alike}

-- ---- values

-- a row of another attribute changes nothing
skipped : (a b : Attr) (o : Option Data) (rows : List Row) → is_attr a b ≡ false → value_of a (cons_option (option_map (λ (d : Data). (b, d)) o) rows) ≡ value_of a rows
skipped a b None rows other = refl
skipped a b (Some d) rows other = rw other refl

pub value-shown : (h : Attr → Data → Option Data) (a : Attr) (k : Data → Data) → ((d : Data) → h a d ≡ Some (k d)) → (rows : List Row) → value_of a (filter_map (λ (row : Row). option_map (λ (d : Data). (row.0, d)) (h row.0 row.1)) rows) ≡ option_map k (value_of a rows)
value-shown h a k shown [] = refl
value-shown h a k shown (row ∷ rows) = elim (cases_Bool (is_attr a row.0)) [
  | inl t ↦
      let here : h row.0 row.1 ≡ Some (k row.1) = subst (λ (b : Attr). h b row.1 ≡ Some (k row.1)) (is_attr-same a row.0 t) (shown row.1) in
      rw here (rw t refl)
  | inr f ↦ skipped a row.0 (h row.0 row.1) _ f ∙ value-shown h a k shown rows ∙ rw f refl
]

pub itself : {X : Type 0} (x : Option X) → option_map (λ (d : X). d) x ≡ x
itself None = refl
itself (Some d) = refl

-- ---- rules

sum_below : (z : ℤ) → sum_of_bits z < 64
sum_below (pos n) = elim (cases_Bool (nat_le n all_bits)) [
  | inl t ↦ rw t (omega (arith, leb-true n all_bits t))
  | inr f ↦ rw f (omega arith)
]
sum_below (negsuc n) = omega arith

rule_below : (d : Data) → (stated_rule d).bits < 64
rule_below d = by_number (member_number (codes "acop") d)
  where
    by_number : (z : Option ℤ) → option_map_or sum_of_bits z 0 < 64
    by_number None = omega arith
    by_number (Some z) = sum_below z

with_below : (home : HomeData) (o : List ℕ) (a : ℕ) (ds : List Data) → a < 64 → with_rules home o a (map stated_rule ds) < 64
with_below home o a [] small = small
with_below home o a (d ∷ ds) small =
    with_below home o (with_rule home o a (stated_rule d)) ds
    (cond_both (is_subject home o (stated_rule d).subjects) _ _ (λ (n : ℕ). n < 64) (λ t. or_lt 6 a (stated_rule d).bits small (rule_below d)) (λ f. small))

pub bits_below : (home : HomeData) (o : List ℕ) (d : Option Data) → bits_by home o (rules_in d) < 64
bits_below home o d = with_below home o 0 (listed_in (option_and_then (member_at (codes "acr")) d)) (omega arith)

pub plain_bits : (home : HomeData) (o : List ℕ) (n : ℕ) → n < 64 → bits_by home o (rules_in (Some (plain_rules n))) ≡ n
plain_bits home o n small = rw (le-leb n all_bits (omega (arith, small))) (same_from_bits _ _ (λ i. omega (arith, bit_at_or 0 n i, bit_at-zero i)))

seen_same : (home : HomeData) (o : List ℕ) (d : Data) → GiveSame home o (rules_in (Some (seen_rules home o d))) (rules_in (Some d))
seen_same home o d = same_from_by home o _ _ (plain_bits home o _ (bits_below home o (Some d)))

pub shown_or : (s : Bool) (x y : Data) → cond s (Some x) (Some y) ≡ Some (cond s x y)
shown_or true x y = refl
shown_or false x y = refl

pub policy_same : (home : HomeData) (o : List ℕ) (s : Bool) (v : Option Data) → GiveSame home o (rules_in (option_map (λ d. cond s d (seen_rules home o d)) v)) (rules_in v)
policy_same home o s None = same_itself home o _
policy_same home o true (Some d) = same_itself home o _
policy_same home o false (Some d) = seen_same home o d

-- ---- owners

-- a longer text has a longer full form
full_form-more : (home : HomeData) (o more : List ℕ) → starts_with nat_eq (o ++ more) (47 ∷ []) ≡ starts_with nat_eq o (47 ∷ []) → full_form home (o ++ more) ≡ full_form home o ++ more
full_form-more home o more same = rw same (elim (cases_Bool (starts_with nat_eq o (47 ∷ []))) [
  | inl t ↦ rw t refl
  | inr f ↦ rw f (ap (λ t. 47 ∷ t) (sym (append_assoc (own_lead home) o more)))
])

pub another_apart : (home : HomeData) (o : List ℕ) → is_same home o (another o) ≡ false
another_apart home o = false_from_ne_true _ (λ same.
    let e : full_form home o ≡ full_form home o ++ 32 ∷ [] = (bytes_eq-Decides (full_form home o) (full_form home (another o))).0 same ∙ full_form-more home o (32 ∷ []) (front o) in
    absurd (omega (arith, ap length e, length-append (full_form home o) (32 ∷ []))))
  where
    front : (o : List ℕ) → starts_with nat_eq (o ++ 32 ∷ []) (47 ∷ []) ≡ starts_with nat_eq o (47 ∷ [])
    front [] = refl
    front (x ∷ xs) = refl

same_with_itself : (home : HomeData) (o : List ℕ) → is_same home o o ≡ true
same_with_itself home o = (bytes_eq-Decides (full_form home o) (full_form home o)).1 refl

pub owner_seen : (home : HomeData) (o : List ℕ) (r : ResourceData) → is_same home o (seen_owner home o r) ≡ is_same home o r.owner
owner_seen home o r = elim (cases_Bool (is_same home o r.owner)) [
  | inl t ↦ rw t (same_with_itself home o)
  | inr f ↦ rw f (another_apart home o)
]

-- ---- the list as the originator sees it

kept_value : (home : HomeData) (nodes : List ResourceData) (o : List ℕ) (r : ResourceData) (a : Attr) → ((d : Data) → seen_value home nodes o r a d ≡ Some d) → value_of a (seen home nodes o r).attrs ≡ value_of a r.attrs
kept_value home nodes o r a shown = value-shown (seen_value home nodes o r) a (λ d. d) shown r.attrs ∙ itself _

pub shown_kept : (home : HomeData) (nodes : List ResourceData) (o : List ℕ) (r : ResourceData) (a : Attr) → is_shown home nodes o r a ≡ true → value_of a (seen home nodes o r).attrs ≡ value_of a r.attrs
shown_kept home nodes o r a shown = kept_value home nodes o r a (λ d. rw shown refl)

pub shape_shown : (home : HomeData) (nodes : List ResourceData) (o : List ℕ) (r : ResourceData) (a : Attr) → is_attr_in (shape_attrs r.ty) a ≡ true → is_shown home nodes o r a ≡ true
shape_shown home nodes o r a one = or_left _ _ (or_left _ _ (or_left _ _ (or_left _ _ (or_left _ _ one))))

-- of the rules of a policy either all is seen or what they give
rules_shown : (home : HomeData) (nodes : List ResourceData) (o : List ℕ) (r : ResourceData) (a : Attr) → is_policy_rules r a ≡ true → (d : Data) → seen_value home nodes o r a d ≡ Some (cond (is_shown home nodes o r a) d (seen_rules home o d))
rules_shown home nodes o r a rules d =
    ap (λ b. cond (is_shown home nodes o r a) (Some d) (cond b (Some (seen_rules home o d)) (cond (is_way r a) (seen_points d) None))) rules
    ∙ shown_or (is_shown home nodes o r a) d (seen_rules home o d)

-- what is seen of a resource is alike to it, and so is the list
pub seen_alike : (home : HomeData) (nodes : List ResourceData) (o : List ℕ) (r : ResourceData) → Alike home o (seen home nodes o r) r
seen_alike home nodes o r = record {
  number = refl;
  ty = refl;
  name = refl;
  parent = refl;
  owned = owner_seen home o r;
  shape = λ a one. shown_kept home nodes o r a (shape_shown home nodes o r a one);
  pv = λ policy. rw (value-shown (seen_value home nodes o r) Pv (λ d. cond (is_shown home nodes o r Pv) d (seen_rules home o d)) (rules_shown home nodes o r Pv (and_from _ _ policy refl)) r.attrs) ((policy_same home o _ (value_of Pv r.attrs)).bits 0);
  pvs = λ policy. rw (value-shown (seen_value home nodes o r) Pvs (λ d. cond (is_shown home nodes o r Pvs) d (seen_rules home o d)) (rules_shown home nodes o r Pvs (and_from _ _ policy refl)) r.attrs) ((policy_same home o _ (value_of Pvs r.attrs)).bits 0);
}

pub seen_map_alike : (home : HomeData) (nodes : List ResourceData) (o : List ℕ) (rs : List ResourceData) → AreAlike home o (map (seen home nodes o) rs) rs
seen_map_alike home nodes o rs = alike-map home o (seen home nodes o) (seen_alike home nodes o) rs

pub seen_list_alike : (home : HomeData) (nodes : List ResourceData) (o : List ℕ) → AreAlike home o (seen_list home nodes o) nodes
seen_list_alike home nodes o = seen_map_alike home nodes o nodes

pub at-seen : (home : HomeData) (nodes : List ResourceData) (o : List ℕ) (n : ℕ) → at n (seen_list home nodes o) ≡ option_map (seen home nodes o) (at n nodes)
at-seen home nodes o n = at-map (seen home nodes o) (λ r. refl) n nodes

pub child-seen : (home : HomeData) (nodes : List ResourceData) (o : List ℕ) (parent : ℕ) (name : List ℕ) → child_of parent name (seen_list home nodes o) ≡ child_of parent name nodes
child-seen home nodes o parent name = child-alike home o (seen_list home nodes o) nodes (seen_list_alike home nodes o) parent name

pub ae_id-seen : (home : HomeData) (nodes : List ResourceData) (o : List ℕ) (r : ResourceData) → ae_id (seen home nodes o r) ≡ ae_id r
ae_id-seen home nodes o r = ae_id-alike home o (seen home nodes o r) r (seen_alike home nodes o r)

pub cse_id-seen : (home : HomeData) (nodes : List ResourceData) (o : List ℕ) (r : ResourceData) → cse_id (seen home nodes o r) ≡ cse_id r
cse_id-seen home nodes o r = cse_id-alike home o (seen home nodes o r) r (seen_alike home nodes o r)

pub grants-seen : (home : HomeData) (nodes : List ResourceData) (o : List ℕ) (bit n : ℕ) → grants home (seen_list home nodes o) o bit n ≡ grants home nodes o bit n
grants-seen home nodes o bit n = grants-alike home o (seen_list home nodes o) nodes (seen_list_alike home nodes o) bit n

pub relinks-seen : (home : HomeData) (nodes : List ResourceData) (o : List ℕ) (n : ℕ) → relinks home (seen_list home nodes o) o n ≡ relinks home nodes o n
relinks-seen home nodes o n = relinks-alike home o (seen_list home nodes o) nodes (seen_list_alike home nodes o) n

pub fan_grants-seen : (home : HomeData) (nodes : List ResourceData) (o : List ℕ) (bit n : ℕ) → fan_grants home (seen_list home nodes o) o bit n ≡ fan_grants home nodes o bit n
fan_grants-seen home nodes o bit n = fan_grants-alike home o (seen_list home nodes o) nodes (seen_list_alike home nodes o) bit n

-- ---- what is shown of a resource

retrieve_shown : (home : HomeData) (nodes : List ResourceData) (o : List ℕ) (r : ResourceData) (a : Attr) → has_bit home nodes o retrieve_bit r ≡ true → is_shown home nodes o r a ≡ true
retrieve_shown home nodes o r a right = or_left _ _ (or_left _ _ (or_left _ _ (or_left _ _ (or_right _ _ right))))

found_shown : (home : HomeData) (nodes : List ResourceData) (o : List ℕ) (r : ResourceData) (a : Attr) → has_bit home nodes o discovery_bit r ≡ true → is_attr_in found_attrs a ≡ true → is_shown home nodes o r a ≡ true
found_shown home nodes o r a right one = or_left _ _ (or_left _ _ (or_left _ _ (or_right _ _ (and_from _ _ right one))))

limits_shown : (home : HomeData) (nodes : List ResourceData) (o : List ℕ) (r : ResourceData) (a : Attr) → fills home nodes o r ≡ true → is_attr_in limit_attrs a ≡ true → is_shown home nodes o r a ≡ true
limits_shown home nodes o r a right one = or_left _ _ (or_left _ _ (or_right _ _ (and_from _ _ right one)))

size_shown : (home : HomeData) (nodes : List ResourceData) (o : List ℕ) (r : ResourceData) (a : Attr) → is_filled_in home nodes o r ≡ true → is_attr_in size_attrs a ≡ true → is_shown home nodes o r a ≡ true
size_shown home nodes o r a right one = or_left _ _ (or_right _ _ (and_from _ _ right one))

members_shown : (home : HomeData) (nodes : List ResourceData) (o : List ℕ) (r : ResourceData) (a : Attr) → may_use home nodes o r ≡ true → is_attr_in member_attrs a ≡ true → is_shown home nodes o r a ≡ true
members_shown home nodes o r a right one = or_right _ _ (and_from _ _ right one)

rows_kept : (h : Row → Option Row) → ((row : Row) → h row ≡ Some row) → (rows : List Row) → filter_map h rows ≡ rows
rows_kept h kept [] = refl
rows_kept h kept (row ∷ rows) = rw (kept row) (ap (λ (rest : List Row). row ∷ rest) (rows_kept h kept rows))

pub hidden_row : (h : Attr → Data → Option Data) (a : Attr) → ((d : Data) → h a d ≡ None) → (rows : List Row) → value_of a (filter_map (λ (row : Row). option_map (λ (d : Data). (row.0, d)) (h row.0 row.1)) rows) ≡ None
hidden_row h a none [] = refl
hidden_row h a none (row ∷ rows) = elim (cases_Bool (is_attr a row.0)) [
  | inl t ↦
      let here : h row.0 row.1 ≡ None = subst (λ (b : Attr). h b row.1 ≡ None) (is_attr-same a row.0 t) (none row.1) in
      rw here (hidden_row h a none rows)
  | inr f ↦ skipped a row.0 (h row.0 row.1) _ f ∙ hidden_row h a none rows
]

-- the first URL of a URL alone is that URL
pub one_point : (u : List ℕ) → is_url u ≡ true → first_url (Some (only_point u)) ≡ Some u
one_point u is = rw is refl

pub first_passes : (d : Data) (u : List ℕ) → first_url (Some d) ≡ Some u → is_url u ≡ true
first_passes d u first = found_is is_url (texts_of (listed_in (Some d))) u first

-- a row of points of access that is shown, or of which the first URL is shown
one_way : (b : Attr) (d : Data) (s : Bool) → is_attr Poa b ≡ true → (more less : List Row) → way_in more ≡ way_in less → way_in (cons_option (option_map (λ (x : Data). (b, x)) (cond s (Some d) (seen_points d))) more) ≡ option_or (first_url (Some d)) (way_in less)
one_way b d true is more less same = rw is (ap (option_or (first_url (Some d))) same)
one_way b d false is more less same = by_first (first_url (Some d)) (first_passes d)
  where
    by_first : (x : Option (List ℕ)) → ((u : List ℕ) → x ≡ Some u → is_url u ≡ true) → way_in (cons_option (option_map (λ (y : Data). (b, y)) (option_map only_point x)) more) ≡ option_or x (way_in less)
    by_first None passes = same
    by_first (Some u) passes = rw (is, passes u refl) refl

other_way : (b : Attr) (x : Option Data) (more : List Row) → is_attr Poa b ≡ false → way_in (cons_option (option_map (λ (d : Data). (b, d)) x) more) ≡ way_in more
other_way b None more other = refl
other_way b (Some d) more other = rw other refl

way-kept : (h : Attr → Data → Option Data) (s : Bool) → ((d : Data) → h Poa d ≡ cond s (Some d) (seen_points d)) → (rows : List Row) → way_in (filter_map (λ (row : Row). option_map (λ (d : Data). (row.0, d)) (h row.0 row.1)) rows) ≡ way_in rows
way-kept h s points [] = refl
way-kept h s points (row ∷ rows) = elim (cases_Bool (is_attr Poa row.0)) [
  | inl t ↦
      let here : h row.0 row.1 ≡ cond s (Some row.1) (seen_points row.1) = subst (λ (b : Attr). h b row.1 ≡ cond s (Some row.1) (seen_points row.1)) (is_attr-same Poa row.0 t) (points row.1) in
      rw (here, t) (one_way row.0 row.1 s t _ rows (way-kept h s points rows))
  | inr f ↦ other_way row.0 (h row.0 row.1) _ f ∙ way-kept h s points rows ∙ rw f refl
]

-- of the points of access of a remote CSE either all is seen or the first URL
points_shown : (home : HomeData) (nodes : List ResourceData) (o : List ℕ) (r : ResourceData) → is_ty r.ty RemoteCse ≡ true → (d : Data) → seen_value home nodes o r Poa d ≡ cond (is_shown home nodes o r Poa) (Some d) (seen_points d)
points_shown home nodes o r remote d =
    ap (λ b. cond (is_shown home nodes o r Poa) (Some d) (cond b (Some (seen_rules home o d)) (cond (is_way r Poa) (seen_points d) None))) (and_right (is_ty r.ty AccessControlPolicy) _ refl)
    ∙ ap (λ b. cond (is_shown home nodes o r Poa) (Some d) (cond b (seen_points d) None)) (and_from (is_ty r.ty RemoteCse) _ remote refl)

way_shown : (home : HomeData) (nodes : List ResourceData) (o : List ℕ) (r : ResourceData) → is_ty r.ty RemoteCse ≡ true → way_in (seen home nodes o r).attrs ≡ way_in r.attrs
way_shown home nodes o r remote =
    way-kept (seen_value home nodes o r) (is_shown home nodes o r Poa) (points_shown home nodes o r remote) r.attrs

-- where points of access are hidden, what is seen of them is the first URL
one_point_shown : (b : Attr) (d : Data) → is_attr Poa b ≡ true → (more less : List Row) → value_of Poa more ≡ option_map only_point (way_in less) → value_of Poa (cons_option (option_map (λ (x : Data). (b, x)) (seen_points d)) more) ≡ option_map only_point (option_or (first_url (Some d)) (way_in less))
one_point_shown b d is more less same = by_first (first_url (Some d))
  where
    by_first : (x : Option (List ℕ)) → value_of Poa (cons_option (option_map (λ (y : Data). (b, y)) (option_map only_point x)) more) ≡ option_map only_point (option_or x (way_in less))
    by_first None = same
    by_first (Some u) = rw is refl

points-hidden : (h : Attr → Data → Option Data) → ((d : Data) → h Poa d ≡ seen_points d) → (rows : List Row) → value_of Poa (filter_map (λ (row : Row). option_map (λ (d : Data). (row.0, d)) (h row.0 row.1)) rows) ≡ option_map only_point (way_in rows)
points-hidden h points [] = refl
points-hidden h points (row ∷ rows) = elim (cases_Bool (is_attr Poa row.0)) [
  | inl t ↦
      let here : h row.0 row.1 ≡ seen_points row.1 = subst (λ (b : Attr). h b row.1 ≡ seen_points row.1) (is_attr-same Poa row.0 t) (points row.1) in
      rw (here, t) (one_point_shown row.0 row.1 t _ rows (points-hidden h points rows))
  | inr f ↦ skipped Poa row.0 (h row.0 row.1) _ f ∙ points-hidden h points rows ∙ rw f refl
]

-- rows that are in order have one row of `poa` at most
no_way : (a : Attr) (rows : List Row) → AllByRecursion (λ b. attr_cmp a b ≡ Less) (keys_of rows) → is_attr Poa a ≡ true → way_in rows ≡ None
no_way a [] later is = refl
no_way a (row ∷ rows) later is =
    let other : is_attr Poa row.0 ≡ false = subst (λ (b : Attr). is_attr b row.0 ≡ false) (sym (is_attr-same Poa a is)) (ap is_eq later.0) in
    rw other (no_way a rows later.1 is)

-- so they reach by the first URL of the value of `poa`
pub way-in_order : (rows : List Row) → AreInOrder rows → way_in rows ≡ first_url (value_of Poa rows)
unfolding IsStrictlySortedBy
way-in_order [] sorted = refl
way-in_order (row ∷ rows) sorted = elim (cases_Bool (is_attr Poa row.0)) [
  | inl t ↦ rw (t, no_way row.0 rows sorted.0 t) (alone (first_url (Some row.1)))
  | inr f ↦ rw f (way-in_order rows sorted.1)
]
  where
    alone : (x : Option (List ℕ)) → option_or x None ≡ x
    alone None = refl
    alone (Some u) = refl

pub seen_shows : (home : HomeData) (nodes : List ResourceData) (o : List ℕ) (r : ResourceData) → Shows home nodes o r (seen home nodes o r)
seen_shows home nodes o r = record {
  always = seen_alike home nodes o r;
  way = way_shown home nodes o r;
  retrieved = λ right. (rows_kept _ (λ row. rw (retrieve_shown home nodes o r row.0 right) refl) r.attrs, rw right refl, rw right refl, rw right refl);
  found = λ right. (λ a one. shown_kept home nodes o r a (found_shown home nodes o r a right one), found_ct right, found_lt right);
  filled = λ right a one. shown_kept home nodes o r a (limits_shown home nodes o r a right one);
  inside = λ right. (λ a one. shown_kept home nodes o r a (size_shown home nodes o r a right one), inside_ct right, inside_et right);
  used = λ right a one. shown_kept home nodes o r a (members_shown home nodes o r a right one);
  owner = refl;
  rules = λ a rules hides. value-shown (seen_value home nodes o r) a (seen_rules home o) (λ d. rules_shown home nodes o r a rules d ∙ ap (λ b. Some (cond b d (seen_rules home o d))) hides) r.attrs;
  points = λ remote hides. points-hidden (seen_value home nodes o r) (λ d. points_shown home nodes o r remote d ∙ ap (λ b. cond b (Some d) (seen_points d)) hides) r.attrs;
  hidden = λ a hides other away. hidden_row (seen_value home nodes o r) a (λ d. rw (hides, other, away) refl) r.attrs;
  silent_ct = λ right tell never. cond-false _ r.ct 0 (or_from _ _ (or_from _ _ right tell) never);
  silent_lt = λ right tell. cond-false _ r.lt 0 (or_from _ _ right tell);
  silent_et = λ right never. cond-false _ r.et _ (or_from _ _ right never);
}
  where
    found_ct : has_bit home nodes o discovery_bit r ≡ true → (seen home nodes o r).ct ≡ r.ct
    found_ct right = cond-true _ r.ct 0 (or_left _ _ (or_right _ _ right))

    found_lt : has_bit home nodes o discovery_bit r ≡ true → (seen home nodes o r).lt ≡ r.lt
    found_lt right = cond-true _ r.lt 0 (or_right _ _ right)

    inside_ct : is_filled_in home nodes o r ≡ true → (seen home nodes o r).ct ≡ r.ct
    inside_ct right = cond-true _ r.ct 0 (or_right _ _ right)

    inside_et : is_filled_in home nodes o r ≡ true → (seen home nodes o r).et ≡ r.et
    inside_et right = cond-true _ r.et _ (or_right _ _ right)

-- ---- what shows a resource so has the attributes and moments of its sight

module _ (home : HomeData) (nodes : List ResourceData) (o : List ℕ) (r s : ResourceData) (shows : Shows home nodes o r s) where
  by_rights : (a : Attr) → is_shown home nodes o r a ≡ true → value_of a s.attrs ≡ value_of a r.attrs
  by_rights a shown = elim (or_cases _ _ shown) [
    | inr used ↦ (let parts = and_parts (may_use home nodes o r) _ used in shows.used parts.0 a parts.1)
    | inl shown ↦ elim (or_cases _ _ shown) [
      | inr inside ↦ (let parts = and_parts (is_filled_in home nodes o r) _ inside in (shows.inside parts.0).0 a parts.1)
      | inl shown ↦ elim (or_cases _ _ shown) [
        | inr filled ↦ (let parts = and_parts (fills home nodes o r) _ filled in shows.filled parts.0 a parts.1)
        | inl shown ↦ elim (or_cases _ _ shown) [
          | inr found ↦ (let parts = and_parts (has_bit home nodes o discovery_bit r) _ found in (shows.found parts.0).0 a parts.1)
          | inl shown ↦ elim (or_cases (is_attr_in (shape_attrs r.ty) a) _ shown) [
            | inr right ↦ ap (value_of a) (shows.retrieved right).0
            | inl one ↦ shows.always.shape a one
          ]
        ]
      ]
    ]
  ]

  pub value-pinned : (a : Attr) → value_of a s.attrs ≡ value_of a (seen home nodes o r).attrs
  value-pinned a =
      let sight = seen_shows home nodes o r in
      elim (cases_Bool (is_shown home nodes o r a)) [
        | inl shown ↦ by_rights a shown ∙ sym (shown_kept home nodes o r a shown)
        | inr hides ↦ elim (cases_Bool (is_policy_rules r a)) [
          | inl rules ↦ shows.rules a rules hides ∙ sym (sight.rules a rules hides)
          | inr other ↦ elim (cases_Bool (is_way r a)) [
            | inl way ↦
                let parts = and_parts (is_ty r.ty RemoteCse) (is_attr a Poa) way in
                let same : a ≡ Poa = is_attr-same a Poa parts.1 in
                let hid : is_shown home nodes o r Poa ≡ false = ap (is_shown home nodes o r) (sym same) ∙ hides in
                subst (λ (b : Attr). value_of b s.attrs ≡ value_of b (seen home nodes o r).attrs) (sym same) (shows.points parts.0 hid ∙ sym (sight.points parts.0 hid))
            | inr away ↦ shows.hidden a hides other away ∙ sym (sight.hidden a hides other away)
          ]
        ]
      ]

  pub moments-pinned : (s.ct ≡ seen_ct home nodes o r) × (s.lt ≡ seen_lt home nodes o r) × (s.et ≡ seen_et home nodes o r)
  moments-pinned =
      let sight = seen_shows home nodes o r in
      elim (cases_Bool (has_bit home nodes o retrieve_bit r)) [
        | inl right ↦
            let mine = shows.retrieved right in
            let whole = sight.retrieved right in
            (mine.1 ∙ sym whole.1, mine.2 ∙ sym whole.2, mine.3 ∙ sym whole.3)
        | inr none ↦ (by_ct none, by_lt none, by_et none)
      ]
    where
      by_lt : has_bit home nodes o retrieve_bit r ≡ false → s.lt ≡ seen_lt home nodes o r
      by_lt none = elim (cases_Bool (has_bit home nodes o discovery_bit r)) [
        | inl finds ↦ (shows.found finds).2 ∙ sym ((seen_shows home nodes o r).found finds).2
        | inr silent ↦ shows.silent_lt none silent ∙ sym ((seen_shows home nodes o r).silent_lt none silent)
      ]

      by_ct : has_bit home nodes o retrieve_bit r ≡ false → s.ct ≡ seen_ct home nodes o r
      by_ct none = elim (cases_Bool (has_bit home nodes o discovery_bit r)) [
        | inl finds ↦ (shows.found finds).1 ∙ sym ((seen_shows home nodes o r).found finds).1
        | inr silent ↦ elim (cases_Bool (is_filled_in home nodes o r)) [
          | inl inside ↦ (shows.inside inside).1 ∙ sym ((seen_shows home nodes o r).inside inside).1
          | inr never ↦ shows.silent_ct none silent never ∙ sym ((seen_shows home nodes o r).silent_ct none silent never)
        ]
      ]

      by_et : has_bit home nodes o retrieve_bit r ≡ false → s.et ≡ seen_et home nodes o r
      by_et none = elim (cases_Bool (is_filled_in home nodes o r)) [
        | inl inside ↦ (shows.inside inside).2 ∙ sym ((seen_shows home nodes o r).inside inside).2
        | inr never ↦ shows.silent_et none never ∙ sym ((seen_shows home nodes o r).silent_et none never)
      ]
