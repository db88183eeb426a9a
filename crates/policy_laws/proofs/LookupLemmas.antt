-- A resource is seen the same in lists where what it is judged by is found the same.
use Rattle.policy_laws.proofs.Words.{nat_lt, unwrap_or, ◌≡◌, ℕ, List, [], ◌∷◌, ◌++◌, length, Bool, false, cond, ◌&&◌, ◌||◌, Option, Some, None, option_map, refl, sym, ap, ◌∙◌, cons_option, filter_map, flat_map, list_any, option_map_or}
use Rattle.policy_laws.proofs.Terms.{Attr, Acpi, Macp, Poa, Pv, Pvs, Ty, AccessControlPolicy, Container, ContentInstance, Group, PollingChannel, RemoteCse, Data, Row, is_attr, value_of, HomeData, ResourceData, is_ty, at, due, all_bits, is_attr_in, only, Rule, rule_for, rules_in, policy_of, policies_of, rules_by, listed_in, ids_at, linked_ids, owner_rules, registree, linked_rules, channel_rules, rules_of, fan_rules, bits_by, has_bits}
use Rattle.policy_laws.proofs.Facts.{list_any-append, or_parts}
use Rattle.equal_sights.specs.Alike.{shape_attrs}
use Rattle.equal_sights.specs.Seen.{create_bit, update_bit, retrieve_bit, discovery_bit, has_bit, fills, is_filled_in, may_use, found_attrs, limit_attrs, size_attrs, member_attrs, is_shown, seen_value, seen_row, seen_owner, seen, is_policy_rules, is_way}
use Rattle.policy_laws.proofs.ChoiceLemmas.{both_chosen}
use Rattle.policy_laws.proofs.TwiceLemmas.{made, value_by}

-- ---- rules

-- two resources by which everyone is judged the same
pub record JudgeSame (p q : ResourceData) : Type 0 where
  pub ty : p.ty ≡ q.ty
  pub parent : p.parent ≡ q.parent
  pub owner : p.owner ≡ q.owner
  pub acpi : value_of Acpi p.attrs ≡ value_of Acpi q.attrs
  pub pv : value_of Pv p.attrs ≡ value_of Pv q.attrs
  pub pvs : value_of Pvs p.attrs ≡ value_of Pvs q.attrs
  pub registree : registree p ≡ registree q

pub judge_itself : (p : ResourceData) → JudgeSame p p
judge_itself p = record {
  ty = refl;
  parent = refl;
  owner = refl;
  acpi = refl;
  pv = refl;
  pvs = refl;
  registree = refl;
}

-- two look-ups find such resources, or both find none
abbrev pub FindSame : Option ResourceData → Option ResourceData → Type 0
FindSame None None = Unit {0}
FindSame None (Some q) = ⊥
FindSame (Some p) None = ⊥
FindSame (Some p) (Some q) = JudgeSame p q

pub find_itself : (p : Option ResourceData) → FindSame p p
find_itself None = tt
find_itself (Some p) = judge_itself p

-- the rules of a resource, by its type
abbrev by_ty : Ty → List Rule → List Rule → List Rule → List Rule → List Rule
by_ty ty own above channel linked =
    cond (is_ty ty AccessControlPolicy) own (cond (is_ty ty ContentInstance) above (cond (is_ty ty PollingChannel) channel linked))

above_same : (f g : ResourceData → List Rule) (p q : Option ResourceData) → FindSame p q → ((s r : ResourceData) → q ≡ Some r → JudgeSame s r → f s ≡ g r) → option_map_or f p [] ≡ option_map_or g q []
above_same f g None None found same = refl
above_same f g None (Some r) found same = absurd found
above_same f g (Some s) None found same = absurd found
above_same f g (Some s) (Some r) found same = same s r refl found

channel_same : (s r : ResourceData) → JudgeSame s r → channel_rules s ≡ channel_rules r
channel_same s r same = ap (λ (id : Option (List ℕ)). option_map_or (λ id. rule_for (only id) all_bits ∷ []) id []) same.registree

-- a test of ids, and what it says of those that a resource lists
abbrev pub does_list : (Data → Bool) → ResourceData → Bool
does_list named r = list_any named (linked_ids r)

-- ids but those of a test name the same policies in both lists, no resource of the one lists those,
-- and what stands above its resources is found the same
pub record FindsSame (named : Data → Bool) (zs xs : List ResourceData) : Type 0 where
  pub policies : (id : Data) → named id ≡ false → FindSame (policy_of zs id) (policy_of xs id)
  pub free : (n : ℕ) (r : ResourceData) → at n xs ≡ Some r → does_list named r ≡ false
  pub above : (n : ℕ) (r : ResourceData) → at n xs ≡ Some r → FindSame (at r.parent zs) (at r.parent xs)

module _ (named : Data → Bool) (zs xs : List ResourceData) (finds : FindsSame named zs xs) where
  one_joined : (p q : Option ResourceData) → FindSame p q → (ps qs : List ResourceData) → flat_map (λ (r : ResourceData). rules_in (value_of Pv r.attrs)) ps ≡ flat_map (λ (r : ResourceData). rules_in (value_of Pv r.attrs)) qs → flat_map (λ (r : ResourceData). rules_in (value_of Pv r.attrs)) (cons_option p ps) ≡ flat_map (λ (r : ResourceData). rules_in (value_of Pv r.attrs)) (cons_option q qs)
  one_joined None None found ps qs rest = rest
  one_joined None (Some q) found ps qs rest = absurd found
  one_joined (Some p) None found ps qs rest = absurd found
  one_joined (Some p) (Some q) found ps qs rest =
      ap (λ (d : Option Data). rules_in d ++ flat_map (λ (r : ResourceData). rules_in (value_of Pv r.attrs)) ps) found.pv
      ∙ ap (λ (rules : List Rule). rules_in (value_of Pv q.attrs) ++ rules) rest

  joined_same : (ids : List Data) → list_any named ids ≡ false → rules_by Pv zs ids ≡ rules_by Pv xs ids
  joined_same [] none = refl
  joined_same (id ∷ ids) none =
      let parts = or_parts (named id) (list_any named ids) none in
      one_joined (policy_of zs id) (policy_of xs id) (finds.policies id parts.0) (policies_of zs ids) (policies_of xs ids) (joined_same ids parts.1)

  -- by the ids that an attribute lists, else by other rules
  by_ids_same : (d e : Option Data) (rules more : List Rule) → d ≡ e → list_any named (listed_in e) ≡ false → rules ≡ more → cond (nat_lt 0 (length (listed_in d))) (rules_by Pv zs (listed_in d)) rules ≡ cond (nat_lt 0 (length (listed_in e))) (rules_by Pv xs (listed_in e)) more
  by_ids_same d e rules more same none other =
      ap (λ (x : Option Data). cond (nat_lt 0 (length (listed_in x))) (rules_by Pv zs (listed_in x)) rules) same
      ∙ ap (λ (those : List Rule). cond (nat_lt 0 (length (listed_in e))) those rules) (joined_same (listed_in e) none)
      ∙ ap (cond (nat_lt 0 (length (listed_in e))) (rules_by Pv xs (listed_in e))) other

  -- neither list of ids that a resource has names one of them
  free_of : (n : ℕ) (r : ResourceData) → at n xs ≡ Some r → (list_any named (ids_at Acpi r) || list_any named (ids_at Macp r)) ≡ false
  free_of n r found = sym (list_any-append named (ids_at Acpi r) (ids_at Macp r)) ∙ finds.free n r found

  linked_same : (s r : ResourceData) (n : ℕ) → JudgeSame s r → at n xs ≡ Some r → linked_rules Pv zs s ≡ linked_rules Pv xs r
  linked_same s r n same found =
      by_ids_same (value_of Acpi s.attrs) (value_of Acpi r.attrs) (owner_rules s) (owner_rules r) same.acpi
      (or_parts (list_any named (ids_at Acpi r)) _ (free_of n r found)).0 (ap (λ (owner : List ℕ). rule_for (only owner) all_bits ∷ []) same.owner)

  module _ (s r : ResourceData) (n : ℕ) (same : JudgeSame s r) (found : at n xs ≡ Some r) where
    pub parent_same : FindSame (at s.parent zs) (at r.parent xs)
    parent_same = rw same.parent (finds.above n r found)

    pub rules_same : rules_of zs s ≡ rules_of xs r
    rules_same =
        let a : rules_in (value_of Pvs s.attrs) ≡ rules_in (value_of Pvs r.attrs) = ap rules_in same.pvs in
        let b : option_map_or (linked_rules Pv zs) (at s.parent zs) [] ≡ option_map_or (linked_rules Pv xs) (at r.parent xs) [] =
        above_same (linked_rules Pv zs) (linked_rules Pv xs) (at s.parent zs) (at r.parent xs) parent_same (λ p q there judge. linked_same p q r.parent judge there) in
        let c : option_map_or channel_rules (at s.parent zs) [] ≡ option_map_or channel_rules (at r.parent xs) [] =
        above_same channel_rules channel_rules (at s.parent zs) (at r.parent xs) parent_same (λ p q there judge. channel_same p q judge) in
        let d : linked_rules Pv zs s ≡ linked_rules Pv xs r = linked_same s r n same found in
        ap (λ ty. by_ty ty (rules_in (value_of Pvs s.attrs)) (option_map_or (linked_rules Pv zs) (at s.parent zs) []) (option_map_or channel_rules (at s.parent zs) []) (linked_rules Pv zs s)) same.ty
        ∙ ap (λ rules. by_ty r.ty rules (option_map_or (linked_rules Pv zs) (at s.parent zs) []) (option_map_or channel_rules (at s.parent zs) []) (linked_rules Pv zs s)) a
        ∙ ap (λ rules. by_ty r.ty (rules_in (value_of Pvs r.attrs)) rules (option_map_or channel_rules (at s.parent zs) []) (linked_rules Pv zs s)) b
        ∙ ap (λ rules. by_ty r.ty (rules_in (value_of Pvs r.attrs)) (option_map_or (linked_rules Pv xs) (at r.parent xs) []) rules (linked_rules Pv zs s)) c
        ∙ ap (by_ty r.ty (rules_in (value_of Pvs r.attrs)) (option_map_or (linked_rules Pv xs) (at r.parent xs) []) (option_map_or channel_rules (at r.parent xs) [])) d

    pub fan_same : value_of Macp s.attrs ≡ value_of Macp r.attrs → fan_rules zs s ≡ fan_rules xs r
    fan_same macp =
        by_ids_same (value_of Macp s.attrs) (value_of Macp r.attrs) (rules_of zs s) (rules_of xs r) macp (or_parts (list_any named (ids_at Acpi r)) _ (free_of n r found)).1 rules_same

-- ---- what is shown

-- an attribute is shown, by what the originator may do
abbrev showing_by : Ty → Attr → Bool → Bool → Bool → Bool → Bool → Bool
showing_by ty a retrieves tells fill inside uses =
    is_attr_in (shape_attrs ty) a || retrieves || (tells && is_attr_in found_attrs a) || (fill && is_attr_in limit_attrs a)
    || (inside && is_attr_in size_attrs a) || (uses && is_attr_in member_attrs a)

-- the originator may do the same with a resource of each of two lists
pub record MaySame (home : HomeData) (o : List ℕ) (zs xs : List ResourceData) (s r : ResourceData) : Type 0 where
  pub may : (bit : ℕ) → has_bit home zs o bit s ≡ has_bit home xs o bit r
  pub fills : fills home zs o s ≡ fills home xs o r
  pub inside : is_filled_in home zs o s ≡ is_filled_in home xs o r
  pub uses : may_use home zs o s ≡ may_use home xs o r

module _ (home : HomeData) (o : List ℕ) (zs xs : List ResourceData) where
  pub shown_same : (s r : ResourceData) → s.ty ≡ r.ty → MaySame home o zs xs s r → (a : Attr) → is_shown home zs o s a ≡ is_shown home xs o r a
  shown_same s r ty both a =
      let retrieves = has_bit home xs o retrieve_bit r in
      let tells = has_bit home xs o discovery_bit r in
      ap (λ t. showing_by t a (has_bit home zs o retrieve_bit s) (has_bit home zs o discovery_bit s) (fills home zs o s) (is_filled_in home zs o s) (may_use home zs o s)) ty
      ∙ ap (λ b. showing_by r.ty a b (has_bit home zs o discovery_bit s) (fills home zs o s) (is_filled_in home zs o s) (may_use home zs o s)) (both.may retrieve_bit)
      ∙ ap (λ b. showing_by r.ty a retrieves b (fills home zs o s) (is_filled_in home zs o s) (may_use home zs o s)) (both.may discovery_bit)
      ∙ ap (λ b. showing_by r.ty a retrieves tells b (is_filled_in home zs o s) (may_use home zs o s)) both.fills
      ∙ ap (λ b. showing_by r.ty a retrieves tells (fills home xs o r) b (may_use home zs o s)) both.inside
      ∙ ap (showing_by r.ty a retrieves tells (fills home xs o r) (is_filled_in home xs o r)) both.uses

  pub value_same : (s r : ResourceData) → s.ty ≡ r.ty → MaySame home o zs xs s r → (a : Attr) (d : Data) → seen_value home zs o s a d ≡ seen_value home xs o r a d
  value_same s r ty both a d =
      ap (λ b. value_by home o b (is_policy_rules s a) (is_way s a) d) (shown_same s r ty both a)
      ∙ ap (λ t. value_by home o (is_shown home xs o r a) (is_ty t AccessControlPolicy && is_attr_in (Pv ∷ Pvs ∷ []) a) (is_ty t RemoteCse && is_attr a Poa) d) ty

  pub row_same : (s r : ResourceData) → s.ty ≡ r.ty → MaySame home o zs xs s r → (row : Row) → seen_row home zs o s row ≡ seen_row home xs o r row
  row_same s r ty both row = ap (option_map (λ d. (row.0, d))) (value_same s r ty both row.0 row.1)

pub filter_map_same : {X Y : Type 0} (f g : X → Option Y) → ((x : X) → f x ≡ g x) → (xs : List X) → filter_map f xs ≡ filter_map g xs
filter_map_same f g same [] = refl
filter_map_same f g same (x ∷ xs) =
    ap (λ y. cons_option y (filter_map f xs)) (same x) ∙ ap (cons_option (g x)) (filter_map_same f g same xs)

module _ (home : HomeData) (o : List ℕ) (zs xs : List ResourceData) (r : ResourceData) (both : MaySame home o zs xs r r) (end : (has_bit home xs o retrieve_bit r || is_filled_in home xs o r) ≡ false → due zs r ≡ due xs r) where
  et_same : cond (has_bit home xs o retrieve_bit r || is_filled_in home xs o r) r.et (unwrap_or (due zs r) 0) ≡ cond (has_bit home xs o retrieve_bit r || is_filled_in home xs o r) r.et (unwrap_or (due xs r) 0)
  et_same =
      both_chosen (λ (x y : ℕ). x ≡ y) (has_bit home xs o retrieve_bit r || is_filled_in home xs o r) _ _ _ _ (λ t. refl) (λ f. ap (λ (d : Option ℕ). unwrap_or d 0) (end f))

  -- by the two rights and the place by which the moments are seen
  abbrev seen_by : Bool → Bool → Bool → List Row → ResourceData
  seen_by retrieves tells inside attrs =
      made r (seen_owner home o r) (cond (retrieves || tells || inside) r.ct 0) (cond (retrieves || tells) r.lt 0) (cond (retrieves || inside) r.et (unwrap_or (due zs r) 0)) attrs

  pub seen_same : seen home zs o r ≡ seen home xs o r
  seen_same =
      let retrieves = has_bit home xs o retrieve_bit r in
      let tells = has_bit home xs o discovery_bit r in
      let inside = is_filled_in home xs o r in
      let attrs = filter_map (seen_row home xs o r) r.attrs in
      ap (λ b. seen_by b (has_bit home zs o discovery_bit r) (is_filled_in home zs o r) (seen home zs o r).attrs) (both.may retrieve_bit)
      ∙ ap (λ b. seen_by retrieves b (is_filled_in home zs o r) (seen home zs o r).attrs) (both.may discovery_bit)
      ∙ ap (λ b. seen_by retrieves tells b (seen home zs o r).attrs) both.inside
      ∙ ap (seen_by retrieves tells inside) (filter_map_same (seen_row home zs o r) (seen_row home xs o r) (row_same home o zs xs r r refl both) r.attrs)
      ∙ ap (λ et. made r (seen_owner home o r) (cond (retrieves || tells || inside) r.ct 0) (cond (retrieves || tells) r.lt 0) et attrs) et_same

-- ---- what is found the same gives the same rights

module _ (home : HomeData) (o : List ℕ) (named : Data → Bool) (zs xs : List ResourceData) (finds : FindsSame named zs xs) where
  pub may_same : (s r : ResourceData) (n : ℕ) → JudgeSame s r → at n xs ≡ Some r → (bit : ℕ) → has_bit home zs o bit s ≡ has_bit home xs o bit r
  may_same s r n same found bit = ap (λ (rules : List Rule). has_bits (bits_by home o rules) bit) (rules_same named zs xs finds s r n same found)

  fills_same : (s r : ResourceData) (n : ℕ) → JudgeSame s r → at n xs ≡ Some r → fills home zs o s ≡ fills home xs o r
  fills_same s r n same found =
      ap (λ ty. is_ty ty Container && (has_bit home zs o create_bit s || has_bit home zs o update_bit s)) same.ty
      ∙ ap (λ b. is_ty r.ty Container && (b || has_bit home zs o update_bit s)) (may_same s r n same found create_bit)
      ∙ ap (λ b. is_ty r.ty Container && (has_bit home xs o create_bit r || b)) (may_same s r n same found 4)

  filled_same : (p q : Option ResourceData) (n : ℕ) → at n xs ≡ q → FindSame p q → option_map_or (fills home zs o) p false ≡ option_map_or (fills home xs o) q false
  filled_same None None n there found = refl
  filled_same None (Some q) n there found = absurd found
  filled_same (Some p) None n there found = absurd found
  filled_same (Some p) (Some q) n there found = fills_same p q n found there

  inside_same : (s r : ResourceData) (n : ℕ) → JudgeSame s r → at n xs ≡ Some r → is_filled_in home zs o s ≡ is_filled_in home xs o r
  inside_same s r n same found =
      ap (λ ty. is_ty ty ContentInstance && option_map_or (fills home zs o) (at s.parent zs) false) same.ty
      ∙ ap (λ b. is_ty r.ty ContentInstance && b) (filled_same (at s.parent zs) (at r.parent xs) r.parent refl (parent_same named zs xs finds s r n same found))

  pub use_same : (s r : ResourceData) (n : ℕ) → JudgeSame s r → at n xs ≡ Some r → value_of Macp s.attrs ≡ value_of Macp r.attrs → may_use home zs o s ≡ may_use home xs o r
  use_same s r n same found macp =
      ap (λ ty. is_ty ty Group && (has_bit home zs o update_bit s || nat_lt 0 (bits_by home o (fan_rules zs s)))) same.ty
      ∙ ap (λ b. is_ty r.ty Group && (b || nat_lt 0 (bits_by home o (fan_rules zs s)))) (may_same s r n same found 4)
      ∙ ap (λ (rules : List Rule). is_ty r.ty Group && (has_bit home xs o update_bit r || nat_lt 0 (bits_by home o rules))) (fan_same named zs xs finds s r n same found macp)

  -- but for the use of a group whose `macp` differs
  pub may_same_but : (s r : ResourceData) (n : ℕ) → JudgeSame s r → at n xs ≡ Some r → may_use home zs o s ≡ may_use home xs o r → MaySame home o zs xs s r
  may_same_but s r n same found used = record {
    may = may_same s r n same found;
    fills = fills_same s r n same found;
    inside = inside_same s r n same found;
    uses = used;
  }

  pub may_the_same : (s r : ResourceData) (n : ℕ) → JudgeSame s r → at n xs ≡ Some r → value_of Macp s.attrs ≡ value_of Macp r.attrs → MaySame home o zs xs s r
  may_the_same s r n same found macp = may_same_but s r n same found (use_same s r n same found macp)

  pub seen_found : (r : ResourceData) (n : ℕ) → at n xs ≡ Some r → ((has_bit home xs o retrieve_bit r || is_filled_in home xs o r) ≡ false → due zs r ≡ due xs r) → seen home zs o r ≡ seen home xs o r
  seen_found r n found end = seen_same home o zs xs r (may_the_same r r n (judge_itself r) found refl) end
