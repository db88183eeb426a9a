-- What is due and what is live is the same on what an originator sees.
use Rattle.policy_laws.proofs.Words.{nat_le, unwrap_or, ◌≡◌, ℕ, ◌+◌, List, map, Bool, true, false, cond, ◌||◌, Option, Some, None, option_map, inl, inr, refl, sym, ap, ◌∙◌, subst, list_any, option_and_then, option_map_or}
use Rattle.policy_laws.proofs.Terms.{does_take, ty_row, Attr, Mia, Pv, Ty, Container, ContentInstance, CseBase, Subscription, Data, is_attr, value_of, HomeData, ResourceData, is_ty, at, due, due_under, lesser, is_due, live, is_taken, is_well_formed, is_attr_in, Rule, linked_rules, rules_of, bits_by, has_bits, do_give, grants, relinks, fan_grants}
use Rattle.policy_laws.proofs.Facts.{cases_Bool, both_ways, and_left, and_right, or_cases, or_from, or_left, or_parts, or_right, cond_both, cond-true, cond-false, eqb-true, list_any-append, tree_from_well_formed, at-map, number_passes, all_taken}
use Rattle.std.proofs.Common.{◌==◌}
use Rattle.m2m_value.specs.Shapes.{as_count}
use Rattle.equal_sights.specs.Alike.{AreAlike, id_attrs, told_attrs, shape_attrs}
use Rattle.equal_sights.specs.Seen.{retrieve_bit, has_bit, fills, is_filled_in, is_shown, seen_ct, seen_et, with_seen_owner, seen, seen_list}
use Rattle.policy_laws.proofs.AlikeLemmas.{id_attrs_hold, without-zip, zip-map, map_from_zip, grants-alike, relinks-alike, fan_grants-alike}
use Rattle.policy_laws.proofs.RemovalLemmas.{keeps_without, grants_before}
use Rattle.policy_laws.proofs.SeenLemmas.{at-seen, seen_map_alike, seen_shows}

-- ---- the types of an instance and of what it stands in

number_of : (t u : Ty) → is_ty t u ≡ true → (ty_row t).number ≡ (ty_row u).number
number_of t u is = eqb-true (ty_row t).number (ty_row u).number is

-- containers alone take instances
holds_instances : (t : Ty) → list_any (λ ty. (ty_row ty).number == 4) (ty_row t).takes ≡ true → is_ty t Container ≡ true
holds_instances Container takes = refl
holds_instances t takes = absurd (both_ways _ refl takes)

pub in_container : (nodes : List ResourceData) (r p : ResourceData) → is_taken nodes r ≡ true → is_ty r.ty ContentInstance ≡ true → at r.parent nodes ≡ Some p → is_ty p.ty Container ≡ true
in_container nodes r p taken instance found =
    let takes : does_take p.ty r.ty ≡ true = sym (ap (λ (o : Option ResourceData). option_map_or (λ (q : ResourceData). does_take q.ty r.ty) o true) found) ∙ taken in
    holds_instances p.ty (sym (ap (λ (n : ℕ). list_any (λ ty. (ty_row ty).number == n) (ty_row p.ty).takes) (number_of r.ty ContentInstance instance)) ∙ takes)

-- the greatest age isn't always seen
names_none : (t : Ty) → is_attr_in (id_attrs t) Mia ≡ false
names_none t = id_attrs_hold (λ (attrs : List Attr). is_attr_in attrs Mia ≡ false) t (λ is. refl) (λ is. refl) refl

tells_none : (t : Ty) → is_attr_in (told_attrs t) Mia ≡ false
tells_none t = cond_both (is_ty t Subscription) _ _ (λ (attrs : List Attr). is_attr_in attrs Mia ≡ false) (λ is. refl) (λ other. refl)

no_shape : (t : Ty) → is_attr_in (shape_attrs t) Mia ≡ false
no_shape t =
    list_any-append (is_attr Mia) (id_attrs t) (told_attrs t) ∙ or_from _ _ (names_none t) (tells_none t)

-- an instance is judged as its container
container_rules : (nodes : List ResourceData) (p : ResourceData) → (ty_row p.ty).number ≡ 3 → rules_of nodes p ≡ linked_rules Pv nodes p
container_rules nodes p number = rw number refl

instance_rules : (nodes : List ResourceData) (r p : ResourceData) → (ty_row r.ty).number ≡ 4 → at r.parent nodes ≡ Some p → rules_of nodes r ≡ linked_rules Pv nodes p
instance_rules nodes r p number found = rw (number, found) refl

module _ (home : HomeData) (nodes : List ResourceData) (o : List ℕ) (r p : ResourceData) (instance : is_ty r.ty ContentInstance ≡ true) (found : at r.parent nodes ≡ Some p) (container : is_ty p.ty Container ≡ true) where
  pub same_may : (bit : ℕ) → has_bit home nodes o bit r ≡ has_bit home nodes o bit p
  same_may bit =
      ap (λ (rules : List Rule). has_bits (bits_by home o rules) bit)
      (instance_rules nodes r p (number_of r.ty ContentInstance instance) found ∙ sym (container_rules nodes p (number_of p.ty Container container)))

  pub same_fill : is_filled_in home nodes o r ≡ fills home nodes o p
  same_fill = rw (instance, found) refl

  -- the greatest age is seen of the container where the moments are seen of the instance
  age_seen : (has_bit home nodes o retrieve_bit r || is_filled_in home nodes o r) ≡ true → value_of Mia (seen home nodes o p).attrs ≡ value_of Mia p.attrs
  age_seen shown = elim (or_cases (has_bit home nodes o retrieve_bit r) _ shown) [
    | inl right ↦ ap (value_of Mia) ((seen_shows home nodes o p).retrieved (sym (same_may retrieve_bit) ∙ right)).0
    | inr right ↦ (seen_shows home nodes o p).filled (sym same_fill ∙ right) Mia refl
  ]

  ct_seen : (has_bit home nodes o retrieve_bit r || is_filled_in home nodes o r) ≡ true → seen_ct home nodes o r ≡ r.ct
  ct_seen shown = cond-true _ r.ct 0 (elim (or_cases (has_bit home nodes o retrieve_bit r) _ shown) [
    | inl right ↦ or_left _ _ (or_left _ _ right)
    | inr right ↦ or_right _ _ right
  ])

  age_hidden : (has_bit home nodes o retrieve_bit r || is_filled_in home nodes o r) ≡ false → value_of Mia (seen home nodes o p).attrs ≡ None
  age_hidden hides =
      let parts = or_parts (has_bit home nodes o retrieve_bit r) _ hides in
      let right : has_bit home nodes o retrieve_bit p ≡ false = sym (same_may retrieve_bit) ∙ parts.0 in
      let fill : fills home nodes o p ≡ false = sym same_fill ∙ parts.1 in
      let none : is_shown home nodes o p Mia ≡ false =
      or_from _ _ (or_from _ _ (or_from _ _ (or_from _ _ (or_from _ _ (no_shape p.ty) right) (and_right _ _ refl)) (and_left _ _ fill)) (and_right _ _ refl)) (and_right _ _ refl) in
      (seen_shows home nodes o p).hidden Mia none (and_right _ _ refl) (and_right _ _ refl)

-- ---- when a resource is due

-- the end of an instance by its own expiry, its creation and the greatest age
abbrev pub end_of : ℕ → ℕ → Option Data → ℕ
end_of et ct age = lesser et (option_map (λ n. ct + n) (option_and_then as_count age))

pub due_instance : (p s : ResourceData) → is_ty s.ty ContentInstance ≡ true → due_under (Some p) s ≡ Some (end_of s.et s.ct (value_of Mia p.attrs))
due_instance p s instance = rw (number_of s.ty ContentInstance instance) refl

due_orphan : (s : ResourceData) → is_ty s.ty ContentInstance ≡ true → due_under None s ≡ Some s.et
due_orphan s instance = rw (number_of s.ty ContentInstance instance) refl

pub due_other : (p : Option ResourceData) (s : ResourceData) → is_ty s.ty CseBase ≡ false → is_ty s.ty ContentInstance ≡ false → due_under p s ≡ Some s.et
due_other p s no_base other = rw (no_base, other) refl

pub due_base : (p : Option ResourceData) (s : ResourceData) → is_ty s.ty CseBase ≡ true → due_under p s ≡ None
due_base p s base = rw base refl

same_choice : (b : Bool) (n : ℕ) → cond b n n ≡ n
same_choice true n = refl
same_choice false n = refl

module _ (home : HomeData) (nodes : List ResourceData) (o : List ℕ) where
  due_at : (r : ResourceData) (p : Option ResourceData) → at r.parent nodes ≡ p → due (seen_list home nodes o) (seen home nodes o r) ≡ due_under (option_map (seen home nodes o) p) (seen home nodes o r)
  due_at r p found = ap (λ (q : Option ResourceData). due_under q (seen home nodes o r)) (at-seen home nodes o r.parent ∙ ap (option_map (seen home nodes o)) found)

  own_due : (r : ResourceData) (p : Option ResourceData) → at r.parent nodes ≡ p → due nodes r ≡ due_under p r
  own_due r p found = ap (λ (q : Option ResourceData). due_under q r) found

  -- where it is due at its expiry, that is seen
  et_seen : (r : ResourceData) → due nodes r ≡ Some r.et → seen_et home nodes o r ≡ r.et
  et_seen r is = ap (λ (d : Option ℕ). cond (has_bit home nodes o retrieve_bit r || is_filled_in home nodes o r) r.et (unwrap_or d 0)) is ∙ same_choice _ r.et

  end_seen : (r p : ResourceData) → is_ty r.ty ContentInstance ≡ true → at r.parent nodes ≡ Some p → is_ty p.ty Container ≡ true → end_of (seen_et home nodes o r) (seen_ct home nodes o r) (value_of Mia (seen home nodes o p).attrs) ≡ end_of r.et r.ct (value_of Mia p.attrs)
  end_seen r p instance found container = elim (cases_Bool (has_bit home nodes o retrieve_bit r || is_filled_in home nodes o r)) [
    | inl shown ↦
        ap (λ et. end_of et (seen_ct home nodes o r) (value_of Mia (seen home nodes o p).attrs)) (cond-true _ r.et _ shown)
        ∙ ap (λ ct. end_of r.et ct (value_of Mia (seen home nodes o p).attrs)) (ct_seen home nodes o r p instance found container shown)
        ∙ ap (end_of r.et r.ct) (age_seen home nodes o r p instance found container shown)
    | inr hides ↦
        let is : due nodes r ≡ Some (end_of r.et r.ct (value_of Mia p.attrs)) = own_due r (Some p) found ∙ due_instance p r instance in
        ap (end_of (seen_et home nodes o r) (seen_ct home nodes o r)) (age_hidden home nodes o r p instance found container hides)
        ∙ cond-false _ r.et (unwrap_or (due nodes r) 0) hides
        ∙ ap (λ (d : Option ℕ). unwrap_or d 0) is
  ]

  instance_seen : (r : ResourceData) (p : Option ResourceData) → is_taken nodes r ≡ true → is_ty r.ty ContentInstance ≡ true → at r.parent nodes ≡ p → due (seen_list home nodes o) (seen home nodes o r) ≡ due nodes r
  instance_seen r None taken instance found =
      let is : due nodes r ≡ Some r.et = own_due r None found ∙ due_orphan r instance in
      due_at r None found ∙ due_orphan (seen home nodes o r) instance ∙ ap (λ n. Some n) (et_seen r is) ∙ sym is
  instance_seen r (Some p) taken instance found =
      due_at r (Some p) found ∙ due_instance (seen home nodes o p) (seen home nodes o r) instance
      ∙ ap (λ n. Some n) (end_seen r p instance found (in_container nodes r p taken instance found))
      ∙ sym (own_due r (Some p) found ∙ due_instance p r instance)

  pub due-taken : (r : ResourceData) → is_taken nodes r ≡ true → due (seen_list home nodes o) (seen home nodes o r) ≡ due nodes r
  due-taken r taken = elim (cases_Bool (is_ty r.ty ContentInstance)) [
    | inl instance ↦ instance_seen r (at r.parent nodes) taken instance refl
    | inr other ↦ elim (cases_Bool (is_ty r.ty CseBase)) [
      | inl base ↦ due_base (at r.parent (seen_list home nodes o)) (seen home nodes o r) base ∙ sym (due_base (at r.parent nodes) r base)
      | inr f ↦
          let is : due nodes r ≡ Some r.et = due_other (at r.parent nodes) r f other in
          due_other (at r.parent (seen_list home nodes o)) (seen home nodes o r) f other ∙ ap (λ n. Some n) (et_seen r is) ∙ sym is
    ]
  ]

  pub is_due-taken : (m : ℕ) (r : ResourceData) → is_taken nodes r ≡ true → is_due (seen_list home nodes o) m (seen home nodes o r) ≡ is_due nodes m r
  is_due-taken m r taken = ap (λ (d : Option ℕ). option_map_or (λ n. nat_le n m) d false) (due-taken r taken)

  pub seen_whole : (r : ResourceData) → has_bit home nodes o retrieve_bit r ≡ true → seen home nodes o r ≡ with_seen_owner home o r
  seen_whole r right =
      let whole = (seen_shows home nodes o r).retrieved right in
      rw (whole.0, whole.1, whole.2, whole.3) refl

  whole_at : (p : Option ResourceData) → ((r : ResourceData) → p ≡ Some r → has_bit home nodes o retrieve_bit r ≡ true) → option_map (seen home nodes o) p ≡ option_map (with_seen_owner home o) p
  whole_at None right = refl
  whole_at (Some r) right = ap (λ (x : ResourceData). Some x) (seen_whole r (right r refl))

  module _ (well : is_well_formed nodes ≡ true) where
    pub due-seen : (r : ResourceData) → at r.number nodes ≡ Some r → due (seen_list home nodes o) (seen home nodes o r) ≡ due nodes r
    due-seen r found = due-taken r (number_passes (is_taken nodes) r.number nodes r (all_taken nodes well) found)

    pub is_due-seen : (m : ℕ) (r : ResourceData) → at r.number nodes ≡ Some r → is_due (seen_list home nodes o) m (seen home nodes o r) ≡ is_due nodes m r
    is_due-seen m r found = is_due-taken m r (number_passes (is_taken nodes) r.number nodes r (all_taken nodes well) found)

    -- ---- what is live

    pub live-seen : (m : ℕ) → live m (seen_list home nodes o) ≡ map (seen home nodes o) (live m nodes)
    live-seen m =
        let g = seen home nodes o in
        let p = is_due (seen_list home nodes o) m in
        let q = is_due nodes m in
        map_from_zip g (live m (seen_list home nodes o)) (live m nodes)
        (without-zip (λ s r. s ≡ g r) (λ s r e. ap (λ (x : ResourceData). x.number) e) (λ s r e. ap (λ (x : ResourceData). x.parent) e) p q (seen_list home nodes o) nodes
        (zip-map (λ s r. (s ≡ g r) × (p s ≡ q r)) g (is_taken nodes) (λ r taken. (refl, is_due-taken m r taken)) nodes (all_taken nodes well)))

    pub live-alike : (m : ℕ) → AreAlike home o (live m (seen_list home nodes o)) (live m nodes)
    live-alike m = subst (λ (ss : List ResourceData). AreAlike home o ss (live m nodes)) (sym (live-seen m)) (seen_map_alike home nodes o (live m nodes))

    pub at-live : (m n : ℕ) → at n (live m (seen_list home nodes o)) ≡ option_map (seen home nodes o) (at n (live m nodes))
    at-live m n = ap (at n) (live-seen m) ∙ at-map (seen home nodes o) (λ r. refl) n (live m nodes)

    pub grants-live : (m bit n : ℕ) → grants home (live m (seen_list home nodes o)) o bit n ≡ grants home (live m nodes) o bit n
    grants-live m bit n = grants-alike home o _ _ (live-alike m) bit n

    pub relinks-live : (m n : ℕ) → relinks home (live m (seen_list home nodes o)) o n ≡ relinks home (live m nodes) o n
    relinks-live m n = relinks-alike home o _ _ (live-alike m) n

    pub fan_grants-live : (m bit n : ℕ) → fan_grants home (live m (seen_list home nodes o)) o bit n ≡ fan_grants home (live m nodes) o bit n
    fan_grants-live m bit n = fan_grants-alike home o _ _ (live-alike m) bit n

    -- ---- what may be retrieved is seen whole

    -- what may be done with what is live may be done with it in the whole list
    pub live_may : (m n : ℕ) (r : ResourceData) → at n (live m nodes) ≡ Some r → grants home (live m nodes) o retrieve_bit n ≡ true → has_bit home nodes o retrieve_bit r ≡ true
    live_may m n r found right =
        let tree = tree_from_well_formed nodes well in
        let had : grants home nodes o retrieve_bit n ≡ true = grants_before home o retrieve_bit n (is_due nodes m) nodes tree right in
        let there : at n nodes ≡ Some r = (keeps_without (is_due nodes m) nodes tree).found n r found in
        sym (ap (λ (x : Option ResourceData). option_map_or (λ s. do_give home o retrieve_bit (rules_of nodes s)) x false) there) ∙ had

    pub retrieved-live : (m n : ℕ) → grants home (live m nodes) o retrieve_bit n ≡ true → at n (live m (seen_list home nodes o)) ≡ option_map (with_seen_owner home o) (at n (live m nodes))
    retrieved-live m n right = at-live m n ∙ whole_at (at n (live m nodes)) (λ r found. live_may m n r found right)
