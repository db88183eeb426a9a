-- Two lists of one shape keep one shape under a removal, under changes of a resource that leave the
-- ends of others alone, and where subscriptions are counted anew.
use Rattle.policy_laws.proofs.Words.{◌==◌, unwrap_or, ◌≡◌, ℕ, List, map, pos, Bool, true, false, cond, Option, Some, None, is_some, option_map, inl, inr, refl, sym, ap, ◌∙◌, filter_map, option_and_then, option_map_or}
use Rattle.policy_laws.proofs.Terms.{Attr, Exc, Mia, ContentInstance, CseBase, Subscription, Data, number, Row, value_of, with_value, is_attr, HomeData, ResourceData, is_ty, at, due, due_under, is_attr_in, is_spared, is_tree, is_well_formed, recounted, replaced, without}
use Rattle.policy_laws.proofs.Facts.{both_ways, cases_Bool, eq-eqb, eqb-true, map-map, same_Some, at-map, at-replaced, at-replaced_other, at-without, at_has, at_number, due_plain, map-replaced, tree_from_well_formed}
use Rattle.tree_model.proofs.KeptLemmas.{is_tree-without}
use Rattle.tree_model.proofs.LiveLemmas.{due-without}
use Rattle.tree_model.proofs.MarkLemmas.{due_below, exc_aside}
use Rattle.policy_laws.specs.Changes.{CountsSubscriptions, LeaveEnds, NewValue, changed, counted_anew, shape_changes, with_change, with_changes}
use Rattle.equal_sights.specs.Alike.{shape_attrs}
use Rattle.equal_sights.specs.Seen.{seen_owner}
use Rattle.equal_sights.specs.Shape.{shape_list, shape_of, shape_value}
use Rattle.policy_laws.proofs.AlikeLemmas.{map_from_zip, told_in_shape, without-zip}
use Rattle.policy_laws.proofs.ChoiceLemmas.{found_where}
use Rattle.policy_laws.proofs.DueLemmas.{due_base, due_instance, due_other, end_of}
use Rattle.policy_laws.proofs.RemovalLemmas.{keeps_without}
use Rattle.policy_laws.proofs.ReplaceLemmas.{change_seen, changes_kept, changes_seen, is_changed, kept_row}
use Rattle.policy_laws.proofs.ShapeAlikeLemmas.{at-shape, shape_at}
use Rattle.policy_laws.proofs.TwiceLemmas.{made, zip-found}

-- ---- a removal

module _ (home : HomeData) (nodes : List ResourceData) (o : List ℕ) (well : is_well_formed nodes ≡ true) (picks : ResourceData → Bool) where
  tree : is_tree nodes ≡ true
  tree = tree_from_well_formed nodes well

  -- what stays has its shape
  stays_so : (r : ResourceData) → at r.number (without picks nodes) ≡ Some r → shape_of home (without picks nodes) o r ≡ shape_of home nodes o r
  stays_so r found =
      let there : at r.number nodes ≡ Some r = (keeps_without picks nodes tree).found r.number r found in
      let spared : is_spared picks nodes r.number ≡ true = (found_where (is_spared picks nodes r.number) (at r.number nodes) r (sym (at-without picks r.number nodes tree) ∙ found)).0 in
      ap (λ (d : Option ℕ). made r (seen_owner home o r) 0 0 (unwrap_or d 0) (shape_of home nodes o r).attrs) (due-without picks nodes r tree there spared)

  left_map : shape_list home (without picks nodes) o ≡ map (shape_of home nodes o) (without picks nodes)
  left_map =
      let left = without picks nodes in
      let f = shape_of home left o in
      map_from_zip (shape_of home nodes o) (map f left) left
      (zip-found (λ s r. s ≡ shape_of home nodes o r) f left (is_tree-without picks nodes tree) stays_so)

  -- a removal from the shape, of what is removed from the list, leaves the shape of what is left
  pub shape_left : (q : ResourceData → Bool) → ((r : ResourceData) → at r.number nodes ≡ Some r → q (shape_of home nodes o r) ≡ picks r) → shape_list home (without picks nodes) o ≡ without q (shape_list home nodes o)
  shape_left q pick =
      let g = shape_of home nodes o in
      left_map
      ∙ sym (map_from_zip g (without q (map g nodes)) (without picks nodes)
      (without-zip (λ s r. s ≡ g r) (λ s r e. ap (λ (x : ResourceData). x.number) e) (λ s r e. ap (λ (x : ResourceData). x.parent) e) q picks (map g nodes) nodes
      (zip-found (λ s r. (s ≡ g r) × (q s ≡ picks r)) g nodes tree (λ r found. (refl, pick r found)))))

pub shape_without-same : (home : HomeData) (xs ys : List ResourceData) (o : List ℕ) (picks : ℕ → Bool) → is_well_formed xs ≡ true → is_well_formed ys ≡ true → shape_list home xs o ≡ shape_list home ys o → shape_list home (without (λ r. picks r.number) xs) o ≡ shape_list home (without (λ r. picks r.number) ys) o
shape_without-same home xs ys o picks wellx welly same =
    let p = λ (r : ResourceData). picks r.number in
    shape_left home xs o wellx p p (λ r found. refl)
    ∙ ap (without p) same
    ∙ sym (shape_left home ys o welly p p (λ r found. refl))

-- ---- a resource gets changes

-- the end as the shape then keeps it
abbrev end_by : Option ℕ → Bool → ℕ → ℕ
end_by None base before = before
end_by (Some m) base before = cond base 0 m

-- the shape of the resource, after changes as the shape keeps them
abbrev shaped : ResourceData → Option ℕ → List NewValue → ResourceData
shaped s et changes = made s s.owner 0 0 (end_by et (is_ty s.ty CseBase) s.et) (with_changes changes s.attrs)

module _ (home : HomeData) (o : List ℕ) (xs : List ResourceData) (well : is_well_formed xs ≡ true) (n : ℕ) (r : ResourceData) (found : at n xs ≡ Some r) (changes : List NewValue) (lt et : Option ℕ) (leaves : LeaveEnds r changes) where
  abbrev new : ResourceData
  new = changed changes lt et r

  abbrev zs : List ResourceData
  zs = replaced (changed changes lt et r) xs

  here : at r.number xs ≡ Some r
  here = ap (λ m. at m xs) (at_number n xs r found) ∙ found

  there : at r.number (replaced (changed changes lt et r) xs) ≡ Some (changed changes lt et r)
  there = at-replaced (changed changes lt et r) xs (at_has r.number xs r here)

  age_kept : value_of Mia (changed changes lt et r).attrs ≡ value_of Mia r.attrs
  age_kept = changes_kept Mia changes leaves.ends r.attrs

  end_same : (s : ResourceData) → due (replaced (changed changes lt et r) xs) s ≡ due xs s
  end_same s = elim (cases_Bool (is_ty s.ty ContentInstance)) [
    | inr f ↦ due_plain (at s.parent zs) (at s.parent xs) s f
    | inl instance ↦ elim (cases_Bool (s.parent == r.number)) [
      | inr f ↦ ap (λ (p : Option ResourceData). due_under p s) (at-replaced_other s.parent new xs (λ e. both_ways _ f (eq-eqb s.parent r.number e)))
      | inl t ↦
          let same : s.parent ≡ r.number = eqb-true s.parent r.number t in
          let after_it : at s.parent zs ≡ Some new = ap (λ m. at m zs) same ∙ there in
          let before : at s.parent xs ≡ Some r = ap (λ m. at m xs) same ∙ here in
          ap (λ (p : Option ResourceData). due_under p s) after_it ∙ due_instance new s instance
          ∙ ap (λ (age : Option Data). Some (end_of s.et s.ct age)) age_kept
          ∙ sym (ap (λ (p : Option ResourceData). due_under p s) before ∙ due_instance r s instance)
    ]
  ]

  others_so : map (shape_of home (replaced (changed changes lt et r) xs) o) xs ≡ shape_list home xs o
  others_so =
      let f = shape_of home zs o in
      map_from_zip (shape_of home xs o) (map f xs) xs
      (zip-found (λ s q. s ≡ shape_of home xs o q) f xs (tree_from_well_formed xs well)
      (λ s at_s. ap (λ (d : Option ℕ). made s (seen_owner home o s) 0 0 (unwrap_or d 0) (shape_of home xs o s).attrs) (end_same s)))

  -- with a new expiry or its own it is due then
  due_after : (m : ℕ) (s : ResourceData) → s.ty ≡ r.ty → s.et ≡ m → (p : Option ResourceData) → unwrap_or (due_under p s) 0 ≡ cond (is_ty r.ty CseBase) 0 m
  due_after m s ty end p = elim (cases_Bool (is_ty r.ty CseBase)) [
    | inl t ↦ rw t (ap (λ (d : Option ℕ). unwrap_or d 0) (due_base p s (ap (λ x. is_ty x CseBase) ty ∙ t)))
    | inr f ↦ rw f (ap (λ (d : Option ℕ). unwrap_or d 0) (due_other p s (ap (λ x. is_ty x CseBase) ty ∙ f) (ap (λ x. is_ty x ContentInstance) ty ∙ leaves.other)) ∙ end)
  ]

  by_end : (x : Option ℕ) → cond (is_ty r.ty CseBase) 0 (unwrap_or x r.et) ≡ end_by x (is_ty r.ty CseBase) (cond (is_ty r.ty CseBase) 0 r.et)
  by_end None = refl
  by_end (Some m) = refl

  end_after : unwrap_or (due (replaced (changed changes lt et r) xs) (changed changes lt et r)) 0 ≡ end_by et (is_ty r.ty CseBase) (shape_of home xs o r).et
  end_after =
      due_after (unwrap_or et r.et) new refl refl (at r.parent zs)
      ∙ by_end et
      ∙ ap (end_by et (is_ty r.ty CseBase)) (sym (due_after r.et r refl refl (at r.parent xs)))

  shape_after : shape_of home (replaced (changed changes lt et r) xs) o (changed changes lt et r) ≡ shaped (shape_of home xs o r) et (shape_changes home o r changes)
  shape_after =
      ap (λ (m : ℕ). made r (seen_owner home o r) 0 0 m (shape_of home zs o new).attrs) end_after
      ∙ ap (made r (seen_owner home o r) 0 0 (end_by et (is_ty r.ty CseBase) (shape_of home xs o r).et)) (changes_seen (shape_value home o r) changes r.attrs)

  shape_list_after : shape_list home (replaced (changed changes lt et r) xs) o ≡ replaced (shaped (shape_of home xs o r) et (shape_changes home o r changes)) (shape_list home xs o)
  shape_list_after =
      map-replaced (shape_of home zs o) (λ s. refl) new xs
      ∙ ap (replaced (shape_of home zs o new)) others_so
      ∙ ap (λ s. replaced s (shape_list home xs o)) shape_after

-- of the changes the shape keeps the same
pub shape_replace-same : (home : HomeData) (xs ys : List ResourceData) (o : List ℕ) (n : ℕ) (r q : ResourceData) (changes others : List NewValue) (lt since et : Option ℕ) → is_well_formed xs ≡ true → is_well_formed ys ≡ true → at n xs ≡ Some r → at n ys ≡ Some q → LeaveEnds r changes → LeaveEnds q others → shape_changes home o r changes ≡ shape_changes home o q others → shape_list home xs o ≡ shape_list home ys o → shape_list home (replaced (changed changes lt et r) xs) o ≡ shape_list home (replaced (changed others since et q) ys) o
shape_replace-same home xs ys o n r q changes others lt since et wellx welly found place leaves leave alike same =
    shape_list_after home o xs wellx n r found changes lt et leaves
    ∙ ap (λ (nodes : List ResourceData). replaced (shaped (shape_of home xs o r) et (shape_changes home o r changes)) nodes) same
    ∙ ap (λ s. replaced (shaped s et (shape_changes home o r changes)) (shape_list home ys o)) (shape_at home xs ys o n r q found place same)
    ∙ ap (λ those. replaced (shaped (shape_of home ys o q) et those) (shape_list home ys o)) alike
    ∙ sym (shape_list_after home o ys welly n q place others since et leave)

-- ---- some are counted anew

module _ (left : ℕ → Option ℕ) where
  number_stays : (r : ResourceData) → (counted_anew left r).number ≡ r.number
  number_stays r = by (left r.number)
    where
      by : (x : Option ℕ) → (option_map_or (λ n. recounted n r) x r).number ≡ r.number
      by None = refl
      by (Some n) = refl

  module _ (home : HomeData) (o : List ℕ) (xs : List ResourceData) (well : is_well_formed xs ≡ true) (counts : CountsSubscriptions left xs) where
    abbrev anew : List ResourceData
    anew = map (counted_anew left) xs

    below : (p : Option ResourceData) (s : ResourceData) → due_under (option_map (counted_anew left) p) s ≡ due_under p s
    below None s = refl
    below (Some p) s = by (left p.number)
      where
        by : (x : Option ℕ) → due_under (Some (option_map_or (λ n. recounted n p) x p)) s ≡ due_under (Some p) s
        by None = refl
        by (Some n) = due_below Exc exc_aside (number (pos n)) p.lt p s

    due_anew : (s : ResourceData) → due (map (counted_anew left) xs) s ≡ due xs s
    due_anew s = ap (λ (p : Option ResourceData). due_under p s) (at-map (counted_anew left) number_stays s.parent xs) ∙ below (at s.parent xs) s

    same_so : (r : ResourceData) → shape_of home (map (counted_anew left) xs) o r ≡ shape_of home xs o r
    same_so r = ap (λ (d : Option ℕ). made r (seen_owner home o r) 0 0 (unwrap_or d 0) (shape_of home xs o r).attrs) (due_anew r)

    -- the shape keeps how many are left
    kept_count : (n : ℕ) (r : ResourceData) → is_ty r.ty Subscription ≡ true → shape_value home o r Exc (number (pos n)) ≡ Some (number (pos n))
    kept_count n r sub =
        let one : is_attr_in (shape_attrs r.ty) Exc ≡ true = told_in_shape r.ty Exc (rw sub refl) in
        rw one refl

    recounted_so : (n : ℕ) (r : ResourceData) → is_ty r.ty Subscription ≡ true → shape_of home (map (counted_anew left) xs) o (recounted n r) ≡ recounted n (shape_of home xs o r)
    recounted_so n r sub =
        let rows = (shape_of home xs o r).attrs in
        ap (λ (d : Option ℕ). made r (seen_owner home o r) 0 0 (unwrap_or d 0) (shape_of home xs o (recounted n r)).attrs) (due_anew (recounted n r))
        ∙ ap (made r (seen_owner home o r) 0 0 (unwrap_or (due xs r) 0))
        (change_seen (shape_value home o r) Exc (Some (number (pos n))) r.attrs
        ∙ ap (λ (d : Option Data). with_change Exc d rows) (kept_count n r sub))

    anew_so : (r : ResourceData) → at r.number xs ≡ Some r → shape_of home (map (counted_anew left) xs) o (counted_anew left r) ≡ counted_anew left (shape_of home xs o r)
    anew_so r found = by (left r.number) refl
      where
        by : (x : Option ℕ) → left r.number ≡ x → shape_of home (map (counted_anew left) xs) o (option_map_or (λ n. recounted n r) x r) ≡ option_map_or (λ n. recounted n (shape_of home xs o r)) x (shape_of home xs o r)
        by None is = same_so r
        by (Some n) is = recounted_so n r (counts r found (ap is_some is))

    shape_counted : shape_list home (map (counted_anew left) xs) o ≡ map (counted_anew left) (shape_list home xs o)
    shape_counted =
        let twice = λ (r : ResourceData). shape_of home anew o (counted_anew left r) in
        let g = λ (r : ResourceData). counted_anew left (shape_of home xs o r) in
        map-map (shape_of home anew o) (counted_anew left) xs
        ∙ map_from_zip g (map twice xs) xs (zip-found (λ s r. s ≡ g r) twice xs (tree_from_well_formed xs well) anew_so)
        ∙ sym (map-map (counted_anew left) (shape_of home xs o) xs)

-- in lists of one shape the same are subscriptions
shape_counts : (left : ℕ → Option ℕ) (home : HomeData) (o : List ℕ) (xs ys : List ResourceData) → shape_list home xs o ≡ shape_list home ys o → CountsSubscriptions left xs → CountsSubscriptions left ys
shape_counts left home o xs ys same counts q found some = by (at q.number xs) refl
  where
    there : option_map (shape_of home xs o) (at q.number xs) ≡ Some (shape_of home ys o q)
    there = sym (at-shape home xs o q.number) ∙ ap (at q.number) same ∙ at-shape home ys o q.number ∙ ap (option_map (shape_of home ys o)) found

    by : (p : Option ResourceData) → at q.number xs ≡ p → is_ty q.ty Subscription ≡ true
    by None none = (let lacks : None ≡ Some (shape_of home ys o q) = sym (ap (option_map (shape_of home xs o)) none) ∙ there in cc)
    by (Some r) is =
        let e : shape_of home xs o r ≡ shape_of home ys o q = same_Some _ _ (sym (ap (option_map (shape_of home xs o)) is) ∙ there) in
        let own : r.number ≡ q.number = at_number q.number xs r is in
        sym (ap (λ (s : ResourceData). is_ty s.ty Subscription) e)
        ∙ counts r (ap (λ (m : ℕ). at m xs) own ∙ is) (ap (λ (m : ℕ). is_some (left m)) own ∙ some)

pub shape_counted-same : (home : HomeData) (xs ys : List ResourceData) (o : List ℕ) (left : ℕ → Option ℕ) → is_well_formed xs ≡ true → is_well_formed ys ≡ true → CountsSubscriptions left xs → shape_list home xs o ≡ shape_list home ys o → shape_list home (map (counted_anew left) xs) o ≡ shape_list home (map (counted_anew left) ys) o
shape_counted-same home xs ys o left wellx welly counts same =
    shape_counted left home o xs wellx counts ∙ ap (map (counted_anew left)) same
    ∙ sym (shape_counted left home o ys welly (shape_counts left home o xs ys same counts))
