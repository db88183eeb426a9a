-- Equal sights stay equal where subscriptions are counted anew.
use Rattle.policy_laws.proofs.Words.{unwrap_or, ◌≡◌, ℕ, List, map, Bool, true, false, cond, ◌||◌, Option, Some, None, is_some, option_map, pos, refl, sym, ap, ◌∙◌, filter_map, option_and_then, option_map_or}
use Rattle.policy_laws.proofs.Terms.{Attr, Acpi, Aei, Csi, Exc, Macp, Pv, Pvs, Ae, RemoteCse, Subscription, Data, number, as_text, Row, is_attr, value_of, with_value, HomeData, ResourceData, is_ty, ae_id, cse_id, at, due, due_under, is_well_formed, recounted}
use Rattle.policy_laws.proofs.Facts.{same_Some, map-map, tree_from_well_formed, at-map, at_number}
use Rattle.tree_model.proofs.MarkLemmas.{due_below, exc_aside, other_kept}
use Rattle.policy_laws.specs.Changes.{CountsSubscriptions, counted_anew, with_change}
use Rattle.equal_sights.specs.Seen.{retrieve_bit, discovery_bit, has_bit, is_filled_in, is_shown, seen_value, seen_row, seen_owner, seen, seen_list}
use Rattle.policy_laws.proofs.AlikeLemmas.{map_from_zip, same_ids, told_in_shape}
use Rattle.policy_laws.proofs.LookupLemmas.{FindSame, FindsSame, JudgeSame, MaySame, filter_map_same, judge_itself, may_the_same, row_same, seen_found}
use Rattle.policy_laws.proofs.ReplaceLemmas.{change_seen, finds_same, kept_row, no_id}
use Rattle.policy_laws.proofs.SeenLemmas.{at-seen, shape_shown}
use Rattle.policy_laws.proofs.TwiceLemmas.{made, zip-found}

-- ---- what a count leaves alone

other_stays : (a : Attr) (n : ℕ) (r : ResourceData) → is_attr a Exc ≡ false → is_attr a a ≡ true → value_of a (recounted n r).attrs ≡ value_of a r.attrs
other_stays a n r apart itself = other_kept a Exc (number (pos n)) r apart itself

judge_recounted : (n : ℕ) (r : ResourceData) → JudgeSame (recounted n r) r
judge_recounted n r = record {
  ty = refl;
  parent = refl;
  owner = refl;
  acpi = other_stays Acpi n r refl refl;
  pv = other_stays Pv n r refl refl;
  pvs = other_stays Pvs n r refl refl;
  registree = same_ids (ae_id (recounted n r)) (ae_id r) (cse_id (recounted n r)) (cse_id r)
      (ap (λ (d : Option Data). cond (is_ty r.ty Ae) (option_and_then as_text d) None) (other_stays Aei n r refl refl))
      (ap (λ (d : Option Data). cond (is_ty r.ty RemoteCse) (option_and_then as_text d) None) (other_stays Csi n r refl refl));
}

-- ---- a list of which some are counted anew

module _ (left : ℕ → Option ℕ) where
  number_stays : (r : ResourceData) → (counted_anew left r).number ≡ r.number
  number_stays r = by (left r.number)
    where
      by : (x : Option ℕ) → (option_map_or (λ n. recounted n r) x r).number ≡ r.number
      by None = refl
      by (Some n) = refl

  judge_anew : (r : ResourceData) → JudgeSame (counted_anew left r) r
  judge_anew r = by (left r.number)
    where
      by : (x : Option ℕ) → JudgeSame (option_map_or (λ n. recounted n r) x r) r
      by None = judge_itself r
      by (Some n) = judge_recounted n r

  module _ (home : HomeData) (o : List ℕ) (xs : List ResourceData) (well : is_well_formed xs ≡ true) (counts : CountsSubscriptions left xs) where
    abbrev zs : List ResourceData
    zs = map (counted_anew left) xs

    at_anew : (m : ℕ) → at m (map (counted_anew left) xs) ≡ option_map (counted_anew left) (at m xs)
    at_anew m = at-map (counted_anew left) number_stays m xs

    find_same : (m : ℕ) → FindSame (at m (map (counted_anew left) xs)) (at m xs)
    find_same m = rw (at_anew m) (by (at m xs))
      where
        by : (p : Option ResourceData) → FindSame (option_map (counted_anew left) p) p
        by None = tt
        by (Some r) = judge_anew r

    finds : FindsSame no_id (map (counted_anew left) xs) xs
    finds = finds_same (map (counted_anew left) xs) xs find_same

    -- what stands below is due as before
    below : (p : Option ResourceData) (s : ResourceData) → due_under (option_map (counted_anew left) p) s ≡ due_under p s
    below None s = refl
    below (Some p) s = by (left p.number)
      where
        by : (x : Option ℕ) → due_under (Some (option_map_or (λ n. recounted n p) x p)) s ≡ due_under (Some p) s
        by None = refl
        by (Some n) = due_below Exc exc_aside (number (pos n)) p.lt p s

    due_anew : (s : ResourceData) → due (map (counted_anew left) xs) s ≡ due xs s
    due_anew s = ap (λ (p : Option ResourceData). due_under p s) (at_anew s.parent) ∙ below (at s.parent xs) s

    module _ (r : ResourceData) (found : at r.number xs ≡ Some r) where
      module _ (n : ℕ) (sub : is_ty r.ty Subscription ≡ true) where
        abbrev new : ResourceData
        new = recounted n r

        both : MaySame home o (map (counted_anew left) xs) xs (recounted n r) r
        both = may_the_same home o no_id zs xs finds new r r.number (judge_recounted n r) found (other_stays Macp n r refl refl)

        shown : seen_value home xs o r Exc (number (pos n)) ≡ Some (number (pos n))
        shown =
            let is : is_shown home xs o r Exc ≡ true = shape_shown home xs o r Exc (told_in_shape r.ty Exc (rw sub refl)) in
            rw is refl

        attrs_anew : filter_map (seen_row home (map (counted_anew left) xs) o (recounted n r)) (with_value Exc (number (pos n)) r.attrs) ≡ with_value Exc (number (pos n)) (filter_map (seen_row home xs o r) r.attrs)
        attrs_anew =
            filter_map_same (seen_row home zs o new) (seen_row home xs o r) (row_same home o zs xs new r refl both) new.attrs
            ∙ change_seen (seen_value home xs o r) Exc (Some (number (pos n))) r.attrs
            ∙ ap (λ (d : Option Data). with_change Exc d (filter_map (kept_row (seen_value home xs o r)) r.attrs)) shown

        -- by the two rights and the place by which the moments are seen
        abbrev seen_new : Bool → Bool → Bool → List Row → ResourceData
        seen_new retrieves tells inside attrs =
            made r (seen_owner home o r) (cond (retrieves || tells || inside) r.ct 0) (cond (retrieves || tells) r.lt 0) (cond (retrieves || inside) r.et (unwrap_or (due zs new) 0)) attrs

        seen_recounted : seen home (map (counted_anew left) xs) o (recounted n r) ≡ recounted n (seen home xs o r)
        seen_recounted =
            let retrieves = has_bit home xs o retrieve_bit r in
            let tells = has_bit home xs o discovery_bit r in
            let inside = is_filled_in home xs o r in
            ap (λ b. seen_new b (has_bit home zs o discovery_bit new) (is_filled_in home zs o new) (seen home zs o new).attrs) (both.may retrieve_bit)
            ∙ ap (λ b. seen_new retrieves b (is_filled_in home zs o new) (seen home zs o new).attrs) (both.may discovery_bit)
            ∙ ap (λ b. seen_new retrieves tells b (seen home zs o new).attrs) both.inside
            ∙ ap (seen_new retrieves tells inside) attrs_anew
            ∙ ap (λ (d : Option ℕ). made r (seen_owner home o r) (cond (retrieves || tells || inside) r.ct 0) (cond (retrieves || tells) r.lt 0) (cond (retrieves || inside) r.et (unwrap_or d 0)) (with_value Exc (number (pos n)) (seen home xs o r).attrs)) (due_anew new)

      seen_anew : seen home (map (counted_anew left) xs) o (counted_anew left r) ≡ counted_anew left (seen home xs o r)
      seen_anew = by (left r.number) refl
        where
          by : (x : Option ℕ) → left r.number ≡ x → seen home (map (counted_anew left) xs) o (option_map_or (λ n. recounted n r) x r) ≡ option_map_or (λ n. recounted n (seen home xs o r)) x (seen home xs o r)
          by None is = seen_found home o no_id zs xs finds r r.number found (λ hides. due_anew r)
          by (Some n) is = seen_recounted n (counts r found (ap is_some is))

    pub counted-seen : seen_list home (map (counted_anew left) xs) o ≡ map (counted_anew left) (seen_list home xs o)
    counted-seen =
        let twice = λ (r : ResourceData). seen home zs o (counted_anew left r) in
        let g = λ (r : ResourceData). counted_anew left (seen home xs o r) in
        map-map (seen home zs o) (counted_anew left) xs
        ∙ map_from_zip g (map twice xs) xs (zip-found (λ s r. s ≡ g r) twice xs (tree_from_well_formed xs well) seen_anew)
        ∙ sym (map-map (counted_anew left) (seen home xs o) xs)

-- ---- equal sights

-- where the originator sees the same of two lists, the same are subscriptions
counts_too : (left : ℕ → Option ℕ) (home : HomeData) (o : List ℕ) (xs ys : List ResourceData) → seen_list home xs o ≡ seen_list home ys o → CountsSubscriptions left xs → CountsSubscriptions left ys
counts_too left home o xs ys same counts q found some = by (at q.number xs) refl
  where
    seen_there : option_map (seen home xs o) (at q.number xs) ≡ Some (seen home ys o q)
    seen_there = sym (at-seen home xs o q.number) ∙ ap (at q.number) same ∙ at-seen home ys o q.number ∙ ap (option_map (seen home ys o)) found

    by : (p : Option ResourceData) → at q.number xs ≡ p → is_ty q.ty Subscription ≡ true
    by None none = (let lacks : None ≡ Some (seen home ys o q) = sym (ap (option_map (seen home xs o)) none) ∙ seen_there in cc)
    by (Some r) there =
        let e : seen home xs o r ≡ seen home ys o q = same_Some _ _ (sym (ap (option_map (seen home xs o)) there) ∙ seen_there) in
        let own : r.number ≡ q.number = at_number q.number xs r there in
        sym (ap (λ (s : ResourceData). is_ty s.ty Subscription) e)
        ∙ counts r (ap (λ (m : ℕ). at m xs) own ∙ there) (ap (λ (m : ℕ). is_some (left m)) own ∙ some)

pub counted-same : (home : HomeData) (xs ys : List ResourceData) (o : List ℕ) (left : ℕ → Option ℕ) → is_well_formed xs ≡ true → is_well_formed ys ≡ true → CountsSubscriptions left xs → seen_list home xs o ≡ seen_list home ys o → seen_list home (map (counted_anew left) xs) o ≡ seen_list home (map (counted_anew left) ys) o
counted-same home xs ys o left wellx welly counts same =
    counted-seen left home o xs wellx counts ∙ ap (map (counted_anew left)) same
    ∙ sym (counted-seen left home o ys welly (counts_too left home o xs ys same counts))
