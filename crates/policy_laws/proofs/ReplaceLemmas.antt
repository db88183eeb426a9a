-- Equal sights stay equal where a resource gets the same changes.
use Rattle.policy_laws.proofs.Words.{◌==◌, unwrap_or, ◌≡◌, ℕ, ◌≢◌, List, [], ◌∷◌, ◌++◌, map, Bool, true, false, cond, ◌&&◌, ◌||◌, Option, Some, None, option_map, inl, inr, refl, sym, ap, ◌∙◌, subst, cons_option, filter_map, list_any, option_and_then, is_lt}
use Rattle.policy_laws.proofs.Terms.{Attr, Acpi, Aei, Csi, Macp, Mia, Pv, Pvs, id_parts, Ty, AccessControlPolicy, Ae, Container, ContentInstance, CseBase, Group, RemoteCse, Data, as_text, Row, attr_cmp, is_attr, rows_before, rows_after, value_of, HomeData, ResourceData, is_ty, ae_id, cse_id, at, due, due_under, is_taken, is_well_formed, of_type, replaced, resource_of_id, typed_at, is_attr_in, ids_at, policy_named, update_bit}
use Rattle.policy_laws.proofs.Facts.{list_any-append, cases_Bool, both_ways, and_from, eq-eqb, eqb-true, or_from, or_left, or_parts, or_right, filter_map-append, same_Some, is_attr-itself, is_attr-same, value-with_value_other, value-without_value_other, tree_from_well_formed, at-replaced, at-replaced_other, at_has, at_number, map-replaced, number_passes, due_plain, all_taken}
use Rattle.std.specs.List.{filter}
use Rattle.policy_laws.specs.Changes.{NewValue, ShowNoMore, changed, do_judge, do_reach, does_judge, seen_changes, with_change, with_changes}
use Rattle.equal_sights.specs.Seen.{retrieve_bit, discovery_bit, has_bit, fills, is_filled_in, may_use, seen_value, seen_row, seen_owner, seen, seen_list}
use Rattle.policy_laws.proofs.ChoiceLemmas.{both_chosen, same_chosen}
use Rattle.policy_laws.proofs.AlikeLemmas.{cse_named, map_from_zip, same_ids}
use Rattle.policy_laws.proofs.DueLemmas.{due_base, due_instance, due_other, end_of, in_container, same_fill}
use Rattle.policy_laws.proofs.EqualLemmas.{same_by, may-seen, fills-seen, is_filled_in-seen, may_use-seen}
use Rattle.policy_laws.proofs.LookupLemmas.{FindSame, FindsSame, JudgeSame, MaySame, filter_map_same, find_itself, may_same, may_same_but, row_same, seen_found, use_same, value_same}
use Rattle.policy_laws.proofs.SeenLemmas.{at-seen}
use Rattle.policy_laws.proofs.TwiceLemmas.{made, zip-found}

-- ---- changes of rows

none_of : {X : Type 0} (xs : List X) → list_any (λ x. false) xs ≡ false
none_of [] = refl
none_of (x ∷ xs) = none_of xs

any_fewer : {X : Type 0} (p q : X → Bool) → ((x : X) → p x ≡ false → q x ≡ false) → (xs : List X) → list_any p xs ≡ false → list_any q xs ≡ false
any_fewer p q fewer [] none = refl
any_fewer p q fewer (x ∷ xs) none =
    let parts = or_parts (p x) (list_any p xs) none in
    or_from _ _ (fewer x parts.0) (any_fewer p q fewer xs parts.1)

-- one of the changes is of this attribute
abbrev pub is_changed : List NewValue → Attr → Bool
is_changed changes b = list_any (λ (c : NewValue). is_attr c.0 b) changes

attr_apart : (a b : Attr) → is_attr a b ≡ false → b ≢ a
attr_apart a b other same = both_ways _ other (subst (λ (c : Attr). is_attr a c ≡ true) (sym same) (is_attr-itself a))

change_kept : (a b : Attr) (x : Option Data) (rows : List Row) → is_attr a b ≡ false → value_of b (with_change a x rows) ≡ value_of b rows
change_kept a b None rows other = value-without_value_other a b rows (attr_apart a b other)
change_kept a b (Some d) rows other = value-with_value_other a b d rows (attr_apart a b other)

pub changes_kept : (b : Attr) (changes : List NewValue) → is_changed changes b ≡ false → (rows : List Row) → value_of b (with_changes changes rows) ≡ value_of b rows
changes_kept b [] none rows = refl
changes_kept b (c ∷ changes) none rows =
    let parts = or_parts (is_attr c.0 b) (is_changed changes b) none in
    changes_kept b changes parts.1 (with_change c.0 c.1 rows) ∙ change_kept c.0 b c.1 rows parts.0

-- what is kept of rows, attribute by attribute
abbrev pub kept_row : (Attr → Data → Option Data) → Row → Option Row
kept_row h row = option_map (λ (d : Data). (row.0, d)) (h row.0 row.1)

filter_kept : (h : Attr → Data → Option Data) (p : Attr → Bool) (rows : List Row) → filter_map (kept_row h) (filter (λ row. p row.0) rows) ≡ filter (λ row. p row.0) (filter_map (kept_row h) rows)
filter_kept h p [] = refl
filter_kept h p (row ∷ rows) = elim (cases_Bool (p row.0)) [
  | inl t ↦ rw t (passes (h row.0 row.1) t (filter_kept h p rows))
  | inr f ↦ rw f (filter_kept h p rows ∙ sym (fails (h row.0 row.1) f))
]
  where
    passes : (x : Option Data) → p row.0 ≡ true → filter_map (kept_row h) (filter (λ row. p row.0) rows) ≡ filter (λ row. p row.0) (filter_map (kept_row h) rows) → cons_option (option_map (λ (d : Data). (row.0, d)) x) (filter_map (kept_row h) (filter (λ row. p row.0) rows)) ≡ filter (λ row. p row.0) (cons_option (option_map (λ (d : Data). (row.0, d)) x) (filter_map (kept_row h) rows))
    passes None t rest = rest
    passes (Some d) t rest = rw t (ap (λ more. (row.0, d) ∷ more) rest)

    fails : (x : Option Data) → p row.0 ≡ false → filter (λ row. p row.0) (cons_option (option_map (λ (d : Data). (row.0, d)) x) (filter_map (kept_row h) rows)) ≡ filter (λ row. p row.0) (filter_map (kept_row h) rows)
    fails None f = refl
    fails (Some d) f = rw f refl

-- a change of what is kept is what is kept of the change
pub change_seen : (h : Attr → Data → Option Data) (a : Attr) (x : Option Data) (rows : List Row) → filter_map (kept_row h) (with_change a x rows) ≡ with_change a (option_and_then (h a) x) (filter_map (kept_row h) rows)
change_seen h a None rows =
    filter_map-append (kept_row h) (rows_before a rows) (rows_after a rows)
    ∙ ap (λ more. more ++ filter_map (kept_row h) (rows_after a rows)) (filter_kept h (λ b. is_lt (attr_cmp b a)) rows)
    ∙ ap (λ more. rows_before a (filter_map (kept_row h) rows) ++ more) (filter_kept h (λ b. is_lt (attr_cmp a b)) rows)
change_seen h a (Some d) rows =
    filter_map-append (kept_row h) (rows_before a rows) ((a, d) ∷ rows_after a rows)
    ∙ ap (λ more. more ++ cons_option (kept_row h (a, d)) (filter_map (kept_row h) (rows_after a rows))) (filter_kept h (λ b. is_lt (attr_cmp b a)) rows)
    ∙ ap (λ more. rows_before a (filter_map (kept_row h) rows) ++ cons_option (kept_row h (a, d)) more) (filter_kept h (λ b. is_lt (attr_cmp a b)) rows)
    ∙ by_kept (h a d)
  where
    by_kept : (x : Option Data) → rows_before a (filter_map (kept_row h) rows) ++ cons_option (option_map (λ (d : Data). (a, d)) x) (rows_after a (filter_map (kept_row h) rows)) ≡ with_change a x (filter_map (kept_row h) rows)
    by_kept None = refl
    by_kept (Some d) = refl

abbrev pub changes_by : (Attr → Data → Option Data) → List NewValue → List NewValue
changes_by h changes = map (λ (c : NewValue). (c.0, option_and_then (h c.0) c.1)) changes

-- they are of the same attributes
changes_test : (h : Attr → Data → Option Data) (p : Attr → Bool) (changes : List NewValue) → list_any (λ (c : NewValue). p c.0) (changes_by h changes) ≡ list_any (λ (c : NewValue). p c.0) changes
changes_test h p [] = refl
changes_test h p (c ∷ changes) = ap (λ b. p c.0 || b) (changes_test h p changes)

pub changes_seen : (h : Attr → Data → Option Data) (changes : List NewValue) (rows : List Row) → filter_map (kept_row h) (with_changes changes rows) ≡ with_changes (changes_by h changes) (filter_map (kept_row h) rows)
changes_seen h [] rows = refl
changes_seen h (c ∷ changes) rows =
    changes_seen h changes (with_change c.0 c.1 rows) ∙ ap (with_changes (changes_by h changes)) (change_seen h c.0 c.1 rows)

then_same : (f g : Data → Option Data) → ((d : Data) → f d ≡ g d) → (x : Option Data) → option_and_then f x ≡ option_and_then g x
then_same f g same None = refl
then_same f g same (Some d) = same d

changes_same : (h k : Attr → Data → Option Data) → ((a : Attr) (d : Data) → h a d ≡ k a d) → (changes : List NewValue) → changes_by h changes ≡ changes_by k changes
changes_same h k same [] = refl
changes_same h k same (c ∷ changes) =
    ap (λ x. (c.0, x) ∷ changes_by h changes) (then_same (h c.0) (k c.0) (same c.0) c.1)
    ∙ ap (λ more. (c.0, option_and_then (k c.0) c.1) ∷ more) (changes_same h k same changes)

-- ---- what is kept where nothing that judges is changed

-- no change is of an attribute that passes a test
test_kept : (p : Attr → Bool) (b : Attr) (changes : List NewValue) → p b ≡ true → list_any (λ (c : NewValue). p c.0) changes ≡ false → is_changed changes b ≡ false
test_kept p b changes one none = any_fewer (λ (c : NewValue). p c.0) (λ (c : NewValue). is_attr c.0 b) (λ c other. elim (cases_Bool (is_attr c.0 b)) [
  | inl t ↦ absurd (both_ways _ other (subst (λ (a : Attr). p a ≡ true) (sym (is_attr-same c.0 b t)) one))
  | inr f ↦ f
]) changes none

module _ (ty : Ty) (changes : List NewValue) (free : do_judge ty changes ≡ false) where
  judge_kept : (b : Attr) → does_judge ty b ≡ true → is_changed changes b ≡ false
  judge_kept b one = test_kept (does_judge ty) b changes one free

reach_kept : (b : Attr) (changes : List NewValue) → is_attr_in (Mia ∷ Macp ∷ []) b ≡ true → do_reach changes ≡ false → is_changed changes b ≡ false
reach_kept b changes one none = test_kept (is_attr_in (Mia ∷ Macp ∷ [])) b changes one none

-- ---- a resource gets changes

type_same : (ty : Ty) (p q : Option ResourceData) → FindSame p q → FindSame (option_and_then (of_type ty) p) (option_and_then (of_type ty) q)
type_same ty None None found = tt
type_same ty None (Some r) found = absurd found
type_same ty (Some s) None found = absurd found
type_same ty (Some s) (Some r) found =
    let same : is_ty s.ty ty ≡ is_ty r.ty ty = ap (λ own. is_ty own ty) found.ty in
    same_chosen FindSame _ _ _ _ _ _ same (λ t. found) (λ f. tt)

abbrev pub no_id : Data → Bool
no_id id = false

-- the last change and the expiry as they are then seen
abbrev lt_by : Option ℕ → Bool → ℕ → ℕ
lt_by None tells before = before
lt_by (Some m) tells before = cond tells m 0

abbrev et_by : Option ℕ → Bool → Bool → ℕ → ℕ
et_by None tells base before = before
et_by (Some m) tells base before = cond tells m (cond base 0 m)

-- what was seen of the resource, after changes as they are seen, by what the originator may do
abbrev after : ResourceData → Option ℕ → Option ℕ → Bool → Bool → Bool → List NewValue → ResourceData
after s lt et retrieves tells inside changes =
    made s s.owner s.ct (lt_by lt (retrieves || tells) s.lt) (et_by et (retrieves || inside) (is_ty s.ty CseBase) s.et) (with_changes changes s.attrs)

-- where all is found the same, so are the policies that ids name
pub finds_same : (zs xs : List ResourceData) → ((m : ℕ) → FindSame (at m zs) (at m xs)) → FindsSame no_id zs xs
finds_same zs xs find_same = record {
  policies = λ id any. by_text (as_text id);
  free = λ m s at_m. list_any-append no_id (ids_at Acpi s) (ids_at Macp s) ∙ or_from _ _ (none_of (ids_at Acpi s)) (none_of (ids_at Macp s));
  above = λ m s at_m. find_same s.parent;
}
  where
    by_parts : (x : Option (Ty × ℕ)) → FindSame (option_and_then (λ (q : Ty × ℕ). typed_at q.0 q.1 zs) x) (option_and_then (λ (q : Ty × ℕ). typed_at q.0 q.1 xs) x)
    by_parts None = tt
    by_parts (Some q) = type_same q.0 (at q.1 zs) (at q.1 xs) (find_same q.1)

    by_text : (x : Option (List ℕ)) → FindSame (option_and_then (policy_named zs) x) (option_and_then (policy_named xs) x)
    by_text None = tt
    by_text (Some text) = type_same AccessControlPolicy (resource_of_id text zs) (resource_of_id text xs) (by_parts (id_parts text))

module _ (home : HomeData) (o : List ℕ) (xs : List ResourceData) (well : is_well_formed xs ≡ true) (n : ℕ) (r : ResourceData) (found : at n xs ≡ Some r) (other : is_ty r.ty ContentInstance ≡ false) (changes : List NewValue) (lt et : Option ℕ) (free : do_judge r.ty changes ≡ false) (limits : do_reach changes ≡ true → has_bit home xs o update_bit r ≡ true) where
  abbrev new : ResourceData
  new = changed changes lt et r

  abbrev zs : List ResourceData
  zs = replaced (changed changes lt et r) xs

  number : r.number ≡ n
  number = at_number n xs r found

  here : at r.number xs ≡ Some r
  here = ap (λ m. at m xs) number ∙ found

  there : at r.number (replaced (changed changes lt et r) xs) ≡ Some (changed changes lt et r)
  there = at-replaced (changed changes lt et r) xs (at_has r.number xs r here)

  kept : (b : Attr) → is_changed changes b ≡ false → value_of b (changed changes lt et r).attrs ≡ value_of b r.attrs
  kept b none = changes_kept b changes none r.attrs

  ae_same : ae_id (changed changes lt et r) ≡ ae_id r
  ae_same =
      both_chosen (λ (x y : Option (List ℕ)). x ≡ y) (is_ty r.ty Ae) _ _ _ _ (λ t. ap (option_and_then as_text) (kept Aei (judge_kept r.ty changes free Aei (rw t refl)))) (λ f. refl)

  cse_same : cse_id (changed changes lt et r) ≡ cse_id r
  cse_same =
      both_chosen (λ (x y : Option (List ℕ)). x ≡ y) (is_ty r.ty RemoteCse) _ _ _ _ (λ t. ap (option_and_then as_text) (kept Csi (judge_kept r.ty changes free Csi (cse_named r.ty t)))) (λ f. refl)

  judge : JudgeSame (changed changes lt et r) r
  judge = record {
    ty = refl;
    parent = refl;
    owner = refl;
    acpi = kept Acpi (judge_kept r.ty changes free Acpi refl);
    pv = kept Pv (judge_kept r.ty changes free Pv refl);
    pvs = kept Pvs (judge_kept r.ty changes free Pvs refl);
    registree = same_ids (ae_id (changed changes lt et r)) (ae_id r) (cse_id (changed changes lt et r)) (cse_id r) ae_same cse_same;
  }

  find_same : (m : ℕ) → FindSame (at m (replaced (changed changes lt et r) xs)) (at m xs)
  find_same m = elim (cases_Bool (m == r.number)) [
    | inl t ↦ subst (λ (k : ℕ). FindSame (at k zs) (at k xs)) (sym (eqb-true m r.number t)) (rw (there, here) judge)
    | inr f ↦ subst (λ (p : Option ResourceData). FindSame p (at m xs)) (sym (at-replaced_other m new xs (λ e. both_ways _ f (eq-eqb m r.number e)))) (find_itself (at m xs))
  ]

  finds : FindsSame no_id (replaced (changed changes lt et r) xs) xs
  finds = finds_same (replaced (changed changes lt et r) xs) xs find_same

  -- an instance of a container whose greatest age is changed is seen with its end
  end_same : (s : ResourceData) → at s.number xs ≡ Some s → (has_bit home xs o retrieve_bit s || is_filled_in home xs o s) ≡ false → due (replaced (changed changes lt et r) xs) s ≡ due xs s
  end_same s at_s hides = elim (cases_Bool (is_ty s.ty ContentInstance)) [
    | inr f ↦ due_plain (at s.parent zs) (at s.parent xs) s f
    | inl instance ↦ elim (cases_Bool (s.parent == r.number)) [
      | inr f ↦ ap (λ (p : Option ResourceData). due_under p s) (at-replaced_other s.parent new xs (λ e. both_ways _ f (eq-eqb s.parent r.number e)))
      | inl t ↦
          let same : s.parent ≡ r.number = eqb-true s.parent r.number t in
          let after_it : at s.parent zs ≡ Some new = ap (λ m. at m zs) same ∙ there in
          let before : at s.parent xs ≡ Some r = ap (λ m. at m xs) same ∙ here in
          elim (cases_Bool (do_reach changes)) [
            | inr none ↦
                ap (λ (p : Option ResourceData). due_under p s) after_it ∙ due_instance new s instance
                ∙ ap (λ (age : Option Data). Some (end_of s.et s.ct age)) (kept Mia (reach_kept Mia changes refl none))
                ∙ sym (ap (λ (p : Option ResourceData). due_under p s) before ∙ due_instance r s instance)
            | inl some ↦
                let taken : is_taken xs s ≡ true = number_passes (is_taken xs) s.number xs s (all_taken xs well) at_s in
                let container : is_ty r.ty Container ≡ true = in_container xs s r taken instance before in
                let inside : is_filled_in home xs o s ≡ true = same_fill home xs o s r instance before container ∙ and_from _ _ container (or_right _ _ (limits some)) in
                absurd (both_ways _ (or_parts (has_bit home xs o retrieve_bit s) (is_filled_in home xs o s) hides).1 inside)
          ]
    ]
  ]

  -- the others are seen as before
  seen_list_others : map (seen home (replaced (changed changes lt et r) xs) o) xs ≡ seen_list home xs o
  seen_list_others =
      let f = seen home zs o in
      map_from_zip (seen home xs o) (map f xs) xs (zip-found (λ s q. s ≡ seen home xs o q) f xs (tree_from_well_formed xs well) (λ s at_s. seen_found home o no_id zs xs finds s s.number at_s (end_same s at_s)))

  use_kept : may_use home (replaced (changed changes lt et r) xs) o (changed changes lt et r) ≡ may_use home xs o r
  use_kept = elim (cases_Bool (do_reach changes)) [
    | inr none ↦ use_same home o no_id zs xs finds new r n judge found (kept Macp (reach_kept Macp changes refl none))
    | inl some ↦
        let was : has_bit home xs o update_bit r ≡ true = limits some in
        let is : has_bit home zs o update_bit new ≡ true = may_same home o no_id zs xs finds new r n judge found update_bit ∙ was in
        ap (λ b. is_ty r.ty Group && b) (or_left _ _ is) ∙ sym (ap (λ b. is_ty r.ty Group && b) (or_left _ _ was))
  ]

  both : MaySame home o (replaced (changed changes lt et r) xs) xs (changed changes lt et r) r
  both = may_same_but home o no_id zs xs finds new r n judge found use_kept

  attrs_after : (seen home (replaced (changed changes lt et r) xs) o (changed changes lt et r)).attrs ≡ with_changes (changes_by (seen_value home xs o r) changes) (seen home xs o r).attrs
  attrs_after =
      filter_map_same (seen_row home zs o new) (seen_row home xs o r) (row_same home o zs xs new r refl both) new.attrs
      ∙ changes_seen (seen_value home xs o r) changes r.attrs

  lt_after : (tells : Bool) (x : Option ℕ) → cond tells (unwrap_or x r.lt) 0 ≡ lt_by x tells (cond tells r.lt 0)
  lt_after tells None = refl
  lt_after tells (Some m) = refl

  -- with a new expiry or its own it is due then
  due_after : (m : ℕ) → (s : ResourceData) → s.ty ≡ r.ty → s.et ≡ m → (p : Option ResourceData) → unwrap_or (due_under p s) 0 ≡ cond (is_ty r.ty CseBase) 0 m
  due_after m s ty end p = elim (cases_Bool (is_ty r.ty CseBase)) [
    | inl t ↦ rw t (ap (λ (d : Option ℕ). unwrap_or d 0) (due_base p s (ap (λ x. is_ty x CseBase) ty ∙ t)))
    | inr f ↦ rw f (ap (λ (d : Option ℕ). unwrap_or d 0) (due_other p s (ap (λ x. is_ty x CseBase) ty ∙ f) (ap (λ x. is_ty x ContentInstance) ty ∙ other)) ∙ end)
  ]

  et_after : (tells : Bool) (x : Option ℕ) → cond tells (unwrap_or x r.et) (cond (is_ty r.ty CseBase) 0 (unwrap_or x r.et)) ≡ et_by x tells (is_ty r.ty CseBase) (cond tells r.et (cond (is_ty r.ty CseBase) 0 r.et))
  et_after tells None = refl
  et_after tells (Some m) = refl

  abbrev retrieves : Bool
  retrieves = has_bit home xs o retrieve_bit r

  abbrev tells : Bool
  tells = has_bit home xs o discovery_bit r

  abbrev inside : Bool
  inside = is_filled_in home xs o r

  et_seen_after : cond (has_bit home xs o retrieve_bit r || is_filled_in home xs o r) (unwrap_or et r.et) (unwrap_or (due (replaced (changed changes lt et r) xs) (changed changes lt et r)) 0) ≡ et_by et (has_bit home xs o retrieve_bit r || is_filled_in home xs o r) (is_ty r.ty CseBase) (seen home xs o r).et
  et_seen_after =
      ap (cond (retrieves || inside) (unwrap_or et r.et)) (due_after (unwrap_or et r.et) new refl refl (at r.parent zs))
      ∙ et_after (retrieves || inside) et
      ∙ ap (λ m. et_by et (retrieves || inside) (is_ty r.ty CseBase) (cond (retrieves || inside) r.et m)) (sym (due_after r.et r refl refl (at r.parent xs)))

  -- the resource as it is then seen, by its rights and places on the new list
  abbrev seen_new : Bool → Bool → Bool → List Row → ResourceData
  seen_new a b c attrs =
      made r (seen_owner home o r) (cond (a || b || c) r.ct 0) (cond (a || b) (unwrap_or lt r.lt) 0) (cond (a || c) (unwrap_or et r.et) (unwrap_or (due zs new) 0)) attrs

  -- what is then seen of the resource follows from what was seen of it
  seen_after : seen home (replaced (changed changes lt et r) xs) o (changed changes lt et r) ≡ after (seen home xs o r) lt et (has_bit home xs o retrieve_bit r) (has_bit home xs o discovery_bit r) (is_filled_in home xs o r) (changes_by (seen_value home xs o r) changes)
  seen_after =
      let attrs = with_changes (changes_by (seen_value home xs o r) changes) (seen home xs o r).attrs in
      ap (λ b. seen_new b (has_bit home zs o discovery_bit new) (is_filled_in home zs o new) (seen home zs o new).attrs) (both.may retrieve_bit)
      ∙ ap (λ b. seen_new retrieves b (is_filled_in home zs o new) (seen home zs o new).attrs) (both.may discovery_bit)
      ∙ ap (λ b. seen_new retrieves tells b (seen home zs o new).attrs) both.inside
      ∙ ap (seen_new retrieves tells inside) attrs_after
      ∙ ap (λ m. made r (seen_owner home o r) (seen home xs o r).ct m (cond (retrieves || inside) (unwrap_or et r.et) (unwrap_or (due zs new) 0)) attrs) (lt_after (retrieves || tells) lt)
      ∙ ap (λ m. made r (seen_owner home o r) (seen home xs o r).ct (lt_by lt (retrieves || tells) (seen home xs o r).lt) m attrs) et_seen_after

  seen_list_after : seen_list home (replaced (changed changes lt et r) xs) o ≡ replaced (after (seen home xs o r) lt et (has_bit home xs o retrieve_bit r) (has_bit home xs o discovery_bit r) (is_filled_in home xs o r) (changes_by (seen_value home xs o r) changes)) (seen_list home xs o)
  seen_list_after =
      map-replaced (seen home zs o) (λ s. refl) new xs
      ∙ ap (replaced (seen home zs o new)) seen_list_others
      ∙ ap (λ s. replaced s (seen_list home xs o)) seen_after

-- ---- equal sights

may_seen_same : (home : HomeData) (xs ys : List ResourceData) (o : List ℕ) (same : seen_list home xs o ≡ seen_list home ys o) (r q : ResourceData) → seen home xs o r ≡ seen home ys o q → MaySame home o xs ys r q
may_seen_same home xs ys o same r q e = record {
  may = λ bit. same_by home o xs ys same r q e (λ nodes s. has_bit home nodes o bit s) (λ (nodes : List ResourceData). may-seen home o nodes nodes bit);
  fills = same_by home o xs ys same r q e (λ nodes s. fills home nodes o s) (λ (nodes : List ResourceData). fills-seen home o nodes nodes);
  inside = same_by home o xs ys same r q e (λ nodes s. is_filled_in home nodes o s) (λ (nodes : List ResourceData). is_filled_in-seen home o nodes nodes);
  uses = same_by home o xs ys same r q e (λ nodes s. may_use home nodes o s) (λ (nodes : List ResourceData). may_use-seen home o nodes nodes);
}

sight_at : (home : HomeData) (xs ys : List ResourceData) (o : List ℕ) (n : ℕ) (r q : ResourceData) → at n xs ≡ Some r → at n ys ≡ Some q → seen_list home xs o ≡ seen_list home ys o → seen home xs o r ≡ seen home ys o q
sight_at home xs ys o n r q found place same =
    let left : at n (seen_list home xs o) ≡ Some (seen home xs o r) = at-seen home xs o n ∙ ap (option_map (seen home xs o)) found in
    let right : at n (seen_list home ys o) ≡ Some (seen home ys o q) = at-seen home ys o n ∙ ap (option_map (seen home ys o)) place in
    same_Some (seen home xs o r) (seen home ys o q) (sym left ∙ ap (at n) same ∙ right)

-- the originator sees the same of the changes
pub replace-seen : (home : HomeData) (xs ys : List ResourceData) (o : List ℕ) (n : ℕ) (r q : ResourceData) (changes others : List NewValue) (lt et : Option ℕ) → is_well_formed xs ≡ true → is_well_formed ys ≡ true → at n xs ≡ Some r → at n ys ≡ Some q → ShowNoMore home xs o r changes → seen_changes home xs o r changes ≡ seen_changes home ys o q others → seen_list home xs o ≡ seen_list home ys o → seen_list home (replaced (changed changes lt et r) xs) o ≡ seen_list home (replaced (changed others lt et q) ys) o
replace-seen home xs ys o n r q changes others lt et wellx welly found place touch alike same =
    let e : seen home xs o r ≡ seen home ys o q = sight_at home xs ys o n r q found place same in
    let ty : r.ty ≡ q.ty = ap (λ (s : ResourceData). s.ty) e in
    let rights : MaySame home o xs ys r q = may_seen_same home xs ys o same r q e in
    let tests : (p : Attr → Bool) → list_any (λ (c : NewValue). p c.0) changes ≡ list_any (λ (c : NewValue). p c.0) others = λ p.
    sym (changes_test (seen_value home xs o r) p changes) ∙ ap (list_any (λ (c : NewValue). p c.0)) alike ∙ changes_test (seen_value home ys o q) p others in
    let yours : do_reach others ≡ true → has_bit home ys o update_bit q ≡ true = λ some. sym (rights.may update_bit) ∙ touch.reach (tests (is_attr_in (Mia ∷ Macp ∷ [])) ∙ some) in
    let free_too : do_judge q.ty others ≡ false = sym (tests (does_judge q.ty)) ∙ sym (ap (λ t. do_judge t changes) ty) ∙ touch.free in
    let shown = changes_by (seen_value home xs o r) changes in
    seen_list_after home o xs wellx n r found touch.other changes lt et touch.free touch.reach
    ∙ ap (λ (nodes : List ResourceData). replaced (after (seen home xs o r) lt et (has_bit home xs o retrieve_bit r) (has_bit home xs o discovery_bit r) (is_filled_in home xs o r) shown) nodes) same
    ∙ ap (λ s. replaced (after s lt et (has_bit home xs o retrieve_bit r) (has_bit home xs o discovery_bit r) (is_filled_in home xs o r) shown) (seen_list home ys o)) e
    ∙ ap (λ b. replaced (after (seen home ys o q) lt et b (has_bit home xs o discovery_bit r) (is_filled_in home xs o r) shown) (seen_list home ys o)) (rights.may retrieve_bit)
    ∙ ap (λ b. replaced (after (seen home ys o q) lt et (has_bit home ys o retrieve_bit q) b (is_filled_in home xs o r) shown) (seen_list home ys o)) (rights.may discovery_bit)
    ∙ ap (λ b. replaced (after (seen home ys o q) lt et (has_bit home ys o retrieve_bit q) (has_bit home ys o discovery_bit q) b shown) (seen_list home ys o)) rights.inside
    ∙ ap (λ those. replaced (after (seen home ys o q) lt et (has_bit home ys o retrieve_bit q) (has_bit home ys o discovery_bit q) (is_filled_in home ys o q) those) (seen_list home ys o)) alike
    ∙ sym (seen_list_after home o ys welly n q place (sym (ap (λ t. is_ty t ContentInstance) ty) ∙ touch.other) others lt et free_too yours)

-- it sees the same of the same changes
pub replace-same : (home : HomeData) (xs ys : List ResourceData) (o : List ℕ) (n : ℕ) (r q : ResourceData) (changes : List NewValue) (lt et : Option ℕ) → is_well_formed xs ≡ true → is_well_formed ys ≡ true → at n xs ≡ Some r → at n ys ≡ Some q → ShowNoMore home xs o r changes → seen_list home xs o ≡ seen_list home ys o → seen_list home (replaced (changed changes lt et r) xs) o ≡ seen_list home (replaced (changed changes lt et q) ys) o
replace-same home xs ys o n r q changes lt et wellx welly found place touch same =
    let e : seen home xs o r ≡ seen home ys o q = sight_at home xs ys o n r q found place same in
    let ty : r.ty ≡ q.ty = ap (λ (s : ResourceData). s.ty) e in
    let rights : MaySame home o xs ys r q = may_seen_same home xs ys o same r q e in
    replace-seen home xs ys o n r q changes changes lt et wellx welly found place touch
    (changes_same (seen_value home xs o r) (seen_value home ys o q) (value_same home o xs ys r q ty rights) changes) same

-- what stands beside it is seen as before
pub replace-others : (home : HomeData) (nodes : List ResourceData) (o : List ℕ) (n : ℕ) (r : ResourceData) (changes : List NewValue) (lt et : Option ℕ) → is_well_formed nodes ≡ true → at n nodes ≡ Some r → ShowNoMore home nodes o r changes → seen_list home (replaced (changed changes lt et r) nodes) o ≡ replaced (seen home (replaced (changed changes lt et r) nodes) o (changed changes lt et r)) (seen_list home nodes o)
replace-others home nodes o n r changes lt et well found touch =
    let new = changed changes lt et r in
    map-replaced (seen home (replaced new nodes) o) (λ s. refl) new nodes
    ∙ ap (replaced (seen home (replaced new nodes) o new)) (seen_list_others home o nodes well n r found touch.other changes lt et touch.free touch.reach)
