-- Equal sights stay equal where the same resource is appended.
use Rattle.policy_laws.proofs.Words.{nat_lt, ◌≡◌, ℕ, ◌<◌, List, [], ◌∷◌, ◌++◌, map, Bool, true, false, ◌&&◌, ◌||◌, Option, Some, None, is_some, inl, inr, refl, sym, ap, ◌∙◌, subst, arith, list_any, option_and_then, option_map_or, option_or}
use Rattle.policy_laws.proofs.Terms.{Acpi, Macp, id_parts, Ty, AccessControlPolicy, Container, ContentInstance, Group, Data, as_text, value_of, HomeData, ResourceData, is_ty, has_number, at, due, due_under, fits_in, is_well_formed, of_type, typed_at, listed_in, fan_rules, policy_named, policy_of, bits_by, has_bits, update_bit}
use Rattle.policy_laws.proofs.Facts.{cases_Bool, both_ways, and_from, and_parts, or_cases, or_left, or_right, or_parts, ne_eqb, map-append, same_Some, IsNext, below_has, grows-append, next_fits, stands, tree_from_well_formed, FitsIn, fits_parts, at-append, at_has, at_number, option_or-None, due_plain}
use Rattle.equal_sights.specs.Alike.{Alike, AreAlike, FindAlike}
use Rattle.policy_laws.specs.Changes.{is_id_of, does_link, is_linked, learns_limits}
use Rattle.equal_sights.specs.Seen.{create_bit, retrieve_bit, has_bit, fills, is_filled_in, seen, seen_list}
use Rattle.policy_laws.proofs.AlikeLemmas.{alike_itself, append-alike, at-alike, fan_rules-alike, map_from_zip, rules-alike, ty-alike}
use Rattle.policy_laws.proofs.DueLemmas.{in_container, same_fill, same_may}
use Rattle.policy_laws.proofs.EqualLemmas.{same_alike}
use Rattle.policy_laws.proofs.LookupLemmas.{FindSame, FindsSame, MaySame, find_itself, judge_itself, may_the_same, seen_found, seen_same}
use Rattle.policy_laws.proofs.TwiceLemmas.{zip-found}

-- what has the type and is a policy; that of an id's type and number
abbrev policy_of_type : Ty → Option ResourceData → Option ResourceData
policy_of_type ty found = option_and_then (of_type AccessControlPolicy) (option_and_then (of_type ty) found)

abbrev policy_by : Option (Ty × ℕ) → List ResourceData → Option ResourceData
policy_by parts nodes = option_and_then (of_type AccessControlPolicy) (option_and_then (λ (q : Ty × ℕ). typed_at q.0 q.1 nodes) parts)

-- ---- lists of which the originator sees the same are alike

abbrev first_or : ResourceData → List ResourceData → ResourceData
first_or d [] = d
first_or d (r ∷ rs) = r

abbrev rest_of : List ResourceData → List ResourceData
rest_of [] = []
rest_of (r ∷ rs) = rs

module _ (home : HomeData) (o : List ℕ) (xs ys : List ResourceData) (same : seen_list home xs o ≡ seen_list home ys o) where
  alike_parts : (us vs : List ResourceData) → map (seen home xs o) us ≡ map (seen home ys o) vs → AreAlike home o us vs
  alike_parts [] [] e = tt
  alike_parts [] (v ∷ vs) e = absurd (let none : [] ≡ seen home ys o v ∷ map (seen home ys o) vs = e in cc)
  alike_parts (u ∷ us) [] e = absurd (let none : seen home xs o u ∷ map (seen home xs o) us ≡ [] = e in cc)
  alike_parts (u ∷ us) (v ∷ vs) e =
      (same_alike home o xs ys same u v (ap (first_or u) e) u (alike_itself home o u), alike_parts us vs (ap rest_of e))

  pub alike_from_seen : AreAlike home o xs ys
  alike_from_seen = alike_parts xs ys same

-- ---- on lists that are alike the originator may do the same with a resource

module _ (home : HomeData) (o : List ℕ) (zs ws : List ResourceData) (all : AreAlike home o zs ws) where
  may_alike : (p q : ResourceData) → Alike home o p q → (bit : ℕ) → has_bit home zs o bit p ≡ has_bit home ws o bit q
  may_alike p q one bit = ap (λ bits. has_bits bits bit) ((rules-alike home o zs ws all p q one).bits 0)

  fills_alike : (p q : ResourceData) → Alike home o p q → fills home zs o p ≡ fills home ws o q
  fills_alike p q one =
      ap (λ b. b && (has_bit home zs o create_bit p || has_bit home zs o update_bit p)) (ty-alike home o p q one Container)
      ∙ ap (λ b. is_ty q.ty Container && (b || has_bit home zs o update_bit p)) (may_alike p q one create_bit)
      ∙ ap (λ b. is_ty q.ty Container && (has_bit home ws o create_bit q || b)) (may_alike p q one 4)

  filled_alike : (p q : Option ResourceData) → FindAlike home o p q → option_map_or (fills home zs o) p false ≡ option_map_or (fills home ws o) q false
  filled_alike None None found = refl
  filled_alike None (Some q) found = absurd found
  filled_alike (Some p) None found = absurd found
  filled_alike (Some p) (Some q) found = fills_alike p q found

  pub may_all_alike : (r : ResourceData) → MaySame home o zs ws r r
  may_all_alike r = record {
    may = may_alike r r (alike_itself home o r);
    fills = fills_alike r r (alike_itself home o r);
    inside = ap (λ b. is_ty r.ty ContentInstance && b) (filled_alike (at r.parent zs) (at r.parent ws) (at-alike home o zs ws all r.parent));
    uses =
        ap (λ b. is_ty r.ty Group && (b || nat_lt 0 (bits_by home o (fan_rules zs r)))) (may_alike r r (alike_itself home o r) 4)
        ∙ ap (λ bits. is_ty r.ty Group && (has_bit home ws o update_bit r || nat_lt 0 bits)) ((fan_rules-alike home o zs ws all r r (alike_itself home o r)).bits 0);
  }

-- ---- the links to a policy are seen

linked_alike : (home : HomeData) (o : List ℕ) (p : ResourceData) (xs ys : List ResourceData) → AreAlike home o xs ys → is_linked p xs ≡ is_linked p ys
linked_alike home o p [] [] all = refl
linked_alike home o p [] (y ∷ ys) all = absurd all
linked_alike home o p (x ∷ xs) [] all = absurd all
linked_alike home o p (x ∷ xs) (y ∷ ys) all =
    ap (λ (d : Option Data). list_any (is_id_of p) (listed_in d ++ listed_in (value_of Macp x.attrs)) || is_linked p xs) (all.0.shape Acpi refl)
    ∙ ap (λ (d : Option Data). list_any (is_id_of p) (listed_in (value_of Acpi y.attrs) ++ listed_in d) || is_linked p xs) (all.0.shape Macp refl)
    ∙ ap (λ b. does_link p y || b) (linked_alike home o p xs ys all.1)

free_found : (p : ResourceData → Bool) (n : ℕ) (xs : List ResourceData) (r : ResourceData) → list_any p xs ≡ false → at n xs ≡ Some r → p r ≡ false
free_found p n [] r none found = cc
free_found p n (s ∷ xs) r none found =
    let parts = or_parts (p s) (list_any p xs) none in
    elim (cases_Bool (has_number n s)) [
      | inl t ↦ (let here : Some s ≡ Some r = rw t at found in subst (λ (x : ResourceData). p x ≡ false) (same_Some s r here) parts.0)
      | inr f ↦ free_found p n xs r parts.1 (rw f at found)
    ]

-- ---- a list and a resource that comes next

module _ (xs : List ResourceData) (r : ResourceData) (well : is_well_formed (xs ++ r ∷ []) ≡ true) where
  halves : (is_well_formed xs ≡ true) × (fits_in xs r ≡ true)
  halves = and_parts (is_well_formed xs) (fits_in xs r) (sym (grows-append fits_in [] xs r) ∙ well)

  next_parts : FitsIn xs r
  next_parts = fits_parts xs r halves.1

  next : IsNext xs r
  next = next_fits xs r next_parts.stands

  at_earlier : (n : ℕ) → n < r.number → at n (xs ++ r ∷ []) ≡ at n xs
  at_earlier n below =
      let apart : has_number n r ≡ false = ne_eqb r.number n (λ e. omega arith) in
      at-append n xs (r ∷ []) ∙ rw apart (option_or-None (at n xs))

  -- the parent of what stood there is found as before
  at_parent : (n : ℕ) (s : ResourceData) → at n xs ≡ Some s → at s.parent (xs ++ r ∷ []) ≡ at s.parent xs
  at_parent n s found =
      let up : s.parent < n = (stands xs (tree_from_well_formed xs halves.0) n s found).above in
      let before : n < r.number = below_has r.number n xs next.number (at_has n xs s found) in
      at_earlier s.parent (omega arith)

  policies_before : (id : Data) → is_id_of r id ≡ false → policy_of (xs ++ r ∷ []) id ≡ policy_of xs id
  policies_before id other = by_text (as_text id) other
    where
      none_there : (p : Option ResourceData) → is_some p ≡ false → p ≡ None
      none_there None none = refl
      none_there (Some q) none = cc

      by_found : (ty : Ty) (p here : Option ResourceData) → is_some (policy_of_type ty here) ≡ false → policy_of_type ty (option_or p here) ≡ policy_of_type ty p
      by_found ty (Some p) here none = refl
      by_found ty None here none = none_there (policy_of_type ty here) none

      by_parts : (parts : Option (Ty × ℕ)) → is_some (policy_by parts (r ∷ [])) ≡ false → policy_by parts (xs ++ r ∷ []) ≡ policy_by parts xs
      by_parts None none = refl
      by_parts (Some q) none =
          ap (policy_of_type q.0) (at-append q.1 xs (r ∷ [])) ∙ by_found q.0 (at q.1 xs) (at q.1 (r ∷ [])) none

      by_text : (text : Option (List ℕ)) → is_some (option_and_then (policy_named (r ∷ [])) text) ≡ false → option_and_then (policy_named (xs ++ r ∷ [])) text ≡ option_and_then (policy_named xs) text
      by_text None none = refl
      by_text (Some text) none = by_parts (id_parts text) none

  module _ (unlinked : is_linked r xs ≡ false) where
    finds : FindsSame (is_id_of r) (xs ++ r ∷ []) xs
    finds = record {
      policies = λ id other. subst (λ (p : Option ResourceData). FindSame p (policy_of xs id)) (sym (policies_before id other)) (find_itself (policy_of xs id));
      free = λ n s found. free_found (does_link r) n xs s unlinked found;
      above = λ n s found. subst (λ (p : Option ResourceData). FindSame p (at s.parent xs)) (sym (at_parent n s found)) (find_itself (at s.parent xs));
    }

    module _ (home : HomeData) (o : List ℕ) where
      -- what stood there is seen as before
      seen_before : (s : ResourceData) → at s.number xs ≡ Some s → seen home (xs ++ r ∷ []) o s ≡ seen home xs o s
      seen_before s found =
          seen_found home o (is_id_of r) (xs ++ r ∷ []) xs finds s s.number found (λ hides. ap (λ (p : Option ResourceData). due_under p s) (at_parent s.number s found))

      pub seen_list_before : seen_list home (xs ++ r ∷ []) o ≡ seen_list home xs o ++ seen home (xs ++ r ∷ []) o r ∷ []
      seen_list_before =
          let f = seen home (xs ++ r ∷ []) o in
          map-append f xs (r ∷ [])
          ∙ ap (λ (rs : List ResourceData). rs ++ f r ∷ [])
          (map_from_zip (seen home xs o) (map f xs) xs (zip-found (λ s q. s ≡ seen home xs o q) f xs (tree_from_well_formed xs halves.0) seen_before))

      -- who learns the limits of its container sees when an instance ends
      learned : is_ty r.ty ContentInstance ≡ true → (p : Option ResourceData) → at r.parent xs ≡ p → learns_limits home xs o r.parent ≡ true → (has_bit home (xs ++ r ∷ []) o retrieve_bit r || is_filled_in home (xs ++ r ∷ []) o r) ≡ true
      learned instance None found learns = absurd (let none : false ≡ true = rw found at learns in both_ways _ refl none)
      learned instance (Some p) found learns =
          let zs = xs ++ r ∷ [] in
          let container : is_ty p.ty Container ≡ true = in_container xs r p next_parts.taken instance found in
          let number : p.number ≡ r.parent = at_number r.parent xs p found in
          let before : r.parent < r.number = below_has r.number r.parent xs next.number (at_has r.parent xs p found) in
          let there : at r.parent zs ≡ Some p = at_earlier r.parent before ∙ found in
          let rights = may_the_same home o (is_id_of r) zs xs finds p p r.parent (judge_itself p) found refl in
          let has : ((has_bit home xs o create_bit p || has_bit home xs o update_bit p) || has_bit home xs o retrieve_bit p) ≡ true = rw found at learns in
          elim (or_cases (has_bit home xs o create_bit p || has_bit home xs o update_bit p) (has_bit home xs o retrieve_bit p) has) [
            | inl fill ↦ or_right _ _ (same_fill home zs o r p instance there container ∙ rights.fills ∙ and_from _ _ container fill)
            | inr read ↦ or_left _ _ (same_may home zs o r p instance there container retrieve_bit ∙ rights.may retrieve_bit ∙ read)
          ]

-- ---- equal sights

pub append-same : (home : HomeData) (xs ys : List ResourceData) (o : List ℕ) (r : ResourceData) → is_well_formed (xs ++ r ∷ []) ≡ true → is_well_formed (ys ++ r ∷ []) ≡ true → is_linked r xs ≡ false → (is_ty r.ty ContentInstance ≡ true → learns_limits home xs o r.parent ≡ true) → seen_list home xs o ≡ seen_list home ys o → seen_list home (xs ++ r ∷ []) o ≡ seen_list home (ys ++ r ∷ []) o
append-same home xs ys o r wellx welly unlinked learns same =
    let zs = xs ++ r ∷ [] in
    let ws = ys ++ r ∷ [] in
    let alike : AreAlike home o xs ys = alike_from_seen home o xs ys same in
    let all : AreAlike home o zs ws = append-alike home o xs ys r r alike (alike_itself home o r) in
    let both : MaySame home o zs ws r r = may_all_alike home o zs ws all r in
    let end : (has_bit home ws o retrieve_bit r || is_filled_in home ws o r) ≡ false → due zs r ≡ due ws r = λ hides. elim (cases_Bool (is_ty r.ty ContentInstance)) [
      | inl instance ↦
          let tells = learned xs r wellx unlinked home o instance (at r.parent xs) refl (learns instance) in
          let alike_test : (has_bit home zs o retrieve_bit r || is_filled_in home zs o r) ≡ (has_bit home ws o retrieve_bit r || is_filled_in home ws o r) =
          ap (λ b. b || is_filled_in home zs o r) (both.may retrieve_bit) ∙ ap (λ b. has_bit home ws o retrieve_bit r || b) both.inside in
          absurd (both_ways _ (alike_test ∙ hides) tells)
      | inr other ↦ due_plain (at r.parent zs) (at r.parent ws) r other
    ] in
    seen_list_before xs r wellx unlinked home o
    ∙ ap (λ (rs : List ResourceData). rs ++ seen home zs o r ∷ []) same
    ∙ ap (λ s. seen_list home ys o ++ s ∷ []) (seen_same home o zs ws r both end)
    ∙ sym (seen_list_before ys r welly (sym (linked_alike home o r xs ys alike) ∙ unlinked) home o)
