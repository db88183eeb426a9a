-- Two lists of which an originator sees the same are seen alike after the same resource joins them.
use Rattle.sight_laws.proofs.Words.{nat_eq, nat_lt, ◌≡◌, ℕ, pos, ◌<◌, List, [], ◌∷◌, Bool, true, false, cond, Option, Some, None, option_map, is_some, inl, inr, refl, sym, ap, ◌∙◌, arith, list_all, list_any, option_and_then, option_map_or, option_or}
use Rattle.sight_laws.proofs.Terms.{St, Ty, AccessControlPolicy, Container, ContentInstance, Data, number, as_text, HomeData, ResourceData, has_number, is_ty, at, is_well_formed, of_type, replaced, restamped, restamped_at, standing, without, linked_ids, policy_named, policy_number, ShowNoMore, do_judge, does_link, is_id_of, is_linked, learns_limits, seen_list, has_known_ids, is_known_id, without_all}
use Rattle.sight_laws.proofs.Facts.{and_parts, both_ways, cases_Bool, eqb-true, ne_eqb, same_type, is_well_formed-replaced, standing-restamped, at-append, at_number, replace-same, without-same}
use Rattle.std.specs.Prelude.{◌++◌}
use Rattle.std.proofs.lemmas.Bool.Decides.{nat_tests}
use Rattle.m2m_names.specs.Ids.{id_parts}
use Rattle.policy_laws.proofs.AppendLemmas.{append-same}

-- ---- no resource names what is new

unknown : (r : ResourceData) (id : Data) → is_known_id r.number id ≡ true → is_id_of r id ≡ false
unknown r id known = by_text (as_text id) known
  where
    by_ty : (p : Ty × ℕ) (is : Bool) → is_ty p.0 AccessControlPolicy ≡ is → option_map_or (λ n. nat_lt n r.number) (cond is (Some p.1) None) true ≡ true → is_some (option_and_then (of_type AccessControlPolicy) (option_and_then (of_type p.0) (at p.1 (r ∷ [])))) ≡ false
    by_ty p true is less =
        let below : p.1 < r.number = grind (arith, nat_tests, less) in
        let apart : has_number p.1 r ≡ false = ne_eqb r.number p.1 (λ same. omega (arith, below, same)) in
        rw apart refl
    by_ty p false is less = elim (cases_Bool (has_number p.1 r)) [
      | inr f ↦ rw f refl
      | inl t ↦ elim (cases_Bool (is_ty r.ty p.0)) [
        | inr f ↦ rw (t, f) refl
        | inl k ↦
            let ty : r.ty ≡ p.0 = same_type r.ty p.0 (eqb-true _ _ k) in
            let other : is_ty r.ty AccessControlPolicy ≡ false = ap (λ (x : Ty). is_ty x AccessControlPolicy) ty ∙ is in
            rw (t, k) (rw other refl)
      ]
    ]

    by_parts : (parts : Option (Ty × ℕ)) → option_map_or (λ n. nat_lt n r.number) (option_and_then (λ (p : Ty × ℕ). cond (is_ty p.0 AccessControlPolicy) (Some p.1) None) parts) true ≡ true → is_some (option_and_then (of_type AccessControlPolicy) (option_and_then (λ (p : Ty × ℕ). option_and_then (of_type p.0) (at p.1 (r ∷ []))) parts)) ≡ false
    by_parts None less = refl
    by_parts (Some p) less = by_ty p (is_ty p.0 AccessControlPolicy) refl less

    by_text : (t : Option (List ℕ)) → option_map_or (λ n. nat_lt n r.number) (option_and_then policy_number t) true ≡ true → is_some (option_and_then (policy_named (r ∷ [])) t) ≡ false
    by_text None less = refl
    by_text (Some t) less = by_parts (id_parts t) less

none_named : (r : ResourceData) (ids : List Data) → list_all (is_known_id r.number) ids ≡ true → list_any (is_id_of r) ids ≡ false
none_named r [] known = refl
none_named r (id ∷ ids) known =
    let parts = and_parts (is_known_id r.number id) _ known in
    rw (unknown r id parts.0) (none_named r ids parts.1)

pub not_linked : (r : ResourceData) (nodes : List ResourceData) → list_all (has_known_ids r.number) nodes ≡ true → is_linked r nodes ≡ false
not_linked r [] known = refl
not_linked r (s ∷ nodes) known =
    let parts = and_parts (has_known_ids r.number s) _ known in
    let none : does_link r s ≡ false = none_named r (linked_ids s) parts.0 in
    rw none (not_linked r nodes parts.1)

-- ---- it joins

-- the container that a new instance changes
pub record IsContainerAt (nodes : List ResourceData) (n : ℕ) (c : ResourceData) : Type 0 where
  pub there : at n nodes ≡ Some c
  pub kind : is_ty c.ty Container ≡ true

module _ (home : HomeData) (o : List ℕ) (xs ys : List ResourceData) (r : ResourceData) (wellx : is_well_formed (xs ++ r ∷ []) ≡ true) (welly : is_well_formed (ys ++ r ∷ []) ≡ true) (unlinked : is_linked r xs ≡ false) (learns : is_ty r.ty ContentInstance ≡ true → learns_limits home xs o r.parent ≡ true) (same : seen_list home xs o ≡ seen_list home ys o) where
  pub appended : seen_list home (xs ++ r ∷ []) o ≡ seen_list home (ys ++ r ∷ []) o
  appended = append-same home xs ys o r wellx welly unlinked learns same

  still_there : (nodes : List ResourceData) (n : ℕ) (c : ResourceData) → at n nodes ≡ Some c → at n (nodes ++ r ∷ []) ≡ Some c
  still_there nodes n c there = at-append n nodes (r ∷ []) ∙ ap (λ (p : Option ResourceData). option_or p (at n (r ∷ []))) there

  touches : (c : ResourceData) (st : ℕ) → is_ty c.ty Container ≡ true → ShowNoMore home (xs ++ r ∷ []) o c ((St, Some (number (pos st))) ∷ [])
  touches c st kind =
      let ty : c.ty ≡ Container = same_type c.ty Container (eqb-true _ _ kind) in
      record {
        other = ap (λ (t : Ty). is_ty t ContentInstance) ty;
        free = ap (λ (t : Ty). do_judge t ((St, Some (number (pos st))) ∷ [])) ty;
        reach = λ reaches. absurd (both_ways _ refl reaches);
      }

  stamped_well : (nodes : List ResourceData) (n lt st : ℕ) (c : ResourceData) → is_well_formed nodes ≡ true → at n nodes ≡ Some c → is_well_formed (replaced (restamped lt st c) nodes) ≡ true
  stamped_well nodes n lt st c well there =
      let own : at c.number nodes ≡ Some c = ap (λ (m : ℕ). at m nodes) (at_number n nodes c there) ∙ there in
      is_well_formed-replaced (restamped lt st c) nodes (ap (option_map standing) own ∙ ap Some (sym (standing-restamped lt st c))) ∙ well

  -- and the container is stamped anew, in which these then stand no more
  pub stamped-same : (moment k st : ℕ) (gone : List ℕ) (c d : ResourceData) → IsContainerAt xs k c → IsContainerAt ys k d → seen_list home (without_all gone (restamped_at k moment st (xs ++ r ∷ []))) o ≡ seen_list home (without_all gone (restamped_at k moment st (ys ++ r ∷ []))) o
  stamped-same moment k st gone c d first second =
      let zs = xs ++ r ∷ [] in
      let ws = ys ++ r ∷ [] in
      let inx = still_there xs k c first.there in
      let iny = still_there ys k d second.there in
      let picks : ℕ → Bool = λ n. list_any (nat_eq n) gone in
      let stay : List ResourceData → List ResourceData = without (λ (s : ResourceData). picks s.number) in
      let atx : restamped_at k moment st zs ≡ replaced (restamped moment st c) zs = ap (λ (p : Option ResourceData). option_map_or (λ s. replaced (restamped moment st s) zs) p zs) inx in
      let aty : restamped_at k moment st ws ≡ replaced (restamped moment st d) ws = ap (λ (p : Option ResourceData). option_map_or (λ s. replaced (restamped moment st s) ws) p ws) iny in
      ap (λ (ns : List ResourceData). seen_list home (stay ns) o) atx
      ∙ without-same home (replaced (restamped moment st c) zs) (replaced (restamped moment st d) ws) o picks
      (stamped_well zs k moment st c wellx inx) (stamped_well ws k moment st d welly iny)
      (replace-same home zs ws o k c d ((St, Some (number (pos st))) ∷ []) (Some moment) None wellx welly inx iny (touches c st first.kind) appended)
      ∙ sym (ap (λ (ns : List ResourceData). seen_list home (stay ns) o) aty)
