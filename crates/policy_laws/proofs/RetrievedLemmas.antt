-- What an originator may retrieve has the same attributes on what it sees.
use Rattle.policy_laws.proofs.Words.{unwrap_or, ◌≡◌, ℕ, ◌+◌, List, [], ◌∷◌, map, length, filter, fold, Bool, true, cond, Option, Some, None, option_map, inl, inr, refl, ap, ◌∙◌, option_map_or}
use Rattle.policy_laws.proofs.Terms.{Cs, Container, ContentInstance, CseBase, Row, count_at, HomeData, ResourceData, is_ty, id_of, at, is_due, is_instance, is_well_formed, live, instance_size, grants}
use Rattle.policy_laws.proofs.Facts.{cases_Bool, length-map, at-map, at_number, kin_parts, tree_from_well_formed}
use Rattle.tree_model.specs.Shown.{parent_id, container_rows, added_rows, attributes_of, with_rows, wrapped}
use Rattle.equal_sights.specs.Seen.{retrieve_bit, has_bit, with_seen_owner, seen, seen_list}
use Rattle.policy_laws.proofs.ChoiceLemmas.{both_chosen, filter_image}
use Rattle.policy_laws.proofs.RemovalLemmas.{keeps_without}
use Rattle.policy_laws.proofs.SeenLemmas.{seen_shows}
use Rattle.policy_laws.proofs.DueLemmas.{same_may, live-seen, live_may, seen_whole}

-- the same is filtered of an image, and counted and summed
counted : (g : ResourceData → ResourceData) (p : ResourceData → Bool) → ((r : ResourceData) → p (g r) ≡ p r) → (rs : List ResourceData) → length (filter p (map g rs)) ≡ length (filter p rs)
counted g p same rs = ap length (filter_image g p p same rs) ∙ length-map (filter p rs) g

summed : (g : ResourceData → ResourceData) (p : ResourceData → Bool) (w : ResourceData → ℕ) → ((r : ResourceData) → p (g r) ≡ p r) → ((r : ResourceData) → p r ≡ true → w (g r) ≡ w r) → (rs : List ResourceData) (a : ℕ) → fold (λ n r. n + w r) a (filter p (map g rs)) ≡ fold (λ n r. n + w r) a (filter p rs)
summed g p w same weigh [] a = refl
summed g p w same weigh (r ∷ rs) a = elim (cases_Bool (p r)) [
  | inl t ↦ rw (same r ∙ t, t) (ap (λ n. fold (λ m s. m + w s) (a + n) (filter p (map g rs))) (weigh r t) ∙ summed g p w same weigh rs (a + w r))
  | inr f ↦ rw (same r ∙ f, f) (summed g p w same weigh rs a)
]

module _ (home : HomeData) (nodes : List ResourceData) (o : List ℕ) (r : ResourceData) (found : at r.number nodes ≡ Some r) (right : has_bit home nodes o retrieve_bit r ≡ true) where
  -- the sizes of the instances of a container are seen by who may retrieve it
  size_seen : is_ty r.ty Container ≡ true → (s : ResourceData) → is_instance r.number s ≡ true → instance_size (seen home nodes o s) ≡ instance_size s
  size_seen container s inside =
      let kin = kin_parts ContentInstance r.number s inside in
      let above : at s.parent nodes ≡ Some r = ap (λ (n : ℕ). at n nodes) kin.under ∙ found in
      let also : has_bit home nodes o retrieve_bit s ≡ true = same_may home nodes o s r kin.kind above container retrieve_bit ∙ right in
      ap (λ (rows : List Row). unwrap_or (count_at Cs rows) 0) ((seen_shows home nodes o s).retrieved also).0

  parent_seen : (rs : List ResourceData) → parent_id (map (seen home nodes o) rs) r ≡ parent_id rs r
  parent_seen rs = ap (λ (id : List ℕ). cond (is_ty r.ty CseBase) [] id) (ap (λ (p : Option ResourceData). option_map_or id_of p []) (at-map (seen home nodes o) (λ s. refl) r.parent rs) ∙ above (at r.parent rs))
    where
      above : (p : Option ResourceData) → option_map_or id_of (option_map (seen home nodes o) p) [] ≡ option_map_or id_of p []
      above None = refl
      above (Some s) = refl

  container_seen : (rs : List ResourceData) → is_ty r.ty Container ≡ true → container_rows (map (seen home nodes o) rs) r ≡ container_rows rs r
  container_seen rs container =
      rw (summed (seen home nodes o) (is_instance r.number) instance_size (λ s. refl) (size_seen container) rs 0, counted (seen home nodes o) (is_instance r.number) (λ s. refl) rs) refl

  holding_seen : (rs : List ResourceData) → cond (is_ty r.ty Container) (container_rows (map (seen home nodes o) rs) r) [] ≡ cond (is_ty r.ty Container) (container_rows rs r) []
  holding_seen rs = both_chosen (λ (xs ys : List Row). xs ≡ ys) (is_ty r.ty Container) _ _ _ _ (container_seen rs) (λ f. refl)

  added_seen : (rs : List ResourceData) → added_rows home (map (seen home nodes o) rs) (with_seen_owner home o r) ≡ added_rows home rs r
  added_seen rs = rw (parent_seen rs, holding_seen rs) refl

  pub attributes-seen : (rs : List ResourceData) → attributes_of home (map (seen home nodes o) rs) (seen home nodes o r) ≡ attributes_of home rs r
  attributes-seen rs =
      ap (attributes_of home (map (seen home nodes o) rs)) (seen_whole home nodes o r right)
      ∙ ap (λ (rows : List Row). wrapped r.ty (with_rows rows r.attrs)) (added_seen rs)

pub attributes-live : (home : HomeData) (nodes : List ResourceData) (o : List ℕ) → is_well_formed nodes ≡ true → (m n : ℕ) (r : ResourceData) → at n (live m nodes) ≡ Some r → grants home (live m nodes) o retrieve_bit n ≡ true → attributes_of home (live m (seen_list home nodes o)) (seen home nodes o r) ≡ attributes_of home (live m nodes) r
attributes-live home nodes o well m n r found right =
    let there : at n nodes ≡ Some r = (keeps_without (is_due nodes m) nodes (tree_from_well_formed nodes well)).found n r found in
    let own : at r.number nodes ≡ Some r = ap (λ (k : ℕ). at k nodes) (at_number n nodes r there) ∙ there in
    ap (λ (rs : List ResourceData). attributes_of home rs (seen home nodes o r)) (live-seen home nodes o well m)
    ∙ attributes-seen home nodes o r own (live_may home nodes o well m n r found right) (live m nodes)
