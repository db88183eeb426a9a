-- What a container pushes out is the same on what is seen of its instances by who may fill it.
use Rattle.sight_laws.proofs.Words.{find, option_to_list, unwrap_or, ◌≡◌, ℕ, List, [], ◌∷◌, map, filter, fold, length, Bool, true, false, not, Option, Some, None, option_map, refl, ap, ap₂, ◌∙◌, option_and_then, option_map_or}
use Rattle.sight_laws.proofs.Terms.{Cs, ContentInstance, Data, as_count, HomeData, ResourceData, at, has, instance_size, instances_of, is_instance, numbers_of, are_within, do_fit, evicted, kept, lasts, longest_fit, suffixes, Limits, fills, is_filled_in, seen, seen_list}
use Rattle.sight_laws.proofs.Facts.{and_from, cond_both, length-map, has-map, kin_parts, both_chosen, filter_image, same_chosen, seen_shows}
use Rattle.std.proofs.Common.{◌+◌}
use Rattle.retrieve_laws.proofs.FoundLemmas.{Each}

module _ (home : HomeData) (nodes : List ResourceData) (o : List ℕ) where
  abbrev see : ResourceData → ResourceData
  see = seen home nodes o

  -- by what an instance is pushed out
  pub record IsSeenWhole (r : ResourceData) : Type 0 where
    pub size : instance_size (seen home nodes o r) ≡ instance_size r
    pub ct : (seen home nodes o r).ct ≡ r.ct
    pub et : (seen home nodes o r).et ≡ r.et

  seen_whole : (r : ResourceData) → is_filled_in home nodes o r ≡ true → IsSeenWhole r
  seen_whole r inside =
      let shown = (seen_shows home nodes o r).inside inside in
      record { size = ap (λ (d : Option Data). unwrap_or (option_and_then as_count d) 0) (shown.0 Cs refl); ct = shown.1; et = shown.2 }

  instances_seen : (n : ℕ) (rs : List ResourceData) → instances_of n (map see rs) ≡ map see (instances_of n rs)
  instances_seen n rs = filter_image see (is_instance n) (is_instance n) (λ r. refl) rs

  -- those of a container that the originator may fill
  whole_in : (p : ResourceData) → at p.number nodes ≡ Some p → fills home nodes o p ≡ true → (rs : List ResourceData) → Each IsSeenWhole (instances_of p.number rs)
  whole_in p there may [] = tt
  whole_in p there may (r ∷ rs) =
      cond_both (is_instance p.number r) (r ∷ instances_of p.number rs) (instances_of p.number rs) (Each IsSeenWhole) (λ t. (one t, whole_in p there may rs)) (λ f. whole_in p there may rs)
    where
      one : is_instance p.number r ≡ true → IsSeenWhole r
      one inside =
          let kin = kin_parts ContentInstance p.number r inside in
          let above : at r.parent nodes ≡ Some p = ap (λ (m : ℕ). at m nodes) kin.under ∙ there in
          seen_whole r (and_from _ _ kin.kind (ap (λ (x : Option ResourceData). option_map_or (fills home nodes o) x false) above ∙ may))

  -- ---- what stays

  lasts_seen : (mia : Option ℕ) (m : ℕ) (r : ResourceData) → IsSeenWhole r → lasts mia m (see r) ≡ lasts mia m r
  lasts_seen mia m r whole = rw (whole.ct, whole.et) refl

  lasting_seen : (mia : Option ℕ) (m : ℕ) (rs : List ResourceData) → Each IsSeenWhole rs → filter (lasts mia m) (map see rs) ≡ map see (filter (lasts mia m) rs)
  lasting_seen mia m [] each = refl
  lasting_seen mia m (r ∷ rs) each =
      same_chosen (λ (us vs : List ResourceData). us ≡ map see vs) _ _ _ _ _ _ (lasts_seen mia m r each.0)
      (λ t. ap (λ (ss : List ResourceData). see r ∷ ss) (lasting_seen mia m rs each.1)) (λ f. lasting_seen mia m rs each.1)

  lasting_whole : (p : ResourceData → Bool) (rs : List ResourceData) → Each IsSeenWhole rs → Each IsSeenWhole (filter p rs)
  lasting_whole p [] each = tt
  lasting_whole p (r ∷ rs) each =
      cond_both (p r) (r ∷ filter p rs) (filter p rs) (Each IsSeenWhole) (λ t. (each.0, lasting_whole p rs each.1)) (λ f. lasting_whole p rs each.1)

  sizes_seen : (rs : List ResourceData) (a : ℕ) → Each IsSeenWhole rs → fold (λ (n : ℕ) (r : ResourceData). n + instance_size r) a (map see rs) ≡ fold (λ (n : ℕ) (r : ResourceData). n + instance_size r) a rs
  sizes_seen [] a each = refl
  sizes_seen (r ∷ rs) a each =
      ap (λ (n : ℕ). fold (λ (m : ℕ) (s : ResourceData). m + instance_size s) (a + n) (map see rs)) each.0.size
      ∙ sizes_seen rs (a + instance_size r) each.1

  fit_seen : (limits : Limits) (new : Option ℕ) (rs : List ResourceData) → Each IsSeenWhole rs → do_fit limits new (map see rs) ≡ do_fit limits new rs
  fit_seen limits new rs each =
      ap₂ (λ (count sizes : ℕ). are_within limits (count + length (option_to_list new)) (sizes + unwrap_or new 0)) (length-map rs see) (sizes_seen rs 0 each)

  found_seen : (limits : Limits) (new : Option ℕ) (rs : List ResourceData) → Each IsSeenWhole rs → find (do_fit limits new) (suffixes (map see rs)) ≡ option_map (map see) (find (do_fit limits new) (suffixes rs))
  found_seen limits new [] each =
      both_chosen (λ (x y : Option (List ResourceData)). x ≡ option_map (map see) y) (do_fit limits new []) _ _ _ _ (λ t. refl) (λ f. refl)
  found_seen limits new (r ∷ rs) each =
      same_chosen (λ (x y : Option (List ResourceData)). x ≡ option_map (map see) y) _ _ _ _ _ _ (fit_seen limits new (r ∷ rs) each) (λ t. refl) (λ f. found_seen limits new rs each.1)

  longest_seen : (limits : Limits) (new : Option ℕ) (rs : List ResourceData) → Each IsSeenWhole rs → longest_fit limits new (map see rs) ≡ map see (longest_fit limits new rs)
  longest_seen limits new rs each = ap (λ (x : Option (List ResourceData)). unwrap_or x []) (found_seen limits new rs each) ∙ by (find (do_fit limits new) (suffixes rs))
    where
      by : (x : Option (List ResourceData)) → unwrap_or (option_map (map see) x) [] ≡ map see (unwrap_or x [])
      by None = refl
      by (Some ss) = refl

  kept_seen : (limits : Limits) (new : Option ℕ) (m : ℕ) (rs : List ResourceData) → Each IsSeenWhole rs → kept limits new m (map see rs) ≡ map see (kept limits new m rs)
  kept_seen limits new m rs each =
      ap (longest_fit limits new) (lasting_seen limits.mia m rs each)
      ∙ longest_seen limits new (filter (lasts limits.mia m) rs) (lasting_whole (lasts limits.mia m) rs each)

  gone_seen : (stay : List ResourceData) (rs : List ResourceData) → numbers_of (filter (λ (r : ResourceData). not (has r.number (map see stay))) (map see rs)) ≡ numbers_of (filter (λ (r : ResourceData). not (has r.number stay)) rs)
  gone_seen stay [] = refl
  gone_seen stay (r ∷ rs) =
      same_chosen (λ (us vs : List ResourceData). numbers_of us ≡ numbers_of vs) _ _ _ _ _ _ (ap not (has-map see (λ s. refl) r.number stay))
      (λ t. ap (λ (ns : List ℕ). r.number ∷ ns) (gone_seen stay rs)) (λ f. gone_seen stay rs)

  evicted_seen : (limits : Limits) (new : Option ℕ) (m : ℕ) (rs : List ResourceData) → Each IsSeenWhole rs → evicted limits new m (map see rs) ≡ evicted limits new m rs
  evicted_seen limits new m rs each =
      ap (λ (stay : List ResourceData). numbers_of (filter (λ (r : ResourceData). not (has r.number stay)) (map see rs))) (kept_seen limits new m rs each)
      ∙ gone_seen (kept limits new m rs) rs

  -- so it is of a container that the originator may fill
  pub evicted-seen : (p : ResourceData) → at p.number nodes ≡ Some p → fills home nodes o p ≡ true → (limits : Limits) (new : Option ℕ) (m : ℕ) → evicted limits new m (instances_of p.number (seen_list home nodes o)) ≡ evicted limits new m (instances_of p.number nodes)
  evicted-seen p there may limits new m =
      ap (evicted limits new m) (instances_seen p.number nodes)
      ∙ evicted_seen limits new m (instances_of p.number nodes) (whole_in p there may nodes)
