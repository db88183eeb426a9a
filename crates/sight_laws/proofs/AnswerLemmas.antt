-- A Retrieve is answered the same on what the originator sees.
use Rattle.sight_laws.proofs.Words.{◌≡◌, ℕ, ℤ, pos, List, [], ◌∷◌, map, take, codes, Bool, true, false, cond, not, Option, Some, None, option_map, refl, sym, ap, ◌∙◌, filter, option_map_or, int_eq}
use Rattle.sight_laws.proofs.Terms.{ty_member, Cs, Lbl, St, NoPrivilege, NotFound, Data, Entry, Pairs, null, boolean, number, text, list, object, no_pairs, pair, elements_of, pairs_of, entries, FilterParts, ReplyParts, RequestParts, value_of, HomeData, ResourceData, shown_ty, under_type, at, children_of, is_well_formed, retrieve_bit, has_bit, seen, seen_list, meets_any, wanted_content, content, may_retrieve, members, most_shown, reference, references, references_alone, referred, shown_forest, whole, with_forest, with_last, with_member, with_references, most_listed, Forest, bare, rooted, cut_forest, forest_of, is_by_id, refusal, retrieved, retrieved_of, success}
use Rattle.sight_laws.proofs.Facts.{take-map, entries-pairs_of, tree_from_well_formed, at_number, due-seen, at-seen, grants-seen, seen_shows, in_order-tree}
use Rattle.policy_laws.proofs.RetrievedLemmas.{attributes-seen}
use Rattle.retrieve_laws.proofs.FoundLemmas.{Each, IsFound, each_found}
use Rattle.retrieve_laws.proofs.CutLemmas.{AllIn, all-cut, all-forest_of}
use Rattle.sight_laws.proofs.ConditionLemmas.{LooksAlike, meets-alike}
use Rattle.sight_laws.proofs.MapLemmas.{children-map, cut-map, filter-map, forest_of-map, map_forest}
use Rattle.sight_laws.proofs.SightLemmas.{address-seen}

-- ---- the members of an object

abbrev of_object : Data → List Entry
of_object null = []
of_object (boolean b) = []
of_object (number z) = []
of_object (text s) = []
of_object (list es) = []
of_object (object ps) = entries ps

abbrev of_first : Pairs → List Entry
of_first no_pairs = []
of_first (pair key d ps) = of_object d

abbrev inside : Data → List Entry
inside null = []
inside (boolean b) = []
inside (number z) = []
inside (text s) = []
inside (list es) = []
inside (object ps) = of_first ps

-- ---- one of several

abbrev chosen : Bool → Bool → Bool → Data → Data → Data → Data → Data
chosen a b c w x y z = cond a w (cond b x (cond c y z))

abbrev replied : RequestParts → Bool → Bool → Data → ReplyParts
replied request right met d = cond (not right) (refusal request NoPrivilege) (cond (not met) (refusal request NotFound) (success request d))

module _ (home : HomeData) (nodes : List ResourceData) (o : List ℕ) (well : is_well_formed nodes ≡ true) where
  abbrev g : ResourceData → ResourceData
  g r = seen home nodes o r

  abbrev goes : ResourceData → Bool
  goes r = may_retrieve home nodes o r

  goes-seen : (r : ResourceData) → may_retrieve home (map g nodes) o (g r) ≡ goes r
  goes-seen r = grants-seen home nodes o retrieve_bit r.number

  right_of : (r : ResourceData) → IsFound nodes r → goes r ≡ true → has_bit home nodes o retrieve_bit r ≡ true
  right_of r there right = rw there at right

  members-seen : (r : ResourceData) → IsFound nodes r → goes r ≡ true → members home (map g nodes) (g r) ≡ members home nodes r
  members-seen r there right =
      sym (entries-pairs_of (members home (map g nodes) (g r)))
      ∙ ap inside (attributes-seen home nodes o r there (right_of r there right) nodes)
      ∙ entries-pairs_of (members home nodes r)

  -- ---- references

  each_allowed : (rs : List ResourceData) → Each (λ r. may_retrieve home (map g nodes) o (g r) ≡ goes r) rs
  each_allowed [] = tt
  each_allowed (r ∷ rs) = (goes-seen r, each_allowed rs)

  referred-seen : (n : ℕ) → referred home (map g nodes) o n ≡ map g (referred home nodes o n)
  referred-seen n =
      ap (λ rs. take most_listed (filter (may_retrieve home (map g nodes) o) rs)) (children-map g (λ s. refl) (λ s. refl) n nodes)
      ∙ ap (take most_listed) (filter-map g (may_retrieve home (map g nodes) o) goes (children_of n nodes) (each_allowed (children_of n nodes)))
      ∙ take-map g most_listed (filter goes (children_of n nodes))

  reference-seen : (by_id : Bool) (rs : List ResourceData) → map (reference by_id (map g nodes)) (map g rs) ≡ map (reference by_id nodes) rs
  reference-seen by_id [] = refl
  reference-seen by_id (r ∷ rs) =
      ap (λ d. object (pairs_of ((codes "nm", text r.name) ∷ (codes "typ", shown_ty r.ty) ∷ (codes "val", d) ∷ [])) ∷ map (reference by_id (map g nodes)) (map g rs)) (address-seen home nodes o by_id r)
      ∙ ap (λ ds. reference by_id nodes r ∷ ds) (reference-seen by_id rs)

  references-seen : (by_id : Bool) (n : ℕ) → references home (map g nodes) o by_id n ≡ references home nodes o by_id n
  references-seen by_id n =
      ap (λ rs. list (elements_of (map (reference by_id (map g nodes)) rs))) (referred-seen n)
      ∙ ap (λ ds. list (elements_of ds)) (reference-seen by_id (referred home nodes o n))

  -- ---- descendants

  forest-seen : (f : Forest) (es : List Entry) → AllIn (λ r. IsFound nodes r × (goes r ≡ true)) f → with_forest (members home (map g nodes)) (map_forest g f) es ≡ with_forest (members home nodes) f es
  forest-seen bare es all = refl
  forest-seen (rooted r kids more) es all =
      let own = members-seen r all.0.0 all.0.1 in
      let inner : with_forest (members home (map g nodes)) (map_forest g kids) (members home (map g nodes) (g r)) ≡ with_forest (members home nodes) kids (members home nodes r) =
      ap (with_forest (members home (map g nodes)) (map_forest g kids)) own ∙ forest-seen kids (members home nodes r) all.1.0 in
      ap (λ ms. with_forest (members home (map g nodes)) (map_forest g more) (with_last (ty_member r.ty) (object (pairs_of ms)) es)) inner
      ∙ forest-seen more (with_last (ty_member r.ty) (object (pairs_of (with_forest (members home nodes) kids (members home nodes r)))) es) all.1.1

  shown-seen : (n : ℕ) (es : List Entry) → with_forest (members home (map g nodes)) (shown_forest home (map g nodes) o n) es ≡ with_forest (members home nodes) (shown_forest home nodes o n) es
  shown-seen n es =
      ap (λ f. with_forest (members home (map g nodes)) (cut_forest f most_shown) es) (forest_of-map g (λ s. refl) (λ s. refl) (may_retrieve home (map g nodes) o) goes goes-seen nodes n)
      ∙ ap (λ f. with_forest (members home (map g nodes)) f es) (cut-map g (forest_of goes n nodes) most_shown)
      ∙ forest-seen (cut_forest (forest_of goes n nodes) most_shown) es (all-cut (λ r. IsFound nodes r × (goes r ≡ true)) (forest_of goes n nodes) most_shown (all-forest_of (IsFound nodes) goes nodes n (each_found nodes (in_order-tree nodes (tree_from_well_formed nodes well)))))

  -- ---- the reply

  module _ (r : ResourceData) (there : IsFound nodes r) (right : goes r ≡ true) where
    whole-seen : whole home (map g nodes) o (g r) ≡ whole home nodes o r
    whole-seen =
        ap (λ ms. under_type r.ty (with_forest (members home (map g nodes)) (shown_forest home (map g nodes) o r.number) ms)) (members-seen r there right)
        ∙ ap (under_type r.ty) (shown-seen r.number (members home nodes r))

    with_references-seen : (by_id : Bool) → with_references home (map g nodes) o by_id (g r) ≡ with_references home nodes o by_id r
    with_references-seen by_id =
        ap (λ ms. under_type r.ty (with_member (codes "ch") (references home (map g nodes) o by_id r.number) ms)) (members-seen r there right)
        ∙ ap (λ d. under_type r.ty (with_member (codes "ch") d (members home nodes r))) (references-seen by_id r.number)

    references_alone-seen : (by_id : Bool) → references_alone home (map g nodes) o by_id (g r) ≡ references_alone home nodes o by_id r
    references_alone-seen by_id = ap (λ d. under_type r.ty ((codes "ch", d) ∷ [])) (references-seen by_id r.number)

    content-seen : (by_id : Bool) (rcn : Option ℤ) → content home (map g nodes) o by_id rcn (g r) ≡ content home nodes o by_id rcn r
    content-seen by_id rcn =
        let four = int_eq (wanted_content rcn) (pos 4) in
        let five = int_eq (wanted_content rcn) (pos 5) in
        let six = int_eq (wanted_content rcn) (pos 6) in
        let plain = under_type r.ty (members home (map g nodes) (g r)) in
        ap (λ d. chosen four five six d (with_references home (map g nodes) o by_id (g r)) (references_alone home (map g nodes) o by_id (g r)) plain) whole-seen
        ∙ ap (λ d. chosen four five six (whole home nodes o r) d (references_alone home (map g nodes) o by_id (g r)) plain) (with_references-seen by_id)
        ∙ ap (λ d. chosen four five six (whole home nodes o r) (with_references home nodes o by_id r) d plain) (references_alone-seen by_id)
        ∙ ap (λ ms. chosen four five six (whole home nodes o r) (with_references home nodes o by_id r) (references_alone home nodes o by_id r) (under_type r.ty ms)) (members-seen r there right)

    sees_retrieved : LooksAlike (map g nodes) nodes (g r) r
    sees_retrieved =
        let shown = (seen_shows home nodes o r).retrieved (right_of r there right) in
        record {
          ct = shown.1;
          lt = shown.2;
          moment = due-seen home nodes o well r there;
          st = ap (value_of St) shown.0;
          cs = ap (value_of Cs) shown.0;
          lbl = ap (value_of Lbl) shown.0;
          ty = refl;
        }

    meets_any-seen : (filter : Option FilterParts) → meets_any (map g nodes) filter (g r) ≡ meets_any nodes filter r
    meets_any-seen None = refl
    meets_any-seen (Some f) = meets-alike (map g nodes) nodes f (g r) r sees_retrieved

  retrieved_of-seen : (request : RequestParts) (r : ResourceData) → IsFound nodes r → retrieved_of home (map g nodes) o request (g r) ≡ retrieved_of home nodes o request r
  retrieved_of-seen request r there =
      ap (λ b. replied request b (meets_any (map g nodes) request.fc (g r)) (content home (map g nodes) o (is_by_id request) request.rcn (g r))) (goes-seen r)
      ∙ by_right (goes r) refl
    where
      by_right : (b : Bool) → goes r ≡ b → replied request b (meets_any (map g nodes) request.fc (g r)) (content home (map g nodes) o (is_by_id request) request.rcn (g r)) ≡ replied request b (meets_any nodes request.fc r) (content home nodes o (is_by_id request) request.rcn r)
      by_right true right =
          ap (λ m. replied request true m (content home (map g nodes) o (is_by_id request) request.rcn (g r))) (meets_any-seen r there right request.fc)
          ∙ ap (replied request true (meets_any nodes request.fc r)) (content-seen r there right (is_by_id request) request.rcn)
      by_right false none = refl

  -- the reply is a function of what the originator sees
  pub retrieved-seen : (request : RequestParts) (n : ℕ) → retrieved home (seen_list home nodes o) o request n ≡ retrieved home nodes o request n
  retrieved-seen request n =
      ap (λ found. option_map_or (retrieved_of home (map g nodes) o request) found (refusal request NotFound)) (at-seen home nodes o n)
      ∙ by_found (at n nodes) refl
    where
      by_found : (found : Option ResourceData) → at n nodes ≡ found → option_map_or (retrieved_of home (map g nodes) o request) (option_map g found) (refusal request NotFound) ≡ option_map_or (retrieved_of home nodes o request) found (refusal request NotFound)
      by_found None is = refl
      by_found (Some r) is = retrieved_of-seen request r (ap (λ k. at k nodes) (at_number n nodes r is) ∙ is)
