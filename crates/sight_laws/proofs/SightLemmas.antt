-- A discovery is answered the same on what the originator sees.
use Rattle.sight_laws.proofs.Words.{◌≡◌, ℕ, List, [], ◌∷◌, map, take, reverse, Bool, true, false, cond, ◌&&◌, Option, Some, None, refl, ap, ap₂, ◌∙◌, filter}
use Rattle.sight_laws.proofs.Terms.{Cs, Lbl, St, NoPrivilege, text, FilterParts, RequestParts, HomeData, ResourceData, is_well_formed, line_of, grants, discovery_bit, has_bit, seen, seen_list, joined, structured_of, meets, below, address, address_list, all_found, found, found_addresses, is_found, most_of, discovered, is_by_id, refusal, success}
use Rattle.sight_laws.proofs.Facts.{take-map, tree_from_well_formed, due-seen, grants-seen, seen_shows}
use Rattle.sight_laws.proofs.ConditionLemmas.{LooksAlike, meets-alike}
use Rattle.sight_laws.proofs.MapLemmas.{below-map, filter-map, line-map}
use Rattle.retrieve_laws.proofs.FoundLemmas.{Each, IsFound}
use Rattle.retrieve_laws.proofs.ReachLemmas.{each_below_found}

-- ---- addresses, under a map that keeps numbers, parents, names and ids

module _ (g : ResourceData → ResourceData) (number : (r : ResourceData) → (g r).number ≡ r.number) (parent : (r : ResourceData) → (g r).parent ≡ r.parent) (name : (r : ResourceData) → (g r).name ≡ r.name) where
  names-map : (rs : List ResourceData) → map (λ (r : ResourceData). r.name) (map g rs) ≡ map (λ (r : ResourceData). r.name) rs
  names-map [] = refl
  names-map (r ∷ rs) = ap₂ (λ n ns. n ∷ ns) (name r) (names-map rs)

  pub structured_of-map : (nodes : List ResourceData) (n : ℕ) → structured_of n (map g nodes) ≡ structured_of n nodes
  structured_of-map nodes n =
      ap (λ line. joined (reverse (map (λ (r : ResourceData). r.name) line))) (line-map g number parent nodes n)
      ∙ ap (λ ns. joined (reverse ns)) (names-map (line_of n nodes))

module _ (home : HomeData) (nodes : List ResourceData) (o : List ℕ) where
  pub address-seen : (by_id : Bool) (r : ResourceData) → address by_id (seen_list home nodes o) (seen home nodes o r) ≡ address by_id nodes r
  address-seen true r = refl
  address-seen false r = ap text (structured_of-map (seen home nodes o) (λ s. refl) (λ s. refl) (λ s. refl) nodes r.number)

  addresses-seen : (by_id : Bool) (rs : List ResourceData) → map (address by_id (seen_list home nodes o)) (map (seen home nodes o) rs) ≡ map (address by_id nodes) rs
  addresses-seen by_id [] = refl
  addresses-seen by_id (r ∷ rs) = ap₂ (λ d ds. d ∷ ds) (address-seen by_id r) (addresses-seen by_id rs)

  module _ (well : is_well_formed nodes ≡ true) where
    looks_found : (r : ResourceData) → IsFound nodes r → grants home nodes o discovery_bit r.number ≡ true → LooksAlike (seen_list home nodes o) nodes (seen home nodes o r) r
    looks_found r there right =
        let may_find : has_bit home nodes o discovery_bit r ≡ true = rw there at right in
        let shown = (seen_shows home nodes o r).found may_find in
        record {
          ct = shown.1;
          lt = shown.2;
          moment = due-seen home nodes o well r there;
          st = shown.0 St refl;
          cs = shown.0 Cs refl;
          lbl = shown.0 Lbl refl;
          ty = refl;
        }

    is_found-seen : (f : FilterParts) (r : ResourceData) → IsFound nodes r → is_found home (seen_list home nodes o) o f (seen home nodes o r) ≡ is_found home nodes o f r
    is_found-seen f r there =
        ap (λ b. b && meets (seen_list home nodes o) f (seen home nodes o r)) (grants-seen home nodes o discovery_bit r.number)
        ∙ by_right (grants home nodes o discovery_bit r.number) refl
      where
        by_right : (b : Bool) → grants home nodes o discovery_bit r.number ≡ b → (b && meets (seen_list home nodes o) f (seen home nodes o r)) ≡ (b && meets nodes f r)
        by_right true right = meets-alike (seen_list home nodes o) nodes f (seen home nodes o r) r (looks_found r there right)
        by_right false none = refl

    each_seen : (f : FilterParts) (rs : List ResourceData) → Each (IsFound nodes) rs → Each (λ r. is_found home (seen_list home nodes o) o f (seen home nodes o r) ≡ is_found home nodes o f r) rs
    each_seen f [] each = tt
    each_seen f (r ∷ rs) each = (is_found-seen f r each.0, each_seen f rs each.1)

    found-seen : (f : FilterParts) (n : ℕ) → found home (seen_list home nodes o) o f n ≡ map (seen home nodes o) (found home nodes o f n)
    found-seen f n =
        let all = each_below_found nodes n (tree_from_well_formed nodes well) in
        ap (λ rs. take (most_of f) (filter (is_found home (seen_list home nodes o) o f) rs)) (below-map (seen home nodes o) (λ s. refl) (λ s. refl) nodes n)
        ∙ ap (take (most_of f)) (filter-map (seen home nodes o) (is_found home (seen_list home nodes o) o f) (is_found home nodes o f) (below n nodes) (each_seen f (below n nodes) all))
        ∙ take-map (seen home nodes o) (most_of f) (all_found home nodes o f n)

    found_addresses-seen : (by_id : Bool) (given : Option FilterParts) (n : ℕ) → found_addresses home (seen_list home nodes o) o by_id given n ≡ found_addresses home nodes o by_id given n
    found_addresses-seen by_id None n = refl
    found_addresses-seen by_id (Some f) n =
        ap (map (address by_id (seen_list home nodes o))) (found-seen f n) ∙ addresses-seen by_id (found home nodes o f n)

    -- the reply is a function of what the originator sees
    pub discovered-seen : (request : RequestParts) (n : ℕ) → discovered home (seen_list home nodes o) o request n ≡ discovered home nodes o request n
    discovered-seen request n =
        ap (λ right. cond right (success request (address_list (found_addresses home (seen_list home nodes o) o (is_by_id request) request.fc n))) (refusal request NoPrivilege)) (grants-seen home nodes o discovery_bit n)
        ∙ ap (λ ds. cond (grants home nodes o discovery_bit n) (success request (address_list ds)) (refusal request NoPrivilege)) (found_addresses-seen (is_by_id request) request.fc n)
