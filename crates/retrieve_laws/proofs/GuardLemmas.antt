-- Nothing is shown, referred to or found without a grant.
use Rattle.retrieve_laws.proofs.Words.{◌≡◌, ℕ, List, [], ◌∷◌, Bool, true, false, cond, get_or, not, ◌&&◌, ap, ◌∙◌, All, filter, option_map_or}
use Rattle.retrieve_laws.proofs.Terms.{NoPrivilege, NotFound, FilterParts, RequestParts, HomeData, ResourceData, children_of, has, is_under, grants, discovery_bit, retrieve_bit, meets_any, content, may_retrieve, most_shown, referred, shown_forest, Forest, below, forest_of, preorder, rooted, address_list, all_found, found, found_addresses, is_found, most_listed, most_of, discovered, is_by_id, refusal, retrieved, retrieved_of, success}
use Rattle.retrieve_laws.proofs.Facts.{cond_both, All-append, All-cons, All-nil, All-take, filter_passes, has_at, found_parts}
use Rattle.retrieve_laws.proofs.CutLemmas.{preorder-cut, reached_parts}

-- what holds of every resource that may be gone to holds of all that are reached
all_reached : (P : ResourceData → Type 0) (goes : ResourceData → Bool) → ((r : ResourceData) → goes r ≡ true → P r) → (rs : List ResourceData) (n : ℕ) → All P (preorder (forest_of goes n rs))
all_reached P goes holds [] n = All-nil P
all_reached P goes holds (r ∷ rs) n =
    cond_both (is_under n r && goes r) (rooted r (forest_of goes r.number rs) (forest_of goes n rs)) (forest_of goes n rs) (λ (f : Forest). All P (preorder f))
    (λ t. All-cons P r _ (holds r (reached_parts goes n r t).goes) (All-append P (preorder (forest_of goes r.number rs)) (preorder (forest_of goes n rs)) (all_reached P goes holds rs r.number) (all_reached P goes holds rs n)))
    (λ f. all_reached P goes holds rs n)

-- the originator has the bit on the resource
abbrev pub Grants : HomeData → List ResourceData → List ℕ → ℕ → ResourceData → Type 0
Grants home nodes o bit r = grants home nodes o bit r.number ≡ true

module _ (home : HomeData) (nodes : List ResourceData) (o : List ℕ) where
  pub shown_granted : (n : ℕ) → All (Grants home nodes o retrieve_bit) (preorder (shown_forest home nodes o n))
  shown_granted n =
      let goes = may_retrieve home nodes o in
      let P = Grants home nodes o retrieve_bit in
      rw (preorder-cut (forest_of goes n nodes) most_shown) (All-take P most_shown (preorder (forest_of goes n nodes)) (all_reached P goes (λ r t. t) nodes n))

  pub referred_granted : (n : ℕ) → All (Grants home nodes o retrieve_bit) (referred home nodes o n)
  referred_granted n =
      let goes = may_retrieve home nodes o in
      All-take (Grants home nodes o retrieve_bit) most_listed (filter goes (children_of n nodes)) (filter_passes goes (children_of n nodes))

  pub found_granted : (f : FilterParts) (n : ℕ) → All (Grants home nodes o discovery_bit) (found home nodes o f n)
  found_granted f n =
      let test = is_found home nodes o f in
      let passing : All (λ r. test r ≡ true) (found home nodes o f n) = All-take (λ r. test r ≡ true) (most_of f) (all_found home nodes o f n) (filter_passes test (below n nodes)) in
      let P = Grants home nodes o discovery_bit in
      let first : (r : ResourceData) → test r ≡ true → P r = λ r passed. (found_parts home nodes o f r passed).granted in
      λ k d less. first (get_or (found home nodes o f n) k d) (passing k d less)

  -- without the right nothing but that is told
  pub retrieved_refused : (request : RequestParts) (n : ℕ) → has n nodes ≡ true → grants home nodes o retrieve_bit n ≡ false → retrieved home nodes o request n ≡ refusal request NoPrivilege
  retrieved_refused request n there none =
      let r = (has_at n nodes there).0 in
      let found = (has_at n nodes there).1 in
      let same = (has_at n nodes there).2 in
      let refused : grants home nodes o retrieve_bit r.number ≡ false = ap (grants home nodes o retrieve_bit) same ∙ none in
      ap (λ x. option_map_or (retrieved_of home nodes o request) x (refusal request NotFound)) found
      ∙ ap (λ b. cond (not b) (refusal request NoPrivilege) (cond (not (meets_any nodes request.fc r)) (refusal request NotFound) (success request (content home nodes o (is_by_id request) request.rcn r)))) refused

  pub discovered_refused : (request : RequestParts) (n : ℕ) → grants home nodes o discovery_bit n ≡ false → discovered home nodes o request n ≡ refusal request NoPrivilege
  discovered_refused request n none =
      ap (λ b. cond b (success request (address_list (found_addresses home nodes o (is_by_id request) request.fc n))) (refusal request NoPrivilege)) none
