-- The pairs of a query, one after another.
use Rattle.std.proofs.Common.{◌≡◌, ℕ, ◌+◌, ◌≤◌, ◌<◌, List, [], ◌∷◌, length, map, take, get_or, Result, OnOk, refl, sym, ap, subst, ◌∙◌}
use Rattle.std.specs.Fmt.{decimal}
use Rattle.std.specs.List.{fold, flat_map}
use Rattle.std.proofs.lemmas.List.{map_more, take_more, take_all, flat_map_more}
use Rattle.std.proofs.lemmas.List.Sums.{fold_push, fold-append}
use Rattle.form_urlencoded.specs.Form.{append_pair, extend_pairs}
use Rattle.filter_criteria.specs.Conditions.{name_of_condition}
use Rattle.filter_criteria.specs.declared.condition.Condition.{Condition}
use Rattle.filter_criteria.specs.declared.filter.FilterParts.{FilterParts}
use Rattle.http_target.specs.Queries.{Pair}
use Rattle.http_client_binding.specs.QueryWriting.{condition_texts, condition_pairs, pairs_at}

-- the form after one more pair
abbrev with_more : List ℕ → Pair → List ℕ
with_more text pair = append_pair text pair.0 pair.1

-- after the pair of one more element
pub pair_more : {X : Type 0} (pair : X → Pair) (xs : List X) (i : ℕ) (d : X) (start before after : List ℕ) → i < length xs
    → before ≡ extend_pairs start (map pair (take i xs)) → after ≡ append_pair before (pair (get_or xs i d)).0 (pair (get_or xs i d)).1
    → after ≡ extend_pairs start (map pair (take (i + 1) xs))
pair_more pair xs i d start before after h so_far now =
    let done = map pair (take i xs) in
    let next = pair (get_or xs i d) in
    now ∙ ap (λ text. with_more text next) so_far ∙ sym (fold_push with_more start done next)
    ∙ ap (fold with_more start) (sym (map_more pair xs i d h))

pub pairs_end : {X : Type 0} (pair : X → Pair) (xs : List X) (i : ℕ) (start last : List ℕ) → length xs ≤ i
    → last ≡ extend_pairs start (map pair (take i xs)) → last ≡ extend_pairs start (map pair xs)
pairs_end pair xs i start last all so = so ∙ ap (λ ys. extend_pairs start (map pair ys)) (take_all i xs all)

-- the pairs of numbers
numbers_at : (key : List ℕ) (numbers : List ℕ) → map (λ n. (key, decimal n)) numbers ≡ pairs_at key (map decimal numbers)
numbers_at key [] = refl
numbers_at key (n ∷ numbers) = ap (λ pairs. (key, decimal n) ∷ pairs) (numbers_at key numbers)

pub numbers_end : (key : List ℕ) (numbers : List ℕ) (i : ℕ) (start last : List ℕ) → length numbers ≤ i
    → last ≡ extend_pairs start (map (λ n. (key, decimal n)) (take i numbers)) → last ≡ extend_pairs start (pairs_at key (map decimal numbers))
numbers_end key numbers i start last all so =
    pairs_end (λ n. (key, decimal n)) numbers i start last all so ∙ ap (extend_pairs start) (numbers_at key numbers)

-- after the pairs of one more element
pub pairs_more : {X : Type 0} (pairs : X → List Pair) (xs : List X) (i : ℕ) (d : X) (start before after : List ℕ) → i < length xs
    → before ≡ extend_pairs start (flat_map pairs (take i xs)) → after ≡ extend_pairs before (pairs (get_or xs i d))
    → after ≡ extend_pairs start (flat_map pairs (take (i + 1) xs))
pairs_more pairs xs i d start before after h so_far now =
    let done = flat_map pairs (take i xs) in
    let next = get_or xs i d in
    now ∙ ap (λ text. extend_pairs text (pairs next)) so_far ∙ sym (fold-append with_more start done (pairs next))
    ∙ ap (fold with_more start) (flat_map_more pairs [] (take i xs) next ∙ ap (flat_map pairs) (sym (take_more xs i d h)))

pub pairs_all : {X : Type 0} (pairs : X → List Pair) (xs : List X) (i : ℕ) (start last : List ℕ) → length xs ≤ i
    → last ≡ extend_pairs start (flat_map pairs (take i xs)) → last ≡ extend_pairs start (flat_map pairs xs)
pairs_all pairs xs i start last all so = so ∙ ap (λ ys. extend_pairs start (flat_map pairs ys)) (take_all i xs all)

-- what a filter has of a condition that is this one
pub condition_more : {A E : Type 0} (result : Result A E) (f : FilterParts) (condition one : Condition) (key : List ℕ) (texts : List (List ℕ)) (start last : List ℕ) → condition ≡ one → key ≡ name_of_condition condition
    → texts ≡ condition_texts f one → OnOk result (last ≡ extend_pairs start (pairs_at key texts)) → OnOk result (last ≡ extend_pairs start (condition_pairs f condition))
condition_more result f condition one key texts start last is named all done =
    subst (λ k. OnOk result (last ≡ extend_pairs start (condition_pairs f k))) (sym is)
    (subst (λ ts. OnOk result (last ≡ extend_pairs start (pairs_at (name_of_condition one) ts))) all
    (subst (λ k. OnOk result (last ≡ extend_pairs start (pairs_at k texts))) (named ∙ ap name_of_condition is) done))
