-- Texts cut at a byte.
use Rattle.binding_laws.proofs.Words.{◌≡◌, ℕ, suc, ◌+◌, ◌<◌, ◌==◌, Bool, true, false, not, cond, List, [], ◌∷◌, ◌++◌, length, take, drop, Option, Some, None, refl, sym, ap, ◌∙◌, arith, length-append, nat_lt, list_all, onto_first, prefix_len, slice_split}
use Rattle.binding_laws.proofs.Terms.{index_of, split_once_front, split_once_back}
use Rattle.binding_laws.proofs.Facts.{cond-true, cond-false, lt-ltb, le-ltb, not-true, take_all}
use Rattle.binding_laws.proofs.EachLemmas.{each_parts}

-- a byte that isn't this one
abbrev pub is_other : ℕ → ℕ → Bool
is_other byte b = not (b == byte)

-- where the byte stands first
index_at : (byte : ℕ) (xs ys : List ℕ) → (byte == byte) ≡ true → list_all (is_other byte) xs ≡ true → index_of byte (xs ++ byte ∷ ys) ≡ length xs
index_at byte [] ys same none = ap (λ t. cond (not t) (1 + index_of byte ys) 0) same
index_at byte (x ∷ xs) ys same none =
    let parts = each_parts (is_other byte) x xs none in
    let later = index_at byte xs ys same parts.rest in
    ap (λ t. cond t (1 + index_of byte (xs ++ byte ∷ ys)) 0) parts.first ∙ omega (arith, later)

-- it stands nowhere
index_none : (byte : ℕ) (xs : List ℕ) → list_all (is_other byte) xs ≡ true → index_of byte xs ≡ length xs
index_none byte [] none = refl
index_none byte (x ∷ xs) none =
    let parts = each_parts (is_other byte) x xs none in
    let later = index_none byte xs parts.rest in
    ap (λ t. cond t (1 + index_of byte xs) 0) parts.first ∙ omega (arith, later)

take_front : (xs ys : List ℕ) → take (length xs) (xs ++ ys) ≡ xs
take_front [] ys = refl
take_front (x ∷ xs) ys = ap (λ l. x ∷ l) (take_front xs ys)

drop_front : (xs : List ℕ) (y : ℕ) (ys : List ℕ) → drop (suc (length xs)) (xs ++ y ∷ ys) ≡ ys
drop_front [] y ys = refl
drop_front (x ∷ xs) y ys = drop_front xs y ys

pub front_at : (byte : ℕ) (xs ys : List ℕ) → (byte == byte) ≡ true → list_all (is_other byte) xs ≡ true → split_once_front byte (xs ++ byte ∷ ys) ≡ xs
front_at byte xs ys same none = ap (λ n. take n (xs ++ byte ∷ ys)) (index_at byte xs ys same none) ∙ take_front xs (byte ∷ ys)

pub back_at : (byte : ℕ) (xs ys : List ℕ) → (byte == byte) ≡ true → list_all (is_other byte) xs ≡ true → split_once_back byte (xs ++ byte ∷ ys) ≡ Some ys
back_at byte xs ys same none =
    let at = index_at byte xs ys same none in
    let text = xs ++ byte ∷ ys in
    let inside : nat_lt (index_of byte text) (length text) ≡ true = lt-ltb _ _ (rw (at, length-append) (omega arith)) in
    let behind : index_of byte text + 1 ≡ suc (length xs) = omega (arith, at) in
    cond-true _ _ _ inside ∙ ap (λ n. Some (drop n text)) behind ∙ ap Some (drop_front xs byte ys)

pub front_none : (byte : ℕ) (xs : List ℕ) → list_all (is_other byte) xs ≡ true → split_once_front byte xs ≡ xs
front_none byte xs none = ap (λ n. take n xs) (index_none byte xs none) ∙ take_all (length xs) xs (omega arith)

pub back_none : (byte : ℕ) (xs : List ℕ) → list_all (is_other byte) xs ≡ true → split_once_back byte xs ≡ None
back_none byte xs none =
    let at = index_none byte xs none in
    cond-false _ _ _ (le-ltb (index_of byte xs) (length xs) (omega (arith, at)))

-- nothing is split
pub split_none : (byte : ℕ) (xs : List ℕ) → list_all (is_other byte) xs ≡ true → slice_split (λ b. b == byte) xs ≡ xs ∷ []
split_none byte [] none = refl
split_none byte (x ∷ xs) none =
    let parts = each_parts (is_other byte) x xs none in
    cond-false _ _ _ (not-true (x == byte) parts.first) ∙ ap (onto_first x) (split_none byte xs parts.rest)
