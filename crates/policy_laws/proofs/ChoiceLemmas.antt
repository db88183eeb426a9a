-- Choices by tests, and what a map keeps of what passes a test.
use Rattle.policy_laws.proofs.Words.{◌≡◌, List, [], ◌∷◌, map, filter, find, Bool, true, false, cond, Option, Some, None, option_map, refl, ap}

-- two choices by tests that agree are related where their branches are
pub same_chosen : {A B : Type 0} (P : A → B → Type 0) (b c : Bool) (x y : A) (u v : B) → b ≡ c → (c ≡ true → P x u) → (c ≡ false → P y v) → P (cond b x y) (cond c u v)
same_chosen P b true x y u v same holds fails = rw same (holds refl)
same_chosen P b false x y u v same holds fails = rw same (fails refl)

-- so are two choices by one test
pub both_chosen : {A B : Type 0} (P : A → B → Type 0) (b : Bool) (x y : A) (u v : B) → (b ≡ true → P x u) → (b ≡ false → P y v) → P (cond b x y) (cond b u v)
both_chosen P true x y u v holds fails = holds refl
both_chosen P false x y u v holds fails = fails refl

-- what is found only where a test holds
pub found_where : {A : Type 0} (b : Bool) (o : Option A) (x : A) → cond b o None ≡ Some x → (b ≡ true) × (o ≡ Some x)
found_where true o x found = (refl, found)
found_where false o x found = cc

-- a filter by a test that a map keeps
pub filter_image : {A B : Type 0} (g : A → B) (p : B → Bool) (q : A → Bool) → ((x : A) → p (g x) ≡ q x) → (xs : List A) → filter p (map g xs) ≡ map g (filter q xs)
filter_image g p q same [] = refl
filter_image {A = A} {B = B} g p q same (x ∷ xs) =
    same_chosen (λ (us : List B) (vs : List A). us ≡ map g vs) _ _ _ _ _ _ (same x) (λ t. ap (λ (rest : List B). g x ∷ rest) (filter_image g p q same xs)) (λ f. filter_image g p q same xs)

-- and the first that passes it
pub find_image : {A B : Type 0} (g : A → B) (p : B → Bool) (q : A → Bool) → ((x : A) → p (g x) ≡ q x) → (xs : List A) → find p (map g xs) ≡ option_map g (find q xs)
find_image g p q same [] = refl
find_image {A = A} {B = B} g p q same (x ∷ xs) =
    same_chosen (λ (found : Option B) (had : Option A). found ≡ option_map g had) _ _ _ _ _ _ (same x) (λ t. refl) (λ f. find_image g p q same xs)
