-- Reading in steps.
use Rattle.std.proofs.Common.{◌≡◌, ◌∙◌, ap, refl, Bool, true, false, cond, Option, Some, None}
use Rattle.m2m_names.specs.Steps.{◌>>=◌}

-- a step of reading that went on found something
pub bind_some : {A B : Type 0} (o : Option A) (f : A → Option B) (y : B) → (o >>= f) ≡ Some y → (x : A) × (o ≡ Some x) × (f x ≡ Some y)
bind_some None f y e = let h : None ≡ Some y = e in cc
bind_some (Some x) f y e = (x, refl, e)

-- a step of reading that finds something goes on
pub bind_again : {A B : Type 0} (o : Option A) (f : A → Option B) (x : A) (r : Option B) → o ≡ Some x → f x ≡ r → (o >>= f) ≡ r
bind_again o f x r is next = ap (λ p. p >>= f) is ∙ next

-- a test on the way that was passed
pub chosen : {A : Type 0} (b : Bool) (o : Option A) (y : A) → cond b o None ≡ Some y → (b ≡ true) × (o ≡ Some y)
chosen true o y e = (refl, e)
chosen false o y e = let h : None ≡ Some y = e in cc
