-- One step along a list.
use Rattle.std.proofs.Common.{◌≡◌, ◌≢◌, ℕ, zero, suc, ◌+◌, List, [], ◌∷◌, ◌++◌, drop, Bool, true, false, not, Option, Some, None, option_to_list, refl, ap, ◌∙◌}
use Rattle.std.proofs.Math.Numerals.{suc-eq-add-one}
use Rattle.std.specs.List.{slice_get}
use Rattle.resource_model.specs.Resource.{ResourceData}

pub not_not : (b : Bool) → not (not b) ≡ b
not_not true = refl
not_not false = refl

drop_step_suc : (rs : List ResourceData) (k : ℕ) → drop k rs ≡ option_to_list (slice_get rs k) ++ drop (suc k) rs
drop_step_suc [] zero = refl
drop_step_suc [] (suc k) = refl
drop_step_suc (r ∷ rs) zero = refl
drop_step_suc (r ∷ rs) (suc k) = drop_step_suc rs k

pub drop_step : (rs : List ResourceData) (k : ℕ) → drop k rs ≡ option_to_list (slice_get rs k) ++ drop (k + 1) rs
drop_step rs k = drop_step_suc rs k ∙ ap (λ (n : ℕ). option_to_list (slice_get rs k) ++ drop n rs) (suc-eq-add-one k)

pub dropped_some : (rs : List ResourceData) (k : ℕ) (r : ResourceData) → slice_get rs k ≡ Some r → drop k rs ≡ r ∷ drop (k + 1) rs
dropped_some rs k r found =
    drop_step rs k ∙ ap (λ (o : Option ResourceData). option_to_list o ++ drop (k + 1) rs) found

pub dropped_none : (rs : List ResourceData) (k : ℕ) → slice_get rs k ≡ None → drop k rs ≡ []
dropped_none [] zero none = refl
dropped_none [] (suc k) none = refl
dropped_none (r ∷ rs) zero none = absurd (let e : Some r ≡ None = none in cc)
dropped_none (r ∷ rs) (suc k) none = dropped_none rs k none

some_front : (xs ys : List ℕ) → xs ≢ [] → xs ++ ys ≢ []
some_front [] ys some = absurd (some refl)
some_front (x ∷ xs) ys some = λ e. cc

some_back : (xs ys : List ℕ) → ys ≢ [] → xs ++ ys ≢ []
some_back [] ys some = some
some_back (x ∷ xs) ys some = λ e. cc

-- where a part of all isn't empty, all isn't
pub some_part : (now head tail all : List ℕ) → now ++ (head ++ tail) ≡ all → head ≢ [] → all ≢ []
some_part now head tail all is some e = some_back now (head ++ tail) (some_front head tail some) (is ∙ e)
