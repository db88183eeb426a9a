-- Texts without repeats, and how many they are; members that are looked at one by one.
use Rattle.std.specs.Prelude.{nat_le}
use Rattle.std.proofs.Common.{◌≡◌, ℕ, ◌+◌, ◌<◌, List, [], ◌∷◌, ◌++◌, length, map, Bool, true, false, ◌&&◌, ◌||◌, inl, inr, refl, sym, ap, ◌∙◌, append_assoc, arith, length-append}
use Rattle.std.proofs.lemmas.Bool.{cases_Bool}
use Rattle.std.proofs.lemmas.Bool.Decides.{nat_tests}
use Rattle.std.proofs.lemmas.List.{map-append}
use Rattle.std.proofs.lemmas.List.Folds.{list_all-append}
use Rattle.std.specs.List.{list_all, list_any}
use Rattle.m2m_value.specs.Data.{Data, text}
use Rattle.entity_model.specs.Entity.{EntityData}
use Rattle.request_rules.specs.Groups.{MembershipData, is_left_out, is_live_member, kept_among}

-- where a front of them is too many, they are
pub too_many : (front back all : List (List ℕ)) (most : ℕ) → front ++ back ≡ all → most < length front → nat_le (length all) most ≡ false
too_many front back all most is more =
    let long : length front + length back ≡ length all = sym (length-append front back) ∙ ap length is in
    let over : most < length all = omega arith in
    grind (arith, nat_tests)

-- ---- members one by one

-- one that is kept or left out, and the rest
pub kept_one : (e : EntityData) (m : MembershipData) (x : List ℕ) (xs : List (List ℕ)) → kept_among e m (x ∷ xs) ≡ kept_among e m (x ∷ []) ++ kept_among e m xs
kept_one e m x xs = elim (cases_Bool (is_left_out e m x)) [
  | inl t ↦ rw t refl
  | inr f ↦ rw f refl
]

-- the values of those so far, of one more and of the rest
pub kept_values : (e : EntityData) (m : MembershipData) (x : List ℕ) (xs : List (List ℕ)) (old new : List Data) → new ≡ old ++ map text (kept_among e m (x ∷ [])) → new ++ map text (kept_among e m xs) ≡ old ++ map text (kept_among e m (x ∷ xs))
kept_values e m x xs old new is =
    ap (λ (vs : List Data). vs ++ map text (kept_among e m xs)) is
    ∙ append_assoc old (map text (kept_among e m (x ∷ []))) (map text (kept_among e m xs))
    ∙ ap (λ (vs : List Data). old ++ vs) (sym (map-append text (kept_among e m (x ∷ [])) (kept_among e m xs)) ∙ ap (map text) (sym (kept_one e m x xs)))

-- whether each that is kept of them names a live resource
pub kept_live : (e : EntityData) (m : MembershipData) (x : List ℕ) (xs : List (List ℕ)) (old new : Bool) → new ≡ (old && list_all (is_live_member e) (kept_among e m (x ∷ []))) → (new && list_all (is_live_member e) (kept_among e m xs)) ≡ (old && list_all (is_live_member e) (kept_among e m (x ∷ xs)))
kept_live e m x xs old new is =
    ap (λ (b : Bool). b && list_all (is_live_member e) (kept_among e m xs)) is
    ∙ both old
    ∙ ap (λ (b : Bool). old && b) (sym (list_all-append (is_live_member e) (kept_among e m (x ∷ [])) (kept_among e m xs)) ∙ ap (list_all (is_live_member e)) (sym (kept_one e m x xs)))
  where
    both : (b : Bool) → ((b && list_all (is_live_member e) (kept_among e m (x ∷ []))) && list_all (is_live_member e) (kept_among e m xs)) ≡ (b && (list_all (is_live_member e) (kept_among e m (x ∷ [])) && list_all (is_live_member e) (kept_among e m xs)))
    both true = refl
    both false = refl

-- whether one of them is of another type
pub any_other : (is_other : List ℕ → Bool) (x : List ℕ) (xs : List (List ℕ)) (old new : Bool) → new ≡ (old || is_other x) → (new || list_any is_other xs) ≡ (old || list_any is_other (x ∷ xs))
any_other is_other x xs true new is = rw is refl
any_other is_other x xs false new is = rw is refl
