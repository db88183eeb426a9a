-- A path with its tildes, place by place.
use Rattle.std.proofs.Common.{◌≡◌, ℕ, ◌+◌, ◌-◌, ◌≤◌, ◌<◌, Bool, true, false, List, [], ◌∷◌, ◌++◌, length, take, drop, get_or, refl, sym, ap, ◌∙◌, arith, append_assoc}
use Rattle.std.specs.Prelude.{◌==◌, ◌&&◌, not}
use Rattle.std.specs.Bool.{if◌then◌else◌}
use Rattle.std.specs.List.{list_all}
use Rattle.std.specs.Str.{IsUtf8, is_utf8}
use Rattle.std.proofs.lemmas.Bool.{and_parts, false≢true}
use Rattle.std.proofs.lemmas.List.{take_all, length-drop, drop-drop, get_or-drop, append-nil}
use Rattle.std.proofs.lemmas.Str.{IsUtf8-from_is_utf8, is_utf8-from_IsUtf8}
use Rattle.http_uri.specs.ByteClasses.{percent_sign}
use Rattle.http_target.specs.Targets.{is_coded_tilde, is_uncoded_byte, begins_coded, with_tildes}

then_is : {T : Type 0} (test : Bool) (x y : T) → test ≡ true → (if test then x else y) ≡ x
then_is true x y h = refl
then_is false x y h = absurd (false≢true h)

else_is : {T : Type 0} (test : Bool) (x y : T) → test ≡ false → (if test then x else y) ≡ y
else_is false x y h = refl
else_is true x y h = absurd (false≢true (sym h))

-- at a coded tilde
pub coded_len : (path : List ℕ) → begins_coded path ≡ true → 3 ≤ length path
coded_len [] h = absurd (false≢true h)
coded_len (a ∷ []) h = absurd (false≢true h)
coded_len (a ∷ b ∷ []) h = absurd (false≢true h)
coded_len (a ∷ b ∷ c ∷ path) h = omega arith

pub coded_step : (path : List ℕ) → begins_coded path ≡ true → with_tildes path ≡ 126 ∷ with_tildes (drop 3 path)
unfolding with_tildes
coded_step [] h = absurd (false≢true h)
coded_step (a ∷ []) h = absurd (false≢true h)
coded_step (a ∷ b ∷ []) h = absurd (false≢true h)
coded_step (a ∷ b ∷ c ∷ path) h = then_is (is_coded_tilde a b c) _ _ h

-- at any other byte
pub plain_step : (path : List ℕ) → begins_coded path ≡ false → 0 < length path → with_tildes path ≡ get_or path 0 0 ∷ with_tildes (drop 1 path)
unfolding with_tildes
plain_step [] h more = absurd (omega arith)
plain_step (a ∷ []) h more = refl
plain_step (a ∷ b ∷ []) h more = refl
plain_step (a ∷ b ∷ c ∷ path) h more = else_is (is_coded_tilde a b c) _ _ h

-- where no byte is coded
no_tilde : (p q rest : Bool) → not p ≡ true → (p && q && rest) ≡ false
no_tilde false q rest h = refl
no_tilde true q rest h = absurd (false≢true h)

pub tildes_kept : (path : List ℕ) → list_all is_uncoded_byte path ≡ true → with_tildes path ≡ path
unfolding with_tildes
tildes_kept [] h = refl
tildes_kept (a ∷ []) h = refl
tildes_kept (a ∷ b ∷ []) h = refl
tildes_kept (a ∷ b ∷ c ∷ path) h =
    let parts = and_parts (is_uncoded_byte a) (list_all is_uncoded_byte (b ∷ c ∷ path)) h in
    else_is (is_coded_tilde a b c) _ _ (no_tilde (a == percent_sign) _ _ parts.0)
    ∙ ap (λ r. a ∷ r) (tildes_kept (b ∷ c ∷ path) parts.1)

pub tildes_end : (path : List ℕ) → length path ≤ 0 → with_tildes path ≡ []
unfolding with_tildes
tildes_end [] h = refl
tildes_end (a ∷ path) h = absurd (omega arith)

-- the loop's steps, on the slices that it looks at
rest_is : (path : List ℕ) (at : ℕ) → take (length path - at) (drop at path) ≡ drop at path
rest_is path at = take_all (length path - at) (drop at path) (omega (arith, length-drop at path))

pub coded_on : (path text next : List ℕ) (at : ℕ) (coded : Bool) → text ++ with_tildes (drop at path) ≡ with_tildes path
    → at ≤ length path → coded ≡ begins_coded (take (length path - at) (drop at path)) → coded ≡ true → next ≡ text ++ 126 ∷ []
    → (at + 3 ≤ length path) × (next ++ with_tildes (drop (at + 3) path) ≡ with_tildes path)
coded_on path text next at coded whole within seen is pushed =
    let begins : begins_coded (drop at path) ≡ true = ap begins_coded (sym (rest_is path at)) ∙ sym seen ∙ is in
    let long : 3 ≤ length (drop at path) = coded_len (drop at path) begins in
    let step : with_tildes (drop at path) ≡ 126 ∷ with_tildes (drop (at + 3) path) =
    coded_step (drop at path) begins ∙ ap (λ r. 126 ∷ with_tildes r) (drop-drop 3 at path) in (
      omega (arith, long, length-drop at path),
      ap (λ t. t ++ with_tildes (drop (at + 3) path)) pushed ∙ append_assoc text (126 ∷ []) (with_tildes (drop (at + 3) path)) ∙ ap (λ r. text ++ r) (sym step) ∙ whole,
    )

pub plain_on : (path text next : List ℕ) (at : ℕ) (coded : Bool) → text ++ with_tildes (drop at path) ≡ with_tildes path
    → at < length path → coded ≡ begins_coded (take (length path - at) (drop at path)) → coded ≡ false → next ≡ text ++ get_or path at 0 ∷ []
    → (at + 1 ≤ length path) × (next ++ with_tildes (drop (at + 1) path) ≡ with_tildes path)
plain_on path text next at coded whole within seen is pushed =
    let begins : begins_coded (drop at path) ≡ false = ap begins_coded (sym (rest_is path at)) ∙ sym seen ∙ is in
    let some : 0 < length (drop at path) = omega (arith, length-drop at path) in
    let here : at + 0 ≡ at = omega arith in
    let first : get_or (drop at path) 0 0 ≡ get_or path at 0 = get_or-drop at path 0 0 ∙ ap (λ n. get_or path n 0) here in
    let step : with_tildes (drop at path) ≡ get_or path at 0 ∷ with_tildes (drop (at + 1) path) =
    plain_step (drop at path) begins some ∙ ap (λ b. b ∷ with_tildes (drop 1 (drop at path))) first ∙ ap (λ r. get_or path at 0 ∷ with_tildes r) (drop-drop 1 at path) in (
      omega arith,
      ap (λ t. t ++ with_tildes (drop (at + 1) path)) pushed ∙ append_assoc text (get_or path at 0 ∷ []) (with_tildes (drop (at + 1) path)) ∙ ap (λ r. text ++ r) (sym step) ∙ whole,
    )

pub written_all : (path text : List ℕ) (at : ℕ) → text ++ with_tildes (drop at path) ≡ with_tildes path → length path ≤ at → text ≡ with_tildes path
written_all path text at whole all =
    let none : with_tildes (drop at path) ≡ [] = tildes_end (drop at path) (omega (arith, length-drop at path)) in
    sym (append-nil text) ∙ ap (λ r. text ++ r) (sym none) ∙ whole

-- what `from_utf8` tells
pub told_text : (bytes : List ℕ) → IsUtf8 bytes → true ≡ is_utf8 bytes
told_text bytes h = sym (is_utf8-from_IsUtf8 bytes h)

no_text_by : (bytes : List ℕ) (b : Bool) → is_utf8 bytes ≡ b → ¬ (IsUtf8 bytes) → false ≡ is_utf8 bytes
no_text_by bytes true is wrong = absurd (wrong (IsUtf8-from_is_utf8 bytes is))
no_text_by bytes false is wrong = sym is

pub told_no_text : (bytes : List ℕ) → ¬ (IsUtf8 bytes) → false ≡ is_utf8 bytes
told_no_text bytes wrong = no_text_by bytes (is_utf8 bytes) refl wrong
