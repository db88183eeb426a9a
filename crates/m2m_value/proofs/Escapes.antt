-- What stands for the bytes of a text, part by part.
use Rattle.std.proofs.Common.{◌≡◌, ℕ, zero, suc, ◌+◌, ◌-◌, ◌<◌, ◌≤◌, Bool, true, false, List, [], ◌∷◌, ◌++◌, length, take, drop, get_or, flat_map, refl, sym, ap, ◌∙◌, arith, append_assoc, append-nil, length-drop, get_or-drop, inl, inr}
use Rattle.std.proofs.lemmas.Bool.{cases_lt}
use Rattle.std.specs.Bool.{OnTrue}
use Rattle.std.proofs.lemmas.List.{drop_more, drop-drop}
use Rattle.json.specs.Print.{escape_byte}
use Rattle.json.specs.Run.{is_plain}
use Rattle.json.specs.Written.{PlainBetween}
use Rattle.json.proofs.Printed.Plain.{escape_on_plain}
use Rattle.m2m_value.specs.Spelling.{escaped}
use Rattle.m2m_value.proofs.Raised.{escaped-same, escaped_all-same}

one_plain : (x : ℕ) → is_plain x ≡ true → PlainBetween (x ∷ []) 0 1
one_plain x plain zero low high = plain
one_plain x plain (suc k) low high = absurd (omega arith)

plain_byte : (x : ℕ) → is_plain x ≡ true → escaped x ≡ x ∷ []
plain_byte x plain = escaped-same x ∙ sym (append-nil (escape_byte x)) ∙ escape_on_plain true (x ∷ []) (one_plain x plain)

-- of bytes that all stand for themselves
pub as_it_stands : (b : Bool) (s : List ℕ) → OnTrue b (PlainBetween s 0 (length s)) → OnTrue b (flat_map escaped s ≡ s)
as_it_stands true s plain = escaped_all-same s ∙ escape_on_plain true s plain
as_it_stands false s plain = tt

-- of bytes the first of which stand for themselves
plain_first : (s : List ℕ) (n : ℕ) → n ≤ length s → ((k : ℕ) → k < n → is_plain (get_or s k 0) ≡ true)
    → flat_map escaped s ≡ take n s ++ flat_map escaped (drop n s)
plain_first s zero within plain = refl
plain_first [] (suc n) within plain = absurd (omega arith)
plain_first (x ∷ s) (suc n) within plain =
    ap (λ (l : List ℕ). l ++ flat_map escaped s) (plain_byte x (plain 0 (omega arith)))
    ∙ ap (λ (l : List ℕ). x ∷ l) (plain_first s n (omega arith) (λ k below. plain (suc k) (omega arith)))

-- from one place up to another, between which the bytes stand for themselves
pub up_to_stop : (s : List ℕ) (from stop : ℕ) → (from ≤ stop) × (stop ≤ length s) → PlainBetween s from stop
    → flat_map escaped (drop from s) ≡ take (stop - from) (drop from s) ++ flat_map escaped (drop stop s)
up_to_stop s from stop within plain =
    let rest : from + (stop - from) ≡ stop = omega (arith, within.0) in
    plain_first (drop from s) (stop - from) (omega (arith, within.0, within.1, length-drop from s))
    (λ k below. ap is_plain (get_or-drop from s k 0) ∙ plain (from + k) (omega arith) (omega (arith, within.0)))
    ∙ ap (λ (l : List ℕ). take (stop - from) (drop from s) ++ flat_map escaped l) (drop-drop (stop - from) from s ∙ ap (λ (k : ℕ). drop k s) rest)

-- of one byte, and of those behind it
pub from_stop : (s : List ℕ) (i : ℕ) → i < length s → flat_map escaped (drop i s) ≡ escaped (get_or s i 0) ++ flat_map escaped (drop (i + 1) s)
from_stop s i within = ap (flat_map escaped) (drop_more s i 0 within)

-- two runs of such bytes, one behind the other
pub plain_joined : (s : List ℕ) (from mid to : ℕ) → PlainBetween s from mid → PlainBetween s mid to → PlainBetween s from to
plain_joined s from mid to first then k low high = elim (cases_lt k mid) [
  | inl before ↦ first k low before
  | inr behind ↦ then k behind high
]

-- what is put behind some bytes leaves that much less to be put
pub then_left : (before mid now part left all : List ℕ) → now ≡ mid ++ part → before ≡ part ++ left → mid ++ before ≡ all → now ++ left ≡ all
then_left before mid now part left all put split told =
    ap (λ (l : List ℕ). l ++ left) put ∙ append_assoc mid part left ∙ ap (λ (l : List ℕ). mid ++ l) (sym split) ∙ told
