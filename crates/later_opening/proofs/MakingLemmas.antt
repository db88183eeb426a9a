-- Where the first stands that waits under a number.
use Rattle.std.proofs.Common.{◌≡◌, ℕ, suc, ◌+◌, ◌<◌, ◌≤◌, List, [], ◌∷◌, length, get_or, set, true, inl, inr, refl, ap, arith, ◌∙◌, subst}
use Rattle.std.proofs.lemmas.Bool.{and_parts, cases_Bool}
use Rattle.std.specs.List.{position_or_len}
use Rattle.primitive_json.specs.declared.reply.ReplyParts.{ReplyParts}
use Rattle.accepted_requests.specs.Entries.{LaterEntryData, begun, does_wait, finished}
use Rattle.later_opening.specs.Making.{ran_in, waits_as, with_result}
use Rattle.std.specs.Prelude.{Some, ◌==◌}

-- an entry whose run began, and was finished with this reply
pub result_kept : (e : LaterEntryData) (reply : ReplyParts) → finished (begun e) e.request (Some reply) ≡ with_result reply e
result_kept e reply = refl

-- none waits under it
pub ran_nowhere : (n : ℕ) (reply : ReplyParts) (es : List LaterEntryData) → length es ≤ position_or_len (waits_as n) es → ran_in n reply es ≡ es
ran_nowhere n reply [] past = refl
ran_nowhere n reply (e ∷ es) past = elim (cases_Bool (waits_as n e)) [
  | inl t ↦ (let none : suc (length es) ≤ 0 = rw t at past in absurd (omega (arith, none)))
  | inr f ↦ (
      let behind : suc (length es) ≤ 1 + position_or_len (waits_as n) es = rw f at past in
      rw f (ap (λ (l : List LaterEntryData). e ∷ l) (ran_nowhere n reply es (omega (arith, behind)))))
]

-- one does there
pub ran_at : (n : ℕ) (reply : ReplyParts) (es : List LaterEntryData) (e : LaterEntryData) → position_or_len (waits_as n) es < length es
    → ran_in n reply es ≡ set es (position_or_len (waits_as n) es) (with_result reply (get_or es (position_or_len (waits_as n) es) e))
ran_at n reply [] e within = absurd (omega (arith, within))
ran_at n reply (x ∷ es) e within = elim (cases_Bool (waits_as n x)) [
  | inl t ↦ rw t refl
  | inr f ↦ (
      let behind : 1 + position_or_len (waits_as n) es < suc (length es) = rw f at within in
      let one : suc (position_or_len (waits_as n) es) ≡ 1 + position_or_len (waits_as n) es = omega arith in
      rw f (ap (λ (l : List LaterEntryData). x ∷ l) (ran_at n reply es e (omega (arith, behind)))
      ∙ ap (λ (p : ℕ). set (x ∷ es) p (with_result reply (get_or (x ∷ es) p e))) one))
]

-- it waits
pub waits_at : (n : ℕ) (es : List LaterEntryData) (e : LaterEntryData) → position_or_len (waits_as n) es < length es
    → waits_as n (get_or es (position_or_len (waits_as n) es) e) ≡ true
waits_at n [] e within = absurd (omega (arith, within))
waits_at n (x ∷ es) e within = elim (cases_Bool (waits_as n x)) [
  | inl t ↦ rw t t
  | inr f ↦ (
      let behind : 1 + position_or_len (waits_as n) es < suc (length es) = rw f at within in
      let one : suc (position_or_len (waits_as n) es) ≡ 1 + position_or_len (waits_as n) es = omega arith in
      rw f (subst (λ (p : ℕ). waits_as n (get_or (x ∷ es) p e) ≡ true) one (waits_at n es e (omega (arith, behind)))))
]

pub does_wait_at : (n : ℕ) (e : LaterEntryData) → waits_as n e ≡ true → does_wait e ≡ true
does_wait_at n e waits = (and_parts (e.number == n) (does_wait e) waits).1
