-- Identifiers in stock.
use Rattle.std.proofs.Common.{◌≡◌, ℕ, ◌+◌, List, [], ◌∷◌, ◌++◌, length, IsUtf8, ap, ◌∙◌, subst, arith}
use Rattle.notify_outbox.specs.Items.{next_number, request_id}
use Rattle.notify_outbox.specs.Queues.{AreIds}

-- one more
pub ids_push : (k n : ℕ) (ids : List (List ℕ)) (id : List ℕ) → AreIds k ids → n ≡ next_number (k + length ids) → id ≡ request_id n → IsUtf8 id → AreIds k (ids ++ id ∷ [])
ids_push k n [] id h at is utf8 = (let same : n ≡ next_number k = omega arith in is ∙ ap request_id same, utf8, tt)
ids_push k n (other ∷ ids) id h at is utf8 = (let more : n ≡ next_number (next_number k + length ids) = omega arith in (h.0, h.1, ids_push (next_number k) n ids id h.2 more is utf8))

-- the first
pub ids_first : (k : ℕ) (ids rest : List (List ℕ)) (id : List ℕ) → ids ≡ id ∷ rest → AreIds k ids → AreIds k (id ∷ rest)
ids_first k ids rest id is h = subst (AreIds k) is h
