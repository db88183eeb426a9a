-- Proofs of the laws.
use Rattle.service_laws.proofs.Words.{◌≡◌, ℕ, ◌+◌, true, false, List, [], ◌∷◌, ◌++◌, inl, inr, refl, ap}
use Rattle.service_laws.proofs.Terms.{Frame, reply_text, ReplyParts, closes, request_in, reply_for, replies_behind, reply_texts, some_closes}
use Rattle.service_laws.proofs.Facts.{cases_Bool, false≢true}

pub nothing_behind : (frames more : List Frame) (place : ℕ) (replies : List ReplyParts)
    → some_closes frames place ≡ true → reply_texts (frames ++ more) place replies ≡ reply_texts frames place replies
nothing_behind [] more place replies closed = absurd (false≢true closed)
nothing_behind (x ∷ xs) more place replies closed = elim (cases_Bool (closes place x)) [
  | inl t ↦ rw t refl
  | inr f ↦
      let behind = replies_behind (request_in x) replies in
      let later : some_closes xs (place + 1) ≡ true = rw f at closed in
      rw f (ap (λ v. reply_text (reply_for x (request_in x) replies) false ++ v) (nothing_behind xs more (place + 1) behind later))
]
