-- Bytes that begin with other bytes.
use Rattle.std.proofs.Common.{◌≡◌, Result, Ok, Err, OnOk, OnErr, ℕ, List, [], ◌++◌, sym, ap, ◌∙◌, append_assoc, append-nil}
use Rattle.m2m_value.specs.Sound.{BeginsWith}

pub begins_with_itself : (old new : List ℕ) → new ≡ old → BeginsWith old new
begins_with_itself old new e = ([], e ∙ sym (append-nil old))

pub begins_after : (old mid new : List ℕ) → BeginsWith old mid → BeginsWith mid new → BeginsWith old new
begins_after old mid new first more = (first.0 ++ more.0, more.1 ∙ ap (λ s. s ++ more.0) first.1 ∙ append_assoc old first.0 more.0)

-- what holds in any case holds where the call failed
pub on_err : {T E : Type 0} (r : Result T E) (P : Type 0) → P → OnErr r P
on_err (Ok x) P h = tt
on_err (Err e) P h = h

pub on_ok_both : {T E P Q R : Type 0} (r : Result T E) → OnOk r P → OnOk r Q → (P → Q → R) → OnOk r R
on_ok_both (Ok x) p q f = f p q
on_ok_both (Err e) p q f = tt
