-- What a read and a put of a connection with two sides leave as it was.
use Rattle.std.proofs.Common.{◌≡◌, ℕ, List, Option, sym, ap, ◌∙◌}
use Rattle.m2m_io.specs.Sides.{KeepsSides, SideTold}

module _ {X : Type 0} (left : X → Option (List ℕ)) (read_faults : X → ℕ) (by_read : X → SideTold) (written : X → Option (List ℕ)) (put_faults : X → ℕ) (puts : X → Option ℕ) (by_put : X → SideTold) (keeps : KeepsSides left read_faults by_read written put_faults puts by_put) where
  pub read-written : (old new : X) → by_read new ≡ by_read old → written new ≡ written old
  read-written old new same = ap (λ (s : SideTold). s.told) (sym (keeps.read new) ∙ same ∙ keeps.read old)

  pub read-faults : (old new : X) → by_read new ≡ by_read old → put_faults new ≡ put_faults old
  read-faults old new same = ap (λ (s : SideTold). s.faults) (sym (keeps.read new) ∙ same ∙ keeps.read old)

  pub read-puts : (old new : X) → by_read new ≡ by_read old → puts new ≡ puts old
  read-puts old new same = ap (λ (s : SideTold). s.puts) (sym (keeps.read new) ∙ same ∙ keeps.read old)

  pub put-left : (old new : X) → by_put new ≡ by_put old → left new ≡ left old
  put-left old new same = ap (λ (s : SideTold). s.told) (sym (keeps.put new) ∙ same ∙ keeps.put old)

  pub put-faults : (old new : X) → by_put new ≡ by_put old → read_faults new ≡ read_faults old
  put-faults old new same = ap (λ (s : SideTold). s.faults) (sym (keeps.put new) ∙ same ∙ keeps.put old)

  -- both keep what it holds
  pub same_holds : (x : X) → (by_read x).holds ≡ (by_put x).holds
  same_holds x = ap (λ (s : SideTold). s.holds) (keeps.read x)

  pub put-holds : (old new : X) → by_put new ≡ by_put old → (by_read new).holds ≡ (by_read old).holds
  put-holds old new same = same_holds new ∙ ap (λ (s : SideTold). s.holds) same ∙ sym (same_holds old)
