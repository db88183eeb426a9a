-- Bytes that are written in several pieces.
use Rattle.std.proofs.Common.{◌≡◌, ℕ, List, ◌++◌, length, take, drop, Option, None, Some, arith, append_assoc, sym, ap, ◌∙◌}
use Rattle.std.proofs.lemmas.List.{take-append-drop}
use Rattle.std.proofs.lemmas.Grind.{common_steps}
use Rattle.std.specs.Io.KnownBytes.{Appends, Keeps}
use Rattle.m2m_io.specs.Told.{AppendsPrefix}
use Rattle.m2m_io.proofs.ToldLemmas.{prefix_front}

-- some of the bytes were written, and the rest is left
pub record IsUnderWay (old now : Option (List ℕ)) (bytes rest : List ℕ) : Type 0 where
  pub done : List ℕ
  pub whole : bytes ≡ done ++ rest
  pub appended : Appends old now done

pub Appends-both : (old mid new : Option (List ℕ)) (a b : List ℕ)
    → Appends old mid a → Appends mid new b → Appends old new (a ++ b)
Appends-both None mid new a b p q = tt
Appends-both (Some xs) None new a b p q = absurd p
Appends-both (Some xs) (Some ys) None a b p q = absurd q
Appends-both (Some xs) (Some ys) (Some zs) a b p q = q ∙ ap (λ v. v ++ b) p ∙ append_assoc xs a b

-- one more piece was written
pub IsUnderWay-next : (old mid new : Option (List ℕ)) (bytes rest : List ℕ) (n : ℕ)
    → IsUnderWay old mid bytes rest → Appends mid new (take n rest) → IsUnderWay old new bytes (drop n rest)
IsUnderWay-next old mid new bytes rest n w p = record {
  done = w.done ++ take n rest;
  whole = w.whole ∙ ap (λ v. w.done ++ v) (sym (take-append-drop n rest))
      ∙ sym (append_assoc w.done (take n rest) (drop n rest));
  appended = Appends-both old mid new w.done (take n rest) w.appended p;
}

-- the device gave up
pub IsUnderWay-stop : (old mid new : Option (List ℕ)) (bytes rest : List ℕ)
    → IsUnderWay old mid bytes rest → Keeps mid new → AppendsPrefix old new bytes
IsUnderWay-stop None mid new bytes rest w k = (0, omega arith, tt)
IsUnderWay-stop (Some xs) None new bytes rest w k = absurd w.appended
IsUnderWay-stop (Some xs) (Some ys) None bytes rest w k = absurd k
IsUnderWay-stop (Some xs) (Some ys) (Some zs) bytes rest w k =
    let here : AppendsPrefix (Some xs) (Some zs) w.done =
    (length w.done, omega arith, grind (arith, common_steps, w.appended, k)) in
    rw w.whole (prefix_front (Some xs) (Some zs) w.done rest here)
