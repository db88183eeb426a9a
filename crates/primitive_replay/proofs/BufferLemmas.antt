-- What a read does to the stream that begins with the bytes held.
use Rattle.std.proofs.Common.{◌≡◌, ℕ, List, ◌++◌, Option, None, Some, sym, ap, ◌∙◌, append_assoc}
use Rattle.std.specs.Io.KnownBytes.{Consumes, Keeps, prepend_known}

-- what was read stands behind what was held
pub read_keeps : (left rest : Option (List ℕ)) (held read now : List ℕ) → Consumes left rest read → now ≡ held ++ read
    → Keeps (prepend_known held left) (prepend_known now rest)
read_keeps None rest held read now took is = tt
read_keeps (Some xs) None held read now took is = absurd took
read_keeps (Some xs) (Some ys) held read now took is =
    ap (λ v. v ++ ys) is ∙ append_assoc held read ys ∙ ap (λ v. held ++ v) (sym took)
