-- Lines, one behind another.
use Rattle.std.proofs.Common.{◌≡◌, List, [], ◌∷◌, ◌++◌, Result, Ok, Err, OnOk, ap, ◌∙◌, append_assoc}
use Rattle.http_frames.specs.Lines.{Line}

-- what follows of what holds on Ok
on_ok : {T E : Type 0} (r : Result T E) (P Q : Type 0) → (P → Q) → OnOk r P → OnOk r Q
on_ok (Ok x) P Q f h = f h
on_ok (Err e) P Q f h = tt

-- one line, and then others
pub line_and_more : {T E : Type 0} (r : Result T E) (old one two more : List Line) (line : Line) → one ≡ old ++ line ∷ []
    → OnOk r (two ≡ one ++ more) → OnOk r (two ≡ old ++ (line ∷ more))
line_and_more r old one two more line first h =
    on_ok r (two ≡ one ++ more) (two ≡ old ++ (line ∷ more)) (λ is. is ∙ ap (λ lines. lines ++ more) first ∙ append_assoc old (line ∷ []) more) h
