-- Lines that a stream begins with, compared.
use Rattle.std.proofs.Common.{◌≡◌, ℕ, ◌+◌, ◌≤◌, List, [], ◌∷◌, ◌++◌, length, Option, Some, None, refl, sym, ap, subst, ◌∙◌, arith}
use Rattle.primitive_replay.specs.Laws.{LinesAreHeardInOneWay, NothingIsHeardBehindABadLine}
use Rattle.primitive_replay.specs.Lines.{line_at, line_read}
use Rattle.primitive_replay.specs.Stream.{AreLines}
use Rattle.primitive_replay.specs.declared.line.Line.{Line}

no_none : (a b : Option Line) (line : Line) → a ≡ b → a ≡ Some line → b ≡ None → ⊥
no_none a b line same some none = cc

same_line : (a b : Option Line) (x y : Line) → a ≡ b → a ≡ Some x → b ≡ Some y → x ≡ y
same_line a b x y same p q = cc

first_same : (t u : List ℕ) (ts us : List (List ℕ)) → t ∷ ts ≡ u ∷ us → t ≡ u
first_same t u ts us e = cc

rest_same : (t u : List ℕ) (ts us : List (List ℕ)) → t ∷ ts ≡ u ∷ us → ts ≡ us
rest_same t u ts us e = cc

joined : (x y : Line) (xs ys : List Line) → x ≡ y → xs ≡ ys → x ∷ xs ≡ y ∷ ys
joined x y xs ys p q = cc

one_way : (ts us : List (List ℕ)) (xs ys : List Line) (place : ℕ) (as' bs : List (List ℕ))
    → AreLines place ts xs → AreLines place us ys → ts ++ as' ≡ us ++ bs → length xs ≡ length ys → xs ≡ ys
one_way [] [] [] [] place as' bs a b e size = refl
one_way [] [] [] (y ∷ ys) place as' bs a b e size = absurd b
one_way [] [] (x ∷ xs) ys place as' bs a b e size = absurd a
one_way [] (u ∷ us) [] [] place as' bs a b e size = refl
one_way [] (u ∷ us) [] (y ∷ ys) place as' bs a b e size = absurd (omega (arith, size))
one_way [] (u ∷ us) (x ∷ xs) ys place as' bs a b e size = absurd a
one_way (t ∷ ts) us [] ys place as' bs a b e size = absurd a
one_way (t ∷ ts) [] (x ∷ xs) [] place as' bs a b e size = absurd (omega (arith, size))
one_way (t ∷ ts) [] (x ∷ xs) (y ∷ ys) place as' bs a b e size = absurd b
one_way (t ∷ ts) (u ∷ us) (x ∷ xs) [] place as' bs a b e size = absurd b
one_way (t ∷ ts) (u ∷ us) (x ∷ xs) (y ∷ ys) place as' bs a b e size =
    let first = first_same t u (ts ++ as') (us ++ bs) e in
    joined x y xs ys
    (same_line (line_at line_read place t) (line_at line_read place u) x y (ap (line_at line_read place) first) a.0 b.0)
    (one_way ts us xs ys (place + 1) as' bs a.1 b.1 (rest_same t u (ts ++ as') (us ++ bs) e) (omega (arith, size)))

bad_stops : (ts us : List (List ℕ)) (xs ys : List Line) (place : ℕ) (later bs : List (List ℕ)) (text : List ℕ)
    → AreLines place ts xs → AreLines place us ys → ts ++ text ∷ later ≡ us ++ bs → line_at line_read (place + length xs) text ≡ None → length ys ≤ length xs
bad_stops ts us xs [] place later bs text a b e bad = omega arith
bad_stops [] [] [] (y ∷ ys) place later bs text a b e bad = absurd b
bad_stops [] (u ∷ us) [] (y ∷ ys) place later bs text a b e bad =
    let here : place + length {A = Line} [] ≡ place = omega arith in
    absurd (no_none (line_at line_read place u) (line_at line_read place text) y (ap (line_at line_read place) (sym (first_same text u later (us ++ bs) e))) b.0
    (subst (λ (n : ℕ). line_at line_read n text ≡ None) here bad))
bad_stops [] us (x ∷ xs) (y ∷ ys) place later bs text a b e bad = absurd a
bad_stops (t ∷ ts) us [] (y ∷ ys) place later bs text a b e bad = absurd a
bad_stops (t ∷ ts) [] (x ∷ xs) (y ∷ ys) place later bs text a b e bad = absurd b
bad_stops (t ∷ ts) (u ∷ us) (x ∷ xs) (y ∷ ys) place later bs text a b e bad =
    let next : place + length (x ∷ xs) ≡ (place + 1) + length xs = omega arith in
    let rest = bad_stops ts us xs ys (place + 1) later bs text a.1 b.1 (rest_same t u (ts ++ text ∷ later) (us ++ bs) e)
    (subst (λ (n : ℕ). line_at line_read n text ≡ None) next bad) in
    omega (arith, rest)

pub heard_in_one_way : LinesAreHeardInOneWay
heard_in_one_way bytes rest left heard other a b size =
    one_way a.texts b.texts heard other 1 _ _ a.each b.each (sym a.texts_are ∙ b.texts_are) size

pub nothing_behind_bad : NothingIsHeardBehindABadLine
nothing_behind_bad bytes rest left heard other a bad b =
    bad_stops a.texts b.texts heard other 1 bad.later _ bad.text a.each b.each
    (ap (λ v. a.texts ++ v) (sym bad.texts_are) ∙ sym a.texts_are ∙ b.texts_are) bad.bad
