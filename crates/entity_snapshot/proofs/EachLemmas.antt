-- Things that are read one after another.
use Rattle.std.proofs.Common.{◌≡◌, ℕ, zero, suc, ◌+◌, ◌<◌, ◌≤◌, List, [], ◌∷◌, ◌++◌, length, take, drop, Option, Some, None, option_and_then, option_map, refl, sym, ap, ◌∙◌, subst, arith, append_assoc, length-append, length-drop, add-one}
use Rattle.std.proofs.lemmas.List.{append-nil, drop-drop, drop_at}
use Rattle.std.specs.List.{AllByRecursion}
use Rattle.entity_lines.specs.Laws.{BeginsBy}
use Rattle.entity_snapshot.specs.Reading.{ReadsEach, each_in, each_len}
use Rattle.entity_snapshot.specs.Snapshots.{SpellsEach}

none_some : {A B : Type 0} (x : A) → None ≡ Some x → B
none_some x e = absurd cc

-- the first, and then the rest
abbrev with_first : {X : Type 0} → Option X → Option (List X) → Option (List X)
with_first o rest = option_and_then (λ x. option_map (λ xs. x ∷ xs) rest) o

with_parts : {X : Type 0} (o : Option X) (rest : Option (List X)) (xs : List X) → with_first o rest ≡ Some xs → (x : X) × (ys : List X) × (o ≡ Some x) × (rest ≡ Some ys) × (xs ≡ x ∷ ys)
with_parts None rest xs whole = none_some xs whole
with_parts (Some x) None xs whole = none_some xs whole
with_parts (Some x) (Some ys) xs whole = (x, ys, refl, refl, (let same : x ∷ ys ≡ xs = cc in sym same))

with_is : {X : Type 0} (o : Option X) (rest : Option (List X)) (x : X) (ys : List X) → o ≡ Some x → rest ≡ Some ys → with_first o rest ≡ Some (x ∷ ys)
with_is o rest x ys found more = ap (λ p. with_first p rest) found ∙ ap (option_map (λ xs. x ∷ xs)) more

module _ {X : Type 0} (first : List ℕ → Option X) (len : List ℕ → ℕ) where
  -- behind the first
  left_of : (text : List ℕ) (n : ℕ) → drop n (drop (len text) text) ≡ drop (len text + n) text
  left_of text n = drop-drop n (len text) text

  -- one more, behind so many
  each_more : (n : ℕ) (text : List ℕ) (xs : List X) (x : X) → each_in first len n text ≡ Some xs → first (drop (each_len len n text) text) ≡ Some x → (each_in first len (suc n) text ≡ Some (xs ++ x ∷ [])) × (each_len len (suc n) text ≡ each_len len n text + len (drop (each_len len n text) text))
  each_more zero text xs x read found =
      let whole : Some [] ≡ Some xs = read in
      let none : [] ≡ xs = cc in (
        with_is (first text) (Some []) x [] found refl ∙ ap (λ (l : List X). Some (l ++ x ∷ [])) none,
        omega arith,
      )
  each_more (suc n) text xs x read found =
      let rest : List ℕ = drop (len text) text in
      let parts = with_parts (first text) (each_in first len n rest) xs read in
      let y : X = parts.0 in
      let ys : List X = parts.1 in
      let there : drop (each_len len n rest) rest ≡ drop (len text + each_len len n rest) text = left_of text (each_len len n rest) in
      let more = each_more n rest ys x parts.3 (ap first there ∙ found) in (
        with_is (first text) (each_in first len (suc n) rest) y (ys ++ x ∷ []) parts.2 more.0 ∙ ap (λ (l : List X). Some (l ++ x ∷ [])) (sym parts.4),
        ap (λ k. len text + k) more.1 ∙ omega (arith, ap len there),
      )

  -- of more that are read, the first are these, and the next one stands behind them
  each_next : (n count : ℕ) (text : List ℕ) (xs ys : List X) → n < count → each_in first len n text ≡ Some xs → each_in first len count text ≡ Some ys → (x : X) × (zs : List X) × (first (drop (each_len len n text) text) ≡ Some x) × (ys ≡ xs ++ x ∷ zs)
  each_next n zero text xs ys low read whole = absurd (omega (arith, low))
  each_next zero (suc count) text xs ys low read whole =
      let none_read : Some [] ≡ Some xs = read in
      let none : [] ≡ xs = cc in
      let parts = with_parts (first text) (each_in first len count (drop (len text) text)) ys whole in
      (parts.0, parts.1, parts.2, parts.4 ∙ ap (λ (l : List X). l ++ parts.0 ∷ parts.1) none)
  each_next (suc n) (suc count) text xs ys low read whole =
      let rest : List ℕ = drop (len text) text in
      let one = with_parts (first text) (each_in first len n rest) xs read in
      let all = with_parts (first text) (each_in first len count rest) ys whole in
      let next = each_next n count rest one.1 all.1 (omega (arith, low)) one.3 all.3 in
      let both : Some one.0 ≡ Some all.0 = sym one.2 ∙ all.2 in
      let same : one.0 ≡ all.0 = cc in (
        next.0,
        next.1,
        ap first (sym (left_of text (each_len len n rest))) ∙ next.2,
        all.4 ∙ ap (λ (x : X). x ∷ all.1) (sym same) ∙ ap (λ (l : List X). one.0 ∷ l) next.3 ∙ ap (λ (l : List X). l ++ next.0 ∷ next.1) (sym one.4),
      )

  -- ---- between two places

  pub read_none : (text : List ℕ) (from : ℕ) → from ≤ length text → ReadsEach first len text from 0 from []
  read_none text from within = record { read = refl; size = omega arith; within = within }

  module _ (text : List ℕ) (from n at : ℕ) (xs : List X) (has : ReadsEach first len text from n at xs) where
    -- what is left
    here : drop (each_len len n (drop from text)) (drop from text) ≡ drop at text
    here = drop-drop (each_len len n (drop from text)) from text ∙ ap (λ k. drop k text) (sym has.size)

    -- one more is read
    pub read_more : (x : X) (m : ℕ) → first (drop at text) ≡ Some x → m ≡ len (drop at text) → m ≤ length (drop at text) → ReadsEach first len text from (n + 1) (at + m) (xs ++ x ∷ [])
    read_more x m found size short =
        let more = each_more n (drop from text) xs x has.read (ap first here ∙ found) in record {
          read = ap (λ k. each_in first len k (drop from text)) (add-one n) ∙ more.0;
          size = omega (arith, ap (λ k. each_len len k (drop from text)) (add-one n), more.1, ap len here, size, has.size);
          within = (let all = length-drop at text in let within = has.within in omega (arith, short));
        }

    -- where more are read, one is read here
    pub read_next : (count : ℕ) (ys : List X) → n < count → each_in first len count (drop from text) ≡ Some ys → (x : X) × (zs : List X) × (first (drop at text) ≡ Some x) × (ys ≡ xs ++ x ∷ zs)
    read_next count ys low whole =
        let next = each_next n count (drop from text) xs ys low has.read whole in
        (next.0, next.1, ap first (sym here) ∙ next.2, next.3)

  -- ---- what is read is spelled, and what spells is read

  module _ (Spells : X → List ℕ → Type 0) (Extra : X → Type 0) (begins : (x : X) (text : List ℕ) → first text ≡ Some x → Extra x → BeginsBy (Spells x) (len text) text) where
    pub each_begins : (n : ℕ) (text : List ℕ) (xs : List X) → each_in first len n text ≡ Some xs → AllByRecursion Extra xs → BeginsBy (SpellsEach Spells xs) (each_len len n text) text × (length xs ≡ n)
    each_begins zero text xs read extra =
        let whole : Some [] ≡ Some xs = read in
        let none : [] ≡ xs = cc in (
          record { front = []; back = text; split = refl; spells = subst (λ (ys : List X). SpellsEach Spells ys []) none refl; size = refl },
          ap length (sym none),
        )
    each_begins (suc n) text xs read extra =
        let rest : List ℕ = drop (len text) text in
        let parts = with_parts (first text) (each_in first len n rest) xs read in
        let x : X = parts.0 in
        let ys : List X = parts.1 in
        let all = subst (AllByRecursion Extra) parts.4 extra in
        let one = begins x text parts.2 all.0 in
        let left : rest ≡ one.back = ap (drop (len text)) one.split ∙ drop_at one.front one.back (len text) one.size in
        let more = each_begins n rest ys parts.3 all.1 in (
          record {
            front = one.front ++ more.0.front;
            back = more.0.back;
            split = one.split ∙ ap (λ (l : List ℕ). one.front ++ l) (sym left ∙ more.0.split) ∙ sym (append_assoc one.front more.0.front more.0.back);
            spells = subst (λ (zs : List X). SpellsEach Spells zs (one.front ++ more.0.front)) (sym parts.4) (one.front, more.0.front, refl, one.spells, more.0.spells);
            size = length-append one.front more.0.front ∙ ap (λ m. m + length more.0.front) one.size ∙ ap (λ m. len text + m) more.0.size;
          },
          ap length parts.4 ∙ omega (arith, more.1),
        )

  module _ (Spells : X → List ℕ → Type 0) (reads : (x : X) (front back : List ℕ) → Spells x front → (first (front ++ back) ≡ Some x) × (len (front ++ back) ≡ length front)) where
    pub each_read : (xs : List X) (front back : List ℕ) → SpellsEach Spells xs front → (each_in first len (length xs) (front ++ back) ≡ Some xs) × (each_len len (length xs) (front ++ back) ≡ length front)
    each_read [] front back spells = (refl, ap length (sym spells))
    each_read (x ∷ xs) front back spells =
        let one : List ℕ = spells.0 in
        let more : List ℕ = spells.1 in
        let split : front ≡ one ++ more = spells.2 in
        let at : front ++ back ≡ one ++ (more ++ back) = ap (λ (l : List ℕ). l ++ back) split ∙ append_assoc one more back in
        let here = reads x one (more ++ back) spells.3 in
        let rest = each_read xs more back spells.4 in
        let left : drop (len (one ++ (more ++ back))) (one ++ (more ++ back)) ≡ more ++ back = drop_at one (more ++ back) (len (one ++ (more ++ back))) (sym here.1) in (
          ap (each_in first len (suc (length xs))) at
              ∙ ap (option_and_then (λ y. option_map (λ ys. y ∷ ys) (each_in first len (length xs) (drop (len (one ++ (more ++ back))) (one ++ (more ++ back)))))) here.0
              ∙ ap (λ (l : List ℕ). option_map (λ ys. x ∷ ys) (each_in first len (length xs) l)) left
              ∙ ap (option_map (λ ys. x ∷ ys)) rest.0,
          ap (each_len len (suc (length xs))) at
              ∙ ap (λ (l : List ℕ). len (one ++ (more ++ back)) + each_len len (length xs) l) left
              ∙ ap (λ m. m + each_len len (length xs) (more ++ back)) here.1
              ∙ ap (λ m. length one + m) rest.1
              ∙ sym (length-append one more)
              ∙ ap length (sym split),
        )

-- ---- one more is spelled

pub spells_join : {X : Type 0} (Spells : X → List ℕ → Type 0) (xs : List X) (x : X) (text line : List ℕ) → SpellsEach Spells xs text → Spells x line → SpellsEach Spells (xs ++ x ∷ []) (text ++ line)
spells_join Spells [] x text line spells one = (line, [], ap (λ (l : List ℕ). l ++ line) spells ∙ sym (append-nil line), one, refl)
spells_join Spells (y ∷ xs) x text line spells one =
    let front : List ℕ = spells.0 in
    let more : List ℕ = spells.1 in
    (front, more ++ line, ap (λ (l : List ℕ). l ++ line) spells.2 ∙ append_assoc front more line, spells.3, spells_join Spells xs x more line spells.4 one)
