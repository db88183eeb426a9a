-- What calls on a file in memory add to what a crash may leave.
use Rattle.std.proofs.Common.{◌≡◌, ◌⊎◌, inl, inr, ⊎_elim, ℕ, zero, suc, ◌+◌, ◌-◌, ◌<◌, ◌≤◌, max, List, [], ◌∷◌, ◌++◌, All, length, take, drop, refl, sym, ◌∙◌, ap, subst, arith, append_assoc, length-append, length-drop}
use Rattle.std.proofs.lemmas.List.{append-nil, drop-append-le, length-take-le, drop_all, drop_at, take_all, take_at}
use Rattle.std.proofs.Math.Seq.{drop-append-add}
use Rattle.std.proofs.lemmas.List.Elements.{All-append, All-contains, All-from_recursion, All-nil, Contains-append_cases, Contains-append_left, Contains-append_right, Contains-push, Contains-push_cases}
use Rattle.std.specs.List.{Contains}
use Rattle.kept_file.specs.Crashes.{ComesBy, GoesOn, Overwrites, TornCut, TornWrite}
use Rattle.kept_file.specs.Memory.{Adds, FileData, LeftSince, MayLeave}

-- what a file has is behind the contents that it can't leave any more
pub within_images : {X : Type 0} (xs : List X) (n : ℕ) (x : X) → Contains (drop n xs) x → n < length xs
within_images xs n x there = omega (arith, there.1, length-drop n xs)

left_more : {X : Type 0} (xs ys : List X) (n : ℕ) (x : X) → n ≤ length xs → Contains (drop n (xs ++ ys)) x
    → Contains (drop n xs) x ⊎ Contains ys x
left_more xs ys n x le there =
    Contains-append_cases (drop n xs) ys x (subst (λ zs. Contains zs x) (drop-append-le n xs ys le) there)

keeps_left : {X : Type 0} (xs ys : List X) (n : ℕ) (x : X) → n ≤ length xs → Contains (drop n xs) x
    → Contains (drop n (xs ++ ys)) x
keeps_left xs ys n x le there =
    subst (λ zs. Contains zs x) (sym (drop-append-le n xs ys le)) (Contains-append_left (drop n xs) ys x there)

adds_left : {X : Type 0} (xs ys : List X) (n : ℕ) (x : X) → n ≤ length xs → Contains ys x
    → Contains (drop n (xs ++ ys)) x
adds_left xs ys n x le there =
    subst (λ zs. Contains zs x) (sym (drop-append-le n xs ys le)) (Contains-append_right (drop n xs) ys x there)

-- the last content of all
pub left_last : {X : Type 0} (xs : List X) (n : ℕ) (x : X) → n ≤ length xs → Contains (drop n (xs ++ x ∷ [])) x
left_last xs n x le = adds_left xs (x ∷ []) n x le (Contains-push [] x)

pub adds_comes : (step : List ℕ → List ℕ → Type 0) (old new : FileData) → Contains (drop old.synced old.images) old.seen
    → ((c : List ℕ) → step c c) → Adds step old new → ComesBy step (MayLeave old) (MayLeave new)
adds_comes step old new seen stays adds c left =
    let le = within_images old.images old.synced old.seen seen in
    let there = subst (λ n. Contains (drop n (old.images ++ adds.more)) c) adds.synced
    (subst (λ zs. Contains (drop new.synced zs) c) adds.added left) in
    ⊎_elim (λ before. (c, before, stays c))
    (λ more. (old.seen, seen, All-contains (step old.seen) adds.more c adds.each more))
    (left_more old.images adds.more old.synced c (omega (arith, le)) there)

pub adds_time : (step : List ℕ → List ℕ → Type 0) (old new : FileData) → Contains (drop old.synced old.images) old.seen
    → Adds step old new → GoesOn old.synced new.synced (LeftSince old) (LeftSince new) (MayLeave new)
adds_time step old new seen adds =
    let le = within_images old.images old.synced old.seen seen in
    record {
      later = omega (arith, adds.synced);
      nothing_else = λ t c before since. ⊎_elim (λ past. inl past)
          (λ more. inr (subst (λ zs. Contains (drop new.synced zs) c) (sym adds.added)
          (adds_left old.images adds.more new.synced c (omega (arith, le, adds.synced)) more)))
          (left_more old.images adds.more t c (omega (arith, le, before))
          (subst (λ zs. Contains (drop t zs) c) adds.added since));
      keeps = λ t c before past. subst (λ zs. Contains (drop t zs) c) (sym adds.added)
          (keeps_left old.images adds.more t c (omega (arith, le, before)) past);
    }

pub stays_time : (old new : FileData) → new.images ≡ old.images → new.synced ≡ old.synced
    → GoesOn old.synced new.synced (LeftSince old) (LeftSince new) (MayLeave new)
stays_time old new images synced = record {
  later = omega (arith, synced);
  nothing_else = λ t c before since. inl (subst (λ zs. Contains (drop t zs) c) images since);
  keeps = λ t c before past. subst (λ zs. Contains (drop t zs) c) (sym images) past;
}

-- nothing is torn
pub torn_nothing : (at n : ℕ) (bytes : List ℕ) → TornWrite at n bytes bytes
torn_nothing at n bytes = record { before = refl; after = refl; no_shorter = omega arith; no_longer = omega arith }

pub cut_nothing : (len : ℕ) (bytes : List ℕ) → TornCut len bytes bytes
cut_nothing len bytes = record { no_shorter = omega arith; front = sym (take_all (length bytes) bytes (omega arith)) }

drop_twice : (m n k : ℕ) (xs : List ℕ) → k ≡ m + n → drop n (drop m xs) ≡ drop k xs
drop_twice zero n k xs is = let same : n ≡ k = omega (arith, is) in ap (λ i. drop i xs) same
drop_twice (suc m) n k [] is = drop_all n [] (omega arith) ∙ sym (drop_all k [] (omega arith))
drop_twice (suc m) n zero (x ∷ xs) is = absurd (omega (arith, is))
drop_twice (suc m) n (suc k) (x ∷ xs) is = drop_twice m n k xs (omega (arith, is))

module _ (at n : ℕ) (old bytes : List ℕ) (within : at ≤ length old) (few : length bytes ≤ n) where
  abbrev front : List ℕ
  front = take at old ++ bytes

  abbrev rest : List ℕ
  rest = drop (at + length bytes) old

  front_size : length front ≡ at + length bytes
  front_size = length-append (take at old) bytes ∙ ap (λ k. k + length bytes) (length-take-le at old within)

  size : length (front ++ rest) ≡ max (length old) (at + length bytes)
  size = omega (arith, length-append front rest, front_size, length-drop (at + length bytes) old)

  kept_before : take at (front ++ rest) ≡ take at old
  kept_before = ap (λ (l : List ℕ). take at l) (append_assoc (take at old) bytes rest)
      ∙ take_at (take at old) (bytes ++ rest) at (length-take-le at old within)

  kept_after : drop (at + n) (front ++ rest) ≡ drop (at + n) old
  kept_after =
      let k = n - length bytes in
      let there : at + n ≡ length front + k = omega (arith, front_size, few) in
      ap (λ m. drop m (front ++ rest)) there ∙ drop-append-add front rest k
      ∙ drop_twice (at + length bytes) k (at + n) old (omega (arith, few))

  -- what is written in the place of n bytes, or of fewer
  pub torn_written : (new : List ℕ) → Overwrites old at bytes new → TornWrite at n old new
  torn_written new over = record {
    before = ap (λ (l : List ℕ). take at l) over ∙ kept_before;
    after = ap (λ (l : List ℕ). drop (at + n) l) over ∙ kept_after;
    no_shorter = omega (arith, ap length over, size);
    no_longer = omega (arith, ap length over, size, few);
  }

-- what is cut to a length
pub torn_front : (len : ℕ) (old : List ℕ) → len ≤ length old → TornCut len old (take len old)
torn_front len old within =
    let size = length-take-le len old within in
    record { no_shorter = omega (arith, size); front = ap (λ n. take n old) (sym size) }

-- ---- contents that are added one after another

pub adds_none : (step : List ℕ → List ℕ → Type 0) (old new : FileData) → new ≡ old → Adds step old new
adds_none step old new same = record {
  more = [];
  added = ap (λ (f : FileData). f.images) same ∙ sym (append-nil old.images);
  each = All-nil (step old.seen);
  synced = ap (λ (f : FileData). f.synced) same;
}

pub adds_wider : (s t : List ℕ → List ℕ → Type 0) (old new : FileData) → ((c : List ℕ) → s old.seen c → t old.seen c)
    → Adds s old new → Adds t old new
adds_wider s t old new wider adds = record {
  more = adds.more;
  added = adds.added;
  each = λ k d lt. wider _ (adds.each k d lt);
  synced = adds.synced;
}

pub adds_on : (step : List ℕ → List ℕ → Type 0) (old mid new : FileData) → Adds step old mid → mid.seen ≡ old.seen
    → Adds step mid new → Adds step old new
adds_on step old mid new first same second = record {
  more = first.more ++ second.more;
  added = second.added ∙ ap (λ (l : List (List ℕ)). l ++ second.more) first.added ∙ append_assoc old.images first.more second.more;
  each = All-append (step old.seen) first.more second.more first.each (subst (λ s. All (step s) second.more) same second.each);
  synced = second.synced ∙ first.synced;
}

pub adds_push : (step : List ℕ → List ℕ → Type 0) (old new : FileData) (c : List ℕ) → step old.seen c
    → new ≡ record old { images = old.images ++ c ∷ [] } → Adds step old new
adds_push step old new c by is = record {
  more = c ∷ [];
  added = ap (λ (f : FileData). f.images) is;
  each = All-from_recursion (step old.seen) (c ∷ []) (by, tt);
  synced = ap (λ (f : FileData). f.synced) is;
}

-- the last of them may be left
pub left_push : (old new : FileData) (c : List ℕ) → Contains (drop old.synced old.images) old.seen
    → new ≡ record old { images = old.images ++ c ∷ [] } → MayLeave new c
left_push old new c seen is =
    subst (λ (f : FileData). MayLeave f c) (sym is)
    (left_last old.images old.synced c (omega (arith, within_images old.images old.synced old.seen seen)))

-- contents that a call adds between its count and its end
pub adds_through : (step : List ℕ → List ℕ → Type 0) (old begun torn new : FileData) → begun.images ≡ old.images
    → begun.seen ≡ old.seen → begun.synced ≡ old.synced → Adds step begun torn → new.images ≡ torn.images
    → new.synced ≡ torn.synced → Adds step old new
adds_through step old begun torn new images seen synced adds same still = record {
  more = adds.more;
  added = same ∙ adds.added ∙ ap (λ (l : List (List ℕ)). l ++ adds.more) images;
  each = subst (λ s. All (step s) adds.more) seen adds.each;
  synced = still ∙ adds.synced ∙ synced;
}

-- ---- what a sync leaves

module _ (old new : FileData) (images : new.images ≡ old.images ++ old.seen ∷ []) (synced : new.synced ≡ length old.images) where
  pub settled_only : (c : List ℕ) → MayLeave new c → c ≡ old.seen
  settled_only c left =
      let there : Contains (drop (length old.images) (old.images ++ old.seen ∷ [])) c =
      subst (λ n. Contains (drop n (old.images ++ old.seen ∷ [])) c) synced (subst (λ zs. Contains (drop new.synced zs) c) images left) in
      only_one old.seen c (subst (λ zs. Contains zs c) (drop_at old.images (old.seen ∷ []) (length old.images) refl) there)
    where
      only_one : (x c : List ℕ) → Contains (x ∷ []) c → c ≡ x
      only_one x c there = ⊎_elim (λ none. absurd (no_more none)) (λ is. sym is) (Contains-push_cases [] x c there)
        where
          no_more : Contains [] c → ⊥
          no_more none = omega (arith, none.1)

  pub settled_time : Contains (drop old.synced old.images) old.seen
      → GoesOn old.synced new.synced (LeftSince old) (LeftSince new) (MayLeave new)
  settled_time seen =
      let le = within_images old.images old.synced old.seen seen in
      record {
        later = omega (arith, le, synced);
        nothing_else = λ t c before since. ⊎_elim (λ past. inl past)
            (λ more. inr (subst (λ zs. Contains (drop new.synced zs) c) (sym images)
            (adds_left old.images (old.seen ∷ []) new.synced c (omega (arith, synced)) more)))
            (left_more old.images (old.seen ∷ []) t c (omega (arith, le, before))
            (subst (λ zs. Contains (drop t zs) c) images since));
        keeps = λ t c before past. subst (λ zs. Contains (drop t zs) c) (sym images)
            (keeps_left old.images (old.seen ∷ []) t c (omega (arith, le, before)) past);
      }

-- ---- a file that is new

only_one : {X : Type 0} (y x : X) → Contains (y ∷ []) x → x ≡ y
only_one y x (zero, within, is) = sym is
only_one y x (suc k, within, is) = absurd (omega (arith, within))

-- of one content a crash leaves that
pub fresh_leaves : (images : List (List ℕ)) (bytes c : List ℕ) → images ≡ bytes ∷ [] → Contains (drop 0 images) c → c ≡ bytes
fresh_leaves images bytes c is left = only_one bytes c (subst (λ l. Contains (drop 0 l) c) is left)
