-- Growth of a seat of a shared desk: the proofs that the desk brings for the laws of a desk.
use Rattle.std.proofs.Common.{◌≡◌, ℕ, suc, ◌+◌, List, [], ◌∷◌, ◌++◌, length, if◌then◌else◌, true}
use Rattle.std.proofs.Common.{false, refl, sym, ap, ◌∙◌, append_assoc, append-nil, length-append}
use Rattle.std.proofs.Common.{arith}
use Rattle.std.proofs.lemmas.List.{map-append, length-map}
use Rattle.turn_desk.specs.Entries.{Entry, Marked, all_entries}
use Rattle.turn_desk.specs.declared.view.View.{View}
use Rattle.turn_desk.specs.Shared.{own_places, Grows}

module _ {E R : Type 0} where
  own_places-append : (n : ℕ) (xs ys : List (Marked E R))
      → own_places n (xs ++ ys) ≡ own_places n xs ++ own_places (n + length xs) ys
  own_places-append n [] ys = ap (λ k. own_places k ys) (omega arith)
  own_places-append n (x ∷ xs) ys =
      let h = own_places-append (suc n) xs ys
      ∙ ap (λ k. own_places (suc n) xs ++ own_places k ys)
      (let e : suc n + length xs ≡ n + length (x ∷ xs) = omega arith in e) in
      elim x.own as (λ b. (if b then n ∷ own_places (suc n) (xs ++ ys) else own_places (suc n)
      (xs ++ ys))
      ≡ (if b then n ∷ own_places (suc n) xs else own_places (suc n) xs) ++ own_places (n + length
      (x ∷ xs)) ys)
      [ true ↦ ap (λ l. n ∷ l) h | false ↦ h ]

module _ {X E R : Type 0} where
  -- A seat that has seen no further entry has not changed.
  pub grows-nothing : (v : View X E R) → Grows v [] v
  grows-nothing v = record {
    seen = sym (append-nil v.seen);
    own = sym
        (append-nil v.own);
    opening = refl;
    share = refl;
    whole = refl;
  }

  places : {before between : View X E R} {more : List (Marked E R)} → Grows before more between
      → length between.seen ≡ length before.seen + length more
  places {before} {between} {more} g =
      ap length g.seen ∙ length-append before.seen (all_entries more)
      ∙ ap (λ k. length before.seen + k) (length-map more (λ (m : Marked E R). m.entry))

  -- A seat that has seen some entries more, and then others, has seen all of these more, in order.
  pub grows-on : (before between after : View X E R) (more later : List (Marked E R))
      → Grows before more between → Grows between later after → Grows before (more ++ later) after
  grows-on before between after more later g h = record {
    seen = h.seen ∙ ap (λ l. l ++ all_entries later) g.seen
        ∙ append_assoc before.seen (all_entries more) (all_entries later)
        ∙ ap (λ l. before.seen ++ l) (sym (map-append (λ (m : Marked E R). m.entry) more later));
    own = h.own ∙ ap (λ l. l ++ own_places (length between.seen) later) g.own
        ∙ append_assoc before.own (own_places (length before.seen) more) (own_places
        (length between.seen) later)
        ∙ ap (λ l. before.own ++ l) (ap (λ k. own_places
        (length before.seen) more ++ own_places k later) (places g)
        ∙ sym (own_places-append (length before.seen) more later));
    opening = h.opening ∙ g.opening;
    share = h.share ∙ g.share;
    whole = h.whole ∙ g.whole;
  }
