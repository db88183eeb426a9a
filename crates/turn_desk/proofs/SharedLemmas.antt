-- What the steps of a shared desk keep.
use Rattle.std.proofs.Common.{◌≡◌, ◌≢◌, ◌⊎◌, ℕ, zero, suc, ◌+◌, ◌*◌, ◌/◌, ◌^◌, ◌<◌, ◌≤◌, nat_eq, nat_lt, Bool, true, false, List, [], ◌∷◌, ◌++◌, length, map, set, slice_index, Option, Some, None, if◌then◌else◌, refl, sym, ap, ap₂, ◌∙◌, subst, inl, inr, ⊎_elim, append_assoc, append-nil, length-append, lt_of_lt_of_le, le_of_lt, not-le_of_lt, mul-pos, mul_assoc, mul_right_comm, mul_comm, add-mul, zero-mul, suc-mul, suc-ne-zero, lit<, lit≤, true≢false, ne_eqb, lt-ltb, arith}
use Rattle.std.proofs.Math.Nat.{mul-div_cancel_left}
use mathlib.Core.Option.{some, some-injective, some-ne-none}
use mathlib.Core.Logic.{dite}
use native.Mathlib.Decide.{dec_le, ℕ_discrete}
use prog.Atomic.{either}
use lib.ListN.{get_elem?}
use Rattle.std.proofs.lemmas.Grind.{common_steps}
use Rattle.atomic_table.specs.Table.{State, Me, Act, Allows, Splits, Joins, Final, Seen, Valid, carried_after, put_back, rest, stepped, opening as opening_state}
use Rattle.atomic_table.specs.Table.Act.{keeps, takes, gives}
use Rattle.atomic_table.proofs.Lists.{at_set, set_again, set_here, set_else, exchanged, at_snoc, at_longer}
use Rattle.turn_desk.specs.Entries.{Entry, Marked, Runs, as_own, as_others, all_entries}
use Rattle.turn_desk.specs.Joins.{Runs-append}
use Rattle.std.specs.declared.snapshot.Snapshot.{Snapshot}
use Rattle.turn_desk.specs.declared.view.View.{View}
use Rattle.turn_desk.specs.declared.view.Held.{Held}
use Rattle.turn_desk.specs.Shared.{Begins, AreInLine, longer, times, total, Fits, IsAtHome, IsTaken, AreApart, AreOwned, Weighed, AddUp, Kept, Leaves, newcomer, spent, halved, sibling, joined_view, with_ticket, with_entry, Draws, TakesTurn, Looks, Passes, TellsOneLog, HasObject, HasStepped, IsIdle, IsWaiting, IsServed, OwnsAll, AreJoined, SamePart, IsWhole, own_places, Grows}

-- ---- sums

module _ {A : Type 0} (f : A → ℕ) where
  pub total-set : (xs : List A) (i : ℕ) (x y : A) → get_elem? xs i ≡ some x → total f (set xs i y) + f x ≡ total f xs + f y
  total-set [] i x y e = absurd (some-ne-none x (sym e))
  total-set (a ∷ xs) zero x y e = let h : f a ≡ f x = ap f (some-injective a x e) in omega (arith, h)
  total-set (a ∷ xs) (suc i) x y e = let h = total-set xs i x y e in omega (arith, h)

  pub total-snoc : (xs : List A) (y : A) → total f (xs ++ y ∷ []) ≡ total f xs + f y
  total-snoc [] y = omega arith
  total-snoc (a ∷ xs) y = let h = total-snoc xs y in omega (arith, h)

  pub total-at : (xs : List A) (i : ℕ) (x : A) → get_elem? xs i ≡ some x → f x ≤ total f xs
  total-at [] i x e = absurd (some-ne-none x (sym e))
  total-at (a ∷ xs) zero x e = let h : f a ≡ f x = ap f (some-injective a x e) in omega (arith, h)
  total-at (a ∷ xs) (suc i) x e = let h = total-at xs i x e in omega (arith, h)

  -- where one has the whole sum, another has none of it
  pub total-rest : (xs : List A) (i j : ℕ) (x y : A) → get_elem? xs i ≡ some x → get_elem? xs j ≡ some y → i ≢ j → f x + f y ≤ total f xs
  total-rest [] i j x y e h n = absurd (some-ne-none x (sym e))
  total-rest (a ∷ xs) zero zero x y e h n = absurd (n refl)
  total-rest (a ∷ xs) zero (suc j) x y e h n = let p : f a ≡ f x = ap f (some-injective a x e) in let q = total-at xs j y h in omega (arith, p, q)
  total-rest (a ∷ xs) (suc i) zero x y e h n = let p : f a ≡ f y = ap f (some-injective a y h) in let q = total-at xs i x e in omega (arith, p, q)
  total-rest (a ∷ xs) (suc i) (suc j) x y e h n = let q = total-rest xs i j x y e h (λ m. n (ap suc m)) in omega (arith, q)

  total-none : (xs : List A) → ((j : ℕ) (y : A) → get_elem? xs j ≡ some y → f y ≡ 0) → total f xs ≡ 0
  total-none [] h = refl
  total-none (a ∷ xs) h =
      let z = h zero a refl in let t = total-none xs (λ j y e. h (suc j) y e) in omega (arith, z, t)

  -- where all others have nothing, one has the whole sum
  pub total-alone : (xs : List A) (i : ℕ) (x : A) → get_elem? xs i ≡ some x
      → ((j : ℕ) (y : A) → get_elem? xs j ≡ some y → j ≢ i → f y ≡ 0) → total f xs ≡ f x
  total-alone [] i x e h = absurd (some-ne-none x (sym e))
  total-alone (a ∷ xs) zero x e h =
      let p : f a ≡ f x = ap f (some-injective a x e) in
      let z : total f xs ≡ 0 = total-none xs (λ j y ej. h (suc j) y ej (λ q. suc-ne-zero j q)) in
      omega (arith, p, z)
  total-alone (a ∷ xs) (suc i) x e h =
      let z : f a ≡ 0 = h zero a refl (λ q. suc-ne-zero i (sym q)) in
      let t = total-alone xs i x e (λ j y ej ne. h (suc j) y ej (λ q. ne (let r : j ≡ i = omega (arith, q) in r))) in
      omega (arith, z, t)

pub times-append : (k : ℕ) (xs ys : List ℕ) → times k (xs ++ ys) ≡ times k xs + times k ys
times-append k [] ys = omega arith
times-append k (x ∷ xs) ys = let h = times-append k xs ys in omega (arith, h)

-- ---- lists that begin a list

module _ {A : Type 0} where
  pub begins-more : (log seen more : List A) → Begins log seen → Begins (log ++ more) seen
  begins-more log seen more b = (b.0 ++ more, ap (λ l. l ++ more) b.1 ∙ append_assoc seen b.0 more)

  -- two that begin one list are in line
  line : (xs ys m n : List A) → xs ++ m ≡ ys ++ n → AreInLine xs ys
  line [] ys m n e = inr (ys, refl)
  line (x ∷ xs) [] m n e = inl (x ∷ xs, refl)
  line (x ∷ xs) (y ∷ ys) m n e =
      let h : x ≡ y = cc in
      let t : xs ++ m ≡ ys ++ n = cc in
      ⊎_elim (λ p. inl (p.0, λ i. h i ∷ p.1 i)) (λ p. inr (p.0, λ i. sym h i ∷ p.1 i)) (line xs ys m n t)

  pub begins-line : (log xs ys : List A) → Begins log xs → Begins log ys → AreInLine xs ys
  begins-line log xs ys p q = line xs ys p.0 q.0 (sym p.1 ∙ q.1)

  pub begins-longer : (log xs ys : List A) → Begins log xs → Begins log ys → Begins log (longer xs ys)
  begins-longer log xs ys p q =
      elim (nat_lt (length xs) (length ys)) as (λ b. Begins log (if b then ys else xs)) [ true ↦ q | false ↦ p ]

  pub longer-left : (xs ys : List A) → length xs ≤ length (longer xs ys)
  longer-left xs ys = grind (arith, common_steps)

  pub longer-right : (xs ys : List A) → length ys ≤ length (longer xs ys)
  longer-right xs ys = grind (arith, common_steps)

  pub set-there : (xs : List A) (i : ℕ) (x y : A) → get_elem? xs i ≡ some x → get_elem? (set xs i y) i ≡ some y
  set-there [] i x y e = absurd (some-ne-none x (sym e))
  set-there (a ∷ xs) zero x y e = refl
  set-there (a ∷ xs) (suc i) x y e = set-there xs i x y e

pub set-index : (xs : List ℕ) (i : ℕ) → set xs i (slice_index xs i) ≡ xs
set-index [] i = refl
set-index (x ∷ xs) zero = refl
set-index (x ∷ xs) (suc i) = ap (λ l. x ∷ l) (set-index xs i)

-- ---- parts

module _ {X E R : Type 0} where
  -- the seat's part stays
  weighed-keep : (number : ℕ) (views : List (View X E R)) (weights : List ℕ) (id : ℕ) (v w : View X E R)
      → get_elem? views id ≡ some v → w.share ≡ v.share → w.whole ≡ v.whole
      → Weighed number views weights → Weighed number (set views id w) weights
  weighed-keep number [] weights id v w e p q h = h
  weighed-keep number (u ∷ views) [] id v w e p q h = absurd h
  weighed-keep number (u ∷ views) (n ∷ ns) zero v w e p q h =
      let same : u ≡ v = some-injective u v e in
      (ap (λ a. a * number) (p ∙ sym (ap (λ (x : View X E R). x.share) same)) ∙ h.0 ∙ ap (λ a. n * a) (ap (λ (x : View X E R). x.whole) same ∙ sym q), h.1)
  weighed-keep number (u ∷ views) (n ∷ ns) (suc id) v w e p q h =
      (h.0, weighed-keep number views ns id v w e p q h.1)

  pub parts-keep : (views : List (View X E R)) (id : ℕ) (v w : View X E R)
      → get_elem? views id ≡ some v → w.share ≡ v.share → w.whole ≡ v.whole → AddUp views → AddUp (set views id w)
  parts-keep views id v w e p q a = record {
    weights = a.weights;
    number = a.number;
    positive = a.positive;
    all = a.all;
    weighed = weighed-keep a.number views a.weights id v w e p q a.weighed;
  }

  -- a place is as often own as it was
  pub owned-keep : (served : ℕ) (views : List (View X E R)) (id : ℕ) (v w : View X E R)
      → get_elem? views id ≡ some v → w.own ≡ v.own → AreOwned served views → AreOwned served (set views id w)
  owned-keep served views id v w e p a k =
      let f : View X E R → ℕ = λ u. times k u.own in
      let q : f w ≡ f v = ap (times k) p in
      let t = total-set f views id v w e in
      let o = a k in
      let r : total f (set views id w) ≡ total f views = omega (arith, q, t) in
      r ∙ o

  -- tickets stay
  pub apart-keep : (views : List (View X E R)) (id : ℕ) (v w : View X E R)
      → get_elem? views id ≡ some v → w.ticket ≡ v.ticket → AreApart views → AreApart (set views id w)
  apart-keep views id v w e p a i j t x y ex ey tx ty =
      ⊎_elim
      (λ l. ⊎_elim
      (λ m. l.0 ∙ sym m.0)
      (λ m. a i j t v y (ap (get_elem? views) l.0 ∙ e) m.1 (sym p ∙ ap (λ (u : View X E R). u.ticket) l.1 ∙ tx) ty)
      (at_set views id j w y ey))
      (λ l. ⊎_elim
      (λ m. a i j t x v l.1 (ap (get_elem? views) m.0 ∙ e) tx (sym p ∙ ap (λ (u : View X E R). u.ticket) m.1 ∙ ty))
      (λ m. a i j t x y l.1 m.1 tx ty)
      (at_set views id j w y ey))
      (at_set views id i w x ex)

  -- who takes a turn still does, where it isn't this seat
  pub taken-keep : (views : List (View X E R)) (id : ℕ) (v w : View X E R)
      → get_elem? views id ≡ some v → v.turn ≡ false → IsTaken views → IsTaken (set views id w)
  taken-keep views id v w e p t =
      dite (ℕ_discrete t.0 id)
      (λ same. let it : some t.1 ≡ some v = sym t.2 ∙ ap (get_elem? views) same ∙ e in
      let is : t.1 ≡ v = some-injective t.1 v it in
      let no : true ≡ false = sym t.3 ∙ ap (λ (u : View X E R). u.turn) is ∙ p in cc)
      (λ other. (t.0, t.1, set_else views id t.0 w other ∙ t.2, t.3))

  -- the number of shares of a seat
  pub weighed-at : (number : ℕ) (views : List (View X E R)) (weights : List ℕ) (id : ℕ) (v : View X E R)
      → get_elem? views id ≡ some v → Weighed number views weights
      → (n : ℕ) × (get_elem? weights id ≡ some n) × (v.share * number ≡ n * v.whole)
  weighed-at number [] weights id v e h = absurd (some-ne-none v (sym e))
  weighed-at number (u ∷ views) [] id v e h = absurd h
  weighed-at number (u ∷ views) (n ∷ ns) zero v e h =
      (n, refl, subst (λ (x : View X E R). x.share * number ≡ n * x.whole) (some-injective u v e) h.0)
  weighed-at number (u ∷ views) (n ∷ ns) (suc id) v e h = weighed-at number views ns id v e h.1

  -- another seat with its shares in its place
  pub weighed-set : (number : ℕ) (views : List (View X E R)) (weights : List ℕ) (id m : ℕ) (w : View X E R)
      → w.share * number ≡ m * w.whole → Weighed number views weights → Weighed number (set views id w) (set weights id m)
  weighed-set number [] [] id m w q h = h
  weighed-set number [] (n ∷ ns) id m w q h = absurd h
  weighed-set number (u ∷ views) [] id m w q h = absurd h
  weighed-set number (u ∷ views) (n ∷ ns) zero m w q h = (q, h.1)
  weighed-set number (u ∷ views) (n ∷ ns) (suc id) m w q h = (h.0, weighed-set number views ns id m w q h.1)

  pub weighed-snoc : (number : ℕ) (views : List (View X E R)) (weights : List ℕ) (m : ℕ) (w : View X E R)
      → w.share * number ≡ m * w.whole → Weighed number views weights → Weighed number (views ++ w ∷ []) (weights ++ m ∷ [])
  weighed-snoc number [] [] m w q h = (q, tt)
  weighed-snoc number [] (n ∷ ns) m w q h = absurd h
  weighed-snoc number (u ∷ views) [] m w q h = absurd h
  weighed-snoc number (u ∷ views) (n ∷ ns) m w q h = (h.0, weighed-snoc number views ns m w q h.1)

  -- shares of half the size, twice as many
  pub weighed-double : (number : ℕ) (views : List (View X E R)) (weights : List ℕ)
      → Weighed number views weights → Weighed (number * 2) views (map (λ n. n * 2) weights)
  weighed-double number [] [] h = h
  weighed-double number [] (n ∷ ns) h = absurd h
  weighed-double number (u ∷ views) [] h = absurd h
  weighed-double number (u ∷ views) (n ∷ ns) h =
      let q = h.0 in (grind (arith, q), weighed-double number views ns h.1)

-- two fractions with the denominators c and d, added up
cross : (a b c d number n m : ℕ) → a * number ≡ n * c → b * number ≡ m * d → (a * d + b * c) * number ≡ (n + m) * (c * d)
cross a b c d number n m h g =
    let p : a * d * number ≡ n * (c * d) = mul_right_comm a d number ∙ ap (λ x. x * d) h ∙ mul_assoc n c d in
    let q : b * c * number ≡ m * (c * d) =
    mul_right_comm b c number ∙ ap (λ x. x * c) g ∙ mul_assoc m d c ∙ ap (λ x. m * x) (mul_comm d c) in
    add-mul (a * d) (b * c) number ∙ ap (λ x. x + b * c * number) p ∙ ap (λ x. n * (c * d) + x) q ∙ sym (add-mul n m (c * d))

pub total-double : (xs : List ℕ) → total (λ n. n) (map (λ n. n * 2) xs) ≡ total (λ n. n) xs * 2
total-double [] = refl
total-double (x ∷ xs) = let h = total-double xs in omega (arith, h)

pub at-double : (xs : List ℕ) (i n : ℕ) → get_elem? xs i ≡ some n → get_elem? (map (λ m. m * 2) xs) i ≡ some (n * 2)
at-double [] i n e = absurd (some-ne-none n (sym e))
at-double (x ∷ xs) zero n e = ap (λ m. some (m * 2)) (some-injective x n e)
at-double (x ∷ xs) (suc i) n e = at-double xs i n e

module _ {X E R : Type 0} where
  pub parts-split : (views : List (View X E R)) (id : ℕ) (v : View X E R)
      → get_elem? views id ≡ some v → AddUp views → AddUp (set views id (halved v) ++ sibling v ∷ [])
  parts-split views id v e a =
      let n = weighed-at a.number views a.weights id v e a.weighed in
      let twice : List ℕ = map (λ m. m * 2) a.weights in
      let q : v.share * (a.number * 2) ≡ n.0 * (v.whole * 2) = (let h = n.2 in grind (arith, h)) in
      let t = total-set (λ m. m) twice id (n.0 * 2) n.0 (at-double a.weights id n.0 n.1) in
      let d = total-double a.weights in
      let l = total-snoc (λ m. m) (set twice id n.0) n.0 in
      let w = a.all in
      let p = a.positive in
      record {
        weights = set twice id n.0 ++ n.0 ∷ [];
        number = a.number * 2;
        positive = omega (arith, p);
        all = omega (arith, t, d, l, w);
        weighed = weighed-snoc (a.number * 2) (set views id (halved v)) (set twice id n.0) n.0 (sibling v) q
            (weighed-set (a.number * 2) views twice id n.0 (halved v) q (weighed-double a.number views a.weights a.weighed));
      }

  pub parts-join : (views : List (View X E R)) (id other : ℕ) (v w : View X E R)
      → get_elem? views id ≡ some v → other ≢ id → get_elem? views other ≡ some w
      → AddUp views → AddUp (set (set views id (joined_view v w)) other spent)
  parts-join views id other v w e ne f a =
      let n = weighed-at a.number views a.weights id v e a.weighed in
      let m = weighed-at a.number views a.weights other w f a.weighed in
      let both : ℕ = n.0 + m.0 in
      let q : (v.share * w.whole + w.share * v.whole) * a.number ≡ both * (v.whole * w.whole) =
      cross v.share w.share v.whole w.whole a.number n.0 m.0 n.2 m.2 in
      let once : List ℕ = set a.weights id both in
      let t = total-set (λ x. x) a.weights id n.0 both n.1 in
      let u = total-set (λ x. x) once other m.0 0 (set_else a.weights id other both ne ∙ m.1) in
      let l = a.all in
      record {
        weights = set once other 0;
        number = a.number;
        positive = a.positive;
        all = omega (arith, t, u, l);
        weighed = weighed-set a.number (set views id (joined_view v w)) once other 0 spent (zero-mul a.number)
            (weighed-set a.number views a.weights id both (joined_view v w) q a.weighed);
      }

-- a product with a positive number that is nothing
none_of : (a b c : ℕ) → 0 < b → a * b + c ≡ 0 → a ≡ 0
none_of zero b c h e = refl
none_of (suc a) b c h e = let m : suc a * b ≡ a * b + b = suc-mul a b in absurd (omega (arith, h, e, m))

-- ---- runs

-- what begins a run is a run
pub leaves-front : {X E R : Type 0} (step : ℕ → E → X → R → X → Type 0) (o : X) (xs more : List (Entry E R)) (object : X)
    → Leaves step o (xs ++ more) object → (between : X) × Leaves step o xs between
leaves-front step o [] more object r = (o, refl)
leaves-front step o (e ∷ es) more object r =
    let t = leaves-front step r.0 es more object r.2 in (t.0, (r.0, r.1, t.1))

-- a run and one step more
pub leaves-one : {X E R : Type 0} (step : ℕ → E → X → R → X → Type 0) (o between after : X) (xs : List (Entry E R)) (e : Entry E R)
    → Leaves step o xs between → step e.reading e.event between e.outcome after → Leaves step o (xs ++ e ∷ []) after
leaves-one step o between after xs e r h =
    Runs-append step xs (e ∷ []) o between after r (after, h, refl)

-- ---- the steps

module _ {X E R : Type 0} (step : ℕ → E → X → R → X → Type 0) (opening : X) where
  -- a load changes nothing
  kept-same : (s : State (Held X E R) (View X E R)) (i id : ℕ) (me : Me (Held X E R) (View X E R))
      → get_elem? s.views id ≡ some me.0 → Kept step opening s
      → Kept step opening (stepped s i (slice_index s.words i) id me.1 me.0 keeps)
  kept-same s i id me at k =
      subst (Kept step opening)
      (λ j. record { words = sym (set-index s.words i) j; homes = s.homes; views = sym (set_again s.views id me.0 at) j })
      k

  -- a view that fits goes on to fit while tickets are drawn
  fits-later : (log : List (Entry E R)) (next more : ℕ) (v : View X E R) → next ≤ more → Fits opening log next v → Fits opening log more v
  fits-later log next more v le f = record {
    opened = f.opened;
    spent = f.spent;
    seen = f.seen;
    left = f.left;
    right = f.right;
    placed = f.placed;
    drawn = λ t e. ((f.drawn t e).0, lt_of_lt_of_le (f.drawn t e).1 le);
    turned = f.turned;
    whole = f.whole;
  }

  -- a ticket that nobody has yet
  apart-draw : (views : List (View X E R)) (id t : ℕ) (w : View X E R) → w.ticket ≡ Some t
      → ((j u : ℕ) (v : View X E R) → get_elem? views j ≡ some v → v.ticket ≡ Some u → u < t)
      → AreApart views → AreApart (set views id w)
  apart-draw views id t w p new a i j u x y ex ey tx ty =
      ⊎_elim
      (λ l. ⊎_elim
      (λ m. l.0 ∙ sym m.0)
      (λ m. let q : Some t ≡ Some u = sym p ∙ ap (λ (z : View X E R). z.ticket) l.1 ∙ tx in
      let h : t ≡ u = cc in let g = new j u y m.1 ty in absurd (omega (arith, g, h)))
      (at_set views id j w y ey))
      (λ l. ⊎_elim
      (λ m. let q : Some t ≡ Some u = sym p ∙ ap (λ (z : View X E R). z.ticket) m.1 ∙ ty in
      let h : t ≡ u = cc in let g = new i u x l.1 tx in absurd (omega (arith, g, h)))
      (λ m. a i j u x y l.1 m.1 tx ty)
      (at_set views id j w y ey))
      (at_set views id i w x ex)

  kept-draw : (s : State (Held X E R) (View X E R)) (id t : ℕ) (me : Me (Held X E R) (View X E R))
      → me.0.turn ≡ false → t + 1 < 2 ^ 64 → get_elem? s.views id ≡ some me.0 → slice_index s.words 0 ≡ t
      → Kept step opening s → Kept step opening (stepped s 0 (t + 1) id me.1 (with_ticket t me.0) keeps)
  kept-draw s id t me idle small at e k =
      let w : View X E R = with_ticket t me.0 in
      let nx : k.next ≡ t = sym (ap (λ ws. slice_index ws 0) k.words) ∙ e in
      let sv = k.served in
      let f = k.fit id me.0 at in
      record {
        log = k.log;
        next = t + 1;
        object = k.object;
        words = ap (λ ws. set ws 0 (t + 1)) k.words;
        served = omega (arith, sv, nx);
        small = small;
        leaves = k.leaves;
        place = ⊎_elim (λ p. inl p) (λ p. inr (taken-keep s.views id me.0 w at idle p)) k.place;
        fit = λ j v ej. ⊎_elim
            (λ l. subst (Fits opening k.log (t + 1)) l.1 (record {
              opened = f.opened;
              spent = f.spent;
              seen = f.seen;
              left = f.left;
              right = f.right;
              placed = f.placed;
              drawn = λ u tu. let h : t ≡ u = cc in (omega (arith, sv, nx, h), omega (arith, h));
              turned = λ tr. absurd (true≢false (sym tr ∙ idle));
              whole = f.whole;
            }))
            (λ l. fits-later k.log k.next (t + 1) v (omega (arith, nx)) (k.fit j v l.1))
            (at_set s.views id j w v ej);
        apart = apart-draw s.views id t w refl
            (λ j u v ej tu. let h = ((k.fit j v ej).drawn u tu).1 in omega (arith, h, nx)) k.apart;
        owned = owned-keep (length k.log) s.views id me.0 w at refl k.owned;
        parts = parts-keep s.views id me.0 w at refl refl k.parts;
      }

  pub draws : (slots id t : ℕ) (me : Me (Held X E R) (View X E R)) → me.0.turn ≡ false → t + 1 < 2 ^ 64
      → Allows (Kept step opening) slots id me 0 (λ n. either (nat_eq n t) (t + 1) n) (Draws t me)
  draws slots id t me idle small s k ls at range =
      exchanged (slice_index s.words 0) t (t + 1)
      (λ m. (w : View X E R) × (a : Act (Held X E R)) × Valid s.homes me.1 a × Kept step opening (stepped s 0 m id me.1 w a)
      × Draws t me (slice_index s.words 0) (w, carried_after me.1 a))
      (λ e. (with_ticket t me.0, keeps, tt, kept-draw s id t me idle small at e k, ((λ _. refl), (λ ne. absurd (ne e)))))
      (λ ne. (me.0, keeps, tt, kept-same s 0 id me at k, ((λ e. absurd (ne e)), (λ _. refl))))

  -- ---- looking

  kept-take : (s : State (Held X E R) (View X E R)) (id t : ℕ) (me : Me (Held X E R) (View X E R)) (held : Held X E R)
      → me.0.ticket ≡ Some t → me.0.share ≢ 0 → get_elem? s.views id ≡ some me.0 → t ≡ slice_index s.words 1
      → (k : Kept step opening s) → (more : List (Entry E R)) → k.log ≡ me.0.seen ++ more
      → Kept step opening (stepped s 1 (slice_index s.words 1) id me.1 (record me.0 { seen = me.0.seen ++ more; turn = true }) (takes 0 held))
  kept-take s id t me held tk part at e k more split =
      let w : View X E R = record me.0 { seen = me.0.seen ++ more; turn = true } in
      let sv : t ≡ length k.log = e ∙ ap (λ ws. slice_index ws 1) k.words in
      let f = k.fit id me.0 at in
      record {
        log = k.log;
        next = k.next;
        object = k.object;
        words = set-index s.words 1 ∙ k.words;
        served = k.served;
        small = k.small;
        leaves = k.leaves;
        place = inr (id, w, set-there s.views id me.0 w at, refl);
        fit = λ j v ej. ⊎_elim
            (λ l. subst (Fits opening k.log k.next) l.1 (record {
              opened = f.opened;
              spent = λ z. absurd (part z);
              seen = ([], split ∙ sym (append-nil (me.0.seen ++ more)));
              left = f.left;
              right = f.right;
              placed = λ p ne. let h = f.placed p ne in let g = length-append me.0.seen more in omega (arith, h, g);
              drawn = f.drawn;
              turned = λ _. (tk ∙ ap Some sv, sym split);
              whole = f.whole;
            }))
            (λ l. k.fit j v l.1)
            (at_set s.views id j w v ej);
        apart = apart-keep s.views id me.0 w at refl k.apart;
        owned = owned-keep (length k.log) s.views id me.0 w at refl k.owned;
        parts = parts-keep s.views id me.0 w at refl refl k.parts;
      }

  pub looks : (slots id t : ℕ) (me : Me (Held X E R) (View X E R))
      → me.0.ticket ≡ Some t → me.0.turn ≡ false → me.0.share ≢ 0 → me.1 ≡ []
      → Allows (Kept step opening) slots id me 1 (λ n. n) (Looks step me)
  looks slots id t me tk idle part empty s k ls at range =
      let n : ℕ = slice_index s.words 1 in
      let f = k.fit id me.0 at in
      dite (ℕ_discrete t n)
      (λ e. ⊎_elim
      (λ home. (
        record me.0 { seen = me.0.seen ++ f.seen.0; turn = true },
        takes 0 home.0,
        home.1,
        kept-take s id t me home.0 tk part at e k f.seen.0 f.seen.1,
        (
          (λ _. record {
            others = f.seen.0;
            held = home.0;
            object = k.object;
            view = refl;
            hand = ap (λ l. (0, home.0) ∷ l) empty;
            there = home.2;
            leaves = λ o po. let q : Some opening ≡ Some o = sym (f.opened part) ∙ po in let h : opening ≡ o = cc in
                subst (λ (x : X). Leaves step x (me.0.seen ++ f.seen.0) k.object) h
                (subst (λ l. Leaves step opening l k.object) f.seen.1 k.leaves);
          }),
          (λ ne. absurd (ne (tk ∙ ap Some e))),
        ),
      ))
      (λ taken.
      let g = (k.fit taken.0 taken.1 taken.2).turned taken.3 in
      let sv : t ≡ length k.log = e ∙ ap (λ ws. slice_index ws 1) k.words in
      let same : taken.0 ≡ id = k.apart taken.0 id (length k.log) taken.1 me.0 taken.2 at g.0 (tk ∙ ap Some sv) in
      let is : taken.1 ≡ me.0 = some-injective taken.1 me.0 (sym taken.2 ∙ ap (get_elem? s.views) same ∙ at) in
      absurd (true≢false (sym taken.3 ∙ ap (λ (u : View X E R). u.turn) is ∙ idle)))
      k.place)
      (λ ne. (
        me.0,
        keeps,
        tt,
        kept-same s 1 id me at k,
        ((λ p. let q : Some t ≡ Some n = sym tk ∙ p in let h : t ≡ n = cc in absurd (ne h)), (λ _. refl)),
      ))

  -- ---- passing on

  -- no ticket any more
  apart-none : (views : List (View X E R)) (id : ℕ) (w : View X E R) → w.ticket ≡ None → AreApart views → AreApart (set views id w)
  apart-none views id w p a i j u x y ex ey tx ty =
      ⊎_elim
      (λ l. let q : None ≡ Some u = sym p ∙ ap (λ (z : View X E R). z.ticket) l.1 ∙ tx in cc)
      (λ l. ⊎_elim
      (λ m. let q : None ≡ Some u = sym p ∙ ap (λ (z : View X E R). z.ticket) m.1 ∙ ty in cc)
      (λ m. a i j u x y l.1 m.1 tx ty)
      (at_set views id j w y ey))
      (at_set views id i w x ex)

  -- one place more is own
  one_more : (k n : ℕ) → (if nat_lt k n then 1 else 0) + (if nat_eq n k then 1 else 0) ≡ (if nat_lt k (n + 1) then 1 else 0)
  one_more k n = grind (arith, common_steps)

  own-one : (k n : ℕ) (places : List ℕ) → times k (places ++ n ∷ []) ≡ times k places + (if nat_eq n k then 1 else 0)
  own-one k n places = let h = times-append k places (n ∷ []) in omega (arith, h)

  owned-pass : (served : ℕ) (views : List (View X E R)) (id : ℕ) (v w : View X E R)
      → get_elem? views id ≡ some v → w.own ≡ v.own ++ served ∷ [] → AreOwned served views → AreOwned (served + 1) (set views id w)
  owned-pass served views id v w e p a k =
      let f : View X E R → ℕ = λ u. times k u.own in
      let q : f w ≡ f v + (if nat_eq served k then 1 else 0) = ap (times k) p ∙ own-one k served v.own in
      let t = total-set f views id v w e in
      let o = a k in
      let r : total f (set views id w) ≡ (if nat_lt k served then 1 else 0) + (if nat_eq served k then 1 else 0) = omega (arith, q, t, o) in
      r ∙ one_more k served

  not_own : (k n : ℕ) → n ≢ k → times k (n ∷ []) ≡ 0
  not_own k n ne = ap (λ b. (if b then 1 else 0) + 0) (ne_eqb n k ne)

  placed-one : (k n : ℕ) (places : List ℕ) → ((p : ℕ) → times p places ≢ 0 → p < n) → times k (places ++ n ∷ []) ≢ 0 → k < n + 1
  placed-one k n places below ne =
      dite (dec_le k n)
      (λ le. omega (arith, le))
      (λ gt. let no_more : n ≢ k = λ e. gt (omega (arith, e)) in
      let z : times k places ≡ 0 = dite (ℕ_discrete (times k places) 0) (λ z. z) (λ nz. let b = below k nz in absurd (gt (omega (arith, b)))) in
      let o = times-append k places (n ∷ []) in
      let l = not_own k n no_more in
      absurd (ne (omega (arith, z, o, l))))

  kept-pass : (s : State (Held X E R) (View X E R)) (id t : ℕ) (me : Me (Held X E R) (View X E R)) (held : Held X E R) (e : Entry E R) (object : X)
      → me.0.turn ≡ true → me.0.ticket ≡ Some t → me.0.share ≢ 0 → me.1 ≡ (0, held) ∷ [] → held.object ≡ Some object
      → ((o : X) → me.0.opening ≡ Some o → Leaves step o (me.0.seen ++ e ∷ []) object)
      → 0 < length s.homes → get_elem? s.views id ≡ some me.0
      → Kept step opening s → Kept step opening (stepped s 1 (t + 1) id me.1 (with_entry e me.0) gives)
  kept-pass s id t me held e object turn tk part hand there leaves room at k =
      let w : View X E R = with_entry e me.0 in
      let f = k.fit id me.0 at in
      let tn = f.turned turn in
      let q : Some t ≡ Some (length k.log) = sym tk ∙ tn.0 in
      let tl : t ≡ length k.log = cc in
      let one : length (k.log ++ e ∷ []) ≡ length k.log + 1 = length-append k.log (e ∷ []) in
      let nx = (f.drawn t tk).1 in
      let alone : (j : ℕ) (v : View X E R) → get_elem? s.views j ≡ some v → v.ticket ≡ Some (length k.log) → j ≡ id =
      λ j v ej tj. k.apart j id (length k.log) v me.0 ej at tj tn.0 in
      record {
        log = k.log ++ e ∷ [];
        next = k.next;
        object = object;
        words = ap (λ ws. set ws 1 (t + 1)) k.words ∙ ap (λ n. k.next ∷ n ∷ []) (ap (λ n. n + 1) tl ∙ sym one);
        served = omega (arith, one, nx, tl);
        small = k.small;
        leaves = subst (λ l. Leaves step opening (l ++ e ∷ []) object) tn.1 (leaves opening (f.opened part));
        place = inl (held, ap (λ c. get_elem? (put_back s.homes c) 0) hand ∙ set_here s.homes 0 (some held) room, there);
        fit = λ j v ej. ⊎_elim
            (λ l. subst (Fits opening (k.log ++ e ∷ []) k.next) l.1 (record {
              opened = f.opened;
              spent = λ z. absurd (part z);
              seen = ([], ap (λ l. l ++ e ∷ []) (sym tn.1) ∙ sym (append-nil (me.0.seen ++ e ∷ [])));
              left = begins-more k.log me.0.left (e ∷ []) f.left;
              right = begins-more k.log me.0.right (e ∷ []) f.right;
              placed = λ p ne. let h = placed-one p (length me.0.seen) me.0.own f.placed ne in
                  let g = length-append me.0.seen (e ∷ []) in omega (arith, h, g);
              drawn = λ u tu. cc;
              turned = λ tr. cc;
              whole = f.whole;
            }))
            (λ l. let g = k.fit j v l.1 in record {
              opened = g.opened;
              spent = g.spent;
              seen = begins-more k.log v.seen (e ∷ []) g.seen;
              left = begins-more k.log v.left (e ∷ []) g.left;
              right = begins-more k.log v.right (e ∷ []) g.right;
              placed = g.placed;
              drawn = λ u tu. let d = g.drawn u tu in let a = d.0 in
                  let other : length k.log ≢ u = λ same. l.0 (alone j v l.1 (tu ∙ ap Some (sym same))) in
                  (dite (dec_le (length k.log + 1) u) (λ y. omega (arith, y, one)) (λ n. absurd (other (omega (arith, n, a)))), d.1);
              turned = λ tr. absurd (l.0 (alone j v l.1 (g.turned tr).0));
              whole = g.whole;
            })
            (at_set s.views id j w v ej);
        apart = apart-none s.views id w refl k.apart;
        owned = subst (λ n. AreOwned n (set s.views id w)) (sym one)
            (owned-pass (length k.log) s.views id me.0 w at (ap (λ l. me.0.own ++ length l ∷ []) tn.1) k.owned);
        parts = parts-keep s.views id me.0 w at refl refl k.parts;
      }

  pub passes : (slots id t : ℕ) (me : Me (Held X E R) (View X E R)) (held : Held X E R) (e : Snapshot (Entry E R)) (object : X)
      → 0 < slots → me.0.turn ≡ true → me.0.ticket ≡ Some t → me.0.share ≢ 0 → me.1 ≡ (0, held) ∷ []
      → held.object ≡ Some object → held.entry ≡ Some e
      → ((o : X) → me.0.opening ≡ Some o → Leaves step o (me.0.seen ++ e.value ∷ []) object)
      → Allows (Kept step opening) slots id me 1 (λ _. t + 1) (λ _. Passes me)
  passes slots id t me held e object room turn tk part hand there said leaves s k ls at range = (
    with_entry e.value me.0,
    gives,
    tt,
    kept-pass s id t me held e.value object turn tk part hand there leaves (subst (λ n. 0 < n) (sym ls) room) at k,
    (held, e, hand, said, (λ i. (with_entry e.value me.0, rest (hand i)))),
  )

  -- ---- seats in two, and in one

  pub splits : (id : ℕ) (v : View X E R) → v.ticket ≡ None → v.turn ≡ false → Splits (Kept step opening) id v (halved v) (sibling v)
  splits id v free idle s k at =
      let f = k.fit id v at in
      let fw = f.whole in
      let w : View X E R = sibling v in
      let views : List (View X E R) = set s.views id (halved v) in
      let none : (j : ℕ) (u : View X E R) (t : ℕ) → get_elem? (views ++ w ∷ []) j ≡ some u → u.ticket ≡ Some t → get_elem? views j ≡ some u =
      λ j u t ej tj. ⊎_elim (λ e. e) (λ e. let q : None ≡ Some t = sym free ∙ ap (λ (z : View X E R). z.ticket) e ∙ tj in cc) (at_snoc views w u j ej) in
      let calm = apart-none s.views id (halved v) free k.apart in
      record {
        log = k.log;
        next = k.next;
        object = k.object;
        words = k.words;
        served = k.served;
        small = k.small;
        leaves = k.leaves;
        place = ⊎_elim (λ p. inl p)
            (λ p. let q = taken-keep s.views id v (halved v) at idle p in inr (q.0, q.1, at_longer views (w ∷ []) q.0 q.1 q.2, q.3)) k.place;
        fit = λ j u ej. ⊎_elim
            (λ e. ⊎_elim
            (λ l. subst (Fits opening k.log k.next) l.1 (record {
              opened = f.opened;
              spent = f.spent;
              seen = f.seen;
              left = f.left;
              right = f.right;
              placed = f.placed;
              drawn = f.drawn;
              turned = f.turned;
              whole = omega (arith, fw);
            }))
            (λ l. k.fit j u l.1)
            (at_set s.views id j (halved v) u e))
            (λ e. subst (Fits opening k.log k.next) e (record {
              opened = f.opened;
              spent = λ z. (refl, (f.spent z).1);
              seen = f.seen;
              left = f.left;
              right = f.right;
              placed = λ p ne. absurd (ne refl);
              drawn = f.drawn;
              turned = f.turned;
              whole = omega (arith, fw);
            }))
            (at_snoc views w u j ej);
        apart = λ i j t x y ex ey tx ty. calm i j t x y (none i x t ex tx) (none j y t ey ty) tx ty;
        owned = λ p. total-snoc (λ u. times p u.own) views w
            ∙ (let o = owned-keep (length k.log) s.views id v (halved v) at refl k.owned p in omega (arith, o));
        parts = parts-split s.views id v at k.parts;
      }

  placed-join : (p : ℕ) (v w : View X E R) → ((k : ℕ) → times k v.own ≢ 0 → k < length v.seen)
      → ((k : ℕ) → times k w.own ≢ 0 → k < length w.seen) → times p (v.own ++ w.own) ≢ 0 → p < length (longer v.seen w.seen)
  placed-join p v w f g nz =
      dite (ℕ_discrete (times p v.own) 0)
      (λ z. let q : times p w.own ≢ 0 = λ y. nz (times-append p v.own w.own ∙ (omega (arith, z, y))) in
      lt_of_lt_of_le (g p q) (longer-right v.seen w.seen))
      (λ y. lt_of_lt_of_le (f p y) (longer-left v.seen w.seen))

  pub joins : (id other : ℕ) (v w : View X E R) → v.share ≢ 0 → v.turn ≡ false → w.turn ≡ false
      → Joins (Kept step opening) id v other w (joined_view v w) spent
  joins id other v w part idle rests s k at ne ot =
      let both : View X E R = joined_view v w in
      let views : List (View X E R) = set s.views id both in
      let from : get_elem? s.views other ≡ some w = sym (set_else s.views id other both ne) ∙ ot in
      let f = k.fit id v at in
      let g = k.fit other w from in
      let gw = g.whole in
      let fw = f.whole in
      record {
        log = k.log;
        next = k.next;
        object = k.object;
        words = k.words;
        served = k.served;
        small = k.small;
        leaves = k.leaves;
        place = ⊎_elim (λ p. inl p)
            (λ p. inr (taken-keep views other w spent ot rests (taken-keep s.views id v both at idle p))) k.place;
        fit = λ j u ej. ⊎_elim
            (λ l. subst (Fits opening k.log k.next) l.1 (record {
              opened = λ z. absurd (z refl);
              spent = λ _. (refl, refl);
              seen = (k.log, refl);
              left = (k.log, refl);
              right = (k.log, refl);
              placed = λ p nz. absurd (nz refl);
              drawn = λ t e. cc;
              turned = λ e. cc;
              whole = lit< tt;
            }))
            (λ m. ⊎_elim
            (λ l. subst (Fits opening k.log k.next) l.1 (record {
              opened = λ _. f.opened part;
              spent = λ z. absurd (part (none_of v.share w.whole (w.share * v.whole) gw z));
              seen = begins-longer k.log v.seen w.seen f.seen g.seen;
              left = f.seen;
              right = g.seen;
              placed = λ p nz. placed-join p v w f.placed g.placed nz;
              drawn = λ t e. cc;
              turned = λ e. cc;
              whole = mul-pos fw gw;
            }))
            (λ l. k.fit j u l.1)
            (at_set s.views id j both u m.1))
            (at_set views other j spent u ej);
        apart = apart-none views other spent refl (apart-none s.views id both refl k.apart);
        owned = λ p.
            let h : View X E R → ℕ = λ u. times p u.own in
            let a = total-set h s.views id v both at in
            let b = total-set h views other w spent ot in
            let c = times-append p v.own w.own in
            let o = k.owned p in
            let same : total h (set views other spent) ≡ total h s.views = omega (arith, a, b, c) in same ∙ o;
        parts = parts-join s.views id other v w at ne from k.parts;
      }

  -- ---- what a joined seat is told

  one_at_most : (b : Bool) → (if b then 1 else 0) ≤ 1
  one_at_most true = lit≤ tt
  one_at_most false = lit≤ tt

  the_first : (v : View X E R) (j : ℕ) → get_elem? (newcomer {E = E} {R = R} opening ∷ []) j ≡ some v → newcomer opening ≡ v
  the_first v zero e = some-injective (newcomer opening) v e
  the_first v (suc j) e = absurd (some-ne-none v (sym e))

  pub tells : (slots id : ℕ) (me : Me (Held X E R) (View X E R)) → me.0.turn ≡ false → me.0.share ≢ 0
      → Allows (Kept step opening) slots id me 1 (λ n. n) (λ _. TellsOneLog step me)
  tells slots id me idle part s k ls at range =
      let w : View X E R = record me.0 { left = []; right = [] } in
      let f = k.fit id me.0 at in (
        w,
        keeps,
        tt,
        record {
          log = k.log;
          next = k.next;
          object = k.object;
          words = set-index s.words 1 ∙ k.words;
          served = k.served;
          small = k.small;
          leaves = k.leaves;
          place = ⊎_elim (λ p. inl p) (λ p. inr (taken-keep s.views id me.0 w at idle p)) k.place;
          fit = λ j v ej. ⊎_elim
              (λ l. subst (Fits opening k.log k.next) l.1 (record {
                opened = f.opened;
                spent = f.spent;
                seen = f.seen;
                left = (k.log, refl);
                right = (k.log, refl);
                placed = f.placed;
                drawn = f.drawn;
                turned = f.turned;
                whole = f.whole;
              }))
              (λ l. k.fit j v l.1)
              (at_set s.views id j w v ej);
          apart = apart-keep s.views id me.0 w at refl k.apart;
          owned = owned-keep (length k.log) s.views id me.0 w at refl k.owned;
          parts = parts-keep s.views id me.0 w at refl refl k.parts;
        },
        record {
          view = refl;
          line = begins-line k.log me.0.left me.0.right f.left f.right;
          once = λ p. let a = total-at (λ (u : View X E R). times p u.own) s.views id me.0 at in let o = k.owned p in
              let b : (if nat_lt p (length k.log) then 1 else 0) ≤ 1 = one_at_most (nat_lt p (length k.log)) in omega (arith, a, o, b);
          legal = λ o po. let q : Some opening ≡ Some o = sym (f.opened part) ∙ po in let h : opening ≡ o = cc in
              leaves-front step o me.0.seen f.seen.0 k.object
              (subst (λ (x : X). Leaves step x (me.0.seen ++ f.seen.0) k.object) h
              (subst (λ l. Leaves step opening l k.object) f.seen.1 k.leaves));
        },
      )

  -- ---- the beginning

  none_owned : (p : ℕ) → total (λ v. times p v.own) (newcomer {E = E} {R = R} opening ∷ []) ≡ (if nat_lt p 0 then 1 else 0)
  none_owned p = grind (arith, common_steps)

  pub opens : (held : Held X E R) → held.object ≡ Some opening
      → Kept step opening (opening_state (0 ∷ 0 ∷ []) (held ∷ []) (newcomer opening))
  opens held there = record {
    log = [];
    next = 0;
    object = opening;
    words = refl;
    served = lit≤ tt;
    small = lit< tt;
    leaves = refl;
    place = inl (held, refl, there);
    fit = λ j v ej. subst (Fits opening [] 0) (the_first v j ej) (record {
      opened = λ _. refl;
      spent = λ z. absurd (suc-ne-zero 0 z);
      seen = ([], refl);
      left = ([], refl);
      right = ([], refl);
      placed = λ p nz. absurd (nz refl);
      drawn = λ t e. cc;
      turned = λ e. cc;
      whole = lit< tt;
    });
    apart = λ i j t x y ex ey tx ty. let q : None ≡ Some t = ap (λ (z : View X E R). z.ticket) (the_first x i ex) ∙ tx in cc;
    owned = none_owned;
    parts = record { weights = 1 ∷ []; number = 1; positive = lit< tt; all = refl; weighed = (refl, tt) };
  }

  -- ---- the end

  -- the whole desk: nobody else has a part of it
  alone : (views : List (View X E R)) (id : ℕ) (v : View X E R) → get_elem? views id ≡ some v → v.share ≡ v.whole → 0 < v.whole
      → AddUp views → (j : ℕ) (w : View X E R) → get_elem? views j ≡ some w → j ≢ id → w.share ≡ 0
  alone views id v at all positive a j w ej ne =
      let n = weighed-at a.number views a.weights id v at a.weighed in
      let m = weighed-at a.number views a.weights j w ej a.weighed in
      let h = n.2 in
      let q : v.whole * a.number ≡ v.whole * n.0 = ap (λ x. x * a.number) (sym all) ∙ h ∙ mul_comm n.0 v.whole in
      let e : a.number ≡ n.0 = sym (mul-div_cancel_left a.number positive) ∙ ap (λ x. x / v.whole) q ∙ mul-div_cancel_left n.0 positive in
      let t = total-rest (λ x. x) a.weights id j n.0 m.0 n.1 m.1 (λ s. ne (sym s)) in
      let l = a.all in
      let none : m.0 ≡ 0 = omega (arith, e, t, l) in
      let g = m.2 in
      let z : w.share * a.number ≡ 0 = g ∙ ap (λ x. x * w.whole) none ∙ zero-mul w.whole in
      none_of w.share a.number 0 a.positive (let p : w.share * a.number + 0 ≡ 0 = omega (arith, z) in p)

  below_counts : (p n : ℕ) → p < n → (if nat_lt p n then 1 else 0) ≡ let one : ℕ = 1 in one
  below_counts p n h = ap (λ b. let c : ℕ = if b then 1 else 0 in c) (lt-ltb p n h)

  seen_all : (seen more log : List (Entry E R)) → log ≡ seen ++ more → ((p : ℕ) → p < length log → p < length seen) → seen ≡ log
  seen_all seen [] log e h = sym (e ∙ append-nil seen)
  seen_all seen (x ∷ more) log e h =
      let l : length log ≡ length seen + length (x ∷ more) = ap length e ∙ length-append seen (x ∷ more) in
      let g = h (length seen) (omega (arith, l)) in absurd (omega (arith, g))

  -- a seat that owns each place has seen all
  all_seen : (log : List (Entry E R)) (v : View X E R) → Begins log v.seen → ((p : ℕ) → p < length log → p < length v.seen) → v.seen ≡ log
  all_seen log v b h = seen_all v.seen b.0 log b.1 h

  -- the object at the end, and what the last seat knows of it
  pub closes : (id : ℕ) (v : View X E R) (homes : List (Held X E R)) (words : List ℕ) → v.share ≡ v.whole → v.turn ≡ false
      → Final (Seen (Kept step opening) id v) words homes
      → (held : Held X E R) × (object : X) × (get_elem? homes 0 ≡ some held) × (held.object ≡ Some object)
      × (v.opening ≡ Some opening) × Leaves step opening v.seen object × OwnsAll v
  closes id v homes words all idle final =
      let s = final.0 in
      let k = final.1.0 in
      let at = final.1.1 in
      let f = k.fit id v at in
      let fw = f.whole in
      let part : v.share ≢ 0 = λ z. let y : v.whole ≡ 0 = sym all ∙ z in absurd (omega (arith, fw, y)) in
      let lone = alone s.views id v at all f.whole k.parts in
      let owns : (p : ℕ) → times p v.own ≡ (if nat_lt p (length k.log) then 1 else 0) =
      λ p. sym (total-alone (λ (u : View X E R). times p u.own) s.views id v at
      (λ j w ej ne. ap (times p) ((k.fit j w ej).spent (lone j w ej ne)).0)) ∙ k.owned p in
      let same : v.seen ≡ k.log = all_seen k.log v f.seen
      (λ p h. f.placed p (λ z. let o = owns p in let c = below_counts p (length k.log) h in
      let n : ℕ = 1 in let bad : n ≡ 0 = sym c ∙ sym o ∙ z in absurd (suc-ne-zero 0 bad))) in
      let homes_of : (held : Held X E R) × (get_elem? s.homes 0 ≡ some (some held)) × (held.object ≡ Some k.object) =
      ⊎_elim (λ p. p)
      (λ t. dite (ℕ_discrete t.0 id)
      (λ e. let is : t.1 ≡ v = some-injective t.1 v (sym t.2 ∙ ap (get_elem? s.views) e ∙ at) in
      absurd (true≢false (sym t.3 ∙ ap (λ (u : View X E R). u.turn) is ∙ idle)))
      (λ ne. absurd (true≢false (sym t.3 ∙ ((k.fit t.0 t.1 t.2).spent (lone t.0 t.1 t.2 ne)).1))))
      k.place in (
        homes_of.0,
        k.object,
        final.4 0 homes_of.0 homes_of.1,
        homes_of.2,
        f.opened part,
        subst (λ l. Leaves step opening l k.object) (sym same) k.leaves,
        (λ p. owns p ∙ ap (λ (l : List (Entry E R)). if nat_lt p (length l) then 1 else 0) (sym same)),
      )

-- ---- seats as their callers know them

module _ {X E R : Type 0} where
  -- two seats in one have a part
  pub joined-part : (v w : View X E R) → v.share ≢ 0 → 0 < w.whole → (joined_view v w).share ≢ 0
  joined-part v w part whole z = part (none_of v.share w.whole (w.share * v.whole) whole z)

  pub idle-joined : (step : ℕ → E → X → R → X → Type 0) (a b me after : Me (Held X E R) (View X E R))
      → IsIdle step a → IsIdle step b → me ≡ (joined_view a.0 b.0, a.1) → TellsOneLog step me after → IsIdle step after
  idle-joined step a b me after p q e t =
      let v : after ≡ (record (joined_view a.0 b.0) { left = []; right = [] }, a.1) =
      t.view ∙ ap (λ (m : Me (Held X E R) (View X E R)). (record m.0 { left = []; right = [] }, m.1)) e in
      let l = t.legal p.opening (ap (λ (m : Me (Held X E R) (View X E R)). m.0.opening) e ∙ p.opened) in
      subst (IsIdle step) (sym v) (record {
        opening = p.opening;
        object = l.0;
        opened = p.opened;
        legal = subst (λ (m : Me (Held X E R) (View X E R)). Leaves step p.opening m.0.seen l.0) e l.1;
        part = joined-part a.0 b.0 p.part q.whole;
        whole = mul-pos p.whole q.whole;
        ticket = refl;
        turn = refl;
        left = refl;
        right = refl;
        hand = p.hand;
      })

  pub same-held : (slots : List (Held X E R)) (a b : Held X E R) → get_elem? slots 0 ≡ some a → get_elem? slots 0 ≡ some b → a ≡ b
  same-held slots a b p q = some-injective a b (sym p ∙ q)

-- ---- growth

module _ {E R : Type 0} where
  own_places-asked : (n : ℕ) (others : List (Entry E R)) (e : Entry E R)
      → own_places n (map as_others others ++ as_own e ∷ []) ≡ (n + length others) ∷ []
  own_places-asked n [] e = ap (λ k. k ∷ []) (omega arith)
  own_places-asked n (o ∷ os) e = own_places-asked (suc n) os e ∙ ap (λ k. k ∷ []) (let q : suc n + length os ≡ n + length (o ∷ os) = omega arith in q)

  all_entries-asked : (others : List (Entry E R)) (e : Entry E R) → all_entries (map as_others others ++ as_own e ∷ []) ≡ others ++ e ∷ []
  all_entries-asked [] e = refl
  all_entries-asked (o ∷ os) e = ap (λ l. o ∷ l) (all_entries-asked os e)

module _ {X E R : Type 0} where
  -- a seat that asked, from what it took the turn with
  pub grows-asked : (v : View X E R) (t : ℕ) (others : List (Entry E R)) (e : Entry E R)
      → Grows v (map as_others others ++ as_own e ∷ []) (with_entry e (record (with_ticket t v) { seen = v.seen ++ others; turn = true }))
  grows-asked v t others e = record {
    seen = append_assoc v.seen others (e ∷ []) ∙ ap (λ l. v.seen ++ l) (sym (all_entries-asked others e));
    own = ap (λ l. v.own ++ l) (ap (λ k. k ∷ []) (length-append v.seen others) ∙ sym (own_places-asked (length v.seen) others e));
    opening = refl;
    share = refl;
    whole = refl;
  }

-- ---- one question

module _ {X E R : Type 0} (step : ℕ → E → X → R → X → Type 0) where
  -- what lies in the slot that was taken last
  abbrev in_hand : Held X E R → List (ℕ × Held X E R) → Held X E R
  in_hand d [] = d
  in_hand d (x ∷ xs) = x.1

  -- the object that lies in the slot is the one that is found there
  pub object_is : (held : Held X E R) (found object : X) (me : Me (Held X E R) (View X E R))
      → me.1 ≡ (0, held) ∷ rest me.1 → held.object ≡ Some found → HasObject me object → object ≡ found
  object_is held found object me out is h =
      let same : h.0 ≡ held = ap (in_hand held) (sym h.1 ∙ out) in
      let q : Some object ≡ Some found = sym h.2 ∙ ap (λ (x : Held X E R). x.object) same ∙ is in cc

  -- what the object left after its turn is left by one entry more
  pub took : (before after turned : Me (Held X E R) (View X E R)) (e : Entry E R) (new : X)
      → (t : TakesTurn step before after) → turned.0 ≡ after.0 → step e.reading e.event t.object e.outcome new
      → (opening : X) → turned.0.opening ≡ Some opening → Leaves step opening (turned.0.seen ++ e ∷ []) new
  took before after turned e new t same st opening =
      subst (λ (v : View X E R). v.opening ≡ Some opening → Leaves step opening (v.seen ++ e ∷ []) new) (sym (same ∙ t.view))
      (λ po. leaves-one step opening t.object new (before.0.seen ++ t.others) e (t.leaves opening po) st)

  -- the seat that is to pass the turn on
  pub served : (ticket : ℕ) (v : View X E R) (drawn taken turned : Me (Held X E R) (View X E R)) (e : Entry E R) (hand : List (ℕ × Held X E R))
      → ticket + 1 < 2 ^ 64 → v.share ≢ 0 → drawn ≡ (with_ticket ticket v, hand) → (t : TakesTurn step drawn taken) → turned.0 ≡ taken.0
      → HasStepped step t.object e turned → IsServed step turned ticket e
  served ticket v drawn taken turned e hand small part d t same s =
      let w : turned.0 ≡ record (with_ticket ticket v) { seen = v.seen ++ t.others; turn = true } =
      same ∙ t.view ∙ ap (λ (m : Me (Held X E R) (View X E R)). record m.0 { seen = m.0.seen ++ t.others; turn = true }) d in
      record {
        object = s.object;
        told = s.told;
        drawn = ap (λ (u : View X E R). u.ticket) w;
        small = small;
        turn = ap (λ (u : View X E R). u.turn) w;
        part = λ z. part (sym (ap (λ (u : View X E R). u.share) w) ∙ z);
        hand = s.hand;
        tells = s.tells;
        leaves = took drawn taken turned e s.object t same s.steps;
      }

  -- the seat after a question, by its steps
  passed : (ticket : ℕ) (v : View X E R) (drawn taken turned after : Me (Held X E R) (View X E R)) (e : Entry E R) (hand : List (ℕ × Held X E R))
      → drawn ≡ (with_ticket ticket v, hand) → (t : TakesTurn step drawn taken) → turned.0 ≡ taken.0 → after ≡ (with_entry e turned.0, [])
      → after ≡ (with_entry e (record (with_ticket ticket v) { seen = v.seen ++ t.others; turn = true }), [])
  passed ticket v drawn taken turned after e hand d t same p =
      p ∙ ap (λ u. (with_entry e u, [])) (same ∙ t.view
      ∙ ap (λ (m : Me (Held X E R) (View X E R)). record m.0 { seen = m.0.seen ++ t.others; turn = true }) d)

  pub idle-asked : (ticket : ℕ) (me drawn taken turned after : Me (Held X E R) (View X E R)) (new : X) (e : Entry E R)
      → IsIdle step me → drawn ≡ (with_ticket ticket me.0, me.1) → (t : TakesTurn step drawn taken) → turned.0 ≡ taken.0
      → after ≡ (with_entry e turned.0, []) → step e.reading e.event t.object e.outcome new → IsIdle step after
  idle-asked ticket me drawn taken turned after new e i d t same p st =
      let q = passed ticket me.0 drawn taken turned after e me.1 d t same p in
      let l : Leaves step i.opening (drawn.0.seen ++ t.others) t.object =
      t.leaves i.opening (ap (λ (m : Me (Held X E R) (View X E R)). m.0.opening) d ∙ i.opened) in
      subst (IsIdle step) (sym q) (record {
        opening = i.opening;
        object = new;
        opened = i.opened;
        legal = leaves-one step i.opening t.object new (me.0.seen ++ t.others) e
            (subst (λ (m : Me (Held X E R) (View X E R)). Leaves step i.opening (m.0.seen ++ t.others) t.object) d l) st;
        part = i.part;
        whole = i.whole;
        ticket = refl;
        turn = refl;
        left = i.left;
        right = i.right;
        hand = refl;
      })

  pub asks : (ticket : ℕ) (me drawn taken turned after : Me (Held X E R) (View X E R)) (e : Entry E R)
      → drawn ≡ (with_ticket ticket me.0, me.1) → (t : TakesTurn step drawn taken) → turned.0 ≡ taken.0 → after ≡ (with_entry e turned.0, [])
      → (others : List (Entry E R)) × Grows me.0 (map as_others others ++ as_own e ∷ []) after.0
  asks ticket me drawn taken turned after e d t same p =
      let q = passed ticket me.0 drawn taken turned after e me.1 d t same p in (
        t.others,
        subst (λ (m : Me (Held X E R) (View X E R)). Grows me.0 (map as_others t.others ++ as_own e ∷ []) m.0) (sym q)
            (grows-asked me.0 ticket t.others e),
      )

module _ {X E R : Type 0} where
  -- two halves of the whole desk that asked are the whole in one
  pub whole-again : (v one two first second both : View X E R) → IsWhole v
      → one ≡ halved v → two ≡ sibling v → SamePart one first → SamePart two second → AreJoined first second both → IsWhole both
  whole-again v one two first second both w p q a b j =
      let n : ℕ = v.whole in
      let s : v.share ≡ n = w in
      let s1 : first.share ≡ n = a.0 ∙ ap (λ (u : View X E R). u.share) p ∙ s in
      let w1 : first.whole ≡ n * 2 = a.1 ∙ ap (λ (u : View X E R). u.whole) p in
      let s2 : second.share ≡ n = b.0 ∙ ap (λ (u : View X E R). u.share) q ∙ s in
      let w2 : second.whole ≡ n * 2 = b.1 ∙ ap (λ (u : View X E R). u.whole) q in
      let js : both.share ≡ n * (n * 2) + n * (n * 2) = j.share ∙ ap₂ (λ x y. x * y + second.share * first.whole) s1 w2 ∙ ap₂ (λ x y. n * (n * 2) + x * y) s2 w1 in
      let jw : both.whole ≡ n * 2 * (n * 2) = j.whole ∙ ap₂ (λ x y. x * y) w1 w2 in
      js ∙ (let e : n * (n * 2) + n * (n * 2) ≡ n * 2 * (n * 2) = grind arith in e) ∙ sym jw
