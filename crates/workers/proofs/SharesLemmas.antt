-- Parts of seats that are split and joined, and what seats have seen.
use Rattle.std.proofs.Common.{◌≡◌, ℕ, ◌+◌, ◌*◌, ◌/◌, ◌<◌, ◌≤◌, nat_lt, true, false, List, [], ◌∷◌, ◌++◌, length, map, take, drop, if◌then◌else◌, refl, sym, ap, ◌∙◌, subst, ⊎_elim, append_assoc, append-nil, length-append, mul_assoc, mul_comm, mul_right_comm, add-mul, arith}
use Rattle.std.proofs.Math.Nat.{mul-div_cancel}
use Rattle.std.proofs.lemmas.Bool.{le-ltb, ltb-false}
use Rattle.std.proofs.lemmas.List.{map-append}
use Rattle.std.specs.List.{All}
use Rattle.std.proofs.lemmas.List.Elements.{All-head, All-tail, All-nil, All-cons, All-push}
use Rattle.turn_desk.specs.declared.entry.Entry.{Entry}
use Rattle.turn_desk.specs.Entries.{Marked, all_entries}
use Rattle.atomic_table.specs.Seated.{TableId}
use Rattle.turn_desk.specs.declared.shared.DeskSeat.{DeskSeat}
use Rattle.turn_desk.specs.declared.view.View.{View}
use Rattle.turn_desk.specs.Seats.{IsSeated, known_to}
use Rattle.turn_desk.specs.Shared.{Begins, AreInLine, longer, total, Weighed, halved, sibling, AreJoined, Grows, own_places}
use Rattle.turn_desk.specs.Growing.{grows-nothing, grows-on}
use Rattle.turn_desk.proofs.SharedLemmas.{total-snoc, total-double, weighed-double, weighed-snoc}
use Rattle.workers.specs.Shares.{HasGoneOn, HasPartOf, AddUpTo, HasGrown, HaveGrown, HasSeenAll, all_own, PassesOn, IsJoinedOf, HasComeBack}

-- ---- what was seen

-- a list of no length has nothing
pub nothing_left : {A : Type 0} (xs : List A) → length xs ≡ 0 → xs ≡ []
nothing_left [] e = refl
nothing_left (x ∷ xs) e = absurd (omega arith)

module _ {A : Type 0} where
  begins-self : (xs : List A) → Begins xs xs
  begins-self xs = ([], sym (append-nil xs))

  begins-on : (xs ys zs : List A) → Begins ys xs → Begins zs ys → Begins zs xs
  begins-on xs ys zs p q = (p.0 ++ q.0, q.1 ∙ ap (λ l. l ++ q.0) p.1 ∙ append_assoc xs p.0 q.0)

  -- the longer of two in line begins with the first
  begins-joined : (xs ys : List A) → AreInLine xs ys → Begins (longer xs ys) xs
  begins-joined xs ys line =
      ⊎_elim
      (λ p.
      let n : length xs ≡ length ys + length p.0 = ap length p.1 ∙ length-append ys p.0 in
      let l : length ys ≤ length xs = omega (arith, n) in
      subst (λ b. Begins (if b then ys else xs) xs) (sym (le-ltb (length xs) (length ys) l)) (begins-self xs))
      (λ p. elim (nat_lt (length xs) (length ys)) as (λ b. Begins (if b then ys else xs) xs) [ true ↦ p | false ↦ begins-self xs ])
      line

  -- and so it does with the second
  begins-other : (xs ys : List A) → AreInLine xs ys → Begins (longer xs ys) ys
  begins-other xs ys line =
      ⊎_elim {B = Begins ys xs}
      (λ p.
      let n : length xs ≡ length ys + length p.0 = ap length p.1 ∙ length-append ys p.0 in
      let l : length ys ≤ length xs = omega (arith, n) in
      subst (λ b. Begins (if b then ys else xs) ys) (sym (le-ltb (length xs) (length ys) l)) p)
      (λ p.
      elim (nat_lt (length xs) (length ys)) as (λ b. nat_lt (length xs) (length ys) ≡ b → Begins (if b then ys else xs) ys) [
        | true ↦ λ _. begins-self ys
        | false ↦ λ e.
            let n : length ys ≡ length xs + length p.0 = ap length p.1 ∙ length-append xs p.0 in
            let l : length ys ≤ length xs = ltb-false (length xs) (length ys) e in
            let none : p.0 ≡ [] = nothing_left p.0 (omega (arith, n, l)) in
            ([], sym (append-nil ys ∙ p.1 ∙ ap (λ l. xs ++ l) none ∙ append-nil xs))
      ] refl)
      line

module _ {X E R : Type 0} where
  pub on_self : (v : View X E R) → HasGoneOn v v
  on_self v = record { opening = refl; seen = begins-self v.seen; own = begins-self v.own }

  pub on_on : (u v w : View X E R) → HasGoneOn u v → HasGoneOn v w → HasGoneOn u w
  on_on u v w p q = record {
    opening = q.opening ∙ p.opening;
    seen = begins-on u.seen v.seen w.seen p.seen q.seen;
    own = begins-on u.own v.own w.own p.own q.own;
  }

  pub on_halved : (v w : View X E R) → w ≡ halved v → HasGoneOn v w
  on_halved v w e = subst (λ u. HasGoneOn v u) (sym e)
      (record { opening = refl; seen = begins-self v.seen; own = begins-self v.own })

  -- a seat that went on and was split
  pub on_split : {v u w : View X E R} → HasGoneOn v u → w ≡ halved u → HasGoneOn v w
  on_split {v} {u} {w} on e = on_on v u w on (on_halved u w e)

  pub on_grown : (v w : View X E R) (more : List (Marked E R)) → Grows v more w → HasGoneOn v w
  on_grown v w more g = record {
    opening = g.opening;
    seen = (all_entries more, g.seen);
    own = (own_places (length v.seen) more, g.own);
  }

  -- a seat that did not ask
  pub grown_self : (v : View X E R) → HasGrown v v
  grown_self v = ([], grows-nothing v)

  -- a seat that asked, and asked again
  pub grown_on : {u v w : View X E R} → HasGrown u v → HasGrown v w → HasGrown u w
  grown_on {u} {v} {w} p q = (p.0 ++ q.0, grows-on u v w p.0 q.0 p.1 q.1)

  pub on_joined : (v w both : View X E R) → AreJoined v w both → HasGoneOn v both
  on_joined v w both j = record {
    opening = j.opening;
    seen = subst (λ l. Begins l v.seen) (sym j.seen) (begins-joined v.seen w.seen j.line);
    own = (w.own, j.own);
  }

  -- what was seen at a seat that grew
  pub grown_seen : {v w : View X E R} → HasGrown v w → Begins w.seen v.seen
  grown_seen g = (all_entries g.0, g.1.seen)

  -- who has seen what another has has seen what that one has seen of others
  pub seen_on : (v w : View X E R) (views : List (View X E R)) → Begins w.seen v.seen → HasSeenAll v views
      → HasSeenAll w views
  seen_on v w [] on h = All-nil (λ u. Begins w.seen u.seen)
  seen_on v w (u ∷ us) on h = All-cons (λ u. Begins w.seen u.seen) u us
      (begins-on u.seen v.seen w.seen (All-head (λ u. Begins v.seen u.seen) u us h) on)
      (seen_on v w us on (All-tail (λ u. Begins v.seen u.seen) u us h))

  -- What a seat will have seen that is joined with all of these, of which some are joined.
  abbrev pub Sees : View X E R → List (View X E R) → List (View X E R) → Type 0
  Sees v left all = (seen : List (Entry E R)) → Begins seen v.seen → All (λ u. Begins seen u.seen) left
      → All (λ u. Begins seen u.seen) all

  -- one more is joined
  pub sees_joined : {v w both : View X E R} (left all : List (View X E R)) → AreJoined v w both
      → Sees v (w ∷ left) all → Sees both left all
  sees_joined {v} {w} {both} left all j sees = λ seen on rest.
      let first : Begins both.seen v.seen =
      subst (λ l. Begins l v.seen) (sym j.seen) (begins-joined v.seen w.seen j.line) in
      let second : Begins both.seen w.seen =
      subst (λ l. Begins l w.seen) (sym j.seen) (begins-other v.seen w.seen j.line) in
      sees seen (begins-on v.seen both.seen seen first on)
      (All-cons (λ u. Begins seen u.seen) w left (begins-on w.seen both.seen seen second on) rest)

  -- all are joined
  pub sees_all : (v : View X E R) (all : List (View X E R)) → Sees v [] all → HasSeenAll v all
  sees_all v all sees = sees v.seen (begins-self v.seen) (All-nil (λ u. Begins v.seen u.seen))

  -- the entries of one seat more
  pub own_joined : {v w both : View X E R} (left : List (View X E R)) {own : List ℕ} → AreJoined v w both
      → v.own ++ all_own (w ∷ left) ≡ own → both.own ++ all_own left ≡ own
  own_joined {v} {w} {both} left j e = ap (λ l. l ++ all_own left) j.own ∙ append_assoc v.own w.own (all_own left) ∙ e

  -- what one seat more has seen
  pub seen_joined : {v w both : View X E R} (views : List (View X E R)) → AreJoined v w both → HasSeenAll v views
      → HasSeenAll both (views ++ w ∷ [])
  seen_joined {v} {w} {both} views j seen =
      All-push (λ u. Begins both.seen u.seen) views w
      (seen_on v both views (subst (λ l. Begins l v.seen) (sym j.seen) (begins-joined v.seen w.seen j.line)) seen)
      (subst (λ l. Begins l w.seen) (sym j.seen) (begins-other v.seen w.seen j.line))

  all_own-snoc : (views : List (View X E R)) (w : View X E R) → all_own (views ++ w ∷ []) ≡ all_own views ++ w.own
  all_own-snoc [] w = append-nil w.own
  all_own-snoc (v ∷ views) w = ap (λ l. v.own ++ l) (all_own-snoc views w) ∙ sym (append_assoc v.own (all_own views) w.own)

  -- and its entries
  pub owns_joined : {v w both : View X E R} (views : List (View X E R)) (own : List ℕ) → AreJoined v w both
      → v.own ≡ own ++ all_own views → both.own ≡ own ++ all_own (views ++ w ∷ [])
  owns_joined {v} {w} {both} views own j e =
      j.own ∙ ap (λ l. l ++ w.own) e ∙ append_assoc own (all_own views) w.own
      ∙ ap (λ l. own ++ l) (sym (all_own-snoc views w))

-- ---- parts

-- two fractions with the denominators c and d, added up
cross : (a b c d number n m : ℕ) → a * number ≡ n * c → b * number ≡ m * d → (a * d + b * c) * number ≡ (n + m) * (c * d)
cross a b c d number n m h g =
    let p : a * d * number ≡ n * (c * d) = mul_right_comm a d number ∙ ap (λ x. x * d) h ∙ mul_assoc n c d in
    let q : b * c * number ≡ m * (c * d) =
    mul_right_comm b c number ∙ ap (λ x. x * c) g ∙ mul_assoc m d c ∙ ap (λ x. m * x) (mul_comm d c) in
    add-mul (a * d) (b * c) number ∙ ap (λ x. x + b * c * number) p ∙ ap (λ x. n * (c * d) + x) q ∙ sym (add-mul n m (c * d))

-- two that are equal so many times, which isn't never, are equal
cancels : (a b number : ℕ) → 0 < number → a * number ≡ b * number → a ≡ b
cancels a b number pos e = sym (mul-div_cancel a pos) ∙ ap (λ x. x / number) e ∙ mul-div_cancel b pos

module _ {X E R : Type 0} where
  -- one seat has its own part
  pub add_alone : (v : View X E R) → 0 < v.whole → AddUpTo v (v ∷ [])
  add_alone v pos = record {
    weights = v.share ∷ [];
    number = v.whole;
    positive = pos;
    weighed = (refl, tt);
    all = ap (λ x. x * v.whole) (let e : v.share ≡ v.share + 0 = omega arith in e);
  }

  split-off : (v u : View X E R) (views : List (View X E R)) (number : ℕ) (weights : List ℕ)
      → 0 < number → Weighed number (u ∷ views) weights → v.share * number ≡ total (λ n. n) weights * v.whole
      → AddUpTo v (halved u ∷ (views ++ sibling u ∷ []))
  split-off v u views number [] pos h all = absurd h
  split-off v u views number (n ∷ ns) pos h all =
      let twice : List ℕ = map (λ m. m * 2) ns in
      let q : u.share * (number * 2) ≡ n * (u.whole * 2) = (let k = h.0 in grind (arith, k)) in
      let d = total-double ns in
      let s = total-snoc (λ m. m) twice n in
      let t : total (λ m. m) (n ∷ (twice ++ n ∷ [])) ≡ (n + total (λ m. m) ns) * 2 = omega (arith, d, s) in
      let a : v.share * (number * 2) ≡ (n + total (λ m. m) ns) * 2 * v.whole = grind (arith, all) in
      record {
        weights = n ∷ (twice ++ n ∷ []);
        number = number * 2;
        positive = omega (arith, pos);
        weighed = (q, weighed-snoc (number * 2) views twice n (sibling u) q (weighed-double number views ns h.1));
        all = a ∙ ap (λ x. x * v.whole) (sym t);
      }

  -- a seat is split into two
  pub add_split : (v u kept other : View X E R) (views : List (View X E R)) → kept ≡ halved u → other ≡ sibling u
      → AddUpTo v (u ∷ views) → AddUpTo v (kept ∷ (views ++ other ∷ []))
  add_split v u kept other views p q a =
      subst (λ k. AddUpTo v (k ∷ (views ++ other ∷ []))) (sym p)
      (subst (λ o. AddUpTo v (halved u ∷ (views ++ o ∷ []))) (sym q)
      (split-off v u views a.number a.weights a.positive a.weighed a.all))

  -- a seat is split, and the other half is one job more
  pub jobs_more : {J : Type 0} {v u kept : View X E R} (knows : J → View X E R) (jobs new : List J) (job : J)
      → new ≡ jobs ++ job ∷ [] → AddUpTo v (u ∷ map knows jobs) → kept ≡ halved u → knows job ≡ sibling u
      → AddUpTo v (kept ∷ map knows new)
  jobs_more {v = v} {u = u} {kept = kept} knows jobs new job e a p q =
      subst (λ l. AddUpTo v (kept ∷ map knows l)) (sym e)
      (subst (λ l. AddUpTo v (kept ∷ l)) (sym (map-append knows jobs (job ∷ [])))
      (add_split v u kept (knows job) (map knows jobs) p q a))

  join-on : (v one two both : View X E R) (views : List (View X E R)) (number : ℕ) (weights : List ℕ)
      → AreJoined one two both → 0 < number → Weighed number (one ∷ two ∷ views) weights
      → v.share * number ≡ total (λ n. n) weights * v.whole → AddUpTo v (both ∷ views)
  join-on v one two both views number [] j pos h all = absurd h
  join-on v one two both views number (n ∷ []) j pos h all = absurd h.1
  join-on v one two both views number (n ∷ m ∷ ns) j pos h all =
      let c = cross one.share two.share one.whole two.whole number n m h.0 h.1.0 in
      record {
        weights = (n + m) ∷ ns;
        number = number;
        positive = pos;
        weighed = (ap (λ x. x * number) j.share ∙ c ∙ ap (λ x. (n + m) * x) (sym j.whole), h.1.1);
        all = all ∙ ap (λ x. x * v.whole)
            (let e : n + (m + total (λ k. k) ns) ≡ n + m + total (λ k. k) ns = omega arith in e);
      }

  -- two seats are joined
  pub add_join : (v one two both : View X E R) (views : List (View X E R)) → AreJoined one two both
      → AddUpTo v (one ∷ two ∷ views) → AddUpTo v (both ∷ views)
  add_join v one two both views j a = join-on v one two both views a.number a.weights j a.positive a.weighed a.all

  -- and these two have the parts of all
  pub parts_joined : {v w both : View X E R} {first : View X E R} (views : List (View X E R)) → AreJoined v w both
      → PassesOn (first ∷ (views ++ w ∷ [])) (v ∷ w ∷ []) → PassesOn (first ∷ (views ++ w ∷ [])) (both ∷ [])
  parts_joined {v} {w} {both} views j carries = λ u a. add_join u v w both [] j (carries u a)

  weighed-grown : (number : ℕ) (vs ws : List (View X E R)) (weights : List ℕ) → HaveGrown vs ws
      → Weighed number vs weights → Weighed number ws weights
  weighed-grown number [] [] weights g h = h
  weighed-grown number [] (w ∷ ws) weights g h = absurd g
  weighed-grown number (v ∷ vs) [] weights g h = absurd g
  weighed-grown number (v ∷ vs) (w ∷ ws) [] g h = absurd h
  weighed-grown number (v ∷ vs) (w ∷ ws) (n ∷ ns) g h = (
    ap (λ k. k * number) g.0.1.share ∙ h.0 ∙ ap (λ k. n * k) (sym g.0.1.whole),
    weighed-grown number vs ws ns g.1 h.1,
  )

  weighed-behind : (number : ℕ) (u : View X E R) (vs ws : List (View X E R)) (weights : List ℕ)
      → HaveGrown vs ws → Weighed number (u ∷ vs) weights → Weighed number (u ∷ ws) weights
  weighed-behind number u vs ws [] g h = absurd h
  weighed-behind number u vs ws (n ∷ ns) g h = (h.0, weighed-grown number vs ws ns g h.1)

  -- seats that asked add up as before
  pub carries_on : {u w : View X E R} {vs ws : List (View X E R)} → HaveGrown vs ws
      → PassesOn (u ∷ ws) (w ∷ []) → PassesOn (u ∷ vs) (w ∷ [])
  carries_on {u} {w} {vs} {ws} grown carries = λ v a. carries v (record {
    weights = a.weights;
    number = a.number;
    positive = a.positive;
    weighed = weighed-behind a.number u vs ws a.weights grown a.weighed;
    all = a.all;
  })

  add_grown : (v w later : View X E R) → HasGrown w later → AddUpTo v (w ∷ []) → AddUpTo v (later ∷ [])
  add_grown v w later grew a = record {
    weights = a.weights;
    number = a.number;
    positive = a.positive;
    weighed = weighed-grown a.number (w ∷ []) (later ∷ []) a.weights (grew, tt) a.weighed;
    all = a.all;
  }

  last-part : (v u : View X E R) (number : ℕ) (weights : List ℕ) → 0 < number → Weighed number (u ∷ []) weights
      → v.share * number ≡ total (λ n. n) weights * v.whole → HasPartOf v u
  last-part v u number [] pos h all = absurd h
  last-part v u number (n ∷ m ∷ ns) pos h all = absurd h.1
  last-part v u number (n ∷ []) pos h all =
      let w : n + 0 ≡ n = omega arith in
      let a : v.share * number ≡ n * v.whole = all ∙ ap (λ x. x * v.whole) w in
      cancels (u.share * v.whole) (v.share * u.whole) number pos
      (mul_right_comm u.share v.whole number ∙ ap (λ x. x * v.whole) h.0 ∙ mul_right_comm n u.whole v.whole
      ∙ ap (λ x. x * u.whole) (sym a) ∙ mul_right_comm v.share number u.whole)

  -- one seat that has all has the part
  pub add_last : (v u : View X E R) → AddUpTo v (u ∷ []) → HasPartOf v u
  add_last v u a = last-part v u a.number a.weights a.positive a.weighed a.all

-- ---- a seat that comes back

module _ {X E R : Type 0} {step : ℕ → E → X → R → X → Type 0} {desk : TableId} where
  -- those that were split off asked, and were joined
  pub comes_joined : {kept : View X E R} {before after : List (View X E R)} {seat : DeskSeat X E R}
      → IsSeated step desk seat → HasGoneOn kept (known_to seat) → HaveGrown before after
      → PassesOn (kept ∷ after) (known_to seat ∷ []) → IsJoinedOf step desk kept before seat
  comes_joined seated on grown parts = record {
    seated = seated;
    on = on;
    parts = carries_on grown parts;
  }

  -- and then it asked
  pub comes_on : {kept : View X E R} {others : List (View X E R)} {seat later : DeskSeat X E R}
      → IsJoinedOf step desk kept others seat → IsSeated step desk later
      → HasGrown (known_to seat) (known_to later) → IsJoinedOf step desk kept others later
  comes_on {kept = kept} {others = others} {seat = seat} {later = later} comes seated grew = record {
    seated = seated;
    on = on_on kept (known_to seat) (known_to later) comes.on
        (on_grown (known_to seat) (known_to later) grew.0 grew.1);
    parts = λ v a. add_grown v (known_to seat) (known_to later) grew (comes.parts v a);
  }

  -- it came of one that was lent
  pub come_back : {lent kept : View X E R} {others : List (View X E R)} {back : DeskSeat X E R}
      → HasGoneOn lent kept → AddUpTo lent (kept ∷ others) → IsJoinedOf step desk kept others back
      → HasComeBack step desk lent back
  come_back {lent = lent} {kept = kept} {back = back} split parts comes = record {
    seated = comes.seated;
    on = on_on lent kept (known_to back) split comes.on;
    part = add_last lent (known_to back) (comes.parts lent parts);
  }

-- a list that was written over by one of its length is that one
written_over : {A : Type 0} (xs ys : List A) → length ys ≡ length xs
    → xs ≡ take (length xs) (xs ++ drop (length xs) ys)
written_over [] ys e = refl
written_over (x ∷ xs) [] e = absurd (omega (arith, e))
written_over {A} (x ∷ xs) (y ∷ ys) e = ap (λ (l : List A). x ∷ l) (written_over xs ys (omega (arith, e)))

pub written_whole : {A : Type 0} (n : ℕ) (xs ys : List A) → length xs ≡ n → length ys ≡ n
    → xs ≡ take n (xs ++ drop (length xs) ys)
written_whole {A} n xs ys e f =
    subst (λ (k : ℕ). xs ≡ take k (xs ++ drop (length xs) ys)) e (written_over xs ys (omega (arith, e, f)))
