-- What the limits leave, and what goes.
use Rattle.std.specs.Prelude.{nat_lt}
use Rattle.std.proofs.Common.{◌≡◌, ℕ, zero, suc, ◌+◌, ◌-◌, ◌≤◌, List, [], ◌∷◌, ◌++◌, length, take, drop, Bool, true, false, not, ◌&&◌, Option, Some, None, option_to_list, unwrap_or, inl, inr, refl, sym, ap, ◌∙◌, arith, append_assoc, length-append}
use Rattle.std.proofs.lemmas.Bool.{cases_Bool, and_parts, or_parts, false≢true, leb-true, le-leb}
use Rattle.std.proofs.lemmas.List.{append-nil, drop_all, take-append-drop}
use Rattle.std.proofs.lemmas.List.Elements.{filter-append}
use Rattle.std.proofs.lemmas.List.Filters.{length-filter_both, sum_by-filter_both}
use Rattle.std.proofs.lemmas.List.Sums.{sum_by-append, sum_by-cons}
use Rattle.std.specs.List.{filter, list_any, slice_get, sum_by}
use Rattle.resource_model.specs.Resource.{ResourceData}
use Rattle.tree_model.specs.Tree.{has, instance_size}
use Rattle.container_limits.specs.Limits.{is_within, do_fit, longest_fit, is_due_by, lasts, goes, kept, evicted, numbers_of}
use Rattle.container_limits.specs.declared.limits.Limits.{Limits}
use Rattle.tree_model.proofs.OrderLemmas.{are_above, ascend, above_filter, above_lacks, ascend_back, ascend_parts}
use Rattle.tree_model.proofs.StepLemmas.{drop_step, dropped_none, dropped_some, not_not}
use Rattle.container_limits.proofs.PlaceLemmas.{lacked_all}
use Rattle.m2m_names.proofs.ListLemmas.{append_parts, filter_same}

-- ---- due or not

module _ (mia : Option ℕ) (moment : ℕ) where
  abbrev last : ResourceData → Bool
  last r = lasts mia moment r

  abbrev end : ResourceData → Bool
  end r = is_due_by mia moment r

  pub counts_split : (rs : List ResourceData) → length rs ≡ length (filter end rs) + length (filter last rs)
  counts_split rs = sym (length-filter_both end last (λ r. refl) rs)

  pub sizes_split : (rs : List ResourceData) → sum_by instance_size rs ≡ sum_by instance_size (filter end rs) + sum_by instance_size (filter last rs)
  sizes_split rs = sym (sum_by-filter_both end last (λ r. refl) instance_size rs)

  pub none_end : (rs : List ResourceData) → list_any end rs ≡ false → filter end rs ≡ []
  none_end [] none = refl
  none_end (r ∷ rs) none = let parts = or_parts (end r) (list_any end rs) none in rw parts.0 (none_end rs parts.1)

  -- where none is due, all last
  pub all_last : (rs : List ResourceData) → list_any end rs ≡ false → filter last rs ≡ rs
  all_last [] none = refl
  all_last (r ∷ rs) none = let parts = or_parts (end r) (list_any end rs) none in rw parts.0 (ap (λ (ss : List ResourceData). r ∷ ss) (all_last rs parts.1))

  pub none_later : (n : ℕ) (rs : List ResourceData) → list_any end rs ≡ false → list_any end (drop n rs) ≡ false
  none_later zero rs none = none
  none_later (suc n) [] none = refl
  none_later (suc n) (r ∷ rs) none = none_later n rs (or_parts (end r) (list_any end rs) none).1

-- ---- totals, one step along

module _ (p : ResourceData → Bool) (rs : List ResourceData) (k base : ℕ) (o : Option ResourceData) (at_k : o ≡ slice_get rs k) where
  step : filter p (drop k rs) ≡ filter p (option_to_list o) ++ filter p (drop (k + 1) rs)
  step =
      ap (filter p) (drop_step rs k) ∙ filter-append p (option_to_list (slice_get rs k)) (drop (k + 1) rs)
      ∙ ap (λ (x : Option ResourceData). filter p (option_to_list x) ++ filter p (drop (k + 1) rs)) (sym at_k)

  pub count_turn : (n after : ℕ) → n ≡ length (filter p (drop k rs)) + base → after ≡ n - length (filter p (option_to_list o)) → after ≡ length (filter p (drop (k + 1) rs)) + base
  count_turn n after is less =
      let split : length (filter p (drop k rs)) ≡ length (filter p (option_to_list o)) + length (filter p (drop (k + 1) rs)) = ap length step ∙ length-append (filter p (option_to_list o)) (filter p (drop (k + 1) rs)) in
      omega arith

  pub size_turn : (n after : ℕ) → n ≡ sum_by instance_size (filter p (drop k rs)) + base → after ≡ n - sum_by instance_size (filter p (option_to_list o)) → after ≡ sum_by instance_size (filter p (drop (k + 1) rs)) + base
  size_turn n after is less =
      let split : sum_by instance_size (filter p (drop k rs)) ≡ sum_by instance_size (filter p (option_to_list o)) + sum_by instance_size (filter p (drop (k + 1) rs)) = ap (sum_by instance_size) step ∙ sum_by-append instance_size (filter p (option_to_list o)) (filter p (drop (k + 1) rs)) in
      omega arith

-- ---- the longest suffix that fits

-- a list that fits is it
pub fit_here : (l : Limits) (new : Option ℕ) (rs : List ResourceData) → do_fit l new rs ≡ true → longest_fit l new rs ≡ rs
fit_here l new [] fits = rw fits refl
fit_here l new (r ∷ rs) fits = rw fits refl

pub fit_none : (l : Limits) (new : Option ℕ) → longest_fit l new [] ≡ []
fit_none l new = elim (cases_Bool (do_fit l new [])) [
  | inl t ↦ rw t refl
  | inr f ↦ rw f refl
]

-- where a list doesn't fit, it is that of the rest
pub fit_next : (l : Limits) (new : Option ℕ) (p : ResourceData → Bool) (o : Option ResourceData) (rest : List ResourceData) → do_fit l new (filter p (option_to_list o) ++ rest) ≡ false → longest_fit l new (filter p (option_to_list o) ++ rest) ≡ longest_fit l new rest
fit_next l new p None rest over = refl
fit_next l new p (Some r) rest over = elim (cases_Bool (p r)) [
  | inl t ↦ let out : do_fit l new (r ∷ rest) ≡ false = rw t at over in rw t (rw out refl)
  | inr f ↦ rw f refl
]

pub fit_turn : (l : Limits) (new : Option ℕ) (p : ResourceData → Bool) (rs : List ResourceData) (k : ℕ) → do_fit l new (filter p (drop k rs)) ≡ false → longest_fit l new (filter p (drop k rs)) ≡ longest_fit l new (filter p (drop (k + 1) rs))
fit_turn l new p rs k over =
    let split : filter p (drop k rs) ≡ filter p (option_to_list (slice_get rs k)) ++ filter p (drop (k + 1) rs) = ap (filter p) (drop_step rs k) ∙ filter-append p (option_to_list (slice_get rs k)) (drop (k + 1) rs) in
    ap (longest_fit l new) split ∙ fit_next l new p (slice_get rs k) (filter p (drop (k + 1) rs)) (ap (do_fit l new) (sym split) ∙ over)

-- the test on the totals is that on the list
pub fits_totals : (l : Limits) (new : Option ℕ) (rs : List ResourceData) (count sizes : ℕ) → count ≡ length rs + length (option_to_list new) → sizes ≡ sum_by instance_size rs + unwrap_or new 0 → (is_within count l.mni && is_within sizes l.mbs) ≡ do_fit l new rs
fits_totals l new rs count sizes few small = ap (λ (n : ℕ). is_within n l.mni && is_within sizes l.mbs) few ∙ ap (λ (n : ℕ). is_within (length rs + length (option_to_list new)) l.mni && is_within n l.mbs) small

-- behind the last there is none
pub nothing_left : (p : ResourceData → Bool) (rs : List ResourceData) (k : ℕ) → length rs ≤ k → filter p (drop k rs) ≡ []
nothing_left p rs k past = ap (filter p) (drop_all k rs past)

-- ---- what goes

-- what is kept of some is a suffix of them
pub longest_is_suffix : (l : Limits) (new : Option ℕ) (rs : List ResourceData) → (front : List ResourceData) × (front ++ longest_fit l new rs ≡ rs)
longest_is_suffix l new [] = ([], fit_none l new)
longest_is_suffix l new (r ∷ rs) = elim (cases_Bool (do_fit l new (r ∷ rs))) [
  | inl t ↦ ([], fit_here l new (r ∷ rs) t)
  | inr f ↦
      let later = longest_is_suffix l new rs in
      (r ∷ later.0, rw f (ap (λ (ss : List ResourceData). r ∷ ss) later.1))
]

-- where all that last are kept, those go that are due
kept_whole : (l : Limits) (new : Option ℕ) (moment : ℕ) (rs : List ResourceData) → ascend rs ≡ true → kept l new moment rs ≡ filter (lasts l.mia moment) rs → evicted l new moment rs ≡ numbers_of (filter (is_due_by l.mia moment) rs)
kept_whole l new moment rs order stay =
    ap (λ (ss : List ResourceData). numbers_of (filter (λ r. not (has r.number ss)) rs)) stay
    ∙ ap numbers_of (lacked_all (lasts l.mia moment) [] rs order ∙ filter_same _ _ (λ r. not_not (is_due_by l.mia moment r)) rs)

-- so it is where these fit
pub evicted_fit : (l : Limits) (new : Option ℕ) (moment : ℕ) (rs : List ResourceData) → ascend rs ≡ true → do_fit l new (filter (lasts l.mia moment) rs) ≡ true → evicted l new moment rs ≡ numbers_of (filter (is_due_by l.mia moment) rs)
evicted_fit l new moment rs order fits = kept_whole l new moment rs order (fit_here l new (filter (lasts l.mia moment) rs) fits)

-- where they don't fit, the first goes, and then what goes of the rest
evicted_unfit : (l : Limits) (new : Option ℕ) (moment : ℕ) (r : ResourceData) (rest : List ResourceData) → ascend (r ∷ rest) ≡ true → do_fit l new (filter (lasts l.mia moment) (r ∷ rest)) ≡ false → evicted l new moment (r ∷ rest) ≡ r.number ∷ evicted l new moment rest
evicted_unfit l new moment r rest order over =
    let parts = ascend_parts r rest order in
    let stays = kept l new moment rest in
    let same : kept l new moment (r ∷ rest) ≡ stays = fit_turn l new (lasts l.mia moment) (r ∷ rest) 0 over in
    let suffix = longest_is_suffix l new (filter (lasts l.mia moment) rest) in
    let above : are_above r.number (suffix.0 ++ stays) ≡ true = ap (are_above r.number) suffix.1 ∙ above_filter (lasts l.mia moment) r.number rest parts.above in
    let behind = append_parts (λ (s : ResourceData). nat_lt r.number s.number) suffix.0 stays above in
    let lacks : has r.number stays ≡ false = above_lacks r.number stays behind.back in
    ap (λ (ss : List ResourceData). numbers_of (filter (λ s. not (has s.number ss)) (r ∷ rest))) same
    ∙ rw lacks refl

within_less : (n m : ℕ) (limit : Option ℕ) → m ≤ n → is_within n limit ≡ true → is_within m limit ≡ true
within_less n m None less within = refl
within_less n m (Some most) less within = (let all : n ≤ most = leb-true n most within in le-leb m most (omega arith))

-- what follows the first of what fits does
pub fit_tail : (l : Limits) (new : Option ℕ) (r : ResourceData) (rs : List ResourceData) → do_fit l new (r ∷ rs) ≡ true → do_fit l new rs ≡ true
fit_tail l new r rs fits =
    let both = and_parts (is_within (length (r ∷ rs) + length (option_to_list new)) l.mni) (is_within (sum_by instance_size (r ∷ rs) + unwrap_or new 0) l.mbs) fits in
    let sum : sum_by instance_size (r ∷ rs) ≡ instance_size r + sum_by instance_size rs = sum_by-cons instance_size r rs in
    ap (λ b. b && is_within (sum_by instance_size rs + unwrap_or new 0) l.mbs) (within_less (length (r ∷ rs) + length (option_to_list new)) (length rs + length (option_to_list new)) l.mni (omega arith) both.0)
    ∙ within_less (sum_by instance_size (r ∷ rs) + unwrap_or new 0) (sum_by instance_size rs + unwrap_or new 0) l.mbs (omega (arith, sum)) both.1

-- what is left of what fits does
fit_less : (l : Limits) (new : Option ℕ) (p : ResourceData → Bool) (r : ResourceData) (rest : List ResourceData) → do_fit l new (filter p (r ∷ rest)) ≡ true → do_fit l new (filter p rest) ≡ true
fit_less l new p r rest fits = elim (cases_Bool (p r)) [
  | inl t ↦ fit_tail l new r (filter p rest) (rw t at fits)
  | inr f ↦ rw f at fits
]

-- what goes of some is what goes of the first, which goes where they don't fit or it is due, and
-- what goes of the rest
evicted_first : (l : Limits) (new : Option ℕ) (moment : ℕ) (r : ResourceData) (rest : List ResourceData) (fits : Bool) → ascend (r ∷ rest) ≡ true → fits ≡ do_fit l new (filter (lasts l.mia moment) (r ∷ rest)) → evicted l new moment (r ∷ rest) ≡ numbers_of (filter (goes (not fits) l.mia moment) (r ∷ [])) ++ evicted l new moment rest
evicted_first l new moment r rest false order is = evicted_unfit l new moment r rest order (sym is)
evicted_first l new moment r rest true order is =
    let later : numbers_of (filter (is_due_by l.mia moment) rest) ≡ evicted l new moment rest = sym (evicted_fit l new moment rest (ascend_parts r rest order).rest (fit_less l new (lasts l.mia moment) r rest (sym is))) in
    evicted_fit l new moment (r ∷ rest) order (sym is)
    ∙ elim (cases_Bool (is_due_by l.mia moment r)) [
      | inl t ↦ rw t (ap (λ (ns : List ℕ). r.number ∷ ns) later)
      | inr f ↦ rw f later
    ]

pub evicted_turn : (l : Limits) (new : Option ℕ) (moment : ℕ) (rs : List ResourceData) (k : ℕ) (o : Option ResourceData) (fits : Bool) → ascend rs ≡ true → o ≡ slice_get rs k → fits ≡ do_fit l new (filter (lasts l.mia moment) (drop k rs)) → evicted l new moment (drop k rs) ≡ numbers_of (filter (goes (not fits) l.mia moment) (option_to_list o)) ++ evicted l new moment (drop (k + 1) rs)
evicted_turn l new moment rs k None fits order at_k is =
    let none : drop k rs ≡ [] = dropped_none rs k (sym at_k) in
    let later : drop (k + 1) rs ≡ [] = sym (drop_step rs k ∙ ap (λ (x : Option ResourceData). option_to_list x ++ drop (k + 1) rs) (sym at_k)) ∙ none in
    ap (evicted l new moment) (none ∙ sym later)
evicted_turn l new moment rs k (Some r) fits order at_k is =
    let split : drop k rs ≡ r ∷ drop (k + 1) rs = dropped_some rs k r (sym at_k) in
    let whole : ascend (drop k rs) ≡ true = ascend_back (take k rs) (drop k rs) (ap ascend (take-append-drop k rs) ∙ order) in
    ap (evicted l new moment) split
    ∙ evicted_first l new moment r (drop (k + 1) rs) fits (ap ascend (sym split) ∙ whole) (is ∙ ap (λ (ss : List ResourceData). do_fit l new (filter (lasts l.mia moment) ss)) split)

-- the numbers so far and those that go of the rest are those that go
pub gone_turn : (l : Limits) (new : Option ℕ) (moment : ℕ) (rs : List ResourceData) (k : ℕ) (now after all : List ℕ) (o : Option ResourceData) (fits : Bool) → ascend rs ≡ true → o ≡ slice_get rs k → fits ≡ do_fit l new (filter (lasts l.mia moment) (drop k rs)) → now ++ evicted l new moment (drop k rs) ≡ all → after ≡ now ++ numbers_of (filter (goes (not fits) l.mia moment) (option_to_list o)) → after ++ evicted l new moment (drop (k + 1) rs) ≡ all
gone_turn l new moment rs k now after all o fits order at_k is rest pushed =
    let head = numbers_of (filter (goes (not fits) l.mia moment) (option_to_list o)) in
    let tail = evicted l new moment (drop (k + 1) rs) in
    ap (λ (ns : List ℕ). ns ++ tail) pushed
    ∙ append_assoc now head tail
    ∙ ap (λ (ns : List ℕ). now ++ ns) (sym (evicted_turn l new moment rs k o fits order at_k is))
    ∙ rest

-- behind the last no more goes
pub gone_all : (l : Limits) (new : Option ℕ) (moment : ℕ) (rs : List ResourceData) (k : ℕ) (now all : List ℕ) → length rs ≤ k → now ++ evicted l new moment (drop k rs) ≡ all → now ≡ all
gone_all l new moment rs k now all past rest =
    let nothing : evicted l new moment (drop k rs) ≡ [] = ap (evicted l new moment) (drop_all k rs past) in
    sym (append-nil now) ∙ ap (λ (ns : List ℕ). now ++ ns) (sym nothing) ∙ rest

-- ---- the law

pub longest_fits : (l : Limits) (new : Option ℕ) (rs : List ResourceData) → do_fit l new [] ≡ true → do_fit l new (longest_fit l new rs) ≡ true
longest_fits l new [] fits = ap (do_fit l new) (fit_none l new) ∙ fits
longest_fits l new (r ∷ rs) fits = elim (cases_Bool (do_fit l new (r ∷ rs))) [
  | inl t ↦ ap (do_fit l new) (fit_here l new (r ∷ rs) t) ∙ t
  | inr f ↦ rw f (longest_fits l new rs fits)
]

pub longest_longest : (l : Limits) (new : Option ℕ) (front rest : List ResourceData) → do_fit l new rest ≡ true → length rest ≤ length (longest_fit l new (front ++ rest))
longest_longest l new [] rest fits = (let is : length (longest_fit l new rest) ≡ length rest = ap length (fit_here l new rest fits) in omega arith)
longest_longest l new (r ∷ front) rest fits = elim (cases_Bool (do_fit l new (r ∷ (front ++ rest)))) [
  | inl t ↦
      let is : length (longest_fit l new (r ∷ (front ++ rest))) ≡ length (r ∷ (front ++ rest)) = ap length (fit_here l new (r ∷ (front ++ rest)) t) in
      let long : length (front ++ rest) ≡ length front + length rest = length-append front rest in
      omega arith
  | inr f ↦ rw f (longest_longest l new front rest fits)
]
