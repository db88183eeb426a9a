-- How many of the oldest instances stand outside the longest suffix that fits.
use Rattle.std.specs.Prelude.{nat_le}
use Rattle.std.proofs.Common.{◌≡◌, ◌≢◌, ℕ, zero, suc, ◌+◌, ◌-◌, ◌<◌, ◌≤◌, List, [], ◌∷◌, ◌++◌, length, take, drop, Bool, true, false, not, Option, Some, None, option_to_list, inl, inr, refl, sym, ap, ◌∙◌, arith, length-drop}
use Rattle.std.proofs.lemmas.Bool.{cases_Bool, false≢true, leb-true, leb-false}
use Rattle.std.proofs.lemmas.List.{append-nil, drop_all, take-append-drop}
use Rattle.std.proofs.lemmas.List.Sums.{sum_by-append}
use Rattle.std.proofs.Math.Numerals.{suc-eq-add-one}
use Rattle.std.specs.List.{filter, list_any, slice_get, sum_by}
use Rattle.std.specs.Option.{option_map_or}
use Rattle.resource_model.specs.Resource.{ResourceData}
use Rattle.tree_model.specs.Tree.{has, instance_size, number_at}
use Rattle.container_limits.specs.Limits.{do_fit, longest_fit, is_due_by, lasts, kept, evicted, numbers_of}
use Rattle.container_limits.specs.declared.limits.Limits.{Limits}
use Rattle.tree_model.proofs.OrderLemmas.{ascend}
use Rattle.tree_model.proofs.StepLemmas.{drop_step, not_not}
use Rattle.container_limits.proofs.LimitLemmas.{all_last, fit_here, fit_none, fit_tail, none_end, none_later}
use Rattle.container_limits.proofs.PlaceLemmas.{lacked_all}
use Rattle.m2m_names.proofs.ListLemmas.{filter_same}

-- ---- what goes

-- where of those from a place on all stay that aren't due, those before it go, and of the rest
-- those that are due
pub gone_behind : (l : Limits) (new : Option ℕ) (moment : ℕ) (rs : List ResourceData) (n : ℕ) → ascend rs ≡ true → kept l new moment rs ≡ filter (lasts l.mia moment) (drop n rs) → evicted l new moment rs ≡ numbers_of (take n rs ++ filter (is_due_by l.mia moment) (drop n rs))
gone_behind l new moment rs n order stay =
    let last = lasts l.mia moment in
    let back = filter last (drop n rs) in
    let split : take n rs ++ drop n rs ≡ rs = take-append-drop n rs in
    ap (λ (ss : List ResourceData). numbers_of (filter (λ r. not (has r.number ss)) rs)) stay
    ∙ ap (λ (ss : List ResourceData). numbers_of (filter (λ r. not (has r.number back)) ss)) (sym split)
    ∙ ap numbers_of (lacked_all last (take n rs) (drop n rs) (ap ascend split ∙ order))
    ∙ ap (λ (ss : List ResourceData). numbers_of (take n rs ++ ss)) (filter_same (λ (r : ResourceData). not (last r)) (is_due_by l.mia moment) (λ r. not_not (is_due_by l.mia moment r)) (drop n rs))

-- where none is due, the oldest ones go that stand outside
pub gone_outside : (l : Limits) (new : Option ℕ) (moment : ℕ) (rs : List ResourceData) (n : ℕ) → ascend rs ≡ true → list_any (is_due_by l.mia moment) rs ≡ false → longest_fit l new rs ≡ drop n rs → evicted l new moment rs ≡ numbers_of (take n rs)
gone_outside l new moment rs n order none outside =
    let rest = none_later l.mia moment n rs none in
    let stay : kept l new moment rs ≡ filter (lasts l.mia moment) (drop n rs) = ap (longest_fit l new) (all_last l.mia moment rs none) ∙ outside ∙ sym (all_last l.mia moment (drop n rs) rest) in
    gone_behind l new moment rs n order stay
    ∙ ap (λ (ss : List ResourceData). numbers_of (take n rs ++ ss)) (none_end l.mia moment (drop n rs) rest)
    ∙ ap numbers_of (append-nil (take n rs))

-- ---- the numbers of the oldest ones

next_suc : (rs : List ResourceData) (k : ℕ) → numbers_of (take (suc k) rs) ≡ numbers_of (take k rs) ++ option_to_list (number_at k rs)
next_suc [] zero = refl
next_suc [] (suc k) = refl
next_suc (r ∷ rs) zero = refl
next_suc (r ∷ rs) (suc k) = ap (λ (ns : List ℕ). r.number ∷ ns) (next_suc rs k)

-- one more of them is that at the next place
pub next_number : (rs : List ResourceData) (k : ℕ) → numbers_of (take (k + 1) rs) ≡ numbers_of (take k rs) ++ option_to_list (number_at k rs)
next_number rs k = ap (λ n. numbers_of (take n rs)) (sym (suc-eq-add-one k)) ∙ next_suc rs k

-- where one stands at a place before so many, some are among these
pub some_number : (rs : List ResourceData) (k n : ℕ) → k < n → option_to_list (number_at k rs) ≢ [] → numbers_of (take n rs) ≢ []
some_number [] zero n less some = absurd (some refl)
some_number [] (suc k) n less some = absurd (some refl)
some_number (r ∷ rs) k zero less some = absurd (omega (arith, less))
some_number (r ∷ rs) k (suc n) less some = λ e. cc

-- ---- by their count

module _ (most : ℕ) (mia new : Option ℕ) where
  abbrev counting : Limits
  counting = record { mni = Some most; mbs = None; mia = mia }

  abbrev room : ℕ
  room = most - length (option_to_list new)

  counted : (rs : List ResourceData) → longest_fit counting new rs ≡ drop (length rs - room) rs
  counted [] = fit_none counting new ∙ sym (drop_all (0 - room) [] (omega arith))
  counted (r ∷ rs) = elim (cases_Bool (nat_le (length (r ∷ rs) + length (option_to_list new)) most)) [
    | inl t ↦
        let few = leb-true (length (r ∷ rs) + length (option_to_list new)) most t in
        let none : 0 ≡ length (r ∷ rs) - room = omega (arith, few) in
        let fits : do_fit counting new (r ∷ rs) ≡ true = rw t refl in
        fit_here counting new (r ∷ rs) fits ∙ ap (λ n. drop n (r ∷ rs)) none
    | inr f ↦
        let many = leb-false (length (r ∷ rs) + length (option_to_list new)) most f in
        let one : suc (length rs - room) ≡ length (r ∷ rs) - room = omega (arith, many) in
        let over : do_fit counting new (r ∷ rs) ≡ false = rw f refl in
        let later : longest_fit counting new (r ∷ rs) ≡ longest_fit counting new rs = rw over refl in
        later ∙ counted rs ∙ ap (λ n. drop n (r ∷ rs)) one
  ]

counted_by : (mni mbs mia new : Option ℕ) (rs : List ResourceData) → mbs ≡ None → longest_fit (record { mni = mni; mbs = mbs; mia = mia }) new rs ≡ drop (option_map_or (λ most. length rs - (most - length (option_to_list new))) mni 0) rs
counted_by None None mia new [] e = refl
counted_by None None mia new (r ∷ rs) e = refl
counted_by (Some most) None mia new rs e = counted most mia new rs
counted_by mni (Some bytes) mia new rs e = cc

-- where the sum of sizes has no limit, those are outside that are too many
pub outside_counted : (l : Limits) (new : Option ℕ) (rs : List ResourceData) → l.mbs ≡ None → longest_fit l new rs ≡ drop (option_map_or (λ most. length rs - (most - length (option_to_list new))) l.mni 0) rs
outside_counted l new rs e = counted_by l.mni l.mbs l.mia new rs e

-- ---- by their sizes

-- what stands later in what fits does
fits_later : (l : Limits) (new : Option ℕ) (k : ℕ) (rs : List ResourceData) → do_fit l new rs ≡ true → do_fit l new (drop k rs) ≡ true
fits_later l new zero rs fits = fits
fits_later l new (suc k) [] fits = fits
fits_later l new (suc k) (r ∷ rs) fits = fits_later l new k rs (fit_tail l new r rs fits)

over_suc : (l : Limits) (new : Option ℕ) (k : ℕ) (rs : List ResourceData) → do_fit l new (drop k rs) ≡ false → longest_fit l new rs ≡ longest_fit l new (drop (suc k) rs)
over_suc l new zero [] over = refl
over_suc l new zero (r ∷ rs) over = rw over refl
over_suc l new (suc k) [] over = refl
over_suc l new (suc k) (r ∷ rs) over = elim (cases_Bool (do_fit l new (r ∷ rs))) [
  | inl t ↦ absurd (false≢true (sym over ∙ fits_later l new (suc k) (r ∷ rs) t))
  | inr f ↦ rw f (over_suc l new k rs over)
]

-- where what stands from a place on doesn't fit, what stays stands behind that place
pub outside_over : (l : Limits) (new : Option ℕ) (k : ℕ) (rs : List ResourceData) → do_fit l new (drop k rs) ≡ false → longest_fit l new rs ≡ longest_fit l new (drop (k + 1) rs)
outside_over l new k rs over = over_suc l new k rs over ∙ ap (λ n. longest_fit l new (drop n rs)) (suc-eq-add-one k)

-- from a place on there is one more than behind it, and its size more
pub one_more : (k : ℕ) (rs : List ResourceData) → k < length rs → length (drop k rs) ≡ length (drop (k + 1) rs) + 1
one_more k rs within = omega (arith, within, length-drop k rs, length-drop (k + 1) rs)

pub size_more : (k : ℕ) (rs : List ResourceData) → sum_by instance_size (drop k rs) ≡ sum_by instance_size (option_to_list (slice_get rs k)) + sum_by instance_size (drop (k + 1) rs)
size_more k rs = ap (sum_by instance_size) (drop_step rs k) ∙ sum_by-append instance_size (option_to_list (slice_get rs k)) (drop (k + 1) rs)

-- what stands from a place on is no larger than all
pub part_small : (k : ℕ) (rs : List ResourceData) → sum_by instance_size (drop k rs) ≤ sum_by instance_size rs
part_small k rs =
    let split : sum_by instance_size rs ≡ sum_by instance_size (take k rs) + sum_by instance_size (drop k rs) = ap (sum_by instance_size) (sym (take-append-drop k rs)) ∙ sum_by-append instance_size (take k rs) (drop k rs) in
    omega (arith, split)

-- one more of the newest: there is one more of them, and its size more
pub newest_turn : (rs : List ResourceData) (n k : ℕ) → n ≡ length rs → k < n → (length (drop (n - (k + 1)) rs) ≡ length (drop (n - k) rs) + 1) × (sum_by instance_size (drop (n - (k + 1)) rs) ≡ sum_by instance_size (option_to_list (slice_get rs (n - (k + 1)))) + sum_by instance_size (drop (n - k) rs))
newest_turn rs n k is less =
    let place = n - (k + 1) in
    let next : place + 1 ≡ n - k = omega (arith, less) in (
      one_more place rs (omega (arith, is, less)) ∙ ap (λ m. length (drop m rs) + 1) next,
      size_more place rs ∙ ap (λ m. sum_by instance_size (option_to_list (slice_get rs place)) + sum_by instance_size (drop m rs)) next,
    )
