-- What is overdue, by the line of each resource.
use Rattle.std.proofs.Common.{◌≡◌, ◌≢◌, ℕ, ◌+◌, ◌<◌, List, [], ◌∷◌, ◌++◌, drop, Bool, true, false, not, ◌&&◌, ◌||◌, Some, None, option_to_list, refl, sym, ap, ◌∙◌, arith, append_assoc}
use Rattle.std.proofs.lemmas.Bool.{and_parts}
use Rattle.std.proofs.lemmas.List.{map-append}
use Rattle.std.proofs.lemmas.List.Elements.{filter-append}
use Rattle.std.specs.List.{filter, list_all, list_any, slice_get}
use Rattle.resource_model.specs.Resource.{ResourceData}
use Rattle.tree_model.specs.Tree.{at, has, line_of, is_due, is_spared, live, are_quiet, is_tree, numbers_of, overdue_numbers}
use Rattle.tree_model.proofs.ChangeLemmas.{line_none}
use Rattle.tree_model.proofs.GrowthLemmas.{stands, has-without}
use Rattle.tree_model.proofs.QuietLemmas.{all_by_number, quiet_live}
use Rattle.tree_model.proofs.TreeLemmas.{at_has, at_number, has_from_at}
use Rattle.tree_model.proofs.StepLemmas.{drop_step, not_not, some_part}

-- ---- the line

module _ (nodes : List ResourceData) (moment : ℕ) (tree : is_tree nodes ≡ true) where
  abbrev due_at : ResourceData → Bool
  due_at r = is_due nodes moment r

  pub parent_found : (r p : ResourceData) → at r.parent nodes ≡ Some p → at p.number nodes ≡ Some p
  parent_found r p up = ap (λ n. at n nodes) (at_number r.parent nodes p up) ∙ up

  -- what isn't live has something due in its line
  gone_by_line : (r : ResourceData) → at r.number nodes ≡ Some r → list_any due_at (line_of r.number nodes) ≡ not (has r.number (live moment nodes))
  gone_by_line r found =
      let left : has r.number (live moment nodes) ≡ is_spared due_at nodes r.number = has-without due_at r.number nodes tree ∙ ap (λ b. b && is_spared due_at nodes r.number) (at_has r.number nodes r found) in
      sym (ap not left ∙ not_not (list_any due_at (line_of r.number nodes)))

  -- it is gone where it is due, or something in the line of its parent
  gone_by_parts : (r : ResourceData) → at r.number nodes ≡ Some r → (due_at r || list_any due_at (line_of r.parent nodes)) ≡ not (has r.number (live moment nodes))
  gone_by_parts r found = sym (ap (list_any due_at) (stands nodes tree r.number r found).line) ∙ gone_by_line r found

  pub gone_here : (r : ResourceData) → at r.number nodes ≡ Some r → due_at r ≡ true → true ≡ not (has r.number (live moment nodes))
  gone_here r found due = sym (ap (λ b. b || list_any due_at (line_of r.parent nodes)) due) ∙ gone_by_parts r found

  pub gone_above : (r p : ResourceData) (b : Bool) → at r.number nodes ≡ Some r → due_at r ≡ false → at r.parent nodes ≡ Some p → b ≡ not (has p.number (live moment nodes)) → b ≡ not (has r.number (live moment nodes))
  gone_above r p b found not_due up is =
      is ∙ sym (gone_by_line p (parent_found r p up))
      ∙ ap (λ n. list_any due_at (line_of n nodes)) (at_number r.parent nodes p up)
      ∙ sym (ap (λ x. x || list_any due_at (line_of r.parent nodes)) not_due)
      ∙ gone_by_parts r found

  pub gone_nowhere : (r : ResourceData) → at r.number nodes ≡ Some r → due_at r ≡ false → at r.parent nodes ≡ None → false ≡ not (has r.number (live moment nodes))
  gone_nowhere r found not_due none =
      let nothing : line_of r.parent nodes ≡ [] = line_none r.parent nodes tree (has_from_at r.parent nodes none) in
      sym (ap (λ x. x || list_any due_at (line_of r.parent nodes)) not_due ∙ ap (list_any due_at) nothing)
      ∙ gone_by_parts r found

  pub parent_less : (r p : ResourceData) → at r.number nodes ≡ Some r → at r.parent nodes ≡ Some p → p.number < r.number
  parent_less r p found up =
      let is : p.number ≡ r.parent = at_number r.parent nodes p up in
      let above : r.parent < r.number = (stands nodes tree r.number r found).above in
      omega arith

  all_there : list_all (λ r. has r.number nodes) nodes ≡ true
  all_there = all_by_number (λ r. has r.number nodes) nodes tree (λ r found. at_has r.number nodes r found)

  -- where all are live, nothing is overdue
  pub all_live : live moment nodes ≡ nodes → overdue_numbers moment nodes ≡ []
  all_live whole =
      ap (λ (left : List ResourceData). numbers_of (filter (λ r. not (has r.number left)) nodes)) whole
      ∙ ap numbers_of (none_out (λ r. has r.number nodes) nodes all_there)
    where
      none_out : (q : ResourceData → Bool) (rs : List ResourceData) → list_all q rs ≡ true → filter (λ r. not (q r)) rs ≡ []
      none_out q [] all = refl
      none_out q (r ∷ rs) all = let parts = and_parts (q r) (list_all q rs) all in rw parts.0 (none_out q rs parts.1)

  -- and so it is where nothing is due
  pub none_overdue : (until : ℕ) → are_quiet until nodes ≡ true → moment < until → overdue_numbers moment nodes ≡ []
  none_overdue until quiet before = all_live (quiet_live nodes until moment tree quiet before)

-- ---- one step along the list

pub over_split : (q : ResourceData → Bool) (rs : List ResourceData) (k : ℕ) → numbers_of (filter q (drop k rs)) ≡ numbers_of (filter q (option_to_list (slice_get rs k))) ++ numbers_of (filter q (drop (k + 1) rs))
over_split q rs k =
    let head = filter q (option_to_list (slice_get rs k)) in
    let tail = filter q (drop (k + 1) rs) in
    ap numbers_of (ap (filter q) (drop_step rs k) ∙ filter-append q (option_to_list (slice_get rs k)) (drop (k + 1) rs))
    ∙ map-append (λ (r : ResourceData). r.number) head tail

pub over_turn : (q : ResourceData → Bool) (rs : List ResourceData) (k : ℕ) (now after all : List ℕ) → now ++ numbers_of (filter q (drop k rs)) ≡ all → after ≡ now ++ numbers_of (filter q (option_to_list (slice_get rs k))) → after ++ numbers_of (filter q (drop (k + 1) rs)) ≡ all
over_turn q rs k now after all rest pushed =
    let head = filter q (option_to_list (slice_get rs k)) in
    let tail = filter q (drop (k + 1) rs) in
    ap (λ (ns : List ℕ). ns ++ numbers_of tail) pushed
    ∙ append_assoc now (numbers_of head) (numbers_of tail)
    ∙ ap (λ (ns : List ℕ). now ++ ns) (sym (over_split q rs k))
    ∙ rest

-- where the resource at a place is overdue, something is
pub over_some : (q : ResourceData → Bool) (rs : List ResourceData) (k : ℕ) (now all : List ℕ) → now ++ numbers_of (filter q (drop k rs)) ≡ all → numbers_of (filter q (option_to_list (slice_get rs k))) ≢ [] → all ≢ []
over_some q rs k now all rest some =
    some_part now (numbers_of (filter q (option_to_list (slice_get rs k)))) (numbers_of (filter q (drop (k + 1) rs))) all
    (ap (λ (ns : List ℕ). now ++ ns) (sym (over_split q rs k)) ∙ rest) some
