-- What look-ups find.
use Rattle.std.specs.Prelude.{nat_lt}
use Rattle.std.proofs.Common.{◌≡◌, ℕ, suc, ◌-◌, ◌<◌, List, [], ◌∷◌, ◌++◌, length, reverse, find, get_or, Bool, true, false, ◌&&◌, Option, Some, None, is_some, inl, inr, refl, sym, ap, ◌∙◌, arith}
use Rattle.std.proofs.lemmas.Bool.{cases_Bool, and_from, and_right, ltb-true, lt-ltb}
use Rattle.std.proofs.lemmas.List.{reverse-append}
use Rattle.std.proofs.lemmas.List.Folds.{find-append, list_all-append}
use Rattle.std.proofs.lemmas.Option.{slice_get-get_or}
use Rattle.std.specs.List.{filter, slice_get, list_any}
use Rattle.std.specs.Option.{option_map_or, option_or}
use Rattle.resource_model.specs.Resource.{ResourceData}
use Rattle.tree_model.specs.Tree.{resource_number, last_number, same_text, are_below, may_stand, is_tree}
use Rattle.tree_model.proofs.GrowthLemmas.{growth, next_fits}
use Rattle.m2m_names.proofs.ListLemmas.{all_weaker}
use Rattle.m2m_names.proofs.LookupLemmas.{option_or-None}

-- ---- the last of a filter

-- the last element
abbrev end_of : List ResourceData → Option ResourceData
end_of rs = slice_get rs (length rs - 1)

end-cons : (r : ResourceData) (rs : List ResourceData) → option_or (end_of rs) (Some r) ≡ end_of (r ∷ rs)
end-cons r [] = refl
end-cons r (s ∷ rs) =
    let short : suc (length rs) - 1 ≡ length rs = omega arith in
    let long : suc (suc (length rs)) - 1 ≡ suc (length rs) = omega arith in
    let here : slice_get (s ∷ rs) (length rs) ≡ Some (get_or (s ∷ rs) (length rs) s) = slice_get-get_or (s ∷ rs) (length rs) s (omega arith) in
    ap (λ k. option_or (slice_get (s ∷ rs) k) (Some r)) short
    ∙ ap (λ (o : Option ResourceData). option_or o (Some r)) here
    ∙ sym here
    ∙ ap (λ k. slice_get (r ∷ s ∷ rs) k) (sym long)

last-found : (p : ResourceData → Bool) (nodes : List ResourceData) → find p (reverse nodes) ≡ end_of (filter p nodes)
last-found p [] = refl
last-found p (r ∷ nodes) =
    let turned : find p (reverse (r ∷ nodes)) ≡ option_or (find p (reverse nodes)) (find p (r ∷ [])) =
    ap (find p) (reverse-append (r ∷ []) nodes) ∙ find-append p (reverse nodes) (r ∷ []) in
    let known : find p (reverse (r ∷ nodes)) ≡ option_or (end_of (filter p nodes)) (find p (r ∷ [])) =
    turned ∙ ap (λ (o : Option ResourceData). option_or o (find p (r ∷ []))) (last-found p nodes) in
    known ∙ elim (cases_Bool (p r)) [
      | inl t ↦ rw t (end-cons r (filter p nodes))
      | inr f ↦ rw f (option_or-None (end_of (filter p nodes)))
    ]

-- the last of what grew is what came last
end-push : (rs : List ResourceData) (r : ResourceData) → end_of (rs ++ r ∷ []) ≡ Some r
end-push [] r = refl
end-push (s ∷ rs) r = sym (end-cons s (rs ++ r ∷ [])) ∙ ap (λ (o : Option ResourceData). option_or o (Some s)) (end-push rs r)

-- the first from the end is the last
pub last_from_the_end : (p : ResourceData → Bool) (nodes : List ResourceData) → resource_number (find p (reverse nodes)) ≡ last_number (filter p nodes)
last_from_the_end p nodes = ap resource_number (last-found p nodes)

-- ---- whether something is found

pub any_found : (p : ResourceData → Bool) (nodes : List ResourceData) → list_any p nodes ≡ is_some (resource_number (find p nodes))
any_found p [] = refl
any_found p (r ∷ nodes) = elim (cases_Bool (p r)) [
  | inl t ↦ rw t refl
  | inr f ↦ rw f (any_found p nodes)
]

none_same : (text : Option (List ℕ)) → same_text text None ≡ false
none_same None = refl
none_same (Some text) = refl

-- where there is no text, none has it
pub no_text_found : (id : ResourceData → Option (List ℕ)) (nodes : List ResourceData) → list_any (λ s. same_text (id s) None) nodes ≡ false
no_text_found id [] = refl
no_text_found id (r ∷ nodes) = rw (none_same (id r)) (no_text_found id nodes)

-- ---- numbers ascend, so that the last is the greatest

below_wider : (m n : ℕ) (nodes : List ResourceData) → m < n → are_below m nodes ≡ true → are_below n nodes ≡ true
below_wider m n nodes less below = all_weaker (λ (r : ResourceData). nat_lt r.number m) (λ (r : ResourceData). nat_lt r.number n) (λ r lower. lt-ltb r.number n (let small : r.number < m = ltb-true r.number m lower in omega arith)) nodes below

abbrev last_below : ℕ → Option ResourceData → Bool
last_below n o = option_map_or (λ (r : ResourceData). nat_lt r.number n) o true

pub below_last : (n : ℕ) (nodes : List ResourceData) → is_tree nodes ≡ true → are_below n nodes ≡ option_map_or (λ (r : ResourceData). nat_lt r.number n) (slice_get nodes (length nodes - 1)) true
below_last n = growth may_stand (λ nodes. are_below n nodes ≡ last_below n (end_of nodes)) refl (λ before r grew next holds.
    let split : are_below n (before ++ r ∷ []) ≡ (are_below n before && (nat_lt r.number n && true)) = list_all-append _ before (r ∷ []) in
    let end : last_below n (end_of (before ++ r ∷ [])) ≡ nat_lt r.number n = ap (last_below n) (end-push before r) in
    split ∙ elim (cases_Bool (nat_lt r.number n)) [
      | inl t ↦
          let wide : are_below n before ≡ true = below_wider r.number n before (ltb-true r.number n t) (next_fits before r next).number in
          and_from _ _ wide (and_from _ _ t refl) ∙ sym (end ∙ t)
      | inr f ↦ ap (λ b. are_below n before && (b && true)) f ∙ and_right (are_below n before) false refl ∙ sym (end ∙ f)
    ])
