-- What is kept of what subscriptions are told, and how much is left.
use Rattle.std.specs.Prelude.{nat_lt, nat_eq, filter, is_some, map}
use Rattle.std.proofs.Common.{◌≡◌, ℕ, ◌+◌, ◌-◌, ◌<◌, ◌≤◌, List, [], ◌∷◌, ◌++◌, Bool, true, false, Option, Some, None, refl, sym, ap, ◌∙◌, inl, inr, arith}
use Rattle.std.proofs.lemmas.Bool.{cases_Bool, eqb-true, ltb-true, ltb-false, both_ways}
use Rattle.std.proofs.lemmas.List.Elements.{filter-append, filter_map-append}
use Rattle.std.proofs.lemmas.List.{map-append}
use Rattle.std.specs.List.{filter_map}
use Rattle.std.specs.Option.{option_map_or}
use Rattle.resource_model.specs.Home.{HomeData}
use Rattle.resource_model.specs.Resource.{ResourceData}
use Rattle.tree_model.specs.Changes.{ChangeData}
use Rattle.subscription_match.specs.Matching.{event_for}
use Rattle.subscription_match.specs.Notices.{told}
use Rattle.subscription_match.specs.Spending.{count_for, has_left, is_for, is_kept, kept_after, left_at}
use Rattle.subscription_match.specs.declared.drafts.DraftParts.{DraftParts}
use Rattle.subscription_match.specs.declared.events.EventKind.{EventKind}
use Rattle.subscription_match.proofs.SpendingLemmas.{count_other, count_own}

-- ---- who is told

told_one : (home : HomeData) (nodes : List ResourceData) (going : List ℕ) (change : ChangeData) (r : ResourceData) (o : Option EventKind) → event_for going change r ≡ o → map (λ (d : DraftParts). d.subscription) (filter_map (told home nodes going change) (r ∷ [])) ≡ map (λ (s : ResourceData). Some s.number) (filter (λ s. is_some (event_for going change s)) (r ∷ []))
told_one home nodes going change r None is = rw is refl
told_one home nodes going change r (Some kind) is = rw is refl

-- a draft is for each subscription that matches, in their order
pub told_match : (home : HomeData) (nodes : List ResourceData) (going : List ℕ) (change : ChangeData) (rs : List ResourceData) → map (λ (d : DraftParts). d.subscription) (filter_map (told home nodes going change) rs) ≡ map (λ (s : ResourceData). Some s.number) (filter (λ s. is_some (event_for going change s)) rs)
told_match home nodes going change [] = refl
told_match home nodes going change (r ∷ rs) =
    let h = told home nodes going change in
    let p : ResourceData → Bool = λ s. is_some (event_for going change s) in
    ap (map (λ (d : DraftParts). d.subscription)) (filter_map-append h (r ∷ []) rs)
    ∙ map-append (λ (d : DraftParts). d.subscription) (filter_map h (r ∷ [])) (filter_map h rs)
    ∙ ap (λ (xs : List (Option ℕ)). xs ++ map (λ (d : DraftParts). d.subscription) (filter_map h rs)) (told_one home nodes going change r (event_for going change r) refl)
    ∙ ap (λ (xs : List (Option ℕ)). map (λ (s : ResourceData). Some s.number) (filter p (r ∷ [])) ++ xs) (told_match home nodes going change rs)
    ∙ sym (map-append (λ (s : ResourceData). Some s.number) (filter p (r ∷ [])) (filter p rs))
    ∙ ap (map (λ (s : ResourceData). Some s.number)) (sym (filter-append p (r ∷ []) rs))

-- ---- how much is kept

count_next : (n : ℕ) (draft : DraftParts) (drafts : List DraftParts) → is_for n draft ≡ true → count_for n (draft ∷ drafts) ≡ count_for n drafts + 1
count_next n draft drafts own = rw own (omega arith)

count_skip : (n : ℕ) (draft : DraftParts) (drafts : List DraftParts) → is_for n draft ≡ false → count_for n (draft ∷ drafts) ≡ count_for n drafts
count_skip n draft drafts other = rw other refl

-- one for a subscription that counts is kept where fewer were told it than were left
kept_own : (nodes : List ResourceData) (n left : ℕ) (earlier : List DraftParts) (draft : DraftParts) (o : Option ℕ) → draft.subscription ≡ o → left_at nodes n ≡ Some left → option_map_or (λ m. nat_eq m n) o false ≡ true → is_kept nodes earlier draft ≡ nat_lt (count_for n earlier) left
kept_own nodes n left earlier draft None is there own = absurd (both_ways _ refl own)
kept_own nodes n left earlier draft (Some m) is there own =
    let e : m ≡ n = eqb-true m n own in
    rw is (ap (has_left nodes earlier) e ∙ rw there refl)

-- what is kept and what is left then add up to what was left
pub kept_count : (nodes : List ResourceData) (n left : ℕ) → left_at nodes n ≡ Some left → (drafts earlier : List DraftParts) → count_for n (kept_after nodes earlier drafts) + (left - (count_for n earlier + count_for n drafts)) ≡ left - count_for n earlier
kept_count nodes n left there [] earlier = omega arith
kept_count nodes n left there (draft ∷ drafts) earlier =
    let rest = kept_count nodes n left there drafts (earlier ++ draft ∷ []) in
    let after = kept_after nodes (earlier ++ draft ∷ []) drafts in
    elim (cases_Bool (is_for n draft)) [
      | inl t ↦
          let more = count_own n earlier draft t in
          let all = count_next n draft drafts t in
          let keeps = kept_own nodes n left earlier draft draft.subscription refl there t in
          elim (cases_Bool (nat_lt (count_for n earlier) left)) [
            | inl l ↦
                let less : count_for n earlier < left = ltb-true (count_for n earlier) left l in
                let one = count_next n draft after t in
                rw (keeps ∙ l) (omega (arith, rest, more, all, one, less))
            | inr f ↦
                let most : left ≤ count_for n earlier = ltb-false (count_for n earlier) left f in
                rw (keeps ∙ f) (omega (arith, rest, more, all, most))
          ]
      | inr f ↦
          let same = count_other n earlier draft f in
          let all = count_skip n draft drafts f in
          elim (cases_Bool (is_kept nodes earlier draft)) [
            | inl k ↦ (let none = count_skip n draft after f in rw k (omega (arith, rest, same, all, none)))
            | inr g ↦ rw g (omega (arith, rest, same, all))
          ]
    ]
