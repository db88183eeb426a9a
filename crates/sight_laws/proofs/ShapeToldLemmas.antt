-- What is told of an Update leaves equal shapes equal: who is told, and what is left to whom then, is
-- the same on the shape of a list.
use Rattle.sight_laws.proofs.Words.{◌==◌, codes, ◌≡◌, ℕ, ◌-◌, List, [], ◌∷◌, ◌++◌, map, Bool, true, false, cond, ◌&&◌, Option, Some, None, is_some, option_map, inl, inr, refl, sym, ap, ap₂, ◌∙◌, cons_option, option_and_then, option_map_or}
use Rattle.sight_laws.proofs.Terms.{Attr, Enc, Exc, AccessControlPolicy, RemoteCse, Subscription, Data, as_count, value_of, HomeData, ResourceData, is_ty, ChangeData, updated, at, is_kin, is_under, is_well_formed, without, member_at, is_attr_in, counted_anew, is_spent, left_at, left_to, lowered, nodes_spent, spent, DraftParts}
use Rattle.sight_laws.proofs.Facts.{and_parts, both_ways, cases_Bool, tree_from_well_formed, is_well_formed-without, told_in_shape}
use Rattle.tree_model.proofs.QuietLemmas.{number_passes}
use Rattle.equal_sights.specs.Alike.{shape_attrs}
use Rattle.equal_sights.specs.Seen.{hidden_value, seen_points, seen_rules}
use Rattle.equal_sights.specs.Shape.{shape_list, shape_of, shape_value}
use Rattle.policy_laws.proofs.SeenLemmas.{hidden_row}
use Rattle.policy_laws.proofs.ShapeAlikeLemmas.{at-shape, shape_kept}
use Rattle.policy_laws.proofs.ShapeKeptLemmas.{shape_counted-same, shape_left}
use Rattle.subscription_match.specs.Matching.{event_for, event_number, event_where, is_sub_of, is_update, lists_number, lists_one_of, looks_at}
use Rattle.subscription_match.specs.declared.events.EventKind.{EventKind}
use Rattle.subscription_match.specs.declared.events.EventKind.TheVariants.{UpdateOfResource}
use Rattle.sight_laws.proofs.ToldLemmas.{OnlySubsCount, anew_same, counter_from, for_whom, is_counter, lowered_at, numbers_told, numbers_told_all, same_counts, spent_same, subs_counted, without_counts}

module _ (home : HomeData) (nodes : List ResourceData) (o : List ℕ) where
  abbrev turn : ResourceData → ResourceData
  turn = shape_of home nodes o

  -- ---- who is told

  -- the shape keeps what a subscription looks for
  looks_kept : (sub : ResourceData) → is_ty sub.ty Subscription ≡ true → value_of Enc (shape_of home nodes o sub).attrs ≡ value_of Enc sub.attrs
  looks_kept sub is = shape_kept home nodes o sub Enc (told_in_shape sub.ty Enc (rw is refl))

  where_kept : (is : Bool) (kind : EventKind) (sub : ResourceData) → (is ≡ true → is_ty sub.ty Subscription ≡ true) → event_where is kind (shape_of home nodes o sub) ≡ event_where is kind sub
  where_kept false kind sub subscribes = refl
  where_kept true kind sub subscribes =
      ap (λ (d : Option Data). cond (option_map_or (lists_number (event_number kind)) (option_and_then (member_at (codes "net")) d) (is_update kind)) (Some kind) None) (looks_kept sub (subscribes refl))

  kin_is : (n : ℕ) (sub : ResourceData) → is_kin Subscription n sub ≡ true → is_ty sub.ty Subscription ≡ true
  kin_is n sub kin = (and_parts (is_under n sub) (is_ty sub.ty Subscription) kin).1

  event_kept : (going : List ℕ) (r s : ResourceData) (named : List Attr) (sub : ResourceData) → event_for going (updated r s named) (shape_of home nodes o sub) ≡ event_for going (updated r s named) sub
  event_kept going r s named sub = by (is_sub_of (Some s.number) sub) (kin_is s.number sub)
    where
      by : (own : Bool) → (own ≡ true → is_ty sub.ty Subscription ≡ true) → event_where (own && looks_at named (shape_of home nodes o sub)) UpdateOfResource (shape_of home nodes o sub) ≡ event_where (own && looks_at named sub) UpdateOfResource sub
      by false subscribes = refl
      by true subscribes =
          ap₂ (λ (atr net : Option Data). cond (option_map_or (lists_one_of named) (option_and_then (member_at (codes "atr")) atr) true && option_map_or (lists_number (event_number UpdateOfResource)) (option_and_then (member_at (codes "net")) net) (is_update UpdateOfResource)) (Some UpdateOfResource) None)
          (looks_kept sub (subscribes refl)) (looks_kept sub (subscribes refl))

  told_kept : (going : List ℕ) (change : ChangeData) → ((sub : ResourceData) → event_for going change (turn sub) ≡ event_for going change sub) → (subs : List ResourceData) → numbers_told going (map turn subs) change ≡ numbers_told going subs change
  told_kept going change same [] = refl
  told_kept going change same (sub ∷ subs) =
      ap₂ (λ (kind : Option EventKind) (ns : List ℕ). cons_option (option_map (λ (k : EventKind). sub.number) kind) ns) (same sub) (told_kept going change same subs)

  -- of an Update that pushes out nothing
  pub update_kept : (going : List ℕ) (r s : ResourceData) (named : List Attr) → numbers_told_all going (shape_list home nodes o) (updated r s named ∷ []) ≡ numbers_told_all going nodes (updated r s named ∷ [])
  update_kept going r s named = ap (λ (ns : List ℕ). ns ++ []) (told_kept going (updated r s named) (event_kept going r s named) nodes)

  -- ---- what is left to whom

  count_hidden : (r : ResourceData) → is_attr_in (shape_attrs r.ty) Exc ≡ false → (d : Data) → shape_value home o r Exc d ≡ None
  count_hidden r hides d =
      ap (λ b. cond b (Some d) (hidden_value home o r Exc d)) hides
      ∙ by (is_ty r.ty AccessControlPolicy) (is_ty r.ty RemoteCse)
    where
      by : (a b : Bool) → cond (a && false) (Some (seen_rules home o d)) (cond (b && false) (seen_points d) None) ≡ None
      by true true = refl
      by true false = refl
      by false true = refl
      by false false = refl

  left_kept : (r : ResourceData) → is_counter r ≡ true → left_to (shape_of home nodes o r) ≡ left_to r
  left_kept r is = elim (cases_Bool (is_attr_in (shape_attrs r.ty) Exc)) [
    | inl one ↦ ap (option_and_then as_count) (shape_kept home nodes o r Exc one)
    | inr hides ↦
        ap (option_and_then as_count) (hidden_row (shape_value home o r) Exc (count_hidden r hides) r.attrs)
        ∙ sym (none_left (left_to r) refl (no_sub hides))
  ]
    where
      no_sub : is_attr_in (shape_attrs r.ty) Exc ≡ false → is_ty r.ty Subscription ≡ false
      no_sub hides = elim (cases_Bool (is_ty r.ty Subscription)) [
        | inl t ↦ absurd (both_ways _ hides (told_in_shape r.ty Exc (rw t refl)))
        | inr f ↦ f
      ]

      none_left : (left : Option ℕ) → left_to r ≡ left → is_ty r.ty Subscription ≡ false → left_to r ≡ None
      none_left None none other = none
      none_left (Some left) some other = absurd (both_ways _ other (counter_from r is (ap is_some some)))

  left_at_kept : OnlySubsCount nodes → (n : ℕ) → left_at (shape_list home nodes o) n ≡ left_at nodes n
  left_at_kept counts n = ap (option_and_then left_to) (at-shape home nodes o n) ∙ by (at n nodes) refl
    where
      by : (p : Option ResourceData) → at n nodes ≡ p → option_and_then left_to (option_map (shape_of home nodes o) p) ≡ option_and_then left_to p
      by None found = refl
      by (Some r) found = left_kept r (number_passes is_counter n nodes r counts found)

-- ---- equal shapes

module _ (home : HomeData) (o : List ℕ) (xs ys : List ResourceData) (wellx : is_well_formed xs ≡ true) (welly : is_well_formed ys ≡ true) (countx : OnlySubsCount xs) (county : OnlySubsCount ys) (same : shape_list home xs o ≡ shape_list home ys o) where
  left_at_both : (n : ℕ) → left_at xs n ≡ left_at ys n
  left_at_both n =
      sym (left_at_kept home xs o countx n) ∙ ap (λ (rs : List ResourceData). left_at rs n) same ∙ left_at_kept home ys o county n

  module _ (drafts others : List DraftParts) (whom : for_whom drafts ≡ for_whom others) where
    -- where those that are spent go
    gone_both : shape_list home (without (is_spent drafts) xs) o ≡ shape_list home (without (is_spent others) ys) o
    gone_both =
        shape_left home xs o wellx (is_spent drafts) (is_spent drafts) (λ r found.
        spent_same drafts drafts refl (shape_of home xs o r) r refl (left_kept home xs o r (number_passes is_counter r.number xs r countx found)))
        ∙ ap (without (is_spent drafts)) same
        ∙ sym (shape_left home ys o welly (is_spent others) (is_spent drafts) (λ r found.
        spent_same drafts others whom (shape_of home ys o r) r refl (left_kept home ys o r (number_passes is_counter r.number ys r county found))))

    spent_at_both : (n : ℕ) → spent xs drafts n ≡ spent ys others n
    spent_at_both n =
        ap₂ (λ (k : ℕ) (l : Option ℕ). cond (k == 0) None (option_map (λ left. left - k) l)) (same_counts drafts others whom n) (left_at_both n)

    -- and the others that count are lowered
    lowered_both : shape_list home (map (lowered drafts) xs) o ≡ shape_list home (map (lowered others) ys) o
    lowered_both =
        ap (λ (rs : List ResourceData). shape_list home rs o) (lowered_at drafts xs (tree_from_well_formed xs wellx))
        ∙ shape_counted-same home xs ys o (spent xs drafts) wellx welly (subs_counted drafts xs countx) same
        ∙ ap (λ (rs : List ResourceData). shape_list home rs o) (anew_same (spent xs drafts) (spent ys others) spent_at_both ys ∙ sym (lowered_at others ys (tree_from_well_formed ys welly)))

-- what drafts for the same leave has one shape
pub spent-shaped : (home : HomeData) (o : List ℕ) (xs ys : List ResourceData) (drafts others : List DraftParts) → is_well_formed xs ≡ true → is_well_formed ys ≡ true → OnlySubsCount xs → OnlySubsCount ys → shape_list home xs o ≡ shape_list home ys o → for_whom drafts ≡ for_whom others → shape_list home (nodes_spent drafts xs) o ≡ shape_list home (nodes_spent others ys) o
spent-shaped home o xs ys drafts others wellx welly countx county same whom =
    lowered_both home o (without (is_spent drafts) xs) (without (is_spent others) ys)
    (is_well_formed-without (is_spent drafts) xs wellx) (is_well_formed-without (is_spent others) ys welly)
    (without_counts (is_spent drafts) xs countx) (without_counts (is_spent others) ys county)
    (gone_both home o xs ys wellx welly countx county same drafts others whom) drafts others whom
