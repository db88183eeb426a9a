-- What is told of changes leaves equal sights equal: who is told how often, and what is left to whom
-- then, is the same on what an originator sees.
use Rattle.sight_laws.proofs.Words.{◌==◌, codes, nat_eq, ◌≡◌, ℕ, suc, ◌-◌, List, [], ◌∷◌, ◌++◌, map, length, filter, Bool, true, false, cond, not, ◌&&◌, ◌||◌, Option, Some, None, is_some, option_map, inl, inr, refl, sym, ap, ap₂, ◌∙◌, cons_option, filter_map, flat_map, list_all, option_and_then, option_map_or, option_or}
use Rattle.sight_laws.proofs.Terms.{Attr, Enc, Exc, Su, Subscription, Data, as_count, text_at, value_of, HomeData, ResourceData, is_ty, ChangeData, created, updated, deleted, creation_changes, those_of, update_changes, at, has, is_kin, is_numbered_in, is_tree, is_under, is_well_formed, live, numbers_of, overdue_numbers, recounted, without, member_at, CountsSubscriptions, counted_anew, is_shown, seen, seen_list, notes_of, notes_of_all, notice_of, notice_to, notices, told, told_as, count_for, is_spent, left_at, left_to, lowered, nodes_spent, spent, DraftParts, EntityData, IsSoundEntity, only_in}
use Rattle.sight_laws.proofs.Facts.{and_parts, and_right, both_ways, cases_Bool, or_right, append-nil, filter_map-append, all_weaker, tree_from_well_formed, is_well_formed-map, is_well_formed-without, list_all-map, has-map, staying_all, both_chosen, filter_image, map_from_zip, told_in_shape, at-seen, seen_alike, seen_shows, shown_kept, seen_list-twice, zip-found, counts_to, lowered_stands}
use Rattle.attribute_rules.specs.Kinds.{are_kinds}
use Rattle.tree_model.proofs.QuietLemmas.{number_passes}
use Rattle.policy_laws.proofs.DueLemmas.{live-seen}
use Rattle.policy_laws.proofs.RecountLemmas.{counted-same}
use Rattle.subscription_match.specs.Matching.{event_for, event_number, event_where, is_sub_of, is_update, lists_number, lists_one_of, looks_at}
use Rattle.subscription_match.specs.Notices.{listed}
use Rattle.subscription_match.specs.Spending.{is_for}
use Rattle.subscription_match.specs.declared.events.EventKind.{EventKind}
use Rattle.subscription_match.specs.declared.events.EventKind.TheVariants.{CreateOfChild, DeleteOfChild, DeleteOfResource, UpdateOfResource}
use Rattle.entity_model.specs.Expiry.{expiry_changes}

-- ---- for whom drafts are

-- the subscriptions of the drafts that aren't notices, one for each, in order
abbrev pub for_whom : List DraftParts → List ℕ
for_whom drafts = filter_map (λ (d : DraftParts). d.subscription) drafts

abbrev pub times : ℕ → List ℕ → ℕ
times n numbers = length (filter (λ m. nat_eq m n) numbers)

pub count_whom : (n : ℕ) (drafts : List DraftParts) → count_for n drafts ≡ times n (for_whom drafts)
count_whom n [] = refl
count_whom n (d ∷ drafts) = by d.subscription (count_whom n drafts)
  where
    by : (x : Option ℕ) → count_for n drafts ≡ times n (for_whom drafts) → length (cond (option_map_or (λ m. nat_eq m n) x false) (d ∷ filter (is_for n) drafts) (filter (is_for n) drafts)) ≡ times n (cons_option x (for_whom drafts))
    by None rest = rest
    by (Some m) rest = both_chosen (λ (xs : List DraftParts) (ys : List ℕ). length xs ≡ length ys) (nat_eq m n) _ _ _ _ (λ t. ap suc rest) (λ f. rest)

-- drafts for the same are as many for each
pub same_counts : (drafts others : List DraftParts) → for_whom drafts ≡ for_whom others → (n : ℕ) → count_for n drafts ≡ count_for n others
same_counts drafts others same n = count_whom n drafts ∙ ap (times n) same ∙ sym (count_whom n others)

-- ---- for whom the notes of changes are

-- those of these that a change is told, in order
abbrev pub numbers_told : List ℕ → List ResourceData → ChangeData → List ℕ
numbers_told going nodes change = filter_map (λ (sub : ResourceData). option_map (λ (kind : EventKind). sub.number) (event_for going change sub)) nodes

abbrev pub numbers_told_all : List ℕ → List ResourceData → List ChangeData → List ℕ
numbers_told_all going nodes changes = flat_map (numbers_told going nodes) changes

module _ (home : HomeData) (nodes : List ResourceData) (going : List ℕ) where
  whom_told : (change : ChangeData) (subs : List ResourceData) → for_whom (filter_map (told home nodes going change) subs) ≡ numbers_told going subs change
  whom_told change [] = refl
  whom_told change (sub ∷ subs) = by (event_for going change sub) (whom_told change subs)
    where
      by : (kind : Option EventKind) → for_whom (filter_map (told home nodes going change) subs) ≡ numbers_told going subs change → for_whom (cons_option (option_map (told_as home nodes change sub) kind) (filter_map (told home nodes going change) subs)) ≡ cons_option (option_map (λ (k : EventKind). sub.number) kind) (numbers_told going subs change)
      by None rest = rest
      by (Some kind) rest = ap (λ (ns : List ℕ). sub.number ∷ ns) rest

  whom_notice : (r : ResourceData) → for_whom (listed (notice_of home r)) ≡ []
  whom_notice r = by_type (is_ty r.ty Subscription)
    where
      by_su : (su : Option (List ℕ)) → for_whom (listed (option_map (notice_to home r) su)) ≡ []
      by_su None = refl
      by_su (Some su) = refl

      by_type : (b : Bool) → for_whom (listed (cond b (option_map (notice_to home r) (text_at Su r.attrs)) None)) ≡ []
      by_type true = by_su (text_at Su r.attrs)
      by_type false = refl

  whom_notices : (change : ChangeData) → for_whom (notices home change) ≡ []
  whom_notices (created r) = refl
  whom_notices (updated r s named) = refl
  whom_notices (deleted r) = whom_notice r

  whom_noted : (change : ChangeData) → for_whom (notes_of home nodes going change) ≡ numbers_told going nodes change
  whom_noted change =
      filter_map-append (λ (d : DraftParts). d.subscription) (filter_map (told home nodes going change) nodes) (notices home change)
      ∙ ap₂ (λ (xs : List ℕ) (ys : List ℕ). xs ++ ys) (whom_told change nodes) (whom_notices change)
      ∙ append-nil (numbers_told going nodes change)

  pub whom_all : (changes : List ChangeData) → for_whom (notes_of_all home nodes going changes) ≡ numbers_told_all going nodes changes
  whom_all [] = refl
  whom_all (change ∷ changes) =
      filter_map-append (λ (d : DraftParts). d.subscription) (notes_of home nodes going change) (notes_of_all home nodes going changes)
      ∙ ap₂ (λ (xs : List ℕ) (ys : List ℕ). xs ++ ys) (whom_noted change) (whom_all changes)

-- ---- who is told is the same on what an originator sees

module _ (home : HomeData) (nodes : List ResourceData) (o : List ℕ) where
  abbrev see : ResourceData → ResourceData
  see = seen home nodes o

  -- a subscription is seen with what it looks for
  looks_seen : (sub : ResourceData) → is_ty sub.ty Subscription ≡ true → value_of Enc (seen home nodes o sub).attrs ≡ value_of Enc sub.attrs
  looks_seen sub is = (seen_alike home nodes o sub).shape Enc (told_in_shape sub.ty Enc (rw is refl))

  where_seen : (is : Bool) (kind : EventKind) (sub : ResourceData) → (is ≡ true → is_ty sub.ty Subscription ≡ true) → event_where is kind (seen home nodes o sub) ≡ event_where is kind sub
  where_seen false kind sub subscribes = refl
  where_seen true kind sub subscribes =
      ap (λ (d : Option Data). cond (option_map_or (lists_number (event_number kind)) (option_and_then (member_at (codes "net")) d) (is_update kind)) (Some kind) None) (looks_seen sub (subscribes refl))

  kin_subscribes : (n : ℕ) (sub : ResourceData) → is_kin Subscription n sub ≡ true → is_ty sub.ty Subscription ≡ true
  kin_subscribes n sub kin = (and_parts (is_under n sub) (is_ty sub.ty Subscription) kin).1

  event_seen : (going : List ℕ) (r sub : ResourceData) → event_for going (deleted (seen home nodes o r)) (seen home nodes o sub) ≡ event_for going (deleted r) sub
  event_seen going r sub =
      let own = is_sub_of (Some r.number) sub in
      let above = is_sub_of (Some r.parent) sub && not (is_numbered_in going sub) in
      ap₂ option_or (where_seen own DeleteOfResource sub (kin_subscribes r.number sub))
      (where_seen above DeleteOfChild sub (λ is. kin_subscribes r.parent sub (and_parts (is_sub_of (Some r.parent) sub) _ is).0))

  told_seen : (going : List ℕ) (r : ResourceData) (subs : List ResourceData) → numbers_told going (map see subs) (deleted (see r)) ≡ numbers_told going subs (deleted r)
  told_seen going r [] = refl
  told_seen going r (sub ∷ subs) =
      ap₂ (λ (kind : Option EventKind) (ns : List ℕ). cons_option (option_map (λ (k : EventKind). sub.number) kind) ns) (event_seen going r sub) (told_seen going r subs)

  -- of a removal
  pub removal_seen : (going : List ℕ) (rs : List ResourceData) → numbers_told_all going (seen_list home nodes o) (map deleted (map see rs)) ≡ numbers_told_all going nodes (map deleted rs)
  removal_seen going [] = refl
  removal_seen going (r ∷ rs) = ap₂ (λ (xs : List ℕ) (ys : List ℕ). xs ++ ys) (told_seen going r nodes) (removal_seen going rs)

  -- of a creation and of an update
  made_seen : (going : List ℕ) (change : ChangeData) → ((sub : ResourceData) → event_for going change (see sub) ≡ event_for going change sub) → (subs : List ResourceData) → numbers_told going (map see subs) change ≡ numbers_told going subs change
  made_seen going change same [] = refl
  made_seen going change same (sub ∷ subs) =
      ap₂ (λ (kind : Option EventKind) (ns : List ℕ). cons_option (option_map (λ (k : EventKind). sub.number) kind) ns) (same sub) (made_seen going change same subs)

  created_event : (going : List ℕ) (r sub : ResourceData) → event_for going (created r) (seen home nodes o sub) ≡ event_for going (created r) sub
  created_event going r sub = where_seen (is_sub_of (Some r.parent) sub) CreateOfChild sub (kin_subscribes r.parent sub)

  updated_event : (going : List ℕ) (r s : ResourceData) (named : List Attr) (sub : ResourceData) → event_for going (updated r s named) (seen home nodes o sub) ≡ event_for going (updated r s named) sub
  updated_event going r s named sub = by (is_sub_of (Some s.number) sub) (kin_subscribes s.number sub)
    where
      by : (own : Bool) → (own ≡ true → is_ty sub.ty Subscription ≡ true) → event_where (own && looks_at named (seen home nodes o sub)) UpdateOfResource (seen home nodes o sub) ≡ event_where (own && looks_at named sub) UpdateOfResource sub
      by false subscribes = refl
      by true subscribes =
          ap₂ (λ (atr net : Option Data). cond (option_map_or (lists_one_of named) (option_and_then (member_at (codes "atr")) atr) true && option_map_or (lists_number (event_number UpdateOfResource)) (option_and_then (member_at (codes "net")) net) (is_update UpdateOfResource)) (Some UpdateOfResource) None)
          (looks_seen sub (subscribes refl)) (looks_seen sub (subscribes refl))

  those_seen : (numbers : List ℕ) → those_of numbers (seen_list home nodes o) ≡ map see (those_of numbers nodes)
  those_seen [] = refl
  those_seen (n ∷ numbers) =
      ap₂ (λ (p : Option ResourceData) (rs : List ResourceData). cons_option p rs) (at-seen home nodes o n) (those_seen numbers) ∙ by (at n nodes)
    where
      by : (p : Option ResourceData) → cons_option (option_map see p) (map see (those_of numbers nodes)) ≡ map see (cons_option p (those_of numbers nodes))
      by None = refl
      by (Some r) = refl

  removed_seen : (going : List ℕ) → numbers_told_all going (seen_list home nodes o) (map deleted (those_of going (seen_list home nodes o))) ≡ numbers_told_all going nodes (map deleted (those_of going nodes))
  removed_seen going =
      ap (λ (rs : List ResourceData). numbers_told_all going (seen_list home nodes o) (map deleted rs)) (those_seen going)
      ∙ removal_seen going (those_of going nodes)

  pub creation_seen : (going : List ℕ) (r : ResourceData) → numbers_told_all going (seen_list home nodes o) (creation_changes (seen_list home nodes o) r going) ≡ numbers_told_all going nodes (creation_changes nodes r going)
  creation_seen going r = ap₂ (λ (xs : List ℕ) (ys : List ℕ). xs ++ ys) (made_seen going (created r) (created_event going r) nodes) (removed_seen going)

  pub update_seen : (going : List ℕ) (r s : ResourceData) (named : List Attr) → numbers_told_all going (seen_list home nodes o) (update_changes (seen_list home nodes o) r s named going) ≡ numbers_told_all going nodes (update_changes nodes r s named going)
  update_seen going r s named = ap₂ (λ (xs : List ℕ) (ys : List ℕ). xs ++ ys) (made_seen going (updated r s named) (updated_event going r s named) nodes) (removed_seen going)

  -- what stands in the one list alone
  pub only_seen : (rs others : List ResourceData) → only_in (map see rs) (map see others) ≡ map see (only_in rs others)
  only_seen rs others =
      filter_image see (λ (s : ResourceData). not (has s.number (map see others))) (λ (r : ResourceData). not (has r.number others)) (λ r. ap not (has-map see (λ s. refl) r.number others)) rs

  pub numbers_seen : (rs : List ResourceData) → numbers_of (map see rs) ≡ numbers_of rs
  numbers_seen [] = refl
  numbers_seen (r ∷ rs) = ap (λ (ns : List ℕ). r.number ∷ ns) (numbers_seen rs)

  -- of an expiry
  module _ (well : is_well_formed nodes ≡ true) (moment : ℕ) where
    overdue_seen : overdue_numbers moment (seen_list home nodes o) ≡ overdue_numbers moment nodes
    overdue_seen =
        ap (λ (left : List ResourceData). numbers_of (only_in (seen_list home nodes o) left)) (live-seen home nodes o well moment)
        ∙ ap numbers_of (only_seen nodes (live moment nodes))
        ∙ numbers_seen (only_in nodes (live moment nodes))

    pub expiry_seen : numbers_told_all (overdue_numbers moment (seen_list home nodes o)) (seen_list home nodes o) (expiry_changes moment (seen_list home nodes o)) ≡ numbers_told_all (overdue_numbers moment nodes) nodes (expiry_changes moment nodes)
    expiry_seen =
        ap (λ (going : List ℕ). numbers_told_all going (seen_list home nodes o) (map deleted (those_of going (seen_list home nodes o)))) overdue_seen
        ∙ ap (λ (rs : List ResourceData). numbers_told_all (overdue_numbers moment nodes) (seen_list home nodes o) (map deleted rs)) (those_seen (overdue_numbers moment nodes))
        ∙ removal_seen (overdue_numbers moment nodes) (those_of (overdue_numbers moment nodes) nodes)

-- ---- only subscriptions count

abbrev pub is_counter : ResourceData → Bool
is_counter r = not (is_some (left_to r)) || is_ty r.ty Subscription

abbrev pub OnlySubsCount : List ResourceData → Type 0
OnlySubsCount nodes = list_all is_counter nodes ≡ true

pub counter_from : (r : ResourceData) → is_counter r ≡ true → is_some (left_to r) ≡ true → is_ty r.ty Subscription ≡ true
counter_from r is some = sym (ap (λ b. not b || is_ty r.ty Subscription) some) ∙ is

-- where the attributes are of their kinds
kind_counts : (r : ResourceData) → are_kinds r ≡ true → is_counter r ≡ true
kind_counts r kinds = by (left_to r) refl
  where
    by : (left : Option ℕ) → left_to r ≡ left → (not (is_some left) || is_ty r.ty Subscription) ≡ true
    by None none = refl
    by (Some left) some = (counts_to r left kinds some).subscription

pub sound_counts : (e : EntityData) → IsSoundEntity e → OnlySubsCount e.nodes
sound_counts e sound = all_weaker are_kinds is_counter kind_counts e.nodes sound.kinds

-- so what is none has no count
pub uncounted : (nodes : List ResourceData) → OnlySubsCount nodes → (n : ℕ) (r : ResourceData) → at n nodes ≡ Some r → is_ty r.ty Subscription ≡ false → left_to r ≡ None
uncounted nodes counts n r found other = by (left_to r) refl
  where
    by : (left : Option ℕ) → left_to r ≡ left → left_to r ≡ None
    by None none = none
    by (Some left) some = absurd (both_ways _ other (counter_from r (number_passes is_counter n nodes r counts found) (ap is_some some)))

-- and isn't lowered
pub unlowered : (drafts : List DraftParts) (r : ResourceData) → left_to r ≡ None → lowered drafts r ≡ r
unlowered drafts r none =
    ap (λ (l : Option ℕ). option_map_or (λ n. recounted n r) (cond (count_for r.number drafts == 0) None (option_map (λ n. n - count_for r.number drafts) l)) r) none
    ∙ by (count_for r.number drafts == 0)
  where
    by : (b : Bool) → option_map_or (λ n. recounted n r) (cond b None (option_map (λ n. n - count_for r.number drafts) None)) r ≡ r
    by true = refl
    by false = refl

-- what stays of them after a removal
pub without_counts : (picks : ResourceData → Bool) (nodes : List ResourceData) → OnlySubsCount nodes → OnlySubsCount (without picks nodes)
without_counts picks nodes counts = staying_all picks is_counter [] nodes counts

-- and after some are lowered
lowered_counts : (drafts : List DraftParts) (r : ResourceData) → is_counter r ≡ true → is_counter (lowered drafts r) ≡ true
lowered_counts drafts r is = by_count (count_for r.number drafts == 0) refl
  where
    by_left : (left : Option ℕ) → (is_some left ≡ true → is_ty r.ty Subscription ≡ true) → is_counter (option_map_or (λ n. recounted n r) (option_map (λ n. n - count_for r.number drafts) left) r) ≡ true
    by_left None subscribes = is
    by_left (Some left) subscribes = or_right _ _ (subscribes refl)

    by_count : (none : Bool) → (count_for r.number drafts == 0) ≡ none → is_counter (option_map_or (λ n. recounted n r) (cond none None (option_map (λ n. n - count_for r.number drafts) (left_to r))) r) ≡ true
    by_count true same = is
    by_count false same = by_left (left_to r) (counter_from r is)

pub spent_counts : (drafts : List DraftParts) (nodes : List ResourceData) → OnlySubsCount nodes → OnlySubsCount (nodes_spent drafts nodes)
spent_counts drafts nodes counts =
    list_all-map is_counter (lowered drafts) (without (is_spent drafts) nodes)
    ∙ all_weaker is_counter (λ r. is_counter (lowered drafts r)) (lowered_counts drafts) (without (is_spent drafts) nodes) (without_counts (is_spent drafts) nodes counts)

module _ (home : HomeData) (nodes : List ResourceData) (o : List ℕ) where
  -- what is left to a subscription is seen
  left_seen : (r : ResourceData) → is_counter r ≡ true → left_to (seen home nodes o r) ≡ left_to r
  left_seen r is = elim (cases_Bool (is_ty r.ty Subscription)) [
    | inl t ↦ ap (option_and_then as_count) ((seen_alike home nodes o r).shape Exc (told_in_shape r.ty Exc (rw t refl)))
    | inr f ↦ elim (cases_Bool (is_shown home nodes o r Exc)) [
      | inl shown ↦ ap (option_and_then as_count) (shown_kept home nodes o r Exc shown)
      | inr hides ↦
          ap (option_and_then as_count) ((seen_shows home nodes o r).hidden Exc hides (and_right _ _ refl) (and_right _ _ refl))
          ∙ sym (none_left (left_to r) refl f)
    ]
  ]
    where
      none_left : (left : Option ℕ) → left_to r ≡ left → is_ty r.ty Subscription ≡ false → left_to r ≡ None
      none_left None none other = none
      none_left (Some left) some other = absurd (both_ways _ other (counter_from r is (ap is_some some)))

  seen_counts : (r : ResourceData) → is_counter r ≡ true → is_counter (seen home nodes o r) ≡ true
  seen_counts r is = ap (λ (left : Option ℕ). not (is_some left) || is_ty r.ty Subscription) (left_seen r is) ∙ is

  pub sight_counts : OnlySubsCount nodes → OnlySubsCount (seen_list home nodes o)
  sight_counts counts =
      list_all-map is_counter (seen home nodes o) nodes
      ∙ all_weaker is_counter (λ r. is_counter (seen home nodes o r)) seen_counts nodes counts

  left_at_seen : OnlySubsCount nodes → (n : ℕ) → left_at (seen_list home nodes o) n ≡ left_at nodes n
  left_at_seen counts n = ap (option_and_then left_to) (at-seen home nodes o n) ∙ by (at n nodes) refl
    where
      by : (p : Option ResourceData) → at n nodes ≡ p → option_and_then left_to (option_map (seen home nodes o) p) ≡ option_and_then left_to p
      by None found = refl
      by (Some r) found = left_seen r (number_passes is_counter n nodes r counts found)

-- ---- what is left

-- what counts leave to a resource, by how many drafts are for it
abbrev left_by : (ℕ → ℕ) → ResourceData → Option ℕ
left_by counts r = cond (counts r.number == 0) None (option_map (λ left. left - counts r.number) (left_to r))

-- the same is spent by drafts for the same
pub spent_same : (drafts others : List DraftParts) → for_whom drafts ≡ for_whom others → (s r : ResourceData) → s.number ≡ r.number → left_to s ≡ left_to r → is_spent drafts s ≡ is_spent others r
spent_same drafts others same s r own left =
    let count : count_for s.number drafts ≡ count_for r.number others = ap (λ (n : ℕ). count_for n drafts) own ∙ same_counts drafts others same r.number in
    ap₂ (λ (n : ℕ) (l : Option ℕ). option_map_or (λ m. m == 0) (cond (n == 0) None (option_map (λ m. m - n) l)) false) count left

-- lowered by its number
pub lowered_at : (drafts : List DraftParts) (nodes : List ResourceData) → is_tree nodes ≡ true → map (lowered drafts) nodes ≡ map (counted_anew (spent nodes drafts)) nodes
lowered_at drafts nodes tree =
    map_from_zip (counted_anew (spent nodes drafts)) (map (lowered drafts) nodes) nodes
    (zip-found (λ s r. s ≡ counted_anew (spent nodes drafts) r) (lowered drafts) nodes tree (λ r found.
    ap (λ (p : Option ResourceData). option_map_or (λ n. recounted n r) (cond (count_for r.number drafts == 0) None (option_map (λ left. left - count_for r.number drafts) (option_and_then left_to p))) r) (sym found)))

pub anew_same : (left other : ℕ → Option ℕ) → ((n : ℕ) → left n ≡ other n) → (nodes : List ResourceData) → map (counted_anew left) nodes ≡ map (counted_anew other) nodes
anew_same left other same [] = refl
anew_same left other same (r ∷ nodes) =
    ap₂ (λ (l : Option ℕ) (rs : List ResourceData). option_map_or (λ n. recounted n r) l r ∷ rs) (same r.number) (anew_same left other same nodes)

-- what is left by drafts counts subscriptions alone
spent_some : (drafts : List DraftParts) (nodes : List ResourceData) (n : ℕ) → is_some (spent nodes drafts n) ≡ true → is_some (left_at nodes n) ≡ true
spent_some drafts nodes n some = by (count_for n drafts == 0) (left_at nodes n) some
  where
    by : (none : Bool) (left : Option ℕ) → is_some (cond none None (option_map (λ m. m - count_for n drafts) left)) ≡ true → is_some left ≡ true
    by true left there = absurd (both_ways _ refl there)
    by false None there = there
    by false (Some m) there = refl

pub subs_counted : (drafts : List DraftParts) (nodes : List ResourceData) → OnlySubsCount nodes → CountsSubscriptions (spent nodes drafts) nodes
subs_counted drafts nodes counts r found some =
    counter_from r (number_passes is_counter r.number nodes r counts found)
    (ap (λ (p : Option ResourceData). is_some (option_and_then left_to p)) (sym found) ∙ spent_some drafts nodes r.number some)

-- ---- equal sights

module _ (home : HomeData) (o : List ℕ) (xs ys : List ResourceData) (wellx : is_well_formed xs ≡ true) (welly : is_well_formed ys ≡ true) (countx : OnlySubsCount xs) (county : OnlySubsCount ys) (same : seen_list home xs o ≡ seen_list home ys o) where
  left_at_same : (n : ℕ) → left_at xs n ≡ left_at ys n
  left_at_same n =
      sym (left_at_seen home xs o countx n) ∙ ap (λ (rs : List ResourceData). left_at rs n) same ∙ left_at_seen home ys o county n

  module _ (drafts others : List DraftParts) (whom : for_whom drafts ≡ for_whom others) where
    -- where those that are spent go
    pub gone_same : seen_list home (without (is_spent drafts) xs) o ≡ seen_list home (without (is_spent others) ys) o
    gone_same =
        sym (seen_list-twice home xs o wellx (is_spent drafts) (is_spent drafts) (λ r found.
        spent_same drafts drafts refl (seen home xs o r) r refl (left_seen home xs o r (number_passes is_counter r.number xs r countx found))))
        ∙ ap (λ (rs : List ResourceData). seen_list home (without (is_spent drafts) rs) o) same
        ∙ seen_list-twice home ys o welly (is_spent others) (is_spent drafts) (λ r found.
        spent_same drafts others whom (seen home ys o r) r refl (left_seen home ys o r (number_passes is_counter r.number ys r county found)))

    spent_at_same : (n : ℕ) → spent xs drafts n ≡ spent ys others n
    spent_at_same n =
        ap₂ (λ (k : ℕ) (l : Option ℕ). cond (k == 0) None (option_map (λ left. left - k) l)) (same_counts drafts others whom n) (left_at_same n)

    -- and the others that count are lowered
    pub lowered_same : seen_list home (map (lowered drafts) xs) o ≡ seen_list home (map (lowered others) ys) o
    lowered_same =
        ap (λ (rs : List ResourceData). seen_list home rs o) (lowered_at drafts xs (tree_from_well_formed xs wellx))
        ∙ counted-same home xs ys o (spent xs drafts) wellx welly (subs_counted drafts xs countx) same
        ∙ ap (λ (rs : List ResourceData). seen_list home rs o) (anew_same (spent xs drafts) (spent ys others) spent_at_same ys ∙ sym (lowered_at others ys (tree_from_well_formed ys welly)))

-- what drafts for the same leave is seen alike
pub spent-same : (home : HomeData) (o : List ℕ) (xs ys : List ResourceData) (drafts others : List DraftParts) → is_well_formed xs ≡ true → is_well_formed ys ≡ true → OnlySubsCount xs → OnlySubsCount ys → seen_list home xs o ≡ seen_list home ys o → for_whom drafts ≡ for_whom others → seen_list home (nodes_spent drafts xs) o ≡ seen_list home (nodes_spent others ys) o
spent-same home o xs ys drafts others wellx welly countx county same whom =
    lowered_same home o (without (is_spent drafts) xs) (without (is_spent others) ys)
    (is_well_formed-without (is_spent drafts) xs wellx) (is_well_formed-without (is_spent others) ys welly)
    (without_counts (is_spent drafts) xs countx) (without_counts (is_spent others) ys county)
    (gone_same home o xs ys wellx welly countx county same drafts others whom) drafts others whom

-- and stays well-formed
pub spent_well : (drafts : List DraftParts) (nodes : List ResourceData) → is_well_formed nodes ≡ true → is_well_formed (nodes_spent drafts nodes) ≡ true
spent_well drafts nodes well =
    is_well_formed-map (lowered drafts) (lowered_stands drafts) (without (is_spent drafts) nodes) ∙ is_well_formed-without (is_spent drafts) nodes well
