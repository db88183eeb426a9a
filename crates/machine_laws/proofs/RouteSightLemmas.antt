-- Where a request goes that is sent to another CSE is the same on what an originator sees.
use Rattle.machine_laws.proofs.Words.{codes, nat_eq, ◌≡◌, ℕ, List, [], ◌∷◌, map, Bool, true, false, ◌&&◌, Option, Some, None, is_some, option_map, inl, inr, refl, sym, ap, subst, ◌∙◌, AllByRecursion, cons_option, filter_map, list_all, starts_with, option_and_then, option_map_or}
use Rattle.machine_laws.proofs.Terms.{Poa, RemoteCse, Data, AreInOrder, Row, value_of, HomeData, ResourceData, is_ty, at, cse_of, is_cse, is_due, is_tree, is_well_formed, live, overdue_numbers, resource_number, same_text, is_shown, only_point, seen, seen_list, seen_value, way_in, first_of, cse_named, first_url, leading_cse_id, notes_of_all, DraftParts, EntityData, event_moment, swept, expiry_changes, comes_from_cse}
use Rattle.machine_laws.proofs.Facts.{both_ways, cases_Bool, same_Some, all_weaker, at-seen, cse_id-seen, first_passes, one_point, seen_shows, shown_kept, way-in_order}
use Rattle.std.specs.Prelude.{find, pos}
use Rattle.std.specs.declared.cmp.Ordering.TheVariants.{Less}
use Rattle.m2m_names.specs.Attributes.{attr_cmp}
use Rattle.m2m_names.specs.declared.attributes.Attr.{Attr}
use Rattle.m2m_names.specs.declared.attributes.Attr.TheVariants.{Exc}
use Rattle.m2m_value.specs.Data.{number}
use Rattle.tree_model.specs.Tree.{recounted, without}
use Rattle.std.specs.List.Sorted.{IsStrictlySortedBy}
use Rattle.std.specs.Map.{keys_of}
use Rattle.policy_laws.proofs.ReplaceLemmas.{kept_row}
use Rattle.retrieve_discover.proofs.OrderLemmas.{in_order-tree}
use Rattle.retrieve_laws.proofs.FoundLemmas.{Each, IsFound, each_found}
use Rattle.tree_model.proofs.KeptLemmas.{list_all-map}
use Rattle.tree_model.proofs.QuietLemmas.{number_passes}
use Rattle.tree_model.proofs.TreeLemmas.{staying_all}
use Rattle.entity_model.proofs.OrderLemmas.{order-with_value, order_from, order_kept}
use Rattle.entity_model.specs.Sound.{keeps_order}
use Rattle.subscription_match.specs.Spending.{is_spent, left_of, lowered}

-- ---- what is found is there

find_each : (P : ResourceData → Type 0) (p : ResourceData → Bool) (rs : List ResourceData) → Each P rs → (r : ResourceData) → find p rs ≡ Some r → P r × (p r ≡ true)
find_each P p [] each r found = cc
find_each P p (s ∷ rs) each r found = elim (cases_Bool (p s)) [
  | inl t ↦
      let same : s ≡ r = same_Some s r (rw t at found) in
      (subst P same each.0, ap p (sym same) ∙ t)
  | inr f ↦ find_each P p rs each.1 r (rw f at found)
]

-- a resource that has a CSE-ID is a remote CSE
has_cse : (csi : List ℕ) (r : ResourceData) → is_cse csi r ≡ true → is_ty r.ty RemoteCse ≡ true
has_cse csi r is = elim (cases_Bool (is_ty r.ty RemoteCse)) [
  | inl t ↦ t
  | inr f ↦ (let none : false ≡ true = rw f at is in absurd (both_ways _ refl none))
]

module _ (home : HomeData) (nodes : List ResourceData) (o : List ℕ) where
  abbrev see : ResourceData → ResourceData
  see = seen home nodes o

  -- ---- which CSE is registered

  find_seen : (csi : List ℕ) (rs : List ResourceData) → find (is_cse csi) (map see rs) ≡ option_map see (find (is_cse csi) rs)
  find_seen csi [] = refl
  find_seen csi (r ∷ rs) =
      let same : is_cse csi (see r) ≡ is_cse csi r = ap (λ (t : Option (List ℕ)). same_text t (Some csi)) (cse_id-seen home nodes o r) in
      elim (cases_Bool (is_cse csi r)) [
        | inl t ↦ rw (same ∙ t, t) refl
        | inr f ↦ rw (same ∙ f, f) (find_seen csi rs)
      ]

  pub cse_of-seen : (csi : List ℕ) → cse_of csi (seen_list home nodes o) ≡ cse_of csi nodes
  cse_of-seen csi = ap resource_number (find_seen csi nodes) ∙ by (find (is_cse csi) nodes)
    where
      by : (p : Option ResourceData) → resource_number (option_map see p) ≡ resource_number p
      by None = refl
      by (Some r) = refl

  pub comes-seen : (originator : List ℕ) → comes_from_cse (seen_list home nodes o) originator ≡ comes_from_cse nodes originator
  comes-seen originator =
      ap (λ (n : Option ℕ). starts_with nat_eq originator (codes "/") && is_some n) (cse_of-seen (leading_cse_id originator))

  pub cse_named-seen : (text : List ℕ) → cse_named text (seen_list home nodes o) ≡ option_map (seen home nodes o) (cse_named text nodes)
  cse_named-seen text =
      ap (option_and_then (λ (n : ℕ). at n (seen_list home nodes o))) (cse_of-seen (leading_cse_id text)) ∙ by (cse_of (leading_cse_id text) nodes)
    where
      by : (n : Option ℕ) → option_and_then (λ (m : ℕ). at m (seen_list home nodes o)) n ≡ option_map see (option_and_then (λ (m : ℕ). at m nodes) n)
      by None = refl
      by (Some n) = at-seen home nodes o n

  -- ---- its first URL

  -- where its attributes stand in order
  pub url-seen : (r : ResourceData) → is_ty r.ty RemoteCse ≡ true → AreInOrder r.attrs → first_url (seen home nodes o r) ≡ first_url r
  url-seen r remote order = elim (cases_Bool (is_shown home nodes o r Poa)) [
    | inl t ↦ ap first_of (shown_kept home nodes o r Poa t)
    | inr f ↦
        ap first_of ((seen_shows home nodes o r).points remote f)
        ∙ by (value_of Poa r.attrs) (way_in r.attrs) refl (way-in_order r.attrs order)
  ]
    where
      one : (d : Option Data) (u : List ℕ) → first_of d ≡ Some u → first_of (Some (only_point u)) ≡ Some u
      one None u is = cc
      one (Some d) u is = one_point u (first_passes d u is)

      by : (d : Option Data) (way : Option (List ℕ)) → value_of Poa r.attrs ≡ d → way ≡ first_of d → first_of (option_map only_point way) ≡ first_of d
      by d None value is = is
      by d (Some u) value is = one d u (sym is) ∙ is

-- ---- the CSE that an address leads to

-- it is there, and a remote CSE
pub record IsRemote (nodes : List ResourceData) (cse : ResourceData) : Type 0 where
  pub there : at cse.number nodes ≡ Some cse
  pub remote : is_ty cse.ty RemoteCse ≡ true

pub cse_there : (nodes : List ResourceData) (text : List ℕ) (cse : ResourceData) → is_tree nodes ≡ true → cse_named text nodes ≡ Some cse → IsRemote nodes cse
cse_there nodes text cse tree named = by (find (is_cse (leading_cse_id text)) nodes) refl
  where
    csi : List ℕ
    csi = leading_cse_id text

    by : (p : Option ResourceData) → find (is_cse (leading_cse_id text)) nodes ≡ p → IsRemote nodes cse
    by None none =
        let gone : None ≡ Some cse = sym (ap (λ (x : Option ResourceData). option_and_then (λ (n : ℕ). at n nodes) (resource_number x)) none) ∙ named in
        cc
    by (Some r) found =
        let is = find_each (IsFound nodes) (is_cse (leading_cse_id text)) nodes (each_found nodes (in_order-tree nodes tree)) r found in
        let place : at r.number nodes ≡ Some cse = sym (ap (λ (x : Option ResourceData). option_and_then (λ (n : ℕ). at n nodes) (resource_number x)) found) ∙ named in
        let same : r ≡ cse = same_Some r cse (sym is.0 ∙ place) in
        record {
          there = subst (λ (s : ResourceData). at s.number nodes ≡ Some s) same is.0;
          remote = subst (λ (s : ResourceData). is_ty s.ty RemoteCse ≡ true) same (has_cse (leading_cse_id text) r is.1);
        }

-- ---- attributes in order

-- those of each resource of a list stand in order
abbrev pub AreOrdered : List ResourceData → Type 0
AreOrdered nodes = list_all keeps_order nodes ≡ true

pub in_order_at : (n : ℕ) (nodes : List ResourceData) (r : ResourceData) → AreOrdered nodes → at n nodes ≡ Some r → AreInOrder r.attrs
in_order_at n nodes r order found = order_from r (number_passes keeps_order n nodes r order found)

module _ (h : Attr → Data → Option Data) where
  all_kept : (P : Attr → Type 0) (rows : List Row) → AllByRecursion P (keys_of rows) → AllByRecursion P (keys_of (filter_map (kept_row h) rows))
  all_kept P [] all = tt
  all_kept P (row ∷ rows) all = by (h row.0 row.1) (all_kept P rows all.1)
    where
      by : (d : Option Data) → AllByRecursion P (keys_of (filter_map (kept_row h) rows)) → AllByRecursion P (keys_of (cons_option (option_map (λ (x : Data). (row.0, x)) d) (filter_map (kept_row h) rows)))
      by None rest = rest
      by (Some d) rest = (all.0, rest)

  kept_order : (rows : List Row) → AreInOrder rows → AreInOrder (filter_map (kept_row h) rows)
  unfolding IsStrictlySortedBy
  kept_order [] order = order
  kept_order (row ∷ rows) order = by (h row.0 row.1) (kept_order rows order.1)
    where
      by : (d : Option Data) → AreInOrder (filter_map (kept_row h) rows) → AreInOrder (cons_option (option_map (λ (x : Data). (row.0, x)) d) (filter_map (kept_row h) rows))
      by None rest = rest
      by (Some d) rest = (all_kept (λ (a : Attr). attr_cmp row.0 a ≡ Less) rows order.0, rest)

-- they stay so in what is seen
pub order_seen : (home : HomeData) (nodes : List ResourceData) (o : List ℕ) → AreOrdered nodes → AreOrdered (seen_list home nodes o)
order_seen home nodes o order =
    list_all-map keeps_order (seen home nodes o) nodes
    ∙ all_weaker keeps_order (λ r. keeps_order (seen home nodes o r)) (λ r keeps. order_kept (seen home nodes o r) (kept_order (seen_value home nodes o r) r.attrs (order_from r keeps))) nodes order

-- subscriptions that are lowered keep it
lowered_order : (drafts : List DraftParts) (r : ResourceData) → keeps_order r ≡ true → keeps_order (lowered drafts r) ≡ true
lowered_order drafts r keeps = by (left_of drafts r)
  where
    by : (left : Option ℕ) → keeps_order (option_map_or (λ n. recounted n r) left r) ≡ true
    by None = keeps
    by (Some left) = order-with_value Exc (number (pos left)) r.attrs keeps

-- so they do at an entity from which what is due is gone
pub order_swept : (e : EntityData) (reading : ℕ) → AreOrdered e.nodes → AreOrdered (swept reading e).nodes
order_swept e reading order =
    let m = event_moment e.last reading in
    let drafts = notes_of_all e.home e.nodes (overdue_numbers m e.nodes) (expiry_changes m e.nodes) in
    let left : AreOrdered (live m e.nodes) = staying_all (is_due e.nodes m) keeps_order [] e.nodes order in
    let kept : AreOrdered (without (is_spent drafts) (live m e.nodes)) = staying_all (is_spent drafts) keeps_order [] (live m e.nodes) left in
    list_all-map keeps_order (lowered drafts) (without (is_spent drafts) (live m e.nodes))
    ∙ all_weaker keeps_order (λ r. keeps_order (lowered drafts r)) (lowered_order drafts) (without (is_spent drafts) (live m e.nodes)) kept
