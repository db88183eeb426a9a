-- What a Create makes is the same on what its originator sees.
use Rattle.sight_laws.proofs.Words.{ℤ, ◌≡◌, ℕ, pos, ◌<◌, List, [], ◌∷◌, ◌++◌, map, true, false, cond, not, Option, Some, None, option_map, inl, inr, refl, sym, ap, ap₂, ◌∙◌, arith, list_all, option_map_or}
use Rattle.sight_laws.proofs.Terms.{Acpi, Cs, Macp, St, Rsc, BadChild, Created, Create, Ty, ContentInstance, CseBase, Group, Entry, number, text, RequestParts, Row, ResourceData, has_number, id_of, is_ty, parent_id, shown_rows, are_below, at, instances_of, is_instance, is_tree, structured_of, evicted, limits_of, fills, seen, seen_list, EntityData, refused, reply_to, wanted_content, IsSoundEntity, creation_of, given_rows, new_resource, new_rows, new_size, next_state, membership_new, creation_by, fault_on, child_ty, named_for, address_last, container_update_of, create_effect, created_content, pushed_out, told_effect_by, told_effect_on}
use Rattle.sight_laws.proofs.Facts.{cases_Bool, cond_both, eq-eqb, ne_eqb, map-append, below_parts, tree_from_well_formed, filter_image, at-seen, seen_shows, places_parts}
use Rattle.sight_laws.proofs.SightLemmas.{structured_of-map}
use Rattle.create_delete.proofs.GrownLemmas.{IsOlder, all_turned, nothing_picked}
use Rattle.equal_sights.specs.Sight.{sight}
use Rattle.sight_laws.proofs.EvictionLemmas.{evicted-seen}
use Rattle.sight_laws.proofs.NamedLemmas.{group_rows-seen, link_row-seen}
use Rattle.sight_laws.proofs.PlacesLemmas.{create_refused, limits_seen, may_fill}

module _ (e : EntityData) (o : List ℕ) where
  abbrev seeing : EntityData
  seeing = sight o e

  abbrev see : ResourceData → ResourceData
  see = seen e.home e.nodes o

  -- ---- what is kept

  state_seen : (p : ResourceData) → fills e.home e.nodes o p ≡ true → next_state (see p) ≡ next_state p
  state_seen p may = rw ((seen_shows e.home e.nodes o p).filled may St refl) refl

  given_seen : (ty child : Ty) (p : ResourceData) (es : List Entry) → (is_ty ty ContentInstance ≡ true → fills e.home e.nodes o p ≡ true) → given_rows ty (creation_of seeing o child (see p) es) ≡ given_rows ty (creation_of e o child p es)
  given_seen ContentInstance child p es may =
      ap (λ (n : ℕ). (Cs, number (pos (new_size (creation_of e o child p es)))) ∷ (St, number (pos n)) ∷ []) (state_seen p (may refl))
  given_seen Group child p es may = group_rows-seen e o (membership_new (creation_of e o child p es))
  given_seen _ child p es may = refl

  rows_seen : (child : Ty) (p : ResourceData) (es : List Entry) → (is_ty child ContentInstance ≡ true → fills e.home e.nodes o p ≡ true) → new_rows (creation_of seeing o child (see p) es) ≡ new_rows (creation_of e o child p es)
  rows_seen child p es may =
      rw (given_seen child child p es may, link_row-seen e o es Acpi, link_row-seen e o es Macp) refl

  -- the new resource is the same
  pub new_seen : (child : Ty) (p : ResourceData) (es : List Entry) → (is_ty child ContentInstance ≡ true → fills e.home e.nodes o p ≡ true) → new_resource (creation_of (sight o e) o child (seen e.home e.nodes o p) es) ≡ new_resource (creation_of e o child p es)
  new_seen child p es may = ap (λ (rows : List Row). record (new_resource (creation_of e o child p es)) { attrs = rows }) (rows_seen child p es may)

  -- and so is what its container pushes out
  pub update_seen : (child : Ty) (p : ResourceData) (es : List Entry) → at p.number e.nodes ≡ Some p → (is_ty child ContentInstance ≡ true → fills e.home e.nodes o p ≡ true) → container_update_of (creation_of (sight o e) o child (seen e.home e.nodes o p) es) ≡ container_update_of (creation_of e o child p es)
  update_seen child p es there may = elim (cases_Bool (is_ty child ContentInstance)) [
    | inr f ↦ rw f refl
    | inl t ↦
        let fill = may t in
        let size = Some (new_size (creation_of e o child p es)) in
        let gone : pushed_out seeing (see p) size ≡ pushed_out e p size =
        ap (λ l. evicted l size e.last (instances_of p.number (seen_list e.home e.nodes o))) (limits_seen e o p fill)
        ∙ evicted-seen e.home e.nodes o p there fill (limits_of p) size e.last in
        rw (t, state_seen p fill, gone) refl
  ]

-- ---- what is answered

-- nothing stands under what is new
none_under : (nodes : List ResourceData) (r : ResourceData) → is_tree nodes ≡ true → are_below r.number nodes ≡ true → instances_of r.number nodes ≡ []
none_under nodes r tree below =
    nothing_picked (is_instance r.number) nodes
    (all_turned (λ (s : ResourceData). true) (λ (s : ResourceData). not (is_instance r.number s)) nodes r tree below
    (λ s older all. other s older) (all_true nodes))
  where
    other : (s : ResourceData) → IsOlder r s → not (is_instance r.number s) ≡ true
    other s older = rw (ne_eqb s.parent r.number (λ same. omega (arith, older.parent, same))) refl

    all_true : (rs : List ResourceData) → list_all (λ (s : ResourceData). true) rs ≡ true
    all_true [] = refl
    all_true (s ∷ rs) = all_true rs

module _ (e : EntityData) (o : List ℕ) (sound : IsSoundEntity e) (r : ResourceData) (new : r.number ≡ e.next) where
  abbrev viewing : EntityData
  viewing = sight o e

  abbrev view : ResourceData → ResourceData
  view = seen e.home e.nodes o

  below : are_below r.number e.nodes ≡ true
  below = ap (λ (n : ℕ). are_below n e.nodes) new ∙ sound.numbers

  bare : instances_of r.number e.nodes ≡ []
  bare = none_under e.nodes r (tree_from_well_formed e.nodes sound.tree) below

  bare_seen : instances_of r.number (seen_list e.home e.nodes o) ≡ []
  bare_seen = filter_image view (is_instance r.number) (is_instance r.number) (λ s. refl) e.nodes ∙ ap (map view) bare

  parent_seen : parent_id (seen_list e.home e.nodes o) r ≡ parent_id e.nodes r
  parent_seen = ap (λ (p : Option ResourceData). cond (is_ty r.ty CseBase) [] (option_map_or id_of p [])) (at-seen e.home e.nodes o r.parent) ∙ by (at r.parent e.nodes)
    where
      by : (p : Option ResourceData) → cond (is_ty r.ty CseBase) [] (option_map_or id_of (option_map view p) []) ≡ cond (is_ty r.ty CseBase) [] (option_map_or id_of p [])
      by None = refl
      by (Some s) = refl

  rows_shown : shown_rows e.home (seen_list e.home e.nodes o) r ≡ shown_rows e.home e.nodes r
  rows_shown = rw (parent_seen, bare_seen, bare) refl

  -- its address
  abbrev mine : ResourceData → ResourceData
  mine s = cond (has_number r.number s) s (view s)

  mine_number : (s : ResourceData) → (mine s).number ≡ s.number
  mine_number s = cond_both (has_number r.number s) s (view s) (λ (x : ResourceData). x.number ≡ s.number) (λ t. refl) (λ f. refl)

  mine_parent : (s : ResourceData) → (mine s).parent ≡ s.parent
  mine_parent s = cond_both (has_number r.number s) s (view s) (λ (x : ResourceData). x.parent ≡ s.parent) (λ t. refl) (λ f. refl)

  mine_name : (s : ResourceData) → (mine s).name ≡ s.name
  mine_name s = cond_both (has_number r.number s) s (view s) (λ (x : ResourceData). x.name ≡ s.name) (λ t. refl) (λ f. refl)

  mine_others : (rs : List ResourceData) → are_below r.number rs ≡ true → map mine rs ≡ map view rs
  mine_others [] all = refl
  mine_others (s ∷ rs) all =
      let parts = below_parts r.number s rs all in
      let first : s.number < r.number = parts.first in
      let apart : has_number r.number s ≡ false = ne_eqb s.number r.number (λ same. omega (arith, first, same)) in
      rw apart (ap (λ (ss : List ResourceData). view s ∷ ss) (mine_others rs parts.rest))

  mine_all : map mine (e.nodes ++ r ∷ []) ≡ seen_list e.home e.nodes o ++ r ∷ []
  mine_all =
      let own : has_number r.number r ≡ true = eq-eqb r.number r.number refl in
      let last : mine r ≡ r = rw own refl in
      map-append mine e.nodes (r ∷ []) ∙ ap₂ (λ (ss : List ResourceData) (s : ResourceData). ss ++ s ∷ []) (mine_others e.nodes below) last

  address_seen : address_last viewing r ≡ address_last e r
  address_seen =
      ap text (ap (structured_of r.number) (sym mine_all) ∙ structured_of-map mine mine_number mine_parent mine_name (e.nodes ++ r ∷ []) r.number)

  pub content_seen : (rcn : ℤ) → created_content rcn (sight o e) r ≡ created_content rcn e r
  content_seen rcn = rw (rows_shown, address_seen) refl

-- ---- what is replied

module _ (e : EntityData) (o : List ℕ) (sound : IsSoundEntity e) (request : RequestParts) (p : ResourceData) (there : at p.number e.nodes ≡ Some p) where
  abbrev watching : EntityData
  watching = sight o e

  abbrev watch : ResourceData → ResourceData
  watch = seen e.home e.nodes o

  -- who creates may fill its container
  abbrev MayFill : Ty → Type 0
  MayFill child = is_ty child ContentInstance ≡ true → fills e.home e.nodes o p ≡ true

  pub fills_it : fault_on Create e o request p ≡ None → (child : Ty) → child_ty request ≡ Some child → is_ty child ContentInstance ≡ true → fills e.home e.nodes o p ≡ true
  fills_it none child is =
      let parts = places_parts Create e o request p none in
      may_fill e o request p child there parts.right parts.child is

  made_reply : (child : Ty) → MayFill child → (create_effect request (creation_by watching o request (watch p) child)).reply ≡ (create_effect request (creation_by e o request p child)).reply
  made_reply child may =
      let es = named_for request child in
      ap (λ (r : ResourceData). reply_to request Created (created_content (wanted_content request.rcn) watching r)) (new_seen e o child p es may)
      ∙ ap (reply_to request Created) (content_seen e o sound (new_resource (creation_by e o request p child)) refl (wanted_content request.rcn))

  pub create_reply : (told_effect_on Create (sight o e) o request (seen e.home e.nodes o p)).reply ≡ (told_effect_on Create e o request p).reply
  create_reply =
      ap (λ (f : Option Rsc). (option_map_or (refused watching request) f (told_effect_by Create watching o request (watch p))).reply) (create_refused e o request p there)
      ∙ by (fault_on Create e o request p) refl
    where
      by_type : fault_on Create e o request p ≡ None → (child : Option Ty) → child_ty request ≡ child → (option_map_or (λ (ty : Ty). create_effect request (creation_by watching o request (watch p) ty)) child (refused watching request BadChild)).reply ≡ (option_map_or (λ (ty : Ty). create_effect request (creation_by e o request p ty)) child (refused e request BadChild)).reply
      by_type none None is = refl
      by_type none (Some child) is = made_reply child (fills_it none child is)

      by : (f : Option Rsc) → fault_on Create e o request p ≡ f → (option_map_or (refused watching request) f (told_effect_by Create watching o request (watch p))).reply ≡ (option_map_or (refused e request) f (told_effect_by Create e o request p)).reply
      by (Some fault) is = refl
      by None none = by_type none (child_ty request) refl
