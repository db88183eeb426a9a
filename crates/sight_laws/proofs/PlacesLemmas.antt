-- A Create and an Update are refused by the same place on what their originator sees.
use Rattle.sight_laws.proofs.Words.{◌+◌, ◌==◌, nat_le, nat_lt, ◌≡◌, ℕ, List, [], length, Bool, true, false, cond, not, ◌&&◌, Option, Some, None, inl, inr, refl, sym, ap, ap₂, ◌∙◌, option_and_then, option_map_or}
use Rattle.sight_laws.proofs.Terms.{Csy, Csi, Mbs, Mia, Mid, Mni, Mnm, Mt, Rsc, BadRequest, Conflict, NoPrivilege, NotAcceptable, NotAllowed, Create, Update, Ty, Ae, ContentInstance, Group, PollingChannel, RemoteCse, Subscription, Entry, RequestParts, ResourceData, is_ty, is_named, named_text, at, is_channel, level_of, is_within, limits_of, Limits, create_bit, grants, retrieve_bit, update_bit, fills, has_bit, may_use, seen, seen_list, EntityData, first_fault, creation_of, largest_count, greatest_count, greatest_depth, largest_size, own_cse_id, has_place, is_below, has_room, is_free_cse_id, is_single, is_small, is_unique, new_ae_id, new_name, new_size, takes_instance, MembershipData, does_edit_members, have_addresses, membership_edited, membership_new, child_fault, creation_by, creation_places, edit_places, expires_later, fault_new, fault_on, member_places, new_places, links_live, admits_content, child_ty, content_for, is_for, named_by, named_for, takes_child, create_bits, is_relink, is_subscribing, may_do}
use Rattle.sight_laws.proofs.Facts.{and_from, and_parts, both_ways, cases_Bool, eqb-true, or_left, length-map, same_type, KeepsStanding, has_ae_id-map, has_child-map, has_cse_id-map, list_any-map, grants-seen, relinks-seen, seen_shows, names_link}
use Rattle.std.specs.Prelude.{bytes_eq}
use Rattle.m2m_names.specs.Types.{does_take, ty_of_number, ty_row}
use Rattle.create_delete.proofs.InstanceLemmas.{takes_is_container}
use Rattle.sight_laws.proofs.MapLemmas.{line-map}
use Rattle.equal_sights.specs.Sight.{sight}
use Rattle.sight_laws.proofs.NamedLemmas.{links-seen, member_places-seen}
use Rattle.sight_laws.proofs.ViewLemmas.{seen_stands}

-- ---- the order of refusals

-- for want of the right, by type and child, then by the content, and then by this
abbrev pub refusal_by : Bool → Bool → Bool → Bool → Bool → Bool → Rsc → Option Rsc → Option Rsc
refusal_by may type child content later live fault new =
    cond may (cond type (cond child (cond content (cond later (cond live new (Some BadRequest)) (Some BadRequest)) (Some BadRequest)) (Some fault)) (Some NotAllowed)) (Some NoPrivilege)

by_right : (may type child content later live : Bool) (fault : Rsc) (new other : Option Rsc) → (may ≡ true → child ≡ true → new ≡ other) → refusal_by may type child content later live fault new ≡ refusal_by may type child content later live fault other
by_right false type child content later live fault new other same = refl
by_right true type false content later live fault new other same = refl
by_right true type true content later live fault new other same = ap (refusal_by true type true content later live fault) (same refl refl)

-- ---- who may fill a container, and what has instances

-- what names a content instance names no subscription
not_subscribing : (request : RequestParts) → child_ty request ≡ Some ContentInstance → is_subscribing request ≡ false
not_subscribing request is = by request.ty is
  where
    apart : ty_of_number (ty_row Subscription).number ≡ Some ContentInstance → ⊥
    apart same = cc

    by : (n : Option ℕ) → option_and_then ty_of_number n ≡ Some ContentInstance → option_map_or (λ n. n == (ty_row Subscription).number) n false ≡ false
    by None none = refl
    by (Some n) some = elim (cases_Bool (n == (ty_row Subscription).number)) [
      | inr f ↦ f
      | inl t ↦ absurd (apart (sym (ap ty_of_number (eqb-true _ _ t)) ∙ some))
    ]

module _ (e : EntityData) (o : List ℕ) where
  abbrev seeing : EntityData
  seeing = sight o e

  abbrev see : ResourceData → ResourceData
  see = seen e.home e.nodes o

  stands : KeepsStanding (seen e.home e.nodes o)
  stands = seen_stands e.home e.nodes o

  -- ---- what stands there

  single_seen : (ty child : Ty) (p : ResourceData) (es : List Entry) → is_single ty (creation_of seeing o child (see p) es) ≡ is_single ty (creation_of e o child p es)
  single_seen Ae child p es = ap not (has_ae_id-map (seen e.home e.nodes o) stands (Some (new_ae_id (creation_of e o child p es))) e.nodes)
  single_seen RemoteCse child p es = by (named_text Csi es)
    where
      by : (csi : Option (List ℕ)) → option_map_or (is_free_cse_id seeing) csi true ≡ option_map_or (is_free_cse_id e) csi true
      by None = refl
      by (Some csi) = ap (λ (b : Bool). not b && not (bytes_eq (own_cse_id e.home) csi)) (has_cse_id-map (seen e.home e.nodes o) stands (Some csi) e.nodes)
  single_seen PollingChannel child p es = ap not (list_any-map (is_channel p.number) (seen e.home e.nodes o) e.nodes)
  single_seen _ child p es = refl

  unique_seen : (child : Ty) (p : ResourceData) (es : List Entry) → is_unique (creation_of seeing o child (see p) es) ≡ is_unique (creation_of e o child p es)
  unique_seen child p es =
      ap₂ (λ (a b : Bool). not a && b)
      (has_child-map (seen e.home e.nodes o) stands p.number (new_name (creation_of e o child p es)) e.nodes)
      (single_seen child child p es)

  level_seen : (n : ℕ) → level_of n (seen_list e.home e.nodes o) ≡ level_of n e.nodes
  level_seen n =
      ap length (line-map see (λ r. refl) (λ r. refl) e.nodes n) ∙ length-map _ see

  place_seen : (n : ℕ) → has_place seeing n ≡ has_place e n
  place_seen n =
      ap₂ (λ (k d : ℕ). nat_lt k greatest_count && nat_lt e.next largest_count && nat_lt d greatest_depth) (length-map e.nodes see) (level_seen n)

  -- ---- what a container allows

  -- who may add to it or change it sees it
  pub limits_seen : (p : ResourceData) → fills e.home e.nodes o p ≡ true → limits_of (see p) ≡ limits_of p
  limits_seen p may =
      let shown = (seen_shows e.home e.nodes o p).filled may in
      rw (shown Mni refl, shown Mbs refl, shown Mia refl) refl

  takes_seen : (p : ResourceData) (size : ℕ) → fills e.home e.nodes o p ≡ true → takes_instance (see p) size ≡ takes_instance p size
  takes_seen p size may =
      ap (λ (l : Limits). nat_le size largest_size && is_within size l.mbs && is_below 0 l.mni && is_below 0 l.mia) (limits_seen p may)

  small_seen : (child : Ty) (p : ResourceData) (es : List Entry) → (is_ty child ContentInstance ≡ true → fills e.home e.nodes o p ≡ true) → is_small (creation_of seeing o child (see p) es) ≡ is_small (creation_of e o child p es)
  small_seen child p es may = elim (cases_Bool (is_ty child ContentInstance)) [
    | inl t ↦ rw t (takes_seen p (new_size (creation_of e o child p es)) (may t))
    | inr f ↦ rw f refl
  ]

  room_seen : (child : Ty) (p : ResourceData) (es : List Entry) → (is_ty child ContentInstance ≡ true → fills e.home e.nodes o p ≡ true) → has_room (creation_of seeing o child (see p) es) ≡ has_room (creation_of e o child p es)
  room_seen child p es may = ap₂ (λ (a b : Bool). a && b) (place_seen p.number) (small_seen child p es may)

  -- ---- what is new

  new_fault_seen : (child : Ty) (p : ResourceData) (es : List Entry) → (is_ty child ContentInstance ≡ true → fills e.home e.nodes o p ≡ true) → fault_new (creation_of seeing o child (see p) es) ≡ fault_new (creation_of e o child p es)
  new_fault_seen child p es may =
      let c = creation_of e o child p es in
      let fault : Bool → Bool → Option Rsc → Option Rsc = λ unique room members. cond (have_addresses e.home (membership_new c)) (cond unique (cond room members (Some NotAcceptable)) (Some Conflict)) (Some BadRequest) in
      ap (λ (b : Bool). fault b (has_room (creation_of seeing o child (see p) es)) (first_fault (member_places seeing (membership_new c)))) (unique_seen child p es)
      ∙ ap (λ (b : Bool). fault (is_unique c) b (first_fault (member_places seeing (membership_new c)))) (room_seen child p es may)
      ∙ ap (fault (is_unique c) (has_room c)) (member_places-seen e o (membership_new c))

  -- who creates an instance may fill its container
  pub may_fill : (request : RequestParts) (p : ResourceData) (child : Ty) → at p.number e.nodes ≡ Some p → may_do Create e o request p.number ≡ true → takes_child Create request p ≡ true → child_ty request ≡ Some child → is_ty child ContentInstance ≡ true → fills e.home e.nodes o p ≡ true
  may_fill request p child there may takes is instance =
      let ty : child ≡ ContentInstance = same_type child ContentInstance (eqb-true _ _ instance) in
      let named : child_ty request ≡ Some ContentInstance = is ∙ ap Some ty in
      let bits : create_bits request ≡ create_bit = ap (λ (b : Bool). cond b (create_bit + retrieve_bit) create_bit) (not_subscribing request named) in
      let right : grants e.home e.nodes o create_bit p.number ≡ true = sym (ap (λ (n : ℕ). grants e.home e.nodes o n p.number) bits) ∙ may in
      let here : has_bit e.home e.nodes o create_bit p ≡ true = rw there at right in
      let holds : does_take p.ty ContentInstance ≡ true = sym (ap (λ (x : Option Ty). option_map_or (does_take p.ty) x false) named) ∙ takes in
      and_from _ _ (takes_is_container p.ty holds) (or_left _ _ here)

  new_seen : (request : RequestParts) (p : ResourceData) → at p.number e.nodes ≡ Some p → may_do Create e o request p.number ≡ true → takes_child Create request p ≡ true → first_fault (creation_places Create seeing o request (see p)) ≡ first_fault (creation_places Create e o request p)
  new_seen request p there may takes = by (child_ty request) refl
    where
      by : (child : Option Ty) → child_ty request ≡ child → first_fault (option_map_or (λ (ty : Ty). new_places (creation_by seeing o request (see p) ty)) child []) ≡ first_fault (option_map_or (λ (ty : Ty). new_places (creation_by e o request p ty)) child [])
      by None none = refl
      by (Some child) is = new_fault_seen child p (named_for request child) (may_fill request p child there may takes is)

  pub create_refused : (request : RequestParts) (p : ResourceData) → at p.number e.nodes ≡ Some p → fault_on Create (sight o e) o request (seen e.home e.nodes o p) ≡ fault_on Create e o request p
  create_refused request p there =
      let may = may_do Create e o request p.number in
      let child = takes_child Create request p in
      let content = admits_content Create request p in
      let later = expires_later e (named_by Create request p) in
      let live = links_live e (named_by Create request p) in
      let new = first_fault (creation_places Create seeing o request (see p)) in
      ap (λ (b : Bool). refusal_by b true child content later (links_live seeing (named_by Create request p)) (child_fault request) new) (grants-seen e.home e.nodes o (create_bits request) p.number)
      ∙ ap (λ (b : Bool). refusal_by may true child content later b (child_fault request) new) (links-seen e o (named_by Create request p))
      ∙ by_right may true child content later live (child_fault request) new (first_fault (creation_places Create e o request p))
      (λ right takes. new_seen request p there right takes)

  -- ---- what an Update edits

  -- an Update of `acpi` alone names no members
  relink_edits : (r : ResourceData) (es : List Entry) → is_named Mid es ≡ false → is_named Mnm es ≡ false → does_edit_members r es ≡ false
  relink_edits r es mid mnm = elim (cases_Bool (is_ty r.ty Group)) [
    | inl t ↦ rw (t, mid, mnm) refl
    | inr f ↦ rw f refl
  ]

  link_alone : (request : RequestParts) (r : ResourceData) → is_relink request ≡ true → does_edit_members r (named_by Update request r) ≡ false
  link_alone request r links = by (content_for request r.ty) refl
    where
      by : (es : Option (List Entry)) → content_for request r.ty ≡ es → does_edit_members r (option_map_or (λ (x : List Entry). x) es []) ≡ false
      by None none = relink_edits r [] refl refl
      by (Some es) some =
          let alone = names_link request r.ty es links some in
          relink_edits r es (ap (is_named Mid) alone.1) (ap (is_named Mnm) alone.1)

  edits_with_update : (request : RequestParts) (r : ResourceData) → may_do Update e o request r.number ≡ true → does_edit_members r (named_by Update request r) ≡ true → grants e.home e.nodes o update_bit r.number ≡ true
  edits_with_update request r may edits = elim (cases_Bool (is_relink request)) [
    | inl t ↦ absurd (both_ways _ (link_alone request r t) edits)
    | inr f ↦ (let granted : grants e.home e.nodes o update_bit r.number ≡ true = rw f at may in granted)
  ]

  -- so who edits members sees those that stand
  pub edited_seen : (request : RequestParts) (r : ResourceData) → at r.number e.nodes ≡ Some r → may_do Update e o request r.number ≡ true → membership_edited (seen e.home e.nodes o r) (named_by Update request r) ≡ membership_edited r (named_by Update request r)
  edited_seen request r there may = elim (cases_Bool (does_edit_members r (named_by Update request r))) [
    | inr f ↦ rw f refl
    | inl t ↦
        let right : grants e.home e.nodes o update_bit r.number ≡ true = edits_with_update request r may t in
        let here : has_bit e.home e.nodes o update_bit r ≡ true = rw there at right in
        let group : is_ty r.ty Group ≡ true = (and_parts (is_ty r.ty Group) _ t).0 in
        let uses : may_use e.home e.nodes o r ≡ true = and_from _ _ group (or_left _ _ here) in
        let shown = (seen_shows e.home e.nodes o r).used uses in
        rw t (ap Some (rw (shown Mid refl, shown Mnm refl, shown Mt refl, shown Csy refl) refl))
  ]

  edit_seen : (request : RequestParts) (r : ResourceData) → at r.number e.nodes ≡ Some r → may_do Update e o request r.number ≡ true → first_fault (edit_places seeing (see r) (named_by Update request r)) ≡ first_fault (edit_places e r (named_by Update request r))
  edit_seen request r there may =
      let es = named_by Update request r in
      let places : EntityData → Option MembershipData → Option Rsc = λ x m. cond (have_addresses e.home m) (first_fault (member_places x m)) (Some BadRequest) in
      ap (places seeing) (edited_seen request r there may)
      ∙ ap (λ (f : Option Rsc). cond (have_addresses e.home (membership_edited r es)) f (Some BadRequest)) (member_places-seen e o (membership_edited r es))

  may_update_seen : (request : RequestParts) (n : ℕ) → may_do Update seeing o request n ≡ may_do Update e o request n
  may_update_seen request n = ap₂ (cond (is_relink request)) (relinks-seen e.home e.nodes o n) (grants-seen e.home e.nodes o update_bit n)

  pub update_refused : (request : RequestParts) (r : ResourceData) → at r.number e.nodes ≡ Some r → fault_on Update (sight o e) o request (seen e.home e.nodes o r) ≡ fault_on Update e o request r
  update_refused request r there =
      let es = named_by Update request r in
      let may = may_do Update e o request r.number in
      let type = is_for Update r.ty in
      let content = admits_content Update request r in
      let later = expires_later e es in
      let live = links_live e es in
      let new = first_fault (edit_places seeing (see r) es) in
      ap (λ (b : Bool). refusal_by b type true content later (links_live seeing es) (child_fault request) new) (may_update_seen request r.number)
      ∙ ap (λ (b : Bool). refusal_by may type true content later b (child_fault request) new) (links-seen e o es)
      ∙ by_right may type true content later live (child_fault request) new (first_fault (edit_places e r es))
      (λ right takes. edit_seen request r there right)
