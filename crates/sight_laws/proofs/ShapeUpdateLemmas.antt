-- Two sound entities of one shape have one shape after an Update that names `acpi` or the rules of a
-- policy, and answer it alike.
use Rattle.sight_laws.proofs.Words.{nat_eq, unwrap_or, ◌≡◌, ℕ, List, [], ◌∷◌, map, true, false, Bool, ◌&&◌, cond, Option, Some, None, option_map, refl, sym, ap, ap₂, subst, ◌∙◌, list_any, option_and_then, option_map_or}
use Rattle.sight_laws.proofs.Terms.{Attr, Rsc, BadRequest, NoPrivilege, NotAllowed, NotFound, St, Updated, Update, Ty, AccessControlPolicy, ContentInstance, CseBase, RemoteCse, Subscription, Data, Entry, AreSorted, RequestParts, HomeData, ResourceData, id_of, is_attr, is_ty, ChangeData, updated, update_changes, at, is_well_formed, replaced, are_admitted, Updating, NewValue, changed, is_attr_in, notes_of_all, nodes_spent, DraftParts, EntityData, Effect, refused, reply_to, first_fault, wanted_content, IsSoundEntity, edit_places, expires_later, fault_on, links_live, link_row, membership_edited, MembershipData, have_addresses, member_places, admits_content, child_fault, content_for, is_for, named_by, named_for, is_relink, may_do, takes_child, changes_by, named_attrs, nodes_updated, pushed_by, updated_resource, without_all, IsReplacement, gone_numbers, told_effect_at, told_effect_by, told_effect_on, IsUpdatable, update_bit, on_found, spot_of}
use Rattle.create_delete.specs.Changing.{update_effect}
use Rattle.create_delete.specs.Telling.{told_effect}
use Rattle.sight_laws.proofs.Facts.{both_ways, cond_both, list_any-append, not-true, or_from, or_parts, is_well_formed-replaced, none-some, same_Some, at_number, id_attrs_hold, updating_changes, updating_gone, replacement, updatable, updates_attributes, sound_updated, places_parts}
use Rattle.request_rules.proofs.EditingLemmas.{admitted_for, names_some, sorted_for}
use Rattle.equal_sights.specs.Alike.{id_attrs, shape_attrs, told_attrs}
use Rattle.equal_sights.specs.Seen.{hidden_value, seen_points, seen_rules}
use Rattle.equal_sights.specs.Shape.{shape_list, shape_of, shape_value}
use Rattle.equal_sights.specs.Sight.{shape}
use Rattle.policy_laws.specs.Changes.{LeaveEnds, shape_changes}
use Rattle.policy_laws.proofs.ShapeAlikeLemmas.{at-shape, grants-shape, relinks-shape}
use Rattle.policy_laws.proofs.ShapeKeptLemmas.{shape_replace-same, shape_without-same}
use Rattle.sight_laws.specs.Laws.{changes_rules, names_rules}
use Rattle.sight_laws.proofs.PlacesLemmas.{refusal_by}
use Rattle.sight_laws.proofs.RuleEditLemmas.{ChangesRules, ages_stay, changes_rules_only, pushes_none, rules_for}
use Rattle.sight_laws.proofs.SeenAlikeLemmas.{AreLeftAlike}
use Rattle.sight_laws.proofs.ShapeRepliedLemmas.{AreTwins, changes_alike, replied_alike}
use Rattle.sight_laws.proofs.ShapeToldLemmas.{spent-shaped, update_kept}
use Rattle.sight_laws.proofs.SpotLemmas.{spot_of-kept}
use Rattle.sight_laws.proofs.ToldLemmas.{for_whom, numbers_told_all, sound_counts, whom_all}
use Rattle.sight_laws.proofs.UpdateSeenLemmas.{changes_of, new_expiry, updated_changed}
use Rattle.sight_laws.proofs.ViewLemmas.{link_row-view, links-view, shape_stands}

-- ---- the shape keeps nothing of the state tag

no_state : (ty : Ty) → is_attr_in (shape_attrs ty) St ≡ false
no_state ty =
    list_any-append (is_attr St) (id_attrs ty) (told_attrs ty)
    ∙ or_from _ _ (id_attrs_hold (λ (attrs : List Attr). is_attr_in attrs St ≡ false) ty (λ t. refl) (λ t. refl) refl)
    (cond_both (is_ty ty Subscription) _ _ (λ (attrs : List Attr). is_attr_in attrs St ≡ false) (λ t. refl) (λ f. refl))

state_hidden : (home : HomeData) (o : List ℕ) (r : ResourceData) (d : Data) → shape_value home o r St d ≡ None
state_hidden home o r d =
    ap (λ b. cond b (Some d) (hidden_value home o r St d)) (no_state r.ty)
    ∙ by (is_ty r.ty AccessControlPolicy) (is_ty r.ty RemoteCse)
  where
    by : (a b : Bool) → cond (a && false) (Some (seen_rules home o d)) (cond (b && false) (seen_points d) None) ≡ None
    by true true = refl
    by true false = refl
    by false true = refl
    by false false = refl

-- ---- by what it is refused

by_content : (may type child content later live : Bool) (fault : Rsc) (new other : Option Rsc) → (content ≡ true → new ≡ other) → refusal_by may type child content later live fault new ≡ refusal_by may type child content later live fault other
by_content false type child content later live fault new other same = refl
by_content true false child content later live fault new other same = refl
by_content true true false content later live fault new other same = refl
by_content true true true false later live fault new other same = refl
by_content true true true true later live fault new other same = ap (refusal_by true true true true later live fault) (same refl)

module _ (e : EntityData) (o : List ℕ) (request : RequestParts) (r : ResourceData) (rules : changes_rules request ≡ true) where
  abbrev turned : EntityData
  turned = shape o e

  abbrev named_es : List Entry
  named_es = named_by Update request r

  -- an admitted content changes rules alone
  admitted_rules : admits_content Update request r ≡ true → ChangesRules r (named_by Update request r)
  admitted_rules content = by (content_for request r.ty) refl
    where
      by : (xs : Option (List Entry)) → content_for request r.ty ≡ xs → ChangesRules r (unwrap_or xs [])
      by None lacks = absurd (names_some Updating request r.ty content lacks)
      by (Some xs) whole =
          changes_rules_only r xs (sorted_for Updating request r.ty xs content whole) (admitted_for Updating request r.ty xs content whole)
          (rules_for request rules r.ty xs whole)

  places_same : admits_content Update request r ≡ true → first_fault (edit_places turned (shape_of e.home e.nodes o r) named_es) ≡ first_fault (edit_places e r named_es)
  places_same content =
      let only = admitted_rules content in
      let places : EntityData → Option MembershipData → Option Rsc = λ x m. cond (have_addresses e.home m) (first_fault (member_places x m)) (Some BadRequest) in
      let none : membership_edited r named_es ≡ None = rw only.members refl in
      let still : membership_edited (shape_of e.home e.nodes o r) named_es ≡ None = rw only.members refl in
      ap (places turned) still ∙ sym (ap (places e) none)

  pub refused_so : fault_on Update (shape o e) o request (shape_of e.home e.nodes o r) ≡ fault_on Update e o request r
  refused_so =
      let may = may_do Update e o request r.number in
      let type = is_for Update r.ty in
      let content = admits_content Update request r in
      let later = expires_later e named_es in
      let live = links_live e named_es in
      let new = first_fault (edit_places turned (shape_of e.home e.nodes o r) named_es) in
      let right : may_do Update turned o request r.number ≡ may_do Update e o request r.number =
      ap₂ (cond (is_relink request)) (relinks-shape e.home e.nodes o r.number) (grants-shape e.home e.nodes o update_bit r.number) in
      ap (λ (b : Bool). refusal_by b type true content later (links_live turned named_es) (child_fault request) new) right
      ∙ ap (λ (b : Bool). refusal_by may type true content later b (child_fault request) new) (links-view e (shape_of e.home e.nodes o) (shape_stands e.home e.nodes o) named_es)
      ∙ by_content may type true content later live (child_fault request) new (first_fault (edit_places e r named_es)) places_same

-- ---- one that isn't refused

pub record IsRuleUpdate (e : EntityData) (es : List Entry) (r : ResourceData) : Type 0 where
  pub may : IsUpdatable e es r
  pub only : ChangesRules r es

pub rule_update : (e : EntityData) (o : List ℕ) (request : RequestParts) (r : ResourceData) → at r.number e.nodes ≡ Some r → changes_rules request ≡ true → fault_on Update e o request r ≡ None → IsRuleUpdate e (named_by Update request r) r
rule_update e o request r there rules none = by (content_for request r.ty) refl
  where
    by : (es : Option (List Entry)) → content_for request r.ty ≡ es → IsRuleUpdate e (named_by Update request r) r
    by None lacks = absurd (updates_attributes e o request r none lacks)
    by (Some es) whole =
        let named : es ≡ named_by Update request r = sym (ap (λ (x : Option (List Entry)). unwrap_or x []) whole) in
        record {
          may = subst (λ (xs : List Entry). IsUpdatable e xs r) named (updatable e o request r es none there whole);
          only = admitted_rules e o request r rules (places_parts Update e o request r none).content;
        }

module _ (o : List ℕ) (e : EntityData) (sound : IsSoundEntity e) (request : RequestParts) (r : ResourceData) (there : at r.number e.nodes ≡ Some r) (es : List Entry) (done : IsRuleUpdate e es r) where
  abbrev now : ResourceData
  now = updated_resource e es r

  abbrev left : EntityData
  left = record e { nodes = nodes_updated e now }

  new : IsReplacement e now
  new = replacement e es r sound done.may

  pub left_sound : IsSoundEntity (record e { nodes = nodes_updated e (updated_resource e es r) })
  left_sound = sound_updated e now sound new

  pub replaced_well : is_well_formed (replaced (updated_resource e es r) e.nodes) ≡ true
  replaced_well = is_well_formed-replaced now e.nodes new.stood ∙ sound.tree

  pub pushed_none : pushed_by e (updated_resource e es r) ≡ []
  pushed_none = pushes_none e r es done.only sound there

  pub leaves_ends : LeaveEnds r (changes_of e es r)
  leaves_ends = record {
    other = (or_parts (is_ty r.ty CseBase) (is_ty r.ty ContentInstance) (not-true _ done.may.kind)).1;
    ends = ages_stay e r es done.only;
  }

  -- what is told of it
  abbrev drafts : List DraftParts
  drafts = notes_of_all left.home e.nodes (gone_numbers e left) (changes_by Update request r.number e left)

  -- whom it is told to
  pub whom : for_whom drafts ≡ numbers_told_all [] (shape_list e.home e.nodes o) (updated r (updated_resource e es r) (named_attrs request r) ∷ [])
  whom =
      whom_all left.home e.nodes (gone_numbers e left) (changes_by Update request r.number e left)
      ∙ ap₂ (λ (going : List ℕ) (changes : List ChangeData). numbers_told_all going e.nodes changes)
      (updating_gone e sound now new ∙ pushed_none)
      (updating_changes e sound now new request r there ∙ ap (update_changes e.nodes r now (named_attrs request r)) pushed_none)
      ∙ sym (update_kept e.home e.nodes o [] r now (named_attrs request r))

-- ---- two entities of one shape

-- what stands at a number: none in both, or a resource in each
pub data FoundBoth (x y : EntityData) (n : ℕ) : Type 0 where
  neither_found : at n x.nodes ≡ None → at n y.nodes ≡ None → FoundBoth x y n
  each_found : (p q : ResourceData) → at n x.nodes ≡ Some p → at n y.nodes ≡ Some q → FoundBoth x y n

pub found_shaped : (o : List ℕ) (x y : EntityData) → shape o x ≡ shape o y → (n : ℕ) → FoundBoth x y n
found_shaped o x y same n =
    by (at n x.nodes) (at n y.nodes) refl refl
    (sym (at-shape x.home x.nodes o n) ∙ ap (λ (e : EntityData). at n e.nodes) same ∙ at-shape y.home y.nodes o n)
  where
    by : (p q : Option ResourceData) → at n x.nodes ≡ p → at n y.nodes ≡ q → option_map (shape_of x.home x.nodes o) (at n x.nodes) ≡ option_map (shape_of y.home y.nodes o) (at n y.nodes) → FoundBoth x y n
    by None None first second alike = neither_found first second
    by (Some p) (Some q) first second alike = each_found p q first second
    by None (Some q) first second alike =
        absurd (none-some (shape_of y.home y.nodes o q) (sym (ap (option_map (shape_of x.home x.nodes o)) first) ∙ alike ∙ ap (option_map (shape_of y.home y.nodes o)) second))
    by (Some p) None first second alike =
        absurd (none-some (shape_of x.home x.nodes o p) (sym (ap (option_map (shape_of y.home y.nodes o)) second) ∙ sym alike ∙ ap (option_map (shape_of x.home x.nodes o)) first))

module _ (o : List ℕ) (x y : EntityData) (soundx : IsSoundEntity x) (soundy : IsSoundEntity y) (same : shape o x ≡ shape o y) (request : RequestParts) (rules : changes_rules request ≡ true) where
  home_same : x.home ≡ y.home
  home_same = ap (λ (e : EntityData). e.home) same

  last_same : x.last ≡ y.last
  last_same = ap (λ (e : EntityData). e.last) same

  list_same : shape_list x.home x.nodes o ≡ shape_list x.home y.nodes o
  list_same = ap (λ (e : EntityData). e.nodes) same ∙ ap (λ (h : HomeData). shape_list h y.nodes o) (sym home_same)

  module _ (p q : ResourceData) (inx : at p.number x.nodes ≡ Some p) (iny : at q.number y.nodes ≡ Some q) (number : q.number ≡ p.number) where
    place : at p.number y.nodes ≡ Some q
    place = ap (λ (n : ℕ). at n y.nodes) (sym number) ∙ iny

    shape_is : shape_of x.home x.nodes o p ≡ shape_of y.home y.nodes o q
    shape_is =
        let first : at p.number (shape_list x.home x.nodes o) ≡ Some (shape_of x.home x.nodes o p) = at-shape x.home x.nodes o p.number ∙ ap (option_map (shape_of x.home x.nodes o)) inx in
        let second : at p.number (shape_list y.home y.nodes o) ≡ Some (shape_of y.home y.nodes o q) = at-shape y.home y.nodes o p.number ∙ ap (option_map (shape_of y.home y.nodes o)) place in
        same_Some (shape_of x.home x.nodes o p) (shape_of y.home y.nodes o q) (sym first ∙ ap (λ (e : EntityData). at p.number e.nodes) same ∙ second)

    twins : AreTwins x y p q
    twins = record {
      home = home_same;
      last = last_same;
      ty = ap (λ (r : ResourceData). r.ty) shape_is;
      name = ap (λ (r : ResourceData). r.name) shape_is;
      id = ap (λ (r : ResourceData). id_of r) shape_is;
    }

    fault_same : fault_on Update x o request p ≡ fault_on Update y o request q
    fault_same =
        sym (refused_so x o request p rules)
        ∙ ap₂ (λ (e : EntityData) (r : ResourceData). fault_on Update e o request r) same shape_is
        ∙ refused_so y o request q rules

    abbrev es : List Entry
    es = named_by Update request p

    es_same : named_by Update request q ≡ named_by Update request p
    es_same = ap (named_for request) (sym twins.ty)

    links_same : (a : Attr) → link_row x (named_by Update request p) a ≡ link_row y (named_by Update request p) a
    links_same a =
        sym (link_row-view x (shape_of x.home x.nodes o) (shape_stands x.home x.nodes o) es a)
        ∙ ap (λ (e : EntityData). link_row e es a) same
        ∙ link_row-view y (shape_of y.home y.nodes o) (shape_stands y.home y.nodes o) es a

    module _ (mine : IsRuleUpdate x (named_by Update request p) p) (own : IsRuleUpdate y (named_by Update request q) q) where
      -- what the second changes, by what the first names
      theirs : IsRuleUpdate y (named_by Update request p) q
      theirs = subst (λ (xs : List Entry). IsRuleUpdate y xs q) es_same own

      -- what an Update of these attributes leaves of an entity, told
      abbrev effect_of : EntityData → ResourceData → List Entry → Effect
      effect_of e r xs =
          told_effect e (changes_by Update request r.number e (update_effect e request xs r).after) (update_effect e request xs r)

      theirs_is : told_effect_by Update y o request q ≡ effect_of y q (named_by Update request p)
      theirs_is = ap (effect_of y q) es_same

      reply_done : (told_effect_by Update x o request p).reply ≡ (told_effect_by Update y o request q).reply
      reply_done =
          ap (reply_to request Updated) (replied_alike x y p q es twins mine.only theirs.only links_same soundx soundy mine.may theirs.may (wanted_content request.rcn))
          ∙ sym (ap (λ (effect : Effect). effect.reply) theirs_is)

      -- the shape keeps the same of what they change
      changes_same : shape_changes x.home o p (changes_of x es p) ≡ shape_changes x.home o q (changes_of y es q)
      changes_same =
          ap (λ (k : Ty). shape_changes x.home o (record q { ty = k }) (changes_of x es p)) twins.ty
          ∙ changes_alike x y p q es twins mine.only theirs.only links_same
          (λ (c : NewValue). (c.0, option_and_then (shape_value x.home o q c.0) c.1)) (λ d. ap (λ (v : Option Data). (St, v)) (state_hidden x.home o q d))

      abbrev now_of : EntityData → ResourceData → ResourceData
      now_of e r = updated_resource e (named_by Update request p) r

      abbrev left_of : EntityData → ResourceData → EntityData
      left_of e r = record e { nodes = nodes_updated e (now_of e r) }

      nodes_same : shape_list x.home (nodes_updated x (now_of x p)) o ≡ shape_list x.home (nodes_updated y (now_of y q)) o
      nodes_same =
          let first = changed (changes_of x es p) (Some x.last) (new_expiry es) p in
          let second = changed (changes_of y es q) (Some y.last) (new_expiry es) q in
          let is : now_of x p ≡ first = updated_changed x es p in
          let too : now_of y q ≡ second = updated_changed y es q in
          let wellx : is_well_formed (replaced first x.nodes) ≡ true = ap (λ (c : ResourceData). is_well_formed (replaced c x.nodes)) (sym is) ∙ replaced_well o x soundx request p inx es mine in
          let welly : is_well_formed (replaced second y.nodes) ≡ true = ap (λ (c : ResourceData). is_well_formed (replaced c y.nodes)) (sym too) ∙ replaced_well o y soundy request q iny es theirs in
          ap (λ (gone : List ℕ). shape_list x.home (without_all gone (replaced (now_of x p) x.nodes)) o) (pushed_none o x soundx request p inx es mine)
          ∙ ap (λ (c : ResourceData). shape_list x.home (without_all [] (replaced c x.nodes)) o) is
          ∙ shape_without-same x.home (replaced first x.nodes) (replaced second y.nodes) o (λ n. list_any (nat_eq n) []) wellx welly
          (shape_replace-same x.home x.nodes y.nodes o p.number p q (changes_of x es p) (changes_of y es q) (Some x.last) (Some y.last) (new_expiry es) soundx.tree soundy.tree inx place
          (leaves_ends o x soundx request p inx es mine) (leaves_ends o y soundy request q iny es theirs) changes_same list_same)
          ∙ ap (λ (c : ResourceData). shape_list x.home (without_all [] (replaced c y.nodes)) o) (sym too)
          ∙ ap (λ (gone : List ℕ). shape_list x.home (without_all gone (replaced (now_of y q) y.nodes)) o) (sym (pushed_none o y soundy request q iny es theirs))

      abbrev drafts_of : EntityData → ResourceData → List DraftParts
      drafts_of e r = notes_of_all (left_of e r).home e.nodes (gone_numbers e (left_of e r)) (changes_by Update request r.number e (left_of e r))

      abbrev whom_of : List ResourceData → ℕ → List Attr → List ℕ
      whom_of nodes n attrs = numbers_told_all [] nodes (updated p (record p { number = n }) attrs ∷ [])

      whom_same : for_whom (drafts_of x p) ≡ for_whom (drafts_of y q)
      whom_same =
          whom o x soundx request p inx es mine
          ∙ ap (λ (e : EntityData). whom_of e.nodes p.number (named_attrs request p)) same
          ∙ ap (λ (n : ℕ). whom_of (shape_list y.home y.nodes o) n (named_attrs request p)) (sym number)
          ∙ ap (λ (r : ResourceData). whom_of (shape_list y.home y.nodes o) q.number (named_attrs request r)) shape_is
          ∙ sym (whom o y soundy request q iny es theirs)

      spent_nodes : shape_list x.home (nodes_spent (drafts_of x p) (left_of x p).nodes) o ≡ shape_list x.home (nodes_spent (drafts_of y q) (left_of y q).nodes) o
      spent_nodes =
          let one = left_sound o x soundx request p inx es mine in
          let other = left_sound o y soundy request q iny es theirs in
          spent-shaped x.home o (left_of x p).nodes (left_of y q).nodes (drafts_of x p) (drafts_of y q) one.tree other.tree
          (sound_counts (left_of x p) one) (sound_counts (left_of y q) other) nodes_same whom_same

      done_same : shape o (told_effect_by Update x o request p).after ≡ shape o (told_effect_by Update y o request q).after
      done_same =
          ap (λ (ns : List ResourceData). record (shape o x) { nodes = ns })
          (spent_nodes ∙ ap (λ (h : HomeData). shape_list h (nodes_spent (drafts_of y q) (left_of y q).nodes) o) home_same)
          ∙ ap (λ (e : EntityData). record e { nodes = shape_list y.home (nodes_spent (drafts_of y q) (left_of y q).nodes) o }) same
          ∙ sym (ap (λ (effect : Effect). shape o effect.after) theirs_is)

    abbrev OneShape : Effect → Effect → Type 0
    OneShape = AreLeftAlike (λ a b. shape o a ≡ shape o b)

    by_fault_same : (fault : Option Rsc) → fault_on Update x o request p ≡ fault → fault_on Update y o request q ≡ fault → OneShape (option_map_or (refused x request) fault (told_effect_by Update x o request p)) (option_map_or (refused y request) fault (told_effect_by Update y o request q))
    by_fault_same (Some fault) is too = record { reply = refl; after = same }
    by_fault_same None is too =
        let mine = rule_update x o request p inx rules is in
        let theirs_too = rule_update y o request q iny rules too in
        record { reply = reply_done mine theirs_too; after = done_same mine theirs_too }

    -- what comes of it in both is answered alike, and leaves one shape
    pub updated-shaped : AreLeftAlike (λ a b. shape o a ≡ shape o b) (told_effect_on Update x o request p) (told_effect_on Update y o request q)
    updated-shaped =
        subst (λ (f : Option Rsc). OneShape (told_effect_on Update x o request p) (option_map_or (refused y request) f (told_effect_by Update y o request q))) fault_same
        (by_fault_same (fault_on Update x o request p) refl (sym fault_same))

  -- so it is of the resource of a number
  abbrev at_x : Option ResourceData → Effect
  at_x p = on_found x request (told_effect_on Update x o request) p

  abbrev at_y : Option ResourceData → Effect
  at_y q = on_found y request (told_effect_on Update y o request) q

  pub updated_at-shaped : (n : ℕ) → AreLeftAlike (λ a b. shape o a ≡ shape o b) (told_effect_at Update x o request n) (told_effect_at Update y o request n)
  updated_at-shaped n = by (found_shaped o x y same n)
    where
      by : FoundBoth x y n → AreLeftAlike (λ a b. shape o a ≡ shape o b) (at_x (at n x.nodes)) (at_y (at n y.nodes))
      by (neither_found none lacks) =
          subst (λ (p : Option ResourceData). AreLeftAlike (λ a b. shape o a ≡ shape o b) (at_x p) (at_y (at n y.nodes))) (sym none)
          (subst (λ (q : Option ResourceData). AreLeftAlike (λ a b. shape o a ≡ shape o b) (at_x None) (at_y q)) (sym lacks) (record { reply = refl; after = same }))
      by (each_found p q first second) =
          let np = at_number n x.nodes p first in
          let nq = at_number n y.nodes q second in
          subst (λ (r : Option ResourceData). AreLeftAlike (λ a b. shape o a ≡ shape o b) (at_x r) (at_y (at n y.nodes))) (sym first)
          (subst (λ (r : Option ResourceData). AreLeftAlike (λ a b. shape o a ≡ shape o b) (at_x (Some p)) (at_y r)) (sym second)
          (updated-shaped p q (ap (λ (m : ℕ). at m x.nodes) np ∙ first) (ap (λ (m : ℕ). at m y.nodes) nq ∙ second) (nq ∙ sym np)))

-- what an address names is the same in both
pub spots_shaped : (o : List ℕ) (x y : EntityData) → shape o x ≡ shape o y → (segments : List (List ℕ)) → spot_of segments x.nodes ≡ spot_of segments y.nodes
spots_shaped o x y same segments = sym (kept x) ∙ ap (λ (e : EntityData). spot_of segments e.nodes) same ∙ kept y
  where
    kept : (e : EntityData) → spot_of segments (shape_list e.home e.nodes o) ≡ spot_of segments e.nodes
    kept e =
        let stands = shape_stands e.home e.nodes o in
        spot_of-kept (shape_of e.home e.nodes o) stands.number stands.parent stands.ty stands.name stands.ae segments e.nodes
