-- Two sound entities of which an originator sees the same are seen alike after its Create.
use Rattle.sight_laws.proofs.Words.{◌+◌, unwrap_or, ◌≡◌, ℕ, List, [], ◌∷◌, ◌++◌, true, Option, Some, None, inl, inr, refl, sym, ap, ap₂, subst, ◌∙◌, option_map_or}
use Rattle.sight_laws.proofs.Terms.{is_originator, Rsc, BadChild, NotFound, Create, Ty, Container, ContentInstance, Entry, RequestParts, HomeData, ResourceData, is_ty, ChangeData, creation_changes, at, fits_in, is_well_formed, learns_limits, fills, seen, seen_list, notes_of_all, nodes_spent, DraftParts, EntityData, telling, Effect, refused, IsSoundEntity, Creation, creation_of, new_resource, new_size, next_state, created_by, fault_on, child_ty, content_for, named_for, changes_by, pushed_out, after_joining, container_update_of, create_effect, effect_at, effect_by, nodes_joined, IsNewResource, gone_numbers, told_effect_by, told_effect_on}
use Rattle.sight_laws.proofs.Facts.{and_parts, cases_Bool, or_left, grown, join_gone, join_makes_changes}
use Rattle.create_delete.specs.Joining.{IsAllowed, MayJoin, gone_by}
use Rattle.create_delete.proofs.CreatableLemmas.{allowed, names_attributes, names_type}
use Rattle.create_delete.proofs.CreatedLemmas.{may_join, newcomer}
use Rattle.create_delete.proofs.EffectLemmas.{done_at}
use Rattle.create_delete.proofs.RightLemmas.{stays_sound}
use Rattle.equal_sights.specs.Sight.{sight}
use Rattle.sight_laws.proofs.CreationLemmas.{create_reply, fills_it, new_seen, update_seen}
use Rattle.sight_laws.proofs.JoinedLemmas.{IsContainerAt, appended, not_linked, stamped-same}
use Rattle.sight_laws.proofs.PlacesLemmas.{create_refused}
use Rattle.sight_laws.proofs.SeenAlikeLemmas.{AreSeenAlike, same_home, same_last, same_seen, seen_same, spent_alike}
use Rattle.sight_laws.proofs.ToldLemmas.{creation_seen, for_whom, numbers_told_all, sound_counts, whom_all}

-- ---- a creation that no place refuses

-- of this type, with the attributes that it names
pub record IsCreation (e : EntityData) (o : List ℕ) (request : RequestParts) (p : ResourceData) (child : Ty) : Type 0 where
  pub is : child_ty request ≡ Some child
  pub may : IsAllowed (creation_of e o child p (named_for request child))

module _ (e : EntityData) (o : List ℕ) (request : RequestParts) (p : ResourceData) (there : at p.number e.nodes ≡ Some p) (none : fault_on Create e o request p ≡ None) where
  by_content : (child : Ty) → child_ty request ≡ Some child → (es : Option (List Entry)) → content_for request child ≡ es → IsCreation e o request p child
  by_content child is None lacks = absurd (names_attributes e o request p child none is lacks)
  by_content child is (Some es) whole =
      let named : es ≡ named_for request child = sym (ap (λ (x : Option (List Entry)). unwrap_or x []) whole) in
      record {
        is = is;
        may = subst (λ (xs : List Entry). IsAllowed (creation_of e o child p xs)) named (allowed e o request p child es none there is whole);
      }

  pub creation_by : (child : Ty) → child_ty request ≡ Some child → IsCreation e o request p child
  creation_by child is = by_content child is (content_for request child) refl

  pub creates_some : (child : Ty) × (child_ty request ≡ Some child)
  creates_some = by (child_ty request) refl
    where
      by : (child : Option Ty) → child_ty request ≡ child → (ty : Ty) × (child_ty request ≡ Some ty)
      by None is = absurd (names_type e o request p none is)
      by (Some child) is = (child, is)

-- ---- after it

module _ (o : List ℕ) (e : EntityData) (sound : IsSoundEntity e) (request : RequestParts) (p : ResourceData) (there : at p.number e.nodes ≡ Some p) (originator : is_originator o ≡ true) (none : fault_on Create e o request p ≡ None) (child : Ty) (made : IsCreation e o request p child) where
  abbrev c : Creation
  c = creation_of e o child p (named_for request child)

  abbrev r : ResourceData
  r = new_resource c

  joins : MayJoin e r (container_update_of c)
  joins = may_join c sound originator made.may

  new : IsNewResource e r
  new = newcomer c sound originator made.may

  pub effect_is : effect_by Create e o request p ≡ create_effect request c
  effect_is = ap (λ (x : Option Ty). option_map_or (λ (ty : Ty). create_effect request (created_by e o request p ty)) x (refused e request BadChild)) made.is

  pub left_sound : IsSoundEntity (after_joining e r (container_update_of c))
  left_sound =
      let at_none : effect_at Create e o request p.number ≡ effect_by Create e o request p =
      done_at Create e o request p.number p there (ap (λ (x : Option ResourceData). option_map_or (fault_on Create e o request) x (Some NotFound)) there ∙ none) in
      subst (λ (x : Effect). IsSoundEntity x.after) (at_none ∙ effect_is) (stays_sound Create e o request p.number sound originator)

  pub grown_well : is_well_formed (e.nodes ++ r ∷ []) ≡ true
  grown_well = grown fits_in e.nodes r sound.tree new.fits

  pub learns : is_ty r.ty ContentInstance ≡ true → learns_limits e.home e.nodes o r.parent ≡ true
  learns instance =
      let filled = fills_it e o sound request p there none child made.is instance in
      fill_learns filled
    where
      fill_learns : fills e.home e.nodes o p ≡ true → learns_limits e.home e.nodes o p.number ≡ true
      fill_learns may =
          let either = (and_parts (is_ty p.ty Container) _ may).1 in
          rw there (or_left _ _ either)

  -- whom it is told to
  pub whom : (after : EntityData) → after ≡ after_joining e r (container_update_of c) → for_whom (notes_of_all after.home e.nodes (gone_numbers e after) (changes_by Create request p.number e after)) ≡ numbers_told_all (gone_by (container_update_of c)) (seen_list e.home e.nodes o) (creation_changes (seen_list e.home e.nodes o) r (gone_by (container_update_of c)))
  whom after is =
      whom_all after.home e.nodes (gone_numbers e after) (changes_by Create request p.number e after)
      ∙ ap (λ (x : EntityData). numbers_told_all (gone_numbers e x) e.nodes (changes_by Create request p.number e x)) is
      ∙ ap₂ (λ (going : List ℕ) (changes : List ChangeData). numbers_told_all going e.nodes changes) (join_gone e r (container_update_of c) sound joins) (join_makes_changes e r (container_update_of c) request p.number sound joins)
      ∙ sym (creation_seen e.home e.nodes o (gone_by (container_update_of c)) r)

-- ---- two entities

module _ (o : List ℕ) (x y : EntityData) (soundx : IsSoundEntity x) (soundy : IsSoundEntity y) (same : sight o x ≡ sight o y) (request : RequestParts) (p q : ResourceData) (inx : at p.number x.nodes ≡ Some p) (iny : at q.number y.nodes ≡ Some q) (number : q.number ≡ p.number) (originator : is_originator o ≡ true) where
  seen_is : seen x.home x.nodes o p ≡ seen y.home y.nodes o q
  seen_is = seen_same o x y same p.number p q inx (ap (λ (n : ℕ). at n y.nodes) (sym number) ∙ iny)

  -- what is the same on both sights is the same of both
  abbrev OfBoth : {X : Type 0} → (EntityData → ResourceData → X) → Type 0
  OfBoth f = f x p ≡ f y q

  through : {X : Type 0} (f : EntityData → ResourceData → X) → f (sight o x) (seen x.home x.nodes o p) ≡ f x p → f (sight o y) (seen y.home y.nodes o q) ≡ f y q → f x p ≡ f y q
  through f first second =
      sym first
      ∙ ap (λ (e : EntityData). f e (seen x.home x.nodes o p)) same
      ∙ ap (f (sight o y)) seen_is
      ∙ second

  fault_same : fault_on Create x o request p ≡ fault_on Create y o request q
  fault_same = through (λ (e : EntityData) (r : ResourceData). fault_on Create e o request r) (create_refused x o request p inx) (create_refused y o request q iny)

  reply_same : (told_effect_on Create x o request p).reply ≡ (told_effect_on Create y o request q).reply
  reply_same = through (λ (e : EntityData) (r : ResourceData). (told_effect_on Create e o request r).reply) (create_reply x o soundx request p inx) (create_reply y o soundy request q iny)

  module _ (none : fault_on Create x o request p ≡ None) (child : Ty) (is : child_ty request ≡ Some child) where
    none_too : fault_on Create y o request q ≡ None
    none_too = sym fault_same ∙ none

    made : IsCreation x o request p child
    made = creation_by x o request p inx none child is

    made_too : IsCreation y o request q child
    made_too = creation_by y o request q iny none_too child is

    abbrev es : List Entry
    es = named_for request child

    abbrev new_of : EntityData → ResourceData → ResourceData
    new_of e r = new_resource (creation_of e o child r (named_for request child))

    abbrev creation_on : EntityData → ResourceData → Creation
    creation_on e r = creation_of e o child r (named_for request child)

    abbrev gone_of : EntityData → ResourceData → List ℕ
    gone_of e r = gone_by (container_update_of (creation_on e r))

    fill : is_ty child ContentInstance ≡ true → fills x.home x.nodes o p ≡ true
    fill = fills_it x o soundx request p inx none child is

    fill_too : is_ty child ContentInstance ≡ true → fills y.home y.nodes o q ≡ true
    fill_too = fills_it y o soundy request q iny none_too child is

    new_same : new_of x p ≡ new_of y q
    new_same = through new_of (new_seen x o child p es fill) (new_seen y o child q es fill_too)

    update_same : container_update_of (creation_on x p) ≡ container_update_of (creation_on y q)
    update_same = through (λ (e : EntityData) (r : ResourceData). container_update_of (creation_on e r)) (update_seen x o child p es inx fill) (update_seen y o child q es iny fill_too)

    abbrev left_of : EntityData → ResourceData → EntityData
    left_of e r = after_joining e (new_of e r) (container_update_of (creation_on e r))

    -- the container of both, where the new resource is an instance
    container_of : (nodes : List ResourceData) (c : ResourceData) → at p.number nodes ≡ Some c → is_ty c.ty Container ≡ true → IsContainerAt nodes p.number c
    container_of nodes c there kind = record { there = there; kind = kind }

    joined_alike : seen_list x.home (nodes_joined x.last x.nodes (new_of x p) (container_update_of (creation_on x p))) o ≡ seen_list x.home (nodes_joined x.last y.nodes (new_of x p) (container_update_of (creation_on x p))) o
    joined_alike =
        let r = new_of x p in
        let wellx : is_well_formed (x.nodes ++ r ∷ []) ≡ true = grown_well o x soundx request p inx originator none child made in
        let welly : is_well_formed (y.nodes ++ r ∷ []) ≡ true = ap (λ (s : ResourceData). is_well_formed (y.nodes ++ s ∷ [])) new_same ∙ grown_well o y soundy request q iny originator none_too child made_too in
        let unlinked = not_linked r x.nodes soundx.ids in
        let learn = learns o x soundx request p inx originator none child made in
        elim (cases_Bool (is_ty child ContentInstance)) [
          | inr f ↦ rw f (appended x.home o x.nodes y.nodes r wellx welly unlinked learn (same_seen o x y same))
          | inl t ↦
              let kind : is_ty p.ty Container ≡ true = (and_parts (is_ty p.ty Container) _ (fill t)).0 in
              let kinds : is_ty q.ty Container ≡ true = ap (λ (s : ResourceData). is_ty s.ty Container) (sym seen_is) ∙ kind in
              rw t (stamped-same x.home o x.nodes y.nodes r wellx welly unlinked learn (same_seen o x y same)
              x.last p.number (next_state p) (pushed_out x p (Some (new_size (creation_on x p)))) p q
              (container_of x.nodes p inx kind) (container_of y.nodes q (ap (λ (n : ℕ). at n y.nodes) (sym number) ∙ iny) kinds))
        ]

    nodes_alike : seen_list x.home (left_of x p).nodes o ≡ seen_list y.home (left_of y q).nodes o
    nodes_alike =
        joined_alike
        ∙ ap (λ (h : HomeData). seen_list h (nodes_joined x.last y.nodes (new_of x p) (container_update_of (creation_on x p))) o) (same_home o x y same)
        ∙ ap (λ (m : ℕ). seen_list y.home (nodes_joined m y.nodes (new_of x p) (container_update_of (creation_on x p))) o) (same_last o x y same)
        ∙ ap₂ (λ s g. seen_list y.home (nodes_joined y.last y.nodes s g) o) new_same update_same

    left_alike : sight o (left_of x p) ≡ sight o (left_of y q)
    left_alike =
        ap (λ (ns : List ResourceData). record (sight o x) { nodes = ns; next = x.next + 1 }) nodes_alike
        ∙ ap (λ (e : EntityData). record e { nodes = seen_list y.home (left_of y q).nodes o; next = e.next + 1 }) same

    abbrev drafts_of : EntityData → ResourceData → List DraftParts
    drafts_of e r = notes_of_all (left_of e r).home e.nodes (gone_numbers e (left_of e r)) (changes_by Create request r.number e (left_of e r))

    abbrev whom_of : List ResourceData → ResourceData → List ℕ → List ℕ
    whom_of nodes r gone = numbers_told_all gone nodes (creation_changes nodes r gone)

    whom_same : for_whom (drafts_of x p) ≡ for_whom (drafts_of y q)
    whom_same =
        whom o x soundx request p inx originator none child made (left_of x p) refl
        ∙ ap (λ (e : EntityData). whom_of e.nodes (new_of x p) (gone_of x p)) same
        ∙ ap₂ (whom_of (seen_list y.home y.nodes o)) new_same (ap (λ g. gone_by g) update_same)
        ∙ sym (whom o y soundy request q iny originator none_too child made_too (left_of y q) refl)

    told_alike : sight o (record (left_of x p) { nodes = nodes_spent (drafts_of x p) (left_of x p).nodes }) ≡ sight o (record (left_of y q) { nodes = nodes_spent (drafts_of y q) (left_of y q).nodes })
    told_alike =
        let one = left_sound o x soundx request p inx originator none child made in
        let other = left_sound o y soundy request q iny originator none_too child made_too in
        spent_alike o (left_of x p) (left_of y q) left_alike (drafts_of x p) (drafts_of y q) one.tree other.tree
        (sound_counts (left_of x p) one) (sound_counts (left_of y q) other) whom_same

    abbrev told_of : EntityData → ResourceData → Effect → EntityData
    told_of e r effect = telling e.nodes (gone_numbers e effect.after) (changes_by Create request r.number e effect.after) effect.after

    done_alike : sight o (told_effect_by Create x o request p).after ≡ sight o (told_effect_by Create y o request q).after
    done_alike =
        ap (λ (effect : Effect). sight o (told_of x p effect)) (effect_is o x soundx request p inx originator none child made)
        ∙ told_alike
        ∙ sym (ap (λ (effect : Effect). sight o (told_of y q effect)) (effect_is o y soundy request q iny originator none_too child made_too))

  after_same : (fault : Option Rsc) → fault_on Create x o request p ≡ fault → sight o (option_map_or (refused x request) fault (told_effect_by Create x o request p)).after ≡ sight o (option_map_or (refused y request) fault (told_effect_by Create y o request q)).after
  after_same (Some fault) is = same
  after_same None none =
      let some = creates_some x o request p inx none in
      done_alike none some.0 some.1

  -- what comes of a Create of both is seen alike
  pub created-alike : AreSeenAlike o (told_effect_on Create x o request p) (told_effect_on Create y o request q)
  created-alike = record {
    reply = reply_same;
    after =
        after_same (fault_on Create x o request p) refl
        ∙ ap (λ (f : Option Rsc). sight o (option_map_or (refused y request) f (told_effect_by Create y o request q)).after) fault_same;
  }
