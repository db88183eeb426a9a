-- What a Create and an Update change where they are served.
use Rattle.change_laws.proofs.Words.{◌≡◌, ℕ, ◌+◌, List, [], length, true, false, Option, Some, None, inl, inr, refl, sym, ap, ◌∙◌, subst, arith, option_map_or}
use Rattle.change_laws.proofs.Terms.{Rsc, BadChild, Op, Create, Retrieve, Update, Delete, Notify, Ty, ContentInstance, Entry, RequestParts, ResourceData, is_ty, at, has, is_instance, is_tree, restamped, EntityData, Effect, refused, IsSoundEntity, Creation, new_resource, new_size, next_state, creation_by, fault_at, fault_on, child_ty, changes_at, creation_changes, named_attrs, only_in, update_changes, after_joining, create_effect, container_update_of, nodes_updated, effect_at, pushed_by, pushed_out, updated_by, updated_resource, with_new_resource, gone_by, IsAllowed, MayJoinContainer, MayJoin}
use Rattle.change_laws.proofs.Facts.{cases_Bool, cases_eq, both_ways, at_has, at_number, at-replaced_other, found_at, nothing_on, c_left, created_are, fresh, gone_are, nothing_apart, only_last, updated_are, names_type, deletion_keeps, delete_done, done_at, refused_at}
use Rattle.std.proofs.lemmas.Option.{same_Some}
use Rattle.m2m_names.specs.Name.{is_originator}
use Rattle.m2m_names.specs.StatusCodes.{is_success}
use Rattle.tree_model.proofs.GrowthLemmas.{tree_from_well_formed}
use Rattle.request_rules.proofs.RefusalLemmas.{refuses_at}
use Rattle.create_delete.specs.Guard.{IsChanged, IsGone}
use Rattle.create_delete.specs.NewResource.{IsNewInstance, IsNewResource, IsReplacement}
use Rattle.change_laws.specs.Served.{AddsOne, ChangesOne, ServesCreate, ServesDelete, ServesUpdate}
use Rattle.create_delete.proofs.GrownLemmas.{picked_never}
use Rattle.create_delete.proofs.JoiningLemmas.{filled_is}
use Rattle.create_delete.proofs.ReplacementLemmas.{replacement}
use Rattle.create_delete.proofs.RightCreateLemmas.{after_is, changed_is, create, itself, joins, made_sound, named, nodes_filled, older_there, removed, IsCreate}
use Rattle.create_delete.proofs.RightLemmas.{stays_sound}
use Rattle.create_delete.proofs.RightUpdateLemmas.{is_update, stood_before, updated_in, updated_left}
use Rattle.create_delete.proofs.UpdatedLemmas.{sound_updated}

-- ---- what is served isn't refused

pub not_refused : (op : Op) (e : EntityData) (o : List ℕ) (request : RequestParts) (n : ℕ) → is_success (effect_at op e o request n).reply.rsc ≡ true → fault_at op e o request n ≡ None
not_refused op e o request n served = by_fault (fault_at op e o request n) refl
  where
    by_fault : (x : Option Rsc) → fault_at op e o request n ≡ x → x ≡ None
    by_fault None is = refl
    by_fault (Some f) is =
        let succeeds : is_success f ≡ true = ap (λ (x : Effect). is_success x.reply.rsc) (sym (refused_at op e o request n f is)) ∙ served in
        absurd (both_ways (is_success f) (refuses_at op e o request n f is) succeeds)

-- ---- a Create

-- what isn't an instance changes nothing else
adds_plain : (e : EntityData) (r : ResourceData) → IsSoundEntity e → IsNewResource e r → AddsOne e r.parent (with_new_resource e r)
adds_plain e r sound new = record {
  made = r;
  alone = only_last e r sound new;
  number = new.number;
  parent = refl;
  changed = λ a b change.
      let before : at b.number e.nodes ≡ Some a = ap (λ (m : ℕ). at m e.nodes) change.same ∙ change.was in
      absurd (change.differs (same_Some b a (sym change.is ∙ older_there e sound r new b.number a before)));
  removed = λ s gone.
      let both : Some s ≡ None = sym (older_there e sound r new s.number s gone.0) ∙ gone.1 in
      cc;
  rest = refl;
}

-- an instance changes its container
adds_instance : (e : EntityData) (sound : IsSoundEntity e) (r c : ResourceData) (st : ℕ) (filling : IsNewInstance e r c st) → st ≡ next_state c → AddsOne e r.parent (record { home = e.home; nodes = nodes_filled e sound r c st filling; next = e.next + 1; last = e.last; items = e.items; numbered = e.numbered })
adds_instance e sound r c st filling counts = record {
  made = r;
  alone = fresh e sound r c st filling;
  number = filling.new.number;
  parent = refl;
  changed = λ a b change.
      let is = changed_is e sound r c st filling a b change in
      let container : a.number ≡ r.parent = ap (λ (x : ResourceData). x.number) (sym is.0) ∙ named e sound r c st filling in (
        container,
        record {
          instance = ap (λ (m : ℕ). is_instance m r) container ∙ itself e sound r c st filling;
          stamped =
              sym is.1 ∙ ap (λ (m : ℕ). restamped e.last m c) counts
              ∙ ap (λ (x : ResourceData). restamped e.last (next_state x) x) is.0;
        },
      );
  removed = λ s gone. (itself e sound r c st filling, removed e sound r c st filling s gone);
  rest = refl;
}

-- the resource of a creation is added, and counts in its container where it is an instance
creation_adds : (c : Creation) → IsSoundEntity c.e → IsAllowed c → MayJoin c.e (new_resource c) (container_update_of c) → AddsOne c.e c.parent.number (after_joining c.e (new_resource c) (container_update_of c))
creation_adds c sound allowed may = elim (cases_Bool (is_ty c.ty ContentInstance)) [
  | inl t ↦
      let fills : MayJoinContainer c.e (new_resource c) (record { container = c.parent.number; state = next_state c.parent; gone = pushed_out c.e c.parent (Some (new_size c)) }) = rw t at may in
      let same : c.parent ≡ fills.parent = same_Some c.parent fills.parent (sym allowed.parent ∙ fills.joins.container) in
      rw t (subst (AddsOne c.e c.parent.number) (filled_is c.e (new_resource c) _ fills)
      (adds_instance c.e sound (new_resource c) fills.parent (next_state c.parent) fills.joins (ap next_state same)))
  | inr none ↦
      let joins : IsNewResource c.e (new_resource c) × (is_ty c.ty ContentInstance ≡ false) = rw none at may in
      rw none (adds_plain c.e (new_resource c) sound joins.0)
]

module _ (e : EntityData) (o : List ℕ) (request : RequestParts) (n : ℕ) (sound : IsSoundEntity e) (originator : is_originator o ≡ true) (none : fault_at Create e o request n ≡ None) where
  abbrev creates : IsCreate e o request n
  creates = create e o request n sound originator none

  abbrev made : Creation
  made = creates.made

  may : MayJoin made.e (new_resource made) (container_update_of made)
  may = joins e o request n sound originator none

  after : (effect_at Create e o request n).after ≡ after_joining made.e (new_resource made) (container_update_of made)
  after = after_is e o request n sound originator none

  pub adds_one : AddsOne e n (effect_at Create e o request n).after
  adds_one =
      subst (AddsOne e n) (sym after)
      (subst (λ (x : EntityData). AddsOne x n (after_joining made.e (new_resource made) (container_update_of made))) creates.entity
      (subst (λ (m : ℕ). AddsOne made.e m (after_joining made.e (new_resource made) (container_update_of made))) creates.parent
      (creation_adds made (made_sound e o request n sound originator none) creates.may may)))

  -- its changes are those that it prepares
  pub creation_told : (parent : ResourceData) (ty : Ty) → at n e.nodes ≡ Some parent → child_ty request ≡ Some ty → changes_at Create e o request n ≡ creation_changes e.nodes (new_resource (creation_by e o request parent ty)) (gone_by (container_update_of (creation_by e o request parent ty)))
  creation_told parent ty found child =
      let by : made ≡ creation_by e o request parent ty = creates.by parent ty found child in
      sym (created_are e o request n (new_resource (creation_by e o request parent ty)) (container_update_of (creation_by e o request parent ty)) sound none
      (subst (λ (c : Creation). MayJoin c.e (new_resource c) (container_update_of c)) by may)
      (sym (subst (λ (c : Creation). (effect_at Create e o request n).after ≡ after_joining c.e (new_resource c) (container_update_of c)) by after)))

pub creation_adds_one : (e : EntityData) (o : List ℕ) (request : RequestParts) (n : ℕ) → IsSoundEntity e → is_originator o ≡ true → is_success (effect_at Create e o request n).reply.rsc ≡ true → AddsOne e n (effect_at Create e o request n).after
creation_adds_one e o request n sound originator served = adds_one e o request n sound originator (not_refused Create e o request n served)

pub told_created : (e : EntityData) (o : List ℕ) (request : RequestParts) (n : ℕ) (parent : ResourceData) (ty : Ty) → IsSoundEntity e → is_originator o ≡ true → fault_at Create e o request n ≡ None → at n e.nodes ≡ Some parent → child_ty request ≡ Some ty → changes_at Create e o request n ≡ creation_changes e.nodes (new_resource (creation_by e o request parent ty)) (gone_by (container_update_of (creation_by e o request parent ty)))
told_created e o request n parent ty sound originator none found child = creation_told e o request n sound originator none parent ty found child

-- ---- an Update

module _ (e : EntityData) (sound : IsSoundEntity e) (old now : ResourceData) (new : IsReplacement e now) (stood : at now.number e.nodes ≡ Some old) where
  abbrev left : List ResourceData
  left = nodes_updated e now

  left_tree : is_tree left ≡ true
  left_tree = tree_from_well_formed left (sound_updated e now sound new).tree

  each_known : (r : ResourceData) → at r.number left ≡ Some r → has r.number e.nodes ≡ true
  each_known r found = elim (cases_eq r.number now.number) [
    | inl same ↦ ap (λ (m : ℕ). has m e.nodes) same ∙ at_has now.number e.nodes old stood
    | inr apart ↦ at_has r.number e.nodes r (stood_before e sound now new r.number r apart found)
  ]

  changed_alone : (r s : ResourceData) → IsChanged e.nodes left r s → r.number ≡ now.number
  changed_alone r s change = elim (cases_eq s.number now.number) [
    | inl same ↦ sym change.same ∙ same
    | inr apart ↦
        let before : at s.number e.nodes ≡ Some s = stood_before e sound now new s.number s apart change.is in
        absurd (change.differs (same_Some s r (sym before ∙ ap (λ (m : ℕ). at m e.nodes) change.same ∙ change.was)))
  ]

  gone_instance : (r : ResourceData) → IsGone e.nodes left r → is_instance now.number r ≡ true
  gone_instance r gone = elim (cases_eq r.number now.number) [
    | inl same ↦
        let both : Some now ≡ None = sym (c_left e sound now new) ∙ ap (λ (m : ℕ). at m left) (sym same) ∙ gone.1 in
        cc
    | inr apart ↦ (updated_left e sound now new).gone r (at-replaced_other r.number now e.nodes apart ∙ gone.0) gone.1
  ]

  pub changes_one : now ≡ record old { lt = e.last; et = now.et; attrs = now.attrs } → ChangesOne e now.number (updated_in e now)
  changes_one same = record {
    was = old;
    is = now;
    stood = stood;
    stands = c_left e sound now new;
    same = same;
    none = gone_are (λ r. false) left e.nodes left_tree each_known ∙ picked_never left;
    changed = changed_alone;
    removed = gone_instance;
    rest = refl;
  }

update_changes_one : (e : EntityData) (o : List ℕ) (request : RequestParts) (n : ℕ) → IsSoundEntity e → fault_at Update e o request n ≡ None → ChangesOne e n (effect_at Update e o request n).after
update_changes_one e o request n sound none =
    let u = is_update e o request n none in
    let now = updated_resource e u.es u.target in
    subst (ChangesOne e n) (sym u.after)
    (subst (λ (m : ℕ). ChangesOne e m (updated_in e now)) u.number
    (changes_one e sound u.target now (replacement e u.es u.target sound u.may) u.may.stands refl))

pub update_alone : (e : EntityData) (o : List ℕ) (request : RequestParts) (n : ℕ) → IsSoundEntity e → is_success (effect_at Update e o request n).reply.rsc ≡ true → ChangesOne e n (effect_at Update e o request n).after
update_alone e o request n sound served = update_changes_one e o request n sound (not_refused Update e o request n served)

-- its changes are those that it prepares
pub told_updated : (e : EntityData) (o : List ℕ) (request : RequestParts) (n : ℕ) (r : ResourceData) → IsSoundEntity e → fault_at Update e o request n ≡ None → at n e.nodes ≡ Some r → changes_at Update e o request n ≡ update_changes e.nodes r (updated_by e request r) (named_attrs request r) (pushed_by e (updated_by e request r))
told_updated e o request n r sound none found =
    let u = is_update e o request n none in
    let target : u.target ≡ r = same_Some u.target r (sym u.may.stands ∙ ap (λ (m : ℕ). at m e.nodes) u.number ∙ found) in
    let by : updated_resource e u.es u.target ≡ updated_by e request r = ap (λ (es : List Entry). updated_resource e es u.target) (sym u.named) ∙ ap (updated_by e request) target in
    sym (updated_are e o request n r (updated_by e request r) (pushed_by e (updated_by e request r)) sound none found (at_number n e.nodes r found)
    (subst (IsReplacement e) by (replacement e u.es u.target sound u.may))
    refl
    (sym (subst (λ (s : ResourceData). (effect_at Update e o request n).after ≡ updated_in e s) by u.after)))

-- ---- the next number

abbrev Rises : EntityData → EntityData → Type 0
Rises e after = after.next ≡ e.next + length (only_in after.nodes e.nodes)

stays : (e now : EntityData) → now.next ≡ e.next → only_in now.nodes e.nodes ≡ [] → Rises e now
stays e now same none = (let count : length (only_in now.nodes e.nodes) ≡ 0 = ap length none in omega (arith, count))

unchanged : (e now : EntityData) → now ≡ e → Rises e now
unchanged e now same = subst (Rises e) (sym same) (stays e e refl (nothing_apart e.nodes))

module _ (e : EntityData) (o : List ℕ) (request : RequestParts) (n : ℕ) (sound : IsSoundEntity e) (originator : is_originator o ≡ true) where
  abbrev left_by : Op → EntityData
  left_by op = (effect_at op e o request n).after

  -- a Retrieve and a Notify do nothing here
  rises : (op : Op) → fault_at op e o request n ≡ None → Rises e (left_by op)
  rises Create none =
      let adds = adds_one e o request n sound originator none in
      let count : length (only_in (left_by Create).nodes e.nodes) ≡ 1 = ap length adds.alone in
      let next : (left_by Create).next ≡ e.next + 1 = ap (λ (x : EntityData). x.next) adds.rest in
      omega (arith, count, next)
  rises Retrieve none =
      let found = found_at Retrieve e o request n none in
      unchanged e (left_by Retrieve) (ap (λ (x : Effect). x.after) (done_at Retrieve e o request n found.0 found.1 none))
  rises Update none =
      let changes = update_changes_one e o request n sound none in
      stays e (left_by Update) (ap (λ (x : EntityData). x.next) changes.rest) changes.none
  rises Delete none =
      let tree : is_tree (left_by Delete).nodes ≡ true = tree_from_well_formed (left_by Delete).nodes (stays_sound Delete e o request n sound originator).tree in
      stays e (left_by Delete) (ap (λ (x : Effect). x.after.next) (delete_done e o request n none))
      (gone_are (λ r. false) (left_by Delete).nodes e.nodes tree (λ r found. at_has r.number e.nodes r (deletion_keeps e o request n r sound found))
      ∙ picked_never (left_by Delete).nodes)
  rises Notify none =
      let found = found_at Notify e o request n none in
      unchanged e (left_by Notify) (ap (λ (x : Effect). x.after) (done_at Notify e o request n found.0 found.1 none))

  by_fault : (op : Op) (x : Option Rsc) → fault_at op e o request n ≡ x → Rises e (left_by op)
  by_fault op None none = rises op none
  by_fault op (Some f) is = unchanged e (left_by op) (ap (λ (x : Effect). x.after) (refused_at op e o request n f is))

pub next_rises : (op : Op) (e : EntityData) (o : List ℕ) (request : RequestParts) (n : ℕ) → IsSoundEntity e → is_originator o ≡ true → (effect_at op e o request n).after.next ≡ e.next + length (only_in (effect_at op e o request n).after.nodes e.nodes)
next_rises op e o request n sound originator = by_fault e o request n sound originator op (fault_at op e o request n) refl

-- ---- what no place refuses

pub serves_create : (e : EntityData) (o : List ℕ) (request : RequestParts) (n : ℕ) → fault_at Create e o request n ≡ None → ServesCreate e o request n (effect_at Create e o request n)
serves_create e o request n none =
    let found = found_at Create e o request n none in
    by_type found.0 found.1 (nothing_on Create e o request n found.0 found.1 none) (child_ty request) refl
  where
    by_type : (t : ResourceData) → at n e.nodes ≡ Some t → fault_on Create e o request t ≡ None → (x : Option Ty) → child_ty request ≡ x → ServesCreate e o request n (effect_at Create e o request n)
    by_type t there fault None is = absurd (names_type e o request t fault is)
    by_type t there fault (Some ty) is = record {
      parent = t;
      ty = ty;
      found = there;
      child = is;
      does =
          done_at Create e o request n t there none
          ∙ ap (λ (x : Option Ty). option_map_or (λ (y : Ty). create_effect request (creation_by e o request t y)) x (refused e request BadChild)) is;
    }

pub serves_update : (e : EntityData) (o : List ℕ) (request : RequestParts) (n : ℕ) → fault_at Update e o request n ≡ None → ServesUpdate e request n (effect_at Update e o request n)
serves_update e o request n none =
    let found = found_at Update e o request n none in
    record { target = found.0; found = found.1; does = done_at Update e o request n found.0 found.1 none }

pub serves_delete : (e : EntityData) (o : List ℕ) (request : RequestParts) (n : ℕ) → fault_at Delete e o request n ≡ None → ServesDelete e request n (effect_at Delete e o request n)
serves_delete e o request n none =
    let found = found_at Delete e o request n none in
    record { target = found.0; found = found.1; does = done_at Delete e o request n found.0 found.1 none }
