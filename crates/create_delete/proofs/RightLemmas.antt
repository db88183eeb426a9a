-- What an operation changes, it changes by right, and an entity stays sound.
use Rattle.std.proofs.Common.{◌≡◌, ℕ, List, [], true, Option, Some, None, inl, refl, sym, ap, ◌∙◌, subst, append-nil}
use Rattle.std.proofs.lemmas.Option.{same_Some}
use Rattle.m2m_names.specs.Name.{is_originator}
use Rattle.m2m_names.specs.declared.codes.Rsc.{Rsc}
use Rattle.m2m_names.specs.declared.operations.Op.{Op}
use Rattle.m2m_names.specs.declared.operations.Op.TheVariants.{Create, Retrieve, Update, Delete, Notify}
use Rattle.m2m_names.specs.declared.types.Ty.TheVariants.{Container}
use Rattle.primitive_json.specs.declared.note.NoteParts.{NoteParts}
use Rattle.primitive_json.specs.declared.request.RequestParts.{RequestParts}
use Rattle.resource_model.specs.Resource.{ResourceData, has_number, is_ty}
use Rattle.subscription_match.specs.Notices.{notes_of_all}
use Rattle.subscription_match.specs.declared.drafts.DraftParts.{DraftParts}
use Rattle.tree_model.specs.Changes.{ChangeData, update_changes}
use Rattle.tree_model.specs.Tree.{at, instances_of}
use Rattle.container_limits.specs.Limits.{kept, limits_of}
use Rattle.entity_model.specs.Entity.{EntityData, copy_requests, with_told}
use Rattle.entity_model.specs.Places.{Effect}
use Rattle.entity_model.specs.Sound.{IsSoundEntity}
use Rattle.entity_model.proofs.SoundLemmas.{sound_removed}
use Rattle.entity_model.proofs.TellingLemmas.{sound_told}
use Rattle.request_rules.specs.Order.{fault_at}
use Rattle.request_rules.proofs.OrderLemmas.{found_at}
use Rattle.request_rules.specs.Creation.{new_resource}
use Rattle.create_delete.specs.Changes.{changes_by, named_attrs}
use Rattle.create_delete.specs.Changing.{after_joining, container_update_of, nodes_updated, effect_at, pushed_by, pushed_out, updated_resource, without_all}
use Rattle.create_delete.specs.Guard.{ChangesByRight}
use Rattle.create_delete.specs.NewResource.{IsReplacement}
use Rattle.create_delete.specs.Telling.{drafts_at, gone_numbers, told_effect_at}
use Rattle.create_delete.proofs.DeletionLemmas.{deletable, deletable_spared, deletion_keeps, deletion_takes, delete_done}
use Rattle.create_delete.proofs.LeftLemmas.{instances_left}
use Rattle.create_delete.proofs.ChangesLemmas.{updating_changes}
use Rattle.create_delete.proofs.EffectLemmas.{done_at, refused_at, told_after, told_refused_at}
use Rattle.create_delete.proofs.KeptToldLemmas.{keeps_joined, keeps_removed, keeps_same, keeps_updated, KeepsTold}
use Rattle.create_delete.proofs.ReplacedLemmas.{replaced_by}
use Rattle.create_delete.proofs.ReplacementLemmas.{replacement}
use Rattle.create_delete.proofs.RightCreateLemmas.{after_is, create, create_by_right, create_sound, joins, made_sound}
use Rattle.create_delete.proofs.RightUpdateLemmas.{is_update, update_by_right, update_sound, updated_in}
use Rattle.create_delete.proofs.SpendLemmas.{told_right}
use Rattle.create_delete.proofs.UpdatedLemmas.{pruning}

-- ---- where nothing changes

unchanged : (op : Op) (e : EntityData) (o : List ℕ) (n : ℕ) (drafts : List DraftParts) → ChangesByRight op e o n drafts e
unchanged op e o n drafts = record {
  created = λ r fresh. let both : None ≡ Some r = sym fresh.0 ∙ fresh.1 in cc;
  changed = λ r s change. absurd (change.differs (same_Some s r (sym change.is ∙ ap (λ (m : ℕ). at m e.nodes) change.same ∙ change.was)));
  removed = λ r gone. let both : Some r ≡ None = sym gone.0 ∙ gone.1 in cc;
}

-- a Retrieve and a Notify do nothing here
retrieve_same : (e : EntityData) (o : List ℕ) (request : RequestParts) (n : ℕ) → fault_at Retrieve e o request n ≡ None → (effect_at Retrieve e o request n).after ≡ e
retrieve_same e o request n none =
    let found = found_at Retrieve e o request n none in
    ap (λ (x : Effect). x.after) (done_at Retrieve e o request n found.0 found.1 none)

notify_same : (e : EntityData) (o : List ℕ) (request : RequestParts) (n : ℕ) → fault_at Notify e o request n ≡ None → (effect_at Notify e o request n).after ≡ e
notify_same e o request n none =
    let found = found_at Notify e o request n none in
    ap (λ (x : Effect). x.after) (done_at Notify e o request n found.0 found.1 none)

refused_after : (op : Op) (e : EntityData) (o : List ℕ) (request : RequestParts) (n : ℕ) (f : Rsc) → fault_at op e o request n ≡ Some f → (effect_at op e o request n).after ≡ e
refused_after op e o request n f is = ap (λ (x : Effect). x.after) (refused_at op e o request n f is)

-- ---- a Delete

delete_by_right : (e : EntityData) (o : List ℕ) (request : RequestParts) (n : ℕ) → IsSoundEntity e → ChangesByRight Delete e o n [] (effect_at Delete e o request n).after
delete_by_right e o request n sound = record {
  created = λ r fresh. let both : None ≡ Some r = sym fresh.0 ∙ deletion_keeps e o request n r sound fresh.1 in cc;
  changed = λ r s change. absurd (change.differs (same_Some s r (sym (deletion_keeps e o request n s sound change.is) ∙ ap (λ (m : ℕ). at m e.nodes) change.same ∙ change.was)));
  removed = λ r gone. inl (deletion_takes e o request n r sound gone.0 gone.1);
}

delete_sound : (e : EntityData) (o : List ℕ) (request : RequestParts) (n : ℕ) → IsSoundEntity e → fault_at Delete e o request n ≡ None → IsSoundEntity (effect_at Delete e o request n).after
delete_sound e o request n sound none =
    subst IsSoundEntity (sym (ap (λ (x : Effect). x.after) (delete_done e o request n none)))
    (sound_removed (has_number n) e sound (deletable_spared n e sound (deletable e o request n none)))

-- ---- each operation

module _ (e : EntityData) (o : List ℕ) (request : RequestParts) (n : ℕ) (sound : IsSoundEntity e) (originator : is_originator o ≡ true) where
  done_by_right : (op : Op) → fault_at op e o request n ≡ None → ChangesByRight op e o n [] (effect_at op e o request n).after
  done_by_right Create none = create_by_right e o request n sound originator none
  done_by_right Retrieve none = subst (ChangesByRight Retrieve e o n []) (sym (retrieve_same e o request n none)) (unchanged Retrieve e o n [])
  done_by_right Update none = update_by_right e o request n sound none
  done_by_right Delete none = delete_by_right e o request n sound
  done_by_right Notify none = subst (ChangesByRight Notify e o n []) (sym (notify_same e o request n none)) (unchanged Notify e o n [])

  by_fault : (op : Op) (x : Option Rsc) → fault_at op e o request n ≡ x → ChangesByRight op e o n [] (effect_at op e o request n).after
  by_fault op None none = done_by_right op none
  by_fault op (Some f) is = subst (ChangesByRight op e o n []) (sym (refused_after op e o request n f is)) (unchanged op e o n [])

  done_sound : (op : Op) → fault_at op e o request n ≡ None → IsSoundEntity (effect_at op e o request n).after
  done_sound Create none = create_sound e o request n sound originator none
  done_sound Retrieve none = subst IsSoundEntity (sym (retrieve_same e o request n none)) sound
  done_sound Update none = update_sound e o request n sound none
  done_sound Delete none = delete_sound e o request n sound none
  done_sound Notify none = subst IsSoundEntity (sym (notify_same e o request n none)) sound

  sound_by_fault : (op : Op) (x : Option Rsc) → fault_at op e o request n ≡ x → IsSoundEntity (effect_at op e o request n).after
  sound_by_fault op None none = done_sound op none
  sound_by_fault op (Some f) is = subst IsSoundEntity (sym (refused_after op e o request n f is)) sound

pub changes_by_right : (op : Op) (e : EntityData) (o : List ℕ) (request : RequestParts) (n : ℕ) → IsSoundEntity e → is_originator o ≡ true → ChangesByRight op e o n [] (effect_at op e o request n).after
changes_by_right op e o request n sound originator = by_fault e o request n sound originator op (fault_at op e o request n) refl

pub stays_sound : (op : Op) (e : EntityData) (o : List ℕ) (request : RequestParts) (n : ℕ) → IsSoundEntity e → is_originator o ≡ true → IsSoundEntity (effect_at op e o request n).after
stays_sound op e o request n sound originator = sound_by_fault e o request n sound originator op (fault_at op e o request n) refl

-- ---- and where it is told

module _ (e : EntityData) (o : List ℕ) (request : RequestParts) (n : ℕ) (sound : IsSoundEntity e) (originator : is_originator o ≡ true) where
  abbrev left : Op → EntityData
  left op = (effect_at op e o request n).after

  abbrev drafts : Op → List DraftParts
  drafts op = drafts_at op e o request n

  abbrev requests : Op → List NoteParts
  requests op = copy_requests (left op).home e.nodes (changes_by op request n e (left op))

  create_keeps : fault_at Create e o request n ≡ None → KeepsTold e.nodes (drafts Create) (left Create).nodes
  create_keeps none =
      let c = create e o request n sound originator none in
      let home = (left Create).home in
      let going = gone_numbers e (left Create) in
      let changes = changes_by Create request n e (left Create) in
      let r = new_resource c.made in
      let f = container_update_of c.made in
      subst (λ (x : EntityData). KeepsTold e.nodes (notes_of_all home e.nodes going changes) x.nodes) (sym (after_is e o request n sound originator none))
      (subst (λ (x : EntityData). KeepsTold x.nodes (notes_of_all home x.nodes going changes) (after_joining c.made.e r f).nodes) c.entity
      (keeps_joined home c.made.e (made_sound e o request n sound originator none) going r changes f (joins e o request n sound originator none)))

  update_keeps : fault_at Update e o request n ≡ None → KeepsTold e.nodes (drafts Update) (left Update).nodes
  update_keeps none =
      let u = is_update e o request n none in
      let now = updated_resource e u.es u.target in
      let new = replacement e u.es u.target sound u.may in
      let home = (left Update).home in
      let going = gone_numbers e (left Update) in
      let makes : changes_by Update request n e (left Update) ≡ update_changes e.nodes u.target now (named_attrs request u.target) (pushed_by e now) =
      ap (changes_by Update request n e) u.after
      ∙ ap (λ (m : ℕ). changes_by Update request m e (updated_in e now)) (sym u.number)
      ∙ updating_changes e sound now new request u.target u.may.stands in
      subst (λ (x : EntityData). KeepsTold e.nodes (notes_of_all home e.nodes going (changes_by Update request n e (left Update))) x.nodes) (sym u.after)
      (subst (λ (cs : List ChangeData). KeepsTold e.nodes (notes_of_all home e.nodes going cs) (nodes_updated e now)) (sym makes)
      (keeps_updated home e sound going u.target now (named_attrs request u.target) new))

  delete_keeps : fault_at Delete e o request n ≡ None → KeepsTold e.nodes (drafts Delete) (left Delete).nodes
  delete_keeps none =
      subst (λ (x : EntityData). KeepsTold e.nodes (drafts Delete) x.nodes) (sym (ap (λ (x : Effect). x.after) (delete_done e o request n none)))
      (keeps_removed (left Delete).home e sound (gone_numbers e (left Delete)) (has_number n) (changes_by Delete request n e (left Delete)))

  same_keeps : (op : Op) → left op ≡ e → KeepsTold e.nodes (drafts op) (left op).nodes
  same_keeps op same =
      subst (λ (x : EntityData). KeepsTold e.nodes (drafts op) x.nodes) (sym same)
      (keeps_same (left op).home e sound (gone_numbers e (left op)) (changes_by op request n e (left op)))

  keeps : (op : Op) → fault_at op e o request n ≡ None → KeepsTold e.nodes (drafts op) (left op).nodes
  keeps Create none = create_keeps none
  keeps Retrieve none = same_keeps Retrieve (retrieve_same e o request n none)
  keeps Update none = update_keeps none
  keeps Delete none = delete_keeps none
  keeps Notify none = same_keeps Notify (notify_same e o request n none)

  told_is : (op : Op) → fault_at op e o request n ≡ None → (told_effect_at op e o request n).after ≡ with_told e.nodes (drafts op) (requests op) (left op)
  told_is op none =
      let found = found_at op e o request n none in
      told_after op e o request n found.0 (left op) found.1 none refl

  by_right_or_refused : (op : Op) (x : Option Rsc) → fault_at op e o request n ≡ x → ChangesByRight op e o n (drafts op) (told_effect_at op e o request n).after
  by_right_or_refused op (Some f) is = subst (ChangesByRight op e o n (drafts op)) (sym (ap (λ (x : Effect). x.after) (told_refused_at op e o request n f is))) (unchanged op e o n (drafts op))
  by_right_or_refused op None none =
      subst (ChangesByRight op e o n (drafts op)) (sym (told_is op none))
      (told_right op e o n (drafts op) (requests op) (left op) (stays_sound op e o request n sound originator) (keeps op none) (changes_by_right op e o request n sound originator))

  sound_or_refused : (op : Op) (x : Option Rsc) → fault_at op e o request n ≡ x → IsSoundEntity (told_effect_at op e o request n).after
  sound_or_refused op (Some f) is = subst IsSoundEntity (sym (ap (λ (x : Effect). x.after) (told_refused_at op e o request n f is))) sound
  sound_or_refused op None none =
      subst IsSoundEntity (sym (told_is op none)) (sound_told e.nodes (drafts op) (requests op) (left op) (stays_sound op e o request n sound originator))

-- what an operation changes, and what is told of it, it does by right
pub told_by_right : (op : Op) (e : EntityData) (o : List ℕ) (request : RequestParts) (n : ℕ) → IsSoundEntity e → is_originator o ≡ true → ChangesByRight op e o n (drafts_at op e o request n) (told_effect_at op e o request n).after
told_by_right op e o request n sound originator = by_right_or_refused e o request n sound originator op (fault_at op e o request n) refl

pub told_stays_sound : (op : Op) (e : EntityData) (o : List ℕ) (request : RequestParts) (n : ℕ) → IsSoundEntity e → is_originator o ≡ true → IsSoundEntity (told_effect_at op e o request n).after
told_stays_sound op e o request n sound originator = sound_or_refused e o request n sound originator op (fault_at op e o request n) refl

-- ---- a container after an update

pub keeps_newest : (e : EntityData) (c : ResourceData) → IsSoundEntity e → IsReplacement e c → is_ty c.ty Container ≡ true → instances_of c.number (nodes_updated e c) ≡ kept (limits_of c) None e.last (instances_of c.number e.nodes)
keeps_newest e c sound new container =
    let pushes : pushed_by e c ≡ pushed_out e c None = rw container refl in
    ap (λ (gone : List ℕ). instances_of c.number (without_all gone (replaced_by e c).nodes)) pushes
    ∙ instances_left c.number (replaced_by e c) c None (instances_of c.number e.nodes) [] (pruning e c sound new)
    ∙ append-nil (kept (limits_of c) None e.last (instances_of c.number e.nodes))
