-- What a request on a resource does and appends leads to what it leaves.
use Rattle.std.proofs.Common.{◌≡◌, ℕ, List, [], ◌∷◌, map, true, Option, Some, None, refl, sym, ap, ◌∙◌, subst}
use Rattle.std.proofs.lemmas.Option.{same_Some}
use Rattle.std.specs.List.{filter}
use Rattle.std.specs.Option.{option_map_or}
use Rattle.m2m_names.specs.Name.{is_originator}
use Rattle.m2m_names.specs.declared.codes.Rsc.{Rsc}
use Rattle.m2m_names.specs.declared.codes.Rsc.TheVariants.{BadChild}
use Rattle.m2m_names.specs.declared.operations.Op.{Op}
use Rattle.m2m_names.specs.declared.operations.Op.TheVariants.{Create, Retrieve, Update, Delete, Notify}
use Rattle.m2m_names.specs.declared.types.Ty.{Ty}
use Rattle.m2m_value.specs.Data.{Entry}
use Rattle.m2m_value.specs.Node.{AreSorted}
use Rattle.primitive_json.specs.declared.request.RequestParts.{RequestParts}
use Rattle.resource_model.specs.Resource.{ResourceData}
use Rattle.subscription_match.specs.Notices.{notes_of_all}
use Rattle.tree_model.specs.Changes.{ChangeData, creation_changes, deletion_changes, those_of, update_changes}
use Rattle.tree_model.specs.Tree.{at, is_at_or_below}
use Rattle.tree_model.proofs.QuietLemmas.{number_passes}
use Rattle.attribute_rules.specs.Kinds.{are_kinds}
use Rattle.announce_copy.specs.Copies.{CopyDraft, copies_of_all}
use Rattle.copy_laws.specs.Following.{IsOperation, Lead, changed, changes_of, made, nothing}
use Rattle.copy_changes.proofs.UpdatingLemmas.{unfollowed_stays}
use Rattle.entity_model.specs.Entity.{EntityData, telling}
use Rattle.entity_model.specs.Places.{Effect, absent, refused}
use Rattle.entity_model.specs.Sound.{IsSoundEntity}
use Rattle.request_rules.specs.Creation.{Creation, new_resource}
use Rattle.request_rules.specs.Order.{creation_by, fault_at, fault_on}
use Rattle.request_rules.specs.Requests.{child_ty, named_by}
use Rattle.create_delete.specs.Changes.{changes_at, changes_by, named_attrs}
use Rattle.create_delete.specs.Changing.{after_joining, container_update_of, create_effect, effect_at, effect_by, pushed_by, updated_by, updated_resource}
use Rattle.create_delete.specs.Joining.{MayJoin, gone_by}
use Rattle.create_delete.specs.NewResource.{IsReplacement}
use Rattle.create_delete.specs.Relaying.{relayed}
use Rattle.create_delete.specs.Telling.{gone_numbers, told_effect_by, told_effect_on}
use Rattle.create_delete.proofs.ChangesLemmas.{deleted_are}
use Rattle.create_delete.proofs.EffectLemmas.{done_at}
use Rattle.create_delete.proofs.ReplacementLemmas.{replacement}
use Rattle.create_delete.proofs.RightCreateLemmas.{create, joins}
use Rattle.create_delete.proofs.RightUpdateLemmas.{is_update}
use Rattle.change_laws.proofs.ServedLemmas.{serves_create, told_created, told_updated}
use Rattle.group_fanout.specs.Operations.{change_effect, found_effect, operation_effect, relay_effect}
use Rattle.group_fanout.specs.Rights.{claimed_originator}
use Rattle.guard_laws.proofs.RelayLemmas.{relay_nodes}
use Rattle.machine_laws.specs.Outbox.{change_notes, done_notes, found_items, notes_told, operation_notes, relay_notes}
use Rattle.copy_histories.proofs.KeptLemmas.{stays_still}
use Rattle.copy_histories.proofs.LeadingLemmas.{deleting_told, joining_told, updating_told}
use Rattle.copy_histories.proofs.NoteLemmas.{copies_in_items, copies_in_notes, items_in, told_in}
use Rattle.copy_histories.proofs.RunLemmas.{Goes, bare, goes_once}

-- From an entity an operation leads to another one, and sends these.
abbrev pub GoesTo : EntityData → EntityData → List CopyDraft → Type 0
GoesTo e after sent = Goes e.home e.nodes after.nodes sent (after.nodes ∷ [])

-- ---- what is told

-- changes that are told, and make of the first entity the second
abbrev TellsTo : EntityData → List ℕ → List ChangeData → EntityData → Type 0
TellsTo e going changes after =
    GoesTo e (telling e.nodes going changes after) (copies_in_notes (notes_told e.home e.nodes going changes))

module _ (e : EntityData) (going : List ℕ) (changes : List ChangeData) where
  -- by the operation that they are
  pub tells : (after : EntityData) (lead : Lead) (gone : List ResourceData) → IsOperation e.home e.nodes lead gone (telling e.nodes going changes after).nodes → changes ≡ changes_of lead gone → TellsTo e going changes after
  tells after lead gone op same =
      goes_once e.home e.nodes lead gone (telling e.nodes going changes after).nodes (copies_in_notes (notes_told e.home e.nodes going changes)) op
      (told_in e.home e.nodes going changes ∙ ap (λ (cs : List ChangeData). map bare (copies_of_all e.home e.nodes cs)) same)

-- ---- an operation that no place refuses

module _ (e : EntityData) (sound : IsSoundEntity e) (request : RequestParts) (r : ResourceData) (there : at r.number e.nodes ≡ Some r) where
  abbrev o : List ℕ
  o = claimed_originator e.home request

  -- what it leaves before it is told, and its changes
  abbrev does : Op → EntityData
  does op = (effect_by op e o request r).after

  abbrev makes : Op → List ChangeData
  makes op = changes_by op request r.number e (does op)

  abbrev Told : Op → Type 0
  Told op = TellsTo e (gone_numbers e (does op)) (makes op) (does op)

  refuses_none : (op : Op) → fault_on op e o request r ≡ None → fault_at op e o request r.number ≡ None
  refuses_none op none = ap (λ (x : Option ResourceData). option_map_or (fault_on op e o request) x (Some absent)) there ∙ none

  -- its changes are those of the operation on the resource of its number
  makes_at : (op : Op) → fault_on op e o request r ≡ None → changes_at op e o request r.number ≡ makes op
  makes_at op none =
      let at_none = refuses_none op none in
      ap (λ (x : Option Rsc). option_map_or (λ (fault : Rsc). []) x (changes_by op request r.number e (effect_at op e o request r.number).after)) at_none
      ∙ ap (λ (x : Effect). changes_by op request r.number e x.after) (done_at op e o request r.number r there at_none)

  -- ---- a Create

  module _ (originator : is_originator o ≡ true) (none : fault_on Create e o request r ≡ None) where
    at_none : fault_at Create e o request r.number ≡ None
    at_none = refuses_none Create none

    creates : (ty : Ty) → child_ty request ≡ Some ty → Told Create
    creates ty child =
        let by : Creation = creation_by e o request r ty in
        let t : ResourceData = new_resource by in
        let f = container_update_of by in
        let may : MayJoin e t f = subst (λ (c : Creation). MayJoin c.e (new_resource c) (container_update_of c)) ((create e o request r.number sound originator at_none).by r ty there child) (joins e o request r.number sound originator at_none) in
        let left : does Create ≡ after_joining e t f = ap (λ (x : Option Ty). (option_map_or (λ (y : Ty). create_effect request (creation_by e o request r y)) x (refused e request BadChild)).after) child in
        let same : makes Create ≡ creation_changes e.nodes t (gone_by f) = sym (makes_at Create none) ∙ told_created e o request r.number r ty sound originator at_none there child in
        let going : List ℕ = gone_numbers e (does Create) in
        subst (λ (x : EntityData). TellsTo e going (makes Create) x) (sym left)
        (tells e going (makes Create) (after_joining e t f) (made t) (those_of (gone_by f) e.nodes)
        (joining_told by (notes_of_all e.home e.nodes going (makes Create)) sound may) same)

    pub create_goes : Told Create
    create_goes = (let served = serves_create e o request r.number at_none in creates served.ty served.child)

  -- ---- an Update

  pub update_goes : fault_on Update e o request r ≡ None → Told Update
  update_goes none =
      let at_none = refuses_none Update none in
      let u = is_update e o request r.number at_none in
      let now : ResourceData = updated_by e request r in
      let target : u.target ≡ r = same_Some u.target r (sym u.may.stands ∙ ap (λ (m : ℕ). at m e.nodes) u.number ∙ there) in
      let is : updated_resource e u.es u.target ≡ now = ap (λ (es : List Entry). updated_resource e es u.target) (sym u.named) ∙ ap (updated_by e request) target in
      let new : IsReplacement e now = subst (IsReplacement e) is (replacement e u.es u.target sound u.may) in
      let sorted : AreSorted (named_by Update request r) = subst AreSorted (sym u.named ∙ ap (named_by Update request) target) u.may.sorted in
      let kinds : are_kinds r ≡ true = number_passes are_kinds r.number e.nodes r sound.kinds there in
      let same : makes Update ≡ update_changes e.nodes r now (named_attrs request r) (pushed_by e now) = sym (makes_at Update none) ∙ told_updated e o request r.number r sound at_none there in
      let going : List ℕ = gone_numbers e (does Update) in
      tells e going (makes Update) (does Update) (changed r now (named_attrs request r)) (those_of (pushed_by e now) e.nodes)
      (updating_told e sound r now new there (named_attrs request r) (notes_of_all e.home e.nodes going (makes Update)) refl refl
      (λ unfollowed attr other. unfollowed_stays e.home e (named_by Update request r) r sorted kinds unfollowed attr other)) same

  -- ---- a Delete

  pub delete_goes : fault_on Delete e o request r ≡ None → Told Delete
  delete_goes none =
      let same : makes Delete ≡ deletion_changes e.nodes r.number = sym (makes_at Delete none) ∙ deleted_are e o request r.number sound (refuses_none Delete none) in
      let going : List ℕ = gone_numbers e (does Delete) in
      tells e going (makes Delete) (does Delete) nothing (filter (is_at_or_below r.number e.nodes) e.nodes)
      (deleting_told e r.number (notes_of_all e.home e.nodes going (makes Delete)) sound) same

  -- ---- any operation

  -- a refusal does nothing
  change_on : (op : Op) → (fault_on op e o request r ≡ None → Told op) → GoesTo e (told_effect_on op e o request r).after (copies_in_notes (change_notes op e request r))
  change_on op told = by (fault_on op e o request r) refl
    where
      by : (f : Option Rsc) → fault_on op e o request r ≡ f → GoesTo e (option_map_or (refused e request) f (told_effect_by op e o request r)).after (copies_in_notes (option_map_or (λ (fault : Rsc). []) f (done_notes op e request r.number (does op))))
      by None none = told none
      by (Some fault) is = stays_still e sound

  change_goes : (op : Op) → (fault_on op e o request r ≡ None → Told op) → GoesTo e (change_effect op e request r).after (copies_in_notes (change_notes op e request r))
  unfolding change_effect
  change_goes op told = change_on op told

  -- a Retrieve sends nothing
  sends_none : copies_in_notes (change_notes Retrieve e request r) ≡ []
  sends_none = by (fault_on Retrieve e o request r)
    where
      by : (f : Option Rsc) → copies_in_notes (option_map_or (λ (fault : Rsc). []) f (done_notes Retrieve e request r.number e)) ≡ []
      by None = told_in e.home e.nodes (gone_numbers e e) []
      by (Some fault) = refl

  -- nor does a Notify, which is handed on
  relays_none : copies_in_notes (relay_notes e request r) ≡ []
  relays_none = by (fault_on Notify e o request r)
    where
      by : (f : Option Rsc) → copies_in_notes (option_map_or (λ (fault : Rsc). []) f (relayed e o request ∷ [])) ≡ []
      by None = refl
      by (Some fault) = refl

  -- what leaves the resources and sends nothing does nothing
  quiet_goes : (after : EntityData) (sent : List CopyDraft) → after.nodes ≡ e.nodes → sent ≡ [] → GoesTo e after sent
  quiet_goes after sent same none =
      subst (λ (ds : List CopyDraft). GoesTo e after ds) (sym none)
      (subst (λ (nodes : List ResourceData). Goes e.home e.nodes nodes [] (nodes ∷ [])) (sym same) (stays_still e sound))

  pub operated_goes : (op : Op) → is_originator o ≡ true → GoesTo e (operation_effect op e request r).after (copies_in_notes (operation_notes op e request r))
  operated_goes Create originator = change_goes Create (λ none. create_goes originator none)
  operated_goes Retrieve originator = quiet_goes e (copies_in_notes (change_notes Retrieve e request r)) refl sends_none
  operated_goes Update originator = change_goes Update update_goes
  operated_goes Delete originator = change_goes Delete delete_goes
  operated_goes Notify originator = quiet_goes (relay_effect e request r).after (copies_in_notes (relay_notes e request r)) (relay_nodes e request r there) relays_none

-- on the resource that was found, if one was
pub found_goes : (e : EntityData) (request : RequestParts) (found : Option ResourceData) → IsSoundEntity e → is_originator (claimed_originator e.home request) ≡ true → ((r : ResourceData) → found ≡ Some r → at r.number e.nodes ≡ Some r) → GoesTo e (found_effect request.op e request found).after (copies_in_items (found_items e request found))
found_goes e request None sound originator stands = stays_still e sound
found_goes e request (Some r) sound originator stands =
    subst (λ (ds : List CopyDraft). GoesTo e (operation_effect request.op e request r).after ds) (sym (items_in e.numbered e.last (operation_notes request.op e request r)))
    (operated_goes e sound request r (stands r refl) request.op originator)
