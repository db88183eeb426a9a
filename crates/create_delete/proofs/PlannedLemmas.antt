-- What is prepared where a request is judged, and no place refuses it.
use Rattle.std.specs.Prelude.{unwrap_or}
use Rattle.std.proofs.Common.{◌≡◌, ℕ, List, [], false, Option, Some, None, Result, Ok, Err, IfOk, IfErr, sym, ap, ◌∙◌, subst}
use Rattle.std.proofs.lemmas.Option.{same_Some}
use Rattle.std.specs.Option.{option_map_or}
use Rattle.m2m_names.specs.declared.attributes.Attr.{Attr}
use Rattle.m2m_names.specs.declared.codes.Rsc.TheVariants.{BadChild, Deleted}
use Rattle.m2m_names.specs.declared.operations.Op.TheVariants.{Create, Delete, Update}
use Rattle.m2m_names.specs.declared.types.Ty.{Ty}
use Rattle.m2m_value.specs.Data.{Entry}
use Rattle.primitive_json.specs.declared.reply.ReplyParts.{ReplyParts}
use Rattle.primitive_json.specs.declared.request.RequestParts.{RequestParts}
use Rattle.resource_model.specs.Resource.{has_number}
use Rattle.tree_model.specs.Changes.{ChangeData, creation_changes, update_changes}
use Rattle.tree_model.specs.Tree.{at, without}
use Rattle.tree_model.proofs.TreeLemmas.{at_number}
use Rattle.entity_model.specs.Entity.{EntityData, copy_requests, telling}
use Rattle.entity_model.specs.Places.{Effect, refused, reply_to}
use Rattle.entity_model.specs.Sound.{IsSoundEntity}
use Rattle.request_rules.specs.Creation.{creation_of}
use Rattle.request_rules.specs.Judged.{IsCreateOf, IsUpdateOf, Judges, creation_for}
use Rattle.request_rules.specs.Order.{creation_by, fault_at}
use Rattle.request_rules.specs.declared.allowed.AllowedCreate.{AllowedCreate}
use Rattle.request_rules.specs.declared.allowed.AllowedUpdate.{AllowedUpdate}
use Rattle.request_rules.specs.declared.judging.Refusal.{Refusal}
use Rattle.request_rules.specs.declared.judging.Refusal.TheVariants.{OutOfMemory}
use Rattle.request_rules.specs.Requests.{content_for}
use Rattle.request_rules.proofs.OrderLemmas.{found_at, nothing_on}
use Rattle.create_delete.specs.Changing.{after_joining, create_effect, nodes_updated, effect_at, pushed_by, update_effect}
use Rattle.create_delete.specs.Joining.{IsAllowed, MayJoin, gone_by}
use Rattle.create_delete.specs.NewResource.{IsReplacement}
use Rattle.create_delete.specs.Prepared.{IsPreparedCreate, IsPreparedUpdate}
use Rattle.create_delete.specs.Updating.{IsUpdatable}
use Rattle.create_delete.specs.declared.creation.PreparedCreate.{PreparedCreate}
use Rattle.create_delete.specs.declared.updating.PreparedUpdate.{PreparedUpdate}
use Rattle.create_delete.specs.Changes.{attrs_of, changes_by, named_attrs}
use Rattle.create_delete.specs.Telling.{gone_numbers, numbers_below, removed_told, told_effect_at, updated_told}
use Rattle.create_delete.proofs.ChangesLemmas.{delete_changes, delete_gone, join_gone, join_makes_changes, updating_changes, updating_gone}
use Rattle.create_delete.proofs.CreatableLemmas.{allowed}
use Rattle.create_delete.proofs.DeletionLemmas.{deletable, delete_done}
use Rattle.create_delete.proofs.EffectLemmas.{done_at, told_after, told_refused_at, told_reply}
use Rattle.create_delete.proofs.UpdatableLemmas.{updatable}

-- ---- a Create

module _ (e : EntityData) (o : List ℕ) (request : RequestParts) (n : ℕ) (create : AllowedCreate) (none : fault_at Create e o request n ≡ None) (asked : IsCreateOf e request n create) where
  create_names : content_for request create.ty ≡ Some create.named.now
  create_names = asked.named

  pub create_allowed : IsAllowed (creation_for e o create)
  create_allowed =
      allowed e o request create.parent.now create.ty create.named.now (nothing_on Create e o request n create.parent.now asked.parent none)
      (ap (λ (m : ℕ). at m e.nodes) (at_number n e.nodes create.parent.now asked.parent) ∙ asked.parent) asked.ty create_names

  create_does : effect_at Create e o request n ≡ create_effect request (creation_for e o create)
  create_does =
      done_at Create e o request n create.parent.now asked.parent none
      ∙ ap (λ (x : Option Ty). option_map_or (λ (ty : Ty). create_effect request (creation_by e o request create.parent.now ty)) x (refused e request BadChild)) asked.ty
      ∙ ap (λ (x : Option (List Entry)). create_effect request (creation_of e o create.ty create.parent.now (unwrap_or x []))) create_names

  pub create_prepared : (p : PreparedCreate) → MayJoin e p.resource p.update → (p.is_copied ≡ false → copy_requests e.home e.nodes (creation_changes e.nodes p.resource (gone_by p.update)) ≡ []) → p.reply ≡ (create_effect request (creation_for e o create)).reply → after_joining e p.resource p.update ≡ (create_effect request (creation_for e o create)).after → IsPreparedCreate e o request n p
  create_prepared p may unsent reply after =
      let leaves : after_joining e p.resource p.update ≡ (effect_at Create e o request n).after = after ∙ ap (λ (x : Effect). x.after) (sym create_does) in
      let tells : List ℕ → List ChangeData → EntityData = λ going changes. telling e.nodes going changes (after_joining e p.resource p.update) in
      record {
        may = may;
        unsent = unsent;
        reply = reply ∙ ap (λ (x : Effect). x.reply) (sym create_does) ∙ sym (told_reply Create e o request n create.parent.now asked.parent none);
        after =
            ap (λ (going : List ℕ). tells going (creation_changes e.nodes p.resource (gone_by p.update))) (sym (join_gone e p.resource p.update asked.sound may))
            ∙ ap (tells (gone_numbers e (after_joining e p.resource p.update))) (sym (join_makes_changes e p.resource p.update request n asked.sound may))
            ∙ sym (told_after Create e o request n create.parent.now (after_joining e p.resource p.update) asked.parent none leaves);
      }

  pub create_judged : (result : Result PreparedCreate Refusal) → IfOk result (λ (p : PreparedCreate). MayJoin e p.resource p.update) → IfOk result (λ (p : PreparedCreate). p.is_copied ≡ false → copy_requests e.home e.nodes (creation_changes e.nodes p.resource (gone_by p.update)) ≡ []) → IfOk result (λ (p : PreparedCreate). p.reply ≡ (create_effect request (creation_for e o create)).reply) → IfOk result (λ (p : PreparedCreate). after_joining e p.resource p.update ≡ (create_effect request (creation_for e o create)).after) → IfErr result (λ (f : Refusal). f ≡ OutOfMemory) → Judges result (fault_at Create e o request n) (IsPreparedCreate e o request n)
  create_judged (Ok p) may unsent reply after _ = (none, create_prepared p may unsent reply after)
  create_judged (Err f) _ _ _ _ memory = subst (λ (x : Refusal). Judges {X = PreparedCreate} (Err x) (fault_at Create e o request n) (IsPreparedCreate e o request n)) (sym memory) tt

-- ---- an Update

module _ (e : EntityData) (o : List ℕ) (request : RequestParts) (n : ℕ) (update : AllowedUpdate) (none : fault_at Update e o request n ≡ None) (asked : IsUpdateOf e request n update) where
  number : update.target.now.number ≡ n
  number = at_number n e.nodes update.target.now asked.target

  update_names : content_for request update.target.now.ty ≡ Some update.named.now
  update_names = asked.named

  pub update_allowed : IsUpdatable e update.named.now update.target.now
  update_allowed =
      updatable e o request update.target.now update.named.now (nothing_on Update e o request n update.target.now asked.target none)
      (ap (λ (m : ℕ). at m e.nodes) number ∙ asked.target) update_names

  update_does : effect_at Update e o request n ≡ update_effect e request update.named.now update.target.now
  update_does =
      done_at Update e o request n update.target.now asked.target none
      ∙ ap (λ (x : Option (List Entry)). update_effect e request (unwrap_or x []) update.target.now) update_names

  pub update_prepared : (p : PreparedUpdate) → IsReplacement e p.resource → p.resource.number ≡ update.target.now.number → p.named ≡ attrs_of update.named.now → p.gone ≡ pushed_by e p.resource → p.reply ≡ (update_effect e request update.named.now update.target.now).reply → record e { nodes = nodes_updated e p.resource } ≡ (update_effect e request update.named.now update.target.now).after → IsPreparedUpdate e o request n p
  update_prepared p may same named gone reply after =
      let leaves : record e { nodes = nodes_updated e p.resource } ≡ (effect_at Update e o request n).after = after ∙ ap (λ (x : Effect). x.after) (sym update_does) in
      let tells : List ℕ → List ChangeData → EntityData = λ going changes. telling e.nodes going changes (record e { nodes = nodes_updated e p.resource }) in
      record {
        may = may;
        gone = gone;
        reply = reply ∙ ap (λ (x : Effect). x.reply) (sym update_does) ∙ sym (told_reply Update e o request n update.target.now asked.target none);
        after = λ r found.
            let is : update.target.now ≡ r = same_Some update.target.now r (sym asked.target ∙ ap (λ (m : ℕ). at m e.nodes) (sym (same ∙ number)) ∙ found) in
            let names : p.named ≡ named_attrs request r = named ∙ ap (λ (x : Option (List Entry)). attrs_of (unwrap_or x [])) (sym update_names) ∙ ap (named_attrs request) is in
            ap (λ (attrs : List Attr). updated_told e r p.resource attrs p.gone) names
            ∙ ap (updated_told e r p.resource (named_attrs request r)) gone
            ∙ ap (λ (going : List ℕ). tells going (update_changes e.nodes r p.resource (named_attrs request r) (pushed_by e p.resource))) (sym (updating_gone e asked.sound p.resource may))
            ∙ ap (tells (gone_numbers e (record e { nodes = nodes_updated e p.resource }))) (sym (updating_changes e asked.sound p.resource may request r found))
            ∙ ap (λ (m : ℕ). tells (gone_numbers e (record e { nodes = nodes_updated e p.resource })) (changes_by Update request m e (record e { nodes = nodes_updated e p.resource }))) (same ∙ number)
            ∙ sym (told_after Update e o request n update.target.now (record e { nodes = nodes_updated e p.resource }) asked.target none leaves);
      }

  pub update_judged : (result : Result PreparedUpdate Refusal) → IfOk result (λ (p : PreparedUpdate). IsReplacement e p.resource) → IfOk result (λ (p : PreparedUpdate). p.resource.number ≡ update.target.now.number) → IfOk result (λ (p : PreparedUpdate). p.named ≡ attrs_of update.named.now) → IfOk result (λ (p : PreparedUpdate). p.gone ≡ pushed_by e p.resource) → IfOk result (λ (p : PreparedUpdate). p.reply ≡ (update_effect e request update.named.now update.target.now).reply) → IfOk result (λ (p : PreparedUpdate). record e { nodes = nodes_updated e p.resource } ≡ (update_effect e request update.named.now update.target.now).after) → IfErr result (λ (f : Refusal). f ≡ OutOfMemory) → Judges result (fault_at Update e o request n) (IsPreparedUpdate e o request n)
  update_judged (Ok p) may same named gone reply after _ = (none, update_prepared p may same named gone reply after)
  update_judged (Err f) _ _ _ _ _ _ memory = subst (λ (x : Refusal). Judges {X = PreparedUpdate} (Err x) (fault_at Update e o request n) (IsPreparedUpdate e o request n)) (sym memory) tt

-- ---- a Delete

abbrev pub removed_and_told : EntityData → RequestParts → ℕ → Effect
removed_and_told e request n = record { reply = reply_to request Deleted None; after = removed_told e n }

-- where nothing refuses it, the resource goes with all that stands below it, and that is told
pub delete_told : (e : EntityData) (o : List ℕ) (request : RequestParts) (n : ℕ) → IsSoundEntity e → fault_at Delete e o request n ≡ None → told_effect_at Delete e o request n ≡ removed_and_told e request n
delete_told e o request n sound none =
    let found = found_at Delete e o request n none in
    let after : EntityData = record e { nodes = without (has_number n) e.nodes } in
    ap (λ (x : ReplyParts). record { reply = x; after = (told_effect_at Delete e o request n).after })
    (told_reply Delete e o request n found.0 found.1 none ∙ ap (λ (x : Effect). x.reply) (delete_done e o request n none))
    ∙ ap (λ (x : EntityData). record { reply = reply_to request Deleted None; after = x })
    (told_after Delete e o request n found.0 after found.1 none (sym (ap (λ (x : Effect). x.after) (delete_done e o request n none)))
    ∙ ap (λ (going : List ℕ). telling e.nodes going (changes_by Delete request n e after) after) (delete_gone e n sound)
    ∙ ap (λ (changes : List ChangeData). telling e.nodes (numbers_below n e.nodes) changes after) (delete_changes e request n sound))

-- a deletion that is done, and one that is refused
pub ruleset deletion_cases = (delete_told, deletable, told_refused_at)
