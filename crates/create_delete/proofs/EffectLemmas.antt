-- What comes of a request, by the order of refusals.
use Rattle.std.proofs.Common.{◌≡◌, ℕ, List, Option, Some, None, sym, ap, ◌∙◌}
use Rattle.std.specs.Option.{option_map_or}
use Rattle.m2m_names.specs.declared.codes.Rsc.{Rsc}
use Rattle.m2m_names.specs.declared.codes.Rsc.TheVariants.{NotFound}
use Rattle.m2m_names.specs.declared.operations.Op.{Op}
use Rattle.primitive_json.specs.declared.request.RequestParts.{RequestParts}
use Rattle.resource_model.specs.Resource.{ResourceData}
use Rattle.tree_model.specs.Tree.{at}
use Rattle.tree_model.proofs.TreeLemmas.{at_number}
use Rattle.entity_model.specs.Entity.{EntityData, telling}
use Rattle.entity_model.specs.Places.{Effect, refused}
use Rattle.request_rules.specs.Order.{fault_on, fault_at}
use Rattle.request_rules.proofs.OrderLemmas.{nothing_on}
use Rattle.create_delete.specs.Changes.{changes_by}
use Rattle.create_delete.specs.Changing.{effect_by, effect_on, effect_at}
use Rattle.create_delete.specs.Telling.{gone_numbers, told_effect_at, told_effect_by, told_effect_on}

refused_on : (op : Op) (e : EntityData) (o : List ℕ) (request : RequestParts) (found : Option ResourceData) (f : Rsc) → option_map_or (fault_on op e o request) found (Some NotFound) ≡ Some f → option_map_or (effect_on op e o request) found (refused e request NotFound) ≡ refused e request f
refused_on op e o request None f is = ap (λ (x : Option Rsc). option_map_or (refused e request) x (refused e request NotFound)) is
refused_on op e o request (Some t) f is = ap (λ (x : Option Rsc). option_map_or (refused e request) x (effect_by op e o request t)) is

-- where a place refuses it, it is refused so
pub refused_at : (op : Op) (e : EntityData) (o : List ℕ) (request : RequestParts) (n : ℕ) (f : Rsc) → fault_at op e o request n ≡ Some f → effect_at op e o request n ≡ refused e request f
refused_at op e o request n f is = refused_on op e o request (at n e.nodes) f is

-- it is done
pub done_at : (op : Op) (e : EntityData) (o : List ℕ) (request : RequestParts) (n : ℕ) (t : ResourceData) → at n e.nodes ≡ Some t → fault_at op e o request n ≡ None → effect_at op e o request n ≡ effect_by op e o request t
done_at op e o request n t there none =
    ap (λ (x : Option ResourceData). option_map_or (effect_on op e o request) x (refused e request NotFound)) there
    ∙ ap (λ (x : Option Rsc). option_map_or (refused e request) x (effect_by op e o request t)) (nothing_on op e o request n t there none)

-- ---- and told

told_refused_on : (op : Op) (e : EntityData) (o : List ℕ) (request : RequestParts) (found : Option ResourceData) (f : Rsc) → option_map_or (fault_on op e o request) found (Some NotFound) ≡ Some f → option_map_or (told_effect_on op e o request) found (refused e request NotFound) ≡ refused e request f
told_refused_on op e o request None f is = ap (λ (x : Option Rsc). option_map_or (refused e request) x (refused e request NotFound)) is
told_refused_on op e o request (Some t) f is = ap (λ (x : Option Rsc). option_map_or (refused e request) x (told_effect_by op e o request t)) is

-- a refusal tells nothing
pub told_refused_at : (op : Op) (e : EntityData) (o : List ℕ) (request : RequestParts) (n : ℕ) (f : Rsc) → fault_at op e o request n ≡ Some f → told_effect_at op e o request n ≡ refused e request f
told_refused_at op e o request n f is = told_refused_on op e o request (at n e.nodes) f is

pub told_done_at : (op : Op) (e : EntityData) (o : List ℕ) (request : RequestParts) (n : ℕ) (t : ResourceData) → at n e.nodes ≡ Some t → fault_at op e o request n ≡ None → told_effect_at op e o request n ≡ told_effect_by op e o request t
told_done_at op e o request n t there none =
    ap (λ (x : Option ResourceData). option_map_or (told_effect_on op e o request) x (refused e request NotFound)) there
    ∙ ap (λ (x : Option Rsc). option_map_or (refused e request) x (told_effect_by op e o request t)) (nothing_on op e o request n t there none)

-- what is done is told
pub told_after : (op : Op) (e : EntityData) (o : List ℕ) (request : RequestParts) (n : ℕ) (t : ResourceData) (after : EntityData) → at n e.nodes ≡ Some t → fault_at op e o request n ≡ None → after ≡ (effect_at op e o request n).after → (told_effect_at op e o request n).after ≡ telling e.nodes (gone_numbers e after) (changes_by op request n e after) after
told_after op e o request n t after there none is =
    let tells : ℕ → EntityData → EntityData = λ m x. telling e.nodes (gone_numbers e x) (changes_by op request m e x) x in
    ap (λ (x : Effect). x.after) (told_done_at op e o request n t there none)
    ∙ ap (tells t.number) (ap (λ (x : Effect). x.after) (sym (done_at op e o request n t there none)) ∙ sym is)
    ∙ ap (λ (m : ℕ). tells m after) (at_number n e.nodes t there)

-- with the reply that is given
pub told_reply : (op : Op) (e : EntityData) (o : List ℕ) (request : RequestParts) (n : ℕ) (t : ResourceData) → at n e.nodes ≡ Some t → fault_at op e o request n ≡ None → (told_effect_at op e o request n).reply ≡ (effect_at op e o request n).reply
told_reply op e o request n t there none =
    ap (λ (x : Effect). x.reply) (told_done_at op e o request n t there none)
    ∙ sym (ap (λ (x : Effect). x.reply) (done_at op e o request n t there none))
