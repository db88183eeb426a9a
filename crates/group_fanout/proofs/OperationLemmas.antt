-- What an operation on a resource gives.
use Rattle.std.proofs.Common.{◌≡◌, ℕ, List, true, false, Option, Some, None, Result, Ok, Err, IfOk, refl, sym, ap, ◌∙◌}
use Rattle.std.specs.Option.{option_map_or}
use Rattle.m2m_names.specs.declared.codes.Rsc.TheVariants.{NotFound}
use Rattle.m2m_names.specs.declared.operations.Op.{Op}
use Rattle.m2m_names.specs.declared.operations.Op.TheVariants.{Create, Update, Delete, Notify}
use Rattle.primitive_json.specs.declared.reply.ReplyParts.{ReplyParts}
use Rattle.primitive_json.specs.declared.request.RequestParts.{RequestParts}
use Rattle.resource_model.specs.Resource.{ResourceData}
use Rattle.tree_model.specs.Tree.{at}
use Rattle.entity_model.specs.Entity.{EntityData}
use Rattle.entity_model.specs.Places.{Effect, refused}
use Rattle.retrieve_discover.specs.Replies.{discovered, retrieved}
use Rattle.create_delete.specs.Relaying.{notify_at, notify_on}
use Rattle.create_delete.specs.Telling.{told_effect_on, told_effect_at}
use Rattle.request_rules.specs.Rights.{is_discovery}
use Rattle.group_fanout.specs.Operations.{change_effect, found_effect, reading_reply, relay_effect, resource_effect}
use Rattle.group_fanout.specs.Rights.{claimed_originator}

-- what is replied is this too, where it is that
pub replied : {E : Type 0} (result : Result ReplyParts E) (x y : ReplyParts) → y ≡ x → IfOk result (λ r. r ≡ x) → IfOk result (λ r. r ≡ y)
replied (Ok r) x y same is = is ∙ sym same
replied (Err e) x y same is = tt

-- ---- what is read

pub reading_found : (e : EntityData) (request : RequestParts) (n : ℕ) (o : List ℕ) → claimed_originator e.home request ≡ o → is_discovery request ≡ true → reading_reply e request n ≡ discovered e.home e.nodes o request n
reading_found e request n o by d =
    let first : reading_reply e request n ≡ discovered e.home e.nodes (claimed_originator e.home request) request n = rw d refl in
    first ∙ ap (λ (t : List ℕ). discovered e.home e.nodes t request n) by

pub reading_shown : (e : EntityData) (request : RequestParts) (n : ℕ) (o : List ℕ) → claimed_originator e.home request ≡ o → is_discovery request ≡ false → reading_reply e request n ≡ retrieved e.home e.nodes o request n
reading_shown e request n o by d =
    let first : reading_reply e request n ≡ retrieved e.home e.nodes (claimed_originator e.home request) request n = rw d refl in
    first ∙ ap (λ (t : List ℕ). retrieved e.home e.nodes t request n) by

-- ---- as it is performed

-- on the resource of a number
pub changing_at : (op : Op) (e : EntityData) (request : RequestParts) (t : ResourceData) → at t.number e.nodes ≡ Some t → change_effect op e request t ≡ told_effect_at op e (claimed_originator e.home request) request t.number
unfolding change_effect
changing_at op e request t there =
    sym (ap (λ (x : Option ResourceData). option_map_or (told_effect_on op e (claimed_originator e.home request) request) x (refused e request NotFound)) there)

-- of what was found, if it was
abbrev performed_of : Op → EntityData → RequestParts → List ℕ → Option ResourceData → Effect
performed_of op e request o found = option_map_or (told_effect_on op e o request) found (refused e request NotFound)

create_found : (e : EntityData) (request : RequestParts) (found : Option ResourceData) → found_effect Create e request found ≡ performed_of Create e request (claimed_originator e.home request) found
unfolding change_effect
create_found e request None = refl
create_found e request (Some t) = refl

update_found : (e : EntityData) (request : RequestParts) (found : Option ResourceData) → found_effect Update e request found ≡ performed_of Update e request (claimed_originator e.home request) found
unfolding change_effect
update_found e request None = refl
update_found e request (Some t) = refl

delete_found : (e : EntityData) (request : RequestParts) (found : Option ResourceData) → found_effect Delete e request found ≡ performed_of Delete e request (claimed_originator e.home request) found
unfolding change_effect
delete_found e request None = refl
delete_found e request (Some t) = refl

-- of what is at a number, for its originator
changes_to : (op : Op) (e : EntityData) (request : RequestParts) (o : List ℕ) (n : ℕ) → ((found : Option ResourceData) → found_effect op e request found ≡ performed_of op e request (claimed_originator e.home request) found) → claimed_originator e.home request ≡ o → request.op ≡ op → resource_effect e request (at n e.nodes) ≡ told_effect_at op e o request n
changes_to op e request o n found by is =
    ap (λ (p : Op). found_effect p e request (at n e.nodes)) is
    ∙ found (at n e.nodes)
    ∙ ap (λ (t : List ℕ). performed_of op e request t (at n e.nodes)) by

pub create_to : (e : EntityData) (request : RequestParts) (o : List ℕ) (n : ℕ) → claimed_originator e.home request ≡ o → request.op ≡ Create → resource_effect e request (at n e.nodes) ≡ told_effect_at Create e o request n
create_to e request o n = changes_to Create e request o n (create_found e request)

pub update_to : (e : EntityData) (request : RequestParts) (o : List ℕ) (n : ℕ) → claimed_originator e.home request ≡ o → request.op ≡ Update → resource_effect e request (at n e.nodes) ≡ told_effect_at Update e o request n
update_to e request o n = changes_to Update e request o n (update_found e request)

pub delete_to : (e : EntityData) (request : RequestParts) (o : List ℕ) (n : ℕ) → claimed_originator e.home request ≡ o → request.op ≡ Delete → resource_effect e request (at n e.nodes) ≡ told_effect_at Delete e o request n
delete_to e request o n = changes_to Delete e request o n (delete_found e request)

-- a Notify
abbrev relayed_of : EntityData → RequestParts → List ℕ → Option ResourceData → Effect
relayed_of e request o found = option_map_or (notify_on e o request) found (refused e request NotFound)

notify_found : (e : EntityData) (request : RequestParts) (found : Option ResourceData) → found_effect Notify e request found ≡ relayed_of e request (claimed_originator e.home request) found
unfolding relay_effect
notify_found e request None = refl
notify_found e request (Some t) = refl

pub notify_to : (e : EntityData) (request : RequestParts) (o : List ℕ) (n : ℕ) → claimed_originator e.home request ≡ o → request.op ≡ Notify → resource_effect e request (at n e.nodes) ≡ notify_at e o request n
notify_to e request o n by is =
    ap (λ (p : Op). found_effect p e request (at n e.nodes)) is
    ∙ notify_found e request (at n e.nodes)
    ∙ ap (λ (t : List ℕ). relayed_of e request t (at n e.nodes)) by
