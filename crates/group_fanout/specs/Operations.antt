-- What one operation on one resource gives (TS-0001, 10.2; TS-0004, 7.3.3).
use Rattle.std.specs.Prelude.{ℕ, Option, if◌then◌else◌}
use Rattle.m2m_names.specs.declared.operations.Op.{Op}
use Rattle.m2m_names.specs.declared.operations.Op.TheVariants.{Create, Retrieve, Update, Delete}
use Rattle.m2m_names.specs.declared.operations.Op.TheVariants.{Notify}
use Rattle.primitive_json.specs.declared.reply.ReplyParts.{ReplyParts}
use Rattle.primitive_json.specs.declared.request.RequestParts.{RequestParts}
use Rattle.resource_model.specs.Resource.{ResourceData}
use Rattle.entity_model.specs.Entity.{EntityData}
use Rattle.entity_model.specs.Places.{Effect, reply_alone, on_found}
use Rattle.retrieve_discover.specs.Replies.{discovered, retrieved}
use Rattle.create_delete.specs.Relaying.{notify_on}
use Rattle.create_delete.specs.Telling.{told_effect_on}
use Rattle.request_rules.specs.Rights.{is_discovery}
use Rattle.group_fanout.specs.Rights.{claimed_originator}

-- what a Retrieve of the resource of a number is answered (TS-0001, 10.2.3 and 10.2.6)
abbrev pub reading_reply : EntityData → RequestParts → ℕ → ReplyParts
reading_reply e request n =
    if is_discovery request
    then discovered e.home e.nodes (claimed_originator e.home request) request n
    else retrieved e.home e.nodes (claimed_originator e.home request) request n

-- what an operation that may change something gives, for its originator: a refusal by the first
-- place that doesn't hold, or what is done, and its changes told (TS-0001, 9.6.8)
unfoldable pub change_effect : Op → EntityData → RequestParts → ResourceData → Effect
change_effect op e request target =
    told_effect_on op e (claimed_originator e.home request) request target

-- what a Notify gives for its originator: a refusal, or it is handed on (TS-0001, 10.2.10)
unfoldable pub relay_effect : EntityData → RequestParts → ResourceData → Effect
relay_effect e request target =
    notify_on e (claimed_originator e.home request) request target

-- what an operation on a resource gives: a Retrieve reads it, a Notify is handed on, and every
-- other may change something (TS-0001, 10.2)
abbrev pub operation_effect : Op → EntityData → RequestParts → ResourceData → Effect
operation_effect Create e request target = change_effect Create e request target
operation_effect Retrieve e request target =
    reply_alone e (reading_reply e request target.number)
operation_effect Update e request target = change_effect Update e request target
operation_effect Delete e request target = change_effect Delete e request target
operation_effect Notify e request target = relay_effect e request target

-- what an operation gives on the resource that was found, if one was
abbrev pub found_effect : Op → EntityData → RequestParts → Option ResourceData → Effect
found_effect op e request found = on_found e request (operation_effect op e request) found

-- what a request to a resource gives
abbrev pub resource_effect : EntityData → RequestParts → Option ResourceData → Effect
resource_effect e request found = found_effect request.op e request found
