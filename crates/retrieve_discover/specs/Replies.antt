-- The replies to a Retrieve and to a discovery.
use Rattle.std.specs.Prelude.{ℕ, Bool, true, false, not, List, Some}
use Rattle.std.specs.Prelude.{if◌then◌else◌}
use Rattle.std.specs.Option.{option_map_or}
use Rattle.std.specs.Ordering.{int_eq}
use Rattle.m2m_names.specs.declared.codes.Rsc.TheVariants.{Ok as Fine, NoPrivilege, NotFound}
use Rattle.m2m_value.specs.Data.{Data}
use Rattle.primitive_json.specs.Kinds.{unstructured_form}
use Rattle.primitive_json.specs.declared.reply.ReplyParts.{ReplyParts}
use Rattle.primitive_json.specs.declared.request.RequestParts.{RequestParts}
pub use Rattle.entity_model.specs.Places.{reply_to, refusal}
use Rattle.entity_model.specs.Places.{absent, reading_bit}
use Rattle.resource_model.specs.Home.{HomeData}
use Rattle.resource_model.specs.Resource.{ResourceData}
use Rattle.policy_eval.specs.Rights.{grants}
use Rattle.tree_model.specs.Tree.{at}
use Rattle.retrieve_discover.specs.Conditions.{meets_any}
use Rattle.retrieve_discover.specs.Contents.{content}
use Rattle.retrieve_discover.specs.Findings.{address_list, found_addresses}

-- a reply with content, to a request that was served
abbrev pub success : RequestParts → Data → ReplyParts
success request d = reply_to request Fine (Some d)

-- addresses are wanted as resource ids (TS-0004, 6.3.4.2.8)
abbrev pub is_by_id : RequestParts → Bool
is_by_id request = option_map_or (λ z. int_eq z unstructured_form) request.drt false

-- a discovery below the resource of the number: refused without its right on it (TS-0001, 10.2.6)
abbrev pub discovered : HomeData → List ResourceData → List ℕ → RequestParts → ℕ → ReplyParts
discovered home nodes originator request n =
    if grants home nodes originator (reading_bit true) n
    then success request
    (address_list (found_addresses home nodes originator (is_by_id request) request.fc n))
    else refusal request NoPrivilege

-- a Retrieve of a resource: refused without its right on it, and then where it doesn't meet the
-- conditions, so that these tell nothing to who may not retrieve it (TS-0001, 10.2.3)
abbrev pub retrieved_of : HomeData → List ResourceData → List ℕ → RequestParts → ResourceData →
    ReplyParts
retrieved_of home nodes originator request r =
    if not (grants home nodes originator (reading_bit false) r.number)
    then refusal request NoPrivilege else
    if not (meets_any nodes request.fc r) then refusal request NotFound else
    success request (content home nodes originator (is_by_id request) request.rcn r)

-- The reply to a Retrieve of the resource of the number.
abbrev pub retrieved : HomeData → List ResourceData → List ℕ → RequestParts → ℕ → ReplyParts
retrieved home nodes originator request n =
    option_map_or (retrieved_of home nodes originator request) (at n nodes) (refusal request absent)
