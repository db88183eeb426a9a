-- Whom a request is judged as, and the right that it needs (TS-0001, 9.6.2).
use Rattle.std.specs.Prelude.{ℕ, Bool, List, unwrap_or}
use Rattle.primitive_json.specs.declared.request.RequestParts.{RequestParts}
use Rattle.resource_model.specs.Home.{HomeData}
use Rattle.addressing.specs.Short.{shortened}
use Rattle.entity_model.specs.Entity.{EntityData}
use Rattle.request_rules.specs.Creation.{c_stem}
use Rattle.request_rules.specs.Rights.{may_do}

-- who asks: without a word of it `C`, as from an application entity that registers (TS-0001,
-- 10.2.2.2)
abbrev pub asking : RequestParts → List ℕ
asking request = unwrap_or request.fr c_stem

-- whom a request is judged as, in the short form (TS-0001, 7.2)
abbrev pub claimed_originator : HomeData → RequestParts → List ℕ
claimed_originator home request = shortened home (asking request)

-- the originator has the right that the request needs on the resource of the number
abbrev pub has_right : EntityData → RequestParts → ℕ → Bool
has_right e request n = may_do request.op e (claimed_originator e.home request) request n
