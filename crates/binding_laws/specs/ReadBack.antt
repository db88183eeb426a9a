-- The request that the frame of a request binds to (TS-0009, 6.2 to 6.5).
use Rattle.std.specs.Prelude.{◌≡◌, ◌≤◌, ◌<◌, ◌^◌, ◌⊎◌, ◌==◌, ℕ, Bool, true, not, ◌&&◌, List, []}
use Rattle.std.specs.Prelude.{Option, Some, None, Ok, IfSome, IsTrue, IsUtf8}
use Rattle.std.specs.List.{AllByRecursion, list_all}
use Rattle.http_uri.specs.ByteClasses.{is_path_byte, percent_sign}
use Rattle.m2m_value.specs.Data.{depth}
use Rattle.m2m_value.specs.Reading.{reading_depth}
use Rattle.m2m_value.specs.Sound.{IsSound}
use Rattle.filter_criteria.specs.Conditions.{ValueOf, OfEachCondition, no_conditions}
use Rattle.filter_criteria.specs.declared.condition.Sort.{Sort}
use Rattle.filter_criteria.specs.declared.condition.Sort.TheVariants.{Moment, Count, Labels, Types}
use Rattle.filter_criteria.specs.declared.condition.Sort.TheVariants.{Use}
use Rattle.filter_criteria.specs.declared.filter.FilterParts.{FilterParts}
use Rattle.primitive_json.specs.Kinds.{numeral_limit}
use Rattle.primitive_json.specs.Laws.{HasShortExpiry}
use Rattle.primitive_json.specs.declared.request.RequestParts.{RequestParts}
use Rattle.http_binding.specs.Binding.{binding}
use Rattle.http_client_binding.specs.Asking.{request_frame}
use Rattle.http_client_binding.specs.Laws.{IsSendable}
use Rattle.http_client_binding.specs.TargetWriting.{has_own_path, root_path}
use Rattle.http_client_binding.specs.declared.target.Aim.TheVariants.{Peer}

-- a byte that isn't a space
abbrev pub is_no_space : ℕ → Bool
is_no_space b = not (b == 32)

-- a label is UTF-8 and has no space
pub record IsOneWord (label : List ℕ) : Type 0 where
  pub bytes : AllByRecursion (λ (b : ℕ). b < 256) label
  pub utf8 : IsUtf8 label
  pub word : IsTrue (list_all is_no_space label)

-- what a filter has of a condition of each sort is written so that it can be read: numbers have at
-- most 18 digits, and labels have no space
abbrev pub IsTellable : (sort : Sort) → ValueOf sort → Type 0
IsTellable Moment at = Unit {0}
IsTellable Count n = IfSome n (λ n. n < 10 ^ numeral_limit)
IsTellable Labels labels = AllByRecursion IsOneWord labels
IsTellable Types types = Unit {0}
IsTellable Use usage = Unit {0}

-- a byte of an address that stands for itself in a path
abbrev pub is_address_byte : ℕ → Bool
is_address_byte b = is_path_byte b && not (b == percent_sign)

-- The frame of a request to another CSE says all that the request has, and nothing that is read
-- otherwise: the URL has no path but `/`; the address has a path of its own; how the reply is
-- wanted isn't said; numbers have at most 18 digits; labels have no space; and the content is no
-- deeper than a text is read.
pub record SaysAll (r : RequestParts) (url : List ℕ) : Type 0 where
  pub sendable : IsSendable r url Peer
  pub root : root_path url ≡ []
  pub to_own : IsTrue (has_own_path r.to)
  pub to_bytes : IsTrue (list_all is_address_byte r.to)
  pub to_utf8 : IsUtf8 r.to
  pub rt : r.rt ≡ None
  pub rqet : HasShortExpiry r
  pub fc : IfSome r.fc (OfEachCondition IsTellable)
  pub pc : IfSome r.pc (λ content. IsSound content × (depth content ≤ reading_depth))

-- Two filters are alike: they are one, or one has no condition and the other isn't there.
abbrev pub AreAlike : Option FilterParts → Option FilterParts → Type 0
AreAlike fc read = (read ≡ fc) ⊎ ((fc ≡ Some no_conditions) × (read ≡ None))

-- The frame of a request to another CSE binds to that request.
abbrev pub RequestIsBoundBack : Type 0
RequestIsBoundBack =
    (r : RequestParts) (url : List ℕ) → SaysAll r url
    → (read : Option FilterParts) × AreAlike r.fc read
    × (binding (request_frame r url Peer) ≡ Ok (record r { fc = read }))
