-- Where a notification goes (TS-0001, 9.6.8 and 9.6.21; the order is the profile's).
use Rattle.std.specs.Prelude.{ℕ, ◌+◌, Bool, List, find, is_some, if◌then◌else◌, Option, Result, Ok}
use Rattle.std.specs.Prelude.{Err, take, drop, option_and_then}
use Rattle.std.specs.List.{position_or_len}
use Rattle.std.specs.Option.{option_map_or}
use Rattle.m2m_names.specs.UrlReading.{host_end_at}
use Rattle.m2m_names.specs.declared.attributes.Attr.TheVariants.{Poa}
use Rattle.m2m_names.specs.declared.types.Ty.TheVariants.{Ae}
use Rattle.policy_eval.specs.Rules.{listed_in, texts_of}
use Rattle.primitive_json.specs.declared.note.Dest.{Dest}
use Rattle.primitive_json.specs.declared.note.Dest.TheVariants.{Direct, Peer, Channel, Nowhere}
use Rattle.resource_model.specs.Attributes.{value_of}
use Rattle.resource_model.specs.Home.{HomeData}
use Rattle.resource_model.specs.Resource.{ResourceData}
use Rattle.addressing.specs.Addresses.{address_of, is_slash}
use Rattle.addressing.specs.Names.{spot_of, spot_resource}
use Rattle.addressing.specs.declared.addr.Addr.{Addr}
use Rattle.addressing.specs.declared.addr.Addr.TheVariants.{Local, Foreign, OtherProvider}
use Rattle.addressing.specs.declared.addr.AddrFault.{AddrFault}
use Rattle.addressing.specs.declared.spot.Spot.{Spot}
use Rattle.tree_model.specs.Tree.{at, channel_of, cse_of, typed_at}

-- the text is a URL
abbrev pub is_url : List ℕ → Bool
is_url text = is_some (host_end_at text)

-- the first URL among a resource's points of access
abbrev pub first_url : ResourceData → Option (List ℕ)
first_url r = find is_url (texts_of (listed_in (value_of Poa r.attrs)))

-- how an application entity or another CSE is reached: by its polling channel; without one at its
-- first URL; else not at all
abbrev pub reached : (List ℕ → Dest) → List ResourceData → ResourceData → Dest
reached by_url nodes r =
    option_map_or (λ n. Channel n) (channel_of r.number nodes)
    (option_map_or by_url (first_url r) Nowhere)

-- the application entity that an address names
abbrev pub ae_at : Option Spot → List ResourceData → Option ResourceData
ae_at spot nodes =
    option_and_then (λ n. typed_at Ae n nodes) (option_and_then spot_resource spot)

-- the CSE-ID that a foreign address begins with: its slash, and what stands before the next one
abbrev pub leading_cse_id : List ℕ → List ℕ
leading_cse_id text = take (position_or_len is_slash (drop 1 text) + 1) text

-- the other CSE, as it is registered, that a foreign address leads to
abbrev pub cse_named : List ℕ → List ResourceData → Option ResourceData
cse_named text nodes =
    option_and_then (λ n. at n nodes) (cse_of (leading_cse_id text) nodes)

-- where an address leads
abbrev pub address_leads : Result Addr AddrFault → List ResourceData → Dest
address_leads (Ok (Local segments)) nodes =
    option_map_or (reached Direct nodes) (ae_at (spot_of segments nodes) nodes) Nowhere
address_leads (Ok (Foreign text)) nodes =
    option_map_or (reached Peer nodes) (cse_named text nodes) Nowhere
address_leads (Ok OtherProvider) nodes = Nowhere
address_leads (Err fault) nodes = Nowhere

-- where the text of a target leads: to the URL that it is, or by the address that it is
abbrev pub aimed : HomeData → List ResourceData → List ℕ → Dest
aimed home nodes text =
    if is_url text then Direct text else address_leads (address_of home text) nodes
