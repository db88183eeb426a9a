-- What holds of addresses on every list.
use Rattle.std.specs.Prelude.{ℕ, List, Option, None, Result, Ok, Err}
use Rattle.resource_model.specs.Home.{HomeData}
use Rattle.resource_model.specs.Resource.{ResourceData}
pub use Rattle.tree_model.specs.Tree.{have_free_names}
use Rattle.addressing.specs.Addresses.{address_of}
use Rattle.addressing.specs.Names.{spot_of}
use Rattle.addressing.specs.declared.addr.Addr.{Addr}
use Rattle.addressing.specs.declared.addr.Addr.TheVariants.{Local, Foreign, OtherProvider}
use Rattle.addressing.specs.declared.addr.AddrFault.{AddrFault}
use Rattle.addressing.specs.declared.spot.Spot.{Spot}

-- what an address that was read names here
abbrev pub named_here : Result Addr AddrFault → List ResourceData → Option Spot
named_here (Ok (Local segments)) nodes = spot_of segments nodes
named_here (Ok (Foreign text)) nodes = None
named_here (Ok OtherProvider) nodes = None
named_here (Err fault) nodes = None

-- what a text names
abbrev pub spot_named : HomeData → List ℕ → List ResourceData → Option Spot
spot_named home text nodes = named_here (address_of home text) nodes
