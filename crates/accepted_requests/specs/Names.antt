-- How an accepted request is addressed: by `req` and its number, as the one segment of an address
-- of this CSE (the form is the profile's).
use Rattle.std.specs.Prelude.{ℕ, Bool, true, false, List, [], ◌∷◌, ◌++◌, codes, Option, None}
use Rattle.std.specs.Prelude.{Result, Ok, Err, option_and_then}
use Rattle.std.specs.Fmt.{decimal}
use Rattle.m2m_names.specs.Ids.{number_written}
use Rattle.resource_model.specs.Home.{HomeData}
use Rattle.addressing.specs.Addresses.{address_of}
use Rattle.addressing.specs.Names.{segments_of}
use Rattle.addressing.specs.Short.{behind}
use Rattle.addressing.specs.declared.addr.Addr.{Addr}
use Rattle.addressing.specs.declared.addr.Addr.TheVariants.{Local, Foreign, OtherProvider}
use Rattle.addressing.specs.declared.addr.AddrFault.{AddrFault}
use Rattle.accepted_requests.specs.Entries.{LaterEntryData, LaterRequestsData, numbered}

-- the name of the accepted request of a number
abbrev pub entry_name : ℕ → List ℕ
entry_name number = codes "req" ++ decimal number

-- the number of which a text is that name
abbrev pub entry_number : List ℕ → Option ℕ
entry_number text = option_and_then number_written (behind (codes "req") text)

-- the number that segments name: one segment alone
abbrev pub number_named : List (List ℕ) → Option ℕ
number_named [] = None
number_named (segment ∷ []) = entry_number segment
number_named (segment ∷ name ∷ names) = None

-- that of an address that was read
abbrev pub number_in : Result Addr AddrFault → Option ℕ
number_in (Ok addr) = number_named (segments_of addr)
number_in (Err fault) = None

-- the address is of this CSE
abbrev pub is_here : Result Addr AddrFault → Bool
is_here (Ok (Local segments)) = true
is_here (Ok (Foreign text)) = false
is_here (Ok OtherProvider) = false
is_here (Err fault) = false

-- the accepted request that a text names, among those that are kept
abbrev pub entry_at : HomeData → List ℕ → LaterRequestsData → Option LaterEntryData
entry_at home to requests =
    option_and_then (λ n. numbered n requests) (number_in (address_of home to))
