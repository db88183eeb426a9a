-- Addresses as texts (TS-0001, 7.2 and 9.3.1; the lengths are the profile's).
use Rattle.std.specs.Prelude.{◌≡◌, ℕ, ◌==◌, nat_eq, nat_lt, Bool, not, List, [], ◌∷◌, ◌⊎◌, drop}
use Rattle.std.specs.Prelude.{length}
use Rattle.std.specs.Prelude.{bytes_eq, codes, if◌then◌else◌, Option, Some, None}
use Rattle.std.specs.Prelude.{Result, Ok, Err, option_and_then}
use Rattle.std.specs.List.{after_first, before_first, join_with_byte, list_all, position_or_len}
use Rattle.std.specs.List.{slice_split, starts_with}
use Rattle.m2m_names.specs.Name.{is_name}
use Rattle.m2m_names.specs.Urls.{point_limit}
use Rattle.resource_model.specs.Home.{HomeData}
use Rattle.tree_model.specs.Shown.{own_cse_id}
use Rattle.addressing.specs.declared.addr.Addr.{Addr}
use Rattle.addressing.specs.declared.addr.Addr.TheVariants.{Local, Foreign, OtherProvider}
use Rattle.addressing.specs.declared.addr.AddrFault.{AddrFault}
use Rattle.addressing.specs.declared.addr.AddrFault.TheVariants.{TooLong, Shape, OutOfMemory}

-- ---- texts and their slashes

-- The byte is a slash, which parts the segments of an address (TS-0001, 7.2).
abbrev pub is_slash : ℕ → Bool
is_slash byte = byte == 47

-- what stands between the slashes of a text
abbrev pub between_slashes : List ℕ → List (List ℕ)
between_slashes text = slice_split is_slash text

-- what stands before the first slash of a text, and behind it
abbrev pub cut_at : List ℕ → Option (List ℕ × List ℕ)
cut_at text =
    if nat_lt (position_or_len is_slash text) (length text)
    then Some (before_first is_slash text, after_first is_slash text) else None

-- The parts of the text that is left, where one is.
abbrev pub parts_left : Option (List ℕ) → List (List ℕ)
parts_left None = []
parts_left (Some text) = between_slashes text

-- parts with a slash between them
abbrev pub joined : List (List ℕ) → List ℕ
joined parts = join_with_byte 47 parts

-- a slash stands before each part but the first
abbrev pub slash_at : ℕ → List ℕ
slash_at place = if place == 0 then [] else 47 ∷ []

-- each part is a name
abbrev pub are_names : List (List ℕ) → Bool
are_names parts = list_all is_name parts

-- ---- addresses

-- under a CSE-ID, here without its slash, stand segments: those under own CSE-ID are local; what
-- stands under another is foreign, and keeps its text
abbrev pub under : HomeData → List ℕ → List (List ℕ) → Option Addr
under home rest [] = None
under home rest (csi ∷ segments) =
    if are_names (csi ∷ segments)
    then Some (if bytes_eq csi home.csi then Local segments else Foreign (47 ∷ rest)) else None

-- what follows the slash of an SP-relative address: a CSE-ID without its slash, then nothing, or a
-- slash and a CSE-relative address
abbrev pub by_cse : HomeData → List ℕ → Option Addr
by_cse home rest = under home rest (between_slashes rest)

-- what follows the two slashes of an absolute address: a provider, which is a name, and an
-- SP-relative address; where the provider is another nothing is kept
abbrev pub of_provider : HomeData → List ℕ → List ℕ → Option Addr
of_provider home sp behind =
    if not (is_name sp) then None else
    if bytes_eq sp home.sp then by_cse home behind else
    if are_names (between_slashes behind) then Some OtherProvider else None

-- The address behind the two slashes of an absolute address: the provider up to the first slash,
-- and what follows that slash (TS-0001, 7.2).
abbrev pub by_provider : HomeData → List ℕ → Option Addr
by_provider home rest =
    option_and_then (λ (cut : List ℕ × List ℕ). of_provider home cut.0 cut.1) (cut_at rest)

-- a CSE-relative address: names with a slash between them
abbrev pub by_names : List ℕ → Option Addr
by_names text =
    if are_names (between_slashes text) then Some (Local (between_slashes text)) else None

-- the address of a text of any length
abbrev pub shaped : HomeData → List ℕ → Option Addr
shaped home text =
    if starts_with nat_eq text (codes "//") then by_provider home (drop 2 text) else
    if starts_with nat_eq text (codes "/") then by_cse home (drop 1 text) else by_names text

-- A text that has the form of no address gets the fault of its shape.
abbrev pub unless_shapeless : Option Addr → Result Addr AddrFault
unless_shapeless None = Err Shape
unless_shapeless (Some addr) = Ok addr

-- the address that a text is, or its fault
abbrev pub address_of : HomeData → List ℕ → Result Addr AddrFault
address_of home text =
    if nat_lt point_limit (length text) then Err TooLong else unless_shapeless (shaped home text)

-- memory may be taken before this is told: for what is kept, and for names before one that is none
abbrev pub MayTakeMemory : Result Addr AddrFault → Type 0
MayTakeMemory (Ok (Local segments)) = Unit {0}
MayTakeMemory (Ok (Foreign text)) = Unit {0}
MayTakeMemory (Ok OtherProvider) = ⊥
MayTakeMemory (Err TooLong) = ⊥
MayTakeMemory (Err Shape) = Unit {0}
MayTakeMemory (Err OutOfMemory) = ⊥

-- the result is the one that is told, unless memory ran out where some may be taken
abbrev pub GivesAddress : Result Addr AddrFault → Result Addr AddrFault → Type 0
GivesAddress (Ok addr) told = told ≡ Ok addr
GivesAddress (Err fault) told =
    ((fault ≡ OutOfMemory) × MayTakeMemory told) ⊎ (told ≡ Err fault)

-- ---- the text of an address

-- what it prints as: segments with a slash between them; the CSE-ID where there is none; a foreign
-- address by its text
abbrev pub printed : HomeData → Addr → List ℕ
printed home (Local []) = own_cse_id home
printed home (Local (segment ∷ segments)) = joined (segment ∷ segments)
printed home (Foreign text) = text
printed home OtherProvider = []

-- the address keeps its text
abbrev pub KeepsText : Addr → Type 0
KeepsText (Local segments) = Unit {0}
KeepsText (Foreign text) = Unit {0}
KeepsText OtherProvider = ⊥
