-- The names of members that are no attributes (TS-0004, 8.2.4 and 8.2.5).
use Rattle.std.specs.Prelude.{ℕ, List, codes}

-- of access control rules: the list of them; of each its originators, and the sum of its bits
abbrev pub acr_name : List ℕ
acr_name = codes "acr"

abbrev pub acor_name : List ℕ
acor_name = codes "acor"

abbrev pub acop_name : List ℕ
acop_name = codes "acop"

-- of the content of a reply: the frame round a new resource and its address, and the addresses that
-- were found
abbrev pub rce_name : List ℕ
rce_name = codes "m2m:rce"

abbrev pub uril_name : List ℕ
uril_name = codes "m2m:uril"

-- of a resource that is shown: its children, and of a reference to a child the address
abbrev pub ch_name : List ℕ
ch_name = codes "ch"

abbrev pub val_name : List ℕ
val_name = codes "val"
