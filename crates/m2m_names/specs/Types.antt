-- The resource types.
use Rattle.std.specs.Prelude.{ℕ, List, [], ◌∷◌, ◌++◌, Option, Bool, find, Contains, codes, ◌==◌}
use Rattle.std.specs.Prelude.{nat_le}
use Rattle.std.specs.List.{list_any}
use Rattle.std.specs.Str.{bytes_eq}
use Rattle.m2m_names.specs.declared.types.Ty.{Ty}
use Rattle.m2m_names.specs.declared.types.Ty.TheVariants.{AccessControlPolicy, Ae, Container}
use Rattle.m2m_names.specs.declared.types.Ty.TheVariants.{ContentInstance, CseBase, Group}
use Rattle.m2m_names.specs.declared.types.Ty.TheVariants.{PollingChannel, RemoteCse, Subscription}
use Rattle.m2m_names.specs.declared.types.Ty.TheVariants.{AccessControlPolicyAnnc, AeAnnc}
use Rattle.m2m_names.specs.declared.types.Ty.TheVariants.{ContainerAnnc, ContentInstanceAnnc}
use Rattle.m2m_names.specs.declared.types.Ty.TheVariants.{GroupAnnc}

-- what stands for a type: its number, its short word, and the types of child that it takes
pub record TyRow : Type 0 where
  pub number : ℕ
  pub word : List ℕ
  pub takes : List Ty

-- The row of a type by its number, its short word and the types of child that it takes.
abbrev pub ty_entry : ℕ → List ℕ → List Ty → TyRow
ty_entry number word takes = record { number = number; word = word; takes = takes }

-- the table: a row for each type (TS-0004, 6.3.4.2.1), with the children that the profile has of
-- those in TS-0001, 9.6
abbrev pub ty_row : Ty → TyRow
ty_row AccessControlPolicy = ty_entry 1 (codes "acp") (Subscription ∷ [])
ty_row Ae = ty_entry 2 (codes "ae")
    (AccessControlPolicy ∷ Container ∷ Group ∷ Subscription ∷ PollingChannel ∷ [])
ty_row Container = ty_entry 3 (codes "cnt") (Container ∷ ContentInstance ∷ Subscription ∷ [])
ty_row ContentInstance = ty_entry 4 (codes "cin") []
ty_row CseBase = ty_entry 5 (codes "cb")
    (AccessControlPolicy ∷ Ae ∷ Container ∷ Group ∷ Subscription ∷ RemoteCse ∷ [])
ty_row Group = ty_entry 9 (codes "grp") (Subscription ∷ [])
ty_row PollingChannel = ty_entry 15 (codes "pch") []
ty_row RemoteCse = ty_entry 16 (codes "csr")
    (AccessControlPolicy ∷ Container ∷ Group ∷ Subscription ∷ PollingChannel
    ∷ AeAnnc ∷ ContainerAnnc ∷ GroupAnnc ∷ AccessControlPolicyAnnc ∷ [])
ty_row Subscription = ty_entry 23 (codes "sub") []
ty_row AccessControlPolicyAnnc = ty_entry 10001 (codes "acpA") []
ty_row AeAnnc = ty_entry 10002 (codes "aeA") (ContainerAnnc ∷ [])
ty_row ContainerAnnc = ty_entry 10003 (codes "cntA") (ContainerAnnc ∷ ContentInstanceAnnc ∷ [])
ty_row ContentInstanceAnnc = ty_entry 10004 (codes "cinA") []
ty_row GroupAnnc = ty_entry 10009 (codes "grpA") []

-- all types, in the order of their numbers
abbrev pub all_types : List Ty
all_types =
    AccessControlPolicy ∷ Ae ∷ Container ∷ ContentInstance ∷ CseBase ∷ Group ∷ PollingChannel
    ∷ RemoteCse ∷ Subscription ∷ AccessControlPolicyAnnc ∷ AeAnnc ∷ ContainerAnnc
    ∷ ContentInstanceAnnc ∷ GroupAnnc ∷ []

-- the largest number that a resource type may have (the profile's)
abbrev pub largest_type : ℕ
largest_type = 65_535

-- a number that a resource type may have, known or not
abbrev pub is_type_number : ℕ → Bool
is_type_number n = nat_le n largest_type

-- the type of a number
abbrev pub ty_of_number : ℕ → Option Ty
ty_of_number n = find (λ ty. (ty_row ty).number == n) all_types

-- the type of a short word
abbrev pub ty_of_word : List ℕ → Option Ty
ty_of_word word = find (λ ty. bytes_eq (ty_row ty).word word) all_types

-- the name of a type in JSON: `m2m:` and its word (TS-0004, 8.2.4)
abbrev pub ty_member : Ty → List ℕ
ty_member ty = codes "m2m:" ++ (ty_row ty).word

-- the type is that type
abbrev pub is_ty : Ty → Ty → Bool
is_ty a b = (ty_row a).number == (ty_row b).number

-- a resource of the first type may have children of the second
abbrev pub Takes : Ty → Ty → Type 0
Takes parent child = Contains (ty_row parent).takes child

-- whether it may, as a test
abbrev pub does_take : Ty → Ty → Bool
does_take parent child = list_any (λ ty. is_ty ty child) (ty_row parent).takes
