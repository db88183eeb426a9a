-- The members of a request, as a table (TS-0004, 8.2.2).
use Rattle.std.specs.Prelude.{ℕ, Bool, true, false, ◌&&◌, List, [], ◌∷◌, Option}
use Rattle.std.specs.Prelude.{find, codes}
use Rattle.std.specs.Option.{option_map_or}
use Rattle.std.specs.Str.{bytes_eq}
use Rattle.m2m_names.specs.Name.{is_one_of}
use Rattle.m2m_names.specs.declared.operations.Op.{Op}
use Rattle.m2m_names.specs.declared.operations.Op.TheVariants.{Create, Retrieve, Update, Delete}
use Rattle.m2m_names.specs.declared.operations.Op.TheVariants.{Notify}
use Rattle.primitive_json.specs.declared.member.Member.{Member}
use Rattle.primitive_json.specs.declared.member.Member.TheVariants.{DesiredForm, FilterCriteria}
use Rattle.primitive_json.specs.declared.member.Member.TheVariants.{Originator, Operation, Content}
use Rattle.primitive_json.specs.declared.member.Member.TheVariants.{ResultContent, Expiry}
use Rattle.primitive_json.specs.declared.member.Member.TheVariants.{RequestId, ResponseType, Target}
use Rattle.primitive_json.specs.declared.member.Member.TheVariants.{ResourceType}
use Rattle.primitive_json.specs.declared.member.MemberKind.{MemberKind}
use Rattle.primitive_json.specs.declared.member.MemberKind.TheVariants.{AddressForm, FilterObject}
use Rattle.primitive_json.specs.declared.member.MemberKind.TheVariants.{OriginatorText}
use Rattle.primitive_json.specs.declared.member.MemberKind.TheVariants.{OperationNumber}
use Rattle.primitive_json.specs.declared.member.MemberKind.TheVariants.{AnyObject, ResultNumber}
use Rattle.primitive_json.specs.declared.member.MemberKind.TheVariants.{ExpiryTime, IdText}
use Rattle.primitive_json.specs.declared.member.MemberKind.TheVariants.{ResponseForm, AddressText}
use Rattle.primitive_json.specs.declared.member.MemberKind.TheVariants.{TypeNumber}
use Rattle.primitive_json.specs.declared.member.Scope.{Scope}
use Rattle.primitive_json.specs.declared.member.Scope.TheVariants.{Always, OnCreate, WithContent}
use Rattle.primitive_json.specs.declared.member.Scope.TheVariants.{WithResult}

-- what a request of an operation says: which type it creates, what it retrieves by a filter, which
-- content it has, and which content its reply is to have (TS-0001, 8.1.2)
pub record OpReads : Type 0 where
  pub creates : Bool
  pub retrieves : Bool
  pub has_content : Bool
  pub has_result : Bool

abbrev pub op_reads : Bool → Bool → Bool → Bool → OpReads
op_reads creates retrieves has_content has_result =
    record {
      creates = creates;
      retrieves = retrieves;
      has_content = has_content;
      has_result = has_result;
    }

-- Which of these parts a request of the operation has (TS-0001, 8.1.2).
abbrev pub reads_of : Op → OpReads
reads_of Create = op_reads true false true true
reads_of Retrieve = op_reads false true false true
reads_of Update = op_reads false false true true
reads_of Delete = op_reads false false false true
reads_of Notify = op_reads false false true false

-- A request of the operation says which type it creates.
abbrev pub creates : Op → Bool
creates op = (reads_of op).creates

-- A request of the operation may have a filter.
abbrev pub retrieves : Op → Bool
retrieves op = (reads_of op).retrieves

-- A request of the operation has a content.
abbrev pub has_content : Op → Bool
has_content op = (reads_of op).has_content

-- A request of the operation may say which content its reply is to have.
abbrev pub has_result : Op → Bool
has_result op = (reads_of op).has_result

-- the operations of a scope; but for the first it has none that is not known
abbrev pub covers : Scope → Option Op → Bool
covers Always op = true
covers OnCreate op = option_map_or creates op false
covers WithContent op = option_map_or has_content op false
covers WithResult op = option_map_or has_result op false

-- what stands for a member: its short name, the kind of its value, on which operations it is read,
-- and whether it is needed there
pub record MemberRow : Type 0 where
  pub name : List ℕ
  pub kind : MemberKind
  pub scope : Scope
  pub needed : Bool

-- The row of a member by its four columns.
abbrev pub member_row : List ℕ → MemberKind → Scope → Bool → MemberRow
member_row name kind scope needed =
    record { name = name; kind = kind; scope = scope; needed = needed }

-- the table
abbrev pub row_of_member : Member → MemberRow
row_of_member DesiredForm = member_row (codes "drt") AddressForm Always false
row_of_member FilterCriteria = member_row (codes "fc") FilterObject Always false
row_of_member Originator = member_row (codes "fr") OriginatorText Always false
row_of_member Operation = member_row (codes "op") OperationNumber Always true
row_of_member Content = member_row (codes "pc") AnyObject WithContent true
row_of_member ResultContent = member_row (codes "rcn") ResultNumber WithResult false
row_of_member Expiry = member_row (codes "rqet") ExpiryTime Always false
row_of_member RequestId = member_row (codes "rqi") IdText Always true
row_of_member ResponseType = member_row (codes "rt") ResponseForm Always false
row_of_member Target = member_row (codes "to") AddressText Always true
row_of_member ResourceType = member_row (codes "ty") TypeNumber OnCreate true

-- all members, in byte order of their short names
abbrev pub all_members : List Member
all_members =
    DesiredForm ∷ FilterCriteria ∷ Originator ∷ Operation ∷ Content ∷ ResultContent ∷ Expiry ∷
    RequestId ∷ ResponseType ∷ Target ∷ ResourceType ∷ []

-- The short name of a member (TS-0004, 8.2.2).
abbrev pub name_of_member : Member → List ℕ
name_of_member member = (row_of_member member).name

-- the member of a short name
abbrev pub member_named : List ℕ → Option Member
member_named name = find (λ member. bytes_eq (name_of_member member) name) all_members

-- the members that are accepted and never read (the profile's)
abbrev pub unread_names : List (List ℕ)
unread_names =
    codes "da" ∷ codes "ec" ∷ codes "gid" ∷ codes "oet" ∷ codes "ot" ∷ codes "rp" ∷ codes "rset" ∷
    codes "rvi" ∷ codes "vsi" ∷ []

-- The member is accepted and never read.
abbrev pub is_one_unread : List ℕ → Bool
is_one_unread name = is_one_of unread_names name

-- a member is read on an operation, as far as that is known
abbrev pub is_read : Option Op → Member → Bool
is_read op member = covers (row_of_member member).scope op

-- a member must be there
abbrev pub is_needed : Option Op → Member → Bool
is_needed op member = (row_of_member member).needed && is_read op member
