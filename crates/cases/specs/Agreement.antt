-- When a run gave what its case says.
use Rattle.std.specs.Prelude.{◌≡◌, Some, IfSome}
use Rattle.cases.specs.declared.case.Case.{Case}
use Rattle.cases.specs.declared.came.Came.{Came}

-- just the texts came that the case says
pub record TextsAgree (case : Case) (came : Came) : Type 0 where
  pub out : came.out.items ≡ case.streams.out.items
  pub err : came.err.items ≡ case.err.items
  pub asked : came.asked.items ≡ case.asked.items

-- Just the numbers came that the case says: the status, the count of connections, and how much was
-- left unread where the case says it.
pub record NumbersAgree (case : Case) (came : Came) : Type 0 where
  pub status : case.status ≡ Some came.status
  pub served : case.served ≡ Some came.served
  pub left : IfSome case.left (λ left. came.left ≡ left)

-- all that the case says came, and nothing else
abbrev pub Agrees : Case → Came → Type 0
Agrees case came = NumbersAgree case came × TextsAgree case came
