-- A list is smaller than the value that it is, by the size that shows that a walk down a value ends.
use Rattle.std.proofs.Common.{◌≡◌, ◌+◌, ◌≤◌, List, sym, subst, arith}
use Rattle.m2m_value.specs.Data.{Data, list, elements_of}
use Rattle.m2m_value.specs.declared.value.Items.TheDeep.{size-Items, size-SharedItems, size-Val}

-- the list that a shared list is, beside the value
pub list_below : (items shared : List Data) (v : Data) → items ≡ shared → list (elements_of shared) ≡ v → size-Items items + 2 ≤ size-Val v
list_below items shared v same is =
    subst (λ ds. size-Items ds + 2 ≤ size-Val v) (sym same) (subst (λ d. size-Items shared + 2 ≤ size-Val d) is (omega arith))

-- and beside the shared list
pub items_below : (items shared : List Data) → items ≡ shared → size-Items items + 2 ≤ size-SharedItems shared
items_below items shared same = subst (λ ds. size-Items ds + 2 ≤ size-SharedItems shared) (sym same) (omega arith)
