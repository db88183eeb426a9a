-- The methods of requests, as a table (TS-0009, 6.2.1; RFC 9110, section 9).
use Rattle.std.specs.Prelude.{ℕ, Bool, ◌||◌, List, [], ◌∷◌, Option, find, bytes_eq, codes, is_some}
use Rattle.std.specs.Prelude.{if◌then◌else◌}
use Rattle.std.specs.Option.{option_map_or}
use Rattle.std.specs.Ordering.{int_eq}
use Rattle.m2m_names.specs.Operations.{op_row}
use Rattle.m2m_names.specs.declared.operations.Op.{Op}
use Rattle.m2m_names.specs.declared.operations.Op.TheVariants as ops
use Rattle.http_binding.specs.declared.method.Method.{Method}
use Rattle.http_binding.specs.declared.method.Method.TheVariants.{Get, Post, Put, Delete}

-- what stands for a method: its name, and the operation that it asks for beside the type that is to
-- be created, and without one
pub record MethodRow : Type 0 where
  pub name : List ℕ
  pub typed : Op
  pub plain : Op

-- The row of a method by its name and its two operations.
abbrev pub method_row : List ℕ → Op → Op → MethodRow
method_row name typed plain = record { name = name; typed = typed; plain = plain }

-- the table
abbrev pub row_of_method : Method → MethodRow
row_of_method Get = method_row (codes "GET") ops.Retrieve ops.Retrieve
row_of_method Post = method_row (codes "POST") ops.Create ops.Notify
row_of_method Put = method_row (codes "PUT") ops.Update ops.Update
row_of_method Delete = method_row (codes "DELETE") ops.Delete ops.Delete

-- the methods that are served
abbrev pub all_methods : List Method
all_methods = Get ∷ Post ∷ Put ∷ Delete ∷ []

-- The name of a method, as a start line writes it (RFC 9110, section 9).
abbrev pub name_of_method : Method → List ℕ
name_of_method method = (row_of_method method).name

-- the method of a name; names are compared exactly
abbrev pub method_named : List ℕ → Option Method
method_named name = find (λ method. bytes_eq (name_of_method method) name) all_methods

-- the operation that a method asks for, beside the number of a type or none
abbrev pub operation_of : Method → Option ℕ → Op
operation_of method type =
    if is_some type then (row_of_method method).typed else (row_of_method method).plain

-- The two operations are one, by their numbers.
abbrev pub is_operation : Op → Op → Bool
is_operation op other = int_eq (op_row op).number (op_row other).number

-- the method asks for the operation, beside a type or without one
abbrev pub asks_for : Op → Method → Bool
asks_for op method =
    is_operation (row_of_method method).typed op || is_operation (row_of_method method).plain op

-- the name of the method that asks for an operation
abbrev pub method_text : Op → List ℕ
method_text op = option_map_or name_of_method (find (asks_for op) all_methods) []
