-- What judging gives, by equal names.
use Rattle.std.proofs.Common.{◌≡◌, ◌++◌, ℕ, List, Option, Some, None, Result, Ok, Err, sym, ap, ◌∙◌, subst}
use Rattle.std.specs.Option.{option_map_or}
use Rattle.m2m_names.specs.declared.codes.Rsc.{Rsc}
use Rattle.m2m_names.specs.declared.codes.Rsc.TheVariants.{NotFound}
use Rattle.m2m_names.specs.declared.operations.Op.{Op}
use Rattle.primitive_json.specs.declared.request.RequestParts.{RequestParts}
use Rattle.resource_model.specs.Resource.{ResourceData}
use Rattle.tree_model.specs.Tree.{at}
use Rattle.tree_model.proofs.TreeLemmas.{at_number}
use Rattle.entity_model.specs.Entity.{EntityData}
use Rattle.entity_model.specs.Places.{Check, first_fault}
use Rattle.request_rules.specs.Judged.{Judges}
use Rattle.request_rules.specs.Order.{fault_at, fault_on}
use Rattle.request_rules.specs.declared.judging.Refusal.{Refusal}
use Rattle.request_rules.specs.declared.judging.Refusal.TheVariants.{Fault, OutOfMemory}
use Rattle.request_rules.proofs.OrderLemmas.{rest_decides}

-- by the places behind those that hold
pub judges_rest : {X : Type 0} (r : Result X Refusal) (front back : List Check) (P : X → Type 0) → first_fault front ≡ None → Judges r (first_fault back) P → Judges r (first_fault (front ++ back)) P
judges_rest r front back P none judged = subst (λ (f : Option Rsc). Judges r f P) (rest_decides front back (sym none)) judged

-- by the resource that a number finds
pub judges_at : {X : Type 0} (r : Result X Refusal) (op : Op) (e : EntityData) (o : List ℕ) (request : RequestParts) (n : ℕ) (t : ResourceData) (P : ℕ → X → Type 0) → at n e.nodes ≡ Some t → Judges r (fault_on op e o request t) (P t.number) → Judges r (fault_at op e o request n) (P n)
judges_at r op e o request n t P found judged =
    subst (λ (m : ℕ). Judges r (fault_at op e o request n) (P m)) (at_number n e.nodes t found)
    (subst (λ (f : Option Rsc). Judges r f (P t.number)) (sym (ap (λ (x : Option ResourceData). option_map_or (fault_on op e o request) x (Some NotFound)) found)) judged)

-- where it is refused, by the fault alone
pub judges_refused : {X Y : Type 0} (why : Refusal) (f g : Option Rsc) (P : X → Type 0) (Q : Y → Type 0) → g ≡ f → Judges {X = X} (Err why) f P → Judges {X = Y} (Err why) g Q
judges_refused (Fault r) f g P Q same judged = same ∙ judged
judges_refused OutOfMemory f g P Q same judged = tt

-- by an equal name of the fault, where what is given is so besides
pub judges_further : {X : Type 0} (r : Result X Refusal) (f g : Option Rsc) (P Q : X → Type 0) → g ≡ f → ((x : X) → P x → Q x) → Judges r f P → Judges r g Q
judges_further (Ok x) f g P Q same step judged = (same ∙ judged.0, step x judged.1)
judges_further (Err (Fault r)) f g P Q same step judged = same ∙ judged
judges_further (Err OutOfMemory) f g P Q same step judged = tt
