-- What a refusal of a content says of its first fault.
use Rattle.std.proofs.Common.{◌≡◌, true, false, Option, Some, None, Result, Ok, Err, IfOk, IfSome, IfNone, inl, inr, refl, sym, ap, ◌∙◌}
use Rattle.std.proofs.lemmas.Bool.{true≢false}
use Rattle.std.specs.Prelude.{IsOkUnless, OnOk}
use Rattle.attribute_rules.specs.Admission.{Refuses}
use Rattle.attribute_rules.specs.declared.faults.AttrFault.{AttrFault}
use Rattle.attribute_rules.specs.declared.faults.AttrFault.TheVariants.{OutOfMemory}
use Rattle.refusal_reasons.specs.Facts.{is_memory}

-- what is admitted has no fault
pub none_is : {A : Type 0} (o : Option AttrFault) (w : A) → IfSome o (Refuses {A = A} (Ok w)) → None ≡ o
none_is None w h = refl
none_is (Some f) w (inl is) = cc
none_is (Some f) w (inr memory) = let is : Ok w ≡ Err OutOfMemory = memory.0 in cc

-- the error of a result; of a value this one
abbrev error_in : {A : Type 0} → AttrFault → Result A AttrFault → AttrFault
error_in other (Ok w) = other
error_in other (Err fault) = fault

-- what is refused with a fault has it, unless memory ran out
fault_is : (A : Type 0) (o : Option AttrFault) (fault : AttrFault) → is_memory fault ≡ false
    → IfNone o (IsOkUnless {T = A} (Err fault) OutOfMemory) → IfSome o (Refuses {A = A} (Err fault)) → Some fault ≡ o
fault_is A None fault known none some = absurd (true≢false (sym (ap is_memory none) ∙ known))
fault_is A (Some g) fault known none (inl is) = cc
fault_is A (Some g) fault known none (inr memory) =
    let is : fault ≡ OutOfMemory = ap (error_in {A = A} OutOfMemory) memory.0 in
    absurd (true≢false (sym (ap is_memory is) ∙ known))

pub told_is : (A : Type 0) {E : Type 0} (o : Option AttrFault) (fault : AttrFault) (r : Result (Option AttrFault) E)
    → IfOk r (λ f. f ≡ Some fault) → OnOk r (is_memory fault ≡ false)
    → IfNone o (IsOkUnless {T = A} (Err fault) OutOfMemory) → IfSome o (Refuses {A = A} (Err fault)) → IfOk r (λ f. f ≡ o)
told_is A o fault (Ok f) value known none some = value ∙ fault_is A o fault known none some
told_is A o fault (Err e) value known none some = tt
