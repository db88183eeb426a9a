-- What a call that ends by another one does to a count of faults, and what a fault is that is handed on.
use Rattle.std.proofs.Common.{◌≡◌, ◌≢◌, ℕ, ◌≤◌, Ok, Err, refl, sym, ap, ◌∙◌, subst, arith}
use Rattle.std.specs.Result.{IfErr, IsErrAnd, MatchResult}
use Rattle.std.specs.declared.result.Result.{Result}
use Rattle.m2m_io.specs.Counts.{CountsFault, CountsFaults, Rose}

pub err_same : {T E : Type 0} (r : Result T E) (a b : E) → r ≡ Err a → r ≡ Err b → a ≡ b
err_same r a b one two = cc

ok_err : {T E : Type 0} (r : Result T E) (t : T) (e : E) → r ≡ Ok t → r ≡ Err e → ⊥
ok_err r t e one two = cc

-- the fault is handed on
pub counts_on : {T U E : Type 0} (r : Result T E) (s : Result U E) (fault e : E) (before now : ℕ) → r ≡ Err e → s ≡ Err e → CountsFault fault r before now
    → CountsFault fault s before now
counts_on r s fault e before now one two counts = record {
  count = counts.count;
  cause = λ is. counts.cause (one ∙ ap Err (err_same s e fault two is));
  steady = λ no. counts.steady (λ is. no (two ∙ ap Err (err_same r e fault one is)));
}

-- a success, and then another fault or none
pub counts_none : {T U E : Type 0} (r : Result T E) (s : Result U E) (fault : E) (before now : ℕ) → r ≢ Err fault → s ≢ Err fault → CountsFault fault r before now
    → CountsFault fault s before now
counts_none r s fault before now one two counts = record {
  count = counts.count;
  cause = λ is. absurd (two is);
  steady = λ no. counts.steady one;
}

-- a success, and then a call that counts
pub counts_then : {T U E : Type 0} (r : Result T E) (s : Result U E) (fault : E) (before mid now : ℕ) → r ≢ Err fault → CountsFault fault r before mid
    → CountsFault fault s mid now → CountsFault fault s before now
counts_then r s fault before mid now one first last =
    let still : mid ≡ before = first.steady one in
    record {
      count = omega (arith, still, last.count);
      cause = λ is. subst (λ n. Rose n now) still (last.cause is);
      steady = λ no. last.steady no ∙ still;
    }

-- a success, and then this fault
pub counts_last : {T U V E D : Type 0} (r : Result T E) (q : Result V D) (s : Result U E) (fault : E) (d : D) (before mid now : ℕ) → r ≢ Err fault → q ≡ Err d → s ≡ Err fault
    → CountsFault fault r before mid → CountsFaults q mid now → CountsFault fault s before now
counts_last r q s fault d before mid now one err is first last =
    let still : mid ≡ before = first.steady one in
    let rose : Rose mid now = (subst (λ x. CountsFaults x mid now) err last).cause in
    record {
      count = omega (arith, still, last.count);
      cause = λ said. subst (λ n. Rose n now) still rose;
      steady = λ no. absurd (no is);
    }

-- successes alone
pub counts_all : {T U V E D : Type 0} (r : Result T E) (q : Result V D) (s : Result U E) (fault : E) (v : V) (before mid now : ℕ) → r ≢ Err fault → q ≡ Ok v → s ≢ Err fault
    → CountsFault fault r before mid → CountsFaults q mid now → CountsFault fault s before now
counts_all r q s fault v before mid now one ok none first last =
    let still : mid ≡ before = first.steady one in
    let steady : now ≡ mid = (subst (λ x. CountsFaults x mid now) ok last).steady in
    record {
      count = omega (arith, still, last.count);
      cause = λ said. absurd (none said);
      steady = λ no. steady ∙ still;
    }

pub ok_no_err : {T E : Type 0} (r : Result T E) (t : T) (fault : E) → r ≡ Ok t → r ≢ Err fault
ok_no_err r t fault ok err = ok_err r t fault ok err

-- ---- what a `?` hands on

pub passed_up : {T E : Type 0} (r : Result T E) (e : E) (P : E → Type 0) → IsErrAnd r (λ y. y ≡ e) → P e → IfErr r P
passed_up (Ok x) e P is said = tt
passed_up (Err y) e P is said = subst P (sym is) said

pub passed_match : {T E : Type 0} (r : Result T E) (e : E) (P : T → Type 0) (Q : E → Type 0) → IsErrAnd r (λ y. y ≡ e) → Q e → MatchResult r P Q
passed_match (Ok x) e P Q is said = absurd is
passed_match (Err y) e P Q is said = subst Q (sym is) said

pub passed_is : {T E : Type 0} (r : Result T E) (e : E) → IsErrAnd r (λ y. y ≡ e) → r ≡ Err e
passed_is (Ok x) e is = absurd is
passed_is (Err y) e is = ap Err is
