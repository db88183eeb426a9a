-- What is done where nobody is served, and two of what is kept that are one.
use Rattle.std.proofs.Common.{◌≡◌, ◌∙◌, ℕ, List, Some, None, ap}
use Rattle.journal_file.specs.declared.journal.Journal.{Journal}
use Rattle.kept_object.specs.State.{KeptData}
use Rattle.m2m_io.specs.declared.status.Status.{Status}
use Rattle.cse_server.specs.Outside.{Outside}
use Rattle.journaled_cli.specs.Run.{StaysShut}

-- what the objects outside tell stays with the bench
pub shut_outside : {B : Type 0} (told : B → Outside) (old new : B) (status : Status) → StaysShut old new status → StaysShut (told old) (told new) status
shut_outside told old new status shut = record { status_is = shut.status_is; same = ap told shut.same }

pub no_fault : {A B : Type 0} {x : A} → None ≡ Some x → B
no_fault e = absurd cc

pub kept_same : {X F : Type 0} (a b : KeptData X F) → a.object ≡ b.object → a.journal ≡ b.journal → a.pending ≡ b.pending → a ≡ b
kept_same {X = X} {F = F} a b objects journals pendings =
    let made : X → Journal F → List ℕ → KeptData X F = λ x j p. record { object = x; journal = j; pending = p } in
    ap (λ (x : X). made x a.journal a.pending) objects
    ∙ (ap (λ (j : Journal F). made b.object j a.pending) journals ∙ ap (λ (p : List ℕ). made b.object b.journal p) pendings)
