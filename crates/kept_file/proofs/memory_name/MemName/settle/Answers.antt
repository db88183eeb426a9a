use Rattle.std.proofs.Common.{rules, ◌≡◌, ◌++◌, ◌∷◌, [], ℕ, Vec, length, drop, sym, ap, subst, arith}
use Rattle.std.proofs.lemmas.List.{length-map}
use Rattle.std.specs.List.{Contains}
use Rattle.std.specs.declared.alloc.Global.{Global}
use Rattle.kept_file.specs.Memory.{contents}
use Rattle.kept_file.proofs.MemoryLemmas.{left_last}
use Rattle.kept_file.proofs.memory_name.MemName.settle.Goals as goal

pub invariant_of-self : goal.invariant_of-self
invariant_of-self c =
    let old = c.args.self.now in
    let images : contents c.self-2.inside.images.items ≡ old.images ++ old.seen ∷ [] = search rules in
    let seen : c.self-2.inside.seen.items ≡ old.seen = search rules in
    let before : old.images ≡ contents c.self.inside.images.items = search rules in
    let many : c.len-synced.result ≡ length old.images =
    omega (arith, c.len-synced.ensures, length-map c.self.inside.images.items (λ (v : Vec ℕ Global). v.items), ap length before) in
    subst (λ s. Contains (drop c.len-synced.result (contents c.self-2.inside.images.items)) s) (sym seen)
    (subst (λ xs. Contains (drop c.len-synced.result xs) old.seen) (sym images)
    (left_last old.images c.len-synced.result old.seen (omega (arith, many))))
