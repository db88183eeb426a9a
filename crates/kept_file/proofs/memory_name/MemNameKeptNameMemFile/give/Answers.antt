use Rattle.std.proofs.Common.{List, ℕ, inl, refl, ap, sym, subst}
use Rattle.kept_file.specs.Memory.{Adds, FileData}
use Rattle.kept_file.proofs.MemoryLemmas.{adds_comes, adds_through, adds_time}
use Rattle.kept_file.specs.Crashes.{Replaces}
use Rattle.kept_file.proofs.memory_name.MemNameKeptNameMemFile.give.Goals as goal

pub returns-clause-crash : goal.returns-clause-crash
returns-clause-crash c = λ told.
    let old = c.args.self.now in
    let begun = c.begin-fails.new.self in
    let new = c.finish.new.self in
    let step = Replaces c.args.file.now.seen in
    let after = c.begin-fails.ensures.after in
    let seen = c.begin-fails.ensures.left in
    let added = subst (λ (b : List ℕ). Adds (Replaces b) begun c.add_given-given.new.self) c.seen.ensures c.add_given-given.ensures.adds in
    let adds = adds_through step old begun c.add_given-given.new.self new (ap (λ (f : FileData). f.images) after)
    (ap (λ (f : FileData). f.seen) after) (ap (λ (f : FileData). f.synced) after) added c.finish.ensures.images c.finish.ensures.synced in
    adds_comes step old new seen (λ d. inl refl) adds

pub returns-clause-time : goal.returns-clause-time
returns-clause-time c = λ told.
    let old = c.args.self.now in
    let begun = c.begin-fails.new.self in
    let new = c.finish.new.self in
    let step = Replaces c.args.file.now.seen in
    let after = c.begin-fails.ensures.after in
    let seen = c.begin-fails.ensures.left in
    let added = subst (λ (b : List ℕ). Adds (Replaces b) begun c.add_given-given.new.self) c.seen.ensures c.add_given-given.ensures.adds in
    let adds = adds_through step old begun c.add_given-given.new.self new (ap (λ (f : FileData). f.images) after)
    (ap (λ (f : FileData). f.seen) after) (ap (λ (f : FileData). f.synced) after) added c.finish.ensures.images c.finish.ensures.synced in
    adds_time step old new seen adds
