use Rattle.std.proofs.Common.{inl, refl, ap}
use Rattle.kept_file.specs.Crashes.{Replaces}
use Rattle.kept_file.specs.Memory.{FileData}
use Rattle.kept_file.proofs.MemoryLemmas.{adds_comes, adds_through, adds_time}
use Rattle.kept_file.proofs.memory.MemFileNamedFile.replace.Goals as goal

pub returns-in_err-finish-clause-crash : goal.returns-in_err-finish-clause-crash
returns-in_err-finish-clause-crash c = λ told.
    let old = c.args.self.now in
    let begun = c.begin-fails.new.self in
    let new = c.finish.new.self in
    let step = Replaces c.args.bytes.now in
    let after = c.begin-fails.ensures.after in
    let seen = c.begin-fails.ensures.left in
    let adds = adds_through step old begun c.add_given.new.self new (ap (λ (f : FileData). f.images) after)
    (ap (λ (f : FileData). f.seen) after) (ap (λ (f : FileData). f.synced) after) c.add_given.ensures.adds c.finish.ensures.images c.finish.ensures.synced in
    adds_comes step old new seen (λ d. inl refl) adds

pub returns-in_err-finish-clause-time : goal.returns-in_err-finish-clause-time
returns-in_err-finish-clause-time c = λ told.
    let old = c.args.self.now in
    let begun = c.begin-fails.new.self in
    let new = c.finish.new.self in
    let step = Replaces c.args.bytes.now in
    let after = c.begin-fails.ensures.after in
    let seen = c.begin-fails.ensures.left in
    let adds = adds_through step old begun c.add_given.new.self new (ap (λ (f : FileData). f.images) after)
    (ap (λ (f : FileData). f.seen) after) (ap (λ (f : FileData). f.synced) after) c.add_given.ensures.adds c.finish.ensures.images c.finish.ensures.synced in
    adds_time step old new seen adds

pub returns-clause-crash : goal.returns-clause-crash
returns-clause-crash c = λ told.
    let old = c.args.self.now in
    let begun = c.begin-fails.new.self in
    let new = c.finish.new.self in
    let step = Replaces c.args.bytes.now in
    let after = c.begin-fails.ensures.after in
    let seen = c.begin-fails.ensures.left in
    let adds = adds_through step old begun c.add_given.new.self new (ap (λ (f : FileData). f.images) after)
    (ap (λ (f : FileData). f.seen) after) (ap (λ (f : FileData). f.synced) after) c.add_given.ensures.adds c.finish.ensures.images c.finish.ensures.synced in
    adds_comes step old new seen (λ d. inl refl) adds

pub returns-clause-time : goal.returns-clause-time
returns-clause-time c = λ told.
    let old = c.args.self.now in
    let begun = c.begin-fails.new.self in
    let new = c.finish.new.self in
    let step = Replaces c.args.bytes.now in
    let after = c.begin-fails.ensures.after in
    let seen = c.begin-fails.ensures.left in
    let adds = adds_through step old begun c.add_given.new.self new (ap (λ (f : FileData). f.images) after)
    (ap (λ (f : FileData). f.seen) after) (ap (λ (f : FileData). f.synced) after) c.add_given.ensures.adds c.finish.ensures.images c.finish.ensures.synced in
    adds_time step old new seen adds
