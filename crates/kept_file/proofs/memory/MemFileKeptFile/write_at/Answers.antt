use Rattle.std.proofs.Common.{length, ap}
use Rattle.kept_file.specs.Crashes.{TornWrite}
use Rattle.kept_file.specs.Memory.{FileData}
use Rattle.kept_file.proofs.MemoryLemmas.{adds_comes, adds_through, adds_time, torn_nothing}
use Rattle.kept_file.proofs.memory.MemFileKeptFile.write_at.Goals as goal

pub returns-clause-crash : goal.returns-clause-crash
returns-clause-crash c = λ told.
    let old = c.args.self.now in
    let begun = c.begin-fails.new.self in
    let new = c.finish.new.self in
    let n = length c.args.bytes.now in
    let after = c.begin-fails.ensures.after in
    let seen = c.begin-fails.ensures.left in
    let adds = adds_through (TornWrite c.args.at n) old begun c.tear-torn.new.self new (ap (λ (f : FileData). f.images) after)
    (ap (λ (f : FileData). f.seen) after) (ap (λ (f : FileData). f.synced) after) c.tear-torn.ensures.adds c.finish.ensures.images c.finish.ensures.synced in
    adds_comes (TornWrite c.args.at n) old new seen (torn_nothing c.args.at n) adds

pub returns-clause-time : goal.returns-clause-time
returns-clause-time c = λ told.
    let old = c.args.self.now in
    let begun = c.begin-fails.new.self in
    let new = c.finish.new.self in
    let n = length c.args.bytes.now in
    let after = c.begin-fails.ensures.after in
    let seen = c.begin-fails.ensures.left in
    let adds = adds_through (TornWrite c.args.at n) old begun c.tear-torn.new.self new (ap (λ (f : FileData). f.images) after)
    (ap (λ (f : FileData). f.seen) after) (ap (λ (f : FileData). f.synced) after) c.tear-torn.ensures.adds c.finish.ensures.images c.finish.ensures.synced in
    adds_time (TornWrite c.args.at n) old new seen adds
