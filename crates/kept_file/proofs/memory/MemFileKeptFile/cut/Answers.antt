use Rattle.std.proofs.Common.{ap}
use Rattle.kept_file.specs.Crashes.{TornCut}
use Rattle.kept_file.specs.Memory.{FileData}
use Rattle.kept_file.proofs.MemoryLemmas.{adds_comes, adds_through, adds_time, cut_nothing}
use Rattle.kept_file.proofs.memory.MemFileKeptFile.cut.Goals as goal

pub returns-clause-crash : goal.returns-clause-crash
returns-clause-crash c = λ told.
    let old = c.args.self.now in
    let begun = c.begin-fails.new.self in
    let new = c.finish.new.self in
    let after = c.begin-fails.ensures.after in
    let seen = c.begin-fails.ensures.left in
    let adds = adds_through (TornCut c.args.len) old begun c.tear_off-torn.new.self new (ap (λ (f : FileData). f.images) after)
    (ap (λ (f : FileData). f.seen) after) (ap (λ (f : FileData). f.synced) after) c.tear_off-torn.ensures.adds c.finish.ensures.images c.finish.ensures.synced in
    adds_comes (TornCut c.args.len) old new seen (cut_nothing c.args.len) adds

pub returns-clause-time : goal.returns-clause-time
returns-clause-time c = λ told.
    let old = c.args.self.now in
    let begun = c.begin-fails.new.self in
    let new = c.finish.new.self in
    let after = c.begin-fails.ensures.after in
    let seen = c.begin-fails.ensures.left in
    let adds = adds_through (TornCut c.args.len) old begun c.tear_off-torn.new.self new (ap (λ (f : FileData). f.images) after)
    (ap (λ (f : FileData). f.seen) after) (ap (λ (f : FileData). f.synced) after) c.tear_off-torn.ensures.adds c.finish.ensures.images c.finish.ensures.synced in
    adds_time (TornCut c.args.len) old new seen adds
