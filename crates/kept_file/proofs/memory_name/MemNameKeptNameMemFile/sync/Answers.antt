use Rattle.std.proofs.Common.{◌≡◌, ◌++◌, ◌∷◌, [], length, ap, sym, subst, ◌∙◌}
use Rattle.kept_file.specs.Memory.{FileData, MayLeave}
use Rattle.kept_file.proofs.MemoryLemmas.{settled_only, settled_time}
use Rattle.kept_file.proofs.memory_name.MemNameKeptNameMemFile.sync.Goals as goal

pub returns-in-Ok-clause-crash : goal.returns-in-Ok-clause-crash
returns-in-Ok-clause-crash c = λ told b left.
    let old = c.args.self.now in
    let new = c.settle.new.self in
    let after = c.begin.ensures.after in
    let images : new.images ≡ old.images ++ old.seen ∷ [] =
    ap (λ (f : FileData). f.images) c.in-Ok.ensures.ok ∙ ap (λ (f : FileData). f.images ++ f.seen ∷ []) after in
    let synced : new.synced ≡ length old.images =
    ap (λ (f : FileData). f.synced) c.in-Ok.ensures.ok ∙ ap (λ (f : FileData). length f.images) after in
    subst (MayLeave old) (sym (settled_only old new images synced b left)) c.begin.ensures.left

pub returns-in-Ok-clause-time : goal.returns-in-Ok-clause-time
returns-in-Ok-clause-time c = λ told.
    let old = c.args.self.now in
    let new = c.settle.new.self in
    let after = c.begin.ensures.after in
    let images : new.images ≡ old.images ++ old.seen ∷ [] =
    ap (λ (f : FileData). f.images) c.in-Ok.ensures.ok ∙ ap (λ (f : FileData). f.images ++ f.seen ∷ []) after in
    let synced : new.synced ≡ length old.images =
    ap (λ (f : FileData). f.synced) c.in-Ok.ensures.ok ∙ ap (λ (f : FileData). length f.images) after in
    settled_time old new images synced c.begin.ensures.left
