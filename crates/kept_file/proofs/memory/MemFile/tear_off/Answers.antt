use Rattle.std.proofs.Common.{rules, ◌≡◌, ◌++◌, ◌∷◌, [], drop}
use Rattle.std.specs.List.{Contains}
use Rattle.kept_file.proofs.MemoryLemmas.{left_push}
use Rattle.kept_file.proofs.memory.MemFile.tear_off.Goals as goal

pub returns-clause-left : goal.returns-clause-left
returns-clause-left c =
    let old = c.args.self.now in
    let seen : Contains (drop old.synced old.images) old.seen = search rules in
    let is : c.add.new.self ≡ record old { images = old.images ++ c.in_ok-front.front.items ∷ [] } = search rules in
    left_push old c.add.new.self c.in_ok-front.front.items seen is
