use Rattle.std.proofs.Common.{rules, ◌≡◌, ◌++◌, ◌∷◌, [], List, inr, refl, drop}
use Rattle.std.specs.List.{Contains}
use Rattle.kept_file.proofs.MemoryLemmas.{adds_push, left_push}
use Rattle.kept_file.specs.Crashes.{Replaces}
use Rattle.kept_file.proofs.memory_name.MemName.add_given.Goals as goal

pub returns-clause-left : goal.returns-clause-left
returns-clause-left c =
    let old = c.args.self.now in
    let seen : Contains (drop old.synced old.images) old.seen = search rules in
    let image : c.in_ok-image.image.items ≡ c.in_ok-given.given.items = search rules in
    let is : c.add.new.self ≡ record old { images = old.images ++ c.in_ok-given.given.items ∷ [] } = search rules in
    left_push old c.add.new.self c.in_ok-given.given.items seen is

pub returns-clause-adds : goal.returns-clause-adds
returns-clause-adds c =
    let old = c.args.self.now in
    let is : c.add.new.self ≡ record old { images = old.images ++ c.args.bytes.now ∷ [] } = search rules in
    adds_push (Replaces c.args.bytes.now) old c.add.new.self c.args.bytes.now (inr refl) is
