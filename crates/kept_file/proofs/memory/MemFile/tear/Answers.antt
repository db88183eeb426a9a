use Rattle.std.proofs.Common.{rules, ◌≡◌, ◌≤◌, ◌++◌, ◌∷◌, [], List, length, drop, subst, sym, arith}
use Rattle.std.specs.List.{Contains}
use Rattle.kept_file.specs.Crashes.{Overwrites, TornWrite}
use Rattle.kept_file.proofs.MemoryLemmas.{adds_on, adds_push, left_push, torn_written}
use Rattle.kept_file.proofs.memory.MemFile.tear.Goals as goal

pub returns-clause-left : goal.returns-clause-left
returns-clause-left c =
    let mid = c.add_torn.new.self in
    let seen : Contains (drop mid.synced mid.images) mid.seen = search rules in
    let is : c.add.new.self ≡ record mid { images = mid.images ++ c.in_ok-whole.whole.items ∷ [] } = search rules in
    left_push mid c.add.new.self c.in_ok-whole.whole.items seen is

pub returns-clause-adds : goal.returns-clause-adds
returns-clause-adds c =
    let mid = c.add_torn.new.self in
    let whole = c.in_ok-whole.whole.items in
    let n = length c.args.bytes.now in
    let is : c.add.new.self ≡ record mid { images = mid.images ++ whole ∷ [] } = search rules in
    let same : mid.seen ≡ c.args.self.now.seen = c.add_torn.ensures.seen in
    let within : c.args.at ≤ length mid.seen = subst (λ (s : List _). c.args.at ≤ length s) (sym same) c.requires in
    let over : Overwrites mid.seen c.args.at c.args.bytes.now whole = search rules in
    let few : n ≤ n = omega arith in
    adds_on (TornWrite c.args.at n) c.args.self.now mid c.add.new.self c.add_torn.ensures.adds same
    (adds_push (TornWrite c.args.at n) mid c.add.new.self whole (torn_written c.args.at n mid.seen c.args.bytes.now within few whole over) is)
