use Rattle.std.proofs.Common.{rules, ◌≡◌, ◌≤◌, ◌/◌, List, length, take, subst, sym, arith}
use Rattle.std.proofs.lemmas.List.{length-take}
use Rattle.kept_file.specs.Crashes.{Overwrites, TornWrite}
use Rattle.kept_file.proofs.MemoryLemmas.{adds_on, adds_wider, torn_written}
use Rattle.kept_file.proofs.memory.MemFile.add_torn.Goals as goal

-- the half of it
pub returns-in_err-add_written-clause-adds : goal.returns-in_err-add_written-clause-adds
returns-in_err-add_written-clause-adds c =
    let bytes = c.args.bytes.now in
    let half = take (length bytes / 2) bytes in
    let few : length half ≤ length bytes = omega (arith, length-take (length bytes / 2) bytes) in
    adds_wider (λ old new. Overwrites old c.args.at half new) (TornWrite c.args.at (length bytes)) c.args.self.now c.add_written.new.self
    (λ x over. torn_written c.args.at (length bytes) c.args.self.now.seen half c.requires few x over) c.add_written.ensures.adds

-- and then another byte all over its place
pub returns-clause-adds : goal.returns-clause-adds
returns-clause-adds c =
    let bytes = c.args.bytes.now in
    let half = take (length bytes / 2) bytes in
    let few : length half ≤ length bytes = omega (arith, length-take (length bytes / 2) bytes) in
    let first = adds_wider (λ old new. Overwrites old c.args.at half new) (TornWrite c.args.at (length bytes)) c.args.self.now c.add_written.new.self
    (λ x over. torn_written c.args.at (length bytes) c.args.self.now.seen half c.requires few x over) c.add_written.ensures.adds in
    let mid = c.add_written.new.self in
    let same : mid.seen ≡ c.args.self.now.seen = c.add_written.ensures.seen in
    let other = c.deref.result.now in
    let as_many : length other ≤ length bytes = search rules in
    let within : c.args.at ≤ length mid.seen = subst (λ (s : List _). c.args.at ≤ length s) (sym same) c.requires in
    adds_on (TornWrite c.args.at (length bytes)) c.args.self.now mid c.add_written-2.new.self first same
    (adds_wider (λ old new. Overwrites old c.args.at other new) (TornWrite c.args.at (length bytes)) mid c.add_written-2.new.self
    (λ x over. torn_written c.args.at (length bytes) mid.seen other within as_many x over) c.add_written-2.ensures.adds)
