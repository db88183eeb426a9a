use Rattle.std.proofs.Common.{◌≡◌, ◌-◌, take, drop, length, ap, arith, length-drop}
use Rattle.std.proofs.lemmas.List.{take-append-drop, length-take-le, take_all}
use Rattle.primitive_replay.specs.Front.{end_of}
use Rattle.primitive_replay.proofs.LineLemmas.{end_missing}
use Rattle.primitive_replay.proofs.front.end_behind.Goals as goal

pub returns-clause-value : goal.returns-clause-value
returns-clause-value c =
    let bytes = c.args.bytes.now in
    let rest : take (length bytes - c.args.seen) (drop c.args.seen bytes) ≡ drop c.args.seen bytes =
    take_all (length bytes - c.args.seen) (drop c.args.seen bytes) (omega (arith, length-drop c.args.seen bytes)) in
    let seen = length-take-le c.args.seen bytes c.requires.within in
    let all = end_missing (take c.args.seen bytes) (drop c.args.seen bytes) c.requires.none in
    let whole = ap end_of (take-append-drop c.args.seen bytes) in
    omega (arith, seen, all, whole, ap end_of rest, c.end_of.ensures.value)
