use Rattle.std.proofs.Common.{◌≡◌, length, drop, ap, ◌∙◌, arith}
use Rattle.std.proofs.lemmas.List.{length-drop, length-take-le}
use Rattle.notify_outbox.proofs.LateLemmas.{taken_behind}
use Rattle.notify_outbox.proofs.late.take_at.Goals as goal

pub join_items-requires : goal.join_items-requires
join_items-requires c =
    let within = c.requires.within in
    let front : length c.cut_behind-behind.new.late ≡ c.args.place = ap length c.cut_behind-behind.ensures.front ∙ length-take-le c.args.place c.args.late.now within in
    let behind : length c.cut_behind-behind.result ≡ length (drop c.args.place c.args.late.now) = ap length c.cut_behind-behind.ensures.behind in
    let all = length-drop c.args.place c.args.late.now in
    let rest : length c.pop_front-item.new.self ≡ length (drop 1 c.cut_behind-behind.result) = ap length c.pop_front-item.ensures.rest in
    let less = length-drop 1 c.cut_behind-behind.result in
    let short = c.requires.short in
    omega (arith, front, behind, all, rest, less, short, within)

pub returns-clause-item : goal.returns-clause-item
returns-clause-item c =
    taken_behind c.pop_front-item.result c.args.late.now c.cut_behind-behind.result c.pop_front-item.new.self c.args.place
    c.cut_behind-behind.ensures.behind c.pop_front-item.ensures.items c.pop_front-item.ensures.variant
