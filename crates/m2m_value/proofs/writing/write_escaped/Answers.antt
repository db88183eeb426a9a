use Rattle.std.proofs.Common.{◌++◌, ◌+◌, ◌<◌, length, drop, flat_map, sym, ap, ◌∙◌, arith, rules, append-nil}
use Rattle.std.proofs.lemmas.List.{drop_all}
use Rattle.m2m_value.specs.Spelling.{escaped}
use Rattle.m2m_value.proofs.Begins.{begins_after}
use Rattle.m2m_value.proofs.Escapes.{up_to_stop, from_stop, then_left}
use Rattle.m2m_value.proofs.writing.write_escaped.Goals as goal

pub returns-then-stop-text-clause-ok : goal.returns-then-stop-text-clause-ok
returns-then-stop-text-clause-ok c =
    let text = c.args.text.now in
    let stop = c.plain_end-stop.result in
    let front = then_left _ _ _ _ (flat_map escaped (drop stop text)) _ c.in_ok-extend_from_slice.ensures.items (up_to_stop text c.loop-out.at stop c.plain_end-stop.ensures.within c.plain_end-stop.ensures.plain) c.loop-out.invariant.1 in
    let none = drop_all stop text (omega arith) in
    sym (append-nil _) ∙ ap (λ rest. c.extend_from_slice.new.self.items ++ flat_map escaped rest) (sym none) ∙ front

pub loop-out-preserved : goal.loop-out-preserved
loop-out-preserved c =
    let text = c.args.text.now in
    let stop = c.plain_end-stop.result in
    let below : stop < length text = search rules in
    let put = c.in_ok-extend_from_slice.ensures.items in
    let front = then_left _ _ _ _ (flat_map escaped (drop stop text)) _ put (up_to_stop text c.loop-out.at stop c.plain_end-stop.ensures.within c.plain_end-stop.ensures.plain) c.loop-out.invariant.1 in
    let byte = c.in_ok-write_byte.ensures.ok in (
      omega arith,
      then_left _ _ _ _ (flat_map escaped (drop (stop + 1) text)) _ byte (from_stop text stop below) front,
      begins_after _ _ _ c.loop-out.invariant.2 (begins_after _ _ _ (_, put) (_, byte)),
    )
