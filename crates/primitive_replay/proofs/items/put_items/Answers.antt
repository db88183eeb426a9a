use Rattle.std.proofs.Common.{◌∙◌, option_map, sym, ap}
use Rattle.m2m_io.specs.declared.status.Status.TheVariants.{WriteFault}
use Rattle.notify_outbox.specs.declared.item.Item.{Item}
use Rattle.primitive_replay.proofs.ItemLemmas.{front_all, front_ends, front_more, fewer, is_none, taken_first, taken_none}
use Rattle.primitive_replay.proofs.TurnLemmas.{ended_at_line, none_said}
use Rattle.primitive_replay.proofs.items.put_items.Goals as goal

pub returns-in-Some-put_note-clause-said : goal.returns-in-Some-put_note-clause-said
returns-in-Some-put_note-clause-said g c =
    let first = taken_first c.items.outbox.items c.in-Some.item.note (ap (option_map (λ (i : Item). i.note)) (sym c.take_item.ensures.item ∙ c.in-Some.is)) in
    front_ends c.in-Some-put_note.status c.args.outbox.now.items c.items.outbox.items _ first.0 c.in-Some.item.note _ _ _ first.1 first.2
    c.items.invariant.front c.in-Some-put_note.ensures.said

pub returns-in-Some-put_note-clause-writes : goal.returns-in-Some-put_note-clause-writes
returns-in-Some-put_note-clause-writes g c =
    ended_at_line WriteFault c.in-Some-put_note.status _ _ _ c.items.invariant.write_steady c.in-Some-put_note.ensures.writes

pub items-smaller : goal.items-smaller
items-smaller g c =
    let first = taken_first c.items.outbox.items c.in-Some.item.note (ap (option_map (λ (i : Item). i.note)) (sym c.take_item.ensures.item ∙ c.in-Some.is)) in
    fewer c.items.outbox.items _ first.0 _ first.1 (ap (λ o. o.items) c.take_item.ensures.rest)

pub items-preserved : goal.items-preserved
items-preserved g c =
    let first = taken_first c.items.outbox.items c.in-Some.item.note (ap (option_map (λ (i : Item). i.note)) (sym c.take_item.ensures.item ∙ c.in-Some.is)) in
    let on = c.in_default-put_note.not-Some in
    record {
      front = front_more c.args.outbox.now.items c.items.outbox.items _ first.0 c.in-Some.item.note _ _ _ first.1 first.2 _ (ap (λ o. o.items) c.take_item.ensures.rest)
          c.items.invariant.front (none_said c.put_note.result _ _ _ on c.put_note.ensures.said);
      write_steady = c.put_note.ensures.writes.steady (on WriteFault) ∙ c.items.invariant.write_steady;
    }

pub returns-clause-said : goal.returns-clause-said
returns-clause-said g c =
    front_all c.args.outbox.now.items c.items.outbox.items _ _ (taken_none c.items.outbox.items (ap (option_map (λ (i : Item). i.note)) (sym c.take_item.ensures.item ∙ is_none c.take_item.result c.in_default.not-Some))) c.items.invariant.front
