use Rattle.std.proofs.Common.{rules, ◌≡◌, ◌<◌, ◌≤◌, ◌++◌, List, ℕ, length, sym, ap, ◌∙◌, subst, arith}
use Rattle.std.specs.List.{flat_map}
use Rattle.m2m_value.specs.Shapes.{largest_count}
use Rattle.entity_lines.specs.Heads.{head_line}
use Rattle.entity_lines.specs.Items.{item_lines}
use Rattle.entity_lines.specs.Resources.{resource_line}
use Rattle.entity_snapshot.specs.Snapshots.{SpellsEntity, entity_head, snapshot_of}
use Rattle.entity_snapshot.proofs.WrittenLemmas.{written_spells}
use Rattle.entity_snapshot.proofs.writing.snapshot_text.Goals as goal

pub returns-in_err-push_first-clause-unkept : goal.returns-in_err-push_first-clause-unkept
returns-in_err-push_first-clause-unkept g c = λ fault has.
    let few : length c.args.entity.now.items ≤ largest_count = has.few in
    let many : largest_count < length c.args.entity.now.items = c.in_err-push_first.ensures.unkept (search rules) in
    absurd (omega (arith, few, many))

pub returns-in_err-push_behind-clause-unkept : goal.returns-in_err-push_behind-clause-unkept
returns-in_err-push_behind-clause-unkept g c = λ fault has. c.in_err-push_behind.ensures.unkept (search rules) has

pub returns-clause-written : goal.returns-clause-written
returns-clause-written g c =
    let e = c.args.entity.now in
    let first : c.push_first.new.text.items ≡ head_line e.home (entity_head e) = search rules in
    c.in_ok-push_behind.ensures.written ∙ ap (λ (l : List ℕ). l ++ (flat_map resource_line e.nodes ++ flat_map item_lines e.items)) first

pub returns-clause-spells : goal.returns-clause-spells
returns-clause-spells g c =
    let e = c.args.entity.now in
    let first : c.push_first.new.text.items ≡ head_line e.home (entity_head e) = search rules in
    let is : c.push_behind.new.text.items ≡ snapshot_of e = c.in_ok-push_behind.ensures.written ∙ ap (λ (l : List ℕ). l ++ (flat_map resource_line e.nodes ++ flat_map item_lines e.items)) first in
    subst (SpellsEntity e) (sym is)
    (written_spells e c.in_ok-push_first.ensures.spells c.in_ok-push_behind.ensures.resources c.in_ok-push_behind.ensures.each c.in_ok-push_first.ensures.sound c.in_ok-push_behind.ensures.numbered c.in_ok-push_first.ensures.most)
