use Rattle.std.proofs.Common.{rules, ◌++◌, ℕ, List, sym, ap, ◌∙◌, subst, append_assoc}
use Rattle.std.proofs.lemmas.Bool.{both_ways}
use Rattle.std.specs.List.{flat_map}
use Rattle.entity_lines.specs.Items.{SpellsItem, item_lines}
use Rattle.entity_lines.specs.Resources.{SpellsResource, resource_line}
use Rattle.entity_model.specs.Entity.{EntityData}
use Rattle.entity_soundness.specs.Laws.{AreNumbered}
use Rattle.entity_snapshot.specs.Snapshots.{HasSnapshot, SpellsEach}
use Rattle.entity_snapshot.proofs.writing.push_behind.Goals as goal

pub returns-in_err-push_resources-clause-unkept : goal.returns-in_err-push_resources-clause-unkept
returns-in_err-push_resources-clause-unkept g c = λ fault has.
    let own = subst HasSnapshot (sym c.entity.view_is) has in
    both_ways _ (c.in_err-push_resources.ensures.unkept (search rules)) own.resources

pub returns-in_err-push_items-clause-unkept : goal.returns-in_err-push_items-clause-unkept
returns-in_err-push_items-clause-unkept g c = λ fault has.
    let own = subst HasSnapshot (sym c.entity.view_is) has in
    c.in_err-push_items.ensures.unkept (search rules) own.numbered own.each

pub returns-clause-written : goal.returns-clause-written
returns-clause-written g c =
    let nodes = g.T.Tree.nodes c.entity.inside.tree in
    let items = c.entity.inside.outbox.items in
    c.in_ok-push_items.ensures.written
    ∙ ap (λ (l : List ℕ). l ++ flat_map item_lines items) c.in_ok-push_resources.ensures.written
    ∙ append_assoc c.args.text.now.items (flat_map resource_line nodes) (flat_map item_lines items)
    ∙ ap (λ (e : EntityData). c.args.text.now.items ++ (flat_map resource_line e.nodes ++ flat_map item_lines e.items)) c.entity.view_is

pub returns-clause-resources : goal.returns-clause-resources
returns-clause-resources g c = subst (λ (e : EntityData). SpellsEach SpellsResource e.nodes (flat_map resource_line e.nodes)) c.entity.view_is c.in_ok-push_resources.ensures.spells

pub returns-clause-each : goal.returns-clause-each
returns-clause-each g c = subst (λ (e : EntityData). SpellsEach SpellsItem e.items (flat_map item_lines e.items)) c.entity.view_is c.in_ok-push_items.ensures.spells

pub returns-clause-numbered : goal.returns-clause-numbered
returns-clause-numbered g c = subst (λ (e : EntityData). AreNumbered 0 e.numbered e.items) c.entity.view_is c.in_ok-push_items.ensures.numbered
