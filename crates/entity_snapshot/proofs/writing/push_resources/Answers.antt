use Rattle.std.proofs.Common.{rules, ◌≡◌, ℕ, List, [], ◌∷◌, sym, subst}
use Rattle.resource_model.specs.Resource.{ResourceData}
use Rattle.entity_lines.specs.Resources.{SpellsResource, is_readable, resource_line}
use Rattle.entity_snapshot.proofs.WrittenLemmas.{HasPushed, one_fails, push_all, push_more, push_none}
use Rattle.entity_snapshot.proofs.writing.push_resources.Goals as goal

pub loop-resource-init : goal.loop-resource-init
loop-resource-init g c =
    let nodes = g.T.Tree.nodes c.args.tree.now in
    let text = c.args.text.now.items in
    let start : c.into_iter-resource-iterator.result ≡ nodes = search rules in
    subst (λ (left : List ResourceData). HasPushed resource_line SpellsResource nodes left text text) (sym start) (push_none resource_line SpellsResource nodes text)

pub loop-resource-preserved : goal.loop-resource-preserved
loop-resource-preserved g c =
    let nodes = g.T.Tree.nodes c.args.tree.now in
    let start = c.args.text.now.items in
    let text = c.loop-resource.text.items in
    let r = c.in-Some.resource.now in
    let pushed = subst (λ (left : List ResourceData). HasPushed resource_line SpellsResource nodes left start text) c.in-Some.ensures.steps c.loop-resource.invariant in
    push_more resource_line SpellsResource nodes c.next.new.self start text c.push_resource.new.text.items r pushed c.in_ok-push_resource.ensures.written c.in_ok-push_resource.ensures.spells

pub returns-in_err-push_resource-clause-unkept : goal.returns-in_err-push_resource-clause-unkept
returns-in_err-push_resource-clause-unkept g c = λ fault.
    let nodes = g.T.Tree.nodes c.args.tree.now in
    let start = c.args.text.now.items in
    let text = c.loop-resource.text.items in
    let r = c.in-Some.resource.now in
    let pushed = subst (λ (left : List ResourceData). HasPushed resource_line SpellsResource nodes left start text) c.in-Some.ensures.steps c.loop-resource.invariant in
    one_fails is_readable nodes pushed.done c.next.new.self r pushed.split (c.in_err-push_resource.ensures.unkept (search rules))

pub returns-clause-written : goal.returns-clause-written
returns-clause-written g c =
    let nodes = g.T.Tree.nodes c.args.tree.now in
    let start = c.args.text.now.items in
    let text = c.loop-resource.text.items in
    (push_all resource_line SpellsResource nodes start text (subst (λ (left : List ResourceData). HasPushed resource_line SpellsResource nodes left start text) c.in-None.ensures.steps.0 c.loop-resource.invariant)).0

pub returns-clause-spells : goal.returns-clause-spells
returns-clause-spells g c =
    let nodes = g.T.Tree.nodes c.args.tree.now in
    let start = c.args.text.now.items in
    let text = c.loop-resource.text.items in
    (push_all resource_line SpellsResource nodes start text (subst (λ (left : List ResourceData). HasPushed resource_line SpellsResource nodes left start text) c.in-None.ensures.steps.0 c.loop-resource.invariant)).1
