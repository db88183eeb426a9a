use Rattle.std.proofs.Common.{◌≡◌, List, [], Bool, length, rules, sym, ap, ◌∙◌}
use Rattle.std.specs.List.{items_where_true}
use Rattle.resource_model.specs.Resource.{ResourceData}
use Rattle.subscription_match.specs.Spending.{marks_after}
use Rattle.subscription_match.specs.declared.drafts.DraftParts.{DraftParts}
use Rattle.subscription_match.proofs.MarkLemmas.{marked_kept, marks_each}
use Rattle.subscription_match.proofs.UncountedLemmas.{none_in_order}
use Rattle.subscription_match.proofs.spending.spend.Goals as goal

pub put_marked-requires-clause-each : goal.put_marked-requires-clause-each
put_marked-requires-clause-each g c =
    let nodes : List ResourceData = g.T.Tree.nodes c.args.tree.now in
    let drafts : List DraftParts = c.args.drafts.now.items in
    let marks : c.deref-3.result.now ≡ marks_after nodes [] drafts = search rules in
    let all : c.replace-all.result.items ≡ drafts = search rules in
    ap (λ (bs : List Bool). length bs) marks ∙ marks_each nodes [] drafts ∙ ap (λ (ds : List DraftParts). length ds) (sym all)

pub returns-clause-kept : goal.returns-clause-kept
returns-clause-kept g c =
    let nodes : List ResourceData = g.T.Tree.nodes c.args.tree.now in
    let drafts : List DraftParts = c.args.drafts.now.items in
    let marks : c.deref-3.result.now ≡ marks_after nodes [] drafts = search rules in
    let all : c.replace-all.result.items ≡ drafts = search rules in
    c.put_marked.ensures
    ∙ ap (λ (bs : List Bool). items_where_true bs c.replace-all.result.items) marks
    ∙ ap (λ (ds : List DraftParts). items_where_true (marks_after nodes [] drafts) ds) all
    ∙ marked_kept nodes [] drafts

pub returns-then-not-is_any_counted-clause-order : goal.returns-then-not-is_any_counted-clause-order
returns-then-not-is_any_counted-clause-order g c = none_in_order c.new.result.items c.new.ensures.items
