use Rattle.std.proofs.Common.{◌≡◌, ◌++◌, List, Option, ℕ, OnOk, Ok, Err, ap, ◌∙◌, subst, filter}
use Rattle.std.proofs.lemmas.List.{append_assoc}
use Rattle.std.specs.List.{filter_map}
use Rattle.resource_model.specs.Resource.{ResourceData}
use Rattle.tree_model.specs.Changes.{ChangeData, change_of}
use Rattle.subscription_match.specs.Matching.{AreHeard, is_sub_of_either, own_of}
use Rattle.subscription_match.specs.Notices.{notices, told, told_to_all}
use Rattle.subscription_match.specs.declared.drafts.DraftParts.{DraftParts}
use Rattle.subscription_match.proofs.HeardLemmas.{found_so}
use Rattle.subscription_match.proofs.StepLemmas.{cost_of_telling}
use Rattle.subscription_match.proofs.WatchingLemmas.{told_heard}
use Rattle.subscription_match.proofs.noting.add_notes.Goals as goal

pub returns-in_err-found-clause-cost : goal.returns-in_err-found-clause-cost
returns-in_err-found-clause-cost g c =
    cost_of_telling (g.T.Tree.nodes c.args.tree.now) c.args.heard.now.entries (change_of c.args.change) c.heard_above-above.result c.args.steps.now c.add_told.new.steps
    c.heard_above-above.ensures c.add_told.ensures.cost

pub returns-in_err-note_heard-clause-cost : goal.returns-in_err-note_heard-clause-cost
returns-in_err-note_heard-clause-cost g c =
    cost_of_telling (g.T.Tree.nodes c.args.tree.now) c.args.heard.now.entries (change_of c.args.change) c.heard_above-above.result c.args.steps.now c.add_told.new.steps
    c.heard_above-above.ensures c.add_told.ensures.cost

pub returns-clause-cost : goal.returns-clause-cost
returns-clause-cost g c =
    cost_of_telling (g.T.Tree.nodes c.args.tree.now) c.args.heard.now.entries (change_of c.args.change) c.heard_above-above.result c.args.steps.now c.add_told.new.steps
    c.heard_above-above.ensures c.add_told.ensures.cost

pub returns-clause-told : goal.returns-clause-told
returns-clause-told g c =
    let home = c.args.home.now in
    let nodes : List ResourceData = g.T.Tree.nodes c.args.tree.now in
    let going : List ℕ = c.args.going.now in
    let change : ChangeData = change_of c.args.change in
    let before : List DraftParts = c.args.drafts.now.items in
    let subs : List ResourceData = filter (is_sub_of_either (own_of change) c.heard_above-above.result) nodes in
    let all : filter_map (told home nodes going change) subs ≡ told_to_all home nodes going change =
    told_heard home nodes subs going c.args.heard.now.entries change c.requires.heard (ap (λ (o : Option ℕ). filter (is_sub_of_either (own_of change) o) nodes) c.heard_above-above.ensures) in
    let front : c.add_told.new.drafts.items ≡ before ++ told_to_all home nodes going change =
    c.in_ok-found.ensures.told ∙ ap (λ (ds : List DraftParts). before ++ ds) all in
    let whole : c.add_told.new.drafts.items ++ notices home change ≡ before ++ (told_to_all home nodes going change ++ notices home change) =
    ap (λ (ds : List DraftParts). ds ++ notices home change) front ∙ append_assoc before (told_to_all home nodes going change) (notices home change) in
    subst (λ (ds : List DraftParts). OnOk c.add_notices.result (c.add_notices.new.drafts.items ≡ ds)) whole c.add_notices.ensures

pub returns-clause-heard : goal.returns-clause-heard
returns-clause-heard g c =
    let nodes : List ResourceData = g.T.Tree.nodes c.args.tree.now in
    let going : List ℕ = c.args.going.now in
    let change : ChangeData = change_of c.args.change in
    let found =
    found_so going nodes c.args.heard.now.entries change c.heard_above-above.result c.in_ok-found.found c.requires.heard c.heard_above-above.ensures c.in_ok-found.ensures.found in
    let heard : AreHeard going nodes c.note_heard.new.heard.entries =
    c.in_ok-note_heard.ensures going nodes c.requires.heard found in
    elim c.add_notices.result as (λ r. OnOk r (AreHeard going nodes c.note_heard.new.heard.entries)) [ Ok u ↦ heard | Err e ↦ tt ]
