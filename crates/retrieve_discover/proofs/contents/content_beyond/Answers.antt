use Rattle.std.proofs.Common.{◌≡◌, ap, ◌∙◌}
use Rattle.std.proofs.lemmas.Result.{IfOk-weaker}
use Rattle.m2m_names.specs.Name.{is_originator}
use Rattle.known_rights.specs.Askers.{AskerData}
use Rattle.retrieve_discover.specs.Contents.{content}
use Rattle.retrieve_discover.specs.Replies.{is_by_id}
use Rattle.retrieve_discover.proofs.contents.content_beyond.Goals as goal

pub content_for-requires-clause-originator : goal.content_for-requires-clause-originator
content_for-requires-clause-originator g c =
    ap (λ (a : AskerData). is_originator a.originator) c.in_ok-asker.ensures ∙ c.requires.originator

pub returns : goal.returns
returns g c =
    let nodes = g.T.Tree.nodes c.args.tree.now in
    let r = c.args.request.now in
    let a = c.in_ok-asker.asker in
    let shown = λ (b : AskerData). content b.home nodes b.originator (is_by_id r) r.rcn c.args.target.now in
    IfOk-weaker c.content_for.result (λ v. v ≡ shown a) (λ v. v ≡ content c.args.home.now nodes c.args.originator.now (is_by_id r) r.rcn c.args.target.now) (λ v is. is ∙ ap shown c.in_ok-asker.ensures) c.content_for.ensures
