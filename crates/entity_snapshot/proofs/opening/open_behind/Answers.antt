use Rattle.std.proofs.Common.{◌≡◌, true, false, refl, sym, ◌∙◌, subst}
use Rattle.std.proofs.lemmas.Result.{err_from_is_err_and}
use Rattle.resource_model.specs.Home.{IsHome}
use Rattle.entity_snapshot.proofs.RefusalLemmas.{none_refused, refused_behind, refused_unsound}
use Rattle.entity_snapshot.proofs.SnapshotLemmas.{same_opened, sound_opened, spells_opened}
use Rattle.entity_snapshot.proofs.opening.open_behind.Goals as goal

pub returns-in_err-end-clause-refused : goal.returns-in_err-end-clause-refused
returns-in_err-end-clause-refused g c =
    let p = err_from_is_err_and c.from_residual.result c.from_residual.ensures.1 in
    rw (p.1, p.2) (refused_behind c.args.home c.args.text.now c.args.head _ c.requires.head c.in_err-end.ensures.fault)

pub returns-in_err-end-clause-only : goal.returns-in_err-end-clause-only
returns-in_err-end-clause-only g c = λ e front back spells own at.
    let p = err_from_is_err_and c.from_residual.result c.from_residual.ensures.1 in
    rw (p.1, p.2) (none_refused c.args.home c.args.text.now e front back spells own at _ (refused_behind c.args.home c.args.text.now c.args.head _ c.requires.head c.in_err-end.ensures.fault))

pub returns-then-not-are_sound-clause-refused : goal.returns-then-not-are_sound-clause-refused
returns-then-not-are_sound-clause-refused g c =
    let nodes = g.T.Tree.nodes c.read_behind.new.tree in
    refused_unsound c.args.home c.args.text.now c.args.head c.in_ok-end.end nodes c.read_behind.new.outbox.items c.requires.head c.in_ok-end.ensures.read (sym c.are_sound.ensures ∙ c.if-not-are_sound.true)

pub returns-then-not-are_sound-clause-only : goal.returns-then-not-are_sound-clause-only
returns-then-not-are_sound-clause-only g c = λ e front back spells own at.
    let nodes = g.T.Tree.nodes c.read_behind.new.tree in
    none_refused c.args.home c.args.text.now e front back spells own at _ (refused_unsound c.args.home c.args.text.now c.args.head c.in_ok-end.end nodes c.read_behind.new.outbox.items c.requires.head c.in_ok-end.ensures.read (sym c.are_sound.ensures ∙ c.if-not-are_sound.true))

pub invariant_of-entity : goal.invariant_of-entity
invariant_of-entity g c =
    let nodes = g.T.Tree.nodes c.read_behind.new.tree in
    sound_opened c.args.home c.args.home c.args.text.now c.args.head c.in_ok-end.end _ nodes c.read_behind.new.outbox.items refl (subst IsHome c.home.view_is c.home.invariant) c.in_ok-end.ensures.read c.in_ok-end.ensures.numbered (sym c.are_sound.ensures ∙ c.if-not-are_sound.false)

pub returns-clause-opens : goal.returns-clause-opens
returns-clause-opens g c =
    let nodes = g.T.Tree.nodes c.read_behind.new.tree in
    spells_opened c.args.home c.args.text.now c.args.head c.in_ok-end.end _ nodes c.read_behind.new.outbox.items (subst IsHome c.home.view_is c.home.invariant) c.requires.head c.in_ok-end.ensures.read c.in_ok-end.ensures.numbered (sym c.are_sound.ensures ∙ c.if-not-are_sound.false)

pub returns-clause-only : goal.returns-clause-only
returns-clause-only g c = λ e front back spells own at.
    let nodes = g.T.Tree.nodes c.read_behind.new.tree in
    same_opened c.args.home c.args.text.now c.args.head c.in_ok-end.end _ nodes c.read_behind.new.outbox.items c.requires.head c.in_ok-end.ensures.read c.in_ok-end.ensures.numbered e front back spells own at
