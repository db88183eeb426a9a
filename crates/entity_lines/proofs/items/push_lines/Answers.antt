use Rattle.std.proofs.Common.{rules, ◌≡◌, ◌<◌, true, sym, ap, ◌∙◌, subst, arith}
use Rattle.std.proofs.lemmas.Bool.{both_ways}
use Rattle.primitive_json.specs.Notes.{IsSoundNote}
use Rattle.journal_lines.proofs.LineLemmas.{dated_spelled}
use Rattle.journal_lines.specs.Keeping.{can_be_kept}
use Rattle.journal_lines.specs.Lines.{IsReadBack, moment_bound}
use Rattle.journal_lines.specs.declared.deed.Deed.TheVariants.{Ask}
use Rattle.entity_lines.proofs.WrittenLemmas.{item_spells}
use Rattle.entity_lines.proofs.items.push_lines.Goals as goal

pub returns-clause-spells : goal.returns-clause-spells
returns-clause-spells c =
    let item = c.args.item.now in
    let sound = subst IsSoundNote c.parts.ensures.same c.parts.ensures.sound in
    let back = subst (λ n. IsReadBack (Ask n.request)) c.parts.ensures.same c.in_ok-push_dated.ensures.reads_back in
    item_spells item c.in_ok-push_tag.ensures.spells (dated_spelled item.since (Ask item.note.request) c.if-item-ge-MOMENT_BOUND.false back) sound

pub returns-then-item-ge-MOMENT_BOUND-clause-unkept : goal.returns-then-item-ge-MOMENT_BOUND-clause-unkept
returns-then-item-ge-MOMENT_BOUND-clause-unkept c = λ fault kept. (let since : c.args.item.now.since < moment_bound = kept.since in absurd (omega arith))

pub returns-in_err-push_tag-clause-unkept : goal.returns-in_err-push_tag-clause-unkept
returns-in_err-push_tag-clause-unkept c = λ fault kept. c.in_err-push_tag.ensures.unkept (search rules) kept.number kept.dest

pub returns-in_err-push_dated-clause-unkept : goal.returns-in_err-push_dated-clause-unkept
returns-in_err-push_dated-clause-unkept c = λ fault kept.
    both_ways _ (c.in_err-push_dated.ensures.unkept (search rules)) (ap (λ n. can_be_kept n.request) c.parts.ensures.same ∙ kept.request)
