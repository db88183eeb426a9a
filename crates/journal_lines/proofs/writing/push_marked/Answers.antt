use Rattle.std.proofs.Common.{◌≡◌, true, sym, ◌∙◌}
use Rattle.std.proofs.lemmas.Bool.{and_parts}
use Rattle.journal_lines.specs.Keeping.{can_be_kept, is_of_kinds, is_shallow}
use Rattle.journal_lines.proofs.LineLemmas.{kept_reads}
use Rattle.journal_lines.proofs.writing.push_marked.Goals as goal

pub push_lines-requires-clause-kinds : goal.push_lines-requires-clause-kinds
push_lines-requires-clause-kinds c =
    let can : can_be_kept c.args.request.now ≡ true = sym c.can_be_kept.ensures ∙ c.if-not-can_be_kept.false in
    (and_parts (is_of_kinds c.args.request.now) (is_shallow c.args.request.now) can).0

pub returns-clause-reads_back : goal.returns-clause-reads_back
returns-clause-reads_back c =
    let can : can_be_kept c.args.request.now ≡ true = sym c.can_be_kept.ensures ∙ c.if-not-can_be_kept.false in
    kept_reads c.args.request.now can c.in_ok-push_lines.ensures.sound
