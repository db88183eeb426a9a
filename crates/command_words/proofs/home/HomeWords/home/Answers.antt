use Rattle.std.proofs.Common.{Err, sym, ap, ◌∙◌, w64, rules}
use Rattle.std.proofs.lemmas.Int.{to_z-of_z}
use Rattle.command_words.specs.Reading.{home_by}
use Rattle.command_words.proofs.HomeLemmas.{not_admitted, all_admitted, same_home}
use Rattle.command_words.proofs.home.HomeWords.home.Goals as goal

pub returns-in-Err-Bad-clause-reads : goal.returns-in-Err-Bad-clause-reads
returns-in-Err-Bad-clause-reads c =
    let said = (c.new.ensures.bad c.in-Err-Bad.place).0 (c.in-Err-Bad.is ∙ ap Err c.in-Err-Bad.field-0-is) in
    let same = same_home _ c.args.self.sp.now _ c.args.self.csi.now _ c.args.self.base.now _ c.args.self.cst _ c.args.self.admin.now
    c.as_bytes-sp.ensures.value c.as_bytes-csi.ensures.value c.as_bytes-base.ensures.value
    (to_z-of_z w64 c.args.self.cst (search rules)) c.as_bytes.ensures.value in
    not_admitted (home_by c.args.self) c.in-Err-Bad.place (sym same ∙ said)

pub returns-in-Err-OutOfMemory-clause-memory : goal.returns-in-Err-OutOfMemory-clause-memory
returns-in-Err-OutOfMemory-clause-memory c =
    let same = same_home _ c.args.self.sp.now _ c.args.self.csi.now _ c.args.self.base.now _ c.args.self.cst _ c.args.self.admin.now
    c.as_bytes-sp.ensures.value c.as_bytes-csi.ensures.value c.as_bytes-base.ensures.value
    (to_z-of_z w64 c.args.self.cst (search rules)) c.as_bytes.ensures.value in
    all_admitted (home_by c.args.self) (λ k e.
    let bad = (c.new.ensures.bad k).1 (same ∙ e) in
    let twice = sym bad ∙ c.in-Err-OutOfMemory.is ∙ ap Err c.in-Err-OutOfMemory.field-0-is in
    absurd (cc (twice)))
