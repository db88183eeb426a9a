use Rattle.std.proofs.Common.{sym, ◌∙◌}
use Rattle.command_words.proofs.line.said_behind.Goals as goal

-- the first word is no command's name
pub returns-else-eq-6 : goal.returns-else-eq-6
returns-else-eq-6 c =
    rw (sym c.eq.ensures ∙ c.if-eq.false, sym c.eq-else-eq.ensures ∙ c.if-eq-2.false, sym c.eq-else-eq-2.ensures ∙ c.if-eq-3.false, sym c.eq-else-eq-3.ensures ∙ c.if-eq-4.false, sym c.eq-else-eq-4.ensures ∙ c.if-eq-5.false, sym c.eq-else-eq-5.ensures ∙ c.if-eq-6.false) c.said_of_itself.ensures
