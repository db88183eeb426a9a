use Rattle.std.proofs.Common.{Bool, sym, ap, ◌∙◌}
use Rattle.accepted_requests.specs.Entries.{LaterEntryData}
use Rattle.accepted_requests.specs.Kept.{reply_kept}
use Rattle.accepted_requests.proofs.entry.LaterEntry.reply.Goals as goal

pub returns-then-self : goal.returns-then-self
returns-then-self c =
    ap (λ (b : Bool). reply_kept b c.self.inside.reply) (sym c.if-self.true) ∙ ap (λ (e : LaterEntryData). e.reply) c.self.view_is

pub returns-else-self : goal.returns-else-self
returns-else-self c =
    ap (λ (b : Bool). reply_kept b c.self.inside.reply) (sym c.if-self.false) ∙ ap (λ (e : LaterEntryData). e.reply) c.self.view_is
