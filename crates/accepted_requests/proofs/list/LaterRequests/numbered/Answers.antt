use Rattle.std.proofs.Common.{List, ◌==◌, ap, ◌∙◌}
use Rattle.std.specs.List.{find}
use Rattle.accepted_requests.specs.Entries.{LaterEntryData, numbered}
use Rattle.accepted_requests.proofs.list.LaterRequests.numbered.Goals as goal

pub returns : goal.returns
returns c =
    c.numbered.ensures ∙ ap (λ (es : List LaterEntryData). find (λ (e : LaterEntryData). e.number == c.args.number) es) c.deref.ensures.value
    ∙ ap (numbered c.args.number) c.self.view_is
