use Rattle.std.proofs.Common.{List, ℕ, Some, cond, ap, ◌∙◌}
use Rattle.std.specs.Str.{bytes_eq}
use Rattle.resource_names.specs.Names.{number_by}
use Rattle.resource_names.proofs.NameLemmas.{key_bytes, updated}
use Rattle.resource_names.proofs.names.Names.add.Goals as goal

pub returns-clause-ok : goal.returns-clause-ok
returns-clause-ok c other =
    updated key_bytes c.in_ok-name.name.items c.args.self.now.numbers c.insert.new.self (Some c.args.number) c.in_ok-insert.ensures.updates other
    ∙ ap (λ (bs : List ℕ). cond (bytes_eq bs other) (Some c.args.number) (number_by other c.args.self.now)) c.in_ok-name.ensures.items
