use Rattle.copy_laws.proofs.BothLemmas.{operation_takes}
use Rattle.copy_laws.proofs.LeadLemmas.{joining_operates, replacing_operates}
use Rattle.copy_laws.proofs.laws.creations_and_updates_are_operations.Goals as goal

pub returns-clause-joining : goal.returns-clause-joining
returns-clause-joining c = λ home nodes t formed new above kept each.
    joining_operates home nodes t formed new above kept each

pub returns-clause-replacing : goal.returns-clause-replacing
returns-clause-replacing c = λ home nodes r t named formed there number ty parent plain unnamed kept each.
    replacing_operates home nodes r t named formed there number ty parent plain unnamed kept each

pub returns-clause-removing : goal.returns-clause-removing
returns-clause-removing c = λ home before middle picks lead gone formed op takes.
    operation_takes home before middle picks lead gone formed op takes
