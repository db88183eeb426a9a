use Rattle.std.proofs.Common.{List, Option, false, ap, sym, ◌∙◌}
use Rattle.std.specs.Option.{option_map_or}
use Rattle.m2m_value.specs.Data.{Entry}
use Rattle.m2m_value.specs.Same.{same_members}
use Rattle.sight_compare.specs.StandIns.{plain_rule_members}
use Rattle.sight_compare.proofs.StandInLemmas.{same_object}
use Rattle.sight_compare.proofs.stand_ins.is_plain_rule.Goals as goal

pub returns-in-Some : goal.returns-in-Some
returns-in-Some c =
    let wanted = plain_rule_members c.args.bits in
    c.are_of_plain_rule.ensures ∙ ap (λ (ms : List Entry). same_members ms wanted) c.entries.ensures.all
    ∙ ap (λ (ms : Option (List Entry)). option_map_or (λ (own : List Entry). same_members own wanted) ms false) c.in-Some.ensures.value
    ∙ sym (same_object c.args.value.now wanted)
