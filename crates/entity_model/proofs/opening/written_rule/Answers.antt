use Rattle.std.proofs.Common.{◌≡◌, rules, ◌∙◌}
use Rattle.entity_model.proofs.WrittenLemmas.{rule_members, rule_sorted, rule_named}
use Rattle.entity_model.proofs.opening.written_rule.Goals as goal

pub of-requires : goal.of-requires
of-requires c =
    let is : c.push-2.new.self.items ≡ rule_members c.of_num.result c.in_ok-list_of.field-0 = search rules in
    rule_sorted _ _ _ is

pub of_obj-requires : goal.of_obj-requires
of_obj-requires c =
    let is : c.push-2.new.self.items ≡ rule_members c.of_num.result c.in_ok-list_of.field-0 = search rules in
    rule_named _ _ _ (c.of.ensures ∙ is)
