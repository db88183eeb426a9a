use Rattle.std.proofs.Common.{rules, ◌≡◌, ◌≤◌, true, Ok, sym, ◌∙◌, subst}
use Rattle.std.proofs.lemmas.Bool.{leb-true}
use Rattle.m2m_value.specs.Data.{Data, depth}
use Rattle.m2m_value.specs.Reading.{reading, reading_depth}
use Rattle.m2m_value.specs.Spelling.{text_of}
use Rattle.entity_lines.proofs.WrittenLemmas.{resource_spells}
use Rattle.entity_lines.proofs.resources.push_resource.Goals as goal

pub returns-clause-spells : goal.returns-clause-spells
returns-clause-spells c =
    let value = c.in_ok-value.value in
    let held : c.is_within.result ≡ true = search rules in
    let within : depth value ≤ reading_depth = leb-true _ _ (sym c.is_within.ensures ∙ held) in
    let back = subst (λ (d : Data). reading (text_of d) ≡ Ok d) c.in_ok-value.ensures.value (c.in_ok-push_value.ensures.reads_back within) in
    resource_spells c.args.resource.now back c.in_ok-value.ensures.back
