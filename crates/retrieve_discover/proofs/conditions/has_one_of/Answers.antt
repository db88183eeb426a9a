use Rattle.std.specs.Prelude.{option_and_then}
use Rattle.std.proofs.Common.{◌≡◌, ◌==◌, ◌||◌, ℕ, List, false, length, sym, ap, ◌∙◌}
use Rattle.std.specs.List.{list_any}
use Rattle.filter_criteria.specs.declared.filter.FilterParts.{FilterParts}
use Rattle.m2m_names.specs.declared.attributes.Attr.TheVariants.{Lbl}
use Rattle.m2m_value.specs.View.{as_list}
use Rattle.resource_model.specs.Attributes.{value_of}
use Rattle.retrieve_discover.specs.Conditions.{has_label}
use Rattle.retrieve_discover.proofs.AskedLemmas.{lists_some}
use Rattle.retrieve_discover.proofs.conditions.has_one_of.Goals as goal

pub returns-else-is_empty : goal.returns-else-is_empty
returns-else-is_empty c =
    let labels = c.args.asked.now.lbl in
    let r = c.args.resource.now in
    let same : c.entries.result.now ≡ labels = c.entries.ensures ∙ ap (λ (f : FilterParts). f.lbl) c.filter.ensures in
    let given : (length labels == 0) ≡ false = ap (λ (l : List (List ℕ)). length l == 0) (sym same) ∙ sym c.is_empty.ensures ∙ c.if-is_empty.false in
    c.has_asked_label.ensures
    ∙ lists_some labels (option_and_then as_list (value_of Lbl r.attrs))
    ∙ ap (λ b. b || list_any (has_label r) labels) (sym given)
