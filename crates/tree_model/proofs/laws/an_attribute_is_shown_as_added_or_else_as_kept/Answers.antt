use Rattle.m2m_names.specs.declared.attributes.Attr.TheVariants.{Ri}
use Rattle.tree_model.specs.Shown.{added_rows}
use Rattle.tree_model.proofs.ShownLemmas.{shown_value, in_order-with_rows, count_shown, sizes_shown}
use Rattle.tree_model.proofs.laws.an_attribute_is_shown_as_added_or_else_as_kept.Goals as goal

pub returns-clause-value : goal.returns-clause-value
returns-clause-value c = λ home nodes r a. shown_value home nodes r a

pub returns-clause-order : goal.returns-clause-order
returns-clause-order c = λ home nodes r order. in_order-with_rows (added_rows home nodes r) r.attrs order

pub returns-clause-identifier : goal.returns-clause-identifier
returns-clause-identifier c = λ home nodes r. shown_value home nodes r Ri

pub returns-clause-count : goal.returns-clause-count
returns-clause-count c = λ home nodes r is. count_shown home nodes r is

pub returns-clause-sizes : goal.returns-clause-sizes
returns-clause-sizes c = λ home nodes r is. sizes_shown home nodes r is
