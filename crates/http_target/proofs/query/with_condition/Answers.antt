use Rattle.std.proofs.Common.{◌≡◌, IfOk, ap, sym, subst, ◌∙◌}
use Rattle.filter_criteria.specs.Conditions.{filter_field, sort_of_condition}
use Rattle.filter_criteria.specs.declared.condition.Condition.{Condition}
use Rattle.http_target.specs.Queries.{numbered, with_condition}
use Rattle.http_target.proofs.QueryLemmas.{count_text, label_is, moment_text, type_is, usage_is}
use Rattle.http_target.proofs.query.with_condition.Goals as goal

pub returns-in-Moment : goal.returns-in-Moment
returns-in-Moment c =
    c.with_number.ensures
    ∙ ap (λ n. numbered (sort_of_condition c.args.condition) (filter_field c.args.condition) n c.args.parts) c.read_stamp.ensures.value
    ∙ moment_text (sort_of_condition c.args.condition) (filter_field c.args.condition) c.args.text.now c.args.parts (sym c.in-Moment.ensures)

pub returns-in-Count : goal.returns-in-Count
returns-in-Count c =
    c.with_number-in-Count.ensures
    ∙ ap (λ n. numbered (sort_of_condition c.args.condition) (filter_field c.args.condition) n c.args.parts) c.number_spelled.ensures.value
    ∙ count_text (sort_of_condition c.args.condition) (filter_field c.args.condition) c.args.text.now c.args.parts (sym c.in-Count.ensures)

pub returns-in-Use : goal.returns-in-Use
returns-in-Use c =
    c.with_usage.ensures ∙ ap (λ (k : Condition). with_condition k c.args.text.now c.args.parts) (sym (usage_is c.args.condition (sym c.in-Use.ensures)))

pub returns-in-Labels : goal.returns-in-Labels
returns-in-Labels c =
    subst (λ (k : Condition). IfOk c.with_label_text.result (λ said. said ≡ with_condition k c.args.text.now c.args.parts)) (sym (label_is c.args.condition (sym c.in-Labels.ensures))) c.with_label_text.ensures

pub returns-in-Types : goal.returns-in-Types
returns-in-Types c =
    subst (λ (k : Condition). IfOk c.with_type_text.result (λ said. said ≡ with_condition k c.args.text.now c.args.parts)) (sym (type_is c.args.condition (sym c.in-Types.ensures))) c.with_type_text.ensures
