use Rattle.std.proofs.Common.{◌≡◌, ◌-◌, [], None, cond, refl, ap, option_map, sym, ◌∙◌, arith}
use Rattle.std.proofs.lemmas.Bool.{eq-eqb}
use Rattle.resource_model.specs.Resource.{has_number}
use Rattle.tree_model.specs.Tree.{at, children_of, without}
use Rattle.resource_store.specs.KinRows.{row_of}
use Rattle.resource_store.specs.Slots.{held}
use Rattle.resource_store.specs.Store.{resources_of}
use Rattle.resource_store.proofs.StoreLemmas.{count_left, found_at, none_left, none_removed, removed_store, removed_view, row_missing, row_there}
use Rattle.resource_store.proofs.store.Store.remove_leaf.Goals as goal

pub overflow_sub-self : goal.overflow_sub-self
overflow_sub-self c =
    let was = row_there (held c.self.inside.resources.table c.args.number) c.in_ok-row.row c.in_ok-row.ensures.row in
    let more = count_left (held c.self.inside.resources.table) (held c.take_out.new.self.table) c.self.inside.order.items c.self.inside.count c.args.number was.0 c.self.invariant.store c.take_out.ensures.left was.1 in
    omega (arith, more)

pub let_gaps_go-requires : goal.let_gaps_go-requires
let_gaps_go-requires c =
    c.take_out.ensures.left c.args.number
    ∙ ap (λ b. cond b None (held c.self.inside.resources.table c.args.number)) (eq-eqb c.args.number c.args.number refl)

pub invariant_of-self : goal.invariant_of-self
invariant_of-self c =
    none_left (held c.self.inside.resources.table) (held c.take_out.new.self.table) c.self.inside.order.items c.self.inside.count c.args.number c.self.invariant c.take_out.ensures.left (row_missing (held c.self.inside.resources.table c.args.number) c.in_err-row.ensures.row)

pub invariant_of-self-2 : goal.invariant_of-self-2
invariant_of-self-2 c =
    let was = row_there (held c.self.inside.resources.table c.args.number) c.in_ok-row.row c.in_ok-row.ensures.row in
    let more = count_left (held c.self.inside.resources.table) (held c.take_out.new.self.table) c.self.inside.order.items c.self.inside.count c.args.number was.0 c.self.invariant.store c.take_out.ensures.left was.1 in
    let alone : children_of c.args.number (resources_of c.self.inside.order.items (held c.self.inside.resources.table)) ≡ [] = ap (children_of c.args.number) c.self.view_is ∙ c.requires in
    removed_store (held c.self.inside.resources.table) (held c.take_out.new.self.table) c.self.inside.order.items c.let_gaps_go.new.order.items c.self.inside.count c.args.number (c.self.inside.count - 1) c.self.invariant c.take_out.ensures.left alone was.0 was.1 (omega (arith, more)) c.let_gaps_go.ensures

pub returns-clause-value : goal.returns-clause-value
returns-clause-value c =
    let alone : children_of c.args.number (resources_of c.self.inside.order.items (held c.self.inside.resources.table)) ≡ [] = ap (children_of c.args.number) c.self.view_is ∙ c.requires in
    removed_view (held c.self.inside.resources.table) (held c.take_out.new.self.table) c.self.inside.order.items c.let_gaps_go.new.order.items c.self.inside.count c.args.number (c.self.inside.count - 1) c.self.invariant c.take_out.ensures.left alone c.let_gaps_go.ensures
    ∙ ap (without (has_number c.args.number)) c.self.view_is

pub returns-clause-row : goal.returns-clause-row
returns-clause-row c =
    c.in_ok-row.ensures.row
    ∙ ap (option_map row_of) (sym (found_at (held c.self.inside.resources.table) c.args.number c.self.invariant.store.numbered c.self.inside.order.items c.self.invariant.store.listed) ∙ ap (at c.args.number) c.self.view_is)

pub returns-in_err-row-clause-value : goal.returns-in_err-row-clause-value
returns-in_err-row-clause-value c =
    none_removed (held c.self.inside.resources.table) (held c.take_out.new.self.table) c.self.inside.order.items c.self.inside.count c.args.number c.self.invariant c.take_out.ensures.left (ap (children_of c.args.number) c.self.view_is ∙ c.requires)
    ∙ ap (without (has_number c.args.number)) c.self.view_is

pub returns-in_err-row-clause-row : goal.returns-in_err-row-clause-row
returns-in_err-row-clause-row c =
    c.from_residual.ensures
    ∙ c.in_err-row.ensures.row
    ∙ ap (option_map row_of) (sym (found_at (held c.self.inside.resources.table) c.args.number c.self.invariant.store.numbered c.self.inside.order.items c.self.invariant.store.listed) ∙ ap (at c.args.number) c.self.view_is)
