use Rattle.std.proofs.Common.{◌≡◌, ◌<◌, ℕ, length, Some, None, Option, OnSome, ap, sym, ◌∙◌, subst, arith, refl, List}
use Rattle.std.proofs.lemmas.Option.{slice_get_within}
use Rattle.std.specs.List.{slice_get}
use Rattle.tree_model.specs.Tree.{DoAscend}
use Rattle.resource_tree.specs.Queue.{without_number}
use Rattle.resource_tree.proofs.QueueLemmas.{last_out, left_ascend, placed_out}
use Rattle.resource_tree.proofs.queue.Queue.remove.Goals as goal

on_some : (o : Option ℕ) (x : ℕ) (P : Type 0) → o ≡ Some x → OnSome o P → P
on_some None x P is h = cc
on_some (Some y) x P is h = h

pub returns-then-is_at : goal.returns-then-is_at
returns-then-is_at c =
    let numbers = c.self.inside.numbers.items in
    let there : slice_get numbers c.saturating_sub-last.result ≡ Some c.args.number = subst (λ (ns : List ℕ). slice_get ns c.saturating_sub-last.result ≡ Some c.args.number) (sym c.self.view_is) (c.if-is_at.ensures refl) in
    let inside : c.saturating_sub-last.result < length numbers = slice_get_within numbers c.saturating_sub-last.result c.args.number there in
    c.pop_back-last.ensures.rest
    ∙ last_out c.args.number numbers c.saturating_sub-last.result _ c.self.invariant there (omega (arith, c.saturating_sub-last.ensures), omega (arith, inside, c.saturating_sub-last.ensures, c.self.inside.numbers.ok.0))
    ∙ ap (without_number c.args.number) c.self.view_is

pub invariant_of-self : goal.invariant_of-self
invariant_of-self c =
    let numbers = c.self.inside.numbers.items in
    let there : slice_get numbers c.saturating_sub-last.result ≡ Some c.args.number = subst (λ (ns : List ℕ). slice_get ns c.saturating_sub-last.result ≡ Some c.args.number) (sym c.self.view_is) (c.if-is_at.ensures refl) in
    let inside : c.saturating_sub-last.result < length numbers = slice_get_within numbers c.saturating_sub-last.result c.args.number there in
    let is : c.pop_back-last.new.self.items ≡ without_number c.args.number numbers = c.pop_back-last.ensures.rest ∙ last_out c.args.number numbers c.saturating_sub-last.result _ c.self.invariant there (omega (arith, c.saturating_sub-last.ensures), omega (arith, inside, c.saturating_sub-last.ensures, c.self.inside.numbers.ok.0)) in
    subst DoAscend (sym is) (left_ascend c.args.number numbers c.self.invariant)

pub returns-in-Some : goal.returns-in-Some
returns-in-Some c =
    let numbers = c.self.inside.numbers.items in
    let there : slice_get numbers c.in-Some.at ≡ Some c.args.number = subst (λ (ns : List ℕ). slice_get ns c.in-Some.at ≡ Some c.args.number) (sym c.self.view_is) c.in-Some.ensures in
    let inside : c.in-Some.at < length numbers = slice_get_within numbers c.in-Some.at c.args.number there in
    on_some c.remove-gone.result _ _ (c.remove-gone.ensures.succeeds 0 (omega (arith, inside, c.self.inside.numbers.ok.0))) c.remove-gone.ensures.items
    ∙ placed_out c.args.number numbers c.in-Some.at c.self.invariant there
    ∙ ap (without_number c.args.number) c.self.view_is

pub invariant_of-self-in-Some : goal.invariant_of-self-in-Some
invariant_of-self-in-Some c =
    let numbers = c.self.inside.numbers.items in
    let there : slice_get numbers c.in-Some.at ≡ Some c.args.number = subst (λ (ns : List ℕ). slice_get ns c.in-Some.at ≡ Some c.args.number) (sym c.self.view_is) c.in-Some.ensures in
    let inside : c.in-Some.at < length numbers = slice_get_within numbers c.in-Some.at c.args.number there in
    let is : c.remove-gone.new.self.items ≡ without_number c.args.number numbers = on_some c.remove-gone.result _ _ (c.remove-gone.ensures.succeeds 0 (omega (arith, inside, c.self.inside.numbers.ok.0))) c.remove-gone.ensures.items ∙ placed_out c.args.number numbers c.in-Some.at c.self.invariant there in
    subst DoAscend (sym is) (left_ascend c.args.number numbers c.self.invariant)
