use Rattle.std.proofs.Common.{◌≡◌, List, Option, Some, option_map, ap, ◌∙◌}
use Rattle.m2m_names.specs.declared.attributes.Attr.TheVariants.{Mia}
use Rattle.resource_model.specs.Attributes.{count_at}
use Rattle.resource_model.specs.Resource.{ResourceData}
use Rattle.tree_model.specs.Tree.{at, age_of, due, lesser, lowered_age, are_quiet, standing}
use Rattle.tree_model.proofs.QuietLemmas.{age_after, quiet-replaced}
use Rattle.plain_tree.proofs.list_tree.ListTreeTree.replace.Goals as goal

pub invariant_of-self : goal.invariant_of-self
invariant_of-self c =
    let nodes = c.self.inside.nodes in
    let own = lesser c.self.inside.quiet (due nodes c.args.resource) in
    let after = age_after nodes c.args.resource in
    let stood : option_map standing (at c.args.resource.number nodes) ≡ Some (standing c.args.resource) = ap (λ (ns : List ResourceData). option_map standing (at c.args.resource.number ns)) c.self.view_is ∙ c.requires in
    let age : c.lowered_age.result ≡ after =
    c.lowered_age.ensures
    ∙ ap (λ (o : Option ResourceData). lowered_age (age_of o) (count_at Mia c.args.resource.attrs)) (c.look_up-old.ensures.value ∙ ap (λ n. at n nodes) c.number.ensures.value) in
    ap (λ quiet. are_quiet quiet c.replace.new.self)
    (c.earlier-self-inside.ensures
    ∙ ap (λ quiet. lesser quiet c.lowered_age.result) (c.earlier-own.ensures ∙ ap (lesser c.self.inside.quiet) c.due.ensures.value)
    ∙ ap (lesser own) age)
    ∙ ap (are_quiet (lesser own after)) c.replace.ensures
    ∙ quiet-replaced nodes c.args.resource c.self.inside.quiet c.due.ensures.tree stood c.self.invariant
