use Rattle.std.proofs.Common.{Bor, ap, sym, ◌∙◌, option_map}
use Rattle.m2m_names.specs.declared.attributes.Attr.TheVariants.{Acpi}
use Rattle.m2m_value.specs.Data.{Data}
use Rattle.m2m_value.specs.Same.{same-Decides}
use Rattle.resource_model.specs.Attributes.{value_of}
use Rattle.resource_model.specs.Resource.{ResourceData}
use Rattle.known_rights.proofs.KnownLemmas.{read_again}
use Rattle.known_rights.proofs.granting.known_by_last.Goals as goal

pub returns-then-eq : goal.returns-then-eq
returns-then-eq g c =
    let number = sym c.get.ensures.value ∙ ap (option_map (λ (r : Bor ResourceData). r.now)) c.in_ok-get.was in
    let value = ap (value_of Acpi) (sym c.attrs.ensures) ∙ sym c.get-2.ensures ∙ ap (option_map (λ (v : Bor Data). v.now)) c.in_ok-last.was in
    let one = (same-Decides c.in_ok-last.last.now c.args.acpi.now).0 (sym c.eq.ensures ∙ c.if-eq.true) in
    read_again c.args.asker.now.home (g.T.Tree.nodes c.args.tree.now) c.args.asker.now.originator c.args.known.now.last c.in_ok-read.read c.in_ok-get.field-0.now c.in_ok-last.last.now c.args.acpi.now c.requires.known.last c.in_ok-read.was number value one
