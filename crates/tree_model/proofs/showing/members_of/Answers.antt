use Rattle.std.proofs.Common.{sym, subst, ◌∙◌}
use Rattle.m2m_value.specs.Node.{HaveTextKeys}
use Rattle.tree_model.proofs.ShownLemmas.{members_named}
use Rattle.tree_model.proofs.showing.members_of.Goals as goal

pub returns-clause-keys : goal.returns-clause-keys
returns-clause-keys c = subst HaveTextKeys (sym (c.of.ensures ∙ c.in_ok-named.ensures.value)) (members_named c.args.attrs)
