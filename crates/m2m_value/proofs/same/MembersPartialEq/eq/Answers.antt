use Rattle.std.proofs.Common.{sym, ◌∙◌, ap₂}
use Rattle.m2m_value.specs.Same.{same_members, same_members-Decides}
use Rattle.m2m_value.proofs.same.MembersPartialEq.eq.Goals as goal

pub returns-clause-means : goal.returns-clause-means
returns-clause-means c =
    let decides = same_members-Decides c.args.self.now c.args.other.now in
    let is = c.are_same_members.ensures ∙ ap₂ same_members c.entries.ensures.all c.entries-2.ensures.all in
    (λ h. decides.0 (sym is ∙ h), λ e. is ∙ decides.1 e)
