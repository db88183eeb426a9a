use Rattle.std.proofs.Common.{Option, Some, None, ap, sym, ◌∙◌, ◌≡◌, ℕ, IfSome}
use Rattle.std.specs.Fmt.{decimal}
use Rattle.m2m_names.specs.Ids.{number_written}
use Rattle.m2m_names.proofs.IdLemmas.{number_written-decimal, decimal-number_written}
use Rattle.m2m_names.proofs.ids.read_digits.Goals as goal

pub returns-clause-found : goal.returns-clause-found
returns-clause-found c = spelled c.number_written.result c.number_written.ensures.value
  where
    spelled : (r : Option ℕ) → r ≡ number_written c.args.text.now → IfSome r (λ n. decimal n ≡ c.args.text.now)
    spelled None is = tt
    spelled (Some n) is = decimal-number_written c.args.text.now n (sym is)

pub returns-clause-only : goal.returns-clause-only
returns-clause-only c n small is = c.number_written.ensures.value ∙ ap number_written is ∙ number_written-decimal n small
