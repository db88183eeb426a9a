use Rattle.std.proofs.Common.{Option, Some, None, ap, sym, ◌∙◌, ◌≡◌, ℕ, IfSome}
use Rattle.m2m_names.specs.declared.types.Ty.{Ty}
use Rattle.m2m_names.specs.Ids.{id_parts, id_text}
use Rattle.m2m_names.proofs.IdLemmas.{id_parts-id_text, id_text-id_parts}
use Rattle.m2m_names.proofs.ids.read_id.Goals as goal

pub returns-clause-found : goal.returns-clause-found
returns-clause-found c = spelled c.id_of_parts.result c.id_of_parts.ensures.value
  where
    spelled : (r : Option (Ty × ℕ)) → r ≡ id_parts c.args.text.now → IfSome r (λ id. id_text id.0 id.1 ≡ c.args.text.now)
    spelled None is = tt
    spelled (Some id) is = id_text-id_parts c.args.text.now id.0 id.1 (sym is)

pub returns-clause-only : goal.returns-clause-only
returns-clause-only c ty n small is = c.id_of_parts.ensures.value ∙ ap id_parts is ∙ id_parts-id_text ty n small
