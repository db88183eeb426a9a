-- How the logic stores operations on copies: as nested pairs.
use Rattle.std.specs.Prelude.{ℕ, List, Option, refl}
use Rattle.std.specs.Coded.{Coded, code_by, coded×, coded_ℕ, coded_list, coded_option}
use Rattle.m2m_names.specs.contracts.operations.Op as op
use Rattle.m2m_names.specs.contracts.types.Ty as ty
use Rattle.m2m_names.specs.declared.operations.Op.{Op}
use Rattle.m2m_names.specs.declared.types.Ty.{Ty}
use Rattle.m2m_value.specs.Code.{data_code}
use Rattle.m2m_value.specs.Data.{Data}
use Rattle.announce_copy.specs.Copies.{CopyDraft}

abbrev DraftParts : Type 0
DraftParts = Op × (List ℕ × (Option Ty × Option Data))

abbrev draft_parts : CopyDraft → DraftParts
draft_parts d = (d.0, (d.1, (d.2, d.3)))

abbrev of_draft_parts : DraftParts → CopyDraft
of_draft_parts p = (p.0, p.1.0, p.1.1.0, p.1.1.1)

-- An operation on a copy is stored as nested pairs of its four parts, which give it back unchanged.
abbrev pub draft_code : Coded CopyDraft
draft_code =
    code_by DraftParts
    (coded× op.the_row.coded
    (coded× (coded_list coded_ℕ)
    (coded× (coded_option ty.the_row.coded) (coded_option data_code))))
    draft_parts of_draft_parts (λ _. refl)

abbrev pub drafts_code : Coded (List CopyDraft)
drafts_code = coded_list draft_code
