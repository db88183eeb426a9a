use Rattle.std.proofs.Common.{codes, refl, sym, subst, IsUtf8}
use Rattle.m2m_names.proofs.NameLemmas.{graphic_is_utf8}
use Rattle.retrieve_discover.proofs.contents.with_references.Goals as goal

pub under_type-requires : goal.under_type-requires
under_type-requires g c = c.in_ok-put.ensures.texts c.in_ok-shown.ensures.keys (subst IsUtf8 (sym c.named.ensures) (graphic_is_utf8 (codes "ch") refl))
