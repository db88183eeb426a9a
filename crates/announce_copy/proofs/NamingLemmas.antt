-- The parts of addresses are UTF-8.
use Rattle.std.proofs.Common.{IsUtf8, codes, refl}
use Rattle.m2m_names.proofs.NameLemmas.{graphic_is_utf8}

-- the mark behind a resource id, and what stands between the parts of a path
pub mark_utf8 : IsUtf8 (codes "A")
mark_utf8 = graphic_is_utf8 (codes "A") refl

pub slash_utf8 : IsUtf8 (codes "/")
slash_utf8 = graphic_is_utf8 (codes "/") refl

pub base_utf8 : IsUtf8 (codes "/-/")
base_utf8 = graphic_is_utf8 (codes "/-/") refl
