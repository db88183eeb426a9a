use Rattle.std.proofs.Common.{IsUtf8, codes, refl, rules, sym, subst}
use Rattle.m2m_names.proofs.NameLemmas.{graphic_is_utf8}
use Rattle.made_input.proofs.requests.asked.Goals as goal

pub of-requires : goal.of-requires
of-requires c = record {
  to = c.requires.target;
  fr = subst IsUtf8 (sym c.requires.maker.0) (graphic_is_utf8 (codes "CGen") refl);
  rqi = subst IsUtf8 (sym c.requires.maker.1) (graphic_is_utf8 (codes "q") refl);
  rqet = search rules;
}
