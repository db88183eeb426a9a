use Rattle.std.proofs.Common.{IsUtf8, codes, refl, sym, subst}
use Rattle.m2m_names.proofs.NameLemmas.{graphic_is_utf8}
use Rattle.subscription_match.proofs.TellingLemmas.{two_texts}
use Rattle.subscription_match.proofs.telling.event_told.Goals as goal

pub of_obj-requires : goal.of_obj-requires
of_obj-requires c =
    two_texts c.in_ok-members.members.items c.push_reserved.new.self.items c.push_reserved-2.new.self.items c.of.result c.named.result c.named-2.result c.of_num-number.result c.args.shown
    c.in_ok-members.ensures.items c.push_reserved.ensures.items c.push_reserved-2.ensures.items c.of.ensures
    (subst IsUtf8 (sym c.named.ensures) (graphic_is_utf8 (codes "net") refl))
    (subst IsUtf8 (sym c.named-2.ensures) (graphic_is_utf8 (codes "rep") refl))
