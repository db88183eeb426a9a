use Rattle.std.proofs.Common.{IsUtf8, codes, refl, sym, ◌∙◌, subst}
use Rattle.m2m_names.proofs.NameLemmas.{graphic_is_utf8}
use Rattle.subscription_match.proofs.TellingLemmas.{two_texts}
use Rattle.create_delete.proofs.TellingLemmas.{type_utf8}
use Rattle.create_delete.proofs.telling.object_with_address.Goals as goal

pub of_obj-requires : goal.of_obj-requires
of_obj-requires c =
    two_texts c.in_ok-members.members.items c.push.new.self.items c.push-2.new.self.items c.of.result
    c.named.result c.named-2.result c.args.attributes c.args.address
    c.in_ok-members.ensures.items c.in_ok-push.ensures.items c.in_ok-push-2.ensures.items c.of.ensures
    (subst IsUtf8 (sym (c.named.ensures ∙ c.member.ensures)) (type_utf8 c.args.ty))
    (subst IsUtf8 (sym c.named-2.ensures) (graphic_is_utf8 (codes "uri") refl))
