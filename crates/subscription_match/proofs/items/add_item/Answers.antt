use Rattle.std.proofs.Common.{IsUtf8, sym, ◌∙◌, subst, rules}
use Rattle.subscription_match.proofs.items.add_item.Goals as goal

pub of-request-requires : goal.of-request-requires
of-request-requires g c = record {
  to = c.into_parts-draft.ensures.utf8;
  fr = c.in_ok-fr.ensures.utf8;
  rqi = subst IsUtf8 (sym (c.of.ensures ∙ c.new.ensures.items)) (search rules);
  rqet = tt;
}
