use Rattle.std.proofs.Common.{◌≡◌, [], ◌∷◌, ◌++◌, IsUtf8, ap, sym, ◌∙◌, subst}
use Rattle.std.proofs.lemmas.Result.{on_ok_weaker}
use Rattle.m2m_names.specs.Types.{ty_member}
use Rattle.m2m_value.specs.Data.{elements_of, list}
use Rattle.retrieve_discover.proofs.MemberLemmas.{listed_last, taken_texts}
use Rattle.retrieve_discover.proofs.descendants.add_last.Goals as goal

pub returns-clause-value : goal.returns-clause-value
returns-clause-value c =
    let named : c.named-key.result ≡ ty_member c.args.ty = c.named-key.ensures ∙ c.member.ensures in
    on_ok_weaker c.put.result (listed_last c.take.result c.named-key.result c.entries.result.now (ty_member c.args.ty) c.args.object c.of_list.result c.push.new.self.items c.args.members.now c.take.new.self c.put.new.self
    named c.entries.ensures c.take.ensures.value (c.in_ok-push.ensures.items ∙ ap (λ ds. ds ++ c.args.object ∷ []) c.in_ok-objects.ensures) (c.of_list.ensures ∙ ap (λ ds. list (elements_of ds)) c.of.ensures) c.take.ensures.taken c.take.ensures.absent) c.put.ensures.ok

pub returns-clause-keys : goal.returns-clause-keys
returns-clause-keys c =
    let key : IsUtf8 c.named-key.result = subst IsUtf8 (sym c.named-key.ensures) c.member.utf8 in
    let at : IsUtf8 c.entries.result.now = subst IsUtf8 (sym c.entries.ensures) key in
    on_ok_weaker c.put.result (λ kept texts. kept (taken_texts c.take.result c.entries.result.now c.args.members.now c.take.new.self at c.take.ensures.taken c.take.ensures.absent texts) key) c.put.ensures.texts
