use Rattle.std.proofs.Common.{◌≡◌, ◌<◌, ◌++◌, ap, sym, ◌∙◌, subst, arith}
use Rattle.resource_model.specs.Home.{HomeData}
use Rattle.m2m_names.specs.Ids.{count_bound}
use Rattle.entity_lines.specs.Heads.{SpellsHead, head_line}
use Rattle.entity_lines.specs.declared.heads.Head.{Head}
use Rattle.entity_model.specs.Entity.{EntityData}
use Rattle.entity_snapshot.proofs.writing.push_first.Goals as goal

pub returns-then-head-gt-LARGEST_COUNT-clause-unkept : goal.returns-then-head-gt-LARGEST_COUNT-clause-unkept
returns-then-head-gt-LARGEST_COUNT-clause-unkept g c = λ fault. omega (arith, c.if-head-gt-LARGEST_COUNT.true, ap (λ (h : Head). h.items) c.head_of-head.ensures.value)

pub push_head-requires-clause-next : goal.push_head-requires-clause-next
push_head-requires-clause-next g c = subst (λ (h : Head). h.next < count_bound) (sym c.head_of-head.ensures.value) (omega (arith, c.head_of-head.ensures.sound.next))

pub push_head-requires-clause-last : goal.push_head-requires-clause-last
push_head-requires-clause-last g c = subst (λ (h : Head). h.last < count_bound) (sym c.head_of-head.ensures.value) (omega (arith, c.head_of-head.ensures.sound.last))

pub push_head-requires-clause-numbered : goal.push_head-requires-clause-numbered
push_head-requires-clause-numbered g c = subst (λ (h : Head). h.numbered < count_bound) (sym c.head_of-head.ensures.value) (omega (arith, c.head_of-head.ensures.most))

pub push_head-requires-clause-resources : goal.push_head-requires-clause-resources
push_head-requires-clause-resources g c = subst (λ (h : Head). h.resources < count_bound) (sym c.head_of-head.ensures.value) (omega (arith, c.head_of-head.ensures.sound.count))

pub returns-clause-written : goal.returns-clause-written
returns-clause-written g c =
    c.in_ok-push_head.ensures.written
    ∙ ap (λ (h : HomeData). c.args.text.now.items ++ head_line h c.head_of-head.result) (ap (λ (e : EntityData). e.home) c.entity.view_is)
    ∙ ap (λ (h : Head). c.args.text.now.items ++ head_line c.args.entity.now.home h) c.head_of-head.ensures.value

pub returns-clause-spells : goal.returns-clause-spells
returns-clause-spells g c =
    subst (λ (h : Head). SpellsHead c.args.entity.now.home h (head_line c.args.entity.now.home h)) c.head_of-head.ensures.value
    (subst (λ (h : HomeData). SpellsHead h c.head_of-head.result (head_line h c.head_of-head.result)) (ap (λ (e : EntityData). e.home) c.entity.view_is) c.in_ok-push_head.ensures.spells)
