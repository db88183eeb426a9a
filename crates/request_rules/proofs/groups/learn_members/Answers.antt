use Rattle.std.proofs.Common.{◌≡◌, ◌++◌, ◌∷◌, ◌&&◌, ◌||◌, ℕ, List, map, IsUtf8, sym, ap, ◌∙◌, subst, arith}
use Rattle.std.proofs.lemmas.Grind.{common_steps}
use Rattle.std.specs.List.{AllByRecursion, list_all, list_any}
use Rattle.std.specs.Vec.Iter.{into_iter_items}
use Rattle.m2m_value.specs.Data.{text}
use Rattle.request_rules.specs.Groups.{MembershipData, is_live_member, is_of_other_type, kept_among, membership_of}
use Rattle.request_rules.proofs.GroupLemmas.{any_other, kept_live, kept_values}
use Rattle.request_rules.proofs.groups.learn_members.Goals as goal

pub loop-address-preserved : goal.loop-address-preserved
loop-address-preserved g c =
    let e = c.args.entity.now in
    let m : MembershipData = membership_of c.args.members in
    let l = c.loop-address in
    let one : List ℕ = c.in-Some.address in
    let rest = into_iter_items c.next.new.self in
    let step : into_iter_items l.address-iterator ≡ one ∷ rest = grind (arith, common_steps) in
    let utf8 : AllByRecursion IsUtf8 (one ∷ rest) = subst (AllByRecursion IsUtf8) step l.invariant.utf8 in
    record {
      kept =
          kept_values e m one rest l.known.kept.items _ c.in_ok-learn_member.ensures.kept
          ∙ ap (λ (xs : List (List ℕ)). l.known.kept.items ++ map text (kept_among e m xs)) (sym step) ∙ l.invariant.kept;
      other =
          any_other (is_of_other_type e m.of_type) one rest l.known.has_other _ c.in_ok-learn_member.ensures.other
          ∙ ap (λ (xs : List (List ℕ)). l.known.has_other || list_any (is_of_other_type e m.of_type) xs) (sym step) ∙ l.invariant.other;
      live =
          kept_live e m one rest l.known.are_live _ c.in_ok-learn_member.ensures.live
          ∙ ap (λ (xs : List (List ℕ)). l.known.are_live && list_all (is_live_member e) (kept_among e m xs)) (sym step) ∙ l.invariant.live;
      utf8 = utf8.1;
    }
