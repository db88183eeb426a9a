use Rattle.std.specs.Prelude.{get_or}
use Rattle.std.proofs.Common.{◌≡◌, ℕ, ◌∷◌, ◌++◌, ◌+◌, [], List, Bor, drop, map, ◌∙◌, ap, arith}
use Rattle.std.proofs.lemmas.List.{drop_more}
use Rattle.group_fanout.proofs.MemberLemmas.{names_on, text_on, written_on}
use Rattle.group_fanout.proofs.members.with_rest.Goals as goal

-- a part more is written
pub loop-part-preserved : goal.loop-part-preserved
loop-part-preserved c =
    let parts : List (Bor (List ℕ)) = c.entries-parts.result.now in
    let k = c.loop-part.part-index in
    let none : Bor (List ℕ) = record { ref_ptr = (0, 0); now = [] } in
    let part = (get_or parts k none).now in
    let left = map (λ (p : Bor (List ℕ)). p.now) (drop k parts) in
    let more = map (λ (p : Bor (List ℕ)). p.now) (drop (k + 1) parts) in
    let is : left ≡ part ∷ more =
    ap (map (λ (p : Bor (List ℕ)). p.now)) (drop_more parts k none (omega (arith, c.loop-part-test.true))) in
    let text : c.extend_from_slice.new.self.items ≡ (c.loop-part.address.items ++ 47 ∷ []) ++ part =
    c.in_ok-extend_from_slice.ensures.items ∙ ap (λ (t : List ℕ). t ++ part) c.in_ok-push.ensures.items in
    record {
      whole = written_on _ _ _ _ left more is text c.loop-part.invariant.whole;
      text = text_on _ _ _ left more is text c.loop-part.invariant.text c.loop-part.invariant.names;
      names = names_on _ left more is c.loop-part.invariant.names;
    }
