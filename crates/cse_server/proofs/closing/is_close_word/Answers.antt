use Rattle.std.proofs.Common.{◌≡◌, ℕ, true, false, List, take, drop, sym, ap, ◌∙◌}
use Rattle.std.specs.List.{list_all}
use Rattle.std.specs.Prelude.{codes}
use Rattle.httparse.specs.Grammar.{is_ows}
use Rattle.http_frames.specs.Lines.{is_same_name}
use Rattle.cse_server.proofs.ClosingLemmas.{take-most, drop-most}
use Rattle.cse_server.proofs.closing.is_close_word.Goals as goal

pub returns-then-is_same_name : goal.returns-then-is_same_name
returns-then-is_same_name c =
    let t = c.args.text.now in
    let front : c.split_at.result.0.now ≡ take 5 t = c.split_at.ensures.front ∙ ap (λ (n : ℕ). take n t) c.min.ensures ∙ take-most t 5 in
    let back : c.split_at.result.1.now ≡ drop 5 t = c.split_at.ensures.back ∙ ap (λ (n : ℕ). drop n t) c.min.ensures ∙ drop-most t 5 in
    let named : is_same_name (take 5 t) (codes "close") ≡ true =
    ap (λ (v : List ℕ). is_same_name v (codes "close")) (sym front) ∙ sym c.is_same_name.ensures ∙ c.if-is_same_name.true in
    rw named (c.are_blank.ensures ∙ ap (list_all is_ows) back)

pub returns-else-is_same_name : goal.returns-else-is_same_name
returns-else-is_same_name c =
    let t = c.args.text.now in
    let front : c.split_at.result.0.now ≡ take 5 t = c.split_at.ensures.front ∙ ap (λ (n : ℕ). take n t) c.min.ensures ∙ take-most t 5 in
    let named : is_same_name (take 5 t) (codes "close") ≡ false =
    ap (λ (v : List ℕ). is_same_name v (codes "close")) (sym front) ∙ sym c.is_same_name.ensures ∙ c.if-is_same_name.false in
    rw named c.if-is_same_name.false
